-- The words of a header one after the other.
use Rattle.std.proofs.Common.{◌≡◌, ℕ, ◌+◌, ◌≤◌, ◌&&◌, cond, Bool, true, false, Some, List, [], ◌∷◌, ◌++◌, map, take, length, slice_get, refl, sym, ap, ◌∙◌, arith}
use Rattle.std.specs.Prelude.{ℤ, Ok, Err}
use Rattle.std.specs.List.{list_all}
use Rattle.std.specs.Str.Parse.{signed_digits_value}
use Rattle.std.proofs.lemmas.List.{map-append, take_all, length-map, length-take}
use Rattle.text_scan.specs.Numbers.{is_whole, whole_of}
use Rattle.text_scan.specs.declared.faults.NumberFault.{NumberFault}
use Rattle.text_scan.specs.declared.faults.NumberFault.TheVariants.{BadNumber}
use Rattle.tet_reader.proofs.WordLists.{take_more, parted}

-- a test of all of two lists one after the other
all_append : {A : Type 0} (p : A → Bool) (xs ys : List A) → list_all p (xs ++ ys) ≡ (list_all p xs && list_all p ys)
all_append p [] ys = refl
all_append p (x ∷ xs) ys = go (p x) (all_append p xs ys)
  where
    go : (b : Bool) → list_all p (xs ++ ys) ≡ (list_all p xs && list_all p ys) → (b && list_all p (xs ++ ys)) ≡ ((b && list_all p xs) && list_all p ys)
    go true e = e
    go false e = refl

-- what a word was read as says whether it is whole
is_one : (word : List ℕ) (z : ℤ) → whole_of word ≡ Ok z → (is_whole word ≡ true) × (signed_digits_value 10 word ≡ z)
is_one word z e = go (is_whole word) e
  where
    go : (b : Bool) → cond b (Ok (signed_digits_value 10 word)) (Err BadNumber) ≡ Ok z → (b ≡ true) × (signed_digits_value 10 word ≡ z)
    go true e = (refl, cc)
    go false e = cc

is_none : (word : List ℕ) (fault : NumberFault) → whole_of word ≡ Err fault → is_whole word ≡ false
is_none word fault e = go (is_whole word) e
  where
    go : (b : Bool) → cond b (Ok (signed_digits_value 10 word)) (Err BadNumber) ≡ Err fault → b ≡ false
    go true e = cc
    go false e = refl

-- The words before a place are whole, and these are their numbers.
pub record AreWhole (words : List (List ℕ)) (numbers : List ℤ) (place : ℕ) : Type 0 where
  pub pass : list_all is_whole (take place words) ≡ true
  pub are : numbers ≡ map (signed_digits_value 10) (take place words)

pub none_whole : (words : List (List ℕ)) (numbers : List ℤ) → numbers ≡ [] → AreWhole words numbers 0
none_whole words numbers e = record { pass = refl; are = e }

pub count_whole : (words : List (List ℕ)) (numbers : List ℤ) (place : ℕ) → AreWhole words numbers place → length numbers ≤ place
count_whole words numbers place h =
    omega (arith, ap length h.are, length-map (take place words) (signed_digits_value 10), length-take place words)

pub whole_read : (words : List (List ℕ)) (numbers : List ℤ) (place : ℕ) (word : List ℕ) (z : ℤ) → AreWhole words numbers place
    → slice_get words place ≡ Some word → whole_of word ≡ Ok z → AreWhole words (numbers ++ z ∷ []) (place + 1)
whole_read words numbers place word z h at e =
    let one = is_one word z e in
    let more = take_more words place word at in
    let tests : list_all is_whole (take (place + 1) words) ≡ (list_all is_whole (take place words) && (is_whole word && true)) =
    ap (list_all is_whole) more ∙ all_append is_whole (take place words) (word ∷ []) in
    let values : map (signed_digits_value 10) (take (place + 1) words) ≡ map (signed_digits_value 10) (take place words) ++ signed_digits_value 10 word ∷ [] =
    ap (map (signed_digits_value 10)) more ∙ map-append (signed_digits_value 10) (take place words) (word ∷ []) in
    record { pass = tests ∙ cc (h.pass, one.0); are = cc (h.are, values, one.1) }

pub whole_wrong : (words : List (List ℕ)) (place : ℕ) (word : List ℕ) (fault : NumberFault)
    → slice_get words place ≡ Some word → whole_of word ≡ Err fault → list_all is_whole words ≡ false
whole_wrong words place word fault at e =
    let parts = parted words place word at in
    ap (list_all is_whole) parts.1
    ∙ (all_append is_whole (take place words) (word ∷ parts.0) ∙ go (list_all is_whole (take place words)) (is_whole word) (is_none word fault e))
  where
    go : (a b : Bool) → b ≡ false → (a && (b && list_all is_whole (parted words place word at).0)) ≡ false
    go true b e = rw e refl
    go false b e = refl

pub all_whole : (words : List (List ℕ)) (numbers : List ℤ) (place : ℕ) → AreWhole words numbers place → length words ≤ place
    → (list_all is_whole words ≡ true) × (numbers ≡ map (signed_digits_value 10) words)
all_whole words numbers place h all =
    let whole = take_all place words all in
    (ap (list_all is_whole) (sym whole) ∙ h.pass, h.are ∙ ap (map (signed_digits_value 10)) whole)
