-- The words of a row one after the other: their tests and their numbers.
use Rattle.std.proofs.Common.{◌≡◌, ℕ, zero, suc, ◌+◌, ◌≤◌, Option, Some, None, List, [], ◌∷◌, ◌++◌, map, take, length, slice_get, refl, sym, ap, ◌∙◌, arith}
use Rattle.std.specs.Prelude.{ℤ, Ok}
use Rattle.std.specs.List.{zip}
use Rattle.std.proofs.lemmas.List.{map-append, take_all, length-map, length-take}
use Rattle.liszt_base.specs.declared.answers.MeshWhat.{MeshWhat}
use mir.Syntax.{w64}
use mir.Val.{SFits}
use Rattle.text_scan.proofs.RangeLemmas.{whole_fits, millionths_fits}
use Rattle.tet_reader.specs.declared.words.Word.TheVariants.{Number, Real, Marker, Corner}
use Rattle.tet_reader.specs.Tests.{first_some, word_test}
use Rattle.tet_reader.specs.Internal.RowKinds.{expected_words, word_value, value_or_zero, word_number}
use Rattle.tet_reader.specs.declared.words.Word.{Word}
use Rattle.tet_reader.specs.declared.kinds.RowKind.{RowKind}
use Rattle.tet_reader.specs.declared.kinds.RowKind.TheVariants.{PointRow, CellRow}

-- ---- lists

-- the first of two lists of tests one after the other, where those in front find nothing
pub first_after : {A : Type 0} (xs ys : List (Option A)) → first_some xs ≡ None → first_some (xs ++ ys) ≡ first_some ys
first_after [] ys e = refl
first_after (None ∷ xs) ys e = first_after xs ys e
first_after (Some x ∷ xs) ys e = cc

-- a list up to a place, and its member there
pub take_more : {A : Type 0} (xs : List A) (k : ℕ) (x : A) → slice_get xs k ≡ Some x → take (k + 1) xs ≡ take k xs ++ x ∷ []
take_more [] k x e = cc
take_more (y ∷ xs) zero x e = let same : y ≡ x = cc in ap (λ v. v ∷ []) same
take_more (y ∷ xs) (suc k) x e = let at : suc k + 1 ≡ suc (k + 1) = omega arith in ap (λ n. take n (y ∷ xs)) at ∙ ap (λ l. y ∷ l) (take_more xs k x e)

-- a list is what stands before a place, its member there and the rest
pub parted : {A : Type 0} (xs : List A) (k : ℕ) (x : A) → slice_get xs k ≡ Some x → (rest : List A) × (xs ≡ take k xs ++ x ∷ rest)
parted [] k x e = cc
parted (y ∷ xs) zero x e = let same : y ≡ x = cc in (xs, ap (λ v. v ∷ xs) same)
parted (y ∷ xs) (suc k) x e = let more = parted xs k x e in (more.0, ap (λ l. y ∷ l) more.1)

pub zip_at : {A B : Type 0} (xs : List A) (ys : List B) (k : ℕ) (x : A) (y : B) → slice_get xs k ≡ Some x → slice_get ys k ≡ Some y
    → slice_get (zip xs ys) k ≡ Some (x, y)
zip_at [] ys k x y e h = cc
zip_at (a ∷ xs) [] k x y e h = cc
zip_at (a ∷ xs) (b ∷ ys) zero x y e h =
    let one : a ≡ x = cc in
    let two : b ≡ y = cc in
    cc
zip_at (a ∷ xs) (b ∷ ys) (suc k) x y e h = zip_at xs ys k x y e h

pub zip_size : {A B : Type 0} (xs : List A) (ys : List B) → length xs ≡ length ys → length (zip xs ys) ≡ length ys
zip_size [] [] e = refl
zip_size [] (y ∷ ys) e = absurd (omega arith)
zip_size (x ∷ xs) [] e = absurd (omega arith)
zip_size (x ∷ xs) (y ∷ ys) e = ap suc (zip_size xs ys (omega arith))

-- ---- words

-- how many words a row should have does not depend on its number
pub same_size : (kind : RowKind) (number : ℕ) → length (expected_words kind number) ≡ length (expected_words kind 0)
same_size (PointRow attributes markers) number = refl
same_size (CellRow attributes base points) number = refl

abbrev pub tests_of : List (Word × List ℕ) → List (Option MeshWhat)
tests_of pairs = map (λ w. word_test w.0 w.1) pairs

-- The words before a place passed, and these are their numbers.
pub record AreRead (expected : List Word) (words : List (List ℕ)) (numbers : List ℤ) (place : ℕ) : Type 0 where
  pub pass : first_some (tests_of (take place (zip expected words))) ≡ None
  pub are : numbers ≡ map word_number (take place (zip expected words))

pub none_read : (expected : List Word) (words : List (List ℕ)) (numbers : List ℤ) → numbers ≡ [] → AreRead expected words numbers 0
none_read expected words numbers e = record { pass = refl; are = e }

pub count_read : (expected : List Word) (words : List (List ℕ)) (numbers : List ℤ) (place : ℕ) → AreRead expected words numbers place
    → length numbers ≤ place
count_read expected words numbers place h =
    omega (arith, ap length h.are, length-map (take place (zip expected words)) word_number, length-take place (zip expected words))

-- a word more
pub word_read : (expected : List Word) (words : List (List ℕ)) (numbers : List ℤ) (place : ℕ) (want : Word) (word : List ℕ) (value : ℤ)
    → AreRead expected words numbers place → slice_get expected place ≡ Some want → slice_get words place ≡ Some word
    → word_test want word ≡ None → word_value want word ≡ Ok value → AreRead expected words (numbers ++ value ∷ []) (place + 1)
word_read expected words numbers place want word value h at at' passes value_is =
    let pairs = zip expected words in
    let more = take_more pairs place (want, word) (zip_at expected words place want word at at') in
    let tests : tests_of (take (place + 1) pairs) ≡ tests_of (take place pairs) ++ word_test want word ∷ [] =
    ap tests_of more ∙ map-append (λ w. word_test w.0 w.1) (take place pairs) ((want, word) ∷ []) in
    let numbers_are : map word_number (take (place + 1) pairs) ≡ map word_number (take place pairs) ++ value_or_zero (word_value want word) ∷ [] =
    ap (map word_number) more ∙ map-append word_number (take place pairs) ((want, word) ∷ []) in
    record {
      pass = ap first_some tests ∙ (first_after (tests_of (take place pairs)) (word_test want word ∷ []) h.pass ∙ ap (λ t. first_some (t ∷ [])) passes);
      are = cc (h.are, numbers_are, ap value_or_zero value_is);
    }

-- a word's fault is the first
pub word_wrong : (expected : List Word) (words : List (List ℕ)) (numbers : List ℤ) (place : ℕ) (want : Word) (word : List ℕ) (what : MeshWhat)
    → AreRead expected words numbers place → slice_get expected place ≡ Some want → slice_get words place ≡ Some word
    → word_test want word ≡ Some what → first_some (tests_of (zip expected words)) ≡ Some what
word_wrong expected words numbers place want word what h at at' wrong =
    let pairs = zip expected words in
    let parts = parted pairs place (want, word) (zip_at expected words place want word at at') in
    let tests : tests_of pairs ≡ tests_of (take place pairs) ++ word_test want word ∷ tests_of parts.0 =
    ap tests_of parts.1 ∙ map-append (λ w. word_test w.0 w.1) (take place pairs) ((want, word) ∷ parts.0) in
    ap first_some tests
    ∙ (first_after (tests_of (take place pairs)) (word_test want word ∷ tests_of parts.0) h.pass
    ∙ ap (λ t. first_some (t ∷ tests_of parts.0)) wrong)

-- all of them
pub all_read : (expected : List Word) (words : List (List ℕ)) (numbers : List ℤ) (place : ℕ) → AreRead expected words numbers place
    → length expected ≡ length words → length words ≤ place
    → (first_some (tests_of (zip expected words)) ≡ None) × (numbers ≡ map word_number (zip expected words))
all_read expected words numbers place h same all =
    let whole = take_all place (zip expected words) (omega (arith, zip_size expected words same)) in
    (ap (λ l. first_some (tests_of l)) (sym whole) ∙ h.pass, h.are ∙ ap (map word_number) whole)

-- a number that is read fits into 64 bits
pub word_value_fits : (want : Word) (word : List ℕ) (value : ℤ) → word_value want word ≡ Ok value → SFits w64 value
word_value_fits (Number number) word value e = whole_fits word value e
word_value_fits Real word value e = millionths_fits word value e
word_value_fits Marker word value e = whole_fits word value e
word_value_fits (Corner base points) word value e = whole_fits word value e

-- a fault in front is the first
pub first_before : {A : Type 0} (xs ys : List (Option A)) (x : A) → first_some xs ≡ Some x → first_some (xs ++ ys) ≡ Some x
first_before [] ys x e = cc
first_before (None ∷ xs) ys x e = first_before xs ys x e
first_before (Some y ∷ xs) ys x e = e
