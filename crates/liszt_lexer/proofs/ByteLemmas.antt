-- Which bytes are none of some words, by what their first byte, their length or all of their bytes are.
use Rattle.std.proofs.Common.{◌≡◌, ℕ, zero, suc, ◌+◌, ◌<◌, ◌≤◌, ◌==◌, ◌&&◌, ◌||◌, not, cond, nat_lt, Bool, true, false, None}
use Rattle.std.proofs.Common.{List, [], ◌∷◌, length, take, refl, sym, ap, ◌∙◌, arith}
use Rattle.std.specs.Char.{is_ascii_digit}
use Rattle.std.specs.List.{list_all, list_any, prefix_len, position, position_or_len}
use Rattle.std.specs.Str.{bytes_eq}
use Rattle.std.proofs.lemmas.Bool.{and_parts, ltb-true}
use Rattle.std.proofs.lemmas.Bool.Decides.{nat_tests}
use Rattle.std.proofs.lemmas.Slice.Eq.{bytes_eq-Decides}
use Rattle.liszt_lexer.specs.Lexer.{is_blank, is_letter}

-- a test that cannot pass fails
pub not_true_is_false : (b : Bool) → (b ≡ true → ⊥) → b ≡ false
not_true_is_false true h = absurd (h refl)
not_true_is_false false h = refl

-- bytes of which a test says another thing are not the same
pub not_equal_by_test : (test : List ℕ → Bool) (xs w : List ℕ) (b : Bool) → test xs ≡ b → test w ≡ not b → bytes_eq xs w ≡ false
not_equal_by_test test xs w b here there = not_true_is_false (bytes_eq xs w) (λ e. differ b (sym here ∙ ap test ((bytes_eq-Decides xs w).0 e) ∙ there)) where
  differ : (b : Bool) → b ≡ not b → ⊥
  differ true e = cc
  differ false e = cc

-- bytes that fail a test which each of the words passes are none of them
all_fail : (test : List ℕ → Bool) (xs : List ℕ) (words : List (List ℕ)) → test xs ≡ false → list_all test words ≡ true
    → position_or_len (bytes_eq xs) words ≡ length words
all_fail test xs [] fails all = refl
all_fail test xs (w ∷ words) fails all =
    let parts = and_parts (test w) (list_all test words) all in
    let here : bytes_eq xs w ≡ false = not_equal_by_test test xs w false fails parts.0 in
    rw here (omega (arith, all_fail test xs words fails parts.1))

pub no_position : (test : List ℕ → Bool) (xs : List ℕ) (words : List (List ℕ)) → test xs ≡ false → list_all test words ≡ true
    → position (bytes_eq xs) words ≡ None
no_position test xs words fails all =
    let place = position_or_len (bytes_eq xs) words in
    let none : nat_lt place (length words) ≡ false =
    not_true_is_false (nat_lt place (length words))
    (λ e. absurd (omega (arith, all_fail test xs words fails all, ltb-true place (length words) e))) in
    rw none refl

-- the first byte passes a test
abbrev pub begins : (ℕ → Bool) → List ℕ → Bool
begins p [] = false
begins p (b ∷ bytes) = p b

-- the bytes that a symbol begins with
abbrev pub is_mark : ℕ → Bool
is_mark b = not (is_blank b || is_ascii_digit b || is_letter b)

-- blanks, digits and letters are apart, and none of them is `/`
pub blank_is : (b : ℕ) → is_blank b ≡ true → (is_ascii_digit b ≡ false) × (is_letter b ≡ false) × ((b == 47) ≡ false)
blank_is b e = (grind (arith, nat_tests), grind (arith, nat_tests), grind (arith, nat_tests))

pub digit_is : (b : ℕ) → is_ascii_digit b ≡ true → (is_blank b ≡ false) × (is_letter b ≡ false) × ((b == 47) ≡ false)
digit_is b e = (grind (arith, nat_tests), grind (arith, nat_tests), grind (arith, nat_tests))

pub letter_is : (b : ℕ) → is_letter b ≡ true → (is_blank b ≡ false) × (is_ascii_digit b ≡ false) × ((b == 47) ≡ false)
letter_is b e = (grind (arith, nat_tests), grind (arith, nat_tests), grind (arith, nat_tests))

-- the front that passes a test passes it, and a longer one does not
pub prefix_passes : (p : ℕ → Bool) (xs : List ℕ) → list_all p (take (prefix_len p xs) xs) ≡ true
prefix_passes p [] = refl
prefix_passes p (x ∷ xs) = go (p x) refl (prefix_passes p xs) where
  go : (b : Bool) → p x ≡ b → list_all p (take (prefix_len p xs) xs) ≡ true
      → list_all p (take (cond b (1 + prefix_len p xs) 0) (x ∷ xs)) ≡ true
  go true e h =
      let one : 1 + prefix_len p xs ≡ suc (prefix_len p xs) = omega arith in
      rw (one, e) h
  go false e h = refl

pub past_prefix : (p : ℕ → Bool) (xs : List ℕ) (more : ℕ) → prefix_len p xs < more → more ≤ length xs → list_all p (take more xs) ≡ false
past_prefix p xs zero lt le = absurd (omega arith)
past_prefix p [] (suc more) lt le = absurd (omega arith)
past_prefix p (x ∷ xs) (suc more) lt le = go (p x) refl lt (past_prefix p xs more) where
  go : (b : Bool) → p x ≡ b → cond b (1 + prefix_len p xs) 0 < suc more
      → (prefix_len p xs < more → more ≤ length xs → list_all p (take more xs) ≡ false) → (p x && list_all p (take more xs)) ≡ false
  go true e lt h = rw e (h (omega arith) (omega arith))
  go false e lt h = rw e refl

-- some byte passes where not each fails
pub some_pass : (p : ℕ → Bool) (xs : List ℕ) → list_any p xs ≡ not (list_all (λ x. not (p x)) xs)
some_pass p [] = refl
some_pass p (x ∷ xs) = go (p x) (some_pass p xs) where
  go : (b : Bool) → list_any p xs ≡ not (list_all (λ x. not (p x)) xs)
      → (b || list_any p xs) ≡ not (not b && list_all (λ x. not (p x)) xs)
  go true h = refl
  go false h = h

-- at most two bytes
abbrev pub is_short : List ℕ → Bool
is_short (a ∷ b ∷ c ∷ bytes) = false
is_short _ = true
