-- The place of bytes in the table of the code and in the list of the definitions.
use Rattle.std.proofs.Common.{◌≡◌, ℕ, not, List, [], ◌∷◌, refl, sym}
use Rattle.std.specs.List.{prefix_len, position}
use Rattle.std.specs.Str.{bytes_eq}
use Rattle.std.proofs.lemmas.Bool.Decides.{same_from_decides}
use Rattle.std.proofs.lemmas.Slice.Eq.{bytes_eq-Decides}

-- bytes are the same from is_some_either side
bytes_eq_symmetric : (xs ys : List ℕ) → bytes_eq xs ys ≡ bytes_eq ys xs
bytes_eq_symmetric xs ys =
    let there = bytes_eq-Decides ys xs in
    same_from_decides (bytes_eq xs ys) (bytes_eq ys xs) (bytes_eq-Decides xs ys) (λ e. sym (there.0 e), λ e. there.1 (sym e))

-- how many words come before the bytes
before : (bytes : List ℕ) (words : List (List ℕ))
    → prefix_len (λ w. not (bytes_eq w bytes)) words ≡ prefix_len (λ w. not (bytes_eq bytes w)) words
before bytes [] = refl
before bytes (w ∷ words) = rw (bytes_eq_symmetric w bytes, before bytes words) refl

-- the place of the bytes
pub same_place : (bytes : List ℕ) (words : List (List ℕ)) → position (λ w. bytes_eq w bytes) words ≡ position (bytes_eq bytes) words
same_place bytes words = rw (before bytes words) refl
