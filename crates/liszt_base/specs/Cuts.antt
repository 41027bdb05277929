-- The meaning of consecutive lists in one buffer. This project's own.
use Rattle.std.specs.Prelude.{◌≡◌, ℕ, zero, suc, ◌-◌, ◌≤◌, List, [], ◌∷◌, take, drop, slice_index}

-- the pieces of a list that end at these places, the first of them from the place start on
abbrev pub cut : {A : Type 0} → ℕ → List A → List ℕ → List (List A)
cut start items [] = []
cut start items (end ∷ ends) = take (end - start) (drop start items) ∷ cut end items ends

-- the places do not fall, and the last of them is the length of the list
abbrev pub AreEnds : ℕ → List ℕ → ℕ → Type 0
AreEnds start [] total = start ≡ total
AreEnds start (end ∷ ends) total = (start ≤ end) × AreEnds end ends total

-- where the piece at a place begins
abbrev pub start_at : ℕ → List ℕ → ℕ → ℕ
start_at start ends zero = start
start_at start ends (suc place) = slice_index ends place
