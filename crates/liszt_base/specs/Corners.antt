-- Corner sets: what it is for one to include another, the four faces of a cell,
-- and which cells no mesh may have. A cell's four corners and their order are
-- TetGen's; the cycles of its faces and the two tests are this project's own.
use Rattle.std.specs.Prelude.{◌≡◌, ℕ, ◌==◌, ◌&&◌, not, nat_lt, Bool, true, false, List, [], ◌∷◌}
use Rattle.std.specs.Prelude.{◌++◌, length}
use Rattle.std.specs.List.{list_any, list_all, count_by, AllByRecursion}

-- a list of numbers taken as a set: its members, whether it
-- includes another, whether the two are one
abbrev pub is_in : List ℕ → ℕ → Bool
is_in xs x = list_any (λ y. y == x) xs

abbrev pub includes : List ℕ → List ℕ → Bool
includes xs ys = list_all (is_in xs) ys

abbrev pub same_members : List ℕ → List ℕ → Bool
same_members xs ys = includes xs ys && includes ys xs

-- no number comes twice
abbrev pub are_different : List ℕ → Bool
are_different [] = true
are_different (x ∷ xs) = not (is_in xs x) && are_different xs

-- the cycles that four corners induce: the four faces of the cell, each with its corners in order
abbrev pub induced_cycles : List ℕ → List (List ℕ)
induced_cycles (a ∷ b ∷ c ∷ d ∷ []) =
    (b ∷ c ∷ d ∷ []) ∷ (a ∷ d ∷ c ∷ []) ∷ (a ∷ b ∷ d ∷ []) ∷ (a ∷ c ∷ b ∷ []) ∷ []
induced_cycles _ = []

-- the four corners are those of an earlier cell
abbrev pub repeats_earlier : List (List ℕ) → List ℕ → Bool
repeats_earlier earlier corners = list_any (same_members corners) earlier

-- some face of the cell is a face of two earlier cells or more
abbrev pub is_third : List (List ℕ) → List ℕ → Bool
is_third earlier corners =
    list_any (λ face. nat_lt 1 (count_by (λ cell. includes cell face) earlier))
    (induced_cycles corners)

-- what a test says of each member and the members before it
abbrev pub along : {A : Type 0} → (List A → A → Bool) → List A → List A → List Bool
along test earlier [] = []
along test earlier (x ∷ xs) = test earlier x ∷ along test (earlier ++ x ∷ []) xs

-- no cell comes twice, and no face is shared by three cells
abbrev pub FitTogether : List (List ℕ) → Type 0
FitTogether cells =
    (list_any (λ b. b) (along repeats_earlier [] cells) ≡ false)
    × (list_any (λ b. b) (along is_third [] cells) ≡ false)

-- the four corners of a cell are four different points
abbrev pub IsCell : ℕ → List ℕ → Type 0
IsCell points corners =
    (length corners ≡ 4) × (are_different corners ≡ true)
    × (list_all (λ v. nat_lt v points) corners ≡ true)

-- what a mesh must be for its elements to be numbered
pub record IsMesh (points : ℕ) (cells : List (List ℕ)) : Type 0 where
  pub each : AllByRecursion (IsCell points) cells
  pub together : FitTogether cells
