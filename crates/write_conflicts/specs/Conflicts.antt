-- Conflicts and clashes of iterations, where list i has the accesses of iteration i. Iterations that are in conflict must not run at
-- once, since both reduce one spot, and a program with a clash is refused. The relations are this project's own.
use Rattle.std.specs.Prelude.{◌≡◌, ◌≢◌, ◌⊎◌, ℕ, ◌<◌, ◌≤◌, ◌==◌, ◌&&◌, ◌||◌, nat_lt, Bool, true, false}
use Rattle.std.specs.Prelude.{Option, Some, None, List, [], map, length, slice_get, slice_index_or}
use Rattle.std.specs.List.{AllPairs, Contains, filter, sum_by}
use Rattle.liszt_base.specs.declared.accesses.Access.{Access}
use Rattle.liszt_base.specs.declared.accesses.Mode.{Mode}
use Rattle.liszt_base.specs.declared.accesses.Mode.TheVariants.{Read, Write, Reduce}
use Rattle.liszt_base.specs.declared.accesses.Spot.{Spot}
use Rattle.liszt_base.specs.declared.elements.Op.{Op}
use Rattle.write_conflicts.specs.declared.clashes.SharedWrite.{SharedWrite}

-- Spots in their order: by field, and then by id.
abbrev pub precedes : Spot → Spot → Bool
precedes spot other = nat_lt spot.field other.field || ((spot.field == other.field) && nat_lt spot.id other.id)

abbrev pub is_reduction : Mode → Bool
is_reduction Read = false
is_reduction Write = false
is_reduction (Reduce op) = true

-- The spots that a list of accesses reduces, in the order of the list.
abbrev pub reduced_spots : List Access → List Spot
reduced_spots accesses = map (λ a. a.spot) (filter (λ a. is_reduction a.mode) accesses)

-- An access of the list writes the spot.
abbrev pub Writes : List Access → Spot → Type 0
Writes accesses spot = Contains accesses (record { spot = spot; mode = Write })

-- An access of the list reduces the spot, by whatever operator.
abbrev pub Reduces : List Access → Spot → Type 0
Reduces accesses spot = (op : Op) × Contains accesses (record { spot = spot; mode = Reduce op })

-- The accesses of an iteration; one without a list has none.
abbrev pub accesses_at : List (List Access) → ℕ → List Access
accesses_at lists i = slice_index_or lists i []

-- A CONFLICT of two different iterations is a spot that both reduce.
pub record Conflict (lists : List (List Access)) (i j : ℕ) : Type 0 where
  pub different : i ≢ j
  pub spot : Spot
  pub by_first : Reduces (accesses_at lists i) spot
  pub by_second : Reduces (accesses_at lists j) spot

-- A CLASH of two different iterations is a spot that both write.
pub record Clash (lists : List (List Access)) (spot : Spot) (i j : ℕ) : Type 0 where
  pub different : i ≢ j
  pub by_first : Writes (accesses_at lists i) spot
  pub by_second : Writes (accesses_at lists j) spot

-- The number of accesses in all lists.
abbrev pub entries : List (List Access) → ℕ
entries lists = sum_by (λ list. length list) lists

-- THE REDUCED SPOTS of all lists, each once, ascending.
pub record AreReducedSpots (lists : List (List Access)) (spots : List Spot) : Type 0 where
  pub ascending : AllPairs (λ spot other. precedes spot other ≡ true) spots
  pub each : (spot : Spot) → Contains spots spot → (i : ℕ) × Reduces (accesses_at lists i) spot
  pub all : (i : ℕ) (spot : Spot) → Reduces (accesses_at lists i) spot → Contains spots spot

-- WHAT EACH ITERATION TOUCHES: its reduced spots, each by its rank among those of all iterations.
pub record AreTouched (lists : List (List Access)) (touched : List (List ℕ)) : Type 0 where
  pub spots : List Spot
  pub are_reduced : AreReducedSpots lists spots
  pub ranks : map (λ numbers. map (slice_get spots) numbers) touched
      ≡ map (λ list. map (λ spot. Some spot) (reduced_spots list)) lists

-- THE FIRST CLASH: no clash has a spot that precedes its spot, and its iterations are the two least that write the spot.
pub record IsFirstClash (lists : List (List Access)) (spot : Spot) (first second : ℕ) : Type 0 where
  pub clash : Clash lists spot first second
  pub order : first < second
  pub least : (other : Spot) (i j : ℕ) → Clash lists other i j → precedes other spot ≡ false
  pub two_least : (i : ℕ) → Writes (accesses_at lists i) spot → (i ≡ first) ⊎ (second ≤ i)

-- The first clash of all iterations, or there is none.
abbrev pub FindsFirstClash : List (List Access) → Option SharedWrite → Type 0
FindsFirstClash lists (Some write) = IsFirstClash lists write.spot write.first write.second
FindsFirstClash lists None = (spot : Spot) (i j : ℕ) → ¬ Clash lists spot i j
