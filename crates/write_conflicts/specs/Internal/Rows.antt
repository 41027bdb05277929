-- Spots as numbers, sorted numbers, and rows of a number and an iteration. This project's own.
use Rattle.std.specs.Prelude.{◌≡◌, ◌↔◌, ◌⊎◌, ℕ, ◌/◌, ◌%◌, ◌^◌, ◌<◌, ◌≤◌, Bool, true, false, List, map, length, slice_index_or}
use Rattle.std.specs.List.{AllPairs, Contains, filter}
use Rattle.liszt_base.specs.declared.accesses.Access.{Access}
use Rattle.liszt_base.specs.declared.accesses.Mode.{Mode}
use Rattle.liszt_base.specs.declared.accesses.Mode.TheVariants.{Read, Write, Reduce}
use Rattle.liszt_base.specs.declared.accesses.Spot.{Spot}
use Rattle.write_conflicts.specs.Conflicts.{accesses_at, reduced_spots, Writes}

-- The spot of a key: the key is the field times 2^32, plus the id.
abbrev pub spot_of : ℕ → Spot
spot_of key = record { field = key / 2 ^ 32; id = key % 2 ^ 32 }

-- The members of a list of keys, each once, ascending.
pub record IsSetOf (keys set : List ℕ) : Type 0 where
  pub ascending : AllPairs (λ x y. x < y) set
  pub members : (x : ℕ) → Contains set x ↔ Contains keys x

-- Fewer than 2^32 keys, ascending, among which are those of all spots that the lists reduce.
pub record IsKeyTable (lists : List (List Access)) (keys : List ℕ) : Type 0 where
  pub few : length keys < 2 ^ 32
  pub ascending : AllPairs (λ x y. x < y) keys
  pub all : (i : ℕ) (spot : Spot) → Contains (reduced_spots (accesses_at lists i)) spot → Contains (map spot_of keys) spot

abbrev pub is_write : Mode → Bool
is_write Read = false
is_write Write = true
is_write (Reduce op) = false

-- A spot and an iteration that writes it.
pub record Writer : Type 0 where
  pub spot : Spot
  pub iteration : ℕ

-- The writer that a row of a key and an iteration denotes.
abbrev pub writer_of : ℕ × ℕ → Writer
writer_of row = record { spot = spot_of row.0; iteration = row.1 }

-- The writers of a list of accesses, in its order.
abbrev pub writers_in : ℕ → List Access → List Writer
writers_in iteration accesses =
    map (λ a. record { spot = a.spot; iteration = iteration }) (filter (λ a. is_write a.mode) accesses)

-- The writers of the first `done` iterations.
pub record AreWriters (lists : List (List Access)) (done : ℕ) (writers : List Writer) : Type 0 where
  pub each : (w : Writer) → Contains writers w → (w.iteration < done) × Writes (accesses_at lists w.iteration) w.spot
  pub all : (w : Writer) → w.iteration < done → Writes (accesses_at lists w.iteration) w.spot → Contains writers w

-- Rows in their order: by key, and then by iteration.
abbrev pub AtMost : ℕ × ℕ → ℕ × ℕ → Type 0
AtMost row other = (row.0 < other.0) ⊎ ((row.0 ≡ other.0) × (row.1 ≤ other.1))

abbrev pub AreOrdered : List (ℕ × ℕ) → Type 0
AreOrdered rows = (i j : ℕ) (d : ℕ × ℕ) → i ≤ j → j < length rows
    → AtMost (slice_index_or rows i d) (slice_index_or rows j d)
