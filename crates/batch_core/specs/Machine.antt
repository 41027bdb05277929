-- The machine of a batch: words, and workers with lists of acts and a register
-- each. One event is the first remaining act of one worker. This project's own.
use Rattle.std.specs.Prelude.{◌≡◌, ◌≢◌, ◌⊎◌, ◌<◌, ℕ, suc, ℤ, pos, Bool, true, false}
use Rattle.std.specs.Prelude.{List, [], ◌∷◌, set, get_or, length, map, slice_get, All}
use Rattle.std.specs.declared.option.Option.{Option}
use Rattle.std.specs.declared.option.Option.TheVariants.{None, Some}
use Rattle.liszt_base.specs.Reductions.{fold}
use Rattle.batch_core.specs.declared.acts.Act.{Act}
use Rattle.batch_core.specs.declared.acts.Act.TheVariants.{Read, Load, Put, Fold}
use Rattle.batch_core.specs.declared.acts.Stepped.{Stepped}
use Rattle.batch_core.specs.declared.acts.Stepped.TheVariants.{Acted, Idle}

-- a worker: its register, and the acts that remain
pub record Worker : Type 0 where
  pub register : ℤ
  pub acts : List Act

pub record Machine : Type 0 where
  pub words : List ℤ
  pub workers : List Worker

abbrev pub value_at : List ℤ → ℕ → ℤ
value_at words w = get_or words w (pos 0)

-- the word of an act
abbrev pub word : Act → ℕ
word (Read w) = w
word (Load w) = w
word (Put w value) = w
word (Fold w op value) = w

-- the words after an act by a worker with this register
abbrev pub words_after : List ℤ → ℤ → Act → List ℤ
words_after words register (Read w) = words
words_after words register (Load w) = words
words_after words register (Put w value) = set words w value
words_after words register (Fold w op value) = set words w (fold op register value)

-- and the worker's register
abbrev pub register_after : List ℤ → ℤ → Act → ℤ
register_after words register (Read w) = register
register_after words register (Load w) = value_at words w
register_after words register (Put w value) = register
register_after words register (Fold w op value) = register

-- a worker before its first act
abbrev pub worker_at_start : List Act → Worker
worker_at_start acts = record { register = pos 0; acts = acts }

abbrev pub machine_at_start : List ℤ → List (List Act) → Machine
machine_at_start words lists = record { words = words; workers = map worker_at_start lists }

-- One turn of the worker at an index. Without remaining acts it changes nothing.
abbrev pub step_with : Machine → ℕ → Worker → List Act → Machine
step_with m i worker [] = m
step_with m i worker (a ∷ acts) = record {
  words = words_after m.words worker.register a;
  workers =
      set m.workers i record { register = register_after m.words worker.register a; acts = acts };
}

abbrev pub step_of : Machine → ℕ → Option Worker → Machine
step_of m i None = m
step_of m i (Some worker) = step_with m i worker worker.acts

abbrev pub step : Machine → ℕ → Machine
step m i = step_of m i (slice_get m.workers i)

-- turns in their order
abbrev pub run : Machine → List ℕ → Machine
run m [] = m
run m (i ∷ turns) = run (step m i) turns

-- whether an act remains for a turn of the worker at an index
abbrev pub answer_with : List Act → Stepped
answer_with [] = Idle
answer_with (a ∷ acts) = Acted

abbrev pub answer_of : Option Worker → Stepped
answer_of None = Idle
answer_of (Some worker) = answer_with worker.acts

abbrev pub answer : Machine → ℕ → Stepped
answer m i = answer_of (slice_get m.workers i)

-- the words after one worker alone has finished its acts
abbrev pub words_when_finished : List ℤ → ℤ → List Act → List ℤ
words_when_finished words register [] = words
words_when_finished words register (a ∷ acts) =
    words_when_finished (words_after words register a) (register_after words register a) acts

-- the words after the first worker alone has finished, then the second, and so on
abbrev pub words_when_all_finished : List ℤ → List Worker → List ℤ
words_when_all_finished words [] = words
words_when_all_finished words (worker ∷ workers) =
    words_when_all_finished (words_when_finished words worker.register worker.acts) workers

abbrev pub sequential_result : Machine → List ℤ
sequential_result m = words_when_all_finished m.words m.workers

-- no act remains
abbrev pub AreFinished : List Worker → Type 0
AreFinished [] = Unit {0}
AreFinished (worker ∷ workers) = (worker.acts ≡ []) × AreFinished workers

abbrev pub IsFinished : Machine → Type 0
IsFinished m = AreFinished m.workers

abbrev pub Member : Act → List Act → Type 0
Member a [] = ⊥
Member a (b ∷ acts) = (b ≡ a) ⊎ Member a acts

-- an act that remains for the worker at an index
pub record Remains (m : Machine) (i : ℕ) (a : Act) : Type 0 where
  pub worker : Worker
  pub at_index : slice_get m.workers i ≡ Some worker
  pub member : Member a worker.acts

abbrev pub is_read : Act → Bool
is_read (Read w) = true
is_read (Load w) = false
is_read (Put w value) = false
is_read (Fold w op value) = false

-- each Fold is directly after a Load of its word, or is
-- first while the register is the word's value
abbrev pub FoldsAreLoaded : List ℤ → Worker → Type 0
FoldsAreLoaded words worker =
    (k w : ℕ) (op : _) (value : ℤ) → slice_get worker.acts k ≡ Some (Fold w op value)
    → ((j : ℕ) × (k ≡ suc j) × (slice_get worker.acts j ≡ Some (Load w)))
    ⊎ ((k ≡ 0) × (worker.register ≡ value_at words w))

-- A word in a Put, Load or Fold of one worker is in no act of another. A word
-- in a Read is in no Put, Load or Fold. Each Fold folds the value of its word.
pub record Apart (m : Machine) : Type 0 where
  pub separate : (i j : ℕ) (a b : Act) → i ≢ j → Remains m i a → Remains m j b → is_read a ≡ false
      → word a ≢ word b
  pub read_only : (i j : ℕ) (a b : Act) → Remains m i a → Remains m j b → is_read a ≡ true
      → is_read b ≡ false → word a ≢ word b
  pub folds : (i : ℕ) (worker : Worker) → slice_get m.workers i ≡ Some worker
      → FoldsAreLoaded m.words worker

-- a Read of the word remains
abbrev pub Reads : Machine → ℕ → Type 0
Reads m w = (i : ℕ) × Remains m i (Read w)

-- each word of an act is one of the machine's
abbrev pub InRange : Machine → Type 0
InRange m = (i : ℕ) (a : Act) → Remains m i a → word a < length m.words

-- as many words and workers
pub record HasSizesOf (m n : Machine) : Type 0 where
  pub words : length n.words ≡ length m.words
  pub workers : length n.workers ≡ length m.workers

-- each word of these acts is below n
abbrev pub AreBelow : ℕ → List Act → Type 0
AreBelow n acts = All (λ a. word a < n) acts
