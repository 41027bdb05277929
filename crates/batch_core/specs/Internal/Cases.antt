-- Machines of worked cases.
use Rattle.std.specs.Prelude.{pos, [], ◌∷◌}
use Rattle.liszt_base.specs.declared.elements.Op.TheVariants.{Add, Max}
use Rattle.batch_core.specs.declared.acts.Act.TheVariants.{Read, Load, Put, Fold}
use Rattle.batch_core.specs.Machine.{Machine, machine_at_start}

-- words 10 and 20: one worker adds 5 to the first word, the
-- other raises the second word to 7 at least
abbrev pub words_apart : Machine
words_apart = machine_at_start (pos 10 ∷ pos 20 ∷ [])
    ((Load 0 ∷ Fold 0 Add (pos 5) ∷ []) ∷ (Load 1 ∷ Fold 1 Max (pos 7) ∷ []) ∷ [])

-- one word, 10: both workers add 1 to it
abbrev pub word_shared : Machine
word_shared = machine_at_start (pos 10 ∷ [])
    ((Load 0 ∷ Fold 0 Add (pos 1) ∷ []) ∷ (Load 0 ∷ Fold 0 Add (pos 1) ∷ []) ∷ [])

-- a worker without acts, and one that only reads
abbrev pub word_read : Machine
word_read = machine_at_start (pos 10 ∷ []) ([] ∷ (Read 0 ∷ []) ∷ [])

-- a worker that loads, puts and folds, and one that only reads
abbrev pub word_put : Machine
word_put =
    machine_at_start (pos 10 ∷ [])
    ((Load 0 ∷ Put 0 (pos 3) ∷ Fold 0 Add (pos 1) ∷ []) ∷ (Read 0 ∷ []) ∷ [])
