-- What the top call answers over a shelf and a sink. This project's own.
use Rattle.std.specs.Prelude.{◌≡◌, ℕ, ◌≤◌, ◌⊎◌, List, Option, Some, None, MatchOption}
use Rattle.std.specs.Io.KnownBytes.{append_known}
use Rattle.liszt_base.specs.MeshLists.{MeshLists}
use Rattle.liszt_io.specs.Causes.{Rose}
use Rattle.liszt_io.specs.Shelves.{Files, file, Tally}
use Rattle.liszt_io.specs.Sinks.{TakesPrefix}
use Rattle.liszt_report.specs.declared.ended.Ended.{Ended}
use Rattle.liszt_report.specs.declared.ended.Ended.TheVariants.{Done, Usage, Trap, ReadFault, WriteFault, NoMemory}
use Rattle.liszt_report.specs.Endings.{ending_text}
use Rattle.liszt.specs.declared.top.Step.{Step}
use Rattle.liszt.specs.declared.top.Step.TheVariants.{Ended as EndedNow}
use Rattle.liszt.specs.Expected.{Outcome, refusal, Finishes, ResultsIn}
use Rattle.liszt_tree.specs.Tree.{Main}
use Rattle.command_words.specs.Commands.{command_of}
use Rattle.command_words.specs.declared.command.Mode.{Mode}

-- The shelf has no file of that name, or a fault that is no stray was counted in the call, the last one at that name.
abbrev pub IsLost : Files → Tally → Tally → List ℕ → Type 0
IsLost files before now name =
    (file files name ≡ None) ⊎ (Rose before.others now.others × (now.last ≡ Some name))

-- What a shelf and a sink show at entry or at return: the faults of the shelf by kind and in all, and the bytes that the
-- sink took.
pub record Outside : Type 0 where
  pub tally : Tally
  pub faults : ℕ
  pub output : Option (List ℕ)

abbrev pub outside : Tally → ℕ → Option (List ℕ) → Outside
outside tally faults output = record { tally = tally; faults = faults; output = output }

-- The words and the files result in the ending, and the sink took the whole of its text.
abbrev pub EndsWith : List (List ℕ) → Files → Outside → Outside → Ended → Type 0
EndsWith words files before now ended =
    (text : List ℕ)
    × ResultsIn (IsLost files before.tally now.tally) words files (record { ended = ended; text = text })
    × (now.output ≡ append_known before.output text)

-- The shelf's count at an ending: it rose for a ReadFault only.
abbrev pub HasShelfCause : ℕ → ℕ → Ended → Type 0
HasShelfCause shelf shelf' (ReadFault x) = Rose shelf shelf'
HasShelfCause shelf shelf' ended = shelf' ≡ shelf

-- What an answer says where the shelf exposes its files. NoMemory is free, and its line was taken. After a WriteFault
-- the sink took a prefix of the text that was being written. Every other ending is the one in which the words and the
-- files result, and the sink took its text.
abbrev pub Answers : List (List ℕ) → Files → Outside → Outside → Ended → Type 0
Answers words files before now NoMemory = now.output ≡ append_known before.output (ending_text NoMemory)
Answers words files before now WriteFault =
    (outcome : Outcome)
    × (ResultsIn (IsLost files before.tally now.tally) words files outcome ⊎ (outcome ≡ refusal NoMemory))
    × TakesPrefix before.output now.output outcome.text
    × HasShelfCause before.faults now.faults outcome.ended
Answers words files before now ended = EndsWith words files before now ended

-- The outcome of a command that ran, in this mode, on some program and mesh.
abbrev pub IsRunOutcome : Mode → Ended → List ℕ → Type 0
IsRunOutcome mode ended text =
    (tree : Main) × (mesh : MeshLists) × Finishes mode tree mesh (record { ended = ended; text = text })

-- A text that the words can result in, over any files.
abbrev pub IsTextOf : List (List ℕ) → List ℕ → Type 0
IsTextOf words text = MatchOption (command_of words) (text ≡ ending_text Usage) (λ c.
    ((ended : Ended) × (text ≡ ending_text ended)) ⊎ ((ended : Ended) × IsRunOutcome c.mode ended text))

-- What the sink took, over any shelf: the line of a refusal, the text of the command on some program and mesh, or a prefix of
-- one of these.
abbrev pub WroteOutcome : List (List ℕ) → Option (List ℕ) → Option (List ℕ) → Ended → Type 0
WroteOutcome words old new ended =
    (text : List ℕ) × MatchOption (command_of words) ⊥ (λ c. IsRunOutcome c.mode ended text)
    × (new ≡ append_known old text)

abbrev pub Wrote : List (List ℕ) → Option (List ℕ) → Option (List ℕ) → Ended → Type 0
Wrote words old new Done = WroteOutcome words old new Done
Wrote words old new (Trap trap) = WroteOutcome words old new (Trap trap)
Wrote words old new WriteFault = (text : List ℕ) × IsTextOf words text × TakesPrefix old new text
Wrote words old new ended = new ≡ append_known old (ending_text ended)

-- The counts of faults at an answer: the shelf's rose for a ReadFault only, and the sink's for a WriteFault only. At a
-- WriteFault the shelf's may have risen, for the read fault whose line was being written.
abbrev pub HasCauses : ℕ → ℕ → ℕ → ℕ → Ended → Type 0
HasCauses shelf shelf' sink sink' (ReadFault x) = Rose shelf shelf' × (sink' ≡ sink)
HasCauses shelf shelf' sink sink' WriteFault = (shelf ≤ shelf') × Rose sink sink'
HasCauses shelf shelf' sink sink' ended = (shelf' ≡ shelf) × (sink' ≡ sink)

-- The answer is the outcome, and the sink took its whole text; or it is NoMemory.
abbrev pub IsOutcome : Outcome → Option (List ℕ) → Option (List ℕ) → Ended → Type 0
IsOutcome outcome old new ended =
    ((ended ≡ outcome.ended) × (new ≡ append_known old outcome.text)) ⊎ (ended ≡ NoMemory)

-- A run ends with a refusal: the sink took its line, or a prefix of the line and then failed.
abbrev pub Refuses : Ended → Option (List ℕ) → Option (List ℕ) → Ended → Type 0
Refuses refused old new ended =
    ((ended ≡ refused) × (new ≡ append_known old (ending_text refused)))
    ⊎ ((ended ≡ WriteFault) × TakesPrefix old new (ending_text refused))

-- The ending that a step leaves.
abbrev pub ended_of : Step → Ended
ended_of (EndedNow ended) = ended
