-- What the steps before the text answer. Private functions' contracts cite it.
use Rattle.std.specs.Prelude.{◌≡◌, ℕ, ◌<◌, ◌^◌, ◌⊎◌, List, length, Option, Some, None, Result, Ok, Err, ℤ, take}
use Rattle.std.specs.Io.KnownBytes.{append_known}
use Rattle.command_words.specs.declared.command.Mode.{Mode}
use Rattle.liszt_base.specs.Corners.{IsMesh}
use Rattle.liszt_base.specs.declared.elements.Kind.{Kind}
use Rattle.liszt_base.specs.MeshLists.{MeshLists}
use Rattle.liszt_base.specs.declared.answers.Input.{Input}
use Rattle.liszt_base.specs.declared.answers.ProgramFault.{ProgramFault}
use Rattle.liszt_base.specs.declared.answers.Refused.{Refused}
use Rattle.liszt_base.specs.declared.answers.Refused.TheVariants.{Fault, NoMemory as OutOfMemory}
use Rattle.liszt_io.specs.Causes.{Rose}
use Rattle.liszt_io.specs.Shelves.{Files, file, Tally}
use Rattle.liszt_io.specs.Sinks.{TakesPrefix}
use Rattle.liszt_io.specs.declared.outside.WriteFault.{WriteFault as Unwritten}
use Rattle.liszt_report.specs.declared.ended.Ended.{Ended}
use Rattle.liszt_report.specs.declared.ended.Ended.TheVariants.{Done, Limit, Trap, ReadFault, WriteFault, NoMemory}
use Rattle.liszt_report.specs.Endings.{program_ending}
use Rattle.liszt_report.specs.Texts.{check_text}
use Rattle.mesh_topology.specs.Elements.{corner_lists, count}
use Rattle.liszt_tree.specs.declared.tree.Program.{Program}
use Rattle.liszt_tree.specs.Tree.{Main, program_tree}
use Rattle.phase_types.specs.Walk.{check_fault}
use Rattle.text_scan.specs.Rows.{TextRows, text_rows}
use Rattle.liszt.specs.declared.job.CheckJob.{CheckJob}
use Rattle.liszt.specs.declared.job.SeqJob.{SeqJob}
use Rattle.liszt.specs.declared.job.StencilJob.{StencilJob}
use Rattle.liszt.specs.declared.job.Job.{Job}
use Rattle.liszt.specs.declared.job.Job.TheVariants as jobs
use Rattle.liszt.specs.Answers.{IsLost}
use Rattle.liszt_base.specs.declared.answers.LimitFault.{LimitFault}
use Rattle.liszt_report.specs.FieldValues.{FieldValues, value_at}
use Rattle.liszt_report.specs.Texts.{fields_text}
use Rattle.seq_meaning.specs.FieldStores.{StoreWords, stored_value}
use Rattle.seq_meaning.specs.declared.seq_store.SeqStore.{SeqStore}
use Rattle.liszt.specs.Expected.{Outcome, done_with, outcome_of_run, refusal, stencils_outcome, Within, WorksOn, ResultsIn, IsProgramFault, ProgramResult}

-- The answer of a step that reads an input, and the shelf's count: it rose for a ReadFault only.
abbrev pub HasStepCause : {A : Type 0} → ℕ → ℕ → Result A Ended → Type 0
HasStepCause before now (Ok value) = now ≡ before
HasStepCause before now (Err (ReadFault x)) = Rose before now
HasStepCause before now (Err Done) = ⊥
HasStepCause before now (Err WriteFault) = ⊥
HasStepCause before now (Err (Trap trap)) = ⊥
HasStepCause before now (Err ended) = now ≡ before

-- An input of a command: the files of the shelf, which input it is, and its name.
pub record InputAt : Type 0 where
  pub files : Files
  pub input : Input
  pub name : List ℕ

abbrev pub input_at : Files → Input → List ℕ → InputAt
input_at files input name = record { files = files; input = input; name = name }

-- The answer of a step where the shelf exposes its files: the result of the file's bytes, or the file is lost, or
-- memory is.
abbrev pub StepGives : {A : Type 0} → InputAt → (List ℕ → Result A Ended → Type 0) → Tally → Tally → Result A Ended → Type 0
StepGives at HasResult before now (Ok value) =
    (bytes : List ℕ) × (file at.files at.name ≡ Some bytes) × Within at.input HasResult bytes (Ok value) × (now ≡ before)
StepGives at HasResult before now (Err ended) =
    (ended ≡ NoMemory) ⊎ (((ended ≡ ReadFault at.input) × IsLost at.files before now at.name)
    ⊎ ((bytes : List ℕ) × (file at.files at.name ≡ Some bytes) × Within at.input HasResult bytes (Err ended)))

-- A result that is a program, by its tree.
abbrev pub as_tree : Result Program Ended → Result Main Ended
as_tree (Ok program) = Ok (program_tree program)
as_tree (Err ended) = Err ended

-- The result of bytes is these bytes.
abbrev pub IsItself : List ℕ → Result (List ℕ) Ended → Type 0
IsItself bytes (Ok value) = value ≡ bytes
IsItself bytes (Err ended) = ⊥

-- The result of bytes is their rows.
abbrev pub AreItsRows : List ℕ → Result TextRows Ended → Type 0
AreItsRows bytes (Ok rows) = rows ≡ text_rows bytes
AreItsRows bytes (Err ended) = ⊥

-- A mesh whose elements can be numbered with 32 bits.
pub record IsNumberable (lists : MeshLists) : Type 0 where
  pub mesh : IsMesh (length lists.points) (corner_lists lists)
  pub fits : (kind : Kind) → count lists kind < 2 ^ 32

-- The text and the outcome of a job, before anything is written.
abbrev pub check_job_text : CheckJob → List ℕ
check_job_text job = check_text job.text job.checked (count job.mesh)

-- the values of the fields of a run, and what it printed
abbrev pub run_values : StoreWords → FieldValues
run_values store field id = stored_value store (record { field = field; id = id })

abbrev pub seq_prints : SeqStore → List ℤ
seq_prints store = take store.main.printed store.main.prints

abbrev pub seq_outcome : SeqJob → Outcome
seq_outcome job =
    outcome_of_run job.end (seq_prints job.store)
    (fields_text (count job.mesh) (value_at (run_values job.store.fields)) job.checked.fields)

abbrev pub stencil_outcome : StencilJob → Outcome
stencil_outcome job = stencils_outcome job.checked job.stencils

abbrev pub job_outcome : Job → Outcome
job_outcome (jobs.Check check) = done_with (check_job_text check)
job_outcome (jobs.Stencil stencil) = stencil_outcome stencil
job_outcome (jobs.Seq seq) = seq_outcome seq

-- What a writer of an outcome does: all of its text is taken, and its ending is the result; or a prefix is taken.
abbrev pub WritesOutcome : Outcome → Option (List ℕ) → Option (List ℕ) → Result Ended Unwritten → Type 0
WritesOutcome outcome before now (Ok ended) = (ended ≡ outcome.ended) × (now ≡ append_known before outcome.text)
WritesOutcome outcome before now (Err _) = TakesPrefix before now outcome.text

-- The job of a mode on a typed program, by its outcome and by the outcomes that the mode has there; or why there is none.
abbrev pub MakesJobOf : {J : Type 0} → (J → Outcome) → (Outcome → Type 0) → Result J Ended → Type 0
MakesJobOf outcome_of Works (Ok job) = Works (outcome_of job)
MakesJobOf outcome_of Works (Err ended) = (ended ≡ NoMemory) ⊎ ((fault : LimitFault) × (ended ≡ Limit fault) × Works (refusal (Limit fault)))

-- A typed program on a mesh is a job with the outcome of the mode on them, or a limit refuses it. A program with a fault is refused.
abbrev pub MakesJob : Mode → Main → MeshLists → Result Job Ended → Type 0
MakesJob mode tree mesh (Ok job) = WorksOn mode tree mesh (job_outcome job) × (check_fault tree ≡ None)
MakesJob mode tree mesh (Err ended) =
    (ended ≡ NoMemory)
    ⊎ (((fault : ProgramFault) × (check_fault tree ≡ Some fault) × (ended ≡ program_ending fault))
    ⊎ ((fault : LimitFault) × (ended ≡ Limit fault) × WorksOn mode tree mesh (refusal (Limit fault)) × (check_fault tree ≡ None)))

-- The result of a program's text is its tree or its first fault.
abbrev pub ReadsProgram : List ℕ → Result Program (Refused ProgramFault) → Type 0
ReadsProgram text (Ok program) = ProgramResult text (Ok (program_tree program))
ReadsProgram text (Err (Fault fault)) = IsProgramFault text fault
ReadsProgram text (Err OutOfMemory) = Unit {0}

-- What is known before anything is written: the job whose outcome is that of the words and files, or the refusal.
abbrev pub Prepares : List (List ℕ) → Files → Tally → Tally → Result Job Ended → Type 0
Prepares words files before now (Ok job) = ResultsIn (IsLost files before now) words files (job_outcome job)
Prepares words files before now (Err ended) =
    (ended ≡ NoMemory) ⊎ ResultsIn (IsLost files before now) words files (refusal ended)
