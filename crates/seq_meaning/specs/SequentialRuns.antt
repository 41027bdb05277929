-- Sequential runs of checked programs, and of their comprehensions. This project's own.
use Rattle.std.specs.Prelude.{◌≡◌, ℕ, Some, take, Result, Ok, Err}
use Rattle.liszt_base.specs.MeshLists.{MeshLists}
use Rattle.liszt_base.specs.declared.answers.LimitFault.{LimitFault}
use Rattle.liszt_base.specs.declared.answers.Refused.{Refused}
use Rattle.liszt_base.specs.declared.answers.RunEnd.{RunEnd}
use Rattle.liszt_base.specs.declared.answers.RunEnd.TheVariants.{Done as IsDone}
use Rattle.liszt_tree.specs.Tree.{Main}
use Rattle.phase_types.specs.declared.state.CheckedProgram.{CheckedProgram}
use Rattle.kernel_eval.specs.HeldFields.{HoldsFields}
use Rattle.kernel_eval.specs.Running.{IsPrepared}
use Rattle.seq_meaning.specs.FieldStores.{HasSpotsOf, StoreWords, view_of}
use Rattle.seq_meaning.specs.MainRuns.{IsPreparedRun}
use Rattle.seq_meaning.specs.Runs.{prints_of, run, run_end}
pub use Rattle.seq_meaning.specs.declared.seq_store.SeqStore.{SeqStore}

-- A STORE IS PREPARED for a checked program and a mesh: its parts are.
pub record IsPreparedFor (checked : CheckedProgram) (mesh : MeshLists) (store : SeqStore) : Type 0 where
  pub main : IsPreparedRun checked store.main
  pub locals : IsPrepared checked store.locals.activation
  pub fields : HasSpotsOf checked.fields mesh store.fields

-- the words of a store that was prepared, or the refusal
abbrev pub words_in : Result SeqStore (Refused LimitFault) → Result StoreWords (Refused LimitFault)
words_in (Ok store) = Ok store.fields
words_in (Err refused) = Err refused

-- A STORE HAS WHAT A RUN LEAVES: the end, the prints, and, if the run is done, the values of the fields of the outermost scope
pub record HasRun (mesh : MeshLists) (program : Main) (turns : ℕ) (end : RunEnd) (store : SeqStore) : Type 0 where
  pub ended : run_end mesh program turns ≡ Some end
  pub prints : take store.main.printed store.main.prints ≡ prints_of mesh program turns
  pub fields : end ≡ IsDone → HoldsFields (run mesh program turns).after.state (view_of store.fields)
