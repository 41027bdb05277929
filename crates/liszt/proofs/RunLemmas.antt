-- A run over a store has the outcome of the definition.
use Rattle.std.proofs.Common.{◌≡◌, ◌<◌, ℕ, ◌+◌, ◌-◌, List, ◌++◌, get_or, length, Option, Some, None, Result, Ok, Err, MatchResult, pos, refl, sym, ap, subst, ◌∙◌, arith}
use Rattle.std.proofs.lemmas.Option.{slice_get-get_or}
use Rattle.std.specs.Option.{option_and_then, option_map}
use Rattle.std.specs.Prelude.{ℤ, false, slice_get, true, unwrap_or}
use Rattle.std.proofs.lemmas.Bool.{le-ltb, lt-ltb}
use Rattle.liszt_base.specs.MeshLists.{MeshLists}
use Rattle.liszt_base.specs.declared.accesses.Spot.{Spot}
use Rattle.liszt_base.specs.declared.answers.LimitFault.{LimitFault}
use Rattle.liszt_base.specs.declared.answers.RunEnd.{RunEnd}
use Rattle.liszt_base.specs.declared.answers.RunEnd.TheVariants.{Done as IsDone, Trap as IsTrap}
use Rattle.liszt_base.specs.declared.elements.Kind.{Kind}
use Rattle.liszt_tree.specs.Tree.{Main}
use Rattle.mesh_topology.specs.Elements.{count}
use Rattle.phase_types.specs.Checked.{HasPartsOf, checked_program}
use Rattle.phase_types.specs.declared.info.FieldInfo.{FieldInfo}
use Rattle.phase_types.specs.declared.state.CheckedProgram.{CheckedProgram}
use Rattle.phase_types.specs.Environments.{fields_of, first_declared, is_built_in}
use Rattle.phase_types.proofs.CheckedLemmas.{checked_is_typed, checked_parts}
use Rattle.kernel_eval.specs.Fits.{IsLive}
use Rattle.kernel_eval.specs.HeldFields.{HoldsFields}
use Rattle.kernel_eval.specs.Preservation.{field_values}
use Rattle.kernel_eval.specs.States.{State, value_in}
use Rattle.liszt_report.specs.declared.ended.Ended.TheVariants.{Limit, Trap}
use Rattle.liszt_report.specs.Endings.{ending_text}
use Rattle.liszt_report.specs.FieldValues.{HasOutermost, value_at}
use Rattle.liszt_report.specs.Texts.{fields_text, prints_text}
use Rattle.liszt_report.proofs.FieldLemmas.{fields_same}
use Rattle.liszt_report.proofs.WrittenLemmas.{taken_more, taken_none, taken_prefix, writes_fault, writes_last}
use Rattle.std.specs.Io.KnownBytes.{append_known}
use Rattle.liszt_io.specs.Sinks.{TakesPrefix, Writes}
use Rattle.liszt_io.specs.declared.outside.WriteFault.{WriteFault}
use Rattle.seq_meaning.specs.FieldStores.{HasSpotsOf, StoreWords, has_spot, prepared_store, view_of}
use Rattle.seq_meaning.specs.Runs.{prints_of, run, run_end}
use Rattle.seq_meaning.specs.SequentialRuns.{HasRun}
use Rattle.seq_meaning.specs.declared.seq_store.SeqStore.{SeqStore}
use Rattle.seq_meaning.proofs.OutermostFieldLemmas.{outermost_is_live}
use Rattle.liszt.specs.Expected.{Outcome, RunsOn, done_with, outcome_of_run, refusal, run_outcome, value_left}
use Rattle.liszt.specs.Internal.Steps.{run_values, seq_prints}

-- the value of a live field in a store that holds the fields
live_value : (mesh : MeshLists) (s : State) (number id : ℕ) (kind : Kind) → IsLive mesh s number kind → id < count mesh kind
    → (value : ℤ) × (value_in s.fields (record { field = number; id = id }) ≡ Some value)
live_value mesh s number id kind live below = go (field_values s number) refl live.1 where
  go : (values : Option (List ℤ)) → field_values s number ≡ values → option_map (λ values. length values) values ≡ Some (count mesh kind)
      → (value : ℤ) × (value_in s.fields (record { field = number; id = id }) ≡ Some value)
  go None at e = absurd cc
  go (Some values) at e =
      let long : length values ≡ count mesh kind = cc in
      (get_or values id (pos 0), ap (option_and_then (λ values. slice_get values id)) at ∙ slice_get-get_or values id (pos 0) (omega (arith, below, long)))

-- a store has the values of the outermost fields
pub has_outermost : (fields : List FieldInfo) (mesh : MeshLists) (store : StoreWords) → HasSpotsOf fields mesh store → HasOutermost (count mesh) fields (run_values store)
has_outermost fields mesh store h index id info at outermost below =
    let spot : Spot = record { field = first_declared + index; id = id } in
    let declared : is_built_in (first_declared + index) ≡ false = le-ltb (first_declared + index) first_declared (omega arith) in
    let number : (first_declared + index) - first_declared ≡ index = omega arith in
    let has : has_spot fields mesh spot ≡ true = rw (declared, number, at) (lt-ltb id (count mesh info.kind) below) in
    h.spots spot ∙ has

module _ (turns : ℕ) (tree : Main) (mesh : MeshLists) (checked : CheckedProgram) (is : checked_program tree ≡ Ok checked) where
  parts : HasPartsOf tree checked
  parts = checked_parts tree checked is

  pub run_limited : (fault : LimitFault) → prepared_store checked.fields mesh ≡ Err fault → RunsOn turns tree mesh (refusal (Limit fault))
  run_limited fault prepared =
      subst (λ result. MatchResult result (λ store. (end : RunEnd) × (run_end mesh tree turns ≡ Some end) × (refusal (Limit fault) ≡ run_outcome mesh tree turns end))
      (λ other. refusal (Limit fault) ≡ refusal (Limit other)))
      (sym (ap (λ fields. prepared_store fields mesh) (sym parts.fields) ∙ prepared)) refl

  module _ (store : SeqStore) where
    value_is_left : run_end mesh tree turns ≡ Some IsDone → HoldsFields (run mesh tree turns).after.state (view_of store.fields) → (index id : ℕ) (info : FieldInfo)
        → slice_get (fields_of tree) index ≡ Some info → info.scope ≡ 0 → id < count mesh info.kind
        → value_at (run_values store.fields) (first_declared + index) id ≡ value_left mesh tree turns (first_declared + index) id
    value_is_left ended holds index id info at scope below =
        let live : IsLive mesh (run mesh tree turns).after.state (first_declared + index) info.kind = outermost_is_live mesh turns index info tree (checked_is_typed tree checked is) ended at scope in
        let value = live_value mesh (run mesh tree turns).after.state (first_declared + index) id info.kind live below in
        (holds.holds (record { field = first_declared + index; id = id }) value.0 value.1).value_is ∙ sym (ap (λ o. unwrap_or o (pos 0)) value.1)

    fields_are : run_end mesh tree turns ≡ Some IsDone → HoldsFields (run mesh tree turns).after.state (view_of store.fields)
        → fields_text (count mesh) (value_at (run_values store.fields)) checked.fields ≡ fields_text (count mesh) (value_left mesh tree turns) (fields_of tree)
    fields_are ended holds =
        ap (fields_text (count mesh) (value_at (run_values store.fields))) parts.fields
        ∙ fields_same (count mesh) (value_at (run_values store.fields)) (value_left mesh tree turns) first_declared (fields_of tree) (value_is_left ended holds)

    same_outcome : (end : RunEnd) → HasRun mesh tree turns end store
        → outcome_of_run end (seq_prints store) (fields_text (count mesh) (value_at (run_values store.fields)) checked.fields) ≡ run_outcome mesh tree turns end
    same_outcome IsDone h =
        ap (λ prints. done_with (prints_text prints ++ fields_text (count mesh) (value_at (run_values store.fields)) checked.fields)) h.prints
        ∙ ap (λ text. done_with (prints_text (prints_of mesh tree turns) ++ text)) (fields_are h.ended (h.fields refl))
    same_outcome (IsTrap trap) h =
        ap (λ prints. outcome_of_run (IsTrap trap) prints (fields_text (count mesh) (value_left mesh tree turns) (fields_of tree))) h.prints

    pub run_made : (words : StoreWords) (end : RunEnd) → prepared_store checked.fields mesh ≡ Ok words → HasRun mesh tree turns end store
        → RunsOn turns tree mesh (outcome_of_run end (seq_prints store) (fields_text (count mesh) (value_at (run_values store.fields)) checked.fields))
    run_made words end prepared h =
        let outcome : Outcome = outcome_of_run end (seq_prints store) (fields_text (count mesh) (value_at (run_values store.fields)) checked.fields) in
        subst (λ result. MatchResult result (λ store. (end : RunEnd) × (run_end mesh tree turns ≡ Some end) × (outcome ≡ run_outcome mesh tree turns end)) (λ fault. outcome ≡ refusal (Limit fault)))
        (sym (ap (λ fields. prepared_store fields mesh) (sym parts.fields) ∙ prepared)) (end, h.ended, same_outcome end h)

-- what is written after the prints: the fields, or the line of the trap
abbrev pub after_prints : RunEnd → List ℕ → List ℕ
after_prints IsDone fields = fields
after_prints (IsTrap trap) fields = ending_text (Trap trap)

written_after : (prints rest : List ℕ) (old between new : Option (List ℕ)) (result : Result Unit WriteFault) → between ≡ append_known old prints → Writes rest between new result
    → Writes (prints ++ rest) old new result
written_after prints rest old between new result first second =
    writes_last (prints ++ rest) rest old between new result (taken_more prints rest (taken_none (prints ++ rest) old) refl first) second

pub run_written : (end : RunEnd) (prints : List ℤ) (fields : List ℕ) (old between new : Option (List ℕ)) (result : Result Unit WriteFault) → between ≡ append_known old (prints_text prints)
    → Writes (after_prints end fields) between new result → Writes (outcome_of_run end prints fields).text old new result
run_written IsDone prints fields old between new result first second = written_after (prints_text prints) fields old between new result first second
run_written (IsTrap trap) prints fields old between new result first second = written_after (prints_text prints) (ending_text (Trap trap)) old between new result first second

failed_before : (prints rest : List ℕ) (old new : Option (List ℕ)) (fault : WriteFault) (result : Result Unit WriteFault) → result ≡ Err fault → TakesPrefix old new prints
    → Writes (prints ++ rest) old new result
failed_before prints rest old new fault result is prefix =
    writes_fault (prints ++ rest) old new fault result is (taken_prefix prints rest (taken_none (prints ++ rest) old) refl prefix)

pub prints_failed : (end : RunEnd) (prints : List ℤ) (fields : List ℕ) (old new : Option (List ℕ)) (fault : WriteFault) (result : Result Unit WriteFault) → result ≡ Err fault
    → TakesPrefix old new (prints_text prints) → Writes (outcome_of_run end prints fields).text old new result
prints_failed IsDone prints fields old new fault result is prefix = failed_before (prints_text prints) fields old new fault result is prefix
prints_failed (IsTrap trap) prints fields old new fault result is prefix = failed_before (prints_text prints) (ending_text (Trap trap)) old new fault result is prefix
