-- A sequential run: the store through the events of the main program.
use Rattle.std.proofs.Common.{◌≡◌, ◌≢◌, ◌<◌, ◌≤◌, ℕ, ◌+◌, ◌==◌, zero, suc, List, [], ◌∷◌, ◌++◌, drop, inl, inr, length, map, take, replicate, refl, sym, ap, subst, ◌∙◌, arith}
use Rattle.std.proofs.Common.{ne_eqb}
use Rattle.std.proofs.lemmas.Bool.Decides.{eqb_tells}
use Rattle.std.proofs.lemmas.List.{append-nil}
use Rattle.std.specs.Option.{option_and_then}
use Rattle.std.specs.List.{AllByRecursion}
use Rattle.std.specs.Prelude.{Option, Some, None, is_some, unwrap_or, slice_get, ℤ, pos, Result, Ok, Err}
use Rattle.liszt_base.specs.Corners.{IsMesh}
use Rattle.liszt_base.specs.Limits.{print_limit}
use Rattle.liszt_base.specs.MeshLists.{MeshLists}
use Rattle.liszt_base.specs.declared.accesses.Spot.{Spot}
use Rattle.liszt_base.specs.declared.answers.RunEnd.{RunEnd}
use Rattle.liszt_base.specs.declared.answers.RunEnd.TheVariants.{Done as IsDone, Trap as IsTrap}
use Rattle.liszt_base.specs.declared.answers.Trap.{Trap}
use Rattle.liszt_tree.specs.Tree.{Main}
use Rattle.mesh_topology.specs.Elements.{corner_lists, count, numbers}
use Rattle.resolved_code.specs.declared.items.ItemCode.{ItemCode}
use Rattle.phase_types.specs.Checked.{HasPartsOf, checked_program}
use Rattle.phase_types.specs.declared.state.CheckedProgram.{CheckedProgram}
use Rattle.phase_types.specs.Environments.{Comprehension, lookup, parts_of}
use Rattle.phase_types.specs.Typed.{ComprehensionFits, IsTyped}
use Rattle.phase_types.proofs.CheckedLemmas.{checked_is_typed, checked_parts}
use Rattle.phase_types.proofs.ComprehensionLemmas.{comprehension_stands}
use Rattle.kernel_eval.specs.Fits.{StateFits}
use Rattle.kernel_eval.specs.HeldFields.{HoldsFields, HoldsScalars}
use Rattle.kernel_eval.specs.Iterations.{end_of}
use Rattle.kernel_eval.specs.Outcomes.{Stop, Trapped, NoMeaning, Outcome, Computation, Done, continue_with, halt, pure, ◌>>◌}
use Rattle.kernel_eval.specs.Preservation.{Commutes}
use Rattle.kernel_eval.proofs.CommutationLemmas.{commutes_then}
use Rattle.kernel_eval.specs.States.{Fields, State, field_lengths, known_scalars, value_in}
use Rattle.kernel_eval.proofs.PartLemmas.{iteration_lengths}
use Rattle.kernel_eval.proofs.ReductionLemmas.{iteration_folds}
use Rattle.seq_meaning.specs.FieldStores.{HasSpotsOf, StoreWords, declared_value, stored_value, view_of}
use Rattle.seq_meaning.specs.FieldStores.{HoldsFields as HasFields}
use Rattle.seq_meaning.specs.Internal.Iterating.{CanRunComprehension, HasRunComprehension}
use Rattle.seq_meaning.specs.MainRuns.{AreFewer, AreSame, AtItem, CanContinue, Frame, HasNext, HasOpened, InBlock, deepest, Ends, HasEvent, HaveOneMore, IsAt, MainRun, Reaches, Stands, Traps, World, logged}
use Rattle.seq_meaning.specs.Paths.{DescendBelow, DescendingFields, EntryFits}
use Rattle.seq_meaning.specs.Runs.{ComprehensionReached, Entry, Event, FieldDeclared, Progress, ScopeClosed, ScopeOpened, after_iteration, after_scope, all_or_nothing, comprehension, empty, lift_state, restored_outcome, run, with_earlier_path}
use Rattle.seq_meaning.specs.SequentialRuns.{HasRun, SeqStore}
use Rattle.seq_meaning.specs.declared.main_run.MainStep.{MainStep}
use Rattle.seq_meaning.specs.declared.main_run.MainStep.TheVariants.{Over}
use Rattle.seq_meaning.proofs.ComprehensionRunLemmas.{comprehension_knows, done_answer, trap_answer}
use Rattle.seq_meaning.proofs.IterationLemmas.{for_each_unchanged}
use Rattle.seq_meaning.proofs.MainStartLemmas.{has_an_end}
use Rattle.seq_meaning.proofs.PathEntryLemmas.{run_has_fitting_path}
use Rattle.seq_meaning.proofs.PathLemmas.{change_commutes, event_commutes, main_commutes, state_commutes}
use Rattle.seq_meaning.proofs.StoreFieldLemmas.{holds_after_declaration, some_found}
use Rattle.seq_meaning.proofs.TypedRunLemmas.{run_ends}

some_same : {A : Type 0} (x y : A) → Some x ≡ Some y → x ≡ y
some_same x y e = cc

-- THE FIELDS OF A STATE in a store, as values and as what may be loaded
words_hold : (s : State) (store : StoreWords) → HoldsFields s (view_of store) → HasFields s.fields store
words_hold s store h = record {
  values = λ spot value is.
      let held = h.holds spot value is in
      let found = some_found (stored_value store spot) held.loadable in
      found.1 ∙ ap Some (ap (λ o. unwrap_or o (pos 0)) (sym found.1) ∙ held.value_is);
}

view_holds : (s : State) (store : StoreWords) → HasFields s.fields store → HoldsFields s (view_of store)
view_holds s store h = record {
  holds = λ spot value is.
      let e = h.values spot value is in
      record { value_is = ap (λ o. unwrap_or o (pos 0)) e; loadable = ap is_some e; storable = ap is_some e };
}

pub same_fields : (s t : State) (store : StoreWords) → t.fields ≡ s.fields → HoldsFields s (view_of store) → HoldsFields t (view_of store)
same_fields s t store same h = record { holds = λ spot value is. h.holds spot value (ap (λ fields. value_in fields spot) (sym same) ∙ is) }

-- FIELDS WITH DESCENDING NUMBERS: the later ones keep their values where the first ones end
below_some : (fields : Fields) → DescendingFields fields → (bound : ℕ) × DescendBelow bound fields
below_some [] d = (0, tt {0})
below_some (field ∷ fields) d = (suc field.0, (omega arith, d))

descending : (bound : ℕ) (fields : Fields) → DescendBelow bound fields → DescendingFields fields
descending bound [] d = tt {0}
descending bound (field ∷ fields) d = d.1

found_below : (bound : ℕ) (fields : Fields) (number : ℕ) (values : List ℤ) → DescendBelow bound fields
    → lookup (λ other. other == number) fields ≡ Some values → number < bound
found_below bound [] number values d e = absurd cc
found_below bound (field ∷ fields) number values d e = elim (eqb_tells field.0 number) [
  | inl h ↦ omega (arith, d.0, h.1)
  | inr h ↦ let l = found_below field.0 fields number values d.1 (rw h.0 at e) in omega (arith, d.0, l)
]

lookup_kept : (bound : ℕ) (fields : Fields) (ended number : ℕ) (values : List ℤ) → DescendBelow bound fields
    → lookup (λ other. other == number) (drop ended fields) ≡ Some values → lookup (λ other. other == number) fields ≡ Some values
lookup_kept bound fields zero number values d e = e
lookup_kept bound [] (suc ended) number values d e = absurd cc
lookup_kept bound (field ∷ fields) (suc ended) number values d e =
    let kept = lookup_kept field.0 fields ended number values d.1 e in
    let l = found_below field.0 fields number values d.1 kept in
    rw (ne_eqb field.0 number (λ e. absurd (omega (arith, e, l)))) kept

value_found : (fields : Fields) (spot : Spot) (value : ℤ) → value_in fields spot ≡ Some value → (values : List ℤ) × (lookup (λ number. number == spot.field) fields ≡ Some values)
    × (slice_get values spot.id ≡ Some value)
value_found fields spot value is = go (lookup (λ number. number == spot.field) fields) refl is where
  go : (found : Option (List ℤ)) → lookup (λ number. number == spot.field) fields ≡ found → option_and_then (λ values. slice_get values spot.id) found ≡ Some value
      → (values : List ℤ) × (lookup (λ number. number == spot.field) fields ≡ Some values) × (slice_get values spot.id ≡ Some value)
  go None e is = absurd cc
  go (Some values) e is = (values, e, is)

value_kept : (fields : Fields) (ended : ℕ) (spot : Spot) (value : ℤ) → DescendingFields fields → value_in (drop ended fields) spot ≡ Some value → value_in fields spot ≡ Some value
value_kept fields ended spot value d is =
    let found = value_found (drop ended fields) spot value is in
    let below = below_some fields d in
    ap (option_and_then (λ values. slice_get values spot.id)) (lookup_kept below.0 fields ended spot.field found.0 below.1 found.1) ∙ found.2

descends_drop : (bound : ℕ) (fields : Fields) (ended : ℕ) → DescendBelow bound fields → DescendingFields (drop ended fields)
descends_drop bound fields zero d = descending bound fields d
descends_drop bound [] (suc ended) d = tt {0}
descends_drop bound (field ∷ fields) (suc ended) d = descends_drop field.0 fields ended d.1

dropped : (fields : Fields) (ended : ℕ) → DescendingFields fields → DescendingFields (drop ended fields)
dropped fields ended d = let below = below_some fields d in descends_drop below.0 fields ended below.1

descends_like : (bound : ℕ) (fields later : Fields) → map (λ field. field.0) later ≡ map (λ field. field.0) fields → DescendBelow bound fields → DescendBelow bound later
descends_like bound fields [] e d = tt {0}
descends_like bound [] (y ∷ later) e d = absurd cc
descends_like bound (x ∷ fields) (y ∷ later) e d =
    let key : y.0 ≡ x.0 = cc in
    let rest : map (λ field. field.0) later ≡ map (λ field. field.0) fields = cc in
    (omega (arith, d.0, key), descends_like y.0 fields later rest (subst (λ bound. DescendBelow bound fields) (sym key) d.1))

lengths_keys : (before after : Fields) → map {B = ℕ × ℕ} (λ field. (field.0, length field.1)) after ≡ map {B = ℕ × ℕ} (λ field. (field.0, length field.1)) before
    → map (λ field. field.0) after ≡ map (λ field. field.0) before
lengths_keys [] [] e = refl
lengths_keys [] (y ∷ after) e = absurd cc
lengths_keys (x ∷ before) [] e = absurd cc
lengths_keys (x ∷ before) (y ∷ after) e =
    let pair : (y.0, length y.1) ≡ (x.0, length x.1) = cc in
    let rest : map {B = ℕ × ℕ} (λ field. (field.0, length field.1)) after ≡ map {B = ℕ × ℕ} (λ field. (field.0, length field.1)) before = cc in
    let key : y.0 ≡ x.0 = ap (λ (q : ℕ × ℕ). q.0) pair in
    ap (λ n. n ∷ map (λ field. field.0) after) key ∙ ap (λ keys. x.0 ∷ keys) (lengths_keys before after rest)

-- WHAT REMAINS OF A RUN appends to the path.
stands_commute : {w : World} {frames : List Frame} {depth level : ℕ} {outside known : List ℕ} {items : List ItemCode} {remaining : Computation Progress Done}
    → Stands w frames depth level outside items known remaining → (path : List Entry) → Commutes (with_earlier_path path) remaining
stands_commute {w = w} (AtItem frame site rest new at innermost code known descends) path = main_commutes path w.mesh w.turns site rest
stands_commute {w = w} (InBlock frame inner site rest before new at found stands known descends code) path =
    commutes_then (commutes_then (commutes_then (stands_commute stands path) (λ done. change_commutes path (after_scope before))) (λ done. event_commutes path (ScopeClosed inner.block.scope)))
    (λ done. main_commutes path w.mesh w.turns site rest)

comprehension_commutes : (mesh : MeshLists) (c : Comprehension) (turns : ℕ) (rest : Computation Progress Done) → ((path : List Entry) → Commutes (with_earlier_path path) rest)
    → (path : List Entry) → Commutes (with_earlier_path path) (lift_state (all_or_nothing (comprehension mesh c turns)) >> rest)
comprehension_commutes mesh c turns rest commutes path = commutes_then (state_commutes path (all_or_nothing (comprehension mesh c turns))) (λ done. commutes path)

path_continues : (rest : Computation Progress Done) → ((path : List Entry) → Commutes (with_earlier_path path) rest) → (p : Progress)
    → (rest p).after.path ≡ p.path ++ (rest (record { state = p.state; path = [] })).after.path
path_continues rest commutes p =
    ap (λ path. (rest (record { state = p.state; path = path })).after.path) (sym (append-nil p.path))
    ∙ ap (λ outcome. outcome.after.path) ((commutes p.path).commuted (record { state = p.state; path = [] }))

-- an entry of a path fits
all_at : (P : Entry → Type 0) (before after : List Entry) (entry : Entry) → AllByRecursion P ((before ++ entry ∷ []) ++ after) → P entry
all_at P [] after entry all = all.0
all_at P (x ∷ before) after entry all = all_at P before after entry all.1

-- THE RUN IS AT A PROGRESS, and the store holds its fields.
pub record IsRunning (checked : CheckedProgram) (mesh : MeshLists) (turns : ℕ) (program : Main) (main : MainRun) (fields : StoreWords) : Type 0 where
  pub progress : Progress
  pub at : IsAt mesh program turns checked.items progress main
  pub holds : HoldsFields progress.state (view_of fields)
  pub descending : DescendingFields progress.state.fields

abbrev pub world : MeshLists → Main → ℕ → World
world mesh program turns = record { mesh = mesh; turns = turns; parts = parts_of program }

-- a comprehension that has run, and what remains after it
abbrev over_then : Computation Progress Done → Progress → State → Result Done Stop → Outcome Progress Done
over_then rest q after answer =
    continue_with (λ done. rest) (record q { state = (restored_outcome q.state after answer).after }) (restored_outcome q.state after answer).answer

module _ (checked : CheckedProgram) (mesh : MeshLists) (turns : ℕ) (program : Main) (is_checked : checked_program program ≡ Ok checked)
    (is_mesh : IsMesh (length mesh.points) (corner_lists mesh)) where
  typed : IsTyped program
  typed = checked_is_typed program checked is_checked

  parts : HasPartsOf program checked
  parts = checked_parts program checked is_checked

  has_meaning : (p : Progress) (remaining : Computation Progress Done) → run mesh program turns ≡ remaining p → (remaining p).answer ≢ Err NoMeaning
  has_meaning p remaining is none =
      has_an_end (run mesh program turns).answer (run_ends mesh turns is_mesh program typed) (ap (λ outcome. outcome.answer) is ∙ none)

  entry_fits : (event : Event) (later : Progress) (rest : Computation Progress Done) → ((path : List Entry) → Commutes (with_earlier_path path) rest)
      → run mesh program turns ≡ rest (logged event later) → EntryFits mesh program (record { event = event; state = later.state })
  entry_fits event later rest commutes is =
      all_at (EntryFits mesh program) later.path (rest (record { state = later.state; path = [] })).after.path (record { event = event; state = later.state })
      (subst (AllByRecursion (EntryFits mesh program)) (ap (λ outcome. outcome.after.path) is ∙ path_continues rest commutes (logged event later))
      (run_has_fitting_path mesh turns program typed).entries)

  module _ (main after : MainRun) (fields : StoreWords) (r : IsRunning checked mesh turns program main fields) where
    -- an event that leaves the fields as they are, or ends some of them
    pub scope_opened : (scope : ℕ) → HasEvent (world mesh program turns) (ScopeOpened scope) AreSame 0 [] checked.items r.progress r.at.remaining after
        → IsRunning checked mesh turns program after fields
    scope_opened scope e = record {
      progress = logged (ScopeOpened scope) e.later;
      at = record { remaining = e.rest; is = r.at.is ∙ e.is; stands = e.stands };
      holds = same_fields r.progress.state e.later.state fields e.fields r.holds;
      descending = subst DescendingFields (sym e.fields) r.descending;
    }

    pub scope_closed : (scope : ℕ) → HasEvent (world mesh program turns) (ScopeClosed scope) AreFewer 0 [] checked.items r.progress r.at.remaining after
        → IsRunning checked mesh turns program after fields
    scope_closed scope e = record {
      progress = logged (ScopeClosed scope) e.later;
      at = record { remaining = e.rest; is = r.at.is ∙ e.is; stands = e.stands };
      holds = record {
        holds = λ spot value is.
            r.holds.holds spot value (value_kept r.progress.state.fields e.fields.ended spot value r.descending (ap (λ fields. value_in fields spot) (sym e.fields.are) ∙ is));
      };
      descending = subst DescendingFields (sym e.fields.are) (dropped r.progress.state.fields e.fields.ended r.descending);
    }

    pub field_declared : (field : ℕ) (value : ℤ) (now : StoreWords)
        → HasEvent (world mesh program turns) (FieldDeclared field value) (HaveOneMore (world mesh program turns) field value) 0 [] checked.items r.progress r.at.remaining after
        → HasSpotsOf checked.fields mesh fields → ((spot : Spot) → stored_value now spot ≡ declared_value field value spot (stored_value fields spot))
        → IsRunning checked mesh turns program after now
    field_declared field value now e spots values = record {
      progress = logged (FieldDeclared field value) e.later;
      at = record { remaining = e.rest; is = r.at.is ∙ e.is; stands = e.stands };
      holds = view_holds e.later.state now
          (subst (λ live. HasFields live now) (sym (e.fields.are ∙ ap (λ number. (number, replicate (count mesh e.fields.info.kind) value) ∷ r.progress.state.fields) e.fields.number))
          (holds_after_declaration checked.fields mesh fields now r.progress.state.fields e.fields.index e.fields.info value spots
          (words_hold r.progress.state fields r.holds) (ap (λ fields. slice_get fields e.fields.index) parts.fields ∙ e.fields.found)
          (λ spot. values spot ∙ ap (λ number. declared_value number value spot (stored_value fields spot)) e.fields.number)));
      descending = (entry_fits (FieldDeclared field value) e.later e.rest (stands_commute e.stands.stands) (r.at.is ∙ e.is)).fields;
    }

    -- THE END
    pub run_done : (store : SeqStore) → store.main ≡ after → store.fields ≡ fields → Ends (world mesh program turns) [] r.progress r.at.remaining after
        → HasRun mesh program turns IsDone store
    run_done store main_is fields_are e =
        let is : run mesh program turns ≡ pure (tt {0}) e.later = r.at.is ∙ e.is in
        record {
          ended = ap (λ outcome. end_of outcome.answer) is;
          prints = ap (λ (main : MainRun). take main.printed main.prints) main_is ∙ sym e.has_state.prints ∙ sym (ap (λ outcome. outcome.after.state.prints) is);
          fields = λ done. subst (λ fields. HoldsFields (run mesh program turns).after.state (view_of fields)) (sym fields_are)
              (same_fields r.progress.state (run mesh program turns).after.state fields (ap (λ outcome. outcome.after.state.fields) is ∙ e.fields) r.holds);
        }

    pub run_trapped : (store : SeqStore) (trap : Trap) → store.main ≡ after → Traps (world mesh program turns) trap r.progress r.at.remaining after
        → HasRun mesh program turns (IsTrap trap) store
    run_trapped store trap main_is e =
        let is : run mesh program turns ≡ halt (Trapped trap) e.later = r.at.is ∙ e.is in
        record {
          ended = ap (λ outcome. end_of outcome.answer) is;
          prints = ap (λ (main : MainRun). take main.printed main.prints) main_is ∙ sym e.has_state.prints ∙ sym (ap (λ outcome. outcome.after.state.prints) is);
          fields = λ done. absurd cc;
        }

    -- COMPREHENSIONS
    module _ (k : ℕ) (e : Reaches (world mesh program turns) k 0 [] checked.items r.progress r.at.remaining after) where
      abbrev there : Progress
      there = logged (ComprehensionReached k) e.later

      run_is : run mesh program turns ≡ over_then e.rest there (comprehension mesh e.c turns e.later.state).after (comprehension mesh e.c turns e.later.state).answer
      run_is = r.at.is ∙ e.is

      pub phase_fits : StateFits mesh e.c.environment e.later.state
      phase_fits =
          let fits = entry_fits (ComprehensionReached k) e.later (lift_state (all_or_nothing (comprehension mesh e.c turns)) >> e.rest)
          (comprehension_commutes mesh e.c turns e.rest (stands_commute e.stands)) run_is in
          let phase = fits.phase k refl in
          subst (λ (c : Comprehension). StateFits mesh c.environment e.later.state) (some_same phase.0 e.c (sym phase.1 ∙ e.found)) phase.2

      abbrev pub can_run : (store : SeqStore) → store.main ≡ after → store.fields ≡ fields → CanRunComprehension checked k mesh store
      can_run store main_is fields_are = record {
        program = program;
        is_checked = is_checked;
        comprehension = e.c;
        is = e.found;
        state = e.later.state;
        fits = phase_fits;
        scalars = subst (λ main. HoldsScalars e.later.state main.scalars) (sym main_is) e.has_state.scalars;
        fields = subst (λ fields. HoldsFields e.later.state (view_of fields)) (sym fields_are) (same_fields r.progress.state e.later.state fields e.fields r.holds);
      }

      module _ (before now : SeqStore) (main_is : before.main ≡ after) where
        pub comprehension_done : HasRunComprehension mesh e.c turns e.later.state IsDone before now → IsRunning checked mesh turns program now.main now.fields
        comprehension_done h = record {
          progress = later;
          at = record {
            remaining = e.rest;
            is = is;
            stands = record {
              stands = subst (λ (main : MainRun). Stands (world mesh program turns) main.frames main.depth 0 [] checked.items (known_scalars later.state) e.rest) (sym main_now)
                  (subst (λ known. Stands (world mesh program turns) after.frames after.depth 0 [] checked.items known e.rest) (sym (comprehension_knows mesh e.c turns e.later.state)) e.stands);
              has_state = record {
                scalars = h.scalars refl;
                prints = for_each_unchanged (λ s. s.prints) (after_iteration mesh e.c turns) (λ id s. (iteration_folds mesh e.c turns s id fits).prints_are) ids e.later.state
                    ∙ e.has_state.prints ∙ sym (ap (λ (main : MainRun). take main.printed main.prints) main_now);
                turns = for_each_unchanged (λ s. s.turns) (after_iteration mesh e.c turns) (λ id s. refl) ids e.later.state
                    ∙ e.has_state.turns ∙ sym (ap (λ (main : MainRun). main.turns) main_now);
                each_scalar = h.count ∙ ap (λ (main : MainRun). length main.scalars) main_is ∙ e.has_state.each_scalar;
                each_print = ap (λ (main : MainRun). length main.prints) main_now ∙ e.has_state.each_print;
                printed = subst (λ (main : MainRun). main.printed ≤ print_limit) (sym main_now) e.has_state.printed;
              };
              room = subst (λ (main : MainRun). 0 + deepest checked.items < length main.frames) (sym main_now) e.room;
              has_meaning = has_meaning later e.rest is;
            };
          };
          holds = h.fields refl;
          descending = let below = below_some r.progress.state.fields r.descending in
              descending below.0 later.state.fields (descends_like below.0 r.progress.state.fields later.state.fields (keys ∙ ap (map (λ field. field.0)) e.fields) below.1);
        } where
          ids : List ℕ
          ids = numbers 0 (count mesh e.c.over)

          keys : map (λ field. field.0) (comprehension mesh e.c turns e.later.state).after.fields ≡ map (λ field. field.0) e.later.state.fields
          keys = lengths_keys e.later.state.fields (comprehension mesh e.c turns e.later.state).after.fields
              (for_each_unchanged field_lengths (after_iteration mesh e.c turns) (λ id s. iteration_lengths mesh e.c turns s id) ids e.later.state)

          fits : ComprehensionFits e.c
          fits = (comprehension_stands program typed k e.c e.found).fits

          later : Progress
          later = record there { state = (comprehension mesh e.c turns e.later.state).after }

          is : run mesh program turns ≡ e.rest later
          is = run_is
              ∙ ap (over_then e.rest there (comprehension mesh e.c turns e.later.state).after) (done_answer (comprehension mesh e.c turns e.later.state).answer h.ended)

          main_now : now.main ≡ record after { scalars = now.main.scalars }
          main_now = h.main ∙ ap (λ (main : MainRun). record main { scalars = now.main.scalars }) main_is

        pub comprehension_trapped : (trap : Trap) → HasRunComprehension mesh e.c turns e.later.state (IsTrap trap) before now → HasRun mesh program turns (IsTrap trap) now
        comprehension_trapped trap h = record {
          ended = ap (λ outcome. end_of outcome.answer) is;
          prints = ap (λ (main : MainRun). take main.printed main.prints) (h.main ∙ ap (λ (main : MainRun). record main { scalars = now.main.scalars }) main_is)
              ∙ sym e.has_state.prints ∙ sym (ap (λ outcome. outcome.after.state.prints) is);
          fields = λ done. absurd cc;
        } where
          is : run mesh program turns ≡ halt (Trapped trap) there
          is = run_is
              ∙ ap (over_then e.rest there (comprehension mesh e.c turns e.later.state).after) (trap_answer (comprehension mesh e.c turns e.later.state).answer trap h.ended)

-- AT THE START, and at each event
pub starts : (checked : CheckedProgram) (mesh : MeshLists) (turns : ℕ) (program : Main) (step : MainStep) (main : MainRun) (fields : StoreWords)
    → HasOpened mesh program turns checked.items step main → IsRunning checked mesh turns program main fields
starts checked mesh turns program step main fields opened = record {
  progress = logged (ScopeOpened 0) (record { state = empty turns; path = [] });
  at = opened.at;
  holds = record { holds = λ spot value is. absurd cc };
  descending = tt {0};
}

pub can_continue : (checked : CheckedProgram) (mesh : MeshLists) (turns : ℕ) (program : Main) (main : MainRun) (fields : StoreWords)
    → IsRunning checked mesh turns program main fields → CanContinue checked main
can_continue checked mesh turns program main fields r =
    inr (record { w = world mesh program turns; outside = []; p = r.progress; remaining = r.at.remaining; stands = r.at.stands })

pub run_over : (checked : CheckedProgram) (mesh : MeshLists) (turns : ℕ) (program : Main) → checked_program program ≡ Ok checked → IsMesh (length mesh.points) (corner_lists mesh)
    → (main after : MainRun) (fields : StoreWords) (r : IsRunning checked mesh turns program main fields) (store : SeqStore) → store.main ≡ after → store.fields ≡ fields
    → (end : RunEnd) → HasNext (world mesh program turns) checked.items r.progress r.at.remaining (Over end) after → HasRun mesh program turns end store
run_over checked mesh turns program is is_mesh main after fields r store main_is fields_are IsDone e = run_done checked mesh turns program is is_mesh main after fields r store main_is fields_are e
run_over checked mesh turns program is is_mesh main after fields r store main_is fields_are (IsTrap trap) e = run_trapped checked mesh turns program is is_mesh main after fields r store trap main_is e
