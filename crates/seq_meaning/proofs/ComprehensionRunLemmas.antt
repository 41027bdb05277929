-- A comprehension over a store: its iterations one after the other, and the scalars after them.
use Rattle.std.proofs.Common.{◌≡◌, ◌<◌, ◌≤◌, ◌-◌, ◌+◌, ◌==◌, inl, inr, ℕ, suc, List, [], ◌∷◌, ◌++◌, length, get_or, pos, map, refl, sym, ap, subst, ◌∙◌, arith}
use Rattle.std.proofs.lemmas.Bool.{cases_Bool}
use Rattle.std.proofs.lemmas.Bool.Decides.{eqb_tells, nat_tests}
use Rattle.std.proofs.lemmas.List.Sums.{fold-append}
use Rattle.std.proofs.lemmas.Option.{get_or_from_slice_get, slice_get_within}
use Rattle.std.specs.List.{fold as fold_list, range_with_len, slice_set}
use Rattle.std.specs.Option.{option_and_then, option_map}
use Rattle.std.specs.Prelude.{Option, Some, None, slice_get, ℤ, Result, Ok, Err}
use Rattle.liszt_base.specs.MeshLists.{MeshLists}
use Rattle.liszt_base.specs.Reductions.{InRange, fold, identity_of}
use Rattle.liszt_base.specs.declared.accesses.Mode.{Mode}
use Rattle.liszt_base.specs.declared.accesses.Mode.TheVariants.{Read, Write, Reduce}
use Rattle.liszt_base.specs.declared.answers.RunEnd.TheVariants.{Done as IsDone, Trap as IsTrap}
use Rattle.liszt_base.specs.declared.answers.Trap.{Trap}
use Rattle.liszt_base.specs.declared.elements.Kind.{Kind}
use Rattle.liszt_base.specs.declared.elements.Op.{Op}
use Rattle.liszt_tree.specs.Tree.{Main}
use Rattle.mesh_topology.specs.Elements.{count, numbers}
use Rattle.resolved_code.specs.declared.items.ComprehensionCode.{ComprehensionCode}
use Rattle.phase_types.specs.Checked.{HasPartsOf, checked_kind, checked_mode, checked_program}
use Rattle.phase_types.specs.declared.state.CheckedProgram.{CheckedProgram}
use Rattle.phase_types.specs.Environments.{Comprehension, comprehension_of, lookup}
use Rattle.phase_types.specs.Typed.{ComprehensionFits}
use Rattle.phase_types.specs.Walk.{OfScalar, mode_in}
use Rattle.phase_types.proofs.CheckedLemmas.{checked_is_typed, checked_parts}
use Rattle.phase_types.proofs.ComprehensionLemmas.{comprehension_stands}
use Rattle.code_eval.specs.declared.activation.Activation.{Activation}
use Rattle.code_eval.specs.Stores.{HasActed}
use Rattle.kernel_eval.specs.Fits.{StateFits}
use Rattle.kernel_eval.specs.HeldFields.{HoldsFields, HoldsScalars}
use Rattle.kernel_eval.specs.Iterations.{acts, end_of, iteration, partials_after}
use Rattle.kernel_eval.specs.Outcomes.{Stop, Trapped, NoMeaning, Done, continue_with, pure}
use Rattle.kernel_eval.specs.Running.{CanIterate, HasBegun, HasIterated, IsPrepared}
use Rattle.kernel_eval.specs.States.{State, known_scalars, scalar_value}
use Rattle.kernel_eval.proofs.HeldFieldLemmas.{fields_admit, fields_held_after}
use Rattle.kernel_eval.proofs.PartLemmas.{iteration_knows}
use Rattle.kernel_eval.proofs.ReductionLemmas.{from_identity, iteration_folds_both, unreduced_is_unchanged}
use Rattle.kernel_eval.proofs.ShapeLemmas.{still_fits}
use Rattle.kernel_eval.proofs.TypedEvaluationLemmas.{iteration_fits}
use Rattle.seq_meaning.specs.FieldStores.{StoreWords, view_of}
use Rattle.seq_meaning.specs.declared.seq_store.SeqStore.{SeqStore}
use Rattle.seq_meaning.specs.Internal.Iterating.{AreReduced, AreReducedBelow, CanRunComprehension, CanRunIterations, HasReduced, HasRunIterations, HaveReduced, IsIterating, value_after}
use Rattle.seq_meaning.specs.Runs.{after_iteration, comprehension, iterations}
use Rattle.seq_meaning.proofs.IterationLemmas.{for_each_unchanged}
use Rattle.seq_meaning.proofs.MainStepLemmas.{length_set, set_here, set_there}

one_more : (n : ℕ) → n + 1 ≡ suc n
one_more n = omega arith

numbers_next : (low high : ℕ) → low < high → numbers low high ≡ low ∷ numbers (suc low) high
numbers_next low high l = let e : high - low ≡ suc (high - suc low) = omega (arith, l) in
    ap (range_with_len low) e ∙ ap (λ next. low ∷ range_with_len next (high - suc low)) (one_more low)

no_numbers : (low high : ℕ) → high ≤ low → numbers low high ≡ []
no_numbers low high l = let e : high - low ≡ 0 = omega (arith, l) in ap (range_with_len low) e

pub done_answer : (answer : Result Done Stop) → end_of answer ≡ Some IsDone → answer ≡ Ok (tt {0})
done_answer (Ok done) e = refl
done_answer (Err (Trapped trap)) e = absurd cc
done_answer (Err NoMeaning) e = absurd cc

pub trap_answer : (answer : Result Done Stop) (trap : Trap) → end_of answer ≡ Some (IsTrap trap) → answer ≡ Err (Trapped trap)
trap_answer (Ok done) trap e = absurd cc
trap_answer (Err (Trapped other)) trap e = let same : other ≡ trap = cc in ap (λ t. Err (Trapped t)) same
trap_answer (Err NoMeaning) trap e = absurd cc

module _ (mesh : MeshLists) (c : Comprehension) (turns : ℕ) (fits : ComprehensionFits c) where
  -- THE STATE AFTER AN ITERATION, which has the turns of the main program
  abbrev next_state : State → ℕ → State
  next_state now id = record (iteration mesh c turns now id).after.state { turns = now.turns }

  abbrev next_partials : List ℤ → State → ℕ → List ℤ
  next_partials partials now id = partials_after partials (iteration mesh c turns now id).after.folds

  unreduced_next : (now : State) (id scalar : ℕ) (mode : Option Mode) → mode_in c (OfScalar scalar) ≡ mode → ((op : Op) → mode ≡ Some (Reduce op) → ⊥)
      → scalar_value (next_state now id) scalar ≡ scalar_value now scalar
  unreduced_next now id scalar mode is none = unreduced_is_unchanged mesh c turns now id scalar fits (λ op e. none op (sym is ∙ e))

  not_none : (op : Op) → ◌≡◌ {A = Option Mode} None (Some (Reduce op)) → ⊥
  not_none op e = cc

  not_read : (op : Op) → Some Read ≡ Some (Reduce op) → ⊥
  not_read op e = cc

  not_write : (op : Op) → Some Write ≡ Some (Reduce op) → ⊥
  not_write op e = cc

  reduced_next : (now : State) (id scalar : ℕ) (old : ℤ) (partials : List ℤ) → scalar < length partials → (mode : Option Mode) → mode_in c (OfScalar scalar) ≡ mode
      → HasReduced mode old (get_or partials scalar (pos 0)) (scalar_value now scalar)
      → HasReduced mode old (get_or (next_partials partials now id) scalar (pos 0)) (scalar_value (next_state now id) scalar)
  reduced_next now id scalar old partials below (Some (Reduce op)) is h =
      let f = iteration_folds_both mesh c turns now id scalar op (fold_list (fold op) old h.0) partials fits is h.2 below in (
        h.0 ++ f.operands,
        f.partial_is ∙ ap (λ start. fold_list (fold op) start f.operands) h.1 ∙ sym (fold-append (fold op) (identity_of op) h.0 f.operands),
        f.value_is ∙ ap Some (sym (fold-append (fold op) old h.0 f.operands)),
      )
  reduced_next now id scalar old partials below (Some Read) is h = unreduced_next now id scalar (Some Read) is not_read ∙ h
  reduced_next now id scalar old partials below (Some Write) is h = unreduced_next now id scalar (Some Write) is not_write ∙ h
  reduced_next now id scalar old partials below None is h = unreduced_next now id scalar None is not_none ∙ h

  module _ (s : State) (id : ℕ) (a after : Activation) (store later : StoreWords) (i : IsIterating mesh c turns s id a store)
      (below : (scalar : ℕ) (old : ℤ) → scalar_value s scalar ≡ Some old → scalar < length a.partials) where
    next_fits : StateFits mesh c.environment (next_state i.state id)
    next_fits = still_fits (record { fields = refl; scalars = refl }) (iteration_fits mesh c turns i.state id i.fits)

    next_holds : HasActed (acts mesh c turns i.state id) (view_of store) (view_of later) → HoldsFields (next_state i.state id) (view_of later)
    next_holds acted = record { holds = (fields_held_after mesh c turns i.state id (view_of store) (view_of later) i.fields acted).holds }

    next_reduced : after.partials ≡ next_partials a.partials i.state id → HaveReduced c s after.partials (next_state i.state id)
    next_reduced is scalar old e =
        subst (λ partials. HasReduced (mode_in c (OfScalar scalar)) old (get_or partials scalar (pos 0)) (scalar_value (next_state i.state id) scalar)) (sym is)
        (reduced_next i.state id scalar old a.partials (below scalar old e) (mode_in c (OfScalar scalar)) refl (i.reduced scalar old e))

    then_rest : id < count mesh c.over → (answer : Result Done Stop) → (iteration mesh c turns i.state id).answer ≡ answer
        → continue_with (λ done. iterations mesh c turns (numbers (suc id) (count mesh c.over))) (next_state i.state id) answer ≡ comprehension mesh c turns s
    then_rest l answer is =
        ap (continue_with (λ done. iterations mesh c turns (numbers (suc id) (count mesh c.over))) (next_state i.state id)) (sym is)
        ∙ ap (λ ids. iterations mesh c turns ids i.state) (sym (numbers_next id (count mesh c.over) l)) ∙ i.rest

    pub iterated : id < count mesh c.over → HasIterated mesh c turns i.state id a (view_of store) IsDone after (view_of later)
        → IsIterating mesh c turns s (id + 1) after later
    iterated l h = record {
      state = next_state i.state id;
      rest = ap (λ next. iterations mesh c turns (numbers next (count mesh c.over)) (next_state i.state id)) (one_more id)
          ∙ then_rest l (Ok tt) (done_answer (iteration mesh c turns i.state id).answer h.ended);
      fits = next_fits;
      fields = next_holds h.acted;
      read = λ scalar value mode is.
          ap (λ scalars. get_or scalars scalar (pos 0)) h.scalars ∙ i.read scalar value mode (sym (unreduced_next i.state id scalar (Some Read) mode not_read) ∙ is);
      reduced = next_reduced h.partials;
    }

    pub trapped_at : id < count mesh c.over → (trap : Trap) → HasIterated mesh c turns i.state id a (view_of store) (IsTrap trap) after (view_of later)
        → HasRunIterations mesh c turns s (IsTrap trap) after later
    trapped_at l trap h =
        let e = then_rest l (Err (Trapped trap)) (trap_answer (iteration mesh c turns i.state id).answer trap h.ended) in
        record {
          ended = ap (λ outcome. end_of outcome.answer) (sym e);
          fields = subst (λ outcome. HoldsFields outcome.after (view_of later)) e (next_holds h.acted);
          reduced = subst (λ outcome. HaveReduced c s after.partials outcome.after) e (next_reduced h.partials);
        }

    pub all_iterated : count mesh c.over ≤ id → HasRunIterations mesh c turns s IsDone a store
    all_iterated l =
        let e : pure (tt {0}) i.state ≡ comprehension mesh c turns s = ap (λ ids. iterations mesh c turns ids i.state) (sym (no_numbers id (count mesh c.over) l)) ∙ i.rest in
        record {
          ended = ap (λ outcome. end_of outcome.answer) (sym e);
          fields = subst (λ outcome. HoldsFields outcome.after (view_of store)) e i.fields;
          reduced = subst (λ outcome. HaveReduced c s a.partials outcome.after) e i.reduced;
        }

-- THE START, and each iteration
module _ (checked : CheckedProgram) (k : ℕ) (mesh : MeshLists) (turns : ℕ) (a : Activation) (store : StoreWords) (can : CanRunIterations checked k mesh a store) where
  parts : HasPartsOf can.program checked
  parts = checked_parts can.program checked can.is_checked

  pub typed : ComprehensionFits can.comprehension
  typed = (comprehension_stands can.program (checked_is_typed can.program checked can.is_checked) k can.comprehension can.is).fits

  pub partial_is_there : IsPrepared checked a → (now : Activation) → IsPrepared checked now → (scalar : ℕ) (old : ℤ) → scalar_value can.state scalar ≡ Some old
      → scalar < length now.partials
  partial_is_there prepared now still scalar old is =
      let l = slice_get_within a.scalars scalar old (can.scalars.holds scalar old is) in omega (arith, l, prepared.scalars, still.partials)

  pub mode_is : (scalar : ℕ) → checked_mode checked k (OfScalar scalar) ≡ mode_in can.comprehension (OfScalar scalar)
  mode_is scalar = parts.scalar_modes k scalar ∙ ap (option_and_then (λ c. mode_in c (OfScalar scalar))) can.is

  pub iterating : IsPrepared checked a → IsIterating mesh can.comprehension turns can.state 0 a store
  iterating prepared = record {
    state = can.state;
    rest = refl;
    fits = can.fits;
    fields = can.fields;
    read = λ scalar value mode is. get_or_from_slice_get a.scalars scalar value (pos 0) (can.scalars.holds scalar value is);
    reduced = λ scalar old e. start scalar old e (mode_in can.comprehension (OfScalar scalar)) refl;
  } where
    start : (scalar : ℕ) (old : ℤ) → scalar_value can.state scalar ≡ Some old → (mode : Option Mode) → mode_in can.comprehension (OfScalar scalar) ≡ mode
        → HasReduced mode old (get_or a.partials scalar (pos 0)) (scalar_value can.state scalar)
    start scalar old e (Some (Reduce op)) is =
        let l = partial_is_there prepared a prepared scalar old e in
        ([], can.identities scalar op (omega (arith, l, prepared.partials)) (mode_is scalar ∙ is), e)
    start scalar old e (Some Read) is = e
    start scalar old e (Some Write) is = e
    start scalar old e None is = e

  pub kind_is : (over : Kind) → checked_kind checked k ≡ Some over → over ≡ can.comprehension.over
  kind_is over is = let e : Some over ≡ Some can.comprehension.over = sym is ∙ parts.kinds k ∙ ap (option_map (λ (c : Comprehension). c.over)) can.is in cc

  pub within : (over : Kind) → checked_kind checked k ≡ Some over → (n id : ℕ) → n ≡ count mesh over → id < n → id < count mesh can.comprehension.over
  within over kind n id is l = let e : n ≡ count mesh can.comprehension.over = is ∙ ap (count mesh) (kind_is over kind) in omega (arith, l, e)

  pub beyond : (over : Kind) → checked_kind checked k ≡ Some over → (n id : ℕ) → n ≡ count mesh over → n ≤ id → count mesh can.comprehension.over ≤ id
  beyond over kind n id is l = let e : n ≡ count mesh can.comprehension.over = is ∙ ap (count mesh) (kind_is over kind) in omega (arith, l, e)

  abbrev pub can_iterate : (id : ℕ) (now : Activation) (at : StoreWords) → id < count mesh can.comprehension.over → IsIterating mesh can.comprehension turns can.state id now at
      → CanIterate checked k mesh turns id now (view_of at)
  can_iterate id now at l i = record {
    program = can.program;
    is_checked = can.is_checked;
    comprehension = can.comprehension;
    is = can.is;
    typed = typed;
    state = i.state;
    fits = i.fits;
    scalars = i.read;
    below = l;
    admits = fields_admit mesh can.comprehension turns i.state id (view_of at) typed i.fields;
  }

-- THE SCALARS AFTER A COMPREHENSION are those before it, folded with the partials where it reduces them.
known_value : (before after : List (ℕ × ℤ)) → map (λ scalar. scalar.0) after ≡ map (λ scalar. scalar.0) before → (scalar : ℕ) (value : ℤ)
    → lookup (λ other. other == scalar) after ≡ Some value → (old : ℤ) × (lookup (λ other. other == scalar) before ≡ Some old)
known_value before [] known scalar value is = absurd cc
known_value [] (y ∷ after) known scalar value is = absurd cc
known_value (x ∷ before) (y ∷ after) known scalar value is = elim (cases_Bool (x.0 == scalar)) [
  | inl h ↦ (x.1, rw h refl)
  | inr h ↦
      let same : y.0 ≡ x.0 = cc in
      let rest : map (λ scalar. scalar.0) after ≡ map (λ scalar. scalar.0) before = cc in
      let found = known_value before after rest scalar value (rw (ap (λ number. number == scalar) same ∙ h) at is) in (found.0, rw h found.1)
]

pub comprehension_knows : (mesh : MeshLists) (c : Comprehension) (turns : ℕ) (s : State) → known_scalars (comprehension mesh c turns s).after ≡ known_scalars s
comprehension_knows mesh c turns s =
    for_each_unchanged known_scalars (after_iteration mesh c turns) (λ id s. iteration_knows mesh c turns s id) (numbers 0 (count mesh c.over)) s

module _ (checked : CheckedProgram) (k : ℕ) (c : Comprehension) (modes : (scalar : ℕ) → checked_mode checked k (OfScalar scalar) ≡ mode_in c (OfScalar scalar))
    (s t : State) (partials old new : List ℤ) (known : known_scalars t ≡ known_scalars s) (held : HoldsScalars s old) (reduced : HaveReduced c s partials t)
    (are : AreReduced checked k partials old new) where
  reduced_value : (scalar : ℕ) (value was : ℤ) → scalar_value s scalar ≡ Some was → scalar_value t scalar ≡ Some value → (mode : Option Mode) → mode_in c (OfScalar scalar) ≡ mode
      → HasReduced mode was (get_or partials scalar (pos 0)) (scalar_value t scalar) → slice_get new scalar ≡ Some value
  reduced_value scalar value was before is (Some (Reduce op)) mode h =
      are.values scalar was (held.holds scalar was before)
      ∙ ap (λ mode. Some (value_after mode was (get_or partials scalar (pos 0)))) (modes scalar ∙ mode)
      ∙ ap (λ partial. Some (fold op was partial)) h.1
      ∙ ap Some (sym (from_identity op was h.0 (are.in_range scalar was (held.holds scalar was before))))
      ∙ sym h.2 ∙ is
  reduced_value scalar value was before is (Some Read) mode h =
      are.values scalar was (held.holds scalar was before) ∙ ap (λ mode. Some (value_after mode was (get_or partials scalar (pos 0)))) (modes scalar ∙ mode) ∙ sym h ∙ is
  reduced_value scalar value was before is (Some Write) mode h =
      are.values scalar was (held.holds scalar was before) ∙ ap (λ mode. Some (value_after mode was (get_or partials scalar (pos 0)))) (modes scalar ∙ mode) ∙ sym h ∙ is
  reduced_value scalar value was before is None mode h =
      are.values scalar was (held.holds scalar was before) ∙ ap (λ mode. Some (value_after mode was (get_or partials scalar (pos 0)))) (modes scalar ∙ mode) ∙ sym h ∙ is

  pub scalars_held : HoldsScalars t new
  scalars_held = record {
    holds = λ scalar value is.
        let was = known_value s.scalars t.scalars known scalar value is in
        reduced_value scalar value was.0 was.1 is (mode_in c (OfScalar scalar)) refl (reduced scalar was.0 was.1);
  }

module _ (checked : CheckedProgram) (k : ℕ) (partials old : List ℤ) where
  pub none_reduced : AreReducedBelow checked k partials old old 0
  none_reduced = record {
    count = refl;
    in_range = λ scalar value is l. absurd (omega (arith, l));
    values = λ scalar value is l. absurd (omega (arith, l));
    rest = λ scalar l. refl;
  }

  pub one_reduced : (now : List ℤ) (scalar : ℕ) (was value : ℤ) → AreReducedBelow checked k partials old now scalar → slice_get now scalar ≡ Some was → InRange was
      → value ≡ value_after (checked_mode checked k (OfScalar scalar)) was (get_or partials scalar (pos 0)) → AreReducedBelow checked k partials old (slice_set now scalar value) (scalar + 1)
  one_reduced now scalar was value h at range is = record {
    count = length_set now scalar value ∙ h.count;
    in_range = λ j v old_is l. elim (eqb_tells j scalar) [
      | inl e ↦ subst InRange (same_value j v old_is e.1) range
      | inr e ↦ h.in_range j v old_is (less j l e.1)
    ];
    values = λ j v old_is l. elim (eqb_tells j scalar) [
      | inl e ↦
          ap (slice_get (slice_set now scalar value)) e.1 ∙ set_here now scalar value (slice_get_within now scalar was at)
          ∙ ap Some (is ∙ ap (λ number. value_after (checked_mode checked k (OfScalar number)) was (get_or partials number (pos 0))) (sym e.1)
          ∙ ap (λ was. value_after (checked_mode checked k (OfScalar j)) was (get_or partials j (pos 0))) (same_value j v old_is e.1))
      | inr e ↦ set_there now scalar j value (λ f. e.1 (sym f)) ∙ h.values j v old_is (less j l e.1)
    ];
    rest = λ j l. set_there now scalar j value (λ f. absurd (omega (arith, l, f))) ∙ h.rest j (omega (arith, l));
  } where
    same_value : (j : ℕ) (v : ℤ) → slice_get old j ≡ Some v → j ≡ scalar → was ≡ v
    same_value j v old_is e =
        let f : Some was ≡ Some v = sym at ∙ h.rest scalar (omega arith) ∙ ap (slice_get old) (sym e) ∙ old_is in cc

    less : (j : ℕ) → j < scalar + 1 → (j ≡ scalar → ⊥) → j < scalar
    less j l n = elim (eqb_tells j scalar) [
      | inl e ↦ absurd (n e.1)
      | inr e ↦ grind (arith, nat_tests, l, e.0)
    ]

  pub all_reduced : (now : List ℤ) (bound : ℕ) → AreReducedBelow checked k partials old now bound → length old ≤ bound → AreReduced checked k partials old now
  all_reduced now bound h l = record {
    count = h.count;
    in_range = λ scalar value is. let below = slice_get_within old scalar value is in h.in_range scalar value is (omega (arith, l, below));
    values = λ scalar value is. let below = slice_get_within old scalar value is in h.values scalar value is (omega (arith, l, below));
  }

-- A COMPREHENSION with its scalars
pub comprehension_below : (checked : CheckedProgram) (k : ℕ) (program : Main) (c : Comprehension) → checked_program program ≡ Ok checked → comprehension_of program k ≡ Some c
    → k < length checked.comprehensions
comprehension_below checked k program c is found =
    go (slice_get checked.comprehensions k) refl ((checked_parts program checked is).kinds k ∙ ap (option_map (λ (c : Comprehension). c.over)) found) where
      go : (code : Option ComprehensionCode) → slice_get checked.comprehensions k ≡ code → option_map (λ (code : ComprehensionCode). code.over) code ≡ Some c.over → k < length checked.comprehensions
      go (Some code) at e = slice_get_within checked.comprehensions k code at
      go None at e = absurd cc

abbrev pub has_begun : (checked : CheckedProgram) (k : ℕ) (mesh : MeshLists) (store : SeqStore) (can : CanRunComprehension checked k mesh store) (scalars : List ℤ) (a : Activation)
    → scalars ≡ store.main.scalars → HasBegun checked k scalars a → CanRunIterations checked k mesh a store.fields
has_begun checked k mesh store can scalars a same begun = record {
  program = can.program;
  is_checked = can.is_checked;
  comprehension = can.comprehension;
  is = can.is;
  state = can.state;
  fits = can.fits;
  scalars = subst (HoldsScalars can.state) (sym (begun.scalars_are ∙ same)) can.scalars;
  identities = begun.partials_are;
  fields = can.fields;
}
