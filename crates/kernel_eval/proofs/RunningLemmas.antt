-- An iteration over a store of words does the tree's iteration.
use Rattle.std.proofs.Common.{◌≡◌, ◌≢◌, ℕ, true, List, [], ◌∷◌, length, refl, sym, ap, subst, ◌∙◌, append-nil, arith}
use Rattle.std.proofs.lemmas.List.{get_or-set_same, length-set}
use Rattle.std.specs.Prelude.{Option, Some, None, is_some, ℤ, pos, slice_get, unwrap_or, Result, Err}
use Rattle.liszt_base.specs.Corners.{IsMesh}
use Rattle.liszt_base.specs.MeshLists.{MeshLists}
use Rattle.liszt_base.specs.declared.accesses.Spot.{Spot}
use Rattle.liszt_base.specs.declared.answers.RunEnd.{RunEnd}
use Rattle.mesh_topology.specs.Elements.{corner_lists}
use Rattle.resolved_code.specs.declared.items.ComprehensionCode.{ComprehensionCode}
use Rattle.topo_operators.specs.Operators.{unflipped}
use Rattle.phase_types.specs.declared.state.CheckedProgram.{CheckedProgram}
use Rattle.phase_types.specs.Environments.{Comprehension}
use Rattle.phase_types.proofs.CheckedLemmas.{checked_code}
use Rattle.code_eval.specs.declared.activation.Activation.{Activation}
use Rattle.code_eval.specs.declared.activation.Stopped.{Stopped}
use Rattle.code_eval.specs.Executions.{Executed, Done, answered, stop_in, LeadsTo, CanRun, HasLed}
use Rattle.code_eval.specs.Meaning.{body_execution}
use Rattle.code_eval.specs.Stops.{Stop, NoMeaning}
use Rattle.code_eval.specs.Stores.{StoreView, Admits, HasActed}
use Rattle.kernel_eval.specs.CodeIterations.{IsReady, HasValues, DoesIteration}
use Rattle.kernel_eval.specs.Internal.Starts.{started}
use Rattle.kernel_eval.specs.Iterations.{acts, iteration, iteration_end, end_of, partials_after, partials_after_fold}
use Rattle.kernel_eval.specs.Running.{IsPrepared, CanIterate, HasIterated}
use Rattle.kernel_eval.specs.States.{State, ScalarFold, value_in}
use Rattle.kernel_eval.proofs.CodeIterationLemmas.{checked_code_does}
use Rattle.kernel_eval.proofs.TypedEvaluationLemmas.{iteration_ends}

abbrev values_of : State → Spot → ℤ
values_of s spot = unwrap_or (value_in s.fields spot) (pos 0)

has_values : (c : Comprehension) (s : State) → HasValues c s (values_of s)
has_values c s = record { read = λ spot value mode declared is. rw is refl }

some_is : {A : Type 0} (x y : A) → Some x ≡ Some y → x ≡ y
some_is x y e = cc

none_is_nothing : (end : Option RunEnd) → end ≡ None → is_some end ≡ true → ⊥
none_is_nothing None e h = absurd cc
none_is_nothing (Some end) e h = absurd cc

partials_length : (partials : List ℤ) (folds : List ScalarFold) → length (partials_after partials folds) ≡ length partials
partials_length partials [] = refl
partials_length partials (folded ∷ rest) = partials_length (partials_after_fold partials folded) rest ∙ length-set partials folded.scalar _

module _ (checked : CheckedProgram) (k : ℕ) (code : ComprehensionCode) (is : slice_get checked.comprehensions k ≡ Some code) (mesh : MeshLists) (mesh_is : IsMesh (length mesh.points) (corner_lists mesh))
    (turns id : ℕ) (a : Activation) (store : StoreView) (prepared : IsPrepared checked a) (can : CanIterate checked k mesh turns id a store) where
  same_kind : code.over ≡ can.comprehension.over
  same_kind =
      let found = checked_code can.program checked can.is_checked k code is in
      found.2.over ∙ ap (λ (c : Comprehension). c.over) (some_is found.0 can.comprehension (sym found.1 ∙ can.is))

  abbrev begun : Activation
  begun = started (unflipped code.over id) turns a

  ready : IsReady code can.comprehension turns can.state id begun
  ready = record {
    numbers = prepared.numbers k code is;
    elements = omega (arith, prepared.elements k code is, length-set a.elements 0 (Some (unflipped code.over id)));
    first = get_or-set_same a.elements 0 (Some (unflipped code.over id)) None prepared.room ∙ ap (λ kind. Some (unflipped kind id)) same_kind;
    elem = ap (λ kind. unflipped kind id) same_kind;
    turns_are = refl;
    scalars = can.scalars;
  }

  does : DoesIteration mesh can.comprehension turns can.state id begun (body_execution mesh code.body (values_of can.state) begun)
  does = checked_code_does can.program checked k code can.comprehension mesh turns can.state id (values_of can.state) begun can.is_checked is can.is mesh_is can.typed can.fits can.below ready (has_values can.comprehension can.state)

  admitted : Admits store (body_execution mesh code.body (values_of can.state) begun).acts
  admitted = subst (Admits store) (sym does.acts) can.admits

  not_meaningless : (answer : Result Done Stop) → end_of answer ≡ iteration_end mesh can.comprehension turns can.state id → answer ≢ Err NoMeaning
  not_meaningless answer e none =
      none_is_nothing (iteration_end mesh can.comprehension turns can.state id) (sym e ∙ ap end_of none)
      (iteration_ends mesh can.comprehension turns can.state id mesh_is can.typed can.fits can.below)

  pub can_run : CanRun (body_execution mesh code.body) begun store
  can_run = record {
    view = values_of can.state;
    admits = admitted;
    has_meaning = not_meaningless (body_execution mesh code.body (values_of can.state) begun).answer does.end;
  }

  module _ (after : Activation) (later : StoreView) (r : Result Done Stopped) (leads : LeadsTo (body_execution mesh code.body) begun store (answered (stop_in r after)) after later) where
    led : HasLed (body_execution mesh code.body (values_of can.state) begun) (answered (stop_in r after) (values_of can.state) after) store later
    led = leads.leads (values_of can.state) admitted

    answer_is : (body_execution mesh code.body (values_of can.state) begun).answer ≡ stop_in r after
    answer_is = ap (λ (x : Executed Done). x.answer) led.is

    after_is : (body_execution mesh code.body (values_of can.state) begun).after ≡ after
    after_is = ap (λ (x : Executed Done). x.after) led.is

    acts_are : acts mesh can.comprehension turns can.state id ≡ led.acts
    acts_are = sym does.acts ∙ ap (λ (x : Executed Done). x.acts) led.is ∙ append-nil led.acts

    pub has_iterated : (end : RunEnd) → end_of (stop_in r after) ≡ Some end → HasIterated mesh can.comprehension turns can.state id a store end after later
    has_iterated end e = record {
      ended = sym does.end ∙ ap end_of answer_is ∙ e;
      acted = subst (λ acts. HasActed acts store later) (sym acts_are) led.acted;
      partials = ap (λ (a : Activation). a.partials) (sym after_is) ∙ does.partials;
      scalars = ap (λ (a : Activation). a.scalars) (sym after_is) ∙ does.scalars;
    }

    pub still_prepared : IsPrepared checked after
    still_prepared =
        let numbers : length after.numbers ≡ length a.numbers = ap (λ (a : Activation). length a.numbers) (sym after_is) ∙ does.numbers in
        let elements : length after.elements ≡ length a.elements =
        ap (λ (a : Activation). length a.elements) (sym after_is) ∙ does.elements ∙ length-set a.elements 0 (Some (unflipped code.over id)) in
        let partials : length after.partials ≡ length a.partials =
        ap (λ (a : Activation). length a.partials) (sym after_is) ∙ ap length does.partials ∙ partials_length a.partials (iteration mesh can.comprehension turns can.state id).after.folds in
        record {
          numbers = λ j other found. omega (arith, prepared.numbers j other found, numbers);
          elements = λ j other found. omega (arith, prepared.elements j other found, elements);
          room = omega (arith, prepared.room, elements);
          scalars = ap length (ap (λ (a : Activation). a.scalars) (sym after_is) ∙ does.scalars) ∙ prepared.scalars;
          partials = partials ∙ prepared.partials;
        }
