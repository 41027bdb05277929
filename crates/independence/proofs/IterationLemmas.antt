-- Iterations from states that agree on what their comprehension reads.
use Rattle.std.proofs.Common.{◌≡◌, ℕ, zero, suc, ◌+◌, ◌<◌, ◌≤◌, List, [], ◌∷◌, ◌++◌, map, length, replicate, Option, Some, None, Result, Ok, Err, refl, sym, ap, subst, ◌∙◌, arith}
use Rattle.std.proofs.lemmas.List.{get_or-replicate, length-replicate}
use Rattle.std.specs.List.{AllByRecursion, Contains, filter, fold}
use Rattle.std.specs.Option.{option_map}
use Rattle.std.specs.Prelude.{ℤ, pos, get_or, slice_get}
use Rattle.liszt_base.specs.MeshLists.{MeshLists}
use Rattle.liszt_base.specs.Reductions.{fold as folded, identity_of}
use Rattle.liszt_base.specs.declared.accesses.Mode.{Mode}
use Rattle.liszt_base.specs.declared.accesses.Mode.TheVariants.{Read, Write, Reduce}
use Rattle.liszt_base.specs.declared.answers.TrapKind.TheVariants.{Overflow}
use Rattle.liszt_base.specs.declared.elements.Elem.{Elem}
use Rattle.liszt_base.specs.declared.elements.Kind.{Kind}
use Rattle.liszt_base.specs.declared.elements.Op.{Op}
use Rattle.liszt_base.proofs.Operators.{associates, commutes}
use Rattle.liszt_tree.specs.Tree.{Main}
use Rattle.mesh_topology.specs.Elements.{count}
use Rattle.resolved_code.specs.declared.items.ComprehensionCode.{ComprehensionCode}
use Rattle.topo_operators.specs.Operators.{unflipped}
use Rattle.phase_types.specs.Environments.{Comprehension}
use Rattle.phase_types.specs.Typed.{ComprehensionFits}
use Rattle.phase_types.specs.Walk.{OfField, OfScalar, mode_in}
use Rattle.phase_types.proofs.CheckedLemmas.{checked_is_typed, checked_parts}
use Rattle.phase_types.proofs.ComprehensionLemmas.{comprehension_stands}
use Rattle.code_eval.specs.declared.activation.Activation.{Activation}
use Rattle.code_eval.specs.Meaning.{body_execution}
use Rattle.kernel_eval.specs.CodeIterations.{DoesIteration, HasValues, IsReady}
use Rattle.kernel_eval.specs.Iterations.{iteration, partial, partials_after, reduced_value}
use Rattle.kernel_eval.specs.States.{ScalarFold, State, scalar_value}
use Rattle.kernel_eval.proofs.ActModeLemmas.{iteration_in_modes}
use Rattle.kernel_eval.proofs.CodeIterationLemmas.{checked_code_does}
use Rattle.kernel_eval.proofs.PartLemmas.{iteration_knows, iteration_lengths}
use Rattle.kernel_eval.proofs.ReductionLemmas.{iteration_folds, iteration_folds_both, unreduced_stays}
use Rattle.seq_meaning.specs.Runs.{after_iteration}
use Rattle.independence.specs.Independence.{AgreeFor, CanRunFrom, DoesTheSame}
use Rattle.independence.proofs.AgreementLemmas.{agree_fits, agree_itself, agreed_values, numbered, numbered_scalars, own_values, reduced_by_partials, values_of}

-- AN ITERATION LEAVES what its comprehension reads.
pub leaves_reads : (mesh : MeshLists) (c : Comprehension) (turns : ℕ) (s : State) (id : ℕ) → ComprehensionFits c → AgreeFor c s (after_iteration mesh c turns id s).after
leaves_reads mesh c turns s id typed =
    record {
      fields = iteration_lengths mesh c turns s id;
      scalars = iteration_knows mesh c turns s id;
      values = λ field mode. (iteration_in_modes mesh c turns s id typed).2 field (rw mode (tt {0}));
      scalar_values = λ scalar mode. unreduced_stays mesh c turns s id scalar typed (rw mode (tt {0}));
    }

-- an activation that is ready for an iteration from a state
abbrev ready_activation : ComprehensionCode → Elem → ℕ → State → List ℤ → Activation
ready_activation code x turns s partials =
    record {
      numbers = replicate code.numbers (pos 0);
      elements = Some x ∷ replicate (length code.elements) None;
      scalars = numbered_scalars s;
      partials = partials;
      turns = turns;
      elem = x;
      trap = record { kind = Overflow; place = record { line = 0; col = 0 }; elem = None };
    }

is_ready : (code : ComprehensionCode) (c : Comprehension) (turns : ℕ) (s t : State) (id : ℕ) (partials : List ℤ) → AgreeFor c s t
    → IsReady code c turns t id (ready_activation code (unflipped c.over id) turns s partials)
is_ready code c turns s t id partials agree =
    record {
      numbers = omega (arith, length-replicate code.numbers (pos 0));
      elements = omega (arith, length-replicate {A = Option Elem} (length code.elements) None);
      first = refl;
      elem = refl;
      turns_are = refl;
      scalars = λ scalar value mode is. numbered s scalar value (sym (agree.scalar_values scalar mode) ∙ is);
    }

code_of : (codes : List ComprehensionCode) (k : ℕ) (kind : Kind) → option_map (λ (c : ComprehensionCode). c.over) (slice_get codes k) ≡ Some kind
    → (code : ComprehensionCode) × (slice_get codes k ≡ Some code)
code_of codes k kind is = go (slice_get codes k) refl is where
  go : (found : Option ComprehensionCode) → slice_get codes k ≡ found → option_map (λ (c : ComprehensionCode). c.over) found ≡ Some kind
      → (code : ComprehensionCode) × (slice_get codes k ≡ Some code)
  go None at is = absurd cc
  go (Some code) at is = (code, at)

module _ (program : Main) (k : ℕ) (c : Comprehension) (mesh : MeshLists) (s : State) (can : CanRunFrom program k c mesh s) where
  pub typed : ComprehensionFits c
  typed = (comprehension_stands program (checked_is_typed program can.checked can.is_checked) k c can.is).fits

  code_at : (code : ComprehensionCode) × (slice_get can.checked.comprehensions k ≡ Some code)
  code_at =
      let parts = checked_parts program can.checked can.is_checked in
      code_of can.checked.comprehensions k c.over (parts.kinds k ∙ ap (option_map (λ (c : Comprehension). c.over)) can.is)

  module _ (turns : ℕ) (t : State) (id : ℕ) (agree : AgreeFor c s t) (below : id < count mesh c.over) where
    does : (u : State) → AgreeFor c s u → (partials : List ℤ)
        → DoesIteration mesh c turns u id (ready_activation code_at.0 (unflipped c.over id) turns s partials)
        (body_execution mesh code_at.0.body (values_of s) (ready_activation code_at.0 (unflipped c.over id) turns s partials))
    does u a partials =
        checked_code_does program can.checked k code_at.0 c mesh turns u id (values_of s) (ready_activation code_at.0 (unflipped c.over id) turns s partials) can.is_checked code_at.1 can.is
        can.mesh_is typed (agree_fits c s u a can.fits) below (is_ready code_at.0 c turns s u id partials a) (agreed_values c s u a)

    same_partial : (scalar : ℕ) (mode : Option Mode) → mode_in c (OfScalar scalar) ≡ mode → partial mesh c turns t id scalar ≡ partial mesh c turns s id scalar
    same_partial scalar None is = rw is refl
    same_partial scalar (Some Read) is = rw is refl
    same_partial scalar (Some Write) is = rw is refl
    same_partial scalar (Some (Reduce op)) is =
        let identities : List ℤ = replicate (suc scalar) (identity_of op) in
        reduced_by_partials c scalar op (iteration mesh c turns t id).after.folds is ((iteration_in_modes mesh c turns t id typed).1 (tt {0}))
        ∙ ap (λ partials. Some (get_or partials scalar (pos 0))) (sym (does t agree identities).partials ∙ (does s (agree_itself c s) identities).partials)
        ∙ sym (reduced_by_partials c scalar op (iteration mesh c turns s id).after.folds is ((iteration_in_modes mesh c turns s id typed).1 (tt {0})))

    pub does_the_same : DoesTheSame mesh c turns s t id
    does_the_same =
        record {
          end = sym (does t agree []).end ∙ (does s (agree_itself c s) []).end;
          acts = sym (does t agree []).acts ∙ (does s (agree_itself c s) []).acts;
          partials = λ scalar. same_partial scalar (mode_in c (OfScalar scalar)) refl;
        }

-- A SCALAR THAT IS REDUCED is folded with the partial of the iteration.
folded_list : (op : Op) (x y : ℤ) (values : List ℤ) → fold (folded op) (folded op x y) values ≡ folded op x (fold (folded op) y values)
folded_list op x y [] = refl
folded_list op x y (value ∷ rest) =
    ap (λ start. fold (folded op) start rest) (associates op x y value) ∙ folded_list op x (folded op y value) rest

pub scalar_folded : (mesh : MeshLists) (c : Comprehension) (turns : ℕ) (s : State) (id scalar : ℕ) (op : Op) (old : ℤ) → ComprehensionFits c
    → mode_in c (OfScalar scalar) ≡ Some (Reduce op) → scalar_value s scalar ≡ Some old → folded op (identity_of op) old ≡ old
    → (value : ℤ) × (partial mesh c turns s id scalar ≡ Some value) × (scalar_value (iteration mesh c turns s id).after.state scalar ≡ Some (folded op old value))
scalar_folded mesh c turns s id scalar op old typed mode is neutral =
    let identities : List ℤ = replicate (suc scalar) (identity_of op) in
    let long : length identities ≡ suc scalar = length-replicate (suc scalar) (identity_of op) in
    let both = iteration_folds_both mesh c turns s id scalar op old identities typed mode is (omega (arith, long)) in
    let value : ℤ = get_or (partials_after identities (iteration mesh c turns s id).after.folds) scalar (pos 0) in
    let partial_is : value ≡ fold (folded op) (identity_of op) both.operands =
    both.partial_is ∙ ap (λ start. fold (folded op) start both.operands) (get_or-replicate (suc scalar) scalar (identity_of op) (pos 0) (omega arith)) in
    let start : folded op old (identity_of op) ≡ old = commutes op old (identity_of op) ∙ neutral in (
      value,
      reduced_by_partials c scalar op (iteration mesh c turns s id).after.folds mode ((iteration_in_modes mesh c turns s id typed).1 (tt {0})),
      both.value_is ∙ ap (λ x. Some (fold (folded op) x both.operands)) (sym start) ∙ ap Some (folded_list op old (identity_of op) both.operands) ∙ ap (λ x. Some (folded op old x)) (sym partial_is),
    )

-- the identity stays neutral for what is folded
pub still_neutral : (op : Op) (old value : ℤ) → folded op (identity_of op) old ≡ old → folded op (identity_of op) (folded op old value) ≡ folded op old value
still_neutral op old value neutral = sym (associates op (identity_of op) old value) ∙ ap (λ x. folded op x value) neutral

-- PRINTS stay.
pub prints_stay : (mesh : MeshLists) (c : Comprehension) (turns : ℕ) (s : State) (id : ℕ) → ComprehensionFits c → (iteration mesh c turns s id).after.state.prints ≡ s.prints
prints_stay mesh c turns s id typed = (iteration_folds mesh c turns s id typed).prints_are
