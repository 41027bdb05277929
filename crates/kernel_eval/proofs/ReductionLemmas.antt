-- Reductions determine the scalars, and the value of one scalar is folded with its partial reductions.
use Rattle.std.proofs.Common.{◌≡◌, ◌<◌, ℕ, ◌==◌, List, [], ◌∷◌, ◌++◌, length, get_or, pos, map, refl, sym, ap, subst, ◌∙◌, inl, inr, arith}
use Rattle.std.proofs.Common.{eqb-true, eq-eqb, ne_eqb}
use Rattle.std.proofs.lemmas.Bool.{cases_Bool}
use Rattle.std.proofs.lemmas.Int.{ints, clamps}
use Rattle.std.proofs.lemmas.Nat.{and_comm, and_mask}
use Rattle.std.proofs.Math.Nat.{mod-eq_of_lt}
use Rattle.std.specs.Int.Bits.{or_zero_l, xor_zero_l}
use Rattle.std.proofs.lemmas.Bool.Decides.{nat_tests, eqb_tells}
use Rattle.std.proofs.lemmas.List.{append-nil, append_assoc, get_or-set_same, get_or-set_other, length-set}
use Rattle.std.specs.Prelude.{Option, Some, None, if◌then◌else◌, ℤ}
use Rattle.std.specs.List.{AllByRecursion, filter, fold as fold_list}
use Rattle.std.specs.Option.{option_map}
use Rattle.liszt_base.specs.Reductions.{word, value, fold, identity_of, InRange}
use Rattle.liszt_base.specs.MeshLists.{MeshLists}
use Rattle.liszt_base.specs.declared.accesses.Mode.TheVariants.{Reduce}
use Rattle.liszt_base.specs.declared.elements.Op.{Op}
use Rattle.liszt_base.specs.declared.elements.Op.TheVariants.{Add, Mul, And, Or, Xor, Min, Max}
use Rattle.liszt_tree.specs.declared.tree.How.{How}
use Rattle.liszt_tree.specs.declared.tree.How.TheVariants.{Set, Fold, Less}
use Rattle.phase_types.specs.Environments.{Comprehension, lookup}
use Rattle.phase_types.specs.Typed.{ComprehensionFits}
use Rattle.phase_types.specs.Walk.{OfScalar, mode_by, mode_in}
use Rattle.kernel_eval.specs.Iterations.{iteration_start, iteration, partials_after, partials_after_fold, reduced_value, partial}
use Rattle.kernel_eval.specs.Meaning.{operand, assigned_value, with_scalar_fold}
use Rattle.kernel_eval.specs.Preservation.{FoldsByTheMode, ChangesNothing, scalars_after_fold, scalars_after}
use Rattle.kernel_eval.specs.States.{map_update, State, ScalarFold, EvaluationState, scalar_value, with_state, with_scalar_value}
use Rattle.kernel_eval.proofs.ActModeLemmas.{iteration_in_modes}
use Rattle.kernel_eval.proofs.PreservationLemmas.{IsFilter, keeps_body}
use Rattle.kernel_eval.proofs.AllowedAccessLemmas.{IsAllowed, all_allowed}
use Rattle.kernel_eval.proofs.ValueLemmas.{no_value}
use Rattle.liszt_base.proofs.Operators.{word_below, commutes, associates}

-- a computation appends reductions, and these applied to the scalars at entry give the scalars afterwards
pub record FoldsDetermineScalars (m after : EvaluationState) : Type 0 where
  pub new_folds : List ScalarFold
  pub folds_are : after.folds ≡ m.folds ++ new_folds
  pub scalars_are : after.state.scalars ≡ scalars_after m.state.scalars new_folds
  pub prints_are : after.state.prints ≡ m.state.prints

no_fold : (m after : EvaluationState) → after.folds ≡ m.folds → after.state.scalars ≡ m.state.scalars → after.state.prints ≡ m.state.prints → FoldsDetermineScalars m after
no_fold m after e f g = record { new_folds = []; folds_are = e ∙ sym (append-nil m.folds); scalars_are = f; prints_are = g }

after_more : (folds rest : List ScalarFold) (scalars : List (ℕ × ℤ)) → scalars_after scalars (folds ++ rest) ≡ scalars_after (scalars_after scalars folds) rest
after_more [] rest scalars = refl
after_more (folded ∷ folds) rest scalars =
    after_more folds rest (scalars_after_fold folded (lookup (λ other. other == folded.scalar) scalars) scalars)

both : (a b c : EvaluationState) → FoldsDetermineScalars a b → FoldsDetermineScalars b c → FoldsDetermineScalars a c
both a b c r s =
    record {
      new_folds = r.new_folds ++ s.new_folds;
      folds_are = s.folds_are ∙ ap (λ folds. folds ++ s.new_folds) r.folds_are ∙ append_assoc a.folds r.new_folds s.new_folds;
      scalars_are = s.scalars_are ∙ ap (λ scalars. scalars_after scalars s.new_folds) r.scalars_are ∙ sym (after_more r.new_folds s.new_folds a.state.scalars);
      prints_are = s.prints_are ∙ r.prints_are;
    }

reduced : (how : How) (n : ℤ) (scalar : ℕ) (old : ℤ) (m : EvaluationState) → IsAllowed (OfScalar scalar, mode_by how) → scalar_value m.state scalar ≡ Some old
    → FoldsDetermineScalars m (with_scalar_fold how scalar n (with_state (with_scalar_value scalar (assigned_value how old n) m.state) m))
reduced Set n scalar old m h e = absurd h
reduced (Fold op) n scalar old m h e = record {
  new_folds = record { scalar = scalar; op = op; value = n } ∷ [];
  folds_are = refl;
  scalars_are = ap (λ value. scalars_after_fold (record { scalar = scalar; op = op; value = n }) value m.state.scalars) (sym e);
  prints_are = refl;
}
reduced Less n scalar old m h e = record {
  new_folds = record { scalar = scalar; op = Add; value = operand Less n } ∷ [];
  folds_are = refl;
  scalars_are = ap (λ value. scalars_after_fold (record { scalar = scalar; op = Add; value = operand Less n }) value m.state.scalars) (sym e);
  prints_are = refl;
}

scalars_made : IsFilter IsAllowed FoldsDetermineScalars
scalars_made =
    record {
      same = λ m. no_fold m m refl refl refl;
      later = both;
      local = λ name n m. no_fold m _ refl refl refl;
      local_set = λ name n m. no_fold m _ refl refl refl;
      element = λ name x m. no_fold m _ refl refl refl;
      read = λ spot n m any e. no_fold m _ refl refl refl;
      spot_set = λ spot how n old m any e. no_fold m _ refl refl refl;
      scalar_assignment = λ how n scalar old m h e. reduced how n scalar old m h e;
      block = λ before m r. record { new_folds = r.new_folds; folds_are = r.folds_are; scalars_are = r.scalars_are; prints_are = r.prints_are };
      turn = λ n m e. no_fold m _ refl refl refl;
    }

pub iteration_folds : (mesh : MeshLists) (c : Comprehension) (turns : ℕ) (s : State) (id : ℕ) → ComprehensionFits c
    → FoldsDetermineScalars (iteration_start c turns s id) (iteration mesh c turns s id).after
iteration_folds mesh c turns s id fits =
    (keeps_body scalars_made mesh c.environment c.body (all_allowed c fits)).preserved (iteration_start c turns s id)

pub iteration_scalars : (mesh : MeshLists) (c : Comprehension) (turns : ℕ) (s : State) (id : ℕ) → ComprehensionFits c
    → (iteration mesh c turns s id).after.state.scalars ≡ scalars_after s.scalars (iteration mesh c turns s id).after.folds
iteration_scalars mesh c turns s id fits =
    let r = iteration_folds mesh c turns s id fits in
    r.scalars_are ∙ ap (λ folds. scalars_after s.scalars folds) (sym r.folds_are)

-- THE VALUE OF ONE SCALAR after reductions
abbrev scalar_after : ℕ → Option ℤ → List ScalarFold → Option ℤ
scalar_after scalar value [] = value
scalar_after scalar value (folded ∷ rest) =
    scalar_after scalar (if scalar == folded.scalar then option_map (λ old. fold folded.op old folded.value) value else value) rest

pub updated : (scalar : ℕ) (value old : ℤ) (scalars : List (ℕ × ℤ)) → lookup (λ other. other == scalar) scalars ≡ Some old
    → lookup (λ other. other == scalar) (map_update (λ other. other == scalar) value scalars) ≡ Some value
updated scalar value old [] e = absurd cc
updated scalar value old (entry ∷ scalars) e = elim (cases_Bool (entry.0 == scalar)) [
  | inl is ↦ rw (is, is) refl
  | inr is ↦ rw (is, is) (updated scalar value old scalars (rw is at e))
]

pub not_updated : (scalar other : ℕ) (value : ℤ) → (other ≡ scalar → ⊥) → (scalars : List (ℕ × ℤ))
    → lookup (λ number. number == other) (map_update (λ number. number == scalar) value scalars) ≡ lookup (λ number. number == other) scalars
not_updated scalar other value apart [] = refl
not_updated scalar other value apart (entry ∷ scalars) = grind (arith, nat_tests, not_updated scalar other value apart scalars)

changed : (folded : ScalarFold) (scalar : ℕ) (old : Option ℤ) (scalars : List (ℕ × ℤ)) → lookup (λ number. number == folded.scalar) scalars ≡ old
    → lookup (λ number. number == scalar) (scalars_after_fold folded old scalars)
    ≡ (if scalar == folded.scalar then option_map (λ old. fold folded.op old folded.value) (lookup (λ number. number == scalar) scalars)
    else lookup (λ number. number == scalar) scalars)
changed folded scalar None scalars e =
    no_value (λ old. fold folded.op old folded.value) (scalar == folded.scalar) (lookup (λ number. number == scalar) scalars)
    (λ is. ap (λ key. lookup (λ number. number == key) scalars) (eqb-true scalar folded.scalar is) ∙ e)
changed folded scalar (Some old) scalars e = elim (eqb_tells scalar folded.scalar) [
  | inl h ↦ rw (h.0, h.1, e) (updated folded.scalar (fold folded.op old folded.value) old scalars e)
  | inr h ↦ rw h.0 (not_updated folded.scalar scalar (fold folded.op old folded.value) h.1 scalars)
]

after_folds : (scalar : ℕ) (folds : List ScalarFold) (scalars : List (ℕ × ℤ))
    → lookup (λ number. number == scalar) (scalars_after scalars folds) ≡ scalar_after scalar (lookup (λ number. number == scalar) scalars) folds
after_folds scalar [] scalars = refl
after_folds scalar (folded ∷ folds) scalars =
    after_folds scalar folds (scalars_after_fold folded (lookup (λ other. other == folded.scalar) scalars) scalars)
    ∙ ap (λ value. scalar_after scalar value folds) (changed folded scalar (lookup (λ number. number == folded.scalar) scalars) scalars refl)

-- a scalar that the comprehension does not reduce
abbrev pub IsUnreduced : Comprehension → ℕ → Type 0
IsUnreduced c scalar = (op : Op) → mode_in c (OfScalar scalar) ≡ Some (Reduce op) → ⊥

not_reduced : (c : Comprehension) (scalar : ℕ) → IsUnreduced c scalar → (folds : List ScalarFold) → AllByRecursion (FoldsByTheMode c) folds
    → (value : Option ℤ) → scalar_after scalar value folds ≡ value
not_reduced c scalar none [] all value = refl
not_reduced c scalar none (folded ∷ folds) all value = elim (eqb_tells scalar folded.scalar) [
  | inl h ↦ absurd (none folded.op (ap (λ scalar. mode_in c (OfScalar scalar)) h.1 ∙ all.0))
  | inr h ↦ rw h.0 (not_reduced c scalar none folds all.1 value)
]

pub unreduced_is_unchanged : (mesh : MeshLists) (c : Comprehension) (turns : ℕ) (s : State) (id scalar : ℕ) → ComprehensionFits c → IsUnreduced c scalar
    → scalar_value (iteration mesh c turns s id).after.state scalar ≡ scalar_value s scalar
unreduced_is_unchanged mesh c turns s id scalar fits none =
    ap (lookup (λ number. number == scalar)) (iteration_scalars mesh c turns s id fits)
    ∙ after_folds scalar (iteration mesh c turns s id).after.folds s.scalars
    ∙ not_reduced c scalar none (iteration mesh c turns s id).after.folds ((iteration_in_modes mesh c turns s id fits).1 tt) (scalar_value s scalar)

pub unreduced_stays : (mesh : MeshLists) (c : Comprehension) (turns : ℕ) (s : State) (id scalar : ℕ) → ComprehensionFits c → ChangesNothing (mode_in c (OfScalar scalar))
    → scalar_value (iteration mesh c turns s id).after.state scalar ≡ scalar_value s scalar
unreduced_stays mesh c turns s id scalar fits none =
    unreduced_is_unchanged mesh c turns s id scalar fits (λ op e. subst ChangesNothing e none)

-- THE PARTIAL REDUCTIONS of a scalar that the comprehension reduces by an operator
abbrev pub values_of : ℕ → List ScalarFold → List ℤ
values_of scalar folds = map (λ f. f.value) (filter (λ f. f.scalar == scalar) folds)

op_of : (op other : Op) → Some (Reduce op) ≡ Some (Reduce other) → op ≡ other
op_of op other e = cc

all_folded : (c : Comprehension) (scalar : ℕ) (op : Op) → mode_in c (OfScalar scalar) ≡ Some (Reduce op) → (folds : List ScalarFold)
    → AllByRecursion (FoldsByTheMode c) folds → (old : ℤ) → scalar_after scalar (Some old) folds ≡ Some (fold_list (fold op) old (values_of scalar folds))
all_folded c scalar op is [] all old = refl
all_folded c scalar op is (folded ∷ folds) all old = elim (eqb_tells scalar folded.scalar) [
  | inl h ↦
      let same : folded.op ≡ op = op_of folded.op op (sym all.0 ∙ ap (λ scalar. mode_in c (OfScalar scalar)) (sym h.1) ∙ is) in
      rw (h.0, eq-eqb folded.scalar scalar (sym h.1), same) (all_folded c scalar op is folds all.1 (fold op old folded.value))
  | inr h ↦ rw (h.0, ne_eqb folded.scalar scalar (λ e. h.1 (sym e))) (all_folded c scalar op is folds all.1 old)
]

pulled : (op : Op) (a b : ℤ) (values : List ℤ) → fold_list (fold op) (fold op a b) values ≡ fold op a (fold_list (fold op) b values)
pulled op a b [] = refl
pulled op a b (value ∷ values) = ap (λ start. fold_list (fold op) start values) (associates op a b value) ∙ pulled op a (fold op b value) values

value_of_word : (a : ℤ) → InRange a → value (word a) ≡ a
value_of_word a h = grind (arith, ints, h)

identity_stays : (op : Op) (a : ℤ) → InRange a → fold op (identity_of op) a ≡ a
identity_stays Add a h = grind (arith, ints, h)
identity_stays Mul a h = grind (arith, ints, h)
identity_stays And a h =
    ap value (and_comm (word (identity_of And)) (word a) ∙ and_mask (word a) 64 ∙ mod-eq_of_lt (word_below a)) ∙ value_of_word a h
identity_stays Or a h = ap value (or_zero_l (word a)) ∙ value_of_word a h
identity_stays Xor a h = ap value (xor_zero_l (word a)) ∙ value_of_word a h
identity_stays Min a h = omega (arith, ints, clamps, h)
identity_stays Max a h = omega (arith, ints, clamps, h)

pub from_identity : (op : Op) (old : ℤ) (values : List ℤ) → InRange old → fold_list (fold op) old values ≡ fold op old (fold_list (fold op) (identity_of op) values)
from_identity op old values h =
    ap (λ start. fold_list (fold op) start values) (sym (commutes op old (identity_of op) ∙ identity_stays op old h))
    ∙ pulled op old (identity_of op) values

value_after_iteration : (mesh : MeshLists) (c : Comprehension) (turns : ℕ) (s : State) (id scalar : ℕ) (op : Op) (old : ℤ) → ComprehensionFits c
    → mode_in c (OfScalar scalar) ≡ Some (Reduce op) → scalar_value s scalar ≡ Some old
    → scalar_value (iteration mesh c turns s id).after.state scalar ≡ Some (fold_list (fold op) old (values_of scalar (iteration mesh c turns s id).after.folds))
value_after_iteration mesh c turns s id scalar op old fits is e =
    let folds : List ScalarFold = (iteration mesh c turns s id).after.folds in
    ap (lookup (λ number. number == scalar)) (iteration_scalars mesh c turns s id fits)
    ∙ after_folds scalar folds s.scalars
    ∙ ap (λ value. scalar_after scalar value folds) e
    ∙ all_folded c scalar op is folds ((iteration_in_modes mesh c turns s id fits).1 tt) old

pub folded_partial : (mesh : MeshLists) (c : Comprehension) (turns : ℕ) (s : State) (id scalar : ℕ) (op : Op) (old : ℤ) → ComprehensionFits c
    → mode_in c (OfScalar scalar) ≡ Some (Reduce op) → scalar_value s scalar ≡ Some old → InRange old
    → scalar_value (iteration mesh c turns s id).after.state scalar ≡ option_map (fold op old) (partial mesh c turns s id scalar)
folded_partial mesh c turns s id scalar op old fits is e h =
    let folds : List ScalarFold = (iteration mesh c turns s id).after.folds in
    value_after_iteration mesh c turns s id scalar op old fits is e
    ∙ ap Some (from_identity op old (values_of scalar folds) h)
    ∙ sym (ap (λ mode. option_map (fold op old) (reduced_value mode (values_of scalar folds))) is)

values_same : (scalar : ℕ) (folded : ScalarFold) (folds : List ScalarFold) → folded.scalar ≡ scalar → values_of scalar (folded ∷ folds) ≡ folded.value ∷ values_of scalar folds
values_same scalar folded folds e = rw (eq-eqb folded.scalar scalar e) refl

values_other : (scalar : ℕ) (folded : ScalarFold) (folds : List ScalarFold) → (folded.scalar ≡ scalar → ⊥) → values_of scalar (folded ∷ folds) ≡ values_of scalar folds
values_other scalar folded folds apart = rw (ne_eqb folded.scalar scalar apart) refl

-- PARTIALS BY THE NUMBERS of scalars: that of a scalar is folded with the operands of its reductions
partial_after_folds : (c : Comprehension) (scalar : ℕ) (op : Op) → mode_in c (OfScalar scalar) ≡ Some (Reduce op) → (folds : List ScalarFold)
    → AllByRecursion (FoldsByTheMode c) folds → (partials : List ℤ) → scalar < length partials
    → get_or (partials_after partials folds) scalar (pos 0) ≡ fold_list (fold op) (get_or partials scalar (pos 0)) (values_of scalar folds)
partial_after_folds c scalar op is [] all partials below = refl
partial_after_folds c scalar op is (folded ∷ folds) all partials below =
    let later = partial_after_folds c scalar op is folds all.1 (partials_after_fold partials folded)
    (omega (arith, below, length-set partials folded.scalar (fold folded.op (get_or partials folded.scalar (pos 0)) folded.value))) in
    elim (eqb_tells scalar folded.scalar) [
      | inl h ↦
          let same : folded.op ≡ op = op_of folded.op op (sym all.0 ∙ ap (λ scalar. mode_in c (OfScalar scalar)) (sym h.1) ∙ is) in
          let set : get_or (partials_after_fold partials folded) scalar (pos 0) ≡ fold op (get_or partials scalar (pos 0)) folded.value =
          ap (λ number. get_or (partials_after_fold partials folded) number (pos 0)) h.1
          ∙ get_or-set_same partials folded.scalar (fold folded.op (get_or partials folded.scalar (pos 0)) folded.value) (pos 0) (subst (λ number. number < length partials) h.1 below)
          ∙ ap (λ op. fold op (get_or partials folded.scalar (pos 0)) folded.value) same
          ∙ ap (λ number. fold op (get_or partials number (pos 0)) folded.value) (sym h.1) in
          later ∙ ap (λ start. fold_list (fold op) start (values_of scalar folds)) set
          ∙ ap (fold_list (fold op) (get_or partials scalar (pos 0))) (sym (values_same scalar folded folds (sym h.1)))
      | inr h ↦
          later
          ∙ ap (λ start. fold_list (fold op) start (values_of scalar folds))
          (get_or-set_other partials folded.scalar scalar (fold folded.op (get_or partials folded.scalar (pos 0)) folded.value) (pos 0) h.1)
          ∙ ap (fold_list (fold op) (get_or partials scalar (pos 0))) (sym (values_other scalar folded folds (λ e. h.1 (sym e))))
    ]

-- an iteration folds the value of a scalar and its partial with the same operands
pub record HasFolded (op : Op) (old : ℤ) (partials : List ℤ) (scalar : ℕ) (value : Option ℤ) (after : List ℤ) : Type 0 where
  pub operands : List ℤ
  pub value_is : value ≡ Some (fold_list (fold op) old operands)
  pub partial_is : get_or after scalar (pos 0) ≡ fold_list (fold op) (get_or partials scalar (pos 0)) operands

pub iteration_folds_both : (mesh : MeshLists) (c : Comprehension) (turns : ℕ) (s : State) (id scalar : ℕ) (op : Op) (old : ℤ) (partials : List ℤ) → ComprehensionFits c
    → mode_in c (OfScalar scalar) ≡ Some (Reduce op) → scalar_value s scalar ≡ Some old → scalar < length partials
    → HasFolded op old partials scalar (scalar_value (iteration mesh c turns s id).after.state scalar) (partials_after partials (iteration mesh c turns s id).after.folds)
iteration_folds_both mesh c turns s id scalar op old partials fits is e below =
    let folds : List ScalarFold = (iteration mesh c turns s id).after.folds in
    record {
      operands = values_of scalar folds;
      value_is = value_after_iteration mesh c turns s id scalar op old fits is e;
      partial_is = partial_after_folds c scalar op is folds ((iteration_in_modes mesh c turns s id fits).1 tt) partials below;
    }
