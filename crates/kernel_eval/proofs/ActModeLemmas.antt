-- Iterations of a typed comprehension: each act has the one mode of its field, each reduction that of its scalar, and a field that is
-- neither written nor reduced is unchanged.
use Rattle.std.proofs.Common.{◌≡◌, ℕ, ◌==◌, List, [], ◌∷◌, ◌++◌, refl, sym, ap, subst, ◌∙◌, arith}
use Rattle.std.proofs.lemmas.Bool.Decides.{nat_tests}
use Rattle.std.specs.Prelude.{Some, ℤ}
use Rattle.std.specs.List.{AllByRecursion}
use Rattle.liszt_base.specs.MeshLists.{MeshLists}
use Rattle.liszt_base.specs.declared.accesses.Spot.{Spot}
use Rattle.liszt_tree.specs.declared.tree.How.{How}
use Rattle.liszt_tree.specs.declared.tree.How.TheVariants.{Set}
use Rattle.phase_types.specs.Environments.{Comprehension, lookup}
use Rattle.phase_types.specs.Typed.{ComprehensionFits}
use Rattle.phase_types.specs.Walk.{OfField, OfScalar, mode_by, mode_in}
use Rattle.kernel_eval.specs.Iterations.{iteration_start, iteration}
use Rattle.kernel_eval.specs.Preservation.{HasTheMode, FoldsByTheMode, ChangesNothing, field_values}
use Rattle.kernel_eval.specs.Meaning.{assigned_value, with_scalar_fold}
use Rattle.kernel_eval.specs.States.{Fields, with_value, State, EvaluationState, with_state, with_scalar_value}
use Rattle.kernel_eval.proofs.AccessLemmas.{touched_in_mode}
use Rattle.kernel_eval.proofs.PreservationLemmas.{IsFilter, keeps_body}
use Rattle.kernel_eval.proofs.TraversalLemmas.{Access}

abbrev KeepsModes : Comprehension → EvaluationState → EvaluationState → Type 0
KeepsModes c m after =
    (AllByRecursion (HasTheMode c) m.acts → AllByRecursion (HasTheMode c) after.acts)
    × (AllByRecursion (FoldsByTheMode c) m.folds → AllByRecursion (FoldsByTheMode c) after.folds)
    × ((field : ℕ) → ChangesNothing (mode_in c (OfField field)) → field_values after.state field ≡ field_values m.state field)

pub all_and_one : {A : Type 0} (Holds : A → Type 0) (xs : List A) (x : A) → AllByRecursion Holds xs → Holds x → AllByRecursion Holds (xs ++ x ∷ [])
all_and_one Holds [] x all h = (h, tt {0})
all_and_one Holds (y ∷ ys) x all h = (all.0, all_and_one Holds ys x all.1 h)

-- a field other than that of a spot that is set
elsewhere : (spot : Spot) (value : ℤ) (field : ℕ) → (spot.field ≡ field → ⊥) → (fields : Fields)
    → lookup (λ number. number == field) (with_value spot value fields) ≡ lookup (λ number. number == field) fields
elsewhere spot value field other [] = refl
elsewhere spot value field other (entry ∷ fields) = grind (arith, nat_tests, elsewhere spot value field other fields)

assignment_changes : (how : How) → ChangesNothing (Some (mode_by how)) → ⊥
assignment_changes Set h = h
assignment_changes _ h = h

abbrev InMode : Comprehension → Access → Type 0
InMode c a = mode_in c a.0 ≡ Some a.1

unchanged : (c : Comprehension) (m : EvaluationState) → KeepsModes c m m
unchanged c m = (λ all. all, λ all. all, λ field none. refl)

reduced : (c : Comprehension) (how : How) (n : ℤ) (scalar : ℕ) (old : ℤ) (m : EvaluationState) → InMode c (OfScalar scalar, mode_by how)
    → KeepsModes c m (with_scalar_fold how scalar n (with_state (with_scalar_value scalar (assigned_value how old n) m.state) m))
reduced c Set n scalar old m h = unchanged c m
reduced c _ n scalar old m h = (λ all. all, λ all. all_and_one _ m.folds _ all h, λ field none. refl)

modes_kept : (c : Comprehension) → IsFilter (InMode c) (KeepsModes c)
modes_kept c =
    record {
      same = unchanged c;
      later = λ before m after r s. (λ all. s.0 (r.0 all), λ all. s.1 (r.1 all), λ field none. s.2 field none ∙ r.2 field none);
      local = λ name n m. unchanged c m;
      local_set = λ name n m. unchanged c m;
      element = λ name x m. unchanged c m;
      read = λ spot n m h e. (λ all. all_and_one _ m.acts _ all h, λ all. all, λ field none. refl);
      spot_set = λ spot how n old m h e. (
        λ all. all_and_one _ m.acts _ all h,
        λ all. all,
        λ field none. elsewhere spot (assigned_value how old n) field
            (λ is. assignment_changes how (subst ChangesNothing (ap (λ field. mode_in c (OfField field)) (sym is) ∙ h) none)) m.state.fields,
      );
      scalar_assignment = λ how n scalar old m h e. reduced c how n scalar old m h;
      block = λ before m r. r;
      turn = λ n m e. unchanged c m;
    }

pub iteration_in_modes : (mesh : MeshLists) (c : Comprehension) (turns : ℕ) (s : State) (id : ℕ) → ComprehensionFits c
    → KeepsModes c (iteration_start c turns s id) (iteration mesh c turns s id).after
iteration_in_modes mesh c turns s id fits = (keeps_body (modes_kept c) mesh c.environment c.body (touched_in_mode c fits)).preserved (iteration_start c turns s id)
