-- An assignment to a local changes the first binding of its name; the end of a block restores the bindings of elements.
use Rattle.std.proofs.Common.{◌≡◌, true, List, [], ◌∷◌, ◌++◌, refl, ap, ◌∙◌, inl, inr}
use Rattle.std.proofs.lemmas.Bool.{cases_Bool}
use Rattle.std.specs.Prelude.{Option, Some, None, ℕ, ℤ}
use Rattle.std.specs.Str.{bytes_eq}
use Rattle.std.proofs.lemmas.Slice.Eq.{bytes_eq-Decides}
use Rattle.phase_types.specs.Environments.{Binding, lookup}
use Rattle.liszt_tree.specs.declared.tree.How.{How}
use Rattle.kernel_eval.specs.Meaning.{assigned_value, assign_name}
use Rattle.kernel_eval.specs.Outcomes.{pure}
use Rattle.kernel_eval.specs.States.{update_first, EvaluationState, local_bound_to}

not_first : (name : List ℕ) (entry : List ℕ × ℤ) (newer : List (List ℕ × ℤ)) → bytes_eq name entry.0 ≡ true
    → lookup (bytes_eq name) (entry ∷ newer) ≡ None → ⊥
not_first name entry newer is none = let bad : Some entry.1 ≡ None = rw is at none in cc bad

-- a name that is in none of the newer entries, and in the next one
first_found : (name : List ℕ) (newer older : List (List ℕ × ℤ)) (old : ℤ) → lookup (bytes_eq name) newer ≡ None
    → lookup (bytes_eq name) (newer ++ (name, old) ∷ older) ≡ Some old
first_found name [] older old none = rw ((bytes_eq-Decides name name).1 refl) refl
first_found name (entry ∷ newer) older old none = elim (cases_Bool (bytes_eq name entry.0)) [
  | inl is ↦ absurd (not_first name entry newer is none)
  | inr is ↦ rw is (first_found name newer older old (rw is at none))
]

first_updated : (name : List ℕ) (newer older : List (List ℕ × ℤ)) (old new : ℤ) → lookup (bytes_eq name) newer ≡ None
    → update_first (bytes_eq name) new (newer ++ (name, old) ∷ older) ≡ newer ++ (name, new) ∷ older
first_updated name [] older old new none = rw ((bytes_eq-Decides name name).1 refl) refl
first_updated name (entry ∷ newer) older old new none = elim (cases_Bool (bytes_eq name entry.0)) [
  | inl is ↦ absurd (not_first name entry newer is none)
  | inr is ↦ rw is (ap (λ rest. entry ∷ rest) (first_updated name newer older old new (rw is at none)))
]

assigned : (name : List ℕ) (how : How) (n : ℤ) (global : Option Binding) (m : EvaluationState) (value : Option ℤ) (old : ℤ)
    → value ≡ Some old → (locals : List (List ℕ × ℤ)) → update_first (bytes_eq name) (assigned_value how old n) m.locals ≡ locals
    → assign_name name how n value global m ≡ pure (tt {0}) (record m { locals = locals })
assigned name how n global m value old is locals e = rw (is, e) refl

pub one_local_assigned : (name : List ℕ) (how : How) (n old : ℤ) (global : Option Binding) (m : EvaluationState) (newer older : List (List ℕ × ℤ))
    → m.locals ≡ newer ++ (name, old) ∷ older → lookup (bytes_eq name) newer ≡ None
    → assign_name name how n (local_bound_to m name) global m ≡ pure (tt {0}) (record m { locals = newer ++ (name, assigned_value how old n) ∷ older })
one_local_assigned name how n old global m newer older are none =
    assigned name how n global m (local_bound_to m name) old (ap (lookup (bytes_eq name)) are ∙ first_found name newer older old none)
    (newer ++ (name, assigned_value how old n) ∷ older)
    (ap (update_first (bytes_eq name) (assigned_value how old n)) are ∙ first_updated name newer older old (assigned_value how old n) none)
