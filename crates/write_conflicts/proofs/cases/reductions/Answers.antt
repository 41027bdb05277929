use Rattle.std.proofs.Common.{ℕ, [], ◌∷◌, refl, rules, subst, inl, inr, arith}
use Rattle.std.specs.List.{Contains}
use Rattle.liszt_base.specs.declared.accesses.Spot.{Spot}
use Rattle.liszt_base.specs.declared.elements.Op.TheVariants.{Add, Max}
use Rattle.write_conflicts.specs.Conflicts.{accesses_at, Reduces}
use Rattle.write_conflicts.specs.Internal.Cases.{at, reducing_lists}
use Rattle.write_conflicts.proofs.MemberLemmas.{contains_cases, contains_first, contains_later, flat_contains, not_in_nil, reduced_contains}
use Rattle.write_conflicts.proofs.cases.reductions.Goals as goal

pub returns-clause-both : goal.returns-clause-both
returns-clause-both c = record {
  different = λ e. absurd (omega arith);
  spot = at 1 5;
  by_first = (Add, (0, omega arith, refl));
  by_second = (Max, (1, omega arith, refl));
}

each_is_reduced : (spot : Spot) → Contains (at 0 5 ∷ at 1 5 ∷ []) spot → (i : ℕ) × Reduces (accesses_at reducing_lists i) spot
each_is_reduced spot m =
    elim (contains_cases (at 0 5) spot (at 1 5 ∷ []) m) [
      | inl e ↦ (2, subst (λ s. Reduces (accesses_at reducing_lists 2) s) e (Max, (0, omega arith, refl)))
      | inr later ↦ elim (contains_cases (at 1 5) spot [] later) [
        | inl e ↦ (0, subst (λ s. Reduces (accesses_at reducing_lists 0) s) e (Add, (0, omega arith, refl)))
        | inr none ↦ absurd (not_in_nil spot none)
      ]
    ]

each_is_there : (i : ℕ) (spot : Spot) → Reduces (accesses_at reducing_lists i) spot → Contains (at 0 5 ∷ at 1 5 ∷ []) spot
each_is_there i spot h =
    elim (contains_cases (at 1 5) spot (at 0 5 ∷ at 1 5 ∷ []) (flat_contains reducing_lists i spot (reduced_contains (accesses_at reducing_lists i) spot h))) [
      | inl e ↦ contains_later (at 0 5) spot (at 1 5 ∷ []) (contains_first (at 1 5) spot [] e)
      | inr later ↦ later
    ]

pub returns-clause-touched : goal.returns-clause-touched
returns-clause-touched c =
    record { spots = at 0 5 ∷ at 1 5 ∷ []; are_reduced = record { ascending = search rules; each = each_is_reduced; all = each_is_there }; ranks = refl }
