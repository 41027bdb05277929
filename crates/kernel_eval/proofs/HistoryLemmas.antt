-- No meaning reads the earlier acts and reductions.
use Rattle.std.proofs.Common.{◌≡◌, ℕ, List, [], ◌∷◌, refl, ap, ◌∙◌}
use Rattle.std.proofs.lemmas.List.{append_assoc}
use Rattle.std.specs.Prelude.{Option, Some, None, ℤ, Result, Ok, Err}
use Rattle.liszt_base.specs.declared.accesses.Mode.TheVariants.{Read}
use Rattle.liszt_base.specs.declared.accesses.Spot.{Spot}
use Rattle.liszt_base.specs.declared.elements.Elem.{Elem}
use Rattle.liszt_base.specs.declared.elements.Op.TheVariants.{Add}
use Rattle.liszt_tree.specs.declared.tree.How.{How}
use Rattle.liszt_tree.specs.declared.tree.How.TheVariants.{Set, Fold, Less}
use Rattle.phase_types.specs.Environments.{Binding, ScalarName}
use Rattle.phase_types.specs.Walk.{mode_by}
use Rattle.kernel_eval.specs.Preservation.{Commutes, with_earlier}
use Rattle.kernel_eval.specs.Outcomes.{Stop, continue_with, modify}
use Rattle.kernel_eval.specs.States.{Act, ScalarFold, EvaluationState, value_in, scalar_value, after_block, local_bound_to, element_bound_to}
use Rattle.kernel_eval.specs.Meaning.{operand, scalar_read, global_read, name_read, read_spot, spot_value, assign_spot, assign_scalar, assign_name, in_block, evaluation_turns}
use Rattle.kernel_eval.proofs.CommutationLemmas.{changed, commutes_then, commutes_loop}
use Rattle.kernel_eval.proofs.TraversalLemmas.{Computes, IsTraversedByExpressions, IsTraversed}

module _ (acts : List Act) (folds : List ScalarFold) where
  abbrev earlier : EvaluationState → EvaluationState
  earlier m = with_earlier acts folds m

  global_commutes : (global : Option Binding) (m : EvaluationState) → global_read global (earlier m) ≡ changed earlier (global_read global m)
  global_commutes (Some (ScalarName number)) m = go (scalar_value m.state number) where
    go : (value : Option ℤ) → scalar_read value (earlier m) ≡ changed earlier (scalar_read value m)
    go (Some n) = refl
    go None = refl
  global_commutes _ m = refl

  name_commutes : (value : Option ℤ) (x : Option (Option Elem)) (global : Option Binding) (m : EvaluationState)
      → name_read value x global (earlier m) ≡ changed earlier (name_read value x global m)
  name_commutes (Some n) x global m = refl
  name_commutes None (Some x) global m = refl
  name_commutes None None global m = global_commutes global m

  read_commutes : (spot : Spot) (value : Option ℤ) (m : EvaluationState) → read_spot spot value (earlier m) ≡ changed earlier (read_spot spot value m)
  read_commutes spot (Some n) m = rw (append_assoc acts m.acts (record { spot = spot; mode = Read; value = n } ∷ [])) refl
  read_commutes spot None m = refl

  spot_commutes : (spot : Spot) (how : How) (n : ℤ) (value : Option ℤ) (m : EvaluationState)
      → assign_spot spot how n value (earlier m) ≡ changed earlier (assign_spot spot how n value m)
  spot_commutes spot how n (Some old) m = rw (append_assoc acts m.acts (record { spot = spot; mode = mode_by how; value = operand how n } ∷ [])) refl
  spot_commutes spot how n None m = refl

  scalar_commutes : (how : How) (n : ℤ) (scalar : ℕ) (value : Option ℤ) (m : EvaluationState)
      → assign_scalar how n scalar value (earlier m) ≡ changed earlier (assign_scalar how n scalar value m)
  scalar_commutes Set n scalar (Some old) m = refl
  scalar_commutes (Fold op) n scalar (Some old) m = rw (append_assoc folds m.folds (record { scalar = scalar; op = op; value = n } ∷ [])) refl
  scalar_commutes Less n scalar (Some old) m = rw (append_assoc folds m.folds (record { scalar = scalar; op = Add; value = operand Less n } ∷ [])) refl
  scalar_commutes how n scalar None m = refl

  assigned_commutes : (name : List ℕ) (how : How) (n : ℤ) (value : Option ℤ) (global : Option Binding) (m : EvaluationState)
      → assign_name name how n value global (earlier m) ≡ changed earlier (assign_name name how n value global m)
  assigned_commutes name how n (Some old) global m = refl
  assigned_commutes name how n None (Some (ScalarName number)) m = scalar_commutes how n number (scalar_value m.state number) m
  assigned_commutes name how n None _ m = refl

  block_commutes : {body : Computes (Unit {0})} → Commutes earlier body → Commutes earlier (in_block body)
  block_commutes {body = body} h = record {
    commuted = λ m. ap (λ outcome. continue_with (λ done. modify (after_block (earlier m))) outcome.after outcome.answer) (h.commuted m)
        ∙ go m (body m).after (body m).answer;
  } where
    go : (before s : EvaluationState) (answer : Result (Unit {0}) Stop)
        → continue_with (λ done. modify (after_block (earlier before))) (earlier s) answer
        ≡ changed earlier (continue_with (λ done. modify (after_block before)) s answer)
    go before s (Ok done) = refl
    go before s (Err stop) = refl

  by_expressions : IsTraversedByExpressions (λ a. Unit {0}) (λ A computation. Commutes earlier computation)
  by_expressions =
      record {
        values = λ a. record { commuted = λ m. refl };
        halts = λ stop. record { commuted = λ m. refl };
        traps = λ kind place. record { commuted = λ m. refl };
        then_of = λ f h. commutes_then f h;
        name_of = λ name global. record { commuted = λ m. name_commutes (local_bound_to m name) (element_bound_to m name) global m };
        read_of = λ mesh spot any. record { commuted = λ m. read_commutes spot (spot_value mesh m.state spot) m };
      }

  pub history_unread : IsTraversed (λ a. Unit {0}) (λ A computation. Commutes earlier computation)
  history_unread =
      record {
        expressions = by_expressions;
        local_of = λ name n. record { commuted = λ m. refl };
        element = λ name x. record { commuted = λ m. refl };
        spot_set = λ spot how n any. record { commuted = λ m. spot_commutes spot how n (value_in m.state.fields spot) m };
        name_set = λ name how n global any. record { commuted = λ m. assigned_commutes name how n (local_bound_to m name) global m };
        block = λ h. block_commutes h;
        loops = λ place t h. commutes_loop evaluation_turns (λ m. refl) (λ n m. refl) (record { commuted = λ m. refl }) t h;
      }
