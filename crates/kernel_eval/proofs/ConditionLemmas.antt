-- A condition of states is kept by expressions if a read of a field keeps it: they change nothing else.
use Rattle.std.specs.Prelude.{Option, Some, None, ℤ}
use Rattle.liszt_base.specs.declared.accesses.Mode.TheVariants.{Read}
use Rattle.liszt_base.specs.declared.accesses.Spot.{Spot}
use Rattle.liszt_base.specs.declared.elements.Elem.{Elem}
use Rattle.phase_types.specs.Environments.{Binding, ScalarName}
use Rattle.phase_types.specs.Walk.{OfField}
use Rattle.kernel_eval.specs.Meaning.{scalar_read, global_read, name_read, read_spot, spot_value}
use Rattle.kernel_eval.specs.States.{EvaluationState, scalar_value, local_bound_to, element_bound_to, with_act}
use Rattle.kernel_eval.proofs.TraversalLemmas.{Access, IsTraversedByExpressions}
use Rattle.kernel_eval.proofs.TripleLemmas.{Meets, KeptBy, triple_then}

module _ (Holds Stopped : EvaluationState → Type 0) (stop : (m : EvaluationState) → Holds m → Stopped m) where
  global_keeps : (global : Option Binding) (m : EvaluationState) → Holds m → Meets (λ v. Holds) Stopped (global_read global m).after (global_read global m).answer
  global_keeps (Some (ScalarName number)) m h = go (scalar_value m.state number) where
    go : (value : Option ℤ) → Meets (λ v. Holds) Stopped (scalar_read value m).after (scalar_read value m).answer
    go (Some n) = h
    go None = stop m h
  global_keeps _ m h = stop m h

  name_keeps : (value : Option ℤ) (x : Option (Option Elem)) (global : Option Binding) (m : EvaluationState) → Holds m
      → Meets (λ v. Holds) Stopped (name_read value x global m).after (name_read value x global m).answer
  name_keeps (Some n) x global m h = h
  name_keeps None (Some x) global m h = h
  name_keeps None None global m h = global_keeps global m h

  module _ (P : Access → Type 0) (read : (spot : Spot) (n : ℤ) (m : EvaluationState) → P (OfField spot.field, Read) → Holds m
      → Holds (with_act (record { spot = spot; mode = Read; value = n }) m)) where
    read_keeps : (spot : Spot) (value : Option ℤ) (m : EvaluationState) → P (OfField spot.field, Read) → Holds m
        → Meets (λ v. Holds) Stopped (read_spot spot value m).after (read_spot spot value m).answer
    read_keeps spot (Some n) m p h = read spot n m p h
    read_keeps spot None m p h = stop m h

    pub kept_by_expressions : IsTraversedByExpressions P (λ A computation. KeptBy Stopped Holds computation)
    kept_by_expressions =
        record {
          values = λ a. record { meets = λ m h. h };
          halts = λ reason. record { meets = λ m h. stop m h };
          traps = λ kind place. record { meets = λ m h. stop m h };
          then_of = λ f g. triple_then f g;
          name_of = λ name global. record { meets = λ m h. name_keeps (local_bound_to m name) (element_bound_to m name) global m h };
          read_of = λ mesh spot p. record { meets = λ m h. read_keeps spot (spot_value mesh m.state spot) m p h };
        }
