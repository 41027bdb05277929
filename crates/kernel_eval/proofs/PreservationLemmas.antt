-- Meanings preserve a relation that each of their single changes preserves. A change of a field or a scalar must preserve it only for the
-- accesses of the body.
use Rattle.std.proofs.Common.{◌≡◌, ℕ, suc, false, List, refl, sym, ap, ◌∙◌}
use Rattle.std.specs.Prelude.{Option, Some, None, ℤ, if◌then◌else◌, Result, Ok, Err}
use Rattle.liszt_base.specs.MeshLists.{MeshLists}
use Rattle.liszt_base.specs.declared.accesses.Mode.TheVariants.{Read}
use Rattle.liszt_base.specs.declared.accesses.Spot.{Spot}
use Rattle.liszt_base.specs.declared.answers.Place.{Place}
use Rattle.liszt_base.specs.declared.answers.TrapKind.TheVariants.{Spent}
use Rattle.liszt_base.specs.declared.elements.Elem.{Elem}
use Rattle.liszt_tree.specs.declared.tree.How.{How}
use Rattle.liszt_tree.specs.Tree.{Expression, Body}
use Rattle.phase_types.specs.Environments.{Environment, Binding, ScalarName, is_built_in}
use Rattle.phase_types.specs.Walk.{OfField, OfScalar, mode_by}
use Rattle.kernel_eval.specs.Preservation.{Preserves}
use Rattle.kernel_eval.specs.Outcomes.{Stop, Outcome, continue_with, modify}
use Rattle.kernel_eval.specs.States.{EvaluationState, value_in, with_value, with_fields, with_scalar_value, scalar_value, with_local, with_local_value, with_element, with_act, with_state, after_block, local_bound_to, element_bound_to}
use Rattle.kernel_eval.specs.Meaning.{scalar_read, global_read, name_read, read_spot, spot_value, built_in_value, number_in, truth_in, operand, assigned_value, assign_spot, with_scalar_fold, assign_scalar, assign_global, assign_name, in_block, evaluation_turns, body_meaning, trap}
use Rattle.kernel_eval.proofs.ComputationLemmas.{IsPreorder, keeps_then, keeps_loop}
use Rattle.kernel_eval.proofs.TraversalLemmas.{Access, TouchesScalar, Touches, BodyTouches, Computes, Only, IsTraversedByExpressions, IsTraversed, over_number, over_truth, over_body}

-- SINGLE CHANGES preserve the relation, those of fields and scalars if P admits the access
pub record IsFilter (P : Access → Type 0) (R : EvaluationState → EvaluationState → Type 0) : Type 0 where
  pub same : (m : EvaluationState) → R m m
  pub later : (a b c : EvaluationState) → R a b → R b c → R a c
  pub local : (name : List ℕ) (n : ℤ) (m : EvaluationState) → R m (with_local name n m)
  pub local_set : (name : List ℕ) (n : ℤ) (m : EvaluationState) → R m (with_local_value name n m)
  pub element : (name : List ℕ) (x : Option Elem) (m : EvaluationState) → R m (with_element name x m)
  pub read : (spot : Spot) (n : ℤ) (m : EvaluationState) → P (OfField spot.field, Read) → (is_built_in spot.field ≡ false → value_in m.state.fields spot ≡ Some n)
      → R m (with_act (record { spot = spot; mode = Read; value = n }) m)
  pub spot_set : (spot : Spot) (how : How) (n old : ℤ) (m : EvaluationState) → P (OfField spot.field, mode_by how) → value_in m.state.fields spot ≡ Some old
      → R m (with_act (record { spot = spot; mode = mode_by how; value = operand how n }) (with_state (with_fields (with_value spot (assigned_value how old n) m.state.fields) m.state) m))
  pub scalar_assignment : (how : How) (n : ℤ) (scalar : ℕ) (old : ℤ) (m : EvaluationState) → P (OfScalar scalar, mode_by how) → scalar_value m.state scalar ≡ Some old
      → R m (with_scalar_fold how scalar n (with_state (with_scalar_value scalar (assigned_value how old n) m.state) m))
  pub block : (before m : EvaluationState) → R before m → R before (after_block before m)
  pub turn : (n : ℕ) (m : EvaluationState) → m.state.turns ≡ suc n → R m (with_state (record m.state { turns = n }) m)

module _ {P : Access → Type 0} {R : EvaluationState → EvaluationState → Type 0} (k : IsFilter P R) where
  pub leads : IsPreorder R
  leads = record { same = k.same; later = k.later }

  -- single steps
  keeps_scalar_read : (value : Option ℤ) → Preserves R (scalar_read value)
  keeps_scalar_read (Some n) = record { preserved = k.same }
  keeps_scalar_read None = record { preserved = k.same }

  keeps_global_read : (global : Option Binding) → Preserves R (global_read global)
  keeps_global_read (Some (ScalarName number)) = record { preserved = λ m. (keeps_scalar_read (scalar_value m.state number)).preserved m }
  keeps_global_read _ = record { preserved = k.same }

  keeps_name_read : (value : Option ℤ) (x : Option (Option Elem)) (global : Option Binding) → Preserves R (name_read value x global)
  keeps_name_read (Some n) x global = record { preserved = k.same }
  keeps_name_read None (Some x) global = record { preserved = k.same }
  keeps_name_read None None global = keeps_global_read global

  keeps_read_spot : (mesh : MeshLists) (spot : Spot) (m : EvaluationState) (value : Option ℤ) → P (OfField spot.field, Read) → spot_value mesh m.state spot ≡ value
      → R m (read_spot spot value m).after
  keeps_read_spot mesh spot m (Some n) h e =
      k.read spot n m h (λ declared. ap (λ b. if b then built_in_value mesh spot else value_in m.state.fields spot) (sym declared) ∙ e)
  keeps_read_spot mesh spot m None h e = k.same m

  keeps_spot : (spot : Spot) (how : How) (n : ℤ) (m : EvaluationState) (value : Option ℤ) → P (OfField spot.field, mode_by how)
      → value_in m.state.fields spot ≡ value → R m (assign_spot spot how n value m).after
  keeps_spot spot how n m (Some old) h e = k.spot_set spot how n old m h e
  keeps_spot spot how n m None h e = k.same m

  keeps_assign_scalar : (how : How) (n : ℤ) (scalar : ℕ) (m : EvaluationState) (value : Option ℤ) → P (OfScalar scalar, mode_by how)
      → scalar_value m.state scalar ≡ value → R m (assign_scalar how n scalar value m).after
  keeps_assign_scalar how n scalar m (Some old) h e = k.scalar_assignment how n scalar old m h e
  keeps_assign_scalar how n scalar m None h e = k.same m

  keeps_assign_global : (how : How) (n : ℤ) (global : Option Binding) → Only P (TouchesScalar global (mode_by how)) → Preserves R (assign_global how n global)
  keeps_assign_global how n (Some (ScalarName number)) h =
      record { preserved = λ m. keeps_assign_scalar how n number m (scalar_value m.state number) (h _ refl) refl }
  keeps_assign_global how n _ h = record { preserved = k.same }

  keeps_assign_name : (name : List ℕ) (how : How) (n : ℤ) (value : Option ℤ) (global : Option Binding)
      → Only P (TouchesScalar global (mode_by how)) → Preserves R (assign_name name how n value global)
  keeps_assign_name name how n (Some old) global h = record { preserved = k.local_set name (assigned_value how old n) }
  keeps_assign_name name how n None global h = keeps_assign_global how n global h

  local_keeps : (name : List ℕ) (n : ℤ) → Preserves R (modify (with_local name n))
  local_keeps name n = record { preserved = k.local name n }

  pub element_keeps : (name : List ℕ) (x : Option Elem) → Preserves R (modify (with_element name x))
  element_keeps name x = record { preserved = k.element name x }

  keeps_block_end : (before s : EvaluationState) → R before s → (answer : Result (Unit {0}) Stop)
      → R before (continue_with (λ done. modify (after_block before)) s answer).after
  keeps_block_end before s r (Ok done) = k.block before s r
  keeps_block_end before s r (Err stop) = r

  pub keeps_in_block : {body : EvaluationState → Outcome EvaluationState (Unit {0})} → Preserves R body → Preserves R (in_block body)
  keeps_in_block {body = body} h = record { preserved = λ m. keeps_block_end m (body m).after (h.preserved m) (body m).answer }

  spent_keeps : (place : Place) → Preserves R (trap {A = Unit {0}} Spent place)
  spent_keeps place = record { preserved = k.same }

  abbrev Kept : (A : Type 0) → Computes A → Type 0
  Kept A computation = Preserves R computation

  by_expressions : IsTraversedByExpressions P Kept
  by_expressions =
      record {
        values = λ a. record { preserved = k.same };
        halts = λ stop. record { preserved = k.same };
        traps = λ kind place. record { preserved = k.same };
        then_of = λ f h. keeps_then leads f h;
        name_of = λ name global. record { preserved = λ m. (keeps_name_read (local_bound_to m name) (element_bound_to m name) global).preserved m };
        read_of = λ mesh spot h. record { preserved = λ m. keeps_read_spot mesh spot m (spot_value mesh m.state spot) h refl };
      }

  traversed : IsTraversed P Kept
  traversed =
      record {
        expressions = by_expressions;
        local_of = local_keeps;
        element = element_keeps;
        spot_set = λ spot how n h. record { preserved = λ m. keeps_spot spot how n m (value_in m.state.fields spot) h refl };
        name_set = λ name how n global h. record { preserved = λ m. (keeps_assign_name name how n (local_bound_to m name) global h).preserved m };
        block = λ h. keeps_in_block h;
        loops = λ place t h. keeps_loop leads evaluation_turns k.turn (spent_keeps place) t h;
      }

  pub keeps_number_in : (mesh : MeshLists) (environment : Environment) (e : Expression) → Only P (λ a. Touches environment a e) → Preserves R (number_in mesh environment e)
  keeps_number_in = over_number by_expressions

  pub keeps_truth_in : (mesh : MeshLists) (environment : Environment) (e : Expression) → Only P (λ a. Touches environment a e) → Preserves R (truth_in mesh environment e)
  keeps_truth_in = over_truth by_expressions

  pub keeps_body : (mesh : MeshLists) (environment : Environment) (body : Body) → Only P (λ a. BodyTouches environment a body) → Preserves R (body_meaning mesh environment body)
  keeps_body = over_body traversed
