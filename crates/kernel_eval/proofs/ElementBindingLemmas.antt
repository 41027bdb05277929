-- Statements other than `val` leave the bindings of elements as they were, and the end of a block restores them.
use Rattle.std.proofs.Common.{◌≡◌, ℕ, List, [], ◌∷◌, refl, sym, ap, ◌∙◌}
use Rattle.std.specs.Prelude.{Option, Some, None, ℤ, Result, Ok, Err}
use Rattle.std.specs.List.{AllByRecursion}
use Rattle.liszt_base.specs.MeshLists.{MeshLists}
use Rattle.liszt_base.specs.declared.accesses.Spot.{Spot}
use Rattle.liszt_base.specs.declared.answers.Place.{Place}
use Rattle.liszt_base.specs.declared.elements.Elem.{Elem}
use Rattle.liszt_base.specs.declared.elements.SetName.{SetName}
use Rattle.liszt_tree.specs.declared.tree.How.{How}
use Rattle.liszt_tree.specs.declared.tree.How.TheVariants.{Set, Fold, Less}
use Rattle.liszt_tree.specs.Tree.{Expression, Statement, Var, Val, Assign, If, While, For, Body}
use Rattle.topo_operators.specs.Operators.{members}
use Rattle.phase_types.specs.Environments.{Environment, Binding, FieldName, ScalarName, binding_of}
use Rattle.kernel_eval.specs.Expressions.{ElementBindings, element_value, with_binding, elements_after}
use Rattle.kernel_eval.specs.Outcomes.{Stop, continue_with, and_then, modify}
use Rattle.kernel_eval.specs.States.{EvaluationState, value_in, scalar_value, local_bound_to, after_block, with_element, with_local}
use Rattle.kernel_eval.specs.Meaning.{Value, NumberValue, TruthValue, ElementValue, element_of, spot_of, meaning, number_in, truth_in, element_in, assign_spot, assign_field, assign_scalar, assign_name, in_block, evaluation_turns, for_each_member, statement_meaning, body_meaning}
use Rattle.kernel_eval.proofs.ConditionLemmas.{kept_by_expressions}
use Rattle.kernel_eval.proofs.ElementExpressionLemmas.{IsElementOf, gives_element}
use Rattle.kernel_eval.proofs.PreservationLemmas.{keeps_body, leads, element_keeps}
use Rattle.kernel_eval.proofs.ComputationLemmas.{keeps_then}
use Rattle.kernel_eval.specs.Preservation.{Preserves}
use Rattle.kernel_eval.proofs.ShapeLemmas.{KeepsShape, shapes_kept, block_shape_preserved}
use Rattle.kernel_eval.proofs.TraversalLemmas.{Computes, IsTraversedByExpressions, over_number, over_truth}
use Rattle.kernel_eval.proofs.TripleLemmas.{Meets, Triple, KeptBy, triple_then, triple_if, triple_loop, triple_for_each}

abbrev Any : EvaluationState → Type 0
Any m = Unit {0}

-- from states with these bindings, a computation that ends leaves them
abbrev Bound : ElementBindings → EvaluationState → Type 0
Bound elements m = m.elements ≡ elements

abbrev Leaves : ElementBindings → {A : Type 0} → Computes A → Type 0
Leaves elements computation = KeptBy Any (Bound elements) computation

module _ (elements : ElementBindings) where
  expressions_leave : IsTraversedByExpressions (λ a. Unit {0}) (λ A computation. Leaves elements computation)
  expressions_leave = kept_by_expressions (Bound elements) Any (λ m h. tt) (λ a. Unit {0}) (λ spot n m any h. h)

  number_leaves : (mesh : MeshLists) (environment : Environment) (e : Expression) → Leaves elements (number_in mesh environment e)
  number_leaves mesh environment e = over_number expressions_leave mesh environment e (λ a t. tt)

  truth_leaves : (mesh : MeshLists) (environment : Environment) (e : Expression) → Leaves elements (truth_in mesh environment e)
  truth_leaves mesh environment e = over_truth expressions_leave mesh environment e (λ a t. tt)

  -- an element expression gives the element of the bindings
  element_leaves : (mesh : MeshLists) (environment : Environment) (e : Expression)
      → Triple (Bound elements) (element_in mesh environment e) (λ x m. (element_value mesh elements e ≡ Some x) × Bound elements m) Any
  element_leaves mesh environment e = record {
    meets = λ m h. go m h (meaning mesh environment e m).after (meaning mesh environment e m).answer (gives_element mesh environment e m);
  } where
    go : (m : EvaluationState) → Bound elements m → (s : EvaluationState) (answer : Result Value Stop) → IsElementOf mesh environment m.elements e m s answer
        → Meets (λ x m. (element_value mesh elements e ≡ Some x) × Bound elements m) Any (continue_with (λ v. element_of v) s answer).after (continue_with (λ v. element_of v) s answer).answer
    go m h s (Ok (ElementValue x)) is = (ap (λ elements. element_value mesh elements e) (sym h) ∙ is.0, ap (λ s. s.elements) is.1 ∙ h)
    go m h s (Ok (NumberValue n)) is = tt
    go m h s (Ok (TruthValue b)) is = tt
    go m h s (Err stop) is = tt

  -- assignments
  spot_leaves : (spot : Spot) (how : How) (n : ℤ) (value : Option ℤ) (m : EvaluationState) → Bound elements m
      → Meets (λ done. Bound elements) Any (assign_spot spot how n value m).after (assign_spot spot how n value m).answer
  spot_leaves spot how n (Some old) m h = h
  spot_leaves spot how n None m h = tt

  field_leaves : (place : Place) (how : How) (global : Option Binding) (n : ℤ) (x : Option Elem) → Leaves elements (assign_field place how global n x)
  field_leaves place how (Some (FieldName number kind)) n (Some x) =
      record { meets = λ m h. spot_leaves (spot_of number x) how n (value_in m.state.fields (spot_of number x)) m h }
  field_leaves place how (Some (FieldName number kind)) n None = record { meets = λ m h. tt }
  field_leaves place how _ n x = record { meets = λ m h. tt }

  scalar_leaves : (how : How) (n : ℤ) (scalar : ℕ) (value : Option ℤ) (m : EvaluationState) → Bound elements m
      → Meets (λ done. Bound elements) Any (assign_scalar how n scalar value m).after (assign_scalar how n scalar value m).answer
  scalar_leaves Set n scalar (Some old) m h = h
  scalar_leaves (Fold op) n scalar (Some old) m h = h
  scalar_leaves Less n scalar (Some old) m h = h
  scalar_leaves how n scalar None m h = tt

  name_set_leaves : (name : List ℕ) (how : How) (n : ℤ) (value : Option ℤ) (global : Option Binding) (m : EvaluationState) → Bound elements m
      → Meets (λ done. Bound elements) Any (assign_name name how n value global m).after (assign_name name how n value global m).answer
  name_set_leaves name how n (Some old) global m h = h
  name_set_leaves name how n None (Some (ScalarName number)) m h = scalar_leaves how n number (scalar_value m.state number) m h
  name_set_leaves name how n None _ m h = tt

  -- blocks
  block_leaves : {body : Computes (Unit {0})} → Preserves KeepsShape body → Leaves elements (in_block body)
  block_leaves {body = body} k = record { meets = λ m h. go m h (body m).after (body m).answer (k.preserved m) } where
    go : (before : EvaluationState) → Bound elements before → (s : EvaluationState) (answer : Result (Unit {0}) Stop) → KeepsShape before s
        → Meets (λ done. Bound elements) Any (continue_with (λ done. modify (after_block before)) s answer).after (continue_with (λ done. modify (after_block before)) s answer).answer
    go before h s (Ok done) r = (block_shape_preserved before s r).elements ∙ h
    go before h s (Err stop) r = tt

  each_any : (xs : List Elem) → AllByRecursion (λ x. Unit {0}) xs
  each_any [] = tt
  each_any (x ∷ xs) = (tt, each_any xs)

  members_leave : (mesh : MeshLists) (place : Place) {body : Option Elem → Computes (Unit {0})} → ((x : Option Elem) → Preserves KeepsShape (body x)) → (set : Elem → List Elem)
      (x : Option Elem) → Leaves elements (for_each_member mesh place body set x)
  members_leave mesh place k set (Some x) = triple_for_each (λ member any. block_leaves (k (Some member))) (set x) (each_any (set x))
  members_leave mesh place k set None = record { meets = λ m h. tt }

  module _ (mesh : MeshLists) (environment : Environment) where
    body_shape : (body : Body) → Preserves KeepsShape (body_meaning mesh environment body)
    body_shape body = keeps_body shapes_kept mesh environment body (λ a t. tt)

    member_shape : (name : List ℕ) (body : Body) (x : Option Elem) → Preserves KeepsShape (and_then (modify (with_element name x)) (λ done. body_meaning mesh environment body))
    member_shape name body x = keeps_then (leads shapes_kept) (element_keeps shapes_kept name x) (λ done. body_shape body)

    abbrev Gave : Expression → Option Elem → EvaluationState → Type 0
    Gave e x m = (element_value mesh elements e ≡ Some x) × Bound elements m

    local_step : (name : List ℕ) (n : ℤ) → Leaves elements (modify (with_local name n))
    local_step name n = record { meets = λ m h. h }

    val_step : (name : List ℕ) (init : Expression) (x : Option Elem)
        → Triple (Gave init x) (modify (with_element name x)) (λ done. Bound (with_binding name (element_value mesh elements init) elements)) Any
    val_step name init x = record {
      meets = λ m h. ap (λ bound. (name, x) ∷ bound) h.1 ∙ sym (ap (λ value. with_binding name value elements) h.0);
    }

    field_step : (place : Place) (how : How) (global : Option Binding) (n : ℤ) (target : Expression) (x : Option Elem)
        → Triple (Gave target x) (assign_field place how global n x) (λ done. Bound elements) Any
    field_step place how global n target x = record { meets = λ m h. (field_leaves place how global n x).meets m h.1 }

    name_step : (name : List ℕ) (how : How) (n : ℤ) (global : Option Binding) → Leaves elements (λ m. assign_name name how n (local_bound_to m name) global m)
    name_step name how n global = record { meets = λ m h. name_set_leaves name how n (local_bound_to m name) global m h }

    members_step : (name : List ℕ) (set : SetName) (set_at : Place) (arg : Expression) (body : Body) (x : Option Elem)
        → Triple (Gave arg x) (for_each_member mesh set_at (λ member. and_then (modify (with_element name member)) (λ done. body_meaning mesh environment body)) (members mesh set) x)
        (λ done. Bound elements) Any
    members_step name set set_at arg body x = record { meets = λ m h. (members_leave mesh set_at (member_shape name body) (members mesh set) x).meets m h.1 }

    pub statement_leaves : (s : Statement) → Triple (Bound elements) (statement_meaning mesh environment s) (λ done. Bound (elements_after mesh elements s)) Any
    statement_leaves (Var place name at init) = triple_then (number_leaves mesh environment init) (λ n. local_step name n)
    statement_leaves (Val place name at init) = triple_then (element_leaves mesh environment init) (λ x. val_step name init x)
    statement_leaves (Assign place name (Some target) how set_to) =
        triple_then (number_leaves mesh environment set_to) (λ n. triple_then (element_leaves mesh environment target)
        (λ x. field_step place how (binding_of environment name) n target x))
    statement_leaves (Assign place name None how set_to) =
        triple_then (number_leaves mesh environment set_to) (λ n. name_step name how n (binding_of environment name))
    statement_leaves (If place test first second has_else) =
        triple_then (truth_leaves mesh environment test) (λ b. triple_if b (block_leaves (body_shape first)) (block_leaves (body_shape second)))
    statement_leaves (While place test body) =
        triple_loop evaluation_turns (λ n m h. h) (record { meets = λ m h. tt }) (truth_leaves mesh environment test) (block_leaves (body_shape body))
    statement_leaves (For place name at set set_at arg body) =
        triple_then (element_leaves mesh environment arg) (λ x. members_step name set set_at arg body x)

-- an outcome that is done meets its condition
done_is : (Ended : EvaluationState → Type 0) (after : EvaluationState) (answer : Result (Unit {0}) Stop) → Meets (λ done. Ended) Any after answer
    → answer ≡ Ok (tt {0}) → Ended after
done_is Ended after (Ok done) h e = h
done_is Ended after (Err stop) h e = absurd cc

pub after_statement : (mesh : MeshLists) (environment : Environment) (s : Statement) (m : EvaluationState) → (statement_meaning mesh environment s m).answer ≡ Ok (tt {0})
    → (statement_meaning mesh environment s m).after.elements ≡ elements_after mesh m.elements s
after_statement mesh environment s m e =
    done_is (Bound (elements_after mesh m.elements s)) (statement_meaning mesh environment s m).after (statement_meaning mesh environment s m).answer
    ((statement_leaves m.elements mesh environment s).meets m refl) e

pub after_body_block : (mesh : MeshLists) (environment : Environment) (body : Body) (m : EvaluationState) → (in_block (body_meaning mesh environment body) m).answer ≡ Ok (tt {0})
    → (in_block (body_meaning mesh environment body) m).after.elements ≡ m.elements
after_body_block mesh environment body m e =
    done_is (Bound m.elements) (in_block (body_meaning mesh environment body) m).after (in_block (body_meaning mesh environment body) m).answer
    ((block_leaves m.elements (body_shape m.elements mesh environment body)).meets m refl) e
