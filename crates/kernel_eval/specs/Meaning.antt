-- What expressions and the bodies of comprehensions mean. This project's own profile after Liszt (DeVito et al., Supercomputing
-- 2011).
use Rattle.std.specs.Prelude.{ℕ, ◌&&◌, ◌||◌, not, Bool, false, if◌then◌else◌, Option, Some, None, List, ℤ, pos, neg_ℤ, ◌+ℤ◌, ◌-ℤ◌, ◌*ℤ◌, int_le, int_div, int_rem}
use Rattle.liszt_base.specs.MeshLists.{MeshLists}
use Rattle.liszt_base.specs.declared.accesses.Mode.TheVariants.{Read}
use Rattle.liszt_base.specs.declared.accesses.Spot.{Spot}
use Rattle.liszt_base.specs.declared.answers.Place.{Place}
use Rattle.liszt_base.specs.declared.answers.TrapKind.{TrapKind}
use Rattle.liszt_base.specs.declared.answers.TrapKind.TheVariants.{Overflow, ZeroDivide, NilElement, Spent}
use Rattle.liszt_base.specs.declared.elements.Elem.{Elem}
use Rattle.liszt_base.specs.declared.elements.Op.TheVariants.{Add}
use Rattle.liszt_tree.specs.declared.tree.Fun.{Fun}
use Rattle.liszt_tree.specs.declared.tree.Fun.TheVariants.{Head, Tail, Inside, Outside, Flip, Valid, Id}
use Rattle.liszt_tree.specs.declared.tree.How.{How}
use Rattle.liszt_tree.specs.declared.tree.How.TheVariants.{Set, Fold, Less}
use Rattle.liszt_tree.specs.declared.tree.Rel.{Rel}
use Rattle.liszt_tree.specs.declared.tree.Rel.TheVariants.{Same, Other}
use Rattle.liszt_tree.specs.declared.tree.Sign.{Sign}
use Rattle.liszt_tree.specs.declared.tree.Sign.TheVariants.{Or, And, Plus, Minus, Times, Over, Rest}
use Rattle.liszt_tree.specs.Tree.{Expression, Number, Name, Field, Call, Towards, Neg, Not, Chain, Compare, Links, no_links, link}
use Rattle.liszt_tree.specs.Tree.{Statement, Var, Val, Assign, If, While, For, Body, no_statement, statement}
use Rattle.topo_operators.specs.Operators.{head, tail, inside, outside, flip, towards, same, valid, members}
use Rattle.phase_types.specs.Environments.{Environment, Binding, FieldName, ScalarName, binding_of, is_built_in}
use Rattle.phase_types.specs.Walk.{mode_by}
pub use Rattle.code_eval.specs.Arithmetic.{is_in_range, holds, operand, assigned_value, built_in_value, spot_of}
use Rattle.kernel_eval.specs.Outcomes.{Trapped, NoMeaning, Outcome, Computation, Done, pure, halt, modify, skip, ◌>>=◌, ◌>>◌, if_then_else, for_each, Turns, loop}
use Rattle.kernel_eval.specs.States.{State, value_in, with_value, with_fields, scalar_value, with_scalar_value, EvaluationState, element_bound_to, local_bound_to, with_element, with_local, with_local_value, with_act, with_fold, with_state, after_block}

-- VALUES: a number, a truth value, an element or nil
pub data Value : Type 0 where
  NumberValue : ℤ → Value
  TruthValue : Bool → Value
  ElementValue : Option Elem → Value

-- a trap of a kind at a place; the stop of what has no meaning
abbrev pub trap : {A : Type 0} → TrapKind → Place → EvaluationState → Outcome EvaluationState A
trap kind place m = halt (Trapped (record { kind = kind; place = place; elem = m.elem })) m

abbrev pub no_meaning : {A : Type 0} → EvaluationState → Outcome EvaluationState A
no_meaning m = halt NoMeaning m

abbrev pub number_of : Value → Computation EvaluationState ℤ
number_of (NumberValue n) = pure n
number_of _ = no_meaning

abbrev pub truth_of : Value → Computation EvaluationState Bool
truth_of (TruthValue b) = pure b
truth_of _ = no_meaning

abbrev pub element_of : Value → Computation EvaluationState (Option Elem)
element_of (ElementValue x) = pure x
element_of _ = no_meaning

-- NUMBERS out of range are an overflow, at the operator.
abbrev pub checked_number : Place → ℤ → Computation EvaluationState Value
checked_number place n = if_then_else (is_in_range n) (pure (NumberValue n)) (trap Overflow place)

-- Division rounds towards zero, the remainder has the sign of the dividend, and neither divides by zero.
abbrev pub checked_division : Place → ℤ → Computation EvaluationState Value → Computation EvaluationState Value
checked_division place divisor by = if_then_else (int_le divisor (pos 0) && int_le (pos 0) divisor) (trap ZeroDivide place) by

abbrev pub operator_result : Sign → Place → Value → Value → Computation EvaluationState Value
operator_result Or place (TruthValue a) (TruthValue b) = pure (TruthValue (a || b))
operator_result And place (TruthValue a) (TruthValue b) = pure (TruthValue (a && b))
operator_result Plus place (NumberValue a) (NumberValue b) = checked_number place (a +ℤ b)
operator_result Minus place (NumberValue a) (NumberValue b) = checked_number place (a -ℤ b)
operator_result Times place (NumberValue a) (NumberValue b) = checked_number place (a *ℤ b)
operator_result Over place (NumberValue a) (NumberValue b) = checked_division place b (checked_number place (int_div a b))
operator_result Rest place (NumberValue a) (NumberValue b) = checked_division place b (pure (NumberValue (int_rem a b)))
operator_result _ place _ _ = no_meaning

-- `||` stops at a true operand, and `&&` at a false one
abbrev pub is_decided : Sign → Value → Bool
is_decided Or (TruthValue b) = b
is_decided And (TruthValue b) = not b
is_decided _ _ = false

abbrev pub negation : Place → Value → Computation EvaluationState Value
negation place (NumberValue n) = checked_number place (neg_ℤ n)
negation place _ = no_meaning

abbrev pub complement : Value → Computation EvaluationState Value
complement (TruthValue b) = pure (TruthValue (not b))
complement _ = no_meaning

-- COMPARISONS of numbers, and of elements, which ignores orientation
abbrev pub comparison_result : Rel → Value → Value → Computation EvaluationState Value
comparison_result rel (NumberValue a) (NumberValue b) = pure (TruthValue (holds rel a b))
comparison_result Same (ElementValue x) (ElementValue y) = pure (TruthValue (same x y))
comparison_result Other (ElementValue x) (ElementValue y) = pure (TruthValue (not (same x y)))
comparison_result rel _ _ = no_meaning

-- CALLS on an element; the id of nil is a trap
abbrev pub id_result : Place → Option Elem → Computation EvaluationState Value
id_result place (Some x) = pure (NumberValue (pos x.id))
id_result place None = trap NilElement place

abbrev pub call_result : MeshLists → Place → Fun → Option Elem → Computation EvaluationState Value
call_result mesh place Head x = pure (ElementValue (head mesh x))
call_result mesh place Tail x = pure (ElementValue (tail mesh x))
call_result mesh place Inside x = pure (ElementValue (inside mesh x))
call_result mesh place Outside x = pure (ElementValue (outside mesh x))
call_result mesh place Flip x = pure (ElementValue (flip x))
call_result mesh place Valid x = pure (TruthValue (valid x))
call_result mesh place Id x = id_result place x

-- NAMES: a local number, an element, or a scalar of the main program
abbrev pub scalar_read : Option ℤ → Computation EvaluationState Value
scalar_read (Some n) = pure (NumberValue n)
scalar_read None = no_meaning

abbrev pub global_read : Option Binding → Computation EvaluationState Value
global_read (Some (ScalarName number)) = λ m. scalar_read (scalar_value m.state number) m
global_read _ = no_meaning

abbrev pub name_read : Option ℤ → Option (Option Elem) → Option Binding → Computation EvaluationState Value
name_read (Some n) x global = pure (NumberValue n)
name_read None (Some x) global = pure (ElementValue x)
name_read None None global = global_read global

-- FIELDS: the values of built-in fields are those of the mesh, those of other fields are in the state. An access at nil traps, at the
-- name of the field.
abbrev pub spot_value : MeshLists → State → Spot → Option ℤ
spot_value mesh s spot = if is_built_in spot.field then built_in_value mesh spot else value_in s.fields spot

abbrev pub read_spot : Spot → Option ℤ → Computation EvaluationState Value
read_spot spot (Some n) = λ m. pure (NumberValue n) (with_act (record { spot = spot; mode = Read; value = n }) m)
read_spot spot None = no_meaning

abbrev pub field_read : MeshLists → Place → Option Binding → Option Elem → Computation EvaluationState Value
field_read mesh place (Some (FieldName number kind)) (Some x) = λ m. read_spot (spot_of number x) (spot_value mesh m.state (spot_of number x)) m
field_read mesh place (Some (FieldName number kind)) None = trap NilElement place
field_read mesh place _ x = no_meaning

-- EXPRESSIONS, from the left, operands before operators. A chain is a fold from the left, which skips the operands after a deciding one.
abbrev mutual
  pub meaning : MeshLists → Environment → Expression → Computation EvaluationState Value
  meaning mesh environment (Number place n) = pure (NumberValue n)
  meaning mesh environment (Name place name) = λ m. name_read (local_bound_to m name) (element_bound_to m name) (binding_of environment name) m
  meaning mesh environment (Field place name arg) = meaning mesh environment arg >>= λ v. element_of v >>= λ x. field_read mesh place (binding_of environment name) x
  meaning mesh environment (Call place fun arg) = meaning mesh environment arg >>= λ v. element_of v >>= λ x. call_result mesh place fun x
  meaning mesh environment (Towards place arg to) =
      meaning mesh environment arg >>= λ v. element_of v >>= λ x. meaning mesh environment to >>= λ w. element_of w >>= λ y. pure (ElementValue (towards mesh x y))
  meaning mesh environment (Neg place arg) = meaning mesh environment arg >>= λ v. negation place v
  meaning mesh environment (Not place arg) = meaning mesh environment arg >>= λ v. complement v
  meaning mesh environment (Chain level first links) = meaning mesh environment first >>= λ v. links_meaning mesh environment v links
  meaning mesh environment (Compare place rel left right) = meaning mesh environment left >>= λ v. meaning mesh environment right >>= λ w. comparison_result rel v w

  pub links_meaning : MeshLists → Environment → Value → Links → Computation EvaluationState Value
  links_meaning mesh environment v no_links = pure v
  links_meaning mesh environment v (link sign place arg rest) =
      if_then_else (is_decided sign v) (pure v) (meaning mesh environment arg >>= λ w. operator_result sign place v w) >>= λ u. links_meaning mesh environment u rest

abbrev pub number_in : MeshLists → Environment → Expression → Computation EvaluationState ℤ
number_in mesh environment e = meaning mesh environment e >>= λ v. number_of v

abbrev pub truth_in : MeshLists → Environment → Expression → Computation EvaluationState Bool
truth_in mesh environment e = meaning mesh environment e >>= λ v. truth_of v

abbrev pub element_in : MeshLists → Environment → Expression → Computation EvaluationState (Option Elem)
element_in mesh environment e = meaning mesh environment e >>= λ v. element_of v

-- ASSIGNMENTS to a spot, a local number and a scalar
abbrev pub assign_spot : Spot → How → ℤ → Option ℤ → Computation EvaluationState Done
assign_spot spot how n (Some old) =
    modify (λ m. with_act (record { spot = spot; mode = mode_by how; value = operand how n }) (with_state (with_fields (with_value spot (assigned_value how old n) m.state.fields) m.state) m))
assign_spot spot how n None = no_meaning

abbrev pub assign_field : Place → How → Option Binding → ℤ → Option Elem → Computation EvaluationState Done
assign_field place how (Some (FieldName number kind)) n (Some x) = λ m. assign_spot (spot_of number x) how n (value_in m.state.fields (spot_of number x)) m
assign_field place how (Some (FieldName number kind)) n None = trap NilElement place
assign_field place how _ n x = no_meaning

-- a reduction of a scalar of the main program, which is recorded
abbrev pub with_scalar_fold : How → ℕ → ℤ → EvaluationState → EvaluationState
with_scalar_fold Set scalar n m = m
with_scalar_fold (Fold op) scalar n m = with_fold (record { scalar = scalar; op = op; value = n }) m
with_scalar_fold Less scalar n m = with_fold (record { scalar = scalar; op = Add; value = operand Less n }) m

abbrev pub assign_scalar : How → ℤ → ℕ → Option ℤ → Computation EvaluationState Done
assign_scalar how n scalar (Some old) = modify (λ m. with_scalar_fold how scalar n (with_state (with_scalar_value scalar (assigned_value how old n) m.state) m))
assign_scalar how n scalar None = no_meaning

abbrev pub assign_global : How → ℤ → Option Binding → Computation EvaluationState Done
assign_global how n (Some (ScalarName number)) = λ m. assign_scalar how n number (scalar_value m.state number) m
assign_global how n _ = no_meaning

abbrev pub assign_name : List ℕ → How → ℤ → Option ℤ → Option Binding → Computation EvaluationState Done
assign_name name how n (Some old) global = modify (with_local_value name (assigned_value how old n))
assign_name name how n None global = assign_global how n global

-- BLOCKS, turns, and loops over the members of a set in its order; a set of nil traps, at the word of the set
abbrev pub in_block : Computation EvaluationState Done → Computation EvaluationState Done
in_block body before = (body >> modify (after_block before)) before

abbrev pub evaluation_turns : Turns EvaluationState
evaluation_turns = record { remaining = λ m. m.state.turns; set_remaining = λ n m. with_state (record m.state { turns = n }) m }

abbrev pub for_each_member : MeshLists → Place → (Option Elem → Computation EvaluationState Done) → (Elem → List Elem) → Option Elem → Computation EvaluationState Done
for_each_member mesh place body set (Some x) = for_each (λ member. in_block (body (Some member))) (set x)
for_each_member mesh place body set None = trap NilElement place

-- STATEMENTS and bodies. An assignment evaluates its value, then its target.
abbrev mutual
  pub statement_meaning : MeshLists → Environment → Statement → Computation EvaluationState Done
  statement_meaning mesh environment (Var place name at init) = number_in mesh environment init >>= λ n. modify (with_local name n)
  statement_meaning mesh environment (Val place name at init) = element_in mesh environment init >>= λ x. modify (with_element name x)
  statement_meaning mesh environment (Assign place name (Some target) how set_to) =
      number_in mesh environment set_to >>= λ n. element_in mesh environment target >>= λ x. assign_field place how (binding_of environment name) n x
  statement_meaning mesh environment (Assign place name None how set_to) =
      number_in mesh environment set_to >>= λ n. λ m. assign_name name how n (local_bound_to m name) (binding_of environment name) m
  statement_meaning mesh environment (If place test first second has_else) =
      truth_in mesh environment test >>= λ b. if_then_else b (in_block (body_meaning mesh environment first)) (in_block (body_meaning mesh environment second))
  statement_meaning mesh environment (While place test body) =
      loop evaluation_turns (trap Spent place) (truth_in mesh environment test) (in_block (body_meaning mesh environment body))
  statement_meaning mesh environment (For place name at set set_at arg body) =
      element_in mesh environment arg >>= λ x.
      for_each_member mesh set_at (λ member. modify (with_element name member) >> body_meaning mesh environment body) (members mesh set) x

  pub body_meaning : MeshLists → Environment → Body → Computation EvaluationState Done
  body_meaning mesh environment no_statement = skip
  body_meaning mesh environment (statement s rest) = statement_meaning mesh environment s >> body_meaning mesh environment rest
