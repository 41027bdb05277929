-- An expression that gives an element gives the one of the bindings, and changes nothing.
use Rattle.std.proofs.Common.{◌≡◌, ℕ, Bool, true, false, List, refl, sym, ap, subst, ◌∙◌}
use Rattle.std.specs.Prelude.{Option, Some, None, ℤ, Result, Ok, Err, ◌&&◌, int_le, pos, int_div, int_rem, ◌+ℤ◌, ◌-ℤ◌, ◌*ℤ◌, neg_ℤ}
use Rattle.std.specs.Option.{option_and_then, option_map}
use Rattle.liszt_base.specs.MeshLists.{MeshLists}
use Rattle.liszt_base.specs.declared.accesses.Spot.{Spot}
use Rattle.liszt_base.specs.declared.answers.Place.{Place}
use Rattle.liszt_base.specs.declared.answers.TrapKind.TheVariants.{Overflow, ZeroDivide}
use Rattle.liszt_base.specs.declared.elements.Elem.{Elem}
use Rattle.liszt_tree.specs.declared.tree.Fun.{Fun}
use Rattle.liszt_tree.specs.declared.tree.Fun.TheVariants.{Head, Tail, Inside, Outside, Flip, Valid, Id}
use Rattle.liszt_tree.specs.declared.tree.Level.{Level}
use Rattle.liszt_tree.specs.declared.tree.Rel.{Rel}
use Rattle.liszt_tree.specs.declared.tree.Rel.TheVariants.{Same, Other}
use Rattle.liszt_tree.specs.declared.tree.Sign.{Sign}
use Rattle.liszt_tree.specs.declared.tree.Sign.TheVariants.{Or, And, Plus, Minus, Times, Over, Rest}
use Rattle.liszt_tree.specs.Tree.{Expression, Number, Name, Field, Call, Towards, Neg, Not, Chain, Compare, Links, no_links, link}
use Rattle.topo_operators.specs.Operators.{towards}
use Rattle.phase_types.specs.Environments.{Environment, Binding, FieldName, ScalarName, binding_of}
use Rattle.kernel_eval.specs.Expressions.{ElementBindings, called_element, element_value}
use Rattle.kernel_eval.specs.Outcomes.{Stop, Outcome, pure, continue_with, and_then, if_then_else}
use Rattle.kernel_eval.specs.States.{EvaluationState, local_bound_to, element_bound_to, scalar_value}
use Rattle.kernel_eval.specs.Meaning.{Value, NumberValue, TruthValue, ElementValue, element_of, checked_number, checked_division, operator_result, is_decided, negation, complement, comparison_result, id_result, call_result, scalar_read, global_read, name_read, read_spot, field_read, spot_of, spot_value, is_in_range, meaning, links_meaning, trap}

abbrev IsNoElement : Value → Type 0
IsNoElement (ElementValue x) = ⊥
IsNoElement _ = Unit {0}

-- COMPUTATIONS THAT GIVE NO ELEMENT
abbrev NoElementIn : Result Value Stop → Type 0
NoElementIn (Ok v) = IsNoElement v
NoElementIn (Err stop) = Unit {0}

record GivesNoElement (computation : EvaluationState → Outcome EvaluationState Value) : Type 0 where
  pub none : (m : EvaluationState) → NoElementIn (computation m).answer

continue_none : {A : Type 0} {next : A → EvaluationState → Outcome EvaluationState Value} → ((a : A) → GivesNoElement (next a)) → (s : EvaluationState)
    (answer : Result A Stop) → NoElementIn (continue_with next s answer).answer
continue_none h s (Ok a) = (h a).none s
continue_none h s (Err stop) = tt

then_none : {A : Type 0} (first : EvaluationState → Outcome EvaluationState A) {next : A → EvaluationState → Outcome EvaluationState Value}
    → ((a : A) → GivesNoElement (next a)) → GivesNoElement (and_then first next)
then_none first h = record { none = λ m. continue_none h (first m).after (first m).answer }

continue_none_of : {next : Value → EvaluationState → Outcome EvaluationState Value} → ((v : Value) → IsNoElement v → GivesNoElement (next v)) → (s : EvaluationState)
    (answer : Result Value Stop) → NoElementIn answer → NoElementIn (continue_with next s answer).answer
continue_none_of h s (Ok v) e = (h v e).none s
continue_none_of h s (Err stop) e = tt

then_none_of : {first : EvaluationState → Outcome EvaluationState Value} {next : Value → EvaluationState → Outcome EvaluationState Value} → GivesNoElement first
    → ((v : Value) → IsNoElement v → GivesNoElement (next v)) → GivesNoElement (and_then first next)
then_none_of {first = first} f h = record { none = λ m. continue_none_of h (first m).after (first m).answer (f.none m) }

if_none : {this other : EvaluationState → Outcome EvaluationState Value} (b : Bool) → GivesNoElement this → GivesNoElement other → GivesNoElement (if_then_else b this other)
if_none true f g = f
if_none false f g = g

value_none : (v : Value) → IsNoElement v → GivesNoElement (pure v)
value_none v h = record { none = λ m. h }

number_none : (place : Place) (n : ℤ) → GivesNoElement (checked_number place n)
number_none place n = if_none {this = pure (NumberValue n)} {other = trap Overflow place} (is_in_range n) (record { none = λ m. tt }) (record { none = λ m. tt })

division_none : (place : Place) (b : ℤ) {by : EvaluationState → Outcome EvaluationState Value} → GivesNoElement by → GivesNoElement (checked_division place b by)
division_none place b h = if_none {this = trap ZeroDivide place} (int_le b (pos 0) && int_le (pos 0) b) (record { none = λ m. tt }) h

operator_none : (sign : Sign) (place : Place) (v w : Value) → GivesNoElement (operator_result sign place v w)
operator_none Or place (TruthValue a) (TruthValue b) = record { none = λ m. tt }
operator_none And place (TruthValue a) (TruthValue b) = record { none = λ m. tt }
operator_none Plus place (NumberValue a) (NumberValue b) = number_none place (a +ℤ b)
operator_none Minus place (NumberValue a) (NumberValue b) = number_none place (a -ℤ b)
operator_none Times place (NumberValue a) (NumberValue b) = number_none place (a *ℤ b)
operator_none Over place (NumberValue a) (NumberValue b) = division_none place b (number_none place (int_div a b))
operator_none Rest place (NumberValue a) (NumberValue b) = division_none place b (value_none (NumberValue (int_rem a b)) tt)
operator_none _ place _ _ = record { none = λ m. tt }

negation_none : (place : Place) (v : Value) → GivesNoElement (negation place v)
negation_none place (NumberValue n) = number_none place (neg_ℤ n)
negation_none place _ = record { none = λ m. tt }

complement_none : (v : Value) → GivesNoElement (complement v)
complement_none (TruthValue b) = record { none = λ m. tt }
complement_none _ = record { none = λ m. tt }

comparison_none : (rel : Rel) (v w : Value) → GivesNoElement (comparison_result rel v w)
comparison_none rel (NumberValue a) (NumberValue b) = record { none = λ m. tt }
comparison_none Same (ElementValue x) (ElementValue y) = record { none = λ m. tt }
comparison_none Other (ElementValue x) (ElementValue y) = record { none = λ m. tt }
comparison_none rel _ _ = record { none = λ m. tt }

id_none : (place : Place) (x : Option Elem) → GivesNoElement (id_result place x)
id_none place (Some x) = record { none = λ m. tt }
id_none place None = record { none = λ m. tt }

scalar_none : (value : Option ℤ) → GivesNoElement (scalar_read value)
scalar_none (Some n) = record { none = λ m. tt }
scalar_none None = record { none = λ m. tt }

global_none : (global : Option Binding) → GivesNoElement (global_read global)
global_none (Some (ScalarName number)) = record { none = λ m. (scalar_none (scalar_value m.state number)).none m }
global_none _ = record { none = λ m. tt }

read_none : (spot : Spot) (value : Option ℤ) → GivesNoElement (read_spot spot value)
read_none spot (Some n) = record { none = λ m. tt }
read_none spot None = record { none = λ m. tt }

field_none : (mesh : MeshLists) (place : Place) (global : Option Binding) (x : Option Elem) → GivesNoElement (field_read mesh place global x)
field_none mesh place (Some (FieldName number kind)) (Some x) =
    record { none = λ m. (read_none (spot_of number x) (spot_value mesh m.state (spot_of number x))).none m }
field_none mesh place (Some (FieldName number kind)) None = record { none = λ m. tt }
field_none mesh place _ x = record { none = λ m. tt }

-- a decided operand is a truth value
decided_none : (sign : Sign) (v : Value) → is_decided sign v ≡ true → IsNoElement v
decided_none Or (TruthValue b) e = tt
decided_none And (TruthValue b) e = tt
decided_none _ (NumberValue n) e = tt
decided_none _ (TruthValue b) e = tt
decided_none Or (ElementValue x) e = absurd cc
decided_none And (ElementValue x) e = absurd cc
decided_none Plus (ElementValue x) e = absurd cc
decided_none Minus (ElementValue x) e = absurd cc
decided_none Times (ElementValue x) e = absurd cc
decided_none Over (ElementValue x) e = absurd cc
decided_none Rest (ElementValue x) e = absurd cc

choice_none : {other : EvaluationState → Outcome EvaluationState Value} (v : Value) (b : Bool) → (b ≡ true → IsNoElement v) → GivesNoElement other
    → GivesNoElement (if_then_else b (pure v) other)
choice_none v true h g = value_none v (h refl)
choice_none v false h g = g

module _ (mesh : MeshLists) (environment : Environment) where
  -- after an operator no chain gives an element
  link_none : (v : Value) (sign : Sign) (place : Place) (arg : Expression) → GivesNoElement (if_then_else (is_decided sign v) (pure v) (and_then (meaning mesh environment arg) (λ w. operator_result sign place v w)))
  link_none v sign place arg =
      choice_none v (is_decided sign v) (decided_none sign v) (then_none (meaning mesh environment arg) (λ w. operator_none sign place v w))

  links_none : (v : Value) → IsNoElement v → (links : Links) → GivesNoElement (links_meaning mesh environment v links)
  links_none v h no_links = value_none v h
  links_none v h (link sign place arg rest) = then_none_of (link_none v sign place arg) (λ u g. links_none u g rest)

  -- THE ELEMENT of an outcome: that of the bindings, with the state unchanged
  abbrev pub IsElementOf : ElementBindings → Expression → EvaluationState → EvaluationState → Result Value Stop → Type 0
  IsElementOf elements e m after (Ok (ElementValue x)) = (element_value mesh elements e ≡ Some x) × (after ≡ m)
  IsElementOf elements e m after _ = Unit {0}

  no_element : (elements : ElementBindings) (e : Expression) (m after : EvaluationState) (answer : Result Value Stop) → NoElementIn answer → IsElementOf elements e m after answer
  no_element elements e m after (Ok (NumberValue n)) h = tt
  no_element elements e m after (Ok (TruthValue b)) h = tt
  no_element elements e m after (Ok (ElementValue x)) h = absurd h
  no_element elements e m after (Err stop) h = tt

  abbrev pub GivesElement : Expression → Type 0
  GivesElement e = (m : EvaluationState) → IsElementOf m.elements e m (meaning mesh environment e m).after (meaning mesh environment e m).answer

  from_none : (e : Expression) → GivesNoElement (meaning mesh environment e) → GivesElement e
  from_none e h m = no_element m.elements e m (meaning mesh environment e m).after (meaning mesh environment e m).answer (h.none m)

  name_element : (place : Place) (name : List ℕ) (m : EvaluationState) (value : Option ℤ) (x : Option (Option Elem)) (global : Option Binding) → element_bound_to m name ≡ x
      → IsElementOf m.elements (Name place name) m (name_read value x global m).after (name_read value x global m).answer
  name_element place name m (Some n) x global e = tt
  name_element place name m None (Some x) global e = (e, refl)
  name_element place name m None None global e = no_element m.elements (Name place name) m _ _ ((global_none global).none m)

  -- a call of an element
  called : (place : Place) (fun : Fun) (arg : Expression) (m : EvaluationState) (x : Option Elem) → element_value mesh m.elements arg ≡ Some x
      → IsElementOf m.elements (Call place fun arg) m (call_result mesh place fun x m).after (call_result mesh place fun x m).answer
  called place Head arg m x e = (ap (option_and_then (called_element mesh Head)) e, refl)
  called place Tail arg m x e = (ap (option_and_then (called_element mesh Tail)) e, refl)
  called place Inside arg m x e = (ap (option_and_then (called_element mesh Inside)) e, refl)
  called place Outside arg m x e = (ap (option_and_then (called_element mesh Outside)) e, refl)
  called place Flip arg m x e = (ap (option_and_then (called_element mesh Flip)) e, refl)
  called place Valid arg m x e = tt
  called place Id arg m x e = no_element m.elements (Call place Id arg) m _ _ ((id_none place x).none m)

  abbrev call_after : Place → Fun → EvaluationState → Result Value Stop → Outcome EvaluationState Value
  call_after place fun s answer = continue_with (λ v. and_then (element_of v) (λ x. call_result mesh place fun x)) s answer

  call_element : (place : Place) (fun : Fun) (arg : Expression) (m s : EvaluationState) (answer : Result Value Stop) → IsElementOf m.elements arg m s answer
      → IsElementOf m.elements (Call place fun arg) m (call_after place fun s answer).after (call_after place fun s answer).answer
  call_element place fun arg m s (Ok (ElementValue x)) h =
      subst (λ s. IsElementOf m.elements (Call place fun arg) m (call_result mesh place fun x s).after (call_result mesh place fun x s).answer) (sym h.1)
      (called place fun arg m x h.0)
  call_element place fun arg m s (Ok (NumberValue n)) h = tt
  call_element place fun arg m s (Ok (TruthValue b)) h = tt
  call_element place fun arg m s (Err stop) h = tt

  -- `towards`
  abbrev to_after : Option Elem → EvaluationState → Result Value Stop → Outcome EvaluationState Value
  to_after x s answer = continue_with (λ w. and_then (element_of w) (λ y. pure (ElementValue (towards mesh x y)))) s answer

  towards_value : (place : Place) (arg to : Expression) (elements : ElementBindings) (x y : Option Elem) → element_value mesh elements arg ≡ Some x
      → element_value mesh elements to ≡ Some y → element_value mesh elements (Towards place arg to) ≡ Some (towards mesh x y)
  towards_value place arg to elements x y e f =
      ap (option_and_then (λ x. option_map (towards mesh x) (element_value mesh elements to))) e ∙ ap (option_map (towards mesh x)) f

  to_element : (place : Place) (arg to : Expression) (m : EvaluationState) (x : Option Elem) → element_value mesh m.elements arg ≡ Some x → (s : EvaluationState)
      (answer : Result Value Stop) → IsElementOf m.elements to m s answer → IsElementOf m.elements (Towards place arg to) m (to_after x s answer).after (to_after x s answer).answer
  to_element place arg to m x e s (Ok (ElementValue y)) h = (towards_value place arg to m.elements x y e h.0, h.1)
  to_element place arg to m x e s (Ok (NumberValue n)) h = tt
  to_element place arg to m x e s (Ok (TruthValue b)) h = tt
  to_element place arg to m x e s (Err stop) h = tt

  abbrev towards_after : Expression → EvaluationState → Result Value Stop → Outcome EvaluationState Value
  towards_after to s answer =
      continue_with (λ v. and_then (element_of v) (λ x. and_then (meaning mesh environment to) (λ w. and_then (element_of w) (λ y. pure (ElementValue (towards mesh x y)))))) s answer

  towards_element : (place : Place) (arg to : Expression) (m s : EvaluationState) (answer : Result Value Stop) → IsElementOf m.elements arg m s answer
      → IsElementOf m.elements to m (meaning mesh environment to m).after (meaning mesh environment to m).answer
      → IsElementOf m.elements (Towards place arg to) m (towards_after to s answer).after (towards_after to s answer).answer
  towards_element place arg to m s (Ok (ElementValue x)) h g =
      subst (λ s. IsElementOf m.elements (Towards place arg to) m (towards_after to s (Ok (ElementValue x))).after (towards_after to s (Ok (ElementValue x))).answer) (sym h.1)
      (to_element place arg to m x h.0 (meaning mesh environment to m).after (meaning mesh environment to m).answer g)
  towards_element place arg to m s (Ok (NumberValue n)) h g = tt
  towards_element place arg to m s (Ok (TruthValue b)) h g = tt
  towards_element place arg to m s (Err stop) h g = tt

  -- a chain without an operator
  chain_element : (level : Level) (first : Expression) (m s : EvaluationState) (answer : Result Value Stop) → IsElementOf m.elements first m s answer
      → IsElementOf m.elements (Chain level first no_links) m (continue_with (λ v. pure v) s answer).after (continue_with (λ v. pure v) s answer).answer
  chain_element level first m s (Ok (ElementValue x)) h = h
  chain_element level first m s (Ok (NumberValue n)) h = tt
  chain_element level first m s (Ok (TruthValue b)) h = tt
  chain_element level first m s (Err stop) h = tt

  pub gives_element : (e : Expression) → GivesElement e
  gives_element (Number place n) m = tt
  gives_element (Name place name) m = name_element place name m (local_bound_to m name) (element_bound_to m name) (binding_of environment name) refl
  gives_element (Field place name arg) m =
      from_none (Field place name arg) (then_none (meaning mesh environment arg) (λ v. then_none (element_of v) (λ x. field_none mesh place (binding_of environment name) x))) m
  gives_element (Call place fun arg) m = call_element place fun arg m (meaning mesh environment arg m).after (meaning mesh environment arg m).answer (gives_element arg m)
  gives_element (Towards place arg to) m =
      towards_element place arg to m (meaning mesh environment arg m).after (meaning mesh environment arg m).answer (gives_element arg m) (gives_element to m)
  gives_element (Neg place arg) m = from_none (Neg place arg) (then_none (meaning mesh environment arg) (λ v. negation_none place v)) m
  gives_element (Not place arg) m = from_none (Not place arg) (then_none (meaning mesh environment arg) (λ v. complement_none v)) m
  gives_element (Chain level first no_links) m = chain_element level first m (meaning mesh environment first m).after (meaning mesh environment first m).answer (gives_element first m)
  gives_element (Chain level first (link sign place arg rest)) m =
      from_none (Chain level first (link sign place arg rest))
      (then_none (meaning mesh environment first) (λ v. then_none_of (link_none v sign place arg) (λ u g. links_none u g rest))) m
  gives_element (Compare place rel left right) m =
      from_none (Compare place rel left right)
      (then_none (meaning mesh environment left) (λ v. then_none (meaning mesh environment right) (λ w. comparison_none rel v w))) m

  pub element_is : (e : Expression) (m : EvaluationState) (x : Option Elem) → (meaning mesh environment e m).answer ≡ Ok (ElementValue x)
      → (element_value mesh m.elements e ≡ Some x) × ((meaning mesh environment e m).after ≡ m)
  element_is e m x is = subst (λ answer. IsElementOf m.elements e m (meaning mesh environment e m).after answer) is (gives_element e m)
