-- An expression of the main program gives the same answer over every mesh and from all states with the same scalars, and changes nothing.
use Rattle.std.proofs.Common.{◌≡◌, ◌==◌, Bool, true, false, refl, sym, ap, subst, ◌∙◌}
use Rattle.std.specs.Prelude.{Option, Some, None, ℤ, Result, Ok, Err, ◌&&◌, int_le, pos, int_div, int_rem, ◌+ℤ◌, ◌-ℤ◌, ◌*ℤ◌, neg_ℤ}
use Rattle.liszt_base.specs.MeshLists.{MeshLists}
use Rattle.liszt_base.specs.declared.answers.Place.{Place}
use Rattle.liszt_base.specs.declared.answers.TrapKind.TheVariants.{Overflow, ZeroDivide}
use Rattle.liszt_base.specs.declared.elements.Elem.{Elem}
use Rattle.liszt_tree.specs.declared.tree.Rel.{Rel}
use Rattle.liszt_tree.specs.declared.tree.Rel.TheVariants.{Same, Other}
use Rattle.liszt_tree.specs.declared.tree.Sign.{Sign}
use Rattle.liszt_tree.specs.declared.tree.Sign.TheVariants.{Or, And, Plus, Minus, Times, Over, Rest}
use Rattle.liszt_tree.specs.Tree.{Expression, Number, Name, Field, Call, Towards, Neg, Not, Chain, Compare, Links, no_links, link}
use Rattle.topo_operators.specs.Operators.{towards}
use Rattle.phase_types.specs.Environments.{Environment, Binding, ScalarName, binding_of, lookup}
use Rattle.kernel_eval.specs.Outcomes.{Stop, NoMeaning, Outcome, pure, continue_with, and_then, if_then_else}
use Rattle.kernel_eval.specs.States.{State, EvaluationState, main_evaluation, scalar_value}
use Rattle.kernel_eval.specs.Meaning.{Value, NumberValue, TruthValue, ElementValue, number_of, truth_of, element_of, checked_number, checked_division, operator_result, is_decided, negation, complement, comparison_result, call_result, scalar_read, global_read, field_read, is_in_range, meaning, links_meaning, trap}

abbrev IsNoElement : Value → Type 0
IsNoElement (ElementValue x) = ⊥
IsNoElement _ = Unit {0}

module _ (s t : State) where
  abbrev GoodAnswer : {A : Type 0} → (A → Type 0) → Result A Stop → Type 0
  GoodAnswer Good (Ok a) = Good a
  GoodAnswer Good (Err stop) = Unit {0}

  -- two computations of the main program that give one answer and change nothing
  record GiveOne {A : Type 0} (Good : A → Type 0) (first second : EvaluationState → Outcome EvaluationState A) : Type 0 where
    pub answer : Result A Stop
    pub good : GoodAnswer Good answer
    pub first_is : first (main_evaluation s) ≡ record { after = main_evaluation s; answer = answer }
    pub second_is : second (main_evaluation t) ≡ record { after = main_evaluation t; answer = answer }

  abbrev AnyOf : {A : Type 0} → A → Type 0
  AnyOf a = Unit {0}

  gives : {A : Type 0} (Good : A → Type 0) {first second : EvaluationState → Outcome EvaluationState A} (answer : Result A Stop) → GoodAnswer Good answer
      → first (main_evaluation s) ≡ record { after = main_evaluation s; answer = answer }
      → second (main_evaluation t) ≡ record { after = main_evaluation t; answer = answer } → GiveOne Good first second
  gives Good answer good e f = record { answer = answer; good = good; first_is = e; second_is = f }

  give_value : {A : Type 0} (Good : A → Type 0) (a : A) → Good a → GiveOne Good (pure a) (pure a)
  give_value Good a good = gives Good (Ok a) good refl refl

  give_no_meaning : {A : Type 0} (Good : A → Type 0) → GiveOne Good (λ m. record { after = m; answer = Err NoMeaning }) (λ m. record { after = m; answer = Err NoMeaning })
  give_no_meaning Good = gives Good (Err NoMeaning) tt refl refl

  continue_gives : {A B : Type 0} {Good : A → Type 0} {Fine : B → Type 0} {next other : A → EvaluationState → Outcome EvaluationState B}
      → ((a : A) → Good a → GiveOne Fine (next a) (other a)) → (answer : Result A Stop) → GoodAnswer Good answer
      → GiveOne Fine (λ m. continue_with next m answer) (λ m. continue_with other m answer)
  continue_gives h (Ok a) good = let r = h a good in gives _ r.answer r.good r.first_is r.second_is
  continue_gives {Fine = Fine} h (Err stop) good = gives Fine (Err stop) tt refl refl

  give_then : {A B : Type 0} {Good : A → Type 0} {Fine : B → Type 0} {first second : EvaluationState → Outcome EvaluationState A}
      {next other : A → EvaluationState → Outcome EvaluationState B} → GiveOne Good first second
      → ((a : A) → Good a → GiveOne Fine (next a) (other a)) → GiveOne Fine (and_then first next) (and_then second other)
  give_then {Good = Good} {Fine = Fine} {next = next} {other = other} f h =
      let r = continue_gives {Good = Good} {Fine = Fine} h f.answer f.good in
      gives Fine r.answer r.good
      (ap (λ outcome. continue_with next outcome.after outcome.answer) f.first_is ∙ r.first_is)
      (ap (λ outcome. continue_with other outcome.after outcome.answer) f.second_is ∙ r.second_is)

  give_if : {A : Type 0} {Good : A → Type 0} {this this' other other' : EvaluationState → Outcome EvaluationState A} (b : Bool) → GiveOne Good this this'
      → GiveOne Good other other' → GiveOne Good (if_then_else b this other) (if_then_else b this' other')
  give_if true f g = f
  give_if false f g = g

  number_given : (v : Value) → GiveOne AnyOf (number_of v) (number_of v)
  number_given (NumberValue n) = give_value AnyOf n tt
  number_given (TruthValue b) = gives AnyOf (Err NoMeaning) tt refl refl
  number_given (ElementValue x) = gives AnyOf (Err NoMeaning) tt refl refl

  truth_given : (v : Value) → GiveOne AnyOf (truth_of v) (truth_of v)
  truth_given (TruthValue b) = give_value AnyOf b tt
  truth_given (NumberValue n) = gives AnyOf (Err NoMeaning) tt refl refl
  truth_given (ElementValue x) = gives AnyOf (Err NoMeaning) tt refl refl

  -- of no element there is none
  element_given : {A : Type 0} (Good : A → Type 0) (v : Value) → IsNoElement v → (next other : Option Elem → EvaluationState → Outcome EvaluationState A)
      → GiveOne Good (and_then (element_of v) next) (and_then (element_of v) other)
  element_given Good (NumberValue n) h next other = gives Good (Err NoMeaning) tt refl refl
  element_given Good (TruthValue b) h next other = gives Good (Err NoMeaning) tt refl refl
  element_given Good (ElementValue x) h next other = absurd h

  checked_given : (place : Place) (n : ℤ) → GiveOne IsNoElement (checked_number place n) (checked_number place n)
  checked_given place n =
      give_if {this = pure (NumberValue n)} {this' = pure (NumberValue n)} {other = trap Overflow place} {other' = trap Overflow place} (is_in_range n)
      (give_value IsNoElement (NumberValue n) tt) (gives IsNoElement (Err _) tt refl refl)

  division_given : (place : Place) (b : ℤ) {by : EvaluationState → Outcome EvaluationState Value} → GiveOne IsNoElement by by
      → GiveOne IsNoElement (checked_division place b by) (checked_division place b by)
  division_given place b h =
      give_if {this = trap ZeroDivide place} {this' = trap ZeroDivide place} (int_le b (pos 0) && int_le (pos 0) b) (gives IsNoElement (Err _) tt refl refl) h

  nothing_given : GiveOne {A = Value} IsNoElement (λ m. record { after = m; answer = Err NoMeaning }) (λ m. record { after = m; answer = Err NoMeaning })
  nothing_given = give_no_meaning IsNoElement

  operator_given : (sign : Sign) (place : Place) (v w : Value) → GiveOne IsNoElement (operator_result sign place v w) (operator_result sign place v w)
  operator_given Or place (TruthValue a) (TruthValue b) = give_value IsNoElement (TruthValue _) tt
  operator_given And place (TruthValue a) (TruthValue b) = give_value IsNoElement (TruthValue _) tt
  operator_given Plus place (NumberValue a) (NumberValue b) = checked_given place (a +ℤ b)
  operator_given Minus place (NumberValue a) (NumberValue b) = checked_given place (a -ℤ b)
  operator_given Times place (NumberValue a) (NumberValue b) = checked_given place (a *ℤ b)
  operator_given Over place (NumberValue a) (NumberValue b) = division_given place b (checked_given place (int_div a b))
  operator_given Rest place (NumberValue a) (NumberValue b) = division_given place b (give_value IsNoElement (NumberValue (int_rem a b)) tt)
  operator_given _ place _ _ = gives IsNoElement (Err NoMeaning) tt refl refl

  negation_given : (place : Place) (v : Value) → GiveOne IsNoElement (negation place v) (negation place v)
  negation_given place (NumberValue n) = checked_given place (neg_ℤ n)
  negation_given place _ = gives IsNoElement (Err NoMeaning) tt refl refl

  complement_given : (v : Value) → GiveOne IsNoElement (complement v) (complement v)
  complement_given (TruthValue b) = give_value IsNoElement (TruthValue _) tt
  complement_given _ = gives IsNoElement (Err NoMeaning) tt refl refl

  comparison_given : (rel : Rel) (v w : Value) → GiveOne IsNoElement (comparison_result rel v w) (comparison_result rel v w)
  comparison_given rel (NumberValue a) (NumberValue b) = give_value IsNoElement (TruthValue _) tt
  comparison_given Same (ElementValue x) (ElementValue y) = give_value IsNoElement (TruthValue _) tt
  comparison_given Other (ElementValue x) (ElementValue y) = give_value IsNoElement (TruthValue _) tt
  comparison_given rel _ _ = gives IsNoElement (Err NoMeaning) tt refl refl

  -- names: no local number and no element is bound
  module _ (same : t.scalars ≡ s.scalars) where
    scalar_given : (value other : Option ℤ) → other ≡ value → GiveOne IsNoElement (scalar_read value) (scalar_read other)
    scalar_given value other e = subst (λ other. GiveOne IsNoElement (scalar_read value) (scalar_read other)) (sym e) (go value) where
      go : (value : Option ℤ) → GiveOne IsNoElement (scalar_read value) (scalar_read value)
      go (Some n) = give_value IsNoElement (NumberValue n) tt
      go None = gives IsNoElement (Err NoMeaning) tt refl refl

    global_given : (global : Option Binding) → GiveOne IsNoElement (global_read global) (global_read global)
    global_given (Some (ScalarName number)) =
        let r = scalar_given (scalar_value s number) (scalar_value t number) (ap (lookup (λ other. other == number)) same) in
        gives IsNoElement r.answer r.good r.first_is r.second_is
    global_given _ = gives IsNoElement (Err NoMeaning) tt refl refl

    module _ (mesh other : MeshLists) (environment : Environment) where
      abbrev towards_rest : MeshLists → Expression → Option Elem → EvaluationState → Outcome EvaluationState Value
      towards_rest on to x = and_then (meaning on environment to) (λ w. and_then (element_of w) (λ y. pure (ElementValue (towards on x y))))

      mutual
        given : (e : Expression) → GiveOne IsNoElement (meaning mesh environment e) (meaning other environment e)
        given (Number place n) = gives IsNoElement (Ok (NumberValue n)) tt refl refl
        given (Name place name) =
            let r = global_given (binding_of environment name) in gives IsNoElement r.answer r.good r.first_is r.second_is
        given (Field place name arg) = give_then (given arg) (λ v h. element_given IsNoElement v h
            (λ x. field_read mesh place (binding_of environment name) x) (λ x. field_read other place (binding_of environment name) x))
        given (Call place fun arg) = give_then (given arg) (λ v h. element_given IsNoElement v h (λ x. call_result mesh place fun x) (λ x. call_result other place fun x))
        given (Towards place arg to) = give_then (given arg) (λ v h. element_given IsNoElement v h (λ x. towards_rest mesh to x) (λ x. towards_rest other to x))
        given (Neg place arg) = give_then (given arg) (λ v h. negation_given place v)
        given (Not place arg) = give_then (given arg) (λ v h. complement_given v)
        given (Chain level first links) = give_then (given first) (λ v h. links_given v h links)
        given (Compare place rel left right) = give_then (given left) (λ v h. give_then (given right) (λ w g. comparison_given rel v w))

        links_given : (v : Value) → IsNoElement v → (links : Links) → GiveOne IsNoElement (links_meaning mesh environment v links) (links_meaning other environment v links)
        links_given v h no_links = give_value IsNoElement v h
        links_given v h (link sign place arg rest) =
            give_then (give_if (is_decided sign v) (give_value IsNoElement v h) (give_then (given arg) (λ w g. operator_given sign place v w)))
            (λ u g. links_given u g rest)

      pub same_answer : (e : Expression) → (meaning other environment e (main_evaluation t)).answer ≡ (meaning mesh environment e (main_evaluation s)).answer
      same_answer e = ap (λ outcome. outcome.answer) (given e).second_is ∙ sym (ap (λ outcome. outcome.answer) (given e).first_is)

      pub nothing_changed : (e : Expression) → (meaning mesh environment e (main_evaluation s)).after ≡ main_evaluation s
      nothing_changed e = ap (λ outcome. outcome.after) (given e).first_is
