-- The code of an expression simulates it.
use Rattle.std.proofs.Common.{◌≡◌, Bool, true, false, cond, List, [], ◌∷◌, ◌++◌, map, get_or, refl, sym, ap, subst, ◌∙◌, append_assoc, append-nil}
use Rattle.std.proofs.lemmas.Bool.{lt-ltb, and_parts}
use Rattle.std.specs.Option.{option_and_then}
use Rattle.std.specs.Prelude.{ℕ, Option, Some, None, ℤ, pos, neg_ℤ, ◌+ℤ◌, ◌-ℤ◌, ◌*ℤ◌, int_div, int_rem, int_le, ◌&&◌, ◌||◌, if◌then◌else◌, Result, Ok, Err}
use Rattle.liszt_base.specs.Kinds.{is_kind}
use Rattle.liszt_base.specs.declared.accesses.Mode.TheVariants.{Read}
use Rattle.liszt_base.specs.declared.accesses.Spot.{Spot}
use Rattle.liszt_base.specs.declared.answers.Place.{Place}
use Rattle.liszt_base.specs.declared.answers.ProgramFault.{ProgramFault}
use Rattle.liszt_base.specs.declared.answers.ProgramWhat.TheVariants.{TypeMismatch}
use Rattle.liszt_base.specs.declared.answers.TrapKind.{TrapKind}
use Rattle.liszt_base.specs.declared.answers.TrapKind.TheVariants.{Overflow, ZeroDivide, NilElement}
use Rattle.liszt_base.specs.declared.elements.Elem.{Elem}
use Rattle.liszt_base.specs.declared.elements.Kind.{Kind}
use Rattle.liszt_base.specs.declared.elements.Kind.TheVariants.{Vertex, Edge, Face, Cell}
use Rattle.liszt_tree.specs.declared.tree.Fun.{Fun}
use Rattle.liszt_tree.specs.declared.tree.Fun.TheVariants.{Head, Tail, Inside, Outside, Flip, Valid, Id}
use Rattle.liszt_tree.specs.declared.tree.Level.{Level}
use Rattle.liszt_tree.specs.declared.tree.Rel.{Rel}
use Rattle.liszt_tree.specs.declared.tree.Rel.TheVariants as rel
use Rattle.liszt_tree.specs.declared.tree.Sign.{Sign}
use Rattle.liszt_tree.specs.declared.tree.Sign.TheVariants as sign
use Rattle.liszt_tree.specs.Tree.{Expression, Number, Name, Field, Call, Towards, Neg, Not, Chain, Compare, Links, no_links, link}
use Rattle.resolved_code.specs.declared.expressions.Arithmetic.{Arithmetic}
use Rattle.resolved_code.specs.declared.expressions.Arithmetic.TheVariants as arithmetic
use Rattle.resolved_code.specs.declared.expressions.Connective.{Connective}
use Rattle.resolved_code.specs.declared.expressions.Connective.TheVariants as connective
use Rattle.resolved_code.specs.declared.expressions.ElementCode.{ElementCode}
use Rattle.resolved_code.specs.declared.expressions.ElementCode.TheVariants as element
use Rattle.resolved_code.specs.declared.expressions.ElementFun.{ElementFun}
use Rattle.resolved_code.specs.declared.expressions.ElementFun.TheVariants as function
use Rattle.resolved_code.specs.declared.expressions.NumberCode.{NumberCode}
use Rattle.resolved_code.specs.declared.expressions.NumberCode.TheVariants as number
use Rattle.resolved_code.specs.declared.expressions.NumberLink.{NumberLink}
use Rattle.resolved_code.specs.declared.expressions.TruthCode.{TruthCode}
use Rattle.resolved_code.specs.declared.expressions.TruthCode.TheVariants as truth
use Rattle.resolved_code.specs.declared.expressions.TruthLink.{TruthLink}
use Rattle.topo_operators.specs.Operands.{IsNilOrElement}
use Rattle.topo_operators.specs.Operators.{flip, towards, same, valid, unflipped, reversed, points_to, tail_of, head_of, inside_of, outside_of}
use Rattle.topo_operators.proofs.ResultLemmas.{nil_or_result, end_of, side_of}
use Rattle.mesh_topology.specs.Elements.{count}
use Rattle.phase_types.specs.declared.resolution.ChainCode.{ChainCode}
use Rattle.phase_types.specs.declared.resolution.ChainCode.TheVariants as chain
use Rattle.phase_types.specs.declared.resolution.Resolution.{Resolution}
use Rattle.phase_types.specs.declared.resolution.Resolution.TheVariants as resolution
use Rattle.phase_types.specs.declared.resolution.TypedCode.{TypedCode}
use Rattle.phase_types.specs.declared.resolution.TypedCode.TheVariants as typed
use Rattle.phase_types.specs.Environments.{Binding, FieldName, binding_of, is_built_in}
use Rattle.phase_types.specs.Resolve.{fails, Names, Accesses, resolution_of, with_access, resolved_name, named_field, element_of_kind, call_code, called_code, towards_code, is_equality, comparison_code, negated, inverted, arithmetic_of, connective_of, number_link, truth_link, first_of_chain, extended_chain, number_chain, truth_chain, whole_chain, resolved_expression, resolved_links}
use Rattle.phase_types.specs.Types.{are_towards_kinds, is_sameness}
use Rattle.phase_types.specs.Walk.{OfField, OfScalar}
use Rattle.code_eval.specs.Acts.{Act}
use Rattle.code_eval.specs.Arithmetic.{in_range, divided}
use Rattle.code_eval.specs.Executions as code
use Rattle.code_eval.specs.declared.activation.Activation.{Activation}
use Rattle.code_eval.specs.Executions.{Execution, ◌>>=◌}
use Rattle.code_eval.specs.Meaning as resolved
use Rattle.code_eval.specs.Stops.{Stop}
use Rattle.code_eval.proofs.LayerLemmas.{slot_is, call_is, towards_is, constant_is, local_is, scalar_is, field_is, id_is, neg_is, chain_is, valid_is, not_is, truth_chain_is, compare_numbers_is, compare_elements_is}
use Rattle.kernel_eval.specs.Meaning.{Value, NumberValue, TruthValue, ElementValue, number_of, truth_of, element_of, is_in_range, built_in_value, spot_of, checked_number, checked_division, operator_result, is_decided, negation, complement, comparison_result, id_result, call_result, scalar_read, read_spot, spot_value, field_read, name_read, meaning, links_meaning, trap}
use Rattle.kernel_eval.specs.Outcomes.{Computation, and_then, pure, if_then_else}
use Rattle.kernel_eval.specs.States.{EvaluationState, value_in, scalar_value, local_bound_to, element_bound_to, with_act}
use Rattle.kernel_eval.proofs.ResolvingLemmas.{IfOk, ok_then, ok_weaken, ok_under, in_sequence, Within, access_known}
use Rattle.kernel_eval.proofs.SimulationLemmas.{Setting, known_mode, NameAgrees, Agrees, IsNested, Matches, Simulates, extends_itself, nested_itself, simulates_then, simulates_value, simulates_trap, simulates_as}

-- VALUES alike
abbrev pub IsNumber : Value → ℤ → Type 0
IsNumber v n = v ≡ NumberValue n

abbrev pub IsTruth : Value → Bool → Type 0
IsTruth v b = v ≡ TruthValue b

abbrev pub IsElementOf : Setting → Kind → Value → Option Elem → Type 0
IsElementOf c kind v x = (v ≡ ElementValue x) × IsNilOrElement c.mesh kind x

some_is : {A : Type 0} (a b : A) → Some a ≡ Some b → a ≡ b
some_is a b e = cc

-- an operand of a kind is as the code requires it
same_kind_is : (kind : Kind) → is_kind kind kind ≡ true
same_kind_is Vertex = refl
same_kind_is Edge = refl
same_kind_is Face = refl
same_kind_is Cell = refl

both_true : {a b : Bool} → a ≡ true → b ≡ true → (a && b) ≡ true
both_true h g = rw (h, g) refl

pub operand_holds : (c : Setting) (kind : Kind) (x : Option Elem) → IsNilOrElement c.mesh kind x → resolved.is_operand c.mesh kind x ≡ true
operand_holds c kind None of = refl
operand_holds c kind (Some x) of = both_true (rw of.0 (same_kind_is kind)) (lt-ltb x.id (count c.mesh kind) of.1)

-- an execution and its value
pub with_value_alone : {A : Type 0} (p : Execution A) (c : Setting) (a : Activation) → (p >>= λ x. code.pure x) c.view a ≡ p c.view a
unfolding ◌>>=◌
with_value_alone p c a = go (p c.view a).after (p c.view a).acts (p c.view a).answer where
  go : {A : Type 0} (after : Activation) (acts : List Act) (answer : Result A Stop)
      → code.continue_with (λ x. code.pure x) c.view after acts answer ≡ record { after = after; acts = acts; answer = answer }
  go after acts (Ok x) = ap (λ acts. record { after = after; acts = acts; answer = Ok x }) (append-nil acts)
  go after acts (Err stop) = refl

abbrev chosen : {B : Type 0} → Setting → Activation → Option (Option Elem) → (Option Elem → Execution B) → code.Executed B
chosen c a None next = code.no_meaning c.view a
chosen c a (Some x) next = next x c.view a

element_then : {B : Type 0} (c : Setting) (e : ElementCode) (next : Option Elem → Execution B) (a : Activation)
    → (resolved.element_execution c.mesh e >>= next) c.view a ≡ chosen c a (resolved.element_value c.mesh a.elements e) next
unfolding ◌>>=◌
element_then c e next a = go (resolved.element_value c.mesh a.elements e) where
  go : (o : Option (Option Elem)) → code.continue_with next c.view (resolved.meant o c.view a).after (resolved.meant o c.view a).acts (resolved.meant o c.view a).answer ≡ chosen c a o next
  go None = refl
  go (Some x) = refl

call_execution : (c : Setting) (f : ElementFun) (e : ElementCode) (a : Activation)
    → (resolved.element_execution c.mesh e >>= λ x. resolved.meant (resolved.element_call c.mesh f x)) c.view a ≡ resolved.element_execution c.mesh (element.Call f e) c.view a
call_execution c f e a =
    element_then c e (λ x. resolved.meant (resolved.element_call c.mesh f x)) a ∙ go (resolved.element_value c.mesh a.elements e) ∙ sym (ap (λ o. resolved.meant o c.view a) (call_is c.mesh a.elements f e)) where
      go : (o : Option (Option Elem)) → chosen c a o (λ x. resolved.meant (resolved.element_call c.mesh f x)) ≡ resolved.meant (option_and_then (resolved.element_call c.mesh f) o) c.view a
      go None = refl
      go (Some x) = refl

towards_execution : (c : Setting) (e f : ElementCode) (a : Activation)
    → (resolved.element_execution c.mesh e >>= λ x. resolved.element_execution c.mesh f >>= λ y. resolved.meant (resolved.towards_call c.mesh x y)) c.view a
    ≡ resolved.element_execution c.mesh (element.Towards e f) c.view a
towards_execution c e f a =
    element_then c e (λ x. resolved.element_execution c.mesh f >>= λ y. resolved.meant (resolved.towards_call c.mesh x y)) a ∙ go (resolved.element_value c.mesh a.elements e)
    ∙ sym (ap (λ o. resolved.meant o c.view a) (towards_is c.mesh a.elements e f)) where
      inner : (x : Option Elem) (p : Option (Option Elem)) → chosen c a p (λ y. resolved.meant (resolved.towards_call c.mesh x y)) ≡ resolved.meant (option_and_then (resolved.towards_call c.mesh x) p) c.view a
      inner x None = refl
      inner x (Some y) = refl

      go : (o : Option (Option Elem)) → chosen c a o (λ x. resolved.element_execution c.mesh f >>= λ y. resolved.meant (resolved.towards_call c.mesh x y))
          ≡ resolved.meant (option_and_then (λ x. option_and_then (resolved.towards_call c.mesh x) (resolved.element_value c.mesh a.elements f)) o) c.view a
      go None = refl
      go (Some x) = element_then c f (λ y. resolved.meant (resolved.towards_call c.mesh x y)) a ∙ inner x (resolved.element_value c.mesh a.elements f)

module _ (c : Setting) (names : Names) where
  abbrev Here : EvaluationState → Activation → Type 0
  Here m a = Agrees c names m a

  abbrev pub NumberFollows : Computation EvaluationState Value → Execution ℤ → Type 0
  NumberFollows computation execution = Simulates c IsNumber (Agrees c names) (Agrees c names) names computation execution

  abbrev pub TruthFollows : Computation EvaluationState Value → Execution Bool → Type 0
  TruthFollows computation execution = Simulates c IsTruth (Agrees c names) (Agrees c names) names computation execution

  abbrev pub ElementFollows : Kind → Computation EvaluationState Value → Execution (Option Elem) → Type 0
  ElementFollows kind computation execution = Simulates c (IsElementOf c kind) (Agrees c names) (Agrees c names) names computation execution

  abbrev pub Follows : Expression → TypedCode → Type 0
  Follows e (typed.Number n) = NumberFollows (meaning c.mesh c.globals e) (resolved.number_execution c.mesh n)
  Follows e (typed.Truth b) = TruthFollows (meaning c.mesh c.globals e) (resolved.truth_execution c.mesh b)
  Follows e (typed.Element kind x) = ElementFollows kind (meaning c.mesh c.globals e) (resolved.element_execution c.mesh x)

  -- NUMBERS
  checked : (place : Place) (n : ℤ) → NumberFollows (checked_number place n) (resolved.number_or_trap place (in_range n))
  checked place n = go (is_in_range n) where
    go : (b : Bool) → NumberFollows (if_then_else b (pure (NumberValue n)) (trap Overflow place)) (resolved.number_or_trap place (if b then Ok n else Err Overflow))
    go true = simulates_value refl
    go false = simulates_trap Overflow place

  divided_follows : (place : Place) (d : ℤ) {by : Computation EvaluationState Value} (r : Result ℤ TrapKind) → NumberFollows by (resolved.number_or_trap place r)
      → NumberFollows (checked_division place d by) (resolved.number_or_trap place (divided d r))
  divided_follows place d {by = by} r h = go (int_le d (pos 0) && int_le (pos 0) d) where
    go : (b : Bool) → NumberFollows (if_then_else b (trap ZeroDivide place) by) (resolved.number_or_trap place (if b then Err ZeroDivide else r))
    go true = simulates_trap ZeroDivide place
    go false = h

  operated : (s : Sign) (place : Place) (op : Arithmetic) → arithmetic_of s ≡ Some op → (v w : Value) (n k : ℤ) → IsNumber v n → IsNumber w k
      → NumberFollows (operator_result s place v w) (resolved.operator_result op place n k)
  operated sign.Plus place op is v w n k e f = subst (λ op. NumberFollows (operator_result sign.Plus place v w) (resolved.operator_result op place n k)) (some_is arithmetic.Plus op is) (rw (e, f) (checked place (n +ℤ k)))
  operated sign.Minus place op is v w n k e f = subst (λ op. NumberFollows (operator_result sign.Minus place v w) (resolved.operator_result op place n k)) (some_is arithmetic.Minus op is) (rw (e, f) (checked place (n -ℤ k)))
  operated sign.Times place op is v w n k e f = subst (λ op. NumberFollows (operator_result sign.Times place v w) (resolved.operator_result op place n k)) (some_is arithmetic.Times op is) (rw (e, f) (checked place (n *ℤ k)))
  operated sign.Over place op is v w n k e f = subst (λ op. NumberFollows (operator_result sign.Over place v w) (resolved.operator_result op place n k)) (some_is arithmetic.Over op is) (rw (e, f) (divided_follows place k (in_range (int_div n k)) (checked place (int_div n k))))
  operated sign.Rest place op is v w n k e f = subst (λ op. NumberFollows (operator_result sign.Rest place v w) (resolved.operator_result op place n k)) (some_is arithmetic.Rest op is) (rw (e, f) (divided_follows place k (Ok (int_rem n k)) (simulates_value refl)))
  operated sign.Or place op is v w n k e f = absurd cc
  operated sign.And place op is v w n k e f = absurd cc

  id_follows : (place : Place) (x : Option Elem) → NumberFollows (id_result place x) (resolved.id_result place x)
  id_follows place None = simulates_trap NilElement place
  id_follows place (Some x) = simulates_value refl

  -- FIELDS
  with_act_agrees : (act : Act) (m : EvaluationState) (a : Activation) → Agrees c names m a → Agrees c names (with_act act m) a
  with_act_agrees act m a r = record {
    elem = r.elem;
    turns = r.turns;
    named = r.named;
    fields = r.fields;
    scalars = r.scalars;
    partials = r.partials;
    kept = r.kept;
    numbers_room = r.numbers_room;
    elements_room = r.elements_room;
  }

  with_act_nested : (act : Act) (m : EvaluationState) → IsNested names m (with_act act m)
  with_act_nested act m = record { new_locals = []; locals = refl; locals_are_new = tt; new_elements = []; elements = refl; elements_are_new = tt }

  read_matches : (spot : Spot) (n k : ℤ) (m : EvaluationState) (a : Activation) → n ≡ k → Agrees c names m a
      → Matches c IsNumber (Agrees c names) names m (read_spot spot (Some n) m).after (resolved.read_value spot k c.view a).after (resolved.read_value spot k c.view a).acts
      (read_spot spot (Some n) m).answer (resolved.read_value spot k c.view a).answer
  read_matches spot n k m a e r =
      subst (λ k. Matches c IsNumber (Agrees c names) names m (read_spot spot (Some n) m).after (resolved.read_value spot k c.view a).after (resolved.read_value spot k c.view a).acts
      (read_spot spot (Some n) m).answer (resolved.read_value spot k c.view a).answer) e
      (refl, with_act_agrees (record { spot = spot; mode = Read; value = n }) m a r, with_act_nested (record { spot = spot; mode = Read; value = n }) m, refl)

  abbrev Reads : Spot → EvaluationState → Activation → Bool → Type 0
  Reads spot m a b =
      Matches c IsNumber (Agrees c names) names m (read_spot spot (cond b (built_in_value c.mesh spot) (value_in m.state.fields spot)) m).after
      (cond b (resolved.built_in_read spot (built_in_value c.mesh spot)) (λ view a. resolved.read_value spot (view spot) view a) c.view a).after
      (cond b (resolved.built_in_read spot (built_in_value c.mesh spot)) (λ view a. resolved.read_value spot (view spot) view a) c.view a).acts
      (read_spot spot (cond b (built_in_value c.mesh spot) (value_in m.state.fields spot)) m).answer
      (cond b (resolved.built_in_read spot (built_in_value c.mesh spot)) (λ view a. resolved.read_value spot (view spot) view a) c.view a).answer

  spot_follows : (spot : Spot) → known_mode c (OfField spot.field) ≡ Some Read
      → NumberFollows (λ m. read_spot spot (spot_value c.mesh m.state spot) m) (resolved.spot_read c.mesh spot)
  spot_follows spot mode = record { at = λ m a r. by m a r (is_built_in spot.field) refl } where
    built_in : (m : EvaluationState) (a : Activation) → Agrees c names m a → (o : Option ℤ)
        → Matches c IsNumber (Agrees c names) names m (read_spot spot o m).after (resolved.built_in_read spot o c.view a).after (resolved.built_in_read spot o c.view a).acts
        (read_spot spot o m).answer (resolved.built_in_read spot o c.view a).answer
    built_in m a r None = tt
    built_in m a r (Some n) = read_matches spot n n m a refl r

    declared : (m : EvaluationState) (a : Activation) → Agrees c names m a → is_built_in spot.field ≡ false → (o : Option ℤ) → value_in m.state.fields spot ≡ o
        → Matches c IsNumber (Agrees c names) names m (read_spot spot o m).after (resolved.read_value spot (c.view spot) c.view a).after (resolved.read_value spot (c.view spot) c.view a).acts
        (read_spot spot o m).answer (resolved.read_value spot (c.view spot) c.view a).answer
    declared m a r b None is = tt
    declared m a r b (Some n) is = read_matches spot n (c.view spot) m a (r.fields spot n mode b is) r

    by : (m : EvaluationState) (a : Activation) → Agrees c names m a → (b : Bool) → is_built_in spot.field ≡ b → Reads spot m a (is_built_in spot.field)
    by m a r true e = subst (Reads spot m a) (sym e) (built_in m a r (built_in_value c.mesh spot))
    by m a r false e = subst (Reads spot m a) (sym e) (declared m a r e (value_in m.state.fields spot) refl)

  field_follows : (place : Place) (field : ℕ) (kind : Kind) (global : Option Binding) (x : Option Elem) → global ≡ Some (FieldName field kind) → known_mode c (OfField field) ≡ Some Read
      → NumberFollows (field_read c.mesh place global x) (resolved.field_read c.mesh place field x)
  field_follows place field kind global None is mode = rw is (simulates_trap NilElement place)
  field_follows place field kind global (Some x) is mode = rw is (spot_follows (spot_of field x) mode)

  -- NAMES
  scalar_matches : (scalar : ℕ) (o : Option ℤ) (m : EvaluationState) (a : Activation) → ((n : ℤ) → o ≡ Some n → n ≡ get_or a.scalars scalar (pos 0)) → Agrees c names m a
      → Matches c IsNumber (Agrees c names) names m (scalar_read o m).after a [] (scalar_read o m).answer (Ok (get_or a.scalars scalar (pos 0)))
  scalar_matches scalar None m a h r = tt
  scalar_matches scalar (Some n) m a h r = (ap NumberValue (h n refl), r, nested_itself names m, sym (append-nil m.acts))

  named : {m : EvaluationState} {a : Activation} (name : List ℕ) {found : Option Resolution} → Agrees c names m a → resolution_of names name ≡ found
      → NameAgrees c a name (local_bound_to m name) (element_bound_to m name) found
  named {m = m} {a = a} name r is = subst (NameAgrees c a name (local_bound_to m name) (element_bound_to m name)) is (r.named name)

  abbrev NameMatches : {A : Type 0} → (Value → A → Type 0) → EvaluationState → Activation → Option ℤ → Option (Option Elem) → Option Binding → A → Type 0
  NameMatches V m a local element global value =
      Matches c V (Agrees c names) names m (name_read local element global m).after a [] (name_read local element global m).answer (Ok value)

  local_follows : (place : Place) (name : List ℕ) (slot : ℕ) → resolution_of names name ≡ Some (resolution.Number slot) → Follows (Name place name) (typed.Number (number.Local slot))
  local_follows place name slot is = rw (local_is c.mesh slot) record {
    at = λ m a r.
        subst (λ local. NameMatches IsNumber m a local (element_bound_to m name) (binding_of c.globals name) (get_or a.numbers slot (pos 0))) (sym (named name r is))
        (refl, r, nested_itself names m, sym (append-nil m.acts));
  }

  element_follows : (place : Place) (name : List ℕ) (slot : ℕ) (kind : Kind) → resolution_of names name ≡ Some (resolution.Element slot kind)
      → Follows (Name place name) (typed.Element kind (element.Slot slot))
  element_follows place name slot kind is = simulates_as (λ view a. code.pure (get_or a.elements slot None) view a) (λ a. ap (λ o. resolved.meant o c.view a) (sym (slot_is c.mesh a.elements slot))) record {
    at = λ m a r.
        let h = named name r is in
        subst (λ local. NameMatches (IsElementOf c kind) m a local (element_bound_to m name) (binding_of c.globals name) (get_or a.elements slot None)) (sym h.0)
        (subst (λ element. NameMatches (IsElementOf c kind) m a None element (binding_of c.globals name) (get_or a.elements slot None)) (sym h.1)
        ((refl, h.2), r, nested_itself names m, sym (append-nil m.acts)));
  }

  scalar_follows : (place : Place) (name : List ℕ) (scalar : ℕ) → resolution_of names name ≡ Some (resolution.Scalar scalar) → known_mode c (OfScalar scalar) ≡ Some Read
      → Follows (Name place name) (typed.Number (number.Scalar scalar))
  scalar_follows place name scalar is mode = rw (scalar_is c.mesh scalar) record {
    at = λ m a r.
        let h = named name r is in
        subst (λ local. NameMatches IsNumber m a local (element_bound_to m name) (binding_of c.globals name) (get_or a.scalars scalar (pos 0))) (sym h.0)
        (subst (λ element. NameMatches IsNumber m a None element (binding_of c.globals name) (get_or a.scalars scalar (pos 0))) (sym h.1)
        (subst (λ global. NameMatches IsNumber m a None None global (get_or a.scalars scalar (pos 0))) (sym h.2)
        (scalar_matches scalar (scalar_value m.state scalar) m a (λ n e. r.scalars scalar n mode e) r)));
  }

  -- THE CODE OF AN EXPRESSION, with the accesses after it
  abbrev pub IsCode : Expression → Accesses → TypedCode × Accesses → Type 0
  IsCode e accesses r = Within c r.1 → Within c accesses × Follows e r.0

  name_code : (place : Place) (name : List ℕ) (accesses : Accesses) (found : Option Resolution) → resolution_of names name ≡ found
      → IfOk (IsCode (Name place name) accesses) (resolved_name place accesses found)
  name_code place name accesses None is = tt
  name_code place name accesses (Some (resolution.Field field kind)) is = tt
  name_code place name accesses (Some (resolution.Scalar scalar)) is =
      ok_then (λ later. Within c later → Within c accesses × (known_mode c (OfScalar scalar) ≡ Some Read)) (IsCode (Name place name) accesses) (with_access accesses (OfScalar scalar) Read place) _
      (access_known c accesses (OfScalar scalar) Read place) (λ later h w. ((h w).0, scalar_follows place name scalar is (h w).1))
  name_code place name accesses (Some (resolution.Number slot)) is = λ w. (w, local_follows place name slot is)
  name_code place name accesses (Some (resolution.Element slot kind)) is = λ w. (w, element_follows place name slot kind is)

  -- STEPS over the value of an operand
  element_step : {kind : Kind} {C D : Type 0} {W : C → D → Type 0} {first : Computation EvaluationState Value} {p : Execution (Option Elem)} (next : Option Elem → Computation EvaluationState C)
      (f : Option Elem → Execution D) → ElementFollows kind first p → ((y : Option Elem) → IsNilOrElement c.mesh kind y → Simulates c W (Agrees c names) (Agrees c names) names (next y) (f y))
      → Simulates c W (Agrees c names) (Agrees c names) names (and_then first (λ v. and_then (element_of v) next)) (p >>= f)
  element_step next f h g = simulates_then {next = λ v. and_then (element_of v) next} (extends_itself names) h (λ v y is. rw is.0 (g y is.1))

  pub number_alone : {first : Computation EvaluationState Value} {p : Execution ℤ} → NumberFollows first p
      → Simulates c (λ n k. n ≡ k) (Agrees c names) (Agrees c names) names (and_then first (λ v. number_of v)) p
  number_alone {p = p} h = simulates_as (p >>= λ n. code.pure n) (with_value_alone p c) (simulates_then {next = λ v. number_of v} (extends_itself names) h (λ v n is. rw is (simulates_value refl)))

  pub truth_alone : {first : Computation EvaluationState Value} {p : Execution Bool} → TruthFollows first p
      → Simulates c (λ b d. b ≡ d) (Agrees c names) (Agrees c names) names (and_then first (λ v. truth_of v)) p
  truth_alone {p = p} h = simulates_as (p >>= λ b. code.pure b) (with_value_alone p c) (simulates_then {next = λ v. truth_of v} (extends_itself names) h (λ v b is. rw is (simulates_value refl)))

  pub element_alone : {kind : Kind} {first : Computation EvaluationState Value} {p : Execution (Option Elem)} → ElementFollows kind first p
      → Simulates c (λ x y. (x ≡ y) × IsNilOrElement c.mesh kind y) (Agrees c names) (Agrees c names) names (and_then first (λ v. element_of v)) p
  element_alone {p = p} h =
      simulates_as (p >>= λ x. code.pure x) (with_value_alone p c) (simulates_then {next = λ v. element_of v} (extends_itself names) h (λ v x is. rw is.0 (simulates_value (refl, is.1))))

  -- CALLS
  flipped : (kind : Kind) (x : Option Elem) → IsNilOrElement c.mesh kind x → IsNilOrElement c.mesh kind (flip x)
  flipped kind None of = of
  flipped kind (Some x) of = of

  element_call : {kind : Kind} (other : Kind) (place : Place) (fun : Fun) (f : ElementFun) (arg : Expression) (x : ElementCode) → Follows arg (typed.Element kind x)
      → ((y : Option Elem) → IsNilOrElement c.mesh kind y → ElementFollows other (call_result c.mesh place fun y) (resolved.meant (resolved.element_call c.mesh f y)))
      → Follows (Call place fun arg) (typed.Element other (element.Call f x))
  element_call other place fun f arg x h g =
      simulates_as (resolved.element_execution c.mesh x >>= λ y. resolved.meant (resolved.element_call c.mesh f y)) (call_execution c f x)
      (element_step (λ y. call_result c.mesh place fun y) (λ y. resolved.meant (resolved.element_call c.mesh f y)) h g)

  call_follows : (place : Place) (fun : Fun) (kind : Kind) (arg : Expression) (x : ElementCode) → Follows arg (typed.Element kind x)
      → IfOk (λ call. Follows (Call place fun arg) call) (call_code place fun kind x)
  call_follows place Head Edge arg x h = element_call Vertex place Head function.Head arg x h (λ y of.
      rw (operand_holds c Edge y of) (simulates_value (refl, nil_or_result c.mesh Edge Vertex (head_of c.mesh) (λ x. end_of c.mesh x (cond x.flipped 0 1)) y of)))
  call_follows place Tail Edge arg x h = element_call Vertex place Tail function.Tail arg x h (λ y of.
      rw (operand_holds c Edge y of) (simulates_value (refl, nil_or_result c.mesh Edge Vertex (tail_of c.mesh) (λ x. end_of c.mesh x (cond x.flipped 1 0)) y of)))
  call_follows place Inside Face arg x h = element_call Cell place Inside function.Inside arg x h (λ y of.
      rw (operand_holds c Face y of) (simulates_value (refl, nil_or_result c.mesh Face Cell (inside_of c.mesh) (λ x is. side_of c.mesh x (cond x.flipped 1 0)) y of)))
  call_follows place Outside Face arg x h = element_call Cell place Outside function.Outside arg x h (λ y of.
      rw (operand_holds c Face y of) (simulates_value (refl, nil_or_result c.mesh Face Cell (outside_of c.mesh) (λ x is. side_of c.mesh x (cond x.flipped 0 1)) y of)))
  call_follows place Flip Edge arg x h = element_call Edge place Flip function.Flip arg x h (λ y of. simulates_value (refl, flipped Edge y of))
  call_follows place Flip Face arg x h = element_call Face place Flip function.Flip arg x h (λ y of. simulates_value (refl, flipped Face y of))
  call_follows place Valid kind arg x h = rw (valid_is c.mesh x) (element_step (λ y. call_result c.mesh place Valid y) (λ y. code.pure (valid y)) h (λ y of. simulates_value refl))
  call_follows place Id kind arg x h = rw (id_is c.mesh place x) (element_step (λ y. call_result c.mesh place Id y) (λ y. resolved.id_result place y) h (λ y of. id_follows place y))
  call_follows place _ _ arg x h = tt

  pointed : (kind : Kind) (x to : Option Elem) → IsNilOrElement c.mesh kind x → IsNilOrElement c.mesh kind (towards c.mesh x to)
  pointed kind None to of = tt
  pointed kind (Some x) None of = tt
  pointed kind (Some x) (Some to) of =
      one (same (points_to c.mesh (unflipped x.kind x.id)) (Some to)) (same (points_to c.mesh (reversed (unflipped x.kind x.id))) (Some to)) where
        one : (b d : Bool) → IsNilOrElement c.mesh kind (cond b (Some (unflipped x.kind x.id)) (cond d (Some (reversed (unflipped x.kind x.id))) None))
        one true d = of
        one false true = of
        one false false = tt

  second_true : (a b : Bool) → b ≡ true → (a || b) ≡ true
  second_true true b h = refl
  second_true false b h = h

  first_true : (a b : Bool) → a ≡ true → (a || b) ≡ true
  first_true a b h = rw h refl

  towards_holds : (kind other : Kind) → are_towards_kinds kind other ≡ true → (x y : Option Elem) → IsNilOrElement c.mesh kind x → IsNilOrElement c.mesh other y
      → resolved.are_towards_operands c.mesh x y ≡ true
  towards_holds Edge Vertex is x y of to = first_true _ _ (both_true (operand_holds c Edge x of) (operand_holds c Vertex y to))
  towards_holds Face Cell is x y of to = second_true _ _ (both_true (operand_holds c Face x of) (operand_holds c Cell y to))
  towards_holds _ _ is x y of to = absurd cc

  towards_both : (place : Place) (arg to : Expression) (kind other : Kind) (x y : ElementCode) → are_towards_kinds kind other ≡ true → Follows arg (typed.Element kind x)
      → Follows to (typed.Element other y) → Follows (Towards place arg to) (typed.Element kind (element.Towards x y))
  towards_both place arg to kind other x y is h g =
      simulates_as (resolved.element_execution c.mesh x >>= λ u. resolved.element_execution c.mesh y >>= λ v. resolved.meant (resolved.towards_call c.mesh u v)) (towards_execution c x y)
      (element_step (λ u. and_then (meaning c.mesh c.globals to) (λ w. and_then (element_of w) (λ v. pure (ElementValue (towards c.mesh u v)))))
      (λ u. resolved.element_execution c.mesh y >>= λ v. resolved.meant (resolved.towards_call c.mesh u v)) h (λ u of.
      element_step (λ v. pure (ElementValue (towards c.mesh u v))) (λ v. resolved.meant (resolved.towards_call c.mesh u v)) g (λ v of'.
      rw (towards_holds kind other is u v of of') (simulates_value (refl, pointed kind u v of)))))

  -- COMPARISONS
  compared_elements : (rel : Rel) → is_sameness rel ≡ true → (v w : Value) (x y : Option Elem) → v ≡ ElementValue x → w ≡ ElementValue y
      → TruthFollows (comparison_result rel v w) (code.pure (resolved.is_as_required (is_equality rel) (same x y)))
  compared_elements rel.Same is v w x y e f = rw (e, f) (simulates_value refl)
  compared_elements rel.Other is v w x y e f = rw (e, f) (simulates_value refl)
  compared_elements _ is v w x y e f = absurd cc

  comparison_follows : (place : Place) (rel : Rel) (left right : Expression) (l r : TypedCode) → Follows left l → Follows right r
      → IfOk (λ test. Follows (Compare place rel left right) test) (comparison_code place rel l r)
  comparison_follows place rel left right (typed.Number x) (typed.Number y) h g =
      rw (compare_numbers_is c.mesh rel x y)
      (simulates_then {next = λ v. and_then (meaning c.mesh c.globals right) (λ w. comparison_result rel v w)} (extends_itself names) h (λ v n e.
      simulates_then {next = λ w. comparison_result rel v w} (extends_itself names) g (λ w k f. rw (e, f) (simulates_value refl))))
  comparison_follows place rel left right (typed.Element kind x) (typed.Element other y) h g = go (is_sameness rel && is_kind kind other) refl where
    go : (b : Bool) → (is_sameness rel && is_kind kind other) ≡ b
        → IfOk (λ test. Follows (Compare place rel left right) test)
        (if b then Ok (typed.Truth (truth.CompareElements (is_equality rel) x y)) else fails TypeMismatch place)
    go true is =
        rw (compare_elements_is c.mesh (is_equality rel) x y)
        (simulates_then {next = λ v. and_then (meaning c.mesh c.globals right) (λ w. comparison_result rel v w)} (extends_itself names) h (λ v z e.
        simulates_then {next = λ w. comparison_result rel v w} (extends_itself names) g (λ w u f. compared_elements rel (and_parts _ _ is).0 v w z u e.0 f.0)))
    go false is = tt
  comparison_follows place rel left right _ _ h g = tt

  -- CHAINS: what follows a first operand of a value
  number_not_decided : (s : Sign) (n : ℤ) → is_decided s (NumberValue n) ≡ false
  number_not_decided sign.Or n = refl
  number_not_decided sign.And n = refl
  number_not_decided sign.Plus n = refl
  number_not_decided sign.Minus n = refl
  number_not_decided sign.Times n = refl
  number_not_decided sign.Over n = refl
  number_not_decided sign.Rest n = refl

  abbrev step_meaning : Value → Sign → Place → Expression → Computation EvaluationState Value
  step_meaning v s place arg = if_then_else (is_decided s v) (pure v) (and_then (meaning c.mesh c.globals arg) (λ w. operator_result s place v w))

  number_step : (s : Sign) (place : Place) (arg : Expression) (x : NumberCode) (op : Arithmetic) → arithmetic_of s ≡ Some op → Follows arg (typed.Number x)
      → (v : Value) (n : ℤ) → IsNumber v n → NumberFollows (step_meaning v s place arg) (resolved.number_execution c.mesh x >>= λ k. resolved.operator_result op place n k)
  number_step s place arg x op is h v n e =
      rw (e, number_not_decided s n) (simulates_then {next = λ w. operator_result s place (NumberValue n) w} (extends_itself names) h (λ w k f. operated s place op is (NumberValue n) w n k refl f))

  truth_step : (s : Sign) (place : Place) (arg : Expression) (x : TruthCode) (op : Connective) → connective_of s ≡ Some op → Follows arg (typed.Truth x)
      → (v : Value) (b : Bool) → IsTruth v b → TruthFollows (step_meaning v s place arg) (resolved.connected op b (resolved.truth_execution c.mesh x))
  truth_step sign.Or place arg x op is h v true e = subst (λ op. TruthFollows (step_meaning v sign.Or place arg) (resolved.connected op true (resolved.truth_execution c.mesh x))) (some_is connective.Or op is)
      (rw e (simulates_value refl))
  truth_step sign.Or place arg x op is h v false e = subst (λ op. TruthFollows (step_meaning v sign.Or place arg) (resolved.connected op false (resolved.truth_execution c.mesh x))) (some_is connective.Or op is)
      (rw e (simulates_as (resolved.truth_execution c.mesh x >>= λ d. code.pure d) (with_value_alone (resolved.truth_execution c.mesh x) c)
      (simulates_then {next = λ w. operator_result sign.Or place (TruthValue false) w} (extends_itself names) h (λ w d f. rw f (simulates_value refl)))))
  truth_step sign.And place arg x op is h v false e = subst (λ op. TruthFollows (step_meaning v sign.And place arg) (resolved.connected op false (resolved.truth_execution c.mesh x))) (some_is connective.And op is)
      (rw e (simulates_value refl))
  truth_step sign.And place arg x op is h v true e = subst (λ op. TruthFollows (step_meaning v sign.And place arg) (resolved.connected op true (resolved.truth_execution c.mesh x))) (some_is connective.And op is)
      (rw e (simulates_as (resolved.truth_execution c.mesh x >>= λ d. code.pure d) (with_value_alone (resolved.truth_execution c.mesh x) c)
      (simulates_then {next = λ w. operator_result sign.And place (TruthValue true) w} (extends_itself names) h (λ w d f. rw f (simulates_value refl)))))
  truth_step sign.Plus place arg x op is h v b e = absurd cc
  truth_step sign.Minus place arg x op is h v b e = absurd cc
  truth_step sign.Times place arg x op is h v b e = absurd cc
  truth_step sign.Over place arg x op is h v b e = absurd cc
  truth_step sign.Rest place arg x op is h v b e = absurd cc

  pub record NumbersFollow (links : Links) (first : NumberCode) (done : List NumberLink) (value : TypedCode) : Type 0 where
    pub new : List NumberLink
    pub is : value ≡ typed.Number (number_chain first (done ++ new))
    pub follows : (v : Value) (n : ℤ) → IsNumber v n → NumberFollows (links_meaning c.mesh c.globals v links) (resolved.number_rest n (map (resolved.number_operand c.mesh) new))

  pub record TruthsFollow (links : Links) (first : TruthCode) (done : List TruthLink) (value : TypedCode) : Type 0 where
    pub new : List TruthLink
    pub is : value ≡ typed.Truth (truth_chain first (done ++ new))
    pub follows : (v : Value) (b : Bool) → IsTruth v b → TruthFollows (links_meaning c.mesh c.globals v links) (resolved.truth_rest b (map (resolved.truth_operand c.mesh) new))

  abbrev LinksFollow : Links → ChainCode → TypedCode → Type 0
  LinksFollow links (chain.Numbers first done) value = NumbersFollow links first done value
  LinksFollow links (chain.Truths first done) value = TruthsFollow links first done value
  LinksFollow links (chain.Element kind x) value = (value ≡ typed.Element kind x) × (links ≡ no_links)

  abbrev AreCode : Links → ChainCode → Accesses → TypedCode × Accesses → Type 0
  AreCode links done accesses r = Within c r.1 → Within c accesses × LinksFollow links done r.0

  no_links_code : (accesses : Accesses) (done : ChainCode) → AreCode no_links done accesses (whole_chain done, accesses)
  no_links_code accesses (chain.Numbers first done) w = (w, record { new = []; is = ap (λ links. typed.Number (number_chain first links)) (sym (append-nil done)); follows = λ v n e. rw e (simulates_value refl) })
  no_links_code accesses (chain.Truths first done) w = (w, record { new = []; is = ap (λ links. typed.Truth (truth_chain first links)) (sym (append-nil done)); follows = λ v b e. rw e (simulates_value refl) })
  no_links_code accesses (chain.Element kind x) w = (w, (refl, refl))

  -- a link more, and what follows it
  number_link_code : (s : Sign) (place : Place) (arg : Expression) (rest : Links) (first : NumberCode) (done : List NumberLink) (x : NumberCode) (op : Arithmetic) (value : TypedCode) → arithmetic_of s ≡ Some op
      → Follows arg (typed.Number x) → NumbersFollow rest first (done ++ record { op = op; place = place; arg = x } ∷ []) value → NumbersFollow (link s place arg rest) first done value
  number_link_code s place arg rest first done x op value is h g = record {
    new = record { op = op; place = place; arg = x } ∷ g.new;
    is = g.is ∙ ap (λ links. typed.Number (number_chain first links)) (append_assoc done (record { op = op; place = place; arg = x } ∷ []) g.new);
    follows = λ v n e. simulates_then {next = λ u. links_meaning c.mesh c.globals u rest} (extends_itself names) (number_step s place arg x op is h v n e) (λ u k f. g.follows u k f);
  }

  truth_link_code : (s : Sign) (place : Place) (arg : Expression) (rest : Links) (first : TruthCode) (done : List TruthLink) (x : TruthCode) (op : Connective) (value : TypedCode) → connective_of s ≡ Some op
      → Follows arg (typed.Truth x) → TruthsFollow rest first (done ++ record { op = op; arg = x } ∷ []) value → TruthsFollow (link s place arg rest) first done value
  truth_link_code s place arg rest first done x op value is h g = record {
    new = record { op = op; arg = x } ∷ g.new;
    is = g.is ∙ ap (λ links. typed.Truth (truth_chain first links)) (append_assoc done (record { op = op; arg = x } ∷ []) g.new);
    follows = λ v b e. simulates_then {next = λ u. links_meaning c.mesh c.globals u rest} (extends_itself names) (truth_step s place arg x op is h v b e) (λ u d f. g.follows u d f);
  }

  -- the chain with an operand more
  abbrev with_number_link : NumberCode → List NumberLink → Result NumberLink ProgramFault → Result ChainCode ProgramFault
  with_number_link first done r = in_sequence r (λ next. Ok (chain.Numbers first (done ++ next ∷ [])))

  abbrev with_truth_link : TruthCode → List TruthLink → Result TruthLink ProgramFault → Result ChainCode ProgramFault
  with_truth_link first done r = in_sequence r (λ next. Ok (chain.Truths first (done ++ next ∷ [])))

  abbrev Extended : Sign → Place → Expression → ChainCode → ChainCode → Type 0
  Extended s place arg done next = (rest : Links) (value : TypedCode) → LinksFollow rest next value → LinksFollow (link s place arg rest) done value

  extended_follows : (s : Sign) (place : Place) (arg : Expression) (done : ChainCode) (operand : TypedCode) → Follows arg operand → IfOk (Extended s place arg done) (extended_chain place s done operand)
  extended_follows s place arg (chain.Numbers first done) (typed.Number x) h = go (arithmetic_of s) refl where
    go : (op : Option Arithmetic) → arithmetic_of s ≡ op
        → IfOk (Extended s place arg (chain.Numbers first done)) (with_number_link first done (number_link place op x))
    go (Some op) is = λ rest value g. number_link_code s place arg rest first done x op value is h g
    go None is = tt
  extended_follows s place arg (chain.Truths first done) (typed.Truth x) h = go (connective_of s) refl where
    go : (op : Option Connective) → connective_of s ≡ op
        → IfOk (Extended s place arg (chain.Truths first done)) (with_truth_link first done (truth_link place op x))
    go (Some op) is = λ rest value g. truth_link_code s place arg rest first done x op value is h g
    go None is = tt
  extended_follows s place arg _ _ h = tt

  -- a whole chain
  chain_follows : (level : Level) (first : Expression) (links : Links) (operand value : TypedCode) → Follows first operand → LinksFollow links (first_of_chain operand) value
      → Follows (Chain level first links) value
  chain_follows level first links (typed.Number x) value h g = subst (Follows (Chain level first links)) (sym g.is) (go g.new g.follows) where
    go : (new : List NumberLink) → ((v : Value) (n : ℤ) → IsNumber v n → NumberFollows (links_meaning c.mesh c.globals v links) (resolved.number_rest n (map (resolved.number_operand c.mesh) new)))
        → Follows (Chain level first links) (typed.Number (number_chain x new))
    go [] f = simulates_as (resolved.number_execution c.mesh x >>= λ n. code.pure n) (with_value_alone (resolved.number_execution c.mesh x) c)
        (simulates_then {next = λ v. links_meaning c.mesh c.globals v links} (extends_itself names) h f)
    go (l ∷ new) f = rw (chain_is c.mesh x (l ∷ new)) (simulates_then {next = λ v. links_meaning c.mesh c.globals v links} (extends_itself names) h f)
  chain_follows level first links (typed.Truth x) value h g = subst (Follows (Chain level first links)) (sym g.is) (go g.new g.follows) where
    go : (new : List TruthLink) → ((v : Value) (b : Bool) → IsTruth v b → TruthFollows (links_meaning c.mesh c.globals v links) (resolved.truth_rest b (map (resolved.truth_operand c.mesh) new)))
        → Follows (Chain level first links) (typed.Truth (truth_chain x new))
    go [] f = simulates_as (resolved.truth_execution c.mesh x >>= λ b. code.pure b) (with_value_alone (resolved.truth_execution c.mesh x) c)
        (simulates_then {next = λ v. links_meaning c.mesh c.globals v links} (extends_itself names) h f)
    go (l ∷ new) f = rw (truth_chain_is c.mesh x (l ∷ new)) (simulates_then {next = λ v. links_meaning c.mesh c.globals v links} (extends_itself names) h f)
  chain_follows level first links (typed.Element kind x) value h g =
      subst (Follows (Chain level first links)) (sym g.0) (subst (λ links. ElementFollows kind (meaning c.mesh c.globals (Chain level first links)) (resolved.element_execution c.mesh x)) (sym g.1)
      (simulates_as (resolved.element_execution c.mesh x >>= λ y. code.pure y) (with_value_alone (resolved.element_execution c.mesh x) c)
      (simulates_then {next = λ v. pure v} (extends_itself names) h (λ v y is. simulates_value is))))

  -- EVERY FORM of expression
  pub simulates_given : {A B : Type 0} {V : A → B → Type 0} {S : EvaluationState → Activation → Type 0} {computation : Computation EvaluationState A} {p : Execution B}
      → ((m : EvaluationState) (a : Activation) → Agrees c names m a → Simulates c V (Agrees c names) S names computation p) → Simulates c V (Agrees c names) S names computation p
  simulates_given h = record { at = λ m a r. (h m a r).at m a r }

  last : (e : Expression) (accesses mid : Accesses) (r : Result TypedCode ProgramFault) → (Within c mid → Within c accesses × IfOk (Follows e) r)
      → IfOk (IsCode e accesses) (in_sequence r (λ value. Ok (value, mid)))
  last e accesses mid (Ok value) f = f
  last e accesses mid (Err fault) f = tt

  field_code : (place : Place) (name : List ℕ) (arg : Expression) (field : ℕ) (kind : Kind) (accesses : Accesses) → resolution_of names name ≡ Some (resolution.Field field kind)
      → (operand : TypedCode) (mid : Accesses) → IsCode arg accesses (operand, mid)
      → IfOk (IsCode (Field place name arg) accesses)
      (in_sequence (element_of_kind kind place operand) (λ target. in_sequence (with_access mid (OfField field) Read place) (λ later. Ok (typed.Number (number.Field place field target), later))))
  field_code place name arg field kind accesses is (typed.Element other x) mid h = go (is_kind kind other) where
    abbrev_next : ElementCode → Result (TypedCode × Accesses) ProgramFault
    abbrev_next target = in_sequence (with_access mid (OfField field) Read place) (λ later. Ok (typed.Number (number.Field place field target), later))

    field_at : known_mode c (OfField field) ≡ Some Read → Follows arg (typed.Element other x) → Follows (Field place name arg) (typed.Number (number.Field place field x))
    field_at mode f = rw (field_is c.mesh place field x) (simulates_given (λ m a r.
        element_step (λ y. field_read c.mesh place (binding_of c.globals name) y) (λ y. resolved.field_read c.mesh place field y) f
        (λ y of. field_follows place field kind (binding_of c.globals name) y (named name r is) mode)))

    go : (b : Bool) → IfOk (IsCode (Field place name arg) accesses) (in_sequence (if b then Ok x else fails TypeMismatch place) abbrev_next)
    go false = tt
    go true =
        ok_then (λ later. Within c later → Within c mid × (known_mode c (OfField field) ≡ Some Read)) (IsCode (Field place name arg) accesses) (with_access mid (OfField field) Read place)
        (λ later. Ok (typed.Number (number.Field place field x), later)) (access_known c mid (OfField field) Read place)
        (λ later k w. let mode = k w in let f = h mode.0 in (f.0, field_at mode.1 f.1))
  field_code place name arg field kind accesses is _ mid h = tt

  field_name_code : (place : Place) (name : List ℕ) (arg : Expression) (accesses : Accesses) (found : Option Resolution) → resolution_of names name ≡ found
      → (operand : Result (TypedCode × Accesses) ProgramFault) → IfOk (IsCode arg accesses) operand
      → IfOk (IsCode (Field place name arg) accesses)
      (in_sequence (named_field place found) (λ field. in_sequence operand (λ operand. in_sequence (element_of_kind field.1 place operand.0)
      (λ target. in_sequence (with_access operand.1 (OfField field.0) Read place) (λ later. Ok (typed.Number (number.Field place field.0 target), later))))))
  field_name_code place name arg accesses (Some (resolution.Field field kind)) is operand h =
      ok_then (IsCode arg accesses) (IsCode (Field place name arg) accesses) operand _ h (λ operand g. field_code place name arg field kind accesses is operand.0 operand.1 g)
  field_name_code place name arg accesses None is operand h = tt
  field_name_code place name arg accesses (Some other) is operand h = tt

  called_follows : (place : Place) (fun : Fun) (arg : Expression) (operand : TypedCode) → Follows arg operand → IfOk (Follows (Call place fun arg)) (called_code place fun operand)
  called_follows place fun arg (typed.Element kind x) h = call_follows place fun kind arg x h
  called_follows place fun arg _ h = tt

  towards_follows : (place : Place) (arg to : Expression) (x y : TypedCode) → Follows arg x → Follows to y → IfOk (Follows (Towards place arg to)) (towards_code place x y)
  towards_follows place arg to (typed.Element kind x) (typed.Element other y) h g = go (are_towards_kinds kind other) refl where
    go : (b : Bool) → are_towards_kinds kind other ≡ b
        → IfOk (Follows (Towards place arg to)) (if b then Ok (typed.Element kind (element.Towards x y)) else fails TypeMismatch place)
    go true is = towards_both place arg to kind other x y is h g
    go false is = tt
  towards_follows place arg to _ _ h g = tt

  negated_follows : (place : Place) (arg : Expression) (operand : TypedCode) → Follows arg operand → IfOk (Follows (Neg place arg)) (negated place operand)
  negated_follows place arg (typed.Number x) h =
      rw (neg_is c.mesh place x) (simulates_then {next = λ v. negation place v} (extends_itself names) h (λ v n e. rw e (checked place (neg_ℤ n))))
  negated_follows place arg _ h = tt

  inverted_follows : (place : Place) (arg : Expression) (operand : TypedCode) → Follows arg operand → IfOk (Follows (Not place arg)) (inverted place operand)
  inverted_follows place arg (typed.Truth x) h =
      rw (not_is c.mesh x) (simulates_then {next = λ v. complement v} (extends_itself names) h (λ v b e. rw e (simulates_value refl)))
  inverted_follows place arg _ h = tt

  mutual
    pub expression_code : (accesses : Accesses) (e : Expression) → IfOk (IsCode e accesses) (resolved_expression names accesses e)
    expression_code accesses (Number place value) = λ w. (w, rw (constant_is c.mesh value) (simulates_value refl))
    expression_code accesses (Name place name) = name_code place name accesses (resolution_of names name) refl
    expression_code accesses (Field place name arg) =
        field_name_code place name arg accesses (resolution_of names name) refl (resolved_expression names accesses arg) (expression_code accesses arg)
    expression_code accesses (Call place fun arg) =
        ok_then (IsCode arg accesses) (IsCode (Call place fun arg) accesses) (resolved_expression names accesses arg) _ (expression_code accesses arg)
        (λ operand h. last (Call place fun arg) accesses operand.1 (called_code place fun operand.0) (λ w. ((h w).0, called_follows place fun arg operand.0 (h w).1)))
    expression_code accesses (Towards place arg to) =
        ok_then (IsCode arg accesses) (IsCode (Towards place arg to) accesses) (resolved_expression names accesses arg) _ (expression_code accesses arg) (λ x h.
        ok_then (IsCode to x.1) (IsCode (Towards place arg to) accesses) (resolved_expression names x.1 to) _ (expression_code x.1 to) (λ y g.
        last (Towards place arg to) accesses y.1 (towards_code place x.0 y.0) (λ w. ((h (g w).0).0, towards_follows place arg to x.0 y.0 (h (g w).0).1 (g w).1))))
    expression_code accesses (Neg place arg) =
        ok_then (IsCode arg accesses) (IsCode (Neg place arg) accesses) (resolved_expression names accesses arg) _ (expression_code accesses arg)
        (λ operand h. last (Neg place arg) accesses operand.1 (negated place operand.0) (λ w. ((h w).0, negated_follows place arg operand.0 (h w).1)))
    expression_code accesses (Not place arg) =
        ok_then (IsCode arg accesses) (IsCode (Not place arg) accesses) (resolved_expression names accesses arg) _ (expression_code accesses arg)
        (λ operand h. last (Not place arg) accesses operand.1 (inverted place operand.0) (λ w. ((h w).0, inverted_follows place arg operand.0 (h w).1)))
    expression_code accesses (Chain level first links) =
        ok_then (IsCode first accesses) (IsCode (Chain level first links) accesses) (resolved_expression names accesses first) _ (expression_code accesses first) (λ operand h.
        ok_weaken (AreCode links (first_of_chain operand.0) operand.1) (IsCode (Chain level first links) accesses) (resolved_links names operand.1 (first_of_chain operand.0) links)
        (links_code operand.1 (first_of_chain operand.0) links) (λ value g w. ((h (g w).0).0, chain_follows level first links operand.0 value.0 (h (g w).0).1 (g w).1)))
    expression_code accesses (Compare place rel left right) =
        ok_then (IsCode left accesses) (IsCode (Compare place rel left right) accesses) (resolved_expression names accesses left) _ (expression_code accesses left) (λ x h.
        ok_then (IsCode right x.1) (IsCode (Compare place rel left right) accesses) (resolved_expression names x.1 right) _ (expression_code x.1 right) (λ y g.
        last (Compare place rel left right) accesses y.1 (comparison_code place rel x.0 y.0) (λ w. ((h (g w).0).0, comparison_follows place rel left right x.0 y.0 (h (g w).0).1 (g w).1))))

    links_code : (accesses : Accesses) (done : ChainCode) (links : Links) → IfOk (AreCode links done accesses) (resolved_links names accesses done links)
    links_code accesses done no_links = no_links_code accesses done
    links_code accesses done (link s place arg rest) =
        ok_then (IsCode arg accesses) (AreCode (link s place arg rest) done accesses) (resolved_expression names accesses arg) _ (expression_code accesses arg) (λ operand h.
        ok_then (λ next. Within c operand.1 → Extended s place arg done next) (AreCode (link s place arg rest) done accesses) (extended_chain place s done operand.0) _
        (ok_under (Within c operand.1) (Extended s place arg done) (extended_chain place s done operand.0) (λ w. extended_follows s place arg done operand.0 (h w).1)) (λ next f.
        ok_weaken (AreCode rest next operand.1) (AreCode (link s place arg rest) done accesses) (resolved_links names operand.1 next rest) (links_code operand.1 next rest)
        (λ value g w. ((h (g w).0).0, f (g w).0 rest value.0 (g w).1))))
