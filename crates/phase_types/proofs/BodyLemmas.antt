-- Resolving a statement or a body walks through its steps.
use Rattle.std.proofs.Common.{◌≡◌, ℕ, Bool, true, false, not, cond, List, [], ◌∷◌, ◌++◌, length, refl, sym, ap, subst, ◌∙◌, inl, inr}
use Rattle.std.proofs.lemmas.Bool.{cases_Bool}
use Rattle.std.specs.List.{find}
use Rattle.std.specs.Option.{option_map}
use Rattle.std.specs.Prelude.{Option, Some, None, is_some, if◌then◌else◌, Ok}
use Rattle.std.specs.Str.{bytes_eq}
use Rattle.liszt_base.specs.Kinds.{has_set, kind_of}
use Rattle.liszt_base.specs.declared.answers.Place.{Place}
use Rattle.liszt_base.specs.declared.answers.ProgramWhat.TheVariants.{NameTwice, TypeMismatch, BuiltinWrite}
use Rattle.liszt_base.specs.declared.elements.Kind.{Kind}
use Rattle.liszt_base.specs.declared.elements.SetName.{SetName}
use Rattle.liszt_tree.specs.declared.tree.How.{How}
use Rattle.liszt_tree.specs.declared.tree.How.TheVariants.{Set, Fold, Less}
use Rattle.liszt_tree.specs.Tree.{Expression}
use Rattle.liszt_tree.specs.Tree.{Statement, Var, Val, Assign, If, While, For, Body, no_statement, statement}
use Rattle.resolved_code.specs.declared.statements.StatementCode.{StatementCode}
use Rattle.resolved_code.specs.declared.statements.StatementCode.TheVariants as code
use Rattle.phase_types.specs.declared.resolution.Resolution.{Resolution}
use Rattle.phase_types.specs.declared.resolution.Resolution.TheVariants as resolution
use Rattle.phase_types.specs.declared.resolution.TypedCode.{TypedCode}
use Rattle.phase_types.specs.declared.resolution.TypedCode.TheVariants as typed
use Rattle.phase_types.specs.Environments.{LocalName, Environment, Binding, ElementName, binding_of, is_built_in}
use Rattle.phase_types.specs.Types.{ValueType, NumberType, TruthType, ElementType, type_of}
use Rattle.phase_types.specs.Walk.{Step, OfField, OfScalar, mode_by, requirement, access_step, place_of, has_type, has_members, steps_of, typed_steps, name_requirement, with_val, environment_after, val_steps, field_target_steps, scalar_steps, name_target_steps, statement_steps, body_steps}
use Rattle.phase_types.specs.Resolve.{◌>>=◌, fails, Names, resolution_of, new_name, Accesses, with_access, element_in, element_of_kind, element_with_set, resolved_expression, resolved_number, resolved_truth, resolved_element, Frame, with_accesses, assigned_field, with_reduction, resolved_assignment, resolved_field_assignment, declared_number, declared_element, resolved_statement, resolved_body}
use Rattle.phase_types.proofs.BindingLemmas.{equal_bytes}
use Rattle.phase_types.proofs.WalkLemmas.{walk, Walks, in_turn, regrouped, made, IsAny, accessed}
use Rattle.phase_types.proofs.ResolveLemmas.{binding_in, Agrees, type_in, accesses_with, after_typed, kind_checked, walks, number_walks, truth_walks}

-- A DECLARATION of a new name: it is found, and every other name as before
abbrev in_names : Option (List ℕ × Resolution) → Option Resolution
in_names found = option_map (λ entry. entry.1) found

abbrev in_environment : Option (List ℕ × Binding) → Option Binding
in_environment found = option_map (λ entry. entry.1) found

last_found : (names : Names) (name other : List ℕ) (r : Resolution) → bytes_eq other name ≡ true → resolution_of names other ≡ None
    → resolution_of (names ++ (name, r) ∷ []) other ≡ Some r
last_found [] name other r is none = ap (λ b. in_names (cond b (Some (name, r)) None)) is
last_found (entry ∷ names) name other r is none = go (bytes_eq other entry.0) none (last_found names name other r is) where
  found : Names → Option (List ℕ × Resolution)
  found names = find (λ entry. bytes_eq other entry.0) names

  go : (b : Bool) → in_names (cond b (Some entry) (found names)) ≡ None
      → (in_names (found names) ≡ None → in_names (found (names ++ (name, r) ∷ [])) ≡ Some r)
      → in_names (cond b (Some entry) (found (names ++ (name, r) ∷ []))) ≡ Some r
  go true e again = absurd cc
  go false e again = again e

others_found : (names : Names) (name other : List ℕ) (r : Resolution) → bytes_eq other name ≡ false → resolution_of (names ++ (name, r) ∷ []) other ≡ resolution_of names other
others_found [] name other r is = ap (λ b. in_names (cond b (Some (name, r)) None)) is
others_found (entry ∷ names) name other r is = go (bytes_eq other entry.0) (others_found names name other r is) where
  found : Names → Option (List ℕ × Resolution)
  found names = find (λ entry. bytes_eq other entry.0) names

  go : (b : Bool) → in_names (found (names ++ (name, r) ∷ [])) ≡ in_names (found names)
      → in_names (cond b (Some entry) (found (names ++ (name, r) ∷ []))) ≡ in_names (cond b (Some entry) (found names))
  go true e = refl
  go false e = e

pub declared : {names : Names} {environment : Environment} (name : List ℕ) (r : Resolution) → Agrees names environment → resolution_of names name ≡ None
    → Agrees (names ++ (name, r) ∷ []) ((name, binding_in r) ∷ environment)
declared {names = names} {environment = environment} name r agrees new = record {
  each = λ other. elim (cases_Bool (bytes_eq other name)) as (λ c. option_map binding_in (resolution_of (names ++ (name, r) ∷ []) other) ≡ binding_of ((name, binding_in r) ∷ environment) other) [
    | inl is ↦ ap (option_map binding_in) (last_found names name other r is (ap (resolution_of names) (equal_bytes other name is) ∙ new))
        ∙ sym (ap (λ b. in_environment (cond b (Some (name, binding_in r)) (find (λ entry. bytes_eq other entry.0) environment))) is)
    | inr is ↦ ap (option_map binding_in) (others_found names name other r is) ∙ agrees.each other
        ∙ sym (ap (λ b. in_environment (cond b (Some (name, binding_in r)) (find (λ entry. bytes_eq other entry.0) environment))) is)
  ];
}

new_found : (accesses : Accesses) (at : Place) (found : Option Resolution)
    → Walks (λ u. accesses) (λ u. found ≡ None) (walk accesses (requirement (not (is_some (option_map binding_in found))) NameTwice at)) (new_name found at)
new_found accesses at None = record { same = (refl, refl) }
new_found accesses at (Some r) = record { same = refl }

pub new_walks : {names : Names} {environment : Environment} → Agrees names environment → (accesses : Accesses) (name : List ℕ) (at : Place)
    → Walks (λ u. accesses) (λ u. resolution_of names name ≡ None) (walk accesses (name_requirement environment name at)) (new_name (resolution_of names name) at)
new_walks {names = names} agrees accesses name at =
    subst (λ found. Walks (λ u. accesses) (λ u. resolution_of names name ≡ None) (walk accesses (requirement (not (is_some found)) NameTwice at)) (new_name (resolution_of names name) at))
    (agrees.each name) (new_found accesses at (resolution_of names name))

-- CHECKS of elements
element_checked : (accesses : Accesses) (place : Place) (value : TypedCode)
    → Walks (λ x. accesses) (λ x. Some (type_in value) ≡ Some (ElementType x.0)) (walk accesses (val_steps (Some (type_in value)) place)) (element_in place value)
element_checked accesses place (typed.Number code) = record { same = refl }
element_checked accesses place (typed.Truth code) = record { same = refl }
element_checked accesses place (typed.Element kind code) = record { same = (refl, refl) }

members_checked : (accesses : Accesses) (set : SetName) (place : Place) (value : TypedCode)
    → Walks (λ x. accesses) IsAny (walk accesses (requirement (has_members set (Some (type_in value))) TypeMismatch place)) (element_with_set set place value)
members_checked accesses set place (typed.Number code) = record { same = refl }
members_checked accesses set place (typed.Truth code) = record { same = refl }
members_checked accesses set place (typed.Element kind code) = go (has_set kind set) where
  go : (b : Bool) → Walks (λ x. accesses) IsAny (walk accesses (requirement b TypeMismatch place)) (if b then Ok code else fails TypeMismatch place)
  go true = record { same = (refl, tt) }
  go false = record { same = refl }

-- ASSIGNMENTS
writable : (accesses : Accesses) (place : Place) (b : Bool) (field : ℕ) (kind : Kind)
    → Walks {A = ℕ × Kind} (λ x. accesses) (λ x. x ≡ (field, kind)) (walk accesses (requirement (not b) BuiltinWrite place)) (if b then fails BuiltinWrite place else Ok (field, kind))
writable accesses place true field kind = record { same = refl }
writable accesses place false field kind = record { same = (refl, refl) }

reduced : (accesses : Accesses) (scalar : ℕ) (how : How) (place : Place)
    → Walks (λ later. later) IsAny (walk accesses (scalar_steps place how scalar)) (with_reduction accesses scalar how place)
reduced accesses scalar Set place = record { same = refl }
reduced accesses scalar (Fold op) place = accessed accesses (OfScalar scalar) (mode_by (Fold op)) place
reduced accesses scalar Less place = accessed accesses (OfScalar scalar) (mode_by Less) place

abbrev after_assignment : StatementCode × Frame → Accesses
after_assignment r = r.1.accesses

abbrev after_statement : StatementCode × Names × Frame → Accesses
after_statement r = r.2.accesses

abbrev pub after_body : List StatementCode × Frame → Accesses
after_body r = r.1.accesses

module _ {names : Names} {environment : Environment} (agrees : Agrees names environment) where
  element_walks : (accesses : Accesses) (e : Expression)
      → Walks accesses_with (λ v. type_of environment e ≡ Some (ElementType v.0.0)) (walk accesses (steps_of environment e ++ val_steps (type_of environment e) (place_of e))) (resolved_element names accesses e)
  element_walks accesses e =
      after_typed (λ type v. type ≡ Some (ElementType v.0.0)) (λ type. val_steps type (place_of e)) accesses (steps_of environment e) (type_of environment e) (resolved_expression names accesses e) _
      (walks agrees accesses e) (λ v. made (element_in (place_of e) v.0) _ (element_checked v.1 (place_of e) v.0) (λ x is. (refl, is)))

  assignment_walks : (frame : Frame) (place : Place) (how : How) (value : Expression) (found : Option Resolution)
      → Walks after_assignment IsAny (walk frame.accesses (name_target_steps place how (option_map binding_in found) (typed_steps environment NumberType value))) (resolved_assignment names frame place how value found)
  assignment_walks frame place how value None = record { same = refl }
  assignment_walks frame place how value (Some (resolution.Field field kind)) = record { same = refl }
  assignment_walks frame place how value (Some (resolution.Element slot kind)) = record { same = refl }
  assignment_walks frame place how value (Some (resolution.Number slot)) = made (resolved_number names frame.accesses value) _ (number_walks agrees frame.accesses value) (λ v any. (refl, tt))
  assignment_walks frame place how value (Some (resolution.Scalar scalar)) =
      in_turn frame.accesses (scalar_steps place how scalar) (typed_steps environment NumberType value) (with_reduction frame.accesses scalar how place) _ (reduced frame.accesses scalar how place)
      (λ later any. made (resolved_number names later value) _ (number_walks agrees later value) (λ v any. (refl, tt)))

  field_assignment_walks : (frame : Frame) (place : Place) (how : How) (target value : Expression) (found : Option Resolution)
      → Walks after_assignment IsAny
      (walk frame.accesses (field_target_steps place how (option_map binding_in found) (type_of environment target) (steps_of environment target) (typed_steps environment NumberType value)))
      (resolved_field_assignment names frame place how target value found)
  field_assignment_walks frame place how target value None = record { same = refl }
  field_assignment_walks frame place how target value (Some (resolution.Scalar scalar)) = record { same = refl }
  field_assignment_walks frame place how target value (Some (resolution.Number slot)) = record { same = refl }
  field_assignment_walks frame place how target value (Some (resolution.Element slot kind)) = record { same = refl }
  field_assignment_walks frame place how target value (Some (resolution.Field field kind)) =
      let free : List Step = requirement (not (is_built_in field)) BuiltinWrite place in
      let of_kind : Option ValueType → List Step = λ type. requirement (has_type (ElementType kind) type) TypeMismatch place in
      let access : List Step = access_step (OfField field) (mode_by how) place in
      let new_value : List Step = typed_steps environment NumberType value in
      let steps : List Step = steps_of environment target in
      let type : Option ValueType = type_of environment target in
      regrouped frame.accesses (((free ++ steps) ++ of_kind type)) access new_value
      (regrouped frame.accesses (free ++ steps) (of_kind type) (access ++ new_value)
      (regrouped frame.accesses free steps (of_kind type ++ (access ++ new_value))
      (in_turn frame.accesses free (steps ++ (of_kind type ++ (access ++ new_value))) (assigned_field place (Some (resolution.Field field kind))) _ (writable frame.accesses place (is_built_in field) field kind)
      (λ x is. subst (λ (x : ℕ × Kind). Walks after_assignment IsAny (walk frame.accesses (steps ++ (of_kind type ++ (access ++ new_value))))
      (resolved_expression names frame.accesses target >>= λ operand. element_of_kind x.1 place operand.0 >>= λ at_element. with_access operand.1 (OfField x.0) (mode_by how) place >>= λ later.
      resolved_number names later value >>= λ new_value. Ok (code.Field place x.0 how at_element new_value.0, with_accesses new_value.1 frame))) (sym is)
      (after_typed (λ type r. IsAny r) (λ type. of_kind type ++ (access ++ new_value)) frame.accesses steps type (resolved_expression names frame.accesses target) _ (walks agrees frame.accesses target)
      (λ v. in_turn v.1 (of_kind (Some (type_in v.0))) (access ++ new_value) (element_of_kind kind place v.0) _ (kind_checked v.1 kind place v.0)
      (λ at_element e. in_turn v.1 access new_value (with_access v.1 (OfField field) (mode_by how) place) _ (accessed v.1 (OfField field) (mode_by how) place)
      (λ later any. made (resolved_number names later value) _ (number_walks agrees later value) (λ w any. (refl, tt))))))))))

abbrev pub after_declaration : ℕ × Names × Frame → Accesses
after_declaration d = d.2.accesses

pub number_declared : {names : Names} {environment : Environment} → Agrees names environment → (frame : Frame) (name : List ℕ) (at : Place)
    → Walks after_declaration (λ d. Agrees d.1 ((name, LocalName) ∷ environment)) (walk frame.accesses (name_requirement environment name at)) (declared_number names frame name at)
number_declared {names = names} agrees frame name at =
    made (new_name (resolution_of names name) at) _ (new_walks agrees frame.accesses name at) (λ u new. (refl, declared name (resolution.Number frame.numbers) agrees new))

pub element_declared : {names : Names} {environment : Environment} → Agrees names environment → (frame : Frame) (name : List ℕ) (at : Place) (kind : Kind)
    → Walks after_declaration (λ d. Agrees d.1 ((name, ElementName kind) ∷ environment)) (walk frame.accesses (name_requirement environment name at)) (declared_element names frame name at kind)
element_declared {names = names} agrees frame name at kind =
    made (new_name (resolution_of names name) at) _ (new_walks agrees frame.accesses name at) (λ u new. (refl, declared name (resolution.Element (length frame.elements) kind) agrees new))

mutual
  pub statement_walks : {names : Names} {environment : Environment} → Agrees names environment → (frame : Frame) (s : Statement)
      → Walks after_statement (λ r. Agrees r.1 (environment_after environment s)) (walk frame.accesses (statement_steps environment s)) (resolved_statement names frame s)
  statement_walks {names = names} {environment = environment} agrees frame (Var place name at init) =
      in_turn frame.accesses (typed_steps environment NumberType init) (name_requirement environment name at) (resolved_number names frame.accesses init) _ (number_walks agrees frame.accesses init)
      (λ v any. made (declared_number names (with_accesses v.1 frame) name at) _ (number_declared agrees (with_accesses v.1 frame) name at) (λ d after. (refl, after)))
  statement_walks {names = names} {environment = environment} agrees frame (Val place name at init) =
      in_turn frame.accesses (steps_of environment init ++ val_steps (type_of environment init) (place_of init)) (name_requirement environment name at) (resolved_element names frame.accesses init) _
      (element_walks agrees frame.accesses init)
      (λ v is. made (declared_element names (with_accesses v.1 frame) name at v.0.0) _ (element_declared agrees (with_accesses v.1 frame) name at v.0.0)
      (λ d after. (refl, subst (λ type. Agrees d.1 (with_val name type environment)) (sym is) after)))
  statement_walks {names = names} {environment = environment} agrees frame (Assign place name (Some target) how value) =
      made (resolved_field_assignment names frame place how target value (resolution_of names name)) _
      (subst (λ found. Walks after_assignment IsAny
      (walk frame.accesses (field_target_steps place how found (type_of environment target) (steps_of environment target) (typed_steps environment NumberType value)))
      (resolved_field_assignment names frame place how target value (resolution_of names name))) (agrees.each name)
      (field_assignment_walks agrees frame place how target value (resolution_of names name))) (λ r any. (refl, agrees))
  statement_walks {names = names} {environment = environment} agrees frame (Assign place name None how value) =
      made (resolved_assignment names frame place how value (resolution_of names name)) _
      (subst (λ found. Walks after_assignment IsAny (walk frame.accesses (name_target_steps place how found (typed_steps environment NumberType value))) (resolved_assignment names frame place how value (resolution_of names name)))
      (agrees.each name) (assignment_walks agrees frame place how value (resolution_of names name))) (λ r any. (refl, agrees))
  statement_walks {names = names} {environment = environment} agrees frame (If place test first second has_else) =
      regrouped frame.accesses (typed_steps environment TruthType test) (body_steps environment first) (body_steps environment second)
      (in_turn frame.accesses (typed_steps environment TruthType test) (body_steps environment first ++ body_steps environment second) (resolved_truth names frame.accesses test) _ (truth_walks agrees frame.accesses test)
      (λ v any. in_turn v.1 (body_steps environment first) (body_steps environment second) (resolved_body names (with_accesses v.1 frame) [] first) _ (body_walks agrees (with_accesses v.1 frame) [] first)
      (λ b any. made (resolved_body names b.1 [] second) _ (body_walks agrees b.1 [] second) (λ c any. (refl, agrees)))))
  statement_walks {names = names} {environment = environment} agrees frame (While place test body) =
      in_turn frame.accesses (typed_steps environment TruthType test) (body_steps environment body) (resolved_truth names frame.accesses test) _ (truth_walks agrees frame.accesses test)
      (λ v any. made (resolved_body names (with_accesses v.1 frame) [] body) _ (body_walks agrees (with_accesses v.1 frame) [] body) (λ b any. (refl, agrees)))
  statement_walks {names = names} {environment = environment} agrees frame (For place name at set set_at arg body) =
      let has : Option ValueType → List Step = λ type. requirement (has_members set type) TypeMismatch set_at in
      let new : List Step = name_requirement environment name at in
      let inner : List Step = body_steps ((name, ElementName (kind_of set)) ∷ environment) body in
      let steps : List Step = steps_of environment arg in
      let type : Option ValueType = type_of environment arg in
      regrouped frame.accesses (steps ++ has type) new inner
      (regrouped frame.accesses steps (has type) (new ++ inner)
      (after_typed (λ type r. Agrees r.1 environment) (λ type. has type ++ (new ++ inner)) frame.accesses steps type (resolved_expression names frame.accesses arg) _ (walks agrees frame.accesses arg)
      (λ v. in_turn v.1 (has (Some (type_in v.0))) (new ++ inner) (element_with_set set set_at v.0) _ (members_checked v.1 set set_at v.0)
      (λ origin any. in_turn v.1 new inner (declared_element names (with_accesses v.1 frame) name at (kind_of set)) _ (element_declared agrees (with_accesses v.1 frame) name at (kind_of set))
      (λ d after. made (resolved_body d.1 d.2 [] body) _ (body_walks after d.2 [] body) (λ b any. (refl, agrees)))))))

  pub body_walks : {names : Names} {environment : Environment} → Agrees names environment → (frame : Frame) (done : List StatementCode) (body : Body)
      → Walks after_body IsAny (walk frame.accesses (body_steps environment body)) (resolved_body names frame done body)
  body_walks agrees frame done no_statement = record { same = (refl, tt) }
  body_walks {names = names} {environment = environment} agrees frame done (statement s rest) =
      in_turn frame.accesses (statement_steps environment s) (body_steps (environment_after environment s) rest) (resolved_statement names frame s) _ (statement_walks agrees frame s)
      (λ r after. body_walks after r.2 (done ++ r.0 ∷ []) rest)
