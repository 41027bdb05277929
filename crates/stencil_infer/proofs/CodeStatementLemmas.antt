-- Resolved statements have the accesses and the visits of their trees.
use Rattle.std.proofs.Common.{◌≡◌, ◌⊎◌, ℕ, zero, suc, ◌+◌, ◌≤◌, ◌<◌, List, [], ◌∷◌, ◌++◌, length, Bool, true, false, refl, sym, ap, subst, ◌∙◌, inl, inr, arith}
use Rattle.std.proofs.lemmas.Bool.{cases_Bool}
use Rattle.std.proofs.lemmas.List.{append-nil, append_assoc, length-append, length-set}
use Rattle.std.proofs.lemmas.List.Sums.{sum_by-cons}
use Rattle.std.proofs.lemmas.Slice.Eq.{bytes_eq-Decides}
use Rattle.std.specs.Prelude.{Option, Some, None, Ok, if◌then◌else◌}
use Rattle.std.specs.List.{flat_map, slice_set, sum_by}
use Rattle.std.specs.Str.{bytes_eq}
use Rattle.liszt_base.specs.Kinds.{has_set, kind_of}
use Rattle.liszt_base.specs.MeshLists.{MeshLists}
use Rattle.liszt_base.specs.declared.accesses.Access.{Access}
use Rattle.liszt_base.specs.declared.accesses.Mode.{Mode}
use Rattle.liszt_base.specs.declared.answers.Place.{Place}
use Rattle.liszt_base.specs.declared.answers.ProgramWhat.TheVariants.{TypeMismatch}
use Rattle.liszt_base.specs.declared.elements.Elem.{Elem}
use Rattle.liszt_base.specs.declared.elements.Kind.{Kind}
use Rattle.liszt_base.specs.declared.elements.SetName.{SetName}
use Rattle.liszt_tree.specs.declared.tree.How.{How}
use Rattle.liszt_tree.specs.Tree.{Expression, Statement, Var, Val, Assign, If, While, For, Body, no_statement, statement}
use Rattle.resolved_code.specs.declared.expressions.ElementCode.{ElementCode}
use Rattle.resolved_code.specs.declared.expressions.NumberCode.{NumberCode}
use Rattle.resolved_code.specs.declared.expressions.TruthCode.{TruthCode}
use Rattle.resolved_code.specs.declared.statements.StatementCode.{StatementCode}
use Rattle.resolved_code.specs.declared.statements.StatementCode.TheVariants as code
use Rattle.topo_operators.specs.Operators.{members}
use Rattle.phase_types.specs.declared.frame.Frame.{Frame}
use Rattle.phase_types.specs.declared.resolution.Resolution.{Resolution}
use Rattle.phase_types.specs.declared.resolution.Resolution.TheVariants as resolution
use Rattle.phase_types.specs.declared.resolution.TypedCode.{TypedCode}
use Rattle.phase_types.specs.declared.resolution.TypedCode.TheVariants as typed
use Rattle.phase_types.specs.Environments.{Environment, FieldName, binding_of, lookup}
use Rattle.phase_types.specs.Resolve.{◌>>=◌, fails, Names, Accesses, resolution_of, number_in, truth_in, element_in, element_of_kind, element_with_set, resolved_expression, resolved_number, resolved_truth, resolved_element, with_accesses, with_number, with_element, number_name, element_name, resolved_statement, resolved_body}
use Rattle.phase_types.specs.Walk.{mode_by, place_of}
use Rattle.kernel_eval.specs.Expressions.{ElementBindings, element_value, with_binding, elements_after}
use Rattle.stencil_infer.specs.Stencils.{access_at, accesses_of, expression_visits, members_at, statement_accesses, statement_visits, body_accesses, body_visits}
use Rattle.stencil_infer.specs.Internal.CodeAccesses.{Slots, in_slot, Walk, and_then, members_walk, over_nil, statement_walk, code_walk, at_element, element_of, element_visits, number_accesses, number_visits, truth_accesses, truth_visits}
use Rattle.stencil_infer.proofs.CodeClauseLemmas.{walk_var, walk_val, walk_local, walk_scalar, walk_field, walk_if, walk_while, walk_for}
use Rattle.stencil_infer.proofs.CodeExpressionLemmas.{bound, ok_is, is_number, is_truth, Represents, KnowsFields, IsCodeOf, of_kind, expression_agrees}
use Rattle.stencil_infer.proofs.CodeStepLemmas.{Resolved, Block, VarSteps, var_steps, ValSteps, val_steps, FieldSteps, field_steps, NameSteps, ScalarSteps, LocalSteps, name_steps, if_steps, while_steps, ForSteps, for_steps, body_steps, statement_grows, body_grows}

-- SLOTS that are set
pub set_slot : (slots : Slots) (n : ℕ) (x : Option Elem) → n < length slots → in_slot (slice_set slots n x) n ≡ x
set_slot [] n x l = absurd (omega (arith, l))
set_slot (y ∷ slots) zero x l = refl
set_slot (y ∷ slots) (suc n) x l = set_slot slots n x (omega (arith, l))

pub set_other : (slots : Slots) (n i : ℕ) (x : Option Elem) → (i ≡ n → ⊥) → in_slot (slice_set slots n x) i ≡ in_slot slots i
set_other [] n i x apart = refl
set_other (y ∷ slots) zero zero x apart = absurd (apart refl)
set_other (y ∷ slots) zero (suc i) x apart = refl
set_other (y ∷ slots) (suc n) zero x apart = refl
set_other (y ∷ slots) (suc n) (suc i) x apart = set_other slots n i x (λ e. apart (ap suc e))

-- the slots below a number are the same
pub record SameBelow (n : ℕ) (slots later : Slots) : Type 0 where
  pub unchanged : (slot : ℕ) → slot < n → in_slot later slot ≡ in_slot slots slot
  pub long : length later ≡ length slots

same_itself : (n : ℕ) (slots : Slots) → SameBelow n slots slots
same_itself n slots = record { unchanged = λ slot l. refl; long = refl }

same_later : {n m : ℕ} {a b c : Slots} → n ≤ m → SameBelow n a b → SameBelow m b c → SameBelow n a c
same_later le h g = record { unchanged = λ slot l. g.unchanged slot (omega (arith, l, le)) ∙ h.unchanged slot l; long = g.long ∙ h.long }

same_set : (n : ℕ) (slots : Slots) (x : Option Elem) → SameBelow n slots (slice_set slots n x)
same_set n slots x = record { unchanged = λ slot l. set_other slots n slot x (λ e. omega (arith, l, e)); long = length-set slots n x }

-- NAMES with one more
pub in_names : (names : Names) (entry : List ℕ × Resolution) (other : List ℕ) (r : Resolution) → resolution_of (names ++ entry ∷ []) other ≡ Some r
    → (resolution_of names other ≡ Some r) ⊎ ((bytes_eq other entry.0 ≡ true) × (entry.1 ≡ r))
in_names [] entry other r e = elim (cases_Bool (bytes_eq other entry.0)) [
  | inl is ↦ inr (is, some_is entry.1 r (rw is at e))
  | inr is ↦ absurd (none_is r (rw is at e))
] where
  some_is : (a b : Resolution) → Some a ≡ Some b → a ≡ b
  some_is a b e = cc

  none_is : (a : Resolution) → None ≡ Some a → ⊥
  none_is a e = cc
in_names (x ∷ names) entry other r e = elim (cases_Bool (bytes_eq other x.0)) [
  | inl is ↦ inl (rw is (rw is at e))
  | inr is ↦ elim (in_names names entry other r (rw is at e)) [
    | inl h ↦ inl (rw is h)
    | inr h ↦ inr h
  ]
]

pub record IsBelow (names : Names) (n : ℕ) : Type 0 where
  pub has_bound : (name : List ℕ) (slot : ℕ) (kind : Kind) → resolution_of names name ≡ Some (resolution.Element slot kind) → slot < n

no_element : (k slot : ℕ) (kind : Kind) → resolution.Number k ≡ resolution.Element slot kind → ⊥
no_element k slot kind e = cc

no_field : (k field : ℕ) (kind : Kind) → resolution.Number k ≡ resolution.Field field kind → ⊥
no_field k field kind e = cc

element_no_field : (n field : ℕ) (kind other : Kind) → resolution.Element n kind ≡ resolution.Field field other → ⊥
element_no_field n field kind other e = cc

same_slot : (n slot : ℕ) (kind other : Kind) → resolution.Element n kind ≡ resolution.Element slot other → n ≡ slot
same_slot n slot kind other e = cc

-- what is visible at a place: the names represent the bindings, their slots are below a number, and the fields are known
pub record Fits (names : Names) (globals : Environment) (elements : ElementBindings) (slots : Slots) (n : ℕ) : Type 0 where
  pub represents : Represents names elements slots
  pub below : IsBelow names n
  pub knows : KnowsFields names globals

fits_later : {names : Names} {globals : Environment} {elements : ElementBindings} {slots later : Slots} {n m : ℕ} → n ≤ m → SameBelow n slots later
    → Fits names globals elements slots n → Fits names globals elements later m
fits_later le same h = record {
  represents = record {
    has_slot = λ name slot kind is. h.represents.has_slot name slot kind is ∙ sym (ap Some (same.unchanged slot (h.below.has_bound name slot kind is)));
  };
  below = record { has_bound = λ name slot kind is. omega (arith, le, h.below.has_bound name slot kind is) };
  knows = h.knows;
}

fits_number : {names : Names} {globals : Environment} {elements : ElementBindings} {slots : Slots} {n : ℕ} (name : List ℕ) (k : ℕ) → Fits names globals elements slots n
    → Fits (names ++ (name, resolution.Number k) ∷ []) globals elements slots n
fits_number {names = names} name k h = record {
  represents = record {
    has_slot = λ other slot kind e. elim (in_names names (name, resolution.Number k) other (resolution.Element slot kind) e) [
      | inl is ↦ h.represents.has_slot other slot kind is
      | inr is ↦ absurd (no_element k slot kind is.1)
    ];
  };
  below = record {
    has_bound = λ other slot kind e. elim (in_names names (name, resolution.Number k) other (resolution.Element slot kind) e) [
      | inl is ↦ h.below.has_bound other slot kind is
      | inr is ↦ absurd (no_element k slot kind is.1)
    ];
  };
  knows = record {
    is_field = λ other field kind e. elim (in_names names (name, resolution.Number k) other (resolution.Field field kind) e) [
      | inl is ↦ h.knows.is_field other field kind is
      | inr is ↦ absurd (no_field k field kind is.1)
    ];
  };
}

found_twice : (names : Names) (name other : List ℕ) (r : Resolution) → resolution_of names name ≡ None → resolution_of names other ≡ Some r → bytes_eq other name ≡ true → ⊥
found_twice names name other r none is e =
    let same : other ≡ name = (bytes_eq-Decides other name).0 e in
    let bad : None ≡ Some r = sym none ∙ ap (resolution_of names) (sym same) ∙ is in cc bad

bound_there : (name other : List ℕ) (x y : Option Elem) (elements : ElementBindings) → bytes_eq other name ≡ true → x ≡ y → lookup (bytes_eq other) ((name, x) ∷ elements) ≡ Some y
bound_there name other x y elements is e = rw is (ap Some e)

bound_elsewhere : (name other : List ℕ) (x y : Option Elem) (elements : ElementBindings) → bytes_eq other name ≡ false → lookup (bytes_eq other) elements ≡ Some y
    → lookup (bytes_eq other) ((name, x) ∷ elements) ≡ Some y
bound_elsewhere name other x y elements is e = rw is e

pub fits_element : {names : Names} {globals : Environment} {elements : ElementBindings} {slots : Slots} {n : ℕ} (name : List ℕ) (kind : Kind) (x : Option Elem)
    → resolution_of names name ≡ None → n < length slots → Fits names globals elements slots n
    → Fits (names ++ (name, resolution.Element n kind) ∷ []) globals ((name, x) ∷ elements) (slice_set slots n x) (n + 1)
fits_element {names = names} {elements = elements} {slots = slots} {n = n} name kind x new l h = record {
  represents = record {
    has_slot = λ other slot kind' e. elim (in_names names (name, resolution.Element n kind) other (resolution.Element slot kind') e) [
      | inl is ↦ elim (cases_Bool (bytes_eq other name)) [
        | inl same ↦ absurd (found_twice names name other (resolution.Element slot kind') new is same)
        | inr apart ↦ bound_elsewhere name other x (in_slot (slice_set slots n x) slot) elements apart
            (h.represents.has_slot other slot kind' is ∙ sym (ap Some (set_other slots n slot x (λ e. omega (arith, e, h.below.has_bound other slot kind' is)))))
      ]
      | inr is ↦ bound_there name other x (in_slot (slice_set slots n x) slot) elements is.0
          (sym (set_slot slots n x l) ∙ ap (in_slot (slice_set slots n x)) (same_slot n slot kind kind' is.1))
    ];
  };
  below = record {
    has_bound = λ other slot kind' e. elim (in_names names (name, resolution.Element n kind) other (resolution.Element slot kind') e) [
      | inl is ↦ omega (arith, h.below.has_bound other slot kind' is)
      | inr is ↦ omega (arith, same_slot n slot kind kind' is.1)
    ];
  };
  knows = record {
    is_field = λ other field kind' e. elim (in_names names (name, resolution.Element n kind) other (resolution.Field field kind') e) [
      | inl is ↦ h.knows.is_field other field kind' is
      | inr is ↦ absurd (element_no_field n field kind kind' is.1)
    ];
  };
}

-- WALKS with given accesses and visits, which leave the slots below a number
pub record WalkAgrees (n : ℕ) (slots : Slots) (accesses : List Access) (visits : ℕ) (walk : Walk) : Type 0 where
  pub accesses_are : walk.accesses ≡ accesses
  pub visits_are : walk.visits ≡ visits
  pub same : SameBelow n slots walk.slots

walk_at : {n : ℕ} {slots : Slots} {a b : List Access} {v u : ℕ} {walk other : Walk} → other ≡ walk → a ≡ b → v ≡ u → WalkAgrees n slots a v walk → WalkAgrees n slots b u other
walk_at {n} {slots} {a} {b} {v} {u} {walk} {other} w e f h =
    subst (WalkAgrees n slots b u) (sym w) (subst (λ a. WalkAgrees n slots a u walk) e (subst (λ v. WalkAgrees n slots a v walk) f h))

walk_then : {n : ℕ} {slots : Slots} {a b : List Access} {v u : ℕ} (first : Walk) (next : Slots → Walk) → WalkAgrees n slots a v first
    → WalkAgrees n first.slots b u (next first.slots) → WalkAgrees n slots (a ++ b) (v + u) (and_then first next)
walk_then {a = a} {b = b} {v = v} first next h g = record {
  accesses_are = ap (λ a. a ++ (next first.slots).accesses) h.accesses_are ∙ ap (λ b. a ++ b) g.accesses_are;
  visits_are = ap (λ v. v + (next first.slots).visits) h.visits_are ∙ ap (λ u. v + u) g.visits_are;
  same = same_later (omega arith) h.same g.same;
}

walk_below : {n m : ℕ} {slots : Slots} {a : List Access} {v : ℕ} {walk : Walk} → n ≤ m → WalkAgrees m slots a v walk → WalkAgrees n slots a v walk
walk_below le h = record {
  accesses_are = h.accesses_are;
  visits_are = h.visits_are;
  same = record { unchanged = λ slot l. h.same.unchanged slot (omega (arith, l, le)); long = h.same.long };
}

one_walk : (n : ℕ) (slots : Slots) (accesses : List Access) (visits : ℕ) → WalkAgrees n slots accesses visits (record { accesses = accesses; visits = visits; slots = slots })
one_walk n slots accesses visits = record { accesses_are = refl; visits_are = refl; same = same_itself n slots }

-- VALUES
module _ (mesh : MeshLists) (globals : Environment) {names : Names} {elements : ElementBindings} {slots : Slots} {n : ℕ} (fits : Fits names globals elements slots n) where
  agrees : (e : Expression) (accesses : Accesses) (r : TypedCode × Accesses) → resolved_expression names accesses e ≡ Ok r → IsCodeOf mesh globals elements slots e r.0
  agrees = expression_agrees mesh globals elements slots names fits.represents fits.knows

  number_agrees : (e : Expression) (accesses : Accesses) (value : NumberCode × Accesses) → resolved_number names accesses e ≡ Ok value
      → (accesses_of mesh globals elements e ≡ number_accesses mesh slots value.0) × (expression_visits e ≡ number_visits value.0)
  number_agrees e accesses value is =
      let operand = bound (resolved_expression names accesses e) (λ operand. number_in (place_of e) operand.0 >>= λ value. Ok (value, operand.1)) value is in
      let found = bound (number_in (place_of e) operand.0.0) (λ value. Ok (value, operand.0.1)) value operand.2 in
      let same : operand.0.0 ≡ typed.Number value.0 =
      is_number (place_of e) operand.0.0 found.0 found.1 ∙ ap (λ (v : NumberCode × Accesses). typed.Number v.0) (ok_is (found.0, operand.0.1) value found.2) in
      subst (IsCodeOf mesh globals elements slots e) same (agrees e accesses operand.0 operand.1)

  truth_agrees : (e : Expression) (accesses : Accesses) (value : TruthCode × Accesses) → resolved_truth names accesses e ≡ Ok value
      → (accesses_of mesh globals elements e ≡ truth_accesses mesh slots value.0) × (expression_visits e ≡ truth_visits value.0)
  truth_agrees e accesses value is =
      let operand = bound (resolved_expression names accesses e) (λ operand. truth_in (place_of e) operand.0 >>= λ value. Ok (value, operand.1)) value is in
      let found = bound (truth_in (place_of e) operand.0.0) (λ value. Ok (value, operand.0.1)) value operand.2 in
      let same : operand.0.0 ≡ typed.Truth value.0 =
      is_truth (place_of e) operand.0.0 found.0 found.1 ∙ ap (λ (v : TruthCode × Accesses). typed.Truth v.0) (ok_is (found.0, operand.0.1) value found.2) in
      subst (IsCodeOf mesh globals elements slots e) same (agrees e accesses operand.0 operand.1)

  abbrev IsElement : Expression → ElementCode → Type 0
  IsElement e code = (element_value mesh elements e ≡ Some (element_of mesh slots code)) × (accesses_of mesh globals elements e ≡ []) × (expression_visits e ≡ element_visits code)

  is_element : (place : Place) (value : TypedCode) (pair : Kind × ElementCode) → element_in place value ≡ Ok pair → value ≡ typed.Element pair.0 pair.1
  is_element place (typed.Element kind code) pair e = ap (λ (p : Kind × ElementCode). typed.Element p.0 p.1) (ok_is (kind, code) pair e)
  is_element place (typed.Number code) pair e = absurd cc
  is_element place (typed.Truth code) pair e = absurd cc

  element_agrees : (e : Expression) (accesses : Accesses) (value : (Kind × ElementCode) × Accesses) → resolved_element names accesses e ≡ Ok value → IsElement e value.0.1
  element_agrees e accesses value is =
      let operand = bound (resolved_expression names accesses e) (λ operand. element_in (place_of e) operand.0 >>= λ value. Ok (value, operand.1)) value is in
      let found = bound (element_in (place_of e) operand.0.0) (λ value. Ok (value, operand.0.1)) value operand.2 in
      let same : operand.0.0 ≡ typed.Element value.0.0 value.0.1 =
      is_element (place_of e) operand.0.0 found.0 found.1
      ∙ ap (λ (v : (Kind × ElementCode) × Accesses). typed.Element v.0.0 v.0.1) (ok_is (found.0, operand.0.1) value found.2) in
      subst (IsCodeOf mesh globals elements slots e) same (agrees e accesses operand.0 operand.1)

  target_agrees : (kind : Kind) (place : Place) (e : Expression) (accesses : Accesses) (operand : TypedCode × Accesses) (target : ElementCode)
      → resolved_expression names accesses e ≡ Ok operand → element_of_kind kind place operand.0 ≡ Ok target → IsElement e target
  target_agrees kind place e accesses operand target is of =
      of_kind mesh globals elements slots names fits.represents fits.knows kind place e operand.0 target (agrees e accesses operand is) of

  with_set : (set : SetName) (place : Place) (e : Expression) (operand : TypedCode) (origin : ElementCode) → IsCodeOf mesh globals elements slots e operand
      → element_with_set set place operand ≡ Ok origin → IsElement e origin
  with_set set place e (typed.Element kind code) origin h is = go (has_set kind set) is where
    go : (has : Bool) → (if has then Ok code else fails TypeMismatch place) ≡ Ok origin → IsElement e origin
    go true is = subst (IsElement e) (ok_is code origin is) h
    go false is = absurd cc
  with_set set place e (typed.Number code) origin h is = absurd cc
  with_set set place e (typed.Truth code) origin h is = absurd cc

  origin_agrees : (set : SetName) (place : Place) (e : Expression) (accesses : Accesses) (operand : TypedCode × Accesses) (origin : ElementCode)
      → resolved_expression names accesses e ≡ Ok operand → element_with_set set place operand.0 ≡ Ok origin → IsElement e origin
  origin_agrees set place e accesses operand origin is of = with_set set place e operand.0 origin (agrees e accesses operand is) of

-- THE MEMBERS of a set, each in the slot
module _ (mesh : MeshLists) (globals : Environment) (names : Names) (elements : ElementBindings) (n limit : ℕ) (name : List ℕ) (body : Body) (codes : List StatementCode)
    (each : (member : Elem) (slots : Slots) → Fits names globals elements slots n → length slots ≡ limit
    → WalkAgrees (n + 1) (slice_set slots n (Some member)) (body_accesses mesh globals ((name, Some member) ∷ elements) body) (body_visits mesh ((name, Some member) ∷ elements) body)
    (code_walk mesh codes (slice_set slots n (Some member)))) where
  member_agrees : (member : Elem) (slots : Slots) → Fits names globals elements slots n → length slots ≡ limit
      → WalkAgrees n slots (body_accesses mesh globals ((name, Some member) ∷ elements) body) (1 + body_visits mesh ((name, Some member) ∷ elements) body)
      (and_then (record { accesses = []; visits = 1; slots = slice_set slots n (Some member) }) (code_walk mesh codes))
  member_agrees member slots fits long =
      let h = each member slots fits long in
      record { accesses_are = h.accesses_are; visits_are = ap (λ v. 1 + v) h.visits_are; same = same_later (omega arith) (same_set n slots (Some member)) h.same }

  members_agree : (xs : List Elem) (slots : Slots) → Fits names globals elements slots n → length slots ≡ limit
      → WalkAgrees n slots (flat_map (λ member. body_accesses mesh globals ((name, Some member) ∷ elements) body) xs)
      (sum_by (λ member. 1 + body_visits mesh ((name, Some member) ∷ elements) body) xs) (members_walk n (code_walk mesh codes) xs slots)
  members_agree [] slots fits long = one_walk n slots [] 0
  members_agree (x ∷ xs) slots fits long =
      let h = member_agrees x slots fits long in
      walk_at refl refl (sym (sum_by-cons (λ member. 1 + body_visits mesh ((name, Some member) ∷ elements) body) x xs))
      (walk_then (and_then (record { accesses = []; visits = 1; slots = slice_set slots n (Some x) }) (code_walk mesh codes)) (members_walk n (code_walk mesh codes) xs) h (members_agree xs _ (fits_later (omega arith) h.same fits) (h.same.long ∙ long)))

-- STATEMENTS
module _ (mesh : MeshLists) (globals : Environment) where
  record StatementAgrees (elements : ElementBindings) (slots : Slots) (n : ℕ) (s : Statement) (r : Resolved) : Type 0 where
    pub walked : WalkAgrees n slots (statement_accesses mesh globals elements s) (statement_visits mesh elements s) (statement_walk mesh r.0 slots)
    pub fits : Fits r.1 globals (elements_after mesh elements s) (statement_walk mesh r.0 slots).slots (length r.2.elements)

  pub record BodyAgrees (elements : ElementBindings) (slots : Slots) (n : ℕ) (done : List StatementCode) (body : Body) (r : Block) : Type 0 where
    pub new : List StatementCode
    pub appended : r.0 ≡ done ++ new
    pub walked : WalkAgrees n slots (body_accesses mesh globals elements body) (body_visits mesh elements body) (code_walk mesh new slots)

  -- the code is given by its walk
  agrees_at : {elements : ElementBindings} {slots : Slots} {n : ℕ} {s : Statement} (x r : Resolved) → x ≡ r → StatementAgrees elements slots n s x → StatementAgrees elements slots n s r
  agrees_at {elements} {slots} {n} {s} x r is h = subst (StatementAgrees elements slots n s) is h

  made : {elements : ElementBindings} {slots : Slots} {n : ℕ} {s : Statement} (x : Resolved) (walk : Walk) → statement_walk mesh x.0 slots ≡ walk
      → WalkAgrees n slots (statement_accesses mesh globals elements s) (statement_visits mesh elements s) walk
      → Fits x.1 globals (elements_after mesh elements s) walk.slots (length x.2.elements) → StatementAgrees elements slots n s x
  made {elements} {slots} {n} {s} x walk is h g = record {
    walked = walk_at is refl refl h;
    fits = subst (λ (walk : Walk). Fits x.1 globals (elements_after mesh elements s) walk.slots (length x.2.elements)) (sym is) g;
  }

  -- a block is the whole of its code
  pub block_walk : {elements : ElementBindings} {slots : Slots} {n : ℕ} {body : Body} {r : Block} → BodyAgrees elements slots n [] body r
      → WalkAgrees n slots (body_accesses mesh globals elements body) (body_visits mesh elements body) (code_walk mesh r.0 slots)
  block_walk {slots = slots} h = walk_at (ap (λ codes. code_walk mesh codes slots) h.appended) refl refl h.walked

  access_is : (mode : Mode) (field : ℕ) (kind : Kind) (x : Option Elem) → access_at mode (Some (FieldName field kind)) (Some x) ≡ at_element mode field x
  access_is mode field kind None = refl
  access_is mode field kind (Some x) = refl

  members_are : (set : Elem → List Elem) (x : Option Elem) → members_at set (Some x) ≡ over_nil set x
  members_are set None = refl
  members_are set (Some x) = refl

  -- the number of slots after the steps is within the slots
  within : {n : ℕ} (x r : Resolved) → x ≡ r → length r.2.elements ≤ n → length x.2.elements ≤ n
  within {n} x r is l = subst (λ (r : Resolved). length r.2.elements ≤ n) (sym is) l

  var_agrees : (names : Names) (frame : Frame) (elements : ElementBindings) (slots : Slots) (place : Place) (name : List ℕ) (at : Place) (init : Expression) (r : Resolved)
      → Fits names globals elements slots (length frame.elements) → VarSteps names frame name init r → StatementAgrees elements slots (length frame.elements) (Var place name at init) r
  var_agrees names frame elements slots place name at init r fits x =
      let g = number_agrees mesh globals fits init frame.accesses x.value x.value_is in
      agrees_at (code.Var frame.numbers x.value.0, names ++ number_name name frame ∷ [], with_number (with_accesses x.value.1 frame)) r x.result
      (made _ _ (walk_var mesh slots frame.numbers x.value.0)
      (walk_at refl (sym g.0) (ap (λ n. 1 + n) (sym g.1)) (one_walk (length frame.elements) slots (number_accesses mesh slots x.value.0) (1 + number_visits x.value.0)))
      (fits_number name frame.numbers fits))

  val_agrees : (names : Names) (frame : Frame) (elements : ElementBindings) (slots : Slots) (place : Place) (name : List ℕ) (at : Place) (init : Expression) (r : Resolved)
      → Fits names globals elements slots (length frame.elements) → length r.2.elements ≤ length slots → ValSteps names frame name init r
      → StatementAgrees elements slots (length frame.elements) (Val place name at init) r
  val_agrees names frame elements slots place name at init r fits l x =
      let g = element_agrees mesh globals fits init frame.accesses x.value x.value_is in
      let whole : Resolved = (code.Val (length frame.elements) x.value.0.1, names ++ element_name name x.value.0.0 frame ∷ [], with_element x.value.0.0 (with_accesses x.value.1 frame)) in
      let count : length (frame.elements ++ x.value.0.0 ∷ []) ≡ length frame.elements + 1 = length-append frame.elements (x.value.0.0 ∷ []) in
      let small : length frame.elements < length slots = omega (arith, count, within whole r x.result l) in
      let element : Option Elem = element_of mesh slots x.value.0.1 in
      agrees_at whole r x.result
      (made whole _ (walk_val mesh slots (length frame.elements) x.value.0.1)
      (record { accesses_are = sym g.1; visits_are = ap (λ n. 1 + n) (sym g.2); same = same_set (length frame.elements) slots element })
      (subst (λ n. Fits whole.1 globals (with_binding name (element_value mesh elements init) elements) (slice_set slots (length frame.elements) element) n) (sym count)
      (subst (λ value. Fits whole.1 globals (with_binding name value elements) (slice_set slots (length frame.elements) element) (length frame.elements + 1)) (sym g.0)
      (fits_element name x.value.0.0 element x.new small fits))))

  field_agrees : (names : Names) (frame : Frame) (elements : ElementBindings) (slots : Slots) (place : Place) (name : List ℕ) (how : How) (target value : Expression) (r : Resolved)
      → Fits names globals elements slots (length frame.elements) → FieldSteps names frame place name how target value r
      → StatementAgrees elements slots (length frame.elements) (Assign place name (Some target) how value) r
  field_agrees names frame elements slots place name how target value r fits x =
      let g = number_agrees mesh globals fits value x.later x.new_value x.value_is in
      let h = target_agrees mesh globals fits x.kind place target frame.accesses x.operand x.at_element x.operand_is x.element_is in
      let access : access_at (mode_by how) (binding_of globals name) (element_value mesh elements target) ≡ at_element (mode_by how) x.field (element_of mesh slots x.at_element) =
      ap (λ global. access_at (mode_by how) global (element_value mesh elements target)) (fits.knows.is_field name x.field x.kind x.name_is)
      ∙ ap (access_at (mode_by how) (Some (FieldName x.field x.kind))) h.0 ∙ access_is (mode_by how) x.field x.kind (element_of mesh slots x.at_element) in
      let accesses : statement_accesses mesh globals elements (Assign place name (Some target) how value)
      ≡ number_accesses mesh slots x.new_value.0 ++ at_element (mode_by how) x.field (element_of mesh slots x.at_element) =
      ap (λ more. (accesses_of mesh globals elements value ++ more) ++ access_at (mode_by how) (binding_of globals name) (element_value mesh elements target)) h.1
      ∙ ap (λ first. first ++ access_at (mode_by how) (binding_of globals name) (element_value mesh elements target)) (append-nil (accesses_of mesh globals elements value))
      ∙ ap (λ more. accesses_of mesh globals elements value ++ more) access
      ∙ ap (λ first. first ++ at_element (mode_by how) x.field (element_of mesh slots x.at_element)) g.0 in
      agrees_at (code.Field place x.field how x.at_element x.new_value.0, names, with_accesses x.new_value.1 frame) r x.result
      (made _ _ (walk_field mesh slots place x.field how x.at_element x.new_value.0)
      (record { accesses_are = sym accesses; visits_are = omega (arith, g.1, h.2); same = same_itself (length frame.elements) slots }) fits)

  name_agrees : (names : Names) (frame : Frame) (elements : ElementBindings) (slots : Slots) (place : Place) (name : List ℕ) (how : How) (value : Expression) (r : Resolved)
      → Fits names globals elements slots (length frame.elements) → NameSteps names frame how value r
      → StatementAgrees elements slots (length frame.elements) (Assign place name None how value) r
  name_agrees names frame elements slots place name how value r fits (ScalarSteps scalar later operand is result) =
      let g = number_agrees mesh globals fits value later operand is in
      agrees_at (code.Scalar scalar how operand.0, names, with_accesses operand.1 frame) r result
      (made _ _ (walk_scalar mesh slots scalar how operand.0)
      (record { accesses_are = sym g.0; visits_are = omega (arith, g.1); same = same_itself (length frame.elements) slots }) fits)
  name_agrees names frame elements slots place name how value r fits (LocalSteps slot operand is result) =
      let g = number_agrees mesh globals fits value frame.accesses operand is in
      agrees_at (code.Local slot how operand.0, names, with_accesses operand.1 frame) r result
      (made _ _ (walk_local mesh slots slot how operand.0)
      (record { accesses_are = sym g.0; visits_are = omega (arith, g.1); same = same_itself (length frame.elements) slots }) fits)

  -- the test of an `if` or a `while`
  test_agrees : {names : Names} {elements : ElementBindings} {slots : Slots} {n : ℕ} → Fits names globals elements slots n → (test : Expression) (accesses : Accesses)
      (condition : TruthCode × Accesses) → resolved_truth names accesses test ≡ Ok condition
      → WalkAgrees n slots (accesses_of mesh globals elements test) (1 + expression_visits test)
      (record { accesses = truth_accesses mesh slots condition.0; visits = 1 + truth_visits condition.0; slots = slots })
  test_agrees {slots = slots} {n = n} fits test accesses condition is =
      let g = truth_agrees mesh globals fits test accesses condition is in
      record { accesses_are = sym g.0; visits_are = omega (arith, g.1); same = same_itself n slots }

  for_agrees : (names : Names) (frame : Frame) (elements : ElementBindings) (slots : Slots) (place : Place) (name : List ℕ) (at : Place) (set : SetName) (set_at : Place) (arg : Expression)
      (body : Body) (r : Resolved) → Fits names globals elements slots (length frame.elements) → (x : ForSteps names frame name set set_at arg body r)
      → (element_value mesh elements arg ≡ Some (element_of mesh slots x.origin)) × (accesses_of mesh globals elements arg ≡ []) × (expression_visits arg ≡ element_visits x.origin)
      → length frame.elements ≤ length x.block.1.elements
      → WalkAgrees (length frame.elements) slots
      (flat_map (λ member. body_accesses mesh globals ((name, Some member) ∷ elements) body) (over_nil (members mesh set) (element_of mesh slots x.origin)))
      (sum_by (λ member. 1 + body_visits mesh ((name, Some member) ∷ elements) body) (over_nil (members mesh set) (element_of mesh slots x.origin)))
      (members_walk (length frame.elements) (code_walk mesh x.block.0) (over_nil (members mesh set) (element_of mesh slots x.origin)) slots)
      → StatementAgrees elements slots (length frame.elements) (For place name at set set_at arg body) r
  for_agrees names frame elements slots place name at set set_at arg body r fits x h early w =
      let n : ℕ = length frame.elements in
      let each : Elem → List Access = λ member. body_accesses mesh globals ((name, Some member) ∷ elements) body in
      let visits : Elem → ℕ = λ member. 1 + body_visits mesh ((name, Some member) ∷ elements) body in
      let xs : List Elem = over_nil (members mesh set) (element_of mesh slots x.origin) in
      let same : members_at (members mesh set) (element_value mesh elements arg) ≡ xs =
      ap (members_at (members mesh set)) h.0 ∙ members_are (members mesh set) (element_of mesh slots x.origin) in
      let whole : Resolved = (code.For n set set_at x.origin x.block.0, names, x.block.1) in
      let all = walk_then (record { accesses = []; visits = 1 + element_visits x.origin; slots = slots }) (members_walk n (code_walk mesh x.block.0) xs)
      (one_walk n slots [] (1 + element_visits x.origin)) w in
      let accesses : flat_map each xs ≡ statement_accesses mesh globals elements (For place name at set set_at arg body) =
      sym (ap (λ first. first ++ flat_map each (members_at (members mesh set) (element_value mesh elements arg))) h.1 ∙ ap (flat_map each) same) in
      let count : 1 + element_visits x.origin + sum_by visits xs ≡ statement_visits mesh elements (For place name at set set_at arg body) =
      sym (ap (λ m. 1 + m + sum_by visits (members_at (members mesh set) (element_value mesh elements arg))) h.2 ∙ ap (λ xs. 1 + element_visits x.origin + sum_by visits xs) same) in
      agrees_at whole r x.result
      (made whole _ (walk_for mesh slots n set set_at x.origin x.block.0) (walk_at refl accesses count all) (fits_later early all.same fits))

  mutual
    statement_agrees : (names : Names) (frame : Frame) (elements : ElementBindings) (slots : Slots) (s : Statement) (r : Resolved)
        → Fits names globals elements slots (length frame.elements) → length r.2.elements ≤ length slots → resolved_statement names frame s ≡ Ok r
        → StatementAgrees elements slots (length frame.elements) s r
    statement_agrees names frame elements slots (Var place name at init) r fits l e = var_agrees names frame elements slots place name at init r fits (var_steps names frame name at init r e)
    statement_agrees names frame elements slots (Val place name at init) r fits l e = val_agrees names frame elements slots place name at init r fits l (val_steps names frame name at init r e)
    statement_agrees names frame elements slots (Assign place name (Some target) how value) r fits l e =
        field_agrees names frame elements slots place name how target value r fits (field_steps names frame place name how target value r e)
    statement_agrees names frame elements slots (Assign place name None how value) r fits l e =
        name_agrees names frame elements slots place name how value r fits (name_steps names frame place name how value r e)
    statement_agrees names frame elements slots (If place test first second has_else) r fits l e =
        let x = if_steps names frame place test first second has_else r e in
        let n : ℕ = length frame.elements in
        let whole : Resolved = (code.If x.condition.0 x.block.0 x.other.0, names, x.other.1) in
        let m : length whole.2.elements ≤ length slots = within whole r x.result l in
        let early : n ≤ length x.block.1.elements = body_grows names (with_accesses x.condition.1 frame) [] first x.block x.block_is in
        let later : length x.block.1.elements ≤ length x.other.1.elements = body_grows names x.block.1 [] second x.other x.other_is in
        let t = test_agrees fits test frame.accesses x.condition x.condition_is in
        let f = block_walk (body_agrees names (with_accesses x.condition.1 frame) elements slots [] first x.block fits (omega (arith, later, m)) x.block_is) in
        let tf = walk_then (record { accesses = truth_accesses mesh slots x.condition.0; visits = 1 + truth_visits x.condition.0; slots = slots }) (code_walk mesh x.block.0) t f in
        let g = block_walk (body_agrees names x.block.1 elements (code_walk mesh x.block.0 slots).slots [] second x.other (fits_later early f.same fits)
        (omega (arith, m, f.same.long)) x.other_is) in
        let all = walk_then (and_then (record { accesses = truth_accesses mesh slots x.condition.0; visits = 1 + truth_visits x.condition.0; slots = slots }) (code_walk mesh x.block.0))
        (code_walk mesh x.other.0) tf (walk_below early g) in
        agrees_at whole r x.result
        (made whole _ (walk_if mesh slots x.condition.0 x.block.0 x.other.0) all (fits_later (omega (arith, early, later)) all.same fits))
    statement_agrees names frame elements slots (While place test body) r fits l e =
        let x = while_steps names frame place test body r e in
        let whole : Resolved = (code.While place x.condition.0 x.block.0, names, x.block.1) in
        let m : length whole.2.elements ≤ length slots = within whole r x.result l in
        let early : length frame.elements ≤ length x.block.1.elements = body_grows names (with_accesses x.condition.1 frame) [] body x.block x.block_is in
        let t = test_agrees fits test frame.accesses x.condition x.condition_is in
        let f = block_walk (body_agrees names (with_accesses x.condition.1 frame) elements slots [] body x.block fits m x.block_is) in
        let all = walk_then (record { accesses = truth_accesses mesh slots x.condition.0; visits = 1 + truth_visits x.condition.0; slots = slots }) (code_walk mesh x.block.0) t f in
        agrees_at whole r x.result (made whole _ (walk_while mesh slots place x.condition.0 x.block.0) all (fits_later early all.same fits))
    statement_agrees names frame elements slots (For place name at set set_at arg body) r fits l e =
        let x = for_steps names frame place name at set set_at arg body r e in
        let n : ℕ = length frame.elements in
        let inner : Frame = with_element (kind_of set) (with_accesses x.operand.1 frame) in
        let inner_names : Names = names ++ element_name name (kind_of set) frame ∷ [] in
        let whole : Resolved = (code.For n set set_at x.origin x.block.0, names, x.block.1) in
        let m : length whole.2.elements ≤ length slots = within whole r x.result l in
        let count : length inner.elements ≡ n + 1 = length-append frame.elements (kind_of set ∷ []) in
        let early : length inner.elements ≤ length x.block.1.elements = body_grows inner_names inner [] body x.block x.block_is in
        let h = origin_agrees mesh globals fits set set_at arg frame.accesses x.operand x.origin x.operand_is x.origin_is in
        let each : (member : Elem) (slots' : Slots) → Fits names globals elements slots' n → length slots' ≡ length slots
        → WalkAgrees (n + 1) (slice_set slots' n (Some member)) (body_accesses mesh globals ((name, Some member) ∷ elements) body) (body_visits mesh ((name, Some member) ∷ elements) body)
        (code_walk mesh x.block.0 (slice_set slots' n (Some member))) =
        λ member slots' fits' long.
        walk_below (omega (arith, count))
        (block_walk (body_agrees inner_names inner ((name, Some member) ∷ elements) (slice_set slots' n (Some member)) [] body x.block
        (subst (λ k. Fits inner_names globals ((name, Some member) ∷ elements) (slice_set slots' n (Some member)) k) (sym count)
        (fits_element name (kind_of set) (Some member) x.new (omega (arith, count, early, m, long)) fits'))
        (omega (arith, m, long, length-set slots' n (Some member))) x.block_is)) in
        for_agrees names frame elements slots place name at set set_at arg body r fits x h (omega (arith, count, early))
        (members_agree mesh globals names elements n (length slots) name body x.block.0 each (over_nil (members mesh set) (element_of mesh slots x.origin)) slots fits refl)

    pub body_agrees : (names : Names) (frame : Frame) (elements : ElementBindings) (slots : Slots) (done : List StatementCode) (body : Body) (r : Block)
        → Fits names globals elements slots (length frame.elements) → length r.1.elements ≤ length slots → resolved_body names frame done body ≡ Ok r
        → BodyAgrees elements slots (length frame.elements) done body r
    body_agrees names frame elements slots done no_statement r fits l e = record {
      new = [];
      appended = sym (ap (λ (r : Block). r.0) (ok_is (done, frame) r e)) ∙ sym (append-nil done);
      walked = one_walk (length frame.elements) slots [] 0;
    }
    body_agrees names frame elements slots done (statement s rest) r fits l e =
        let x = body_steps names frame done s rest r e in
        let early : length frame.elements ≤ length x.first.2.elements = statement_grows names frame s x.first x.first_is in
        let later : length x.first.2.elements ≤ length r.1.elements = body_grows x.first.1 x.first.2 (done ++ x.first.0 ∷ []) rest r x.rest_is in
        let h = statement_agrees names frame elements slots s x.first fits (omega (arith, later, l)) x.first_is in
        let g = body_agrees x.first.1 x.first.2 (elements_after mesh elements s) (statement_walk mesh x.first.0 slots).slots (done ++ x.first.0 ∷ []) rest r h.fits
        (omega (arith, l, h.walked.same.long)) x.rest_is in
        record {
          new = x.first.0 ∷ g.new;
          appended = g.appended ∙ append_assoc done (x.first.0 ∷ []) g.new;
          walked = walk_then (statement_walk mesh x.first.0 slots) (code_walk mesh g.new) h.walked (walk_below early g.walked);
        }
