-- Operands of operators and sets, as the meaning tests them.
use Rattle.std.proofs.Common.{◌≡◌, ◌≢◌, ◌⊎◌, ℕ, Bool, true, false, List, refl, sym, ap, ◌∙◌, inl, inr}
use Rattle.std.proofs.lemmas.Bool.{ltb-true, and_parts}
use Rattle.std.specs.Option.{option_and_then}
use Rattle.std.specs.Prelude.{Option, Some, None, ℤ, Err, is_some, nat_lt, ◌&&◌, ◌||◌}
use Rattle.liszt_base.specs.Kinds.{is_kind, has_set}
use Rattle.liszt_base.specs.MeshLists.{MeshLists}
use Rattle.liszt_base.specs.declared.elements.Elem.{Elem}
use Rattle.liszt_base.specs.declared.elements.Kind.{Kind}
use Rattle.liszt_base.specs.declared.elements.Kind.TheVariants.{Vertex, Edge, Face, Cell}
use Rattle.liszt_base.specs.declared.elements.SetName.{SetName}
use Rattle.mesh_topology.specs.Elements.{count}
use Rattle.topo_operators.specs.Operands.{IsNilOrElement, AreTowardsOperands, IsSetOperand}
use Rattle.liszt_base.specs.declared.accesses.Spot.{Spot}
use Rattle.phase_types.specs.Environments.{is_built_in}
use Rattle.resolved_code.specs.declared.expressions.ElementCode.{ElementCode}
use Rattle.topo_operators.specs.Operators.{members}
use Rattle.code_eval.specs.Arithmetic.{built_in_value}
use Rattle.code_eval.specs.Executions.{Activation, Execution, Done, pure, LeadsTo, CanRun}
use Rattle.code_eval.specs.Meaning.{is_operand, are_towards_operands, given, meant, element_value, element_execution, set_members, visit_members, built_in_read, read_value, spot_read}
use Rattle.code_eval.specs.Stops.{NoMeaning}
use Rattle.code_eval.specs.Stores.{StoreView, Admits}
use Rattle.code_eval.proofs.LeadingLemmas.{at_once}

pub given_if : {A : Type 0} (b : Bool) (value : A) → is_some (given b value) ≡ true → b ≡ true
given_if true value e = refl
given_if false value e = absurd cc

pub given_is : {A : Type 0} (b : Bool) (value : A) → is_some (given b value) ≡ true → given b value ≡ Some value
given_is true value e = refl
given_is false value e = absurd cc

same_kind : (a b : Kind) → is_kind a b ≡ true → a ≡ b
same_kind Vertex Vertex e = refl
same_kind Edge Edge e = refl
same_kind Face Face e = refl
same_kind Cell Cell e = refl
same_kind _ _ e = absurd cc

pub operand_is : (mesh : MeshLists) (kind : Kind) (x : Option Elem) → is_operand mesh kind x ≡ true → IsNilOrElement mesh kind x
operand_is mesh kind None e = tt
operand_is mesh kind (Some x) e = let p = and_parts _ _ e in (same_kind x.kind kind p.0, ltb-true x.id (count mesh kind) p.1)

one_of : (a b : Bool) → (a || b) ≡ true → (a ≡ true) ⊎ (b ≡ true)
one_of true b e = inl refl
one_of false b e = inr e

pub towards_operands_are : (mesh : MeshLists) (x to : Option Elem) → are_towards_operands mesh x to ≡ true → AreTowardsOperands mesh x to
towards_operands_are mesh x to e = elim (one_of _ _ e) [
  | inl h ↦ let p = and_parts _ _ h in inl (operand_is mesh Edge x p.0, operand_is mesh Vertex to p.1)
  | inr h ↦ let p = and_parts _ _ h in inr (operand_is mesh Face x p.0, operand_is mesh Cell to p.1)
]

pub set_operand_is : (mesh : MeshLists) (set : SetName) (x : Elem) → (nat_lt x.id (count mesh x.kind) && has_set x.kind set) ≡ true → IsSetOperand mesh set x
set_operand_is mesh set x e = let p = and_parts _ _ e in record { in_range = ltb-true x.id (count mesh x.kind) p.0; kind_has_set = p.1 }

-- the operands of an operator whose result has a value
pub some_operand : {A B : Type 0} (f : A → Option B) (o : Option A) → is_some (option_and_then f o) ≡ true → is_some o ≡ true
some_operand f (Some a) e = refl
some_operand f None e = absurd cc

-- ELEMENTS that an execution can compute, and gives
meant_if : (o : Option (Option Elem)) (view : Spot → ℤ) (a : Activation) → (meant o view a).answer ≢ Err NoMeaning → is_some o ≡ true
meant_if (Some x) view a h = refl
meant_if None view a h = absurd (h refl)

pub element_can : (mesh : MeshLists) (e : ElementCode) {a : Activation} {s : StoreView} {elements : List (Option Elem)} → elements ≡ a.elements
    → CanRun (element_execution mesh e) a s → is_some (element_value mesh elements e) ≡ true
element_can mesh e {a = a} is h = rw is (meant_if (element_value mesh a.elements e) h.view a h.has_meaning)

pub element_given : (mesh : MeshLists) (e : ElementCode) {a : Activation} {s : StoreView} {elements : List (Option Elem)} {x : Option Elem} → elements ≡ a.elements
    → element_value mesh elements e ≡ Some x → LeadsTo (element_execution mesh e) a s (pure x) a s
element_given mesh e {a = a} is value = at_once (λ view. ap (λ o. meant o view a) (ap (λ elements. element_value mesh elements e) (sym is) ∙ value))

-- MEMBERS of a set that can be visited
members_if : (slot : ℕ) (body : Execution Done) (b : Bool) (xs : List Elem) (view : Spot → ℤ) (a : Activation) → (visit_members slot body (given b xs) view a).answer ≢ Err NoMeaning → b ≡ true
members_if slot body true xs view a h = refl
members_if slot body false xs view a h = absurd (h refl)

pub set_can : (mesh : MeshLists) (slot : ℕ) (body : Execution Done) (set : SetName) (x : Elem) {a : Activation} {s : StoreView}
    → CanRun (visit_members slot body (set_members mesh set x)) a s → (nat_lt x.id (count mesh x.kind) && has_set x.kind set) ≡ true
set_can mesh slot body set x {a = a} h = members_if slot body (nat_lt x.id (count mesh x.kind) && has_set x.kind set) (members mesh set x) h.view a h.has_meaning

-- VALUES of built-in fields that can be read
read_if : (spot : Spot) (o : Option ℤ) (view : Spot → ℤ) (a : Activation) → (built_in_read spot o view a).answer ≢ Err NoMeaning → is_some o ≡ true
read_if spot (Some n) view a h = refl
read_if spot None view a h = absurd (h refl)

pub built_in_can : (mesh : MeshLists) (spot : Spot) {a : Activation} {s : StoreView} → is_built_in spot.field ≡ true → CanRun (spot_read mesh spot) a s
    → is_some (built_in_value mesh spot) ≡ true
built_in_can mesh spot {a = a} b h = read_if spot (built_in_value mesh spot) h.view a (rw b at h.has_meaning)

pub can_load : (mesh : MeshLists) (spot : Spot) {a : Activation} {s : StoreView} → is_built_in spot.field ≡ false → CanRun (spot_read mesh spot) a s
    → s.loadable spot ≡ true
can_load mesh spot {a = a} {s = s} b h =
    let admits : Admits s (read_value spot (h.view spot) h.view a).acts = rw b at h.admits in
    (admits.all.0.1 b).0

pub set_is : (mesh : MeshLists) (slot : ℕ) (body : Execution Done) (set : SetName) (x : Elem) {a : Activation} {s : StoreView}
    → CanRun (visit_members slot body (set_members mesh set x)) a s → set_members mesh set x ≡ Some (members mesh set x)
set_is mesh slot body set x h = ap (λ b. given b (members mesh set x)) (set_can mesh slot body set x h)
