-- The kinds of resolved element expressions.
use Rattle.std.proofs.Common.{◌≡◌, ℕ, suc, zero, ◌<◌, Bool, true, false, cond, if◌then◌else◌, List, [], ◌∷◌, length, refl, sym, ap, subst, ◌∙◌, inl, inr, arith}
use Rattle.std.specs.Prelude.{Option, Some, None, is_some, slice_get, slice_index_or}
use Rattle.liszt_base.specs.MeshLists.{MeshLists}
use Rattle.liszt_base.specs.declared.elements.Elem.{Elem}
use Rattle.liszt_base.specs.declared.elements.Kind.{Kind}
use Rattle.liszt_base.specs.declared.elements.Kind.TheVariants.{Vertex, Edge, Face, Cell}
use Rattle.resolved_code.specs.declared.expressions.ElementCode.{ElementCode, fold-roll-ElementCode}
use Rattle.resolved_code.specs.declared.expressions.ElementCode.TheOpen.{ElementCode-F}
use Rattle.resolved_code.specs.declared.expressions.ElementCode.TheVariants as element
use Rattle.resolved_code.specs.declared.expressions.ElementFun.{ElementFun}
use Rattle.resolved_code.specs.declared.expressions.ElementFun.TheVariants.{Head, Tail, Inside, Outside, Flip}
use Rattle.topo_operators.specs.Operands.{AreTowardsOperands, IsNilOrElement}
use Rattle.topo_operators.specs.Operators.{unflipped, reversed, head_of, tail_of, inside_of, outside_of, flip, same, points_to, towards}
use Rattle.topo_operators.proofs.ResultLemmas.{nil_or_result, end_of, side_of}
use Rattle.stencil_infer.specs.Internal.CodeAccesses.{Slots, in_slot, called, element_of, call_kind, towards_kind, kind_layer, kind_of, SlotsFit}
use Rattle.stencil_infer.proofs.CodeClauseLemmas.{element_slot}

pub kind_slot : (kinds : List Kind) (slot : ℕ) → kind_of kinds (element.Slot slot) ≡ slice_get kinds slot
kind_slot kinds slot = ap (kind_of kinds) (sym (element.rolls-Slot slot)) ∙ fold-roll-ElementCode (Option Kind) (kind_layer kinds) (ElementCode-F.Slot slot)

pub kind_call : (kinds : List Kind) (fun : ElementFun) (arg : ElementCode) → kind_of kinds (element.Call fun arg) ≡ call_kind fun (kind_of kinds arg)
kind_call kinds fun arg = ap (kind_of kinds) (sym (element.rolls-Call fun arg)) ∙ fold-roll-ElementCode (Option Kind) (kind_layer kinds) (ElementCode-F.Call fun arg)

pub kind_towards : (kinds : List Kind) (arg to : ElementCode) → kind_of kinds (element.Towards arg to) ≡ towards_kind (kind_of kinds arg) (kind_of kinds to)
kind_towards kinds arg to = ap (kind_of kinds) (sym (element.rolls-Towards arg to)) ∙ fold-roll-ElementCode (Option Kind) (kind_layer kinds) (ElementCode-F.Towards arg to)

-- SLOTS
there : (kinds : List Kind) (slot : ℕ) → is_some (slice_get kinds slot) ≡ true → slot < length kinds
there [] slot e = absurd cc
there (k ∷ kinds) zero e = omega arith
there (k ∷ kinds) (suc slot) e = omega (arith, there kinds slot e)

pub slot_within : (mesh : MeshLists) (kinds : List Kind) (slots : Slots) (slot : ℕ) (code : ElementCode) → code ≡ element.Slot slot → is_some (kind_of kinds code) ≡ true
    → SlotsFit mesh kinds slots → slot < length slots
slot_within mesh kinds slots slot code is e fits =
    let known : is_some (slice_get kinds slot) ≡ true = ap is_some (sym (ap (kind_of kinds) is ∙ kind_slot kinds slot)) ∙ e in
    omega (arith, there kinds slot known, fits.long)

read_slot : (slots : Slots) (slot : ℕ) → slot < length slots → slice_index_or slots slot None ≡ in_slot slots slot
read_slot [] slot l = absurd (omega (arith, l))
read_slot (x ∷ slots) zero l = refl
read_slot (x ∷ slots) (suc slot) l = read_slot slots slot (omega (arith, l))

pub slot_element : (mesh : MeshLists) (kinds : List Kind) (slots : Slots) (slot : ℕ) (code : ElementCode) → code ≡ element.Slot slot → is_some (kind_of kinds code) ≡ true
    → SlotsFit mesh kinds slots → slice_index_or slots slot None ≡ element_of mesh slots code
slot_element mesh kinds slots slot code is e fits =
    read_slot slots slot (slot_within mesh kinds slots slot code is e fits) ∙ sym (ap (element_of mesh slots) is ∙ element_slot mesh slots slot)

pub slot_kind : (mesh : MeshLists) (kinds : List Kind) (slots : Slots) (slot : ℕ) (code : ElementCode) → code ≡ element.Slot slot → is_some (kind_of kinds code) ≡ true
    → SlotsFit mesh kinds slots → (kind : Kind) → kind_of kinds code ≡ Some kind → IsNilOrElement mesh kind (slice_index_or slots slot None)
slot_kind mesh kinds slots slot code is e fits kind k =
    subst (IsNilOrElement mesh kind) (sym (read_slot slots slot (slot_within mesh kinds slots slot code is e fits)))
    (fits.each slot kind (sym (ap (kind_of kinds) is ∙ kind_slot kinds slot) ∙ k))

-- OPERATORS give nil or an element of their kind
flip_fits : (mesh : MeshLists) (kind : Kind) (x : Option Elem) → IsNilOrElement mesh kind x → IsNilOrElement mesh kind (flip x)
flip_fits mesh kind None h = tt
flip_fits mesh kind (Some x) h = h

towards_fits : (mesh : MeshLists) (kind : Kind) (x to : Option Elem) → IsNilOrElement mesh kind x → IsNilOrElement mesh kind (towards mesh x to)
towards_fits mesh kind None to h = tt
towards_fits mesh kind (Some x) None h = tt
towards_fits mesh kind (Some x) (Some to) h =
    go (same (points_to mesh (unflipped x.kind x.id)) (Some to)) (same (points_to mesh (reversed (unflipped x.kind x.id))) (Some to)) where
      go : (a b : Bool) → IsNilOrElement mesh kind (cond a (Some (unflipped x.kind x.id)) (cond b (Some (reversed (unflipped x.kind x.id))) None))
      go true b = h
      go false true = h
      go false false = tt

same_kind : (a b : Kind) → Some a ≡ Some b → a ≡ b
same_kind a b e = cc

called_fits : (mesh : MeshLists) (fun : ElementFun) (k kind : Kind) (x : Option Elem) → call_kind fun (Some k) ≡ Some kind → IsNilOrElement mesh k x
    → IsNilOrElement mesh kind (called mesh fun x)
called_fits mesh Head Vertex kind x e h = absurd cc
called_fits mesh Head Edge kind x e h = subst (λ kind. IsNilOrElement mesh kind (called mesh Head x)) (same_kind Vertex kind e) (nil_or_result mesh Edge Vertex (head_of mesh) (λ x. end_of mesh x (if x.flipped then 0 else 1)) x h)
called_fits mesh Head Face kind x e h = absurd cc
called_fits mesh Head Cell kind x e h = absurd cc
called_fits mesh Tail Vertex kind x e h = absurd cc
called_fits mesh Tail Edge kind x e h = subst (λ kind. IsNilOrElement mesh kind (called mesh Tail x)) (same_kind Vertex kind e) (nil_or_result mesh Edge Vertex (tail_of mesh) (λ x. end_of mesh x (if x.flipped then 1 else 0)) x h)
called_fits mesh Tail Face kind x e h = absurd cc
called_fits mesh Tail Cell kind x e h = absurd cc
called_fits mesh Inside Vertex kind x e h = absurd cc
called_fits mesh Inside Edge kind x e h = absurd cc
called_fits mesh Inside Face kind x e h = subst (λ kind. IsNilOrElement mesh kind (called mesh Inside x)) (same_kind Cell kind e) (nil_or_result mesh Face Cell (inside_of mesh) (λ x is. side_of mesh x (if x.flipped then 1 else 0)) x h)
called_fits mesh Inside Cell kind x e h = absurd cc
called_fits mesh Outside Vertex kind x e h = absurd cc
called_fits mesh Outside Edge kind x e h = absurd cc
called_fits mesh Outside Face kind x e h = subst (λ kind. IsNilOrElement mesh kind (called mesh Outside x)) (same_kind Cell kind e) (nil_or_result mesh Face Cell (outside_of mesh) (λ x is. side_of mesh x (if x.flipped then 0 else 1)) x h)
called_fits mesh Outside Cell kind x e h = absurd cc
called_fits mesh Flip Vertex kind x e h = absurd cc
called_fits mesh Flip Edge kind x e h = subst (λ kind. IsNilOrElement mesh kind (called mesh Flip x)) (same_kind Edge kind e) (flip_fits mesh Edge x h)
called_fits mesh Flip Face kind x e h = subst (λ kind. IsNilOrElement mesh kind (called mesh Flip x)) (same_kind Face kind e) (flip_fits mesh Face x h)
called_fits mesh Flip Cell kind x e h = absurd cc

no_kind : (fun : ElementFun) (kind : Kind) → call_kind fun None ≡ Some kind → ⊥
no_kind Head kind g = cc
no_kind Tail kind g = cc
no_kind Inside kind g = cc
no_kind Outside kind g = cc
no_kind Flip kind g = cc

pub call_fits : (mesh : MeshLists) (kinds : List Kind) (fun : ElementFun) (code arg given : ElementCode) (x result : Option Elem) → code ≡ element.Call fun arg → given ≡ arg
    → ((kind : Kind) → kind_of kinds given ≡ Some kind → IsNilOrElement mesh kind x) → result ≡ called mesh fun x
    → (kind : Kind) → kind_of kinds code ≡ Some kind → IsNilOrElement mesh kind result
call_fits mesh kinds fun code arg given x result is same h e kind k =
    go (kind_of kinds given) refl (ap (call_kind fun) (ap (kind_of kinds) same) ∙ sym (ap (kind_of kinds) is ∙ kind_call kinds fun arg) ∙ k) where
      go : (found : Option Kind) → kind_of kinds given ≡ found → call_kind fun (kind_of kinds given) ≡ Some kind → IsNilOrElement mesh kind result
      go None f g = absurd (no_kind fun kind (ap (call_kind fun) (sym f) ∙ g))
      go (Some k') f g = subst (IsNilOrElement mesh kind) (sym e) (called_fits mesh fun k' kind x (ap (call_kind fun) (sym f) ∙ g) (h k' f))

-- `towards`
none_is : false ≡ true → ⊥
none_is e = cc

first_kind : (a b : Option Kind) (kind : Kind) → towards_kind a b ≡ Some kind → a ≡ Some kind
first_kind (Some Edge) (Some Vertex) kind e = e
first_kind (Some Face) (Some Cell) kind e = e
first_kind (Some Vertex) (Some Vertex) kind e = absurd cc
first_kind (Some Vertex) (Some Edge) kind e = absurd cc
first_kind (Some Vertex) (Some Face) kind e = absurd cc
first_kind (Some Vertex) (Some Cell) kind e = absurd cc
first_kind (Some Edge) (Some Edge) kind e = absurd cc
first_kind (Some Edge) (Some Face) kind e = absurd cc
first_kind (Some Edge) (Some Cell) kind e = absurd cc
first_kind (Some Face) (Some Vertex) kind e = absurd cc
first_kind (Some Face) (Some Edge) kind e = absurd cc
first_kind (Some Face) (Some Face) kind e = absurd cc
first_kind (Some Cell) (Some Vertex) kind e = absurd cc
first_kind (Some Cell) (Some Edge) kind e = absurd cc
first_kind (Some Cell) (Some Face) kind e = absurd cc
first_kind (Some Cell) (Some Cell) kind e = absurd cc
first_kind (Some Vertex) None kind e = absurd cc
first_kind (Some Edge) None kind e = absurd cc
first_kind (Some Face) None kind e = absurd cc
first_kind (Some Cell) None kind e = absurd cc
first_kind None b kind e = absurd cc

pub towards_operands : (mesh : MeshLists) (kinds : List Kind) (code arg to given other : ElementCode) (x y : Option Elem) → code ≡ element.Towards arg to → given ≡ arg → other ≡ to
    → is_some (kind_of kinds code) ≡ true → ((kind : Kind) → kind_of kinds given ≡ Some kind → IsNilOrElement mesh kind x)
    → ((kind : Kind) → kind_of kinds other ≡ Some kind → IsNilOrElement mesh kind y) → AreTowardsOperands mesh x y
towards_operands mesh kinds code arg to given other x y is same same' e h g =
    go (kind_of kinds given) (kind_of kinds other) refl refl
    (ap is_some (sym (ap (kind_of kinds) is ∙ kind_towards kinds arg to ∙ ap (towards_kind (kind_of kinds arg)) (sym (ap (kind_of kinds) same'))
    ∙ ap (λ kind. towards_kind kind (kind_of kinds other)) (sym (ap (kind_of kinds) same)))) ∙ e) where
      go : (k k' : Option Kind) → kind_of kinds given ≡ k → kind_of kinds other ≡ k' → is_some (towards_kind (kind_of kinds given) (kind_of kinds other)) ≡ true → AreTowardsOperands mesh x y
      go (Some Edge) (Some Vertex) f f' e = inl (h Edge f, g Vertex f')
      go (Some Face) (Some Cell) f f' e = inr (h Face f, g Cell f')
      go (Some Vertex) (Some Vertex) f f' e = absurd (none_is (sym (ap is_some (ap (λ k. towards_kind k (kind_of kinds other)) f ∙ ap (towards_kind (Some Vertex)) f')) ∙ e))
      go (Some Vertex) (Some Edge) f f' e = absurd (none_is (sym (ap is_some (ap (λ k. towards_kind k (kind_of kinds other)) f ∙ ap (towards_kind (Some Vertex)) f')) ∙ e))
      go (Some Vertex) (Some Face) f f' e = absurd (none_is (sym (ap is_some (ap (λ k. towards_kind k (kind_of kinds other)) f ∙ ap (towards_kind (Some Vertex)) f')) ∙ e))
      go (Some Vertex) (Some Cell) f f' e = absurd (none_is (sym (ap is_some (ap (λ k. towards_kind k (kind_of kinds other)) f ∙ ap (towards_kind (Some Vertex)) f')) ∙ e))
      go (Some Edge) (Some Edge) f f' e = absurd (none_is (sym (ap is_some (ap (λ k. towards_kind k (kind_of kinds other)) f ∙ ap (towards_kind (Some Edge)) f')) ∙ e))
      go (Some Edge) (Some Face) f f' e = absurd (none_is (sym (ap is_some (ap (λ k. towards_kind k (kind_of kinds other)) f ∙ ap (towards_kind (Some Edge)) f')) ∙ e))
      go (Some Edge) (Some Cell) f f' e = absurd (none_is (sym (ap is_some (ap (λ k. towards_kind k (kind_of kinds other)) f ∙ ap (towards_kind (Some Edge)) f')) ∙ e))
      go (Some Face) (Some Vertex) f f' e = absurd (none_is (sym (ap is_some (ap (λ k. towards_kind k (kind_of kinds other)) f ∙ ap (towards_kind (Some Face)) f')) ∙ e))
      go (Some Face) (Some Edge) f f' e = absurd (none_is (sym (ap is_some (ap (λ k. towards_kind k (kind_of kinds other)) f ∙ ap (towards_kind (Some Face)) f')) ∙ e))
      go (Some Face) (Some Face) f f' e = absurd (none_is (sym (ap is_some (ap (λ k. towards_kind k (kind_of kinds other)) f ∙ ap (towards_kind (Some Face)) f')) ∙ e))
      go (Some Cell) (Some Vertex) f f' e = absurd (none_is (sym (ap is_some (ap (λ k. towards_kind k (kind_of kinds other)) f ∙ ap (towards_kind (Some Cell)) f')) ∙ e))
      go (Some Cell) (Some Edge) f f' e = absurd (none_is (sym (ap is_some (ap (λ k. towards_kind k (kind_of kinds other)) f ∙ ap (towards_kind (Some Cell)) f')) ∙ e))
      go (Some Cell) (Some Face) f f' e = absurd (none_is (sym (ap is_some (ap (λ k. towards_kind k (kind_of kinds other)) f ∙ ap (towards_kind (Some Cell)) f')) ∙ e))
      go (Some Cell) (Some Cell) f f' e = absurd (none_is (sym (ap is_some (ap (λ k. towards_kind k (kind_of kinds other)) f ∙ ap (towards_kind (Some Cell)) f')) ∙ e))
      go (Some Vertex) None f f' e = absurd (none_is (sym (ap is_some (ap (λ k. towards_kind k (kind_of kinds other)) f ∙ ap (towards_kind (Some Vertex)) f')) ∙ e))
      go (Some Edge) None f f' e = absurd (none_is (sym (ap is_some (ap (λ k. towards_kind k (kind_of kinds other)) f ∙ ap (towards_kind (Some Edge)) f')) ∙ e))
      go (Some Face) None f f' e = absurd (none_is (sym (ap is_some (ap (λ k. towards_kind k (kind_of kinds other)) f ∙ ap (towards_kind (Some Face)) f')) ∙ e))
      go (Some Cell) None f f' e = absurd (none_is (sym (ap is_some (ap (λ k. towards_kind k (kind_of kinds other)) f ∙ ap (towards_kind (Some Cell)) f')) ∙ e))
      go None k' f f' e = absurd (none_is (sym (ap is_some (ap (λ k. towards_kind k (kind_of kinds other)) f)) ∙ e))

pub towards_kinds : (mesh : MeshLists) (kinds : List Kind) (code arg to given : ElementCode) (x y result : Option Elem) → code ≡ element.Towards arg to → given ≡ arg
    → ((kind : Kind) → kind_of kinds given ≡ Some kind → IsNilOrElement mesh kind x) → result ≡ towards mesh x y
    → (kind : Kind) → kind_of kinds code ≡ Some kind → IsNilOrElement mesh kind result
towards_kinds mesh kinds code arg to given x y result is same h e kind k =
    subst (IsNilOrElement mesh kind) (sym e)
    (towards_fits mesh kind x y (h kind (ap (kind_of kinds) same ∙ first_kind (kind_of kinds arg) (kind_of kinds to) kind (sym (ap (kind_of kinds) is ∙ kind_towards kinds arg to) ∙ k))))
