-- The orientation that `towards` gives.
use Rattle.std.proofs.Common.{◌≡◌, ◌==◌, ◌&&◌, ◌⊎◌, Bool, true, false, cond, Option, Some, None, [], ◌∷◌, refl, sym, subst, inl, inr, eq-eqb}
use Rattle.std.specs.List.{find}
use Rattle.liszt_base.specs.MeshLists.{MeshLists}
use Rattle.liszt_base.specs.declared.elements.Elem.{Elem}
use Rattle.liszt_base.specs.declared.elements.Kind.{Kind}
use Rattle.liszt_base.specs.declared.elements.Kind.TheVariants.{Vertex, Edge, Face, Cell}
use Rattle.topo_operators.specs.Operators.{unflipped, reversed, is_kind, same, points_to, towards}

pub is_kind_itself : (kind : Kind) → is_kind kind kind ≡ true
is_kind_itself Vertex = refl
is_kind_itself Edge = refl
is_kind_itself Face = refl
is_kind_itself Cell = refl

-- the result of `find` passes the test and is one of the two
find_of_two : {A : Type 0} (test : A → Bool) (a b y : A) → find test (a ∷ b ∷ []) ≡ Some y → (test y ≡ true) × ((y ≡ a) ⊎ (y ≡ b))
find_of_two test a b y e = go (test a) (test b) refl refl e where
  go : (ta tb : Bool) → test a ≡ ta → test b ≡ tb → cond {A = Option _} ta (Some a) (cond tb (Some b) None) ≡ Some y → (test y ≡ true) × ((y ≡ a) ⊎ (y ≡ b))
  go true tb is_a is_b e = let same_a : a ≡ y = cc in (subst (λ z. test z ≡ true) same_a is_a, inl (sym same_a))
  go false true is_a is_b e = let same_b : b ≡ y = cc in (subst (λ z. test z ≡ true) same_b is_b, inr (sym same_b))
  go false false is_a is_b e = cc

pub towards_some : (mesh : MeshLists) (x to y : Elem) → towards mesh (Some x) (Some to) ≡ Some y
    → (same (points_to mesh y) (Some to) ≡ true) × (same (Some y) (Some x) ≡ true)
towards_some mesh x to y e =
    let a : Elem = unflipped x.kind x.id in
    let f = find_of_two (λ orientation. same (points_to mesh orientation) (Some to)) a (reversed a) y e in
    (f.0, either f.1)
  where
    itself : (is_kind x.kind x.kind && (x.id == x.id)) ≡ true
    itself = rw (is_kind_itself x.kind) (eq-eqb x.id x.id refl)

    either : (y ≡ unflipped x.kind x.id) ⊎ (y ≡ reversed (unflipped x.kind x.id)) → same (Some y) (Some x) ≡ true
    either (inl is) = subst (λ z. same (Some z) (Some x) ≡ true) (sym is) itself
    either (inr is) = subst (λ z. same (Some z) (Some x) ≡ true) (sym is) itself
