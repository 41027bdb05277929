-- Sameness and `towards` ignore orientation; the orientation that `towards` gives of an element's own ends and sides.
use Rattle.std.proofs.Common.{◌≡◌, ◌↔◌, ◌⊎◌, ◌==◌, ℕ, Bool, true, false, Option, Some, None, List, [], ◌∷◌, length, refl, subst, ap, ◌∙◌, inl, inr, arith, eqb-true, eq-eqb, is_some, slice_get}
use Rattle.std.proofs.lemmas.Bool.{and_parts, false_from_ne_true}
use Rattle.std.specs.Option.{option_map}
use Rattle.liszt_base.specs.MeshLists.{MeshLists}
use Rattle.liszt_base.specs.declared.elements.Elem.{Elem}
use Rattle.liszt_base.specs.declared.elements.Kind.{Kind}
use Rattle.liszt_base.specs.declared.elements.Kind.TheVariants.{Vertex, Edge, Face, Cell}
use Rattle.mesh_topology.specs.Elements.{count, corners, is_incident, sides}
use Rattle.mesh_topology.proofs.CombinationLemmas.{IsAscending}
use Rattle.mesh_topology.proofs.NearLemmas.{filter_is, corner_set_is}
use Rattle.topo_operators.specs.Operands.{IsElement}
use Rattle.topo_operators.specs.Operators.{unflipped, reversed, is_kind, tail, head, inside, outside, flip, same, points_to, towards, vertex_at, cell_at}
use Rattle.topo_operators.proofs.TowardsLemmas.{is_kind_itself}

pub same_flip_first : (x y : Option Elem) → same (flip x) y ≡ same x y
same_flip_first None y = refl
same_flip_first (Some x) None = refl
same_flip_first (Some x) (Some y) = refl

pub same_flip_second : (x y : Option Elem) → same x (flip y) ≡ same x y
same_flip_second x None = refl
same_flip_second None (Some y) = refl
same_flip_second (Some x) (Some y) = refl

-- kinds that pass the test are equal
kind_equal : (k m : Kind) → is_kind k m ≡ true → k ≡ m
kind_equal Vertex Vertex e = refl
kind_equal Edge Edge e = refl
kind_equal Face Face e = refl
kind_equal Cell Cell e = refl
kind_equal Vertex Edge e = cc
kind_equal Vertex Face e = cc
kind_equal Vertex Cell e = cc
kind_equal Edge Vertex e = cc
kind_equal Edge Face e = cc
kind_equal Edge Cell e = cc
kind_equal Face Vertex e = cc
kind_equal Face Edge e = cc
kind_equal Face Cell e = cc
kind_equal Cell Vertex e = cc
kind_equal Cell Edge e = cc
kind_equal Cell Face e = cc

-- two elements of equal kind and id differ by a flip at most
up_to_flip : (kind : Kind) (id : ℕ) (f g : Bool)
    → let x : Elem = record { kind = kind; id = id; flipped = f } in let y : Elem = record { kind = kind; id = id; flipped = g } in
    (Some x ≡ Some y) ⊎ (flip (Some x) ≡ Some y)
up_to_flip kind id true true = inl refl
up_to_flip kind id false false = inl refl
up_to_flip kind id true false = inr refl
up_to_flip kind id false true = inr refl

same_itself : (x : Option Elem) → same x x ≡ true
same_itself None = refl
same_itself (Some x) = rw (is_kind_itself x.kind, eq-eqb x.id x.id refl) refl

pub same_is : (x y : Option Elem) → (same x y ≡ true) ↔ ((x ≡ y) ⊎ (flip x ≡ y))
same_is x y = (there x y, back) where
  there : (x y : Option Elem) → same x y ≡ true → (x ≡ y) ⊎ (flip x ≡ y)
  there None None e = inl refl
  there None (Some y) e = cc
  there (Some x) None e = cc
  there (Some x) (Some y) e =
      let p = and_parts (is_kind x.kind y.kind) (x.id == y.id) e in
      go y.kind y.id (kind_equal x.kind y.kind p.0) (eqb-true x.id y.id p.1)
    where
      go : (kind : Kind) (id : ℕ) → x.kind ≡ kind → x.id ≡ id
          → (Some x ≡ Some (record { kind = kind; id = id; flipped = y.flipped })) ⊎ (flip (Some x) ≡ Some (record { kind = kind; id = id; flipped = y.flipped }))
      go kind id k n =
          subst (λ kind. (Some x ≡ Some (record { kind = kind; id = id; flipped = y.flipped })) ⊎ (flip (Some x) ≡ Some (record { kind = kind; id = id; flipped = y.flipped }))) k
          (subst (λ id. (Some x ≡ Some (record { kind = x.kind; id = id; flipped = y.flipped })) ⊎ (flip (Some x) ≡ Some (record { kind = x.kind; id = id; flipped = y.flipped }))) n
          (up_to_flip x.kind x.id x.flipped y.flipped))

  back : (x ≡ y) ⊎ (flip x ≡ y) → same x y ≡ true
  back (inl e) = subst (λ z. same x z ≡ true) e (same_itself x)
  back (inr e) = subst (λ z. same x z ≡ true) e (rw (same_flip_second x x) (same_itself x))

pub same_nil : (x : Option Elem) → same None x ≡ true → x ≡ None
same_nil None e = refl
same_nil (Some x) e = cc

pub towards_flip_second : (mesh : MeshLists) (x to : Option Elem) → towards mesh x (flip to) ≡ towards mesh x to
towards_flip_second mesh None to = refl
towards_flip_second mesh (Some x) None = refl
towards_flip_second mesh (Some x) (Some to) =
    let first = same_flip_second (points_to mesh (unflipped x.kind x.id)) (Some to) in
    let second = same_flip_second (points_to mesh (reversed (unflipped x.kind x.id))) (Some to) in
    rw (first, second) refl

pub towards_nil : (mesh : MeshLists) (x : Option Elem) → towards mesh x None ≡ None
towards_nil mesh None = refl
towards_nil mesh (Some x) = refl

-- different ids fail the test
differ : (a b : ℕ) → (a ≡ b → ⊥) → (a == b) ≡ false
differ a b ne = false_from_ne_true (a == b) (λ e. ne (eqb-true a b e))

-- an edge or a face, by its id and its orientation
abbrev oriented : Kind → ℕ → Bool → Elem
oriented kind id flipped = record { kind = kind; id = id; flipped = flipped }

-- `towards` gives the unflipped element if that points to the operand
unflipped_towards : (mesh : MeshLists) (kind : Kind) (id : ℕ) (flipped : Bool) (p to : Elem) → points_to mesh (unflipped kind id) ≡ Some p
    → same (Some p) (Some to) ≡ true → towards mesh (Some (oriented kind id flipped)) (Some to) ≡ Some (oriented kind id false)
unflipped_towards mesh kind id flipped p to is e =
    let first : same (points_to mesh (unflipped kind id)) (Some to) ≡ true = ap (λ z. same z (Some to)) is ∙ e in
    rw first refl

-- and else the flipped element if that does
flipped_towards : (mesh : MeshLists) (kind : Kind) (id : ℕ) (flipped : Bool) (p : Option Elem) (q to : Elem) → points_to mesh (unflipped kind id) ≡ p
    → points_to mesh (reversed (unflipped kind id)) ≡ Some q → same p (Some to) ≡ false → same (Some q) (Some to) ≡ true
    → towards mesh (Some (oriented kind id flipped)) (Some to) ≡ Some (oriented kind id true)
flipped_towards mesh kind id flipped p q to is back d e =
    let first : same (points_to mesh (unflipped kind id)) (Some to) ≡ false = ap (λ z. same z (Some to)) is ∙ d in
    let second : same (points_to mesh (reversed (unflipped kind id))) (Some to) ≡ true = ap (λ z. same z (Some to)) back ∙ e in
    rw (first, second) refl

-- an unflipped element is the same as itself, and not as one with another id
same_as_itself : (kind : Kind) (a : ℕ) → same (Some (unflipped kind a)) (Some (unflipped kind a)) ≡ true
same_as_itself kind a = same_itself (Some (unflipped kind a))

not_same : (kind : Kind) (a b : ℕ) → (a ≡ b → ⊥) → same (Some (unflipped kind a)) (Some (unflipped kind b)) ≡ false
not_same kind a b ne = rw (is_kind_itself kind, differ a b ne) refl

-- what `towards` gives for the head and the tail of an edge
abbrev OwnEnds : MeshLists → Elem → Type 0
OwnEnds mesh x = (towards mesh (Some x) (head mesh (Some x)) ≡ Some x) × (towards mesh (Some x) (tail mesh (Some x)) ≡ flip (Some x))

edge_ends : (mesh : MeshLists) (id : ℕ) (flipped : Bool) (ends : List ℕ) → corners mesh Edge id ≡ ends → length ends ≡ 2 → IsAscending ends
    → OwnEnds mesh (oriented Edge id flipped)
edge_ends mesh id flipped (a ∷ b ∷ []) is two up = go flipped where
  first : vertex_at mesh (unflipped Edge id) 0 ≡ Some (unflipped Vertex a)
  first = ap (λ s. option_map (unflipped Vertex) (slice_get s 0)) is

  second : vertex_at mesh (unflipped Edge id) 1 ≡ Some (unflipped Vertex b)
  second = ap (λ s. option_map (unflipped Vertex) (slice_get s 1)) is

  apart : b ≡ a → ⊥
  apart e = let l = up.0 b (inl refl) in omega arith

  to_second : (flipped : Bool) → towards mesh (Some (oriented Edge id flipped)) (Some (unflipped Vertex b)) ≡ Some (oriented Edge id false)
  to_second flipped = unflipped_towards mesh Edge id flipped (unflipped Vertex b) (unflipped Vertex b) second (same_as_itself Vertex b)

  to_first : (flipped : Bool) → towards mesh (Some (oriented Edge id flipped)) (Some (unflipped Vertex a)) ≡ Some (oriented Edge id true)
  to_first flipped =
      flipped_towards mesh Edge id flipped (Some (unflipped Vertex b)) (unflipped Vertex a) (unflipped Vertex a) second first
      (not_same Vertex b a apart) (same_as_itself Vertex a)

  go : (flipped : Bool) → OwnEnds mesh (oriented Edge id flipped)
  go false = (
    ap (λ to. towards mesh (Some (oriented Edge id false)) to) second ∙ to_second false,
    ap (λ to. towards mesh (Some (oriented Edge id false)) to) first ∙ to_first false,
  )
  go true = (
    ap (λ to. towards mesh (Some (oriented Edge id true)) to) first ∙ to_first true,
    ap (λ to. towards mesh (Some (oriented Edge id true)) to) second ∙ to_second true,
  )
edge_ends mesh id flipped [] is two up = absurd (omega arith)
edge_ends mesh id flipped (a ∷ []) is two up = absurd (omega arith)
edge_ends mesh id flipped (a ∷ b ∷ c ∷ ends) is two up = absurd (omega arith)

pub edge_towards : (mesh : MeshLists) (x : Elem) → IsElement mesh Edge x → OwnEnds mesh x
edge_towards mesh x is = go x.kind is.0 where
  go : (kind : Kind) → kind ≡ Edge → OwnEnds mesh (oriented kind x.id x.flipped)
  go Edge e = let r = corner_set_is mesh Edge 2 refl x.id is.1 in edge_ends mesh x.id x.flipped (corners mesh Edge x.id) refl r.size_is r.ascending
  go Vertex e = cc
  go Face e = cc
  go Cell e = cc

-- what `towards` gives for the sides of a face that are cells
abbrev OwnSides : MeshLists → Elem → Type 0
OwnSides mesh x =
    (is_some (outside mesh (Some x)) ≡ true → towards mesh (Some x) (outside mesh (Some x)) ≡ Some x)
    × (is_some (inside mesh (Some x)) ≡ true → towards mesh (Some x) (inside mesh (Some x)) ≡ flip (Some x))

-- nil is no cell
no_cell : {A : Type 0} (side : Option Elem) → side ≡ None → is_some side ≡ true → A
no_cell side is e = let none : is_some side ≡ false = ap (λ s. is_some s) is in cc

face_sides : (mesh : MeshLists) (id : ℕ) (flipped : Bool) (cells : List ℕ) → sides mesh id ≡ cells → IsAscending cells → OwnSides mesh (oriented Face id flipped)
face_sides mesh id flipped [] is up = go flipped where
  side : (n : ℕ) → cell_at mesh (unflipped Face id) n ≡ option_map (unflipped Cell) (slice_get [] n)
  side n = ap (λ s. option_map (unflipped Cell) (slice_get s n)) is

  go : (flipped : Bool) → OwnSides mesh (oriented Face id flipped)
  go false = (no_cell (outside mesh (Some (oriented Face id false))) (side 1), no_cell (inside mesh (Some (oriented Face id false))) (side 0))
  go true = (no_cell (outside mesh (Some (oriented Face id true))) (side 0), no_cell (inside mesh (Some (oriented Face id true))) (side 1))
face_sides mesh id flipped (a ∷ []) is up = go flipped where
  first : cell_at mesh (unflipped Face id) 0 ≡ Some (unflipped Cell a)
  first = ap (λ s. option_map (unflipped Cell) (slice_get s 0)) is

  second : cell_at mesh (unflipped Face id) 1 ≡ None
  second = ap (λ s. option_map (unflipped Cell) (slice_get s 1)) is

  to_first : (flipped : Bool) → towards mesh (Some (oriented Face id flipped)) (Some (unflipped Cell a)) ≡ Some (oriented Face id true)
  to_first flipped = flipped_towards mesh Face id flipped None (unflipped Cell a) (unflipped Cell a) second first refl (same_as_itself Cell a)

  go : (flipped : Bool) → OwnSides mesh (oriented Face id flipped)
  go false = (
    no_cell (outside mesh (Some (oriented Face id false))) second,
    λ e. ap (λ to. towards mesh (Some (oriented Face id false)) to) first ∙ to_first false,
  )
  go true = (
    λ e. ap (λ to. towards mesh (Some (oriented Face id true)) to) first ∙ to_first true,
    no_cell (inside mesh (Some (oriented Face id true))) second,
  )
face_sides mesh id flipped (a ∷ b ∷ cells) is up = go flipped where
  first : cell_at mesh (unflipped Face id) 0 ≡ Some (unflipped Cell a)
  first = ap (λ s. option_map (unflipped Cell) (slice_get s 0)) is

  second : cell_at mesh (unflipped Face id) 1 ≡ Some (unflipped Cell b)
  second = ap (λ s. option_map (unflipped Cell) (slice_get s 1)) is

  apart : b ≡ a → ⊥
  apart e = let l = up.0 b (inl refl) in omega arith

  to_second : (flipped : Bool) → towards mesh (Some (oriented Face id flipped)) (Some (unflipped Cell b)) ≡ Some (oriented Face id false)
  to_second flipped = unflipped_towards mesh Face id flipped (unflipped Cell b) (unflipped Cell b) second (same_as_itself Cell b)

  to_first : (flipped : Bool) → towards mesh (Some (oriented Face id flipped)) (Some (unflipped Cell a)) ≡ Some (oriented Face id true)
  to_first flipped =
      flipped_towards mesh Face id flipped (Some (unflipped Cell b)) (unflipped Cell a) (unflipped Cell a) second first
      (not_same Cell b a apart) (same_as_itself Cell a)

  go : (flipped : Bool) → OwnSides mesh (oriented Face id flipped)
  go false = (
    λ e. ap (λ to. towards mesh (Some (oriented Face id false)) to) second ∙ to_second false,
    λ e. ap (λ to. towards mesh (Some (oriented Face id false)) to) first ∙ to_first false,
  )
  go true = (
    λ e. ap (λ to. towards mesh (Some (oriented Face id true)) to) first ∙ to_first true,
    λ e. ap (λ to. towards mesh (Some (oriented Face id true)) to) second ∙ to_second true,
  )

pub face_towards : (mesh : MeshLists) (x : Elem) → IsElement mesh Face x → OwnSides mesh x
face_towards mesh x is = go x.kind is.0 where
  go : (kind : Kind) → kind ≡ Face → OwnSides mesh (oriented kind x.id x.flipped)
  go Face e = face_sides mesh x.id x.flipped (sides mesh x.id) refl (filter_is (is_incident mesh Face x.id Cell) (count mesh Cell)).ascending
  go Vertex e = cc
  go Edge e = cc
  go Cell e = cc
