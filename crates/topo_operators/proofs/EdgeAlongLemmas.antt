-- The edges of a face go along its cycle, reversed or not.
use Rattle.std.proofs.Common.{◌≡◌, ℕ, ◌<◌, nat_lt, Bool, true, false, List, [], ◌∷◌, map, length, refl, subst, inl, inr, arith, sym, ap, ◌∙◌, ◌==◌, reverse, get_or, lt-ltb, eqb-true, eq-eqb}
use Rattle.std.proofs.lemmas.Bool.{and_parts, false_from_ne_true}
use Rattle.std.proofs.Common.{ltb-true, ltb-false}
use Rattle.std.specs.List.{zip, AllByRecursion}
use Rattle.liszt_base.specs.Corners.{includes, same_members, IsMesh}
use Rattle.liszt_base.specs.MeshLists.{MeshLists}
use Rattle.liszt_base.specs.declared.elements.Elem.{Elem}
use Rattle.liszt_base.specs.declared.elements.Kind.TheVariants.{Edge, Face}
use Rattle.liszt_base.specs.declared.elements.SetName.TheVariants.{EdgesCcw}
use Rattle.mesh_topology.specs.Elements.{corner_lists, count, corners, steps, rotation_from, face_cycle}
use Rattle.mesh_topology.proofs.MemberLemmas.{Member, included}
use Rattle.mesh_topology.proofs.RankLemmas.{id_of_corners_is}
use Rattle.mesh_topology.proofs.SideLemmas.{face_is}
use Rattle.mesh_topology.proofs.CycleLemmas.{same_by, cycle_of_face}
use Rattle.mesh_topology.proofs.FaceEdgeLemmas.{edge_of_face, GoesThrough, all_different, through, both_through}
use Rattle.topo_operators.specs.Operators.{reversed, cycle_of, edge_along, members, GoesAlong}

-- an edge by its id and its orientation
abbrev oriented : ℕ → Bool → Elem
oriented id flipped = record { kind = Edge; id = id; flipped = flipped }

-- the ends of an edge in both orientations
unflipped_along : (mesh : MeshLists) (id a b : ℕ) → id < count mesh Edge → corners mesh Edge id ≡ a ∷ b ∷ [] → GoesAlong mesh (a, b) (oriented id false)
unflipped_along mesh id a b l is = record { is_edge = refl; in_range = l; from = rw is refl; to = rw is refl }

flipped_along : (mesh : MeshLists) (id a b : ℕ) → id < count mesh Edge → corners mesh Edge id ≡ b ∷ a ∷ [] → GoesAlong mesh (a, b) (oriented id true)
flipped_along mesh id a b l is = record { is_edge = refl; in_range = l; from = rw is refl; to = rw is refl }

-- a pair has its own members, and so has the pair swapped
pair_itself : (a b : ℕ) → same_members (a ∷ b ∷ []) (a ∷ b ∷ []) ≡ true
pair_itself a b = same_by (a ∷ b ∷ []) (a ∷ b ∷ []) (λ x m. m) (λ x m. m)

pair_swapped : (a b : ℕ) → same_members (a ∷ b ∷ []) (b ∷ a ∷ []) ≡ true
pair_swapped a b = same_by (a ∷ b ∷ []) (b ∷ a ∷ []) (swap a b) (swap b a) where
  swap : (y z x : ℕ) → Member x (y ∷ z ∷ []) → Member x (z ∷ y ∷ [])
  swap y z x m = grind arith

-- lists of three equal members are equal
three_equal : {x x' y y' z z' : Elem} → x ≡ x' → y ≡ y' → z ≡ z' → x ∷ y ∷ z ∷ [] ≡ x' ∷ y' ∷ z' ∷ []
three_equal p q r = rw (p, q, r) refl

-- the edge of a step is the one with its ends
edge_is : (mesh : MeshLists) (a b id : ℕ) (flipped : Bool) → nat_lt b a ≡ flipped → id < count mesh Edge
    → same_members (a ∷ b ∷ []) (corners mesh Edge id) ≡ true → oriented id flipped ≡ edge_along mesh (a, b)
edge_is mesh a b id flipped way l same =
    let id_is = id_of_corners_is mesh Edge 2 refl id (a ∷ b ∷ []) l same in
    rw (id_is, way) refl

-- the edge between two different corners of a face
step_along : (mesh : MeshLists) (face : ℕ) → face < count mesh Face → (a b : ℕ) (falls : Bool) → nat_lt b a ≡ falls → (a ≡ b → ⊥)
    → Member a (corners mesh Face face) → Member b (corners mesh Face face) → GoesAlong mesh (a, b) (edge_along mesh (a, b))
step_along mesh face l a b false way apart ma mb =
    let least = ltb-false b a way in
    let e = edge_of_face mesh face l a b (omega (arith, apart)) ma mb in
    let same : same_members (a ∷ b ∷ []) (corners mesh Edge e.id) ≡ true = rw e.is (pair_itself a b) in
    subst (λ x. GoesAlong mesh (a, b) x) (edge_is mesh a b e.id false way e.below same) (unflipped_along mesh e.id a b e.below e.is)
step_along mesh face l a b true way apart ma mb =
    let e = edge_of_face mesh face l b a (ltb-true b a way) mb ma in
    let same : same_members (a ∷ b ∷ []) (corners mesh Edge e.id) ≡ true = rw e.is (pair_swapped a b) in
    subst (λ x. GoesAlong mesh (a, b) x) (edge_is mesh a b e.id true way e.below same) (flipped_along mesh e.id a b e.below e.is)

-- the corners of a cycle
three_inside : (t : List ℕ) (a b c : ℕ) → GoesThrough t (a ∷ b ∷ c ∷ []) → Member a t × Member b t × Member c t
three_inside t a b c h = (at a (inl refl), at b (inr (inl refl)), at c (inr (inr (inl refl)))) where
  at : (x : ℕ) → Member x (a ∷ b ∷ c ∷ []) → Member x t
  at x m = included t (a ∷ b ∷ c ∷ []) x (and_parts (includes (a ∷ b ∷ c ∷ []) t) (includes t (a ∷ b ∷ c ∷ [])) h.same).1 m

-- the edges along a cycle
abbrev edges : MeshLists → List ℕ → List Elem
edges mesh cycle = map (edge_along mesh) (steps cycle)

-- there are three edges, each along its step
cycle_along : (mesh : MeshLists) (face : ℕ) → face < count mesh Face → (cycle : List ℕ) → GoesThrough (corners mesh Face face) cycle
    → (length (edges mesh cycle) ≡ 3) × AllByRecursion (λ p. GoesAlong mesh p.0 p.1) (zip (steps cycle) (edges mesh cycle))
cycle_along mesh face l (a ∷ b ∷ c ∷ []) h =
    let t = corners mesh Face face in
    let f = face_is mesh face l in
    let d = all_different t a b c f.different f.three h in
    let m = three_inside t a b c h in
    let ab = step_along mesh face l a b (nat_lt b a) refl d.0 m.0 m.1 in
    let bc = step_along mesh face l b c (nat_lt c b) refl d.1 m.1 m.2 in
    let ca = step_along mesh face l c a (nat_lt a c) refl d.2 m.2 m.0 in
    (refl, (ab, (bc, (ca, tt))))
cycle_along mesh face l [] h = absurd (omega (arith, h.three))
cycle_along mesh face l (a ∷ []) h = absurd (omega (arith, h.three))
cycle_along mesh face l (a ∷ b ∷ []) h = absurd (omega (arith, h.three))
cycle_along mesh face l (a ∷ b ∷ c ∷ d ∷ xs) h = absurd (omega (arith, h.three))

pub face_along : (mesh : MeshLists) → IsMesh (length mesh.points) (corner_lists mesh) → (face : Elem) → face.id < count mesh Face
    → (length (members mesh EdgesCcw face) ≡ 3) × AllByRecursion (λ p. GoesAlong mesh p.0 p.1) (zip (steps (cycle_of mesh face)) (members mesh EdgesCcw face))
face_along mesh is face l = cycle_along mesh face.id l (cycle_of mesh face) (both_through mesh is face.id l face.flipped)

-- the edge of a reversed step is that of the step, reversed
reversed_edge_along : (mesh : MeshLists) (face : ℕ) → face < count mesh Face → (a b : ℕ) (falls : Bool) → nat_lt b a ≡ falls → (a ≡ b → ⊥)
    → Member a (corners mesh Face face) → Member b (corners mesh Face face) → edge_along mesh (b, a) ≡ reversed (edge_along mesh (a, b))
reversed_edge_along mesh face l a b false way apart ma mb =
    let ascending : a < b = let least = ltb-false b a way in omega (arith, apart) in
    let e = edge_of_face mesh face l a b ascending ma mb in
    let one : same_members (a ∷ b ∷ []) (corners mesh Edge e.id) ≡ true = rw e.is (pair_itself a b) in
    let two : same_members (b ∷ a ∷ []) (corners mesh Edge e.id) ≡ true = rw e.is (pair_swapped b a) in
    sym (edge_is mesh b a e.id true (lt-ltb a b ascending) e.below two) ∙ ap reversed (edge_is mesh a b e.id false way e.below one)
reversed_edge_along mesh face l a b true way apart ma mb =
    let falls : b < a = ltb-true b a way in
    let e = edge_of_face mesh face l b a falls mb ma in
    let one : same_members (a ∷ b ∷ []) (corners mesh Edge e.id) ≡ true = rw e.is (pair_swapped a b) in
    let two : same_members (b ∷ a ∷ []) (corners mesh Edge e.id) ≡ true = rw e.is (pair_itself b a) in
    let up : nat_lt a b ≡ false = false_from_ne_true (nat_lt a b) (λ h. let k = ltb-true a b h in omega arith) in
    sym (edge_is mesh b a e.id false up e.below two) ∙ ap reversed (edge_is mesh a b e.id true way e.below one)

-- a reversed cycle, from the same first corner
reversed_steps : (a b c : ℕ) → (a ≡ b → ⊥) → (c ≡ a → ⊥) → rotation_from a (reverse (a ∷ b ∷ c ∷ [])) ≡ a ∷ c ∷ b ∷ []
reversed_steps a b c ab ca =
    let first : (c == a) ≡ false = false_from_ne_true (c == a) (λ h. ca (eqb-true c a h)) in
    let second : (b == a) ≡ false = false_from_ne_true (b == a) (λ h. ab (sym (eqb-true b a h))) in
    rw (first, second, eq-eqb a a refl) refl

-- the edges of a cycle and of the reversed cycle are each other's in reverse order, each reversed
two_ways : (mesh : MeshLists) (face : ℕ) → face < count mesh Face → (cycle : List ℕ) (first : ℕ) → get_or cycle 0 0 ≡ first
    → GoesThrough (corners mesh Face face) cycle
    → (edges mesh (rotation_from first (reverse cycle)) ≡ map reversed (reverse (edges mesh cycle)))
    × (edges mesh cycle ≡ map reversed (reverse (edges mesh (rotation_from first (reverse cycle)))))
two_ways mesh face l (a ∷ b ∷ c ∷ []) first begins h =
    let t = corners mesh Face face in
    let f = face_is mesh face l in
    let d = all_different t a b c f.different f.three h in
    let m = three_inside t a b c h in
    let turn : rotation_from first (reverse (a ∷ b ∷ c ∷ [])) ≡ a ∷ c ∷ b ∷ [] = subst (λ v. rotation_from v (reverse (a ∷ b ∷ c ∷ [])) ≡ a ∷ c ∷ b ∷ []) begins (reversed_steps a b c d.0 d.2) in
    let ac = reversed_edge_along mesh face l c a (nat_lt a c) refl d.2 m.2 m.0 in
    let cb = reversed_edge_along mesh face l b c (nat_lt c b) refl d.1 m.1 m.2 in
    let ba = reversed_edge_along mesh face l a b (nat_lt b a) refl d.0 m.0 m.1 in
    let ca = reversed_edge_along mesh face l a c (nat_lt c a) refl (λ e. d.2 (sym e)) m.0 m.2 in
    let bc = reversed_edge_along mesh face l c b (nat_lt b c) refl (λ e. d.1 (sym e)) m.2 m.1 in
    let ab = reversed_edge_along mesh face l b a (nat_lt a b) refl (λ e. d.0 (sym e)) m.1 m.0 in
    (rw turn (three_equal ac cb ba), rw turn (three_equal ab bc ca))
two_ways mesh face l [] first begins h = absurd (omega (arith, h.three))
two_ways mesh face l (a ∷ []) first begins h = absurd (omega (arith, h.three))
two_ways mesh face l (a ∷ b ∷ []) first begins h = absurd (omega (arith, h.three))
two_ways mesh face l (a ∷ b ∷ c ∷ d ∷ xs) first begins h = absurd (omega (arith, h.three))

pub flipped_face : (mesh : MeshLists) → IsMesh (length mesh.points) (corner_lists mesh) → (face : Elem) → face.id < count mesh Face
    → members mesh EdgesCcw (reversed face) ≡ map reversed (reverse (members mesh EdgesCcw face))
flipped_face mesh is face l = go face.flipped where
  both : (edges mesh (rotation_from (get_or (corners mesh Face face.id) 0 0) (reverse (face_cycle mesh face.id))) ≡ map reversed (reverse (edges mesh (face_cycle mesh face.id))))
      × (edges mesh (face_cycle mesh face.id) ≡ map reversed (reverse (edges mesh (rotation_from (get_or (corners mesh Face face.id) 0 0) (reverse (face_cycle mesh face.id))))))
  both = two_ways mesh face.id l (face_cycle mesh face.id) (get_or (corners mesh Face face.id) 0 0) (cycle_of_face mesh is face.id l).begins (through mesh is face.id l)

  go : (flipped : Bool) → members mesh EdgesCcw (reversed (record { kind = face.kind; id = face.id; flipped = flipped }))
      ≡ map reversed (reverse (members mesh EdgesCcw (record { kind = face.kind; id = face.id; flipped = flipped })))
  go false = both.0
  go true = both.1
