-- Two corners of a face are the ends of an edge, and the cycle of a face, reversed or not, has its three corners.
use Rattle.std.proofs.Common.{◌≡◌, ℕ, zero, suc, ◌<◌, Bool, true, false, List, [], ◌∷◌, length, get_or, reverse, flat_map, refl, sym, ap, subst, inl, inr, arith, if◌then◌else◌}
use Rattle.std.proofs.lemmas.Bool.{and_parts, and_from}
use Rattle.liszt_base.specs.Corners.{includes, same_members, are_different, induced_cycles, IsMesh}
use Rattle.liszt_base.specs.MeshLists.{MeshLists}
use Rattle.liszt_base.specs.declared.elements.Kind.TheVariants.{Edge, Face, Cell}
use Rattle.mesh_topology.specs.Elements.{corner_lists, elements, count, corners, sides, rotations, rotation_from, face_cycle}
use Rattle.mesh_topology.proofs.MemberLemmas.{Member, any_found, any_by, included, includes_by, includes_trans, member_in, member_at, no_longer}
use Rattle.mesh_topology.proofs.MemberLemmas.{member_contained, member_flattened}
use Rattle.mesh_topology.proofs.OrderLemmas.{Between, bounds}
use Rattle.mesh_topology.proofs.RankLemmas.{element_is, is_element}
use Rattle.mesh_topology.proofs.SideLemmas.{face_is}
use Rattle.mesh_topology.proofs.CycleLemmas.{same_by, rotation_from_is, cycle_of_face}

-- a member has an index
pub placed : {A : Type 0} (xs : List A) (x d : A) → Member x xs → (k : ℕ) × (k < length xs) × (get_or xs k d ≡ x)
placed [] x d m = absurd m
placed (y ∷ ys) x d (inl e) = (zero, omega arith, e)
placed (y ∷ ys) x d (inr m) = let p = placed ys x d m in (suc p.0, omega (arith, p.1), p.2)

-- an edge from a to b, with its id
pub record IsEdge (mesh : MeshLists) (a b : ℕ) : Type 0 where
  pub id : ℕ
  pub below : id < count mesh Edge
  pub is : corners mesh Edge id ≡ a ∷ b ∷ []

-- two corners of a face are the ends of an edge
pub edge_of_face : (mesh : MeshLists) (face : ℕ) → face < count mesh Face → (a b : ℕ) → a < b → Member a (corners mesh Face face)
    → Member b (corners mesh Face face) → IsEdge mesh a b
edge_of_face mesh face l a b ascending ma mb =
    let t = corners mesh Face face in
    let e = element_is mesh Face 3 refl t (member_at (elements mesh Face) face [] l) in
    let above = bounds 0 (length mesh.points) t a e.1 ma in
    let below = bounds 0 (length mesh.points) t b e.1 mb in
    let between : Between 0 (length mesh.points) (a ∷ b ∷ []) = (omega arith, above.1, (omega arith, below.1, tt)) in
    let cell = any_found (λ corners. includes corners t) (corner_lists mesh) e.2 in
    let in_cell = includes_trans cell.0 t (a ∷ b ∷ []) cell.2 (includes_by t (a ∷ b ∷ []) both) in
    let in_a_cell = any_by (λ corners. includes corners (a ∷ b ∷ [])) (corner_lists mesh) cell.0 cell.1 in_cell in
    let p = placed (elements mesh Edge) (a ∷ b ∷ []) [] (is_element mesh Edge 2 refl (a ∷ b ∷ []) refl between in_a_cell) in
    record { id = p.0; below = p.1; is = p.2 }
  where
    both : (x : ℕ) → Member x (a ∷ b ∷ []) → Member x (corners mesh Face face)
    both x (inl e) = subst (λ v. Member v (corners mesh Face face)) e ma
    both x (inr (inl e)) = subst (λ v. Member v (corners mesh Face face)) e mb
    both x (inr (inr m)) = absurd m

-- a cycle of three that has these members
pub record GoesThrough (t cycle : List ℕ) : Type 0 where
  pub three : length cycle ≡ 3
  pub same : same_members cycle t ≡ true

-- the corners of a cycle of three different corners are different
pub all_different : (t : List ℕ) (a b c : ℕ) → are_different t ≡ true → length t ≡ 3 → GoesThrough t (a ∷ b ∷ c ∷ [])
    → (a ≡ b → ⊥) × (b ≡ c → ⊥) × (c ≡ a → ⊥)
all_different t a b c d l h = (first, second, third) where
  inside : (x : ℕ) → Member x t → Member x (a ∷ b ∷ c ∷ [])
  inside x m = included (a ∷ b ∷ c ∷ []) t x (and_parts (includes (a ∷ b ∷ c ∷ []) t) (includes t (a ∷ b ∷ c ∷ [])) h.same).0 m

  few : (y z : ℕ) → ((x : ℕ) → Member x (a ∷ b ∷ c ∷ []) → Member x (y ∷ z ∷ [])) → ⊥
  few y z k = let n = no_longer t (y ∷ z ∷ []) d (λ x m. k x (inside x m)) in omega arith

  first : a ≡ b → ⊥
  first e = few b c again where
    again : (x : ℕ) → Member x (a ∷ b ∷ c ∷ []) → Member x (b ∷ c ∷ [])
    again x m = grind (arith, e)

  second : b ≡ c → ⊥
  second e = few a c again where
    again : (x : ℕ) → Member x (a ∷ b ∷ c ∷ []) → Member x (a ∷ c ∷ [])
    again x m = grind (arith, e)

  third : c ≡ a → ⊥
  third e = few a b again where
    again : (x : ℕ) → Member x (a ∷ b ∷ c ∷ []) → Member x (a ∷ b ∷ [])
    again x m = grind (arith, e)

-- a rotation has three members
rotation_three : (z rotation : List ℕ) → Member rotation (rotations z) → length rotation ≡ 3
rotation_three (a ∷ b ∷ c ∷ []) rotation (inl e) = ap (λ v. length v) (sym e)
rotation_three (a ∷ b ∷ c ∷ []) rotation (inr (inl e)) = ap (λ v. length v) (sym e)
rotation_three (a ∷ b ∷ c ∷ []) rotation (inr (inr (inl e))) = ap (λ v. length v) (sym e)
rotation_three (a ∷ b ∷ c ∷ []) rotation (inr (inr (inr m))) = absurd m
rotation_three [] rotation m = absurd m
rotation_three (a ∷ []) rotation m = absurd m
rotation_three (a ∷ b ∷ []) rotation m = absurd m
rotation_three (a ∷ b ∷ c ∷ d ∷ xs) rotation m = absurd m

-- the cycle of a face goes through its corners
pub through : (mesh : MeshLists) → IsMesh (length mesh.points) (corner_lists mesh) → (face : ℕ) → face < count mesh Face
    → GoesThrough (corners mesh Face face) (face_cycle mesh face)
through mesh is face l =
    let c = cycle_of_face mesh is face l in
    let all = induced_cycles (corners mesh Cell (get_or (sides mesh face) 0 0)) in
    let m = member_flattened rotations all (face_cycle mesh face) (member_contained (flat_map rotations all) (face_cycle mesh face) c.induced) in
    record { three = rotation_three m.0 (face_cycle mesh face) m.2; same = c.same_corners }

-- lists with the members of one list
same_trans : (xs ys zs : List ℕ) → same_members xs ys ≡ true → same_members ys zs ≡ true → same_members xs zs ≡ true
same_trans xs ys zs a b =
    let p = and_parts (includes xs ys) (includes ys xs) a in
    let q = and_parts (includes ys zs) (includes zs ys) b in
    and_from (includes xs zs) (includes zs xs) (includes_trans xs ys zs p.0 q.0) (includes_trans zs ys xs q.1 p.1)

-- a cycle that is reversed and rotated has the same corners
reversed_through : (t cycle : List ℕ) (first : ℕ) → Member first t → GoesThrough t cycle → GoesThrough t (rotation_from first (reverse cycle))
reversed_through t (a ∷ b ∷ c ∷ []) first m h =
    let z : List ℕ = c ∷ b ∷ a ∷ [] in
    let back = same_trans z (a ∷ b ∷ c ∷ []) t (same_by z (a ∷ b ∷ c ∷ []) there here) h.same in
    let parts = and_parts (includes z t) (includes t z) back in
    let s = rotation_from_is first z refl (member_in z first (included z t first parts.0 m)) in
    record { three = rotation_three z (rotation_from first z) s.one; same = same_trans (rotation_from first z) z t s.same back }
  where
    there : (x : ℕ) → Member x (c ∷ b ∷ a ∷ []) → Member x (a ∷ b ∷ c ∷ [])
    there x m = grind arith

    here : (x : ℕ) → Member x (a ∷ b ∷ c ∷ []) → Member x (c ∷ b ∷ a ∷ [])
    here x m = grind arith
reversed_through t [] first m h = absurd (omega (arith, h.three))
reversed_through t (a ∷ []) first m h = absurd (omega (arith, h.three))
reversed_through t (a ∷ b ∷ []) first m h = absurd (omega (arith, h.three))
reversed_through t (a ∷ b ∷ c ∷ d ∷ xs) first m h = absurd (omega (arith, h.three))

-- both cycles of a face have its corners
pub both_through : (mesh : MeshLists) → IsMesh (length mesh.points) (corner_lists mesh) → (face : ℕ) → face < count mesh Face → (flipped : Bool)
    → GoesThrough (corners mesh Face face) (if flipped then rotation_from (get_or (corners mesh Face face) 0 0) (reverse (face_cycle mesh face)) else face_cycle mesh face)
both_through mesh is face l false = through mesh is face l
both_through mesh is face l true =
    let t = corners mesh Face face in
    let f = face_is mesh face l in
    reversed_through t (face_cycle mesh face) (get_or t 0 0) (member_at t 0 0 (omega (arith, f.three))) (through mesh is face l)
