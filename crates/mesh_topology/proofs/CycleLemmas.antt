-- The cycle of a face is one that its first side induces, from its smallest corner on.
use Rattle.std.proofs.Common.{◌≡◌, ℕ, ◌-◌, ◌<◌, ◌||◌, ◌==◌, cond, Bool, true, false, Some, None, unwrap_or, List, [], ◌∷◌, length, get_or}
use Rattle.std.proofs.Common.{find, flat_map, refl, sym, ap, subst, ◌∙◌, inl, inr, arith, eqb-true}
use Rattle.std.proofs.lemmas.Bool.{and_parts, and_from}
use Rattle.liszt_base.specs.Corners.{is_in, includes, same_members, induced_cycles, IsCell, IsMesh}
use Rattle.liszt_base.specs.MeshLists.{MeshLists}
use Rattle.liszt_base.specs.declared.elements.Kind.TheVariants.{Face, Cell}
use Rattle.mesh_topology.specs.Elements.{corner_lists, count, corners, is_incident, numbers, sides, rotations, rotation_from, face_cycle, IsCycleOf}
use Rattle.mesh_topology.proofs.MemberLemmas.{Member, member_in, included, includes_by, includes_trans, member_at, member_of_kept, member_ranged}
use Rattle.mesh_topology.proofs.MemberLemmas.{contained_member, member_flat}
use Rattle.mesh_topology.proofs.RankLemmas.{each_at}
use Rattle.mesh_topology.proofs.SideLemmas.{of_cell, face_is, incident_is, one_or_two}

-- the first member of a list that passes a test
pub record IsFindResult {A : Type 0} (p : A → Bool) (xs : List A) : Type 0 where
  pub member : A
  pub is : find p xs ≡ Some member
  pub inside : Member member xs
  pub passes : p member ≡ true

-- the head, or the first member of the tail that passes
find_step : {A : Type 0} (p : A → Bool) (y : A) (ys : List A) (b : Bool) → p y ≡ b → (b ≡ false → IsFindResult p ys) → IsFindResult p (y ∷ ys)
find_step p y ys true is more = record { member = y; is = rw is refl; inside = inl refl; passes = is }
find_step p y ys false is more =
    let f = more refl in
    record { member = f.member; is = rw is f.is; inside = inr f.inside; passes = f.passes }

-- if a member passes, `find` gives one
found : {A : Type 0} (p : A → Bool) (xs : List A) (x : A) → Member x xs → p x ≡ true → IsFindResult p xs
found p [] x m h = absurd m
found p (y ∷ ys) x (inr m) h = find_step p y ys (p y) refl (λ _. found p ys x m h)
found p (y ∷ ys) x (inl e) h = find_step p y ys (p y) refl (λ f. let g : p y ≡ true = ap p e ∙ h in cc)

-- four corners induce cycles of three
three_length : (points : ℕ) (x z : List ℕ) → IsCell points x → Member z (induced_cycles x) → length z ≡ 3
three_length points (a ∷ b ∷ c ∷ d ∷ []) z h (inl e) = ap (λ v. length v) (sym e)
three_length points (a ∷ b ∷ c ∷ d ∷ []) z h (inr (inl e)) = ap (λ v. length v) (sym e)
three_length points (a ∷ b ∷ c ∷ d ∷ []) z h (inr (inr (inl e))) = ap (λ v. length v) (sym e)
three_length points (a ∷ b ∷ c ∷ d ∷ []) z h (inr (inr (inr (inl e)))) = ap (λ v. length v) (sym e)
three_length points (a ∷ b ∷ c ∷ d ∷ []) z h (inr (inr (inr (inr m)))) = absurd m
three_length points [] z h m = absurd m
three_length points (a ∷ []) z h m = absurd m
three_length points (a ∷ b ∷ []) z h m = absurd m
three_length points (a ∷ b ∷ c ∷ []) z h m = absurd m
three_length points (a ∷ b ∷ c ∷ d ∷ e ∷ xs) z h m = absurd m

-- two lists with the same members
pub same_by : (xs ys : List ℕ) → ((x : ℕ) → Member x xs → Member x ys) → ((x : ℕ) → Member x ys → Member x xs) → same_members xs ys ≡ true
same_by xs ys h k = and_from (includes xs ys) (includes ys xs) (includes_by xs ys k) (includes_by ys xs h)

-- a rotation of a cycle with a first member and all members of the cycle
pub record IsRotationFrom (first : ℕ) (cycle rotation : List ℕ) : Type 0 where
  pub one : Member rotation (rotations cycle)
  pub begins : get_or rotation 0 0 ≡ first
  pub same : same_members rotation cycle ≡ true

-- of the three rotations the first one with that first member is taken
rotation_cases : (first a b c : ℕ) (p q r : Bool) → (a == first) ≡ p → (b == first) ≡ q → (c == first) ≡ r → (p || (q || (r || false))) ≡ true
    → IsRotationFrom first (a ∷ b ∷ c ∷ [])
    (unwrap_or (cond p (Some (a ∷ b ∷ c ∷ [])) (cond q (Some (b ∷ c ∷ a ∷ [])) (cond r (Some (c ∷ a ∷ b ∷ [])) None))) [])
rotation_cases first a b c true q r e f g i =
    record { one = inl refl; begins = eqb-true a first e; same = same_by (a ∷ b ∷ c ∷ []) (a ∷ b ∷ c ∷ []) (λ x m. m) (λ x m. m) }
rotation_cases first a b c false true r e f g i =
    record { one = inr (inl refl); begins = eqb-true b first f; same = same_by (b ∷ c ∷ a ∷ []) (a ∷ b ∷ c ∷ []) there back }
  where
    there : (x : ℕ) → Member x (b ∷ c ∷ a ∷ []) → Member x (a ∷ b ∷ c ∷ [])
    there x m = grind arith

    back : (x : ℕ) → Member x (a ∷ b ∷ c ∷ []) → Member x (b ∷ c ∷ a ∷ [])
    back x m = grind arith
rotation_cases first a b c false false true e f g i =
    record { one = inr (inr (inl refl)); begins = eqb-true c first g; same = same_by (c ∷ a ∷ b ∷ []) (a ∷ b ∷ c ∷ []) there back }
  where
    there : (x : ℕ) → Member x (c ∷ a ∷ b ∷ []) → Member x (a ∷ b ∷ c ∷ [])
    there x m = grind arith

    back : (x : ℕ) → Member x (a ∷ b ∷ c ∷ []) → Member x (c ∷ a ∷ b ∷ [])
    back x m = grind arith
rotation_cases first a b c false false false e f g i = cc

-- a cycle has a rotation from each of its members
pub rotation_from_is : (first : ℕ) (z : List ℕ) → length z ≡ 3 → is_in z first ≡ true → IsRotationFrom first z (rotation_from first z)
rotation_from_is first (a ∷ b ∷ c ∷ []) l i = rotation_cases first a b c (a == first) (b == first) (c == first) refl refl refl i
rotation_from_is first [] l i = absurd (omega arith)
rotation_from_is first (a ∷ []) l i = absurd (omega arith)
rotation_from_is first (a ∷ b ∷ []) l i = absurd (omega arith)
rotation_from_is first (a ∷ b ∷ c ∷ d ∷ xs) l i = absurd (omega arith)

-- the cycle of a face
pub cycle_of_face : (mesh : MeshLists) → IsMesh (length mesh.points) (corner_lists mesh) → (face : ℕ) → face < count mesh Face
    → IsCycleOf mesh face (face_cycle mesh face)
cycle_of_face mesh is face l =
    let t = corners mesh Face face in
    let f = face_is mesh face l in
    let s = get_or (sides mesh face) 0 0 in
    let some = (one_or_two mesh is face l).0 in
    let k = member_of_kept (is_incident mesh Face face Cell) (numbers 0 (count mesh Cell)) s (member_at (sides mesh face) 0 0 some) in
    let r = member_ranged 0 (count mesh Cell - 0) s k.0 in
    let below : s < count mesh Cell = omega arith in
    let c = corners mesh Cell s in
    let cell = each_at (IsCell (length mesh.points)) (corner_lists mesh) c is.each (member_at (corner_lists mesh) s [] below) in
    let h = of_cell (length mesh.points) c t cell f.different f.three (sym (incident_is mesh is face l s below) ∙ k.1) in
    let z = found (same_members t) (induced_cycles c) h.cycle h.one h.same in
    let same = and_parts (includes t z.member) (includes z.member t) z.passes in
    let first = get_or t 0 0 in
    let inside : Member first t = member_at t 0 0 (omega (arith, f.three)) in
    let three = three_length (length mesh.points) c z.member cell z.inside in
    let cycle = rotation_from first z.member in
    let b = rotation_from_is first z.member three (member_in z.member first (included z.member t first same.1 inside)) in
    let transpose = and_parts (includes cycle z.member) (includes z.member cycle) b.same in
    let there = includes_trans cycle z.member t transpose.0 same.1 in
    let both = and_from (includes cycle t) (includes t cycle) there (includes_trans t z.member cycle same.0 transpose.1) in
    let one = contained_member (flat_map rotations (induced_cycles c)) cycle (member_flat rotations (induced_cycles c) z.member cycle z.inside b.one) in
    let made : IsCycleOf mesh face cycle = record { induced = one; begins = b.begins; same_corners = both } in
    subst (λ o. IsCycleOf mesh face (rotation_from first (unwrap_or o []))) (sym z.is) made
