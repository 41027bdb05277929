-- A face is in one cell or in two.
use Rattle.std.proofs.Common.{◌≡◌, ℕ, suc, ◌+◌, ◌-◌, ◌<◌, ◌≤◌, ◌||◌, nat_lt, cond, Bool, true, false, List, [], ◌∷◌, ◌++◌, length, get_or}
use Rattle.std.proofs.Common.{count_by, filter, refl, sym, ap, subst, inl, inr, arith, append-nil, append_assoc, length-append, ltb-false}
use Rattle.std.proofs.Common.{add-zero, zero-add}
use Rattle.std.specs.List.{list_any, range_with_len, AllByRecursion}
use Rattle.std.proofs.lemmas.Bool.{and_parts, and_from, or_parts, false_from_ne_true, both_ways}
use Rattle.std.proofs.lemmas.List.Elements.{filter-append, filter_agree}
use Rattle.std.proofs.lemmas.List.Sums.{length-filter}
use Rattle.liszt_base.specs.Corners.{is_in, includes, same_members, are_different, induced_cycles, is_third, along, IsCell, IsMesh}
use Rattle.liszt_base.specs.MeshLists.{MeshLists}
use Rattle.liszt_base.specs.declared.elements.Kind.TheVariants.{Face, Cell}
use Rattle.mesh_topology.specs.Elements.{corner_lists, elements, count, corners, is_incident, sides}
use Rattle.mesh_topology.proofs.MemberLemmas.{Member, any_found, any_by, member_in, included, includes_by, includes_trans, member_at, member_kept}
use Rattle.mesh_topology.proofs.MemberLemmas.{no_longer, has_all_members}
use Rattle.mesh_topology.proofs.OrderLemmas.{different}
use Rattle.mesh_topology.proofs.RankLemmas.{element_is, each_at}

-- three different members of a list of three are all of its members
three_fill : (t z : List ℕ) → are_different t ≡ true → length t ≡ 3 → length z ≡ 3 → ((x : ℕ) → Member x t → Member x z)
    → same_members t z ≡ true
three_fill t z d l k h = and_from (includes t z) (includes z t) (includes_by t z (has_all_members t z d h (omega arith))) (includes_by z t h)

-- four different corners are not all among three
not_four : (t x : List ℕ) → are_different x ≡ true → length t ≡ 3 → length x ≡ 4 → includes t x ≡ true → ⊥
not_four t x d l k i = let n = no_longer x t d (λ y m. included t x y i m) in omega arith

-- a number that fails `is_in` is no member
apart : (t : List ℕ) (a : ℕ) → is_in t a ≡ false → (x : ℕ) → Member x t → a ≡ x → ⊥
apart t a out x m e = both_ways (is_in t a) out (member_in t a (subst (λ v. Member v t) (sym e) m))

-- one of the four cycles of a cell has the members of a triple
pub record HasCycle (x t : List ℕ) : Type 0 where
  pub cycle : List ℕ
  pub one : Member cycle (induced_cycles x)
  pub same : same_members t cycle ≡ true

-- it is the one without a corner that is not in the triple
leaves_out : (x t z : List ℕ) (a : ℕ) → are_different t ≡ true → length t ≡ 3 → includes x t ≡ true → is_in t a ≡ false → length z ≡ 3
    → ((y : ℕ) → (a ≡ y → ⊥) → Member y x → Member y z) → Member z (induced_cycles x) → HasCycle x t
leaves_out x t z a d l i out k rest one =
    let same = three_fill t z d l k (λ y m. rest y (apart t a out y m) (included x t y i m)) in
    record { cycle = z; one = one; same = same }

-- and some corner is not in the triple
has_cycle : (a b c d : ℕ) (t : List ℕ) → are_different (a ∷ b ∷ c ∷ d ∷ []) ≡ true → are_different t ≡ true → length t ≡ 3
    → includes (a ∷ b ∷ c ∷ d ∷ []) t ≡ true → (p q r s : Bool) → is_in t a ≡ p → is_in t b ≡ q → is_in t c ≡ r → is_in t d ≡ s
    → HasCycle (a ∷ b ∷ c ∷ d ∷ []) t
has_cycle a b c d t dx dt l i false q r s e f g h =
    leaves_out (a ∷ b ∷ c ∷ d ∷ []) t (b ∷ c ∷ d ∷ []) a dt l i e refl rest (inl refl)
  where
    rest : (y : ℕ) → (a ≡ y → ⊥) → Member y (a ∷ b ∷ c ∷ d ∷ []) → Member y (b ∷ c ∷ d ∷ [])
    rest y n m = grind arith
has_cycle a b c d t dx dt l i true false r s e f g h =
    leaves_out (a ∷ b ∷ c ∷ d ∷ []) t (a ∷ d ∷ c ∷ []) b dt l i f refl rest (inr (inl refl))
  where
    rest : (y : ℕ) → (b ≡ y → ⊥) → Member y (a ∷ b ∷ c ∷ d ∷ []) → Member y (a ∷ d ∷ c ∷ [])
    rest y n m = grind arith
has_cycle a b c d t dx dt l i true true false s e f g h =
    leaves_out (a ∷ b ∷ c ∷ d ∷ []) t (a ∷ b ∷ d ∷ []) c dt l i g refl rest (inr (inr (inl refl)))
  where
    rest : (y : ℕ) → (c ≡ y → ⊥) → Member y (a ∷ b ∷ c ∷ d ∷ []) → Member y (a ∷ b ∷ d ∷ [])
    rest y n m = grind arith
has_cycle a b c d t dx dt l i true true true false e f g h =
    leaves_out (a ∷ b ∷ c ∷ d ∷ []) t (a ∷ c ∷ b ∷ []) d dt l i h refl rest (inr (inr (inr (inl refl))))
  where
    rest : (y : ℕ) → (d ≡ y → ⊥) → Member y (a ∷ b ∷ c ∷ d ∷ []) → Member y (a ∷ c ∷ b ∷ [])
    rest y n m = grind arith
has_cycle a b c d t dx dt l i true true true true e f g h = absurd (not_four t (a ∷ b ∷ c ∷ d ∷ []) dx l refl all) where
  all : includes t (a ∷ b ∷ c ∷ d ∷ []) ≡ true
  all = rw (e, f, g, h) refl

-- each triple of corners of a cell has such a cycle
pub of_cell : (points : ℕ) (x t : List ℕ) → IsCell points x → are_different t ≡ true → length t ≡ 3 → includes x t ≡ true → HasCycle x t
of_cell points (a ∷ b ∷ c ∷ d ∷ []) t h dt l i =
    has_cycle a b c d t h.1 dt l i (is_in t a) (is_in t b) (is_in t c) (is_in t d) refl refl refl refl
of_cell points [] t h dt l i = absurd (omega (arith, h.0))
of_cell points (a ∷ []) t h dt l i = absurd (omega (arith, h.0))
of_cell points (a ∷ b ∷ []) t h dt l i = absurd (omega (arith, h.0))
of_cell points (a ∷ b ∷ c ∷ []) t h dt l i = absurd (omega (arith, h.0))
of_cell points (a ∷ b ∷ c ∷ d ∷ e ∷ xs) t h dt l i = absurd (omega (arith, h.0))

-- the number of cells that include a triple
abbrev pub incidence_count : List ℕ → List (List ℕ) → ℕ
incidence_count t cells = length (filter (λ cell. includes cell t) cells)

-- two tests that follow from each other are equal
pub same_test : (a b : Bool) → (a ≡ true → b ≡ true) → (b ≡ true → a ≡ true) → a ≡ b
same_test true b h k = sym (h refl)
same_test false true h k = k refl
same_test false false h k = refl

-- triples with the same members are in equally many cells
incidence_count_same : (t z : List ℕ) (cells : List (List ℕ)) → same_members t z ≡ true → incidence_count t cells ≡ incidence_count z cells
incidence_count_same t z cells same =
    let two = and_parts (includes t z) (includes z t) same in
    ap (λ xs. length xs) (filter_agree (λ cell. includes cell t) (λ cell. includes cell z)
    (λ c. same_test (includes c t) (includes c z) (λ i. includes_trans c t z i two.0) (λ i. includes_trans c z t i two.1)) cells)

-- the next cell adds one if it includes the triple, and else nothing
incidence_count_step : (t x : List ℕ) (earlier : List (List ℕ)) (in' : Bool) → includes x t ≡ in'
    → incidence_count t (earlier ++ x ∷ []) ≡ incidence_count t earlier + cond in' 1 0
incidence_count_step t x earlier true is =
    let counted = length-append (filter (λ cell. includes cell t) earlier) (x ∷ []) in
    rw (filter-append (λ cell. includes cell t) earlier (x ∷ [])) (rw is counted)
incidence_count_step t x earlier false is =
    let counted = length-append (filter (λ cell. includes cell t) earlier) [] in
    rw (filter-append (λ cell. includes cell t) earlier (x ∷ [])) (rw is counted)

-- if at most two cells include a triple, and a further cell is not the third one, at most two of all include it
few_step : (points : ℕ) (t x : List ℕ) (earlier : List (List ℕ)) (in' : Bool) → includes x t ≡ in' → are_different t ≡ true
    → length t ≡ 3 → IsCell points x → is_third earlier x ≡ false → incidence_count t earlier ≤ 2 → incidence_count t (earlier ++ x ∷ []) ≤ 2
few_step points t x earlier false is dt l cell third before = let e = incidence_count_step t x earlier false is in omega arith
few_step points t x earlier true is dt l cell third before =
    let h = of_cell points x t cell dt l is in
    let test = λ (face : List ℕ). nat_lt 1 (count_by (λ cell. includes cell face) earlier) in
    let passes = λ (e : test h.cycle ≡ true). any_by test (induced_cycles x) h.cycle h.one e in
    let fails = false_from_ne_true (test h.cycle) (λ e. both_ways (is_third earlier x) third (passes e)) in
    let one = ltb-false 1 (count_by (λ cell. includes cell h.cycle) earlier) fails in
    let counted = length-filter (λ cell. includes cell h.cycle) earlier in
    let same = incidence_count_same t h.cycle earlier h.same in
    let e = incidence_count_step t x earlier true is in
    omega arith

-- at most two cells of a mesh include a triple
few : (points : ℕ) (t : List ℕ) (earlier xs : List (List ℕ)) → are_different t ≡ true → length t ≡ 3 → AllByRecursion (IsCell points) xs
    → list_any (λ b. b) (along is_third earlier xs) ≡ false → incidence_count t earlier ≤ 2 → incidence_count t (earlier ++ xs) ≤ 2
few points t earlier [] dt l cells none before = rw (append-nil earlier) before
few points t earlier (x ∷ xs) dt l cells none before =
    let two = or_parts (is_third earlier x) (list_any (λ b. b) (along is_third (earlier ++ x ∷ []) xs)) none in
    let here = few_step points t x earlier (includes x t) refl dt l cells.0 two.0 before in
    subst (λ ys. incidence_count t ys ≤ 2) (append_assoc earlier (x ∷ []) xs) (few points t (earlier ++ x ∷ []) xs dt l cells.1 two.1 here)

-- equally many indices pass as members, if an index passes as its member does
places : {A : Type 0} (f : ℕ → Bool) (g : A → Bool) (d : A) (xs : List A) (a : ℕ)
    → ((i : ℕ) → i < length xs → f (a + i) ≡ g (get_or xs i d)) → length (filter f (range_with_len a (length xs))) ≡ length (filter g xs)
places f g d [] a h = refl
places f g d (x ∷ xs) a h = go (f a) (g x) here (filter f (range_with_len (a + 1) (length xs))) (places f g d xs (a + 1) more) where
  here : f a ≡ g x
  here = subst (λ n. f n ≡ g x) (add-zero a) (h 0 (omega arith))

  more : (i : ℕ) → i < length xs → f (a + 1 + i) ≡ g (get_or xs i d)
  more i l = let e : a + suc i ≡ a + 1 + i = omega arith in subst (λ n. f n ≡ g (get_or xs i d)) e (h (suc i) (omega arith))

  go : (b c : Bool) → b ≡ c → (ns : List ℕ) → length ns ≡ length (filter g xs)
      → length (cond b (a ∷ ns) ns) ≡ length (cond c (x ∷ filter g xs) (filter g xs))
  go true true e ns h = ap suc h
  go false false e ns h = h
  go true false e ns h = cc
  go false true e ns h = cc

-- three different corners of some cell
pub record IsFace (cells : List (List ℕ)) (t : List ℕ) : Type 0 where
  pub three : length t ≡ 3
  pub different : are_different t ≡ true
  pub in_a_cell : list_any (λ corners. includes corners t) cells ≡ true

-- a face of a mesh has such corners
pub face_is : (mesh : MeshLists) (face : ℕ) → face < count mesh Face → IsFace (corner_lists mesh) (corners mesh Face face)
face_is mesh face l =
    let e = element_is mesh Face 3 refl (corners mesh Face face) (member_at (elements mesh Face) face [] l) in
    record { three = e.0; different = different 0 (length mesh.points) (corners mesh Face face) e.1; in_a_cell = e.2 }

-- a face and a cell are incident if and only if the cell includes the face
pub incident_is : (mesh : MeshLists) → IsMesh (length mesh.points) (corner_lists mesh) → (face : ℕ) → face < count mesh Face
    → (cell : ℕ) → cell < count mesh Cell
    → is_incident mesh Face face Cell cell ≡ includes (corners mesh Cell cell) (corners mesh Face face)
incident_is mesh is face l cell k =
    let t = corners mesh Face face in
    let c = corners mesh Cell cell in
    let f = face_is mesh face l in
    let h = each_at (IsCell (length mesh.points)) (corner_lists mesh) c is.each (member_at (corner_lists mesh) cell [] k) in
    let out : includes t c ≡ false = false_from_ne_true (includes t c) (not_four t c h.1 f.three h.0) in
    ap (λ b. b || includes c t) out

-- subtraction of zero
less_zero : (n : ℕ) → n - 0 ≡ n
less_zero n = omega arith

-- a list with a member is not empty
some_kept : {A : Type 0} (xs : List A) (x : A) → Member x xs → 1 ≤ length xs
some_kept [] x m = absurd m
some_kept (y ∷ ys) x m = omega arith

-- the number of sides of a face is that of the cells that include it
sides_are : (mesh : MeshLists) → IsMesh (length mesh.points) (corner_lists mesh) → (face : ℕ) → face < count mesh Face
    → length (sides mesh face) ≡ incidence_count (corners mesh Face face) (corner_lists mesh)
sides_are mesh is face l =
    let t = corners mesh Face face in
    let cells = corner_lists mesh in
    let test = is_incident mesh Face face Cell in
    rw (less_zero (length cells)) (places test (λ cell. includes cell t) [] cells 0 at)
  where
    at : (i : ℕ) → i < length (corner_lists mesh)
        → is_incident mesh Face face Cell (0 + i) ≡ includes (corners mesh Cell i) (corners mesh Face face)
    at i k = rw (zero-add i) (incident_is mesh is face l i k)

-- a face has one side or two
pub one_or_two : (mesh : MeshLists) → IsMesh (length mesh.points) (corner_lists mesh) → (face : ℕ) → face < count mesh Face
    → (1 ≤ length (sides mesh face)) × (length (sides mesh face) ≤ 2)
one_or_two mesh is face l =
    let t = corners mesh Face face in
    let cells = corner_lists mesh in
    let f = face_is mesh face l in
    let e = sides_are mesh is face l in
    let m = any_found (λ cell. includes cell t) cells f.in_a_cell in
    let some = some_kept (filter (λ cell. includes cell t) cells) m.0 (member_kept (λ cell. includes cell t) cells m.0 m.1 m.2) in
    let most = few (length mesh.points) t [] cells f.different f.three is.each is.together.1 (omega arith) in
    (omega arith, omega arith)
