-- Searches in a table, and the edge between two vertices.
use Rattle.std.proofs.Common.{◌≡◌, ◌⊎◌, ℕ, ◌+◌, ◌<◌, ◌≤◌, true, false, List, [], ◌∷◌, length, map, set, get_or, AllPairs, Contains, Option, Some, None, IfSome, IfNone, nat_cmp, Less, Equal, Greater, Ordering, refl, sym, ap, subst, ◌∙◌, inl, inr, arith}
use Rattle.std.specs.Cmp.Lexicographic.{slice_cmp, nat_list_cmp_total, texts_ties, same_text}
use Rattle.std.specs.List.{HoldsAt}
use Rattle.std.specs.List.Sorted.{IsSorted, IsNonDecreasingBy, IsPartitionPoint}
use Rattle.std.specs.Ordering.{is_lt, is_eq, ordering_index}
use Rattle.std.proofs.lemmas.Bool.{and_parts, and_from, cases_eq, cases_lt}
use Rattle.std.proofs.lemmas.List.{ext_get_or, get_or-map, get_or-set_same, get_or-set_other, get_or_default, length-map, length-set}
use Rattle.std.proofs.lemmas.Cmp.{tied_itself}
use Rattle.std.proofs.lemmas.List.Quantifiers.{position-Some}
use Rattle.std.proofs.lemmas.List.Sorted.{searchable_from_sorted}
use Rattle.liszt_base.specs.Corners.{includes, same_members}
use Rattle.liszt_base.specs.MeshLists.{MeshLists}
use Rattle.liszt_base.specs.declared.elements.Kind.TheVariants.{Edge}
use Rattle.mesh_topology.specs.Internal.Combinations.{AreRanks, AreRanksSoFar}
use Rattle.mesh_topology.specs.Elements.{elements, count, corners, id_of_corners}
use Rattle.mesh_topology.proofs.MemberLemmas.{Member, included, includes_trans}
use Rattle.mesh_topology.proofs.OrderLemmas.{Before}
use Rattle.mesh_topology.proofs.RankLemmas.{id_of_corners_is}
use Rattle.mesh_topology.proofs.CombinationLemmas.{IsAscending}
use Rattle.mesh_topology.proofs.CycleLemmas.{same_by}
use Rattle.mesh_topology.proofs.ListLemmas.{not_both_before}
use Rattle.mesh_topology.proofs.NearLemmas.{corner_set_is}

-- lists that compare as equal are equal
equal_is : (xs ys : List ℕ) → slice_cmp nat_cmp xs ys ≡ Equal → xs ≡ ys
equal_is xs ys e = same_text xs ys (sym (texts_ties xs ys ∙ ap (λ o. is_eq o) e))

-- a table is sorted
sorted_of : (table : List (List ℕ)) → AllPairs Before table → IsSorted (slice_cmp nat_cmp) table
sorted_of table up = λ k d low l. go (get_or table k d) (get_or table (k + 1) d) (up k (k + 1) d (omega arith) l) (slice_cmp nat_cmp (get_or table (k + 1) d) (get_or table k d)) refl where
  go : (x y : List ℕ) → Before x y → (o : Ordering) → slice_cmp nat_cmp y x ≡ o → is_lt o ≡ false
  go x y b Less e = absurd (not_both_before x y b e)
  go x y b Equal e = refl
  go x y b Greater e = refl

-- the index that a search gives is that of the set
pub found_at : (table : List (List ℕ)) (set : List ℕ) (id : ℕ) → id < length table → HoldsAt (λ y. slice_cmp nat_cmp y set ≡ Equal) table id
    → (id < length table) × (get_or table id [] ≡ set)
found_at table set id l h = (l, equal_is (get_or table id []) set (h []))

not_equal : (o : Ordering) → o ≡ Equal → (o ≡ Less) ⊎ (o ≡ Greater) → ⊥
not_equal o e (inl f) = cc
not_equal o e (inr f) = cc

cmp_itself : (xs : List ℕ) → slice_cmp nat_cmp xs xs ≡ Equal
cmp_itself xs = tied_itself nat_list_cmp_total xs

-- if a search gives none, the set is not in the table
pub none_at : (table : List (List ℕ)) (set : List ℕ) (at : ℕ) → AllPairs Before table
    → (IsNonDecreasingBy (λ y. ordering_index (slice_cmp nat_cmp y set)) table → IsPartitionPoint (λ y. slice_cmp nat_cmp y set ≡ Less) (λ y. slice_cmp nat_cmp y set ≡ Greater) table at)
    → (id : ℕ) → id < length table → get_or table id [] ≡ set → ⊥
none_at table set at up h id l e =
    let parts = h (searchable_from_sorted nat_list_cmp_total (λ x. x) table set (sorted_of table up)) in
    let same : slice_cmp nat_cmp (get_or table id []) set ≡ Equal = ap (λ x. slice_cmp nat_cmp x set) e ∙ cmp_itself set in
    elim (cases_lt id at) [
      | inl m ↦ not_equal (slice_cmp nat_cmp (get_or table id []) set) same (inl (parts.0 id [] (omega arith) m))
      | inr m ↦ not_equal (slice_cmp nat_cmp (get_or table id []) set) same (inr (parts.1 id [] m l))
    ]

-- ascending pairs with the same members are equal
same_pair : (p q x y : ℕ) → p < q → x ≤ y → Member x (p ∷ q ∷ []) → Member y (p ∷ q ∷ []) → Member p (x ∷ y ∷ []) → Member q (x ∷ y ∷ []) → (p ≡ x) × (q ≡ y)
same_pair p q x y l m a b c d = (grind arith, grind arith)

pair_is : (set : List ℕ) (x y : ℕ) → length set ≡ 2 → IsAscending set → x ≤ y → same_members set (x ∷ y ∷ []) ≡ true → set ≡ x ∷ y ∷ []
pair_is (p ∷ q ∷ []) x y l r m same =
    let parts = and_parts (includes (p ∷ q ∷ []) (x ∷ y ∷ [])) (includes (x ∷ y ∷ []) (p ∷ q ∷ [])) same in
    let into = λ (z : ℕ) (k : Member z (x ∷ y ∷ [])). included (p ∷ q ∷ []) (x ∷ y ∷ []) z parts.0 k in
    let from = λ (z : ℕ) (k : Member z (p ∷ q ∷ [])). included (x ∷ y ∷ []) (p ∷ q ∷ []) z parts.1 k in
    let e = same_pair p q x y (r.0 q (inl refl)) m (into x (inl refl)) (into y (inr (inl refl))) (from p (inl refl)) (from q (inr (inl refl))) in
    let first : p ≡ x = e.0 in
    let second : q ≡ y = e.1 in
    cc
pair_is [] x y l r m same = absurd (omega arith)
pair_is (p ∷ []) x y l r m same = absurd (omega arith)
pair_is (p ∷ q ∷ s ∷ set) x y l r m same = absurd (omega arith)

-- the id of an edge is the index of its ends in ascending order
pub number_is : (mesh : MeshLists) (table : List (List ℕ)) → table ≡ elements mesh Edge → (a b x y : ℕ) → x ≤ y → same_members (a ∷ b ∷ []) (x ∷ y ∷ []) ≡ true → (r : Option ℕ)
    → IfSome r (λ id. (id < length table) × (get_or table id [] ≡ x ∷ y ∷ [])) → IfNone r ((id : ℕ) → id < length table → get_or table id [] ≡ x ∷ y ∷ [] → ⊥)
    → r ≡ id_of_corners mesh Edge (a ∷ b ∷ [])
number_is mesh table e a b x y m same (Some id) some none =
    let l : id < count mesh Edge = subst (λ t. id < length t) e some.0 in
    let is : corners mesh Edge id ≡ x ∷ y ∷ [] = ap (λ t. get_or t id []) (sym e) ∙ some.1 in
    sym (id_of_corners_is mesh Edge 2 refl id (a ∷ b ∷ []) l (subst (λ s. same_members (a ∷ b ∷ []) s ≡ true) (sym is) same))
number_is mesh table e a b x y m same None some none = go (id_of_corners mesh Edge (a ∷ b ∷ [])) refl where
  go : (o : Option ℕ) → id_of_corners mesh Edge (a ∷ b ∷ []) ≡ o → None ≡ o
  go None is = refl
  go (Some id) is =
      let p = position-Some (same_members (a ∷ b ∷ [])) (elements mesh Edge) id [] is in
      let h = corner_set_is mesh Edge 2 refl id p.0 in
      let set = corners mesh Edge id in
      let one = and_parts (includes (a ∷ b ∷ []) set) (includes set (a ∷ b ∷ [])) p.1 in
      let two = and_parts (includes (a ∷ b ∷ []) (x ∷ y ∷ [])) (includes (x ∷ y ∷ []) (a ∷ b ∷ [])) same in
      let both = and_from (includes set (x ∷ y ∷ [])) (includes (x ∷ y ∷ []) set) (includes_trans set (a ∷ b ∷ []) (x ∷ y ∷ []) one.1 two.0) (includes_trans (x ∷ y ∷ []) (a ∷ b ∷ []) set two.1 one.0) in
      let l : id < length table = subst (λ t. id < length t) (sym e) p.0 in
      absurd (none id l (ap (λ t. get_or t id []) e ∙ pair_is set x y h.size_is h.ascending m both))

-- the same for a set that equals these ends
pub number_by : (mesh : MeshLists) (table : List (List ℕ)) → table ≡ elements mesh Edge → (a b x y : ℕ) (set : List ℕ) → set ≡ x ∷ y ∷ [] → x ≤ y
    → same_members (a ∷ b ∷ []) (x ∷ y ∷ []) ≡ true → (r : Option ℕ) → IfSome r (λ id. (id < length table) × (get_or table id [] ≡ set))
    → IfNone r ((id : ℕ) → id < length table → get_or table id [] ≡ set → ⊥) → r ≡ id_of_corners mesh Edge (a ∷ b ∷ [])
number_by mesh table e a b x y set is m same r some none =
    number_is mesh table e a b x y m same r (subst (λ s. IfSome r (λ id. (id < length table) × (get_or table id [] ≡ s))) is some)
    (subst (λ s. IfNone r ((id : ℕ) → id < length table → get_or table id [] ≡ s → ⊥)) is none)

-- two ends are the same in either order
pub same_order : (a b : ℕ) → same_members (a ∷ b ∷ []) (a ∷ b ∷ []) ≡ true
same_order a b = same_by (a ∷ b ∷ []) (a ∷ b ∷ []) (λ x m. m) (λ x m. m)

pub other_order : (a b : ℕ) → same_members (a ∷ b ∷ []) (b ∷ a ∷ []) ≡ true
other_order a b = same_by (a ∷ b ∷ []) (b ∷ a ∷ []) (swap a b) (swap b a) where
  swap : (a b x : ℕ) → Member x (a ∷ b ∷ []) → Member x (b ∷ a ∷ [])
  swap a b x m = grind arith

-- the next set
pub ranks_step : (table sets : List (List ℕ)) (i : ℕ) (ids : List ℕ) (id : ℕ) → i < length sets → AreRanksSoFar table sets i ids → id < length table → get_or table id [] ≡ get_or sets i []
    → AreRanksSoFar table sets (i + 1) (set ids i id)
ranks_step table sets i ids id l so below between_starts = record { length_is = length-set ids i id ∙ so.length_is; at = at } where
  here : i < length ids
  here = omega (arith, so.length_is)

  at : (k : ℕ) → k < i + 1 → (get_or (set ids i id) k 0 < length table) × (get_or table (get_or (set ids i id) k 0) [] ≡ get_or sets k [])
  at k m = elim (cases_eq k i) [
    | inl e ↦
        let same : get_or (set ids i id) k 0 ≡ id = ap (λ j. get_or (set ids i id) j 0) e ∙ get_or-set_same ids i id 0 here in
        (subst (λ v. v < length table) (sym same) below, ap (λ v. get_or table v []) same ∙ (between_starts ∙ ap (λ j. get_or sets j []) (sym e)))
    | inr ne ↦
        let same : get_or (set ids i id) k 0 ≡ get_or ids k 0 = get_or-set_other ids i k id 0 ne in
        let one = so.at k (omega arith) in
        (subst (λ v. v < length table) (sym same) one.0, ap (λ v. get_or table v []) same ∙ one.1)
  ]

-- all sets
pub ranks_all : (table sets : List (List ℕ)) (i : ℕ) (ids : List ℕ) → length sets ≤ i → AreRanksSoFar table sets i ids → AreRanks table sets ids
ranks_all table sets i ids l so = record { below = below; sets_are = ext_get_or [] (map (λ id. get_or table id []) ids) sets (length-map ids (λ id. get_or table id []) ∙ so.length_is) same } where
  below : (id : ℕ) → Contains ids id → id < length table
  below id c = let k : c.0 < i = omega (arith, so.length_is, c.1) in subst (λ v. v < length table) (get_or_default ids c.0 0 id c.1 ∙ c.2) (so.at c.0 k).0

  same : (k : ℕ) → k < length (map (λ id. get_or table id []) ids) → get_or (map (λ id. get_or table id []) ids) k [] ≡ get_or sets k []
  same k m =
      let n : k < length ids = subst (λ v. k < v) (length-map ids (λ id. get_or table id [])) m in
      get_or-map (λ id. get_or table id []) ids k 0 [] n ∙ (so.at k (omega (arith, so.length_is))).1
