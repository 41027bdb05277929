-- The combinations of members of an ascending list, and their order.
use Rattle.std.proofs.Common.{◌≡◌, ◌⊎◌, ℕ, zero, suc, ◌<◌, List, [], ◌∷◌, map, length, refl, ap, subst, inl, inr, arith}
use Rattle.mesh_topology.specs.Internal.Combinations.{combinations}
use Rattle.mesh_topology.proofs.MemberLemmas.{Member, member_left, member_right, member_parted, member_map, member_mapped}
use Rattle.mesh_topology.proofs.OrderLemmas.{Pairs, pairs_append, pairs_map, Before, before_more, before_first}

-- each number is smaller than each later one
abbrev pub IsAscending : List ℕ → Type 0
IsAscending xs = Pairs (λ x y. x < y) xs

-- an ascending list of `size` members of a list
pub record IsCombination (size : ℕ) (xs set : List ℕ) : Type 0 where
  pub size_is : length set ≡ size
  pub ascending : IsAscending set
  pub inside : (x : ℕ) → Member x set → Member x xs

-- each combination is one
pub combination_is : (size : ℕ) (xs set : List ℕ) → IsAscending xs → Member set (combinations size xs) → IsCombination size xs set
combination_is zero xs set r (inl e) = subst (λ s. IsCombination zero xs s) e (record { size_is = refl; ascending = tt; inside = λ x m. absurd m })
combination_is zero xs set r (inr m) = absurd m
combination_is (suc size) [] set r m = absurd m
combination_is (suc size) (x ∷ xs) set r m = elim (member_parted (map (λ s. x ∷ s) (combinations size xs)) (combinations (suc size) xs) set m) [
  | inl l ↦
      let t = member_mapped (λ s. x ∷ s) (combinations size xs) set l in
      let c = combination_is size xs t.0 r.1 t.1 in
      let more : IsCombination (suc size) (x ∷ xs) (x ∷ t.0) = record {
        size_is = ap suc c.size_is;
        ascending = (λ y n. r.0 y (c.inside y n), c.ascending);
        inside = λ y n. elim n [ inl e ↦ inl e | inr k ↦ inr (c.inside y k) ];
      } in
      subst (λ s. IsCombination (suc size) (x ∷ xs) s) t.2 more
  | inr l ↦
      let c = combination_is (suc size) xs set r.1 l in
      record { size_is = c.size_is; ascending = c.ascending; inside = λ y n. inr (c.inside y n) }
]

-- a number is no member of an ascending list of larger numbers
without_first : (x : ℕ) (xs set : List ℕ) → ((y : ℕ) → Member y set → x < y) → ((y : ℕ) → Member y set → (x ≡ y) ⊎ Member y xs) → (y : ℕ) → Member y set → Member y xs
without_first x xs set above h y m = elim (h y m) [ inl e ↦ absurd (let l = above y m in omega arith) | inr n ↦ n ]

-- an ascending list of members of x ∷ xs begins with x or has members of xs only
above_first : (x : ℕ) (xs set : List ℕ) (y : ℕ) → IsAscending (x ∷ xs) → IsAscending (y ∷ set) → Member y xs → (z : ℕ) → Member z (y ∷ set) → x < z
above_first x xs set y r s m z (inl e) = let l = r.0 y m in omega arith
above_first x xs set y r s m z (inr n) = let l = r.0 y m in let k = s.0 z n in omega arith

-- each such list is a combination
pub is_combination : (size : ℕ) (xs set : List ℕ) → IsAscending xs → IsCombination size xs set → Member set (combinations size xs)
is_combination zero xs [] r c = inl refl
is_combination zero xs (y ∷ set) r c = let e = c.size_is in cc
is_combination (suc size) xs [] r c = let e = c.size_is in cc
is_combination (suc size) [] (y ∷ set) r c = absurd (c.inside y (inl refl))
is_combination (suc size) (x ∷ xs) (y ∷ set) r c = elim (c.inside y (inl refl)) [
  | inl e ↦
      let above : (z : ℕ) → Member z set → x < z = λ z m. (let l = c.ascending.0 z m in omega arith) in
      let rest = without_first x xs set above (λ z m. c.inside z (inr m)) in
      let size_is : length set ≡ size = let f = c.size_is in omega arith in
      let one = is_combination size xs set r.1 (record { size_is = size_is; ascending = c.ascending.1; inside = rest }) in
      let here = member_map (λ s. x ∷ s) (combinations size xs) set one in
      let all = member_left (map (λ s. x ∷ s) (combinations size xs)) (combinations (suc size) xs) (x ∷ set) here in
      subst (λ v. Member (v ∷ set) (combinations (suc size) (x ∷ xs))) e all
  | inr m ↦
      let rest = without_first x xs (y ∷ set) (above_first x xs set y r c.ascending m) c.inside in
      let one = is_combination (suc size) xs (y ∷ set) r.1 (record { size_is = c.size_is; ascending = c.ascending; inside = rest }) in
      member_right (map (λ s. x ∷ s) (combinations size xs)) (combinations (suc size) xs) (y ∷ set) one
]

-- combinations are in lexicographic order
pub choices_ordered : (size : ℕ) (xs : List ℕ) → IsAscending xs → Pairs Before (combinations size xs)
choices_ordered zero xs r = (λ y m. absurd m, tt)
choices_ordered (suc size) [] r = tt
choices_ordered (suc size) (x ∷ xs) r =
    let here = pairs_map Before Before (λ s. x ∷ s) (combinations size xs) (before_more x) (choices_ordered size xs r.1) in
    pairs_append Before (map (λ s. x ∷ s) (combinations size xs)) (combinations (suc size) xs) here (choices_ordered (suc size) xs r.1) apart
  where
    go : (s set : List ℕ) → Member set (combinations (suc size) xs) → IsCombination (suc size) xs set → Before (x ∷ s) set
    go s [] m c = let e = c.size_is in cc
    go s (y ∷ set) m c = before_first x y s set (r.0 y (c.inside y (inl refl)))

    apart : (a b : List ℕ) → Member a (map (λ s. x ∷ s) (combinations size xs)) → Member b (combinations (suc size) xs) → Before a b
    apart a b m k =
        let s = member_mapped (λ s. x ∷ s) (combinations size xs) a m in
        subst (λ z. Before z b) s.2 (go s.0 b k (combination_is (suc size) xs b r.1 k))
