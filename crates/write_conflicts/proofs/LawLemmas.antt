-- There is one first clash and one list of what iterations touch, and its numbers are shared where iterations are in conflict.
use Rattle.std.proofs.Common.{◌≡◌, ◌≢◌, ◌⊎◌, ℕ, zero, suc, ◌<◌, ◌≤◌, true, Option, Some, List, [], ◌∷◌, map, length, get_or}
use Rattle.std.proofs.Common.{refl, sym, ap, subst, ◌∙◌, inl, inr, arith}
use Rattle.std.specs.Prelude.{◌↔◌, slice_get}
use Rattle.std.specs.List.{AllPairs, Contains}
use Rattle.std.proofs.lemmas.Bool.{both_ways, cases_order}
use Rattle.std.proofs.lemmas.List.{length-map}
use Rattle.std.proofs.lemmas.Option.{slice_get_within, get_or_from_slice_get}
use Rattle.liszt_base.specs.declared.accesses.Access.{Access}
use Rattle.liszt_base.specs.declared.accesses.Spot.{Spot}
use Rattle.write_conflicts.specs.Conflicts.{precedes, reduced_spots, accesses_at, AreReducedSpots, AreTouched, Conflict, IsFirstClash}
use Rattle.write_conflicts.proofs.KeyLemmas.{precedes_from, precedes_parts}
use Rattle.write_conflicts.proofs.MemberLemmas.{contains_cases, contains_first, contains_later, contains_map, map_contains, contains_reduced, reduced_contains, not_in_nil}

abbrev Precedes : Spot → Spot → Type 0
Precedes s t = precedes s t ≡ true

-- the order is strict and total
no_cycle : (s t : Spot) → Precedes s t → Precedes t s → ⊥
no_cycle s t h g = go (precedes_parts s t h) (precedes_parts t s g) where
  go : (s.field < t.field) ⊎ ((s.field ≡ t.field) × (s.id < t.id)) → (t.field < s.field) ⊎ ((t.field ≡ s.field) × (t.id < s.id)) → ⊥
  go (inl a) (inl b) = omega arith
  go (inl a) (inr (e, b)) = omega arith
  go (inr (e, a)) (inl b) = omega arith
  go (inr (e, a)) (inr (e', b)) = omega arith

same_spot : (s t : Spot) → s.field ≡ t.field → s.id ≡ t.id → s ≡ t
same_spot s t e f = ap (λ n. record { field = n; id = s.id }) e ∙ ap (λ n. record { field = t.field; id = n }) f

pub total : (s t : Spot) → (s ≡ t) ⊎ (Precedes s t ⊎ Precedes t s)
total s t =
    elim (cases_order s.field t.field) [
      | inl e ↦ elim (cases_order s.id t.id) [
        | inl f ↦ inl (same_spot s t e f)
        | inr (inl less) ↦ inr (inl (precedes_from s t (inr (e, less))))
        | inr (inr more) ↦ inr (inr (precedes_from t s (inr (sym e, more))))
      ]
      | inr (inl less) ↦ inr (inl (precedes_from s t (inl less)))
      | inr (inr more) ↦ inr (inr (precedes_from t s (inl more)))
    ]

-- one first clash
pub one_first : (lists : List (List Access)) (spot other : Spot) (first second i j : ℕ)
    → IsFirstClash lists spot first second → IsFirstClash lists other i j → (spot ≡ other) × (first ≡ i) × (second ≡ j)
one_first lists spot other first second i j h g =
    let is : spot ≡ other = elim (total spot other) [
      | inl e ↦ e
      | inr (inl before) ↦ absurd (both_ways (precedes spot other) (g.least spot first second h.clash) before)
      | inr (inr after) ↦ absurd (both_ways (precedes other spot) (h.least other i j g.clash) after)
    ] in
    let g' = subst (λ s. IsFirstClash lists s i j) (sym is) g in
    let n = two first second i j h.order g'.order (h.two_least i g'.clash.by_first) (h.two_least j g'.clash.by_second)
    (g'.two_least first h.clash.by_first) (g'.two_least second h.clash.by_second) in
    (is, n.0, n.1) where
      two : (a b c d : ℕ) → a < b → c < d → (c ≡ a) ⊎ (b ≤ c) → (d ≡ a) ⊎ (b ≤ d) → (a ≡ c) ⊎ (d ≤ a) → (b ≡ c) ⊎ (d ≤ b)
          → (a ≡ c) × (b ≡ d)
      two a b c d lt lt' p q r s = (grind arith, grind arith)

-- two ascending lists with the same members are equal
ascending_tail : (x : Spot) (xs : List Spot) → AllPairs Precedes (x ∷ xs) → AllPairs Precedes xs
ascending_tail x xs h = λ i j d lt lt'. h (suc i) (suc j) d (omega arith) (omega arith)

head_precedes : (x y : Spot) (xs : List Spot) → AllPairs Precedes (x ∷ xs) → Contains xs y → Precedes x y
head_precedes x y xs h m = subst (λ s. Precedes x s) m.2 (h 0 (suc m.0) y (omega arith) (omega (arith, m.1)))

heads_equal : (x y : Spot) (xs ys : List Spot) → AllPairs Precedes (x ∷ xs) → AllPairs Precedes (y ∷ ys)
    → Contains (y ∷ ys) x → Contains (x ∷ xs) y → x ≡ y
heads_equal x y xs ys up up' m m' =
    elim (contains_cases y x ys m) [
      | inl e ↦ sym e
      | inr later ↦ elim (contains_cases x y xs m') [
        | inl e ↦ e
        | inr later' ↦ absurd (no_cycle x y (head_precedes x y xs up later') (head_precedes y x ys up' later))
      ]
    ]

tail_member : (x y s : Spot) (xs ys : List Spot) → AllPairs Precedes (x ∷ xs) → x ≡ y → Contains xs s → Contains (y ∷ ys) s → Contains ys s
tail_member x y s xs ys up e m m' =
    elim (contains_cases y s ys m') [
      | inl e' ↦
          let before = head_precedes x s xs up m in
          let itself = subst (λ t. Precedes t s) (e ∙ e') before in absurd (no_cycle s s itself itself)
      | inr later ↦ later
    ]

same_ascending : (xs ys : List Spot) → AllPairs Precedes xs → AllPairs Precedes ys → ((s : Spot) → Contains xs s → Contains ys s)
    → ((s : Spot) → Contains ys s → Contains xs s) → xs ≡ ys
same_ascending [] [] up up' h g = refl
same_ascending [] (y ∷ ys) up up' h g = absurd (not_in_nil y (g y (contains_first y y ys refl)))
same_ascending (x ∷ xs) [] up up' h g = absurd (not_in_nil x (h x (contains_first x x xs refl)))
same_ascending (x ∷ xs) (y ∷ ys) up up' h g =
    let e = heads_equal x y xs ys up up' (h x (contains_first x x xs refl)) (g y (contains_first y y ys refl)) in
    let rest = same_ascending xs ys (ascending_tail x xs up) (ascending_tail y ys up')
    (λ s m. tail_member x y s xs ys up e m (h s (contains_later x s xs m)))
    (λ s m. tail_member y x s ys xs up' (sym e) m (g s (contains_later y s ys m))) in
    ap (λ s. s ∷ xs) e ∙ ap (λ l. y ∷ l) rest

same_reduced : (lists : List (List Access)) (spots others : List Spot) → AreReducedSpots lists spots → AreReducedSpots lists others
    → spots ≡ others
same_reduced lists spots others h g =
    same_ascending spots others h.ascending g.ascending (λ s m. let r = h.each s m in g.all r.0 s r.1)
    (λ s m. let r = g.each s m in h.all r.0 s r.1)

-- a spot has one rank
one_rank : (spots : List Spot) (m n : ℕ) (spot : Spot) → AllPairs Precedes spots → slice_get spots m ≡ Some spot → slice_get spots n ≡ Some spot
    → m ≡ n
one_rank spots m n spot up e f =
    let a = get_or_from_slice_get spots m spot spot e in
    let b = get_or_from_slice_get spots n spot spot f in
    let a_in = slice_get_within spots m spot e in
    let b_in = slice_get_within spots n spot f in
    elim (cases_order m n) [
      | inl same ↦ same
      | inr (inl less) ↦ let before = subst (λ s. Precedes s spot) a (subst (λ s. Precedes (get_or spots m spot) s) b (up m n spot less b_in)) in
          absurd (no_cycle spot spot before before)
      | inr (inr more) ↦ let before = subst (λ s. Precedes s spot) b (subst (λ s. Precedes (get_or spots n spot) s) a (up n m spot more a_in)) in
          absurd (no_cycle spot spot before before)
    ]

same_ranks : (spots : List Spot) (ms ns : List ℕ) (list : List Spot) → AllPairs Precedes spots
    → map (slice_get spots) ms ≡ map (λ spot. Some spot) list → map (slice_get spots) ns ≡ map (λ spot. Some spot) list → ms ≡ ns
same_ranks spots [] [] list up e f = refl
same_ranks spots [] (n ∷ ns) [] up e f = cc
same_ranks spots [] (n ∷ ns) (s ∷ list) up e f = cc
same_ranks spots (m ∷ ms) [] [] up e f = cc
same_ranks spots (m ∷ ms) [] (s ∷ list) up e f = cc
same_ranks spots (m ∷ ms) (n ∷ ns) [] up e f = cc
same_ranks spots (m ∷ ms) (n ∷ ns) (s ∷ list) up e f =
    let a : slice_get spots m ≡ Some s = cc in
    let b : slice_get spots n ≡ Some s = cc in
    let a' : map (slice_get spots) ms ≡ map (λ spot. Some spot) list = cc in
    let b' : map (slice_get spots) ns ≡ map (λ spot. Some spot) list = cc in
    let first = one_rank spots m n s up a b in
    let rest = same_ranks spots ms ns list up a' b' in
    ap (λ k. k ∷ ms) first ∙ ap (λ l. n ∷ l) rest

same_lists : (spots : List Spot) (touched other : List (List ℕ)) (lists : List (List Access)) → AllPairs Precedes spots
    → map (λ numbers. map (slice_get spots) numbers) touched ≡ map (λ list. map (λ spot. Some spot) (reduced_spots list)) lists
    → map (λ numbers. map (slice_get spots) numbers) other ≡ map (λ list. map (λ spot. Some spot) (reduced_spots list)) lists
    → touched ≡ other
same_lists spots [] [] lists up e f = refl
same_lists spots [] (n ∷ ns) [] up e f = cc
same_lists spots [] (n ∷ ns) (s ∷ list) up e f = cc
same_lists spots (m ∷ ms) [] [] up e f = cc
same_lists spots (m ∷ ms) [] (s ∷ list) up e f = cc
same_lists spots (m ∷ ms) (n ∷ ns) [] up e f = cc
same_lists spots (m ∷ ms) (n ∷ ns) (s ∷ list) up e f =
    let a : map (slice_get spots) m ≡ map (λ spot. Some spot) (reduced_spots s) = cc in
    let b : map (slice_get spots) n ≡ map (λ spot. Some spot) (reduced_spots s) = cc in
    let a' : map (λ numbers. map (slice_get spots) numbers) ms ≡ map (λ list. map (λ spot. Some spot) (reduced_spots list)) list = cc in
    let b' : map (λ numbers. map (slice_get spots) numbers) ns ≡ map (λ list. map (λ spot. Some spot) (reduced_spots list)) list = cc in
    let first = same_ranks spots m n (reduced_spots s) up a b in
    let rest = same_lists spots ms ns list up a' b' in
    ap (λ k. k ∷ ms) first ∙ ap (λ l. n ∷ l) rest

pub one_touched : (lists : List (List Access)) (touched other : List (List ℕ)) → AreTouched lists touched → AreTouched lists other
    → touched ≡ other
one_touched lists touched other h g =
    let is = same_reduced lists h.spots g.spots h.are_reduced g.are_reduced in
    same_lists h.spots touched other lists h.are_reduced.ascending h.ranks
    (subst (λ spots. map (λ numbers. map (slice_get spots) numbers) other ≡ map (λ list. map (λ spot. Some spot) (reduced_spots list)) lists)
    (sym is) g.ranks)

-- there is a list for each iteration
pub one_each : (lists : List (List Access)) (touched : List (List ℕ)) → AreTouched lists touched → length touched ≡ length lists
one_each lists touched h =
    sym (length-map touched (λ numbers. map (slice_get h.spots) numbers))
    ∙ (ap (λ (l : List (List (Option Spot))). length l) h.ranks ∙ length-map lists (λ list. map (λ spot. Some spot) (reduced_spots list)))

-- the ranks of one iteration
pub ranks_at : (spots : List Spot) (touched : List (List ℕ)) (lists : List (List Access)) (i : ℕ)
    → map (λ numbers. map (slice_get spots) numbers) touched ≡ map (λ list. map (λ spot. Some spot) (reduced_spots list)) lists
    → map (slice_get spots) (get_or touched i []) ≡ map (λ spot. Some spot) (reduced_spots (accesses_at lists i))
ranks_at spots [] [] i e = refl
ranks_at spots [] (list ∷ lists) i e = cc
ranks_at spots (ms ∷ touched) [] i e = cc
ranks_at spots (ms ∷ touched) (list ∷ lists) zero e = cc
ranks_at spots (ms ∷ touched) (list ∷ lists) (suc i) e = ranks_at spots touched lists i cc

-- the spot of a number that an iteration touches
spot_at : (spots : List Spot) (numbers : List ℕ) (list : List Spot) (n : ℕ) → map (slice_get spots) numbers ≡ map (λ spot. Some spot) list
    → Contains numbers n → (spot : Spot) × Contains list spot × (slice_get spots n ≡ Some spot)
spot_at spots numbers list n e m =
    let r = contains_map (λ (spot : Spot). Some spot) list (slice_get spots n)
    (subst (λ l. Contains l (slice_get spots n)) e (map_contains (slice_get spots) numbers n (slice_get spots n) m refl)) in
    (r.0, r.1, sym r.2)

-- and the number of a spot
number_at : (spots : List Spot) (numbers : List ℕ) (list : List Spot) (spot : Spot) → map (slice_get spots) numbers ≡ map (λ spot. Some spot) list
    → Contains list spot → (n : ℕ) × Contains numbers n × (slice_get spots n ≡ Some spot)
number_at spots numbers list spot e m =
    contains_map (slice_get spots) numbers (Some spot)
    (subst (λ l. Contains l (Some spot)) (sym e) (map_contains (λ (s : Spot). Some s) list spot (Some spot) m refl))

pub share_numbers : (lists : List (List Access)) (touched : List (List ℕ)) (i j : ℕ) → AreTouched lists touched → i ≢ j
    → ((n : ℕ) × Contains (get_or touched i []) n × Contains (get_or touched j []) n) ↔ Conflict lists i j
share_numbers lists touched i j h different = (into, from) where
  into : (n : ℕ) × Contains (get_or touched i []) n × Contains (get_or touched j []) n → Conflict lists i j
  into s =
      let a = spot_at h.spots (get_or touched i []) (reduced_spots (accesses_at lists i)) s.0 (ranks_at h.spots touched lists i h.ranks) s.1 in
      let b = spot_at h.spots (get_or touched j []) (reduced_spots (accesses_at lists j)) s.0 (ranks_at h.spots touched lists j h.ranks) s.2 in
      let is : Some b.0 ≡ Some a.0 = sym b.2 ∙ a.2 in
      let is' : b.0 ≡ a.0 = cc in
      record {
        different = different;
        spot = a.0;
        by_first = contains_reduced (accesses_at lists i) a.0 a.1;
        by_second = contains_reduced (accesses_at lists j) a.0 (subst (λ s. Contains (reduced_spots (accesses_at lists j)) s) is' b.1);
      }

  from : Conflict lists i j → (n : ℕ) × Contains (get_or touched i []) n × Contains (get_or touched j []) n
  from c =
      let a = number_at h.spots (get_or touched i []) (reduced_spots (accesses_at lists i)) c.spot (ranks_at h.spots touched lists i h.ranks)
      (reduced_contains (accesses_at lists i) c.spot c.by_first) in
      let b = number_at h.spots (get_or touched j []) (reduced_spots (accesses_at lists j)) c.spot (ranks_at h.spots touched lists j h.ranks)
      (reduced_contains (accesses_at lists j) c.spot c.by_second) in
      let is = one_rank h.spots b.0 a.0 c.spot h.are_reduced.ascending b.2 a.2 in
      (a.0, a.1, subst (λ n. Contains (get_or touched j []) n) is b.1)
