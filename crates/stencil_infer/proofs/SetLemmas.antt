-- Sets of accesses: sorted, without repeats, and added to.
use Rattle.std.proofs.Common.{◌≡◌, ◌⊎◌, ◌==◌, ◌&&◌, ◌<◌, ◌+◌, ℕ, suc, Bool, true, false, List, [], ◌∷◌, ◌++◌, length, get_or, refl, sym, subst, ◌∙◌, inl, inr, arith}
use Rattle.std.proofs.lemmas.Bool.{cases_Bool}
use Rattle.std.proofs.lemmas.Bool.Decides.{nat_tests}
use Rattle.std.proofs.lemmas.List.Elements.{Contains-append_left, Contains-append_right, Contains-append_cases}
use Rattle.std.proofs.lemmas.List.Sorted.{Contains-permutation, IsPermutation-sym}
use Rattle.std.specs.Ordering.{is_lt, nat_cmp, ordering_then}
use Rattle.std.specs.declared.cmp.Ordering.{Ordering}
use Rattle.std.proofs.lemmas.List.Kept.{Contains-from_dedup}
use Rattle.liszt_base.specs.Limits.{entry_limit}
use Rattle.std.specs.List.{AllPairs, AllByRecursion, Contains, dedup, dedup_from}
use Rattle.std.specs.List.Sorted.{IsPermutation, IsSortedByKey}
use Rattle.liszt_base.specs.declared.accesses.Access.{Access}
use Rattle.mesh_topology.proofs.MemberLemmas.{Member, member_contained, contained_member}
use Rattle.stencil_infer.specs.Internal.AccessSets.{HasOneMode, HasMembers, IsOverfull}
use Rattle.stencil_infer.specs.Stencils.{Precedes}
use Rattle.stencil_infer.proofs.StencilLemmas.{IsAscending, pairs_of}

-- THE KEY of an access, and its order
abbrev pub key : Access → ℕ × ℕ
key a = (a.spot.field, a.spot.id)

abbrev pub compare : ℕ × ℕ → ℕ × ℕ → Ordering
compare x y = ordering_then (nat_cmp x.0 y.0) (nat_cmp x.1 y.1)

abbrev pub same_spot : Access → Access → Bool
same_spot a b = (a.spot.field == b.spot.field) && (a.spot.id == b.spot.id)

abbrev NotAfter : Access → Access → Type 0
NotAfter a b = (a.spot ≡ b.spot) ⊎ Precedes a b

not_after : (a b : Access) → is_lt (compare (key b) (key a)) ≡ false → NotAfter a b
not_after a b e = grind (arith, nat_tests, e)

spots : (a b : Access) → same_spot a b ≡ true → a.spot ≡ b.spot
spots a b e = grind (arith, nat_tests, e)

apart : (a b : Access) → NotAfter a b → same_spot b a ≡ false → Precedes a b
apart a b h e = grind (arith, nat_tests, h, e)

then_not_after : (a b c : Access) → Precedes a b → NotAfter b c → Precedes a c
then_not_after a b c h g = grind (arith, h, g)

from_same : (a b c : Access) → a.spot ≡ b.spot → NotAfter a c → NotAfter b c
from_same a b c e h = grind (arith, e, h)

-- SORTED lists
abbrev IsRising : List Access → Type 0
IsRising [] = Unit {0}
IsRising (a ∷ []) = Unit {0}
IsRising (a ∷ b ∷ rest) = NotAfter a b × IsRising (b ∷ rest)

rising_of : (xs : List Access) → IsSortedByKey key compare xs → IsRising xs
rising_of [] h = tt
rising_of (a ∷ []) h = tt
rising_of (a ∷ b ∷ rest) h = (
  not_after a b (h 0 a (omega arith) (omega arith)),
  rising_of (b ∷ rest) (λ k d low l.
      let next : suc k + 1 ≡ suc (k + 1) = omega arith in
      subst (λ n. is_lt (compare (key (get_or (a ∷ b ∷ rest) n d)) (key (get_or (b ∷ rest) k d))) ≡ false) next (h (suc k) d (omega arith) (omega (arith, l)))),
)

rising_same : (a b : Access) (xs : List Access) → b.spot ≡ a.spot → IsRising (b ∷ xs) → IsRising (a ∷ xs)
rising_same a b [] e h = tt
rising_same a b (x ∷ xs) e h = (from_same b a x e h.0, h.1)

rising_tail : (a : Access) (xs : List Access) → IsRising (a ∷ xs) → IsRising xs
rising_tail a [] h = tt
rising_tail a (x ∷ xs) h = h.1

-- ONE OF EACH SPOT
unique_above : (lower a : Access) (xs : List Access) → Precedes lower a → IsRising (a ∷ xs) → AllByRecursion (Precedes lower) (dedup_from same_spot a xs)
unique_above lower a [] h up = (h, tt)
unique_above lower a (x ∷ xs) h up = elim (cases_Bool (same_spot x a)) [
  | inl same ↦ rw same (unique_above lower a xs h (rising_same a x xs (spots x a same) up.1))
  | inr other ↦ rw other (h, unique_above lower x xs (then_not_after lower a x h up.0) up.1)
]

unique_ascends : (a : Access) (xs : List Access) → IsRising (a ∷ xs) → IsAscending (dedup_from same_spot a xs)
unique_ascends a [] up = (tt, tt)
unique_ascends a (x ∷ xs) up = elim (cases_Bool (same_spot x a)) [
  | inl same ↦ rw same (unique_ascends a xs (rising_same a x xs (spots x a same) up.1))
  | inr other ↦ rw other (unique_above a x xs (apart a x up.0 other) up.1, unique_ascends x xs up.1)
]

abbrev OneMode : List Access → Type 0
OneMode xs = (a b : Access) → Member a xs → Member b xs → a.spot ≡ b.spot → b ≡ a

without : (a x c : Access) (xs : List Access) → Member c (a ∷ xs) → Member c (a ∷ x ∷ xs)
without a x c xs (inl here) = inl here
without a x c xs (inr m) = inr (inr m)

onto : (a x b : Access) (xs : List Access) → a ≡ x → Member b (a ∷ x ∷ xs) → Member b (a ∷ xs)
onto a x b xs is (inl here) = inl here
onto a x b xs is (inr (inl here)) = inl (is ∙ here)
onto a x b xs is (inr (inr m)) = inr m

later : (a x b : Access) (xs ys : List Access) → (Member b (x ∷ xs) → Member b ys) → Member b (a ∷ x ∷ xs) → Member b (a ∷ ys)
later a x b xs ys h (inl here) = inl here
later a x b xs ys h (inr m) = inr (h m)

unique_keeps : (a b : Access) (xs : List Access) → OneMode (a ∷ xs) → Member b (a ∷ xs) → Member b (dedup_from same_spot a xs)
unique_keeps a b [] one m = m
unique_keeps a b (x ∷ xs) one m = elim (cases_Bool (same_spot x a)) [
  | inl same ↦
      let is : a ≡ x = one x a (inr (inl refl)) (inl refl) (spots x a same) in
      let kept : Member b (dedup_from same_spot a xs) =
      unique_keeps a b xs (λ c d m n e. one c d (without a x c xs m) (without a x d xs n) e) (onto a x b xs is m) in rw same kept
  | inr other ↦ rw other (later a x b xs (dedup_from same_spot x xs) (unique_keeps x b xs (λ c d m n e. one c d (inr m) (inr n) e)) m)
]

ascends : (xs : List Access) → IsRising xs → IsAscending (dedup same_spot xs)
ascends [] up = tt
ascends (x ∷ xs) up = unique_ascends x xs up

keeps : (b : Access) (xs : List Access) → OneMode xs → Member b xs → Member b (dedup same_spot xs)
keeps b [] one m = m
keeps b (x ∷ xs) one m = unique_keeps x b xs one m

pub order_ascends : (sorted items : List Access) → IsSortedByKey key compare sorted → items ≡ dedup same_spot sorted → AllPairs Precedes items
order_ascends sorted items h is = subst (AllPairs Precedes) (sym is) (pairs_of (dedup same_spot sorted) (ascends sorted (rising_of sorted h)))

pub order_keeps : (past sorted items : List Access) → IsPermutation past sorted → items ≡ dedup same_spot sorted → HasOneMode past → HasMembers past items
order_keeps past sorted items moved is one =
    let back : (a : Access) → Member a sorted → Contains past a = λ a m. Contains-permutation sorted past a (IsPermutation-sym past sorted moved) (contained_member sorted a m) in
    record {
      has_all = λ a h. subst (λ items. Contains items a) (sym is)
          (contained_member (dedup same_spot sorted) a
          (keeps a sorted (λ a b m n e. one a b (back a m) (back b n) e) (member_contained sorted a (Contains-permutation past sorted a moved h))));
      has_no_other = λ a h. Contains-permutation sorted past a (IsPermutation-sym past sorted moved)
          (Contains-from_dedup same_spot sorted a (subst (λ items. Contains items a) is h));
    }

-- WHAT A SET HOLDS
one_mode_of : (past items : List Access) → HasMembers past items → HasOneMode past → HasOneMode items
one_mode_of past items h one = λ a b m n e. one a b (h.has_no_other a m) (h.has_no_other b n) e

members_then : (past items later : List Access) → HasMembers past items → HasMembers items later → HasMembers past later
members_then past items later h g = record { has_all = λ a m. g.has_all a (h.has_all a m); has_no_other = λ a m. h.has_no_other a (g.has_no_other a m) }

pub compacted_members : (past items later : List Access) → (HasOneMode past → HasMembers past items) → (HasOneMode items → HasMembers items later) → HasOneMode past → HasMembers past later
compacted_members past items later h g one = members_then past items later (h one) (g (one_mode_of past items (h one) one))

pub compacted_full : (past items later : List Access) → (HasOneMode past → HasMembers past items) → (HasOneMode items → HasMembers items later) → AllPairs Precedes later
    → entry_limit < length later → HasOneMode past → IsOverfull past
compacted_full past items later h g up many one =
    let same : HasMembers past later = compacted_members past items later h g one in
    record { some = later; many = many; ascending = up; within = same.has_no_other }

one_mode_left : (past more : List Access) → HasOneMode (past ++ more) → HasOneMode past
one_mode_left past more one = λ a b m n e. one a b (Contains-append_left past more a m) (Contains-append_left past more b n) e

pub added_members : (past items more : List Access) → (HasOneMode past → HasMembers past items) → HasOneMode (past ++ more) → HasMembers (past ++ more) (items ++ more)
added_members past items more h one =
    let same : HasMembers past items = h (one_mode_left past more one) in
    record {
      has_all = λ a m. elim (Contains-append_cases past more a m) [
        | inl old ↦ Contains-append_left items more a (same.has_all a old)
        | inr new ↦ Contains-append_right items more a new
      ];
      has_no_other = λ a m. elim (Contains-append_cases items more a m) [
        | inl old ↦ Contains-append_left past more a (same.has_no_other a old)
        | inr new ↦ Contains-append_right past more a new
      ];
    }

pub added_full : (past more : List Access) → (HasOneMode past → IsOverfull past) → HasOneMode (past ++ more) → IsOverfull (past ++ more)
added_full past more h one =
    let over : IsOverfull past = h (one_mode_left past more one) in
    record { some = over.some; many = over.many; ascending = over.ascending; within = λ a m. Contains-append_left past more a (over.within a m) }
