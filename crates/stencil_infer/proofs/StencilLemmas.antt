-- Accesses with one mode at each field have one ordered list.
use Rattle.std.proofs.Common.{◌≡◌, ◌⊎◌, ℕ, suc, true, false, List, [], ◌∷◌, refl, sym, ap, subst, ◌∙◌, inl, inr, length, ◌≤◌, arith}
use Rattle.std.proofs.lemmas.Bool.{cases_Bool}
use Rattle.std.proofs.lemmas.Bool.Decides.{nat_tests}
use Rattle.std.proofs.lemmas.List.Elements.{recursion_from_All, All-from_recursion}
use Rattle.std.proofs.lemmas.List.Kept.{AllPairs-cons}
use Rattle.std.specs.Prelude.{Option, Some}
use Rattle.std.specs.List.{AllPairs, AllByRecursion, Contains}
use Rattle.liszt_base.specs.MeshLists.{MeshLists}
use Rattle.liszt_base.specs.declared.accesses.Access.{Access}
use Rattle.liszt_base.specs.declared.accesses.Mode.{Mode}
use Rattle.liszt_base.specs.declared.accesses.Spot.{Spot}
use Rattle.mesh_topology.proofs.MemberLemmas.{Member, member_contained, contained_member}
use Rattle.phase_types.specs.Environments.{Comprehension}
use Rattle.phase_types.specs.Typed.{ComprehensionFits}
use Rattle.phase_types.specs.Walk.{OfField, mode_in}
use Rattle.kernel_eval.specs.Preservation.{is_spot}
use Rattle.stencil_infer.specs.Stencils.{Precedes, precedes, with_access, stencil_of, IsStencil, iteration_accesses}
use Rattle.stencil_infer.proofs.AccessModeLemmas.{access_in_mode}

-- THE ORDER of spots
before : (a b : Access) → precedes a.spot b.spot ≡ true → Precedes a b
before a b e = grind (arith, nat_tests, e)

after : (a b : Access) → precedes a.spot b.spot ≡ false → is_spot a.spot b.spot ≡ false → Precedes b a
after a b e f = grind (arith, nat_tests, e, f)

same : (spot other : Spot) → is_spot spot other ≡ true → spot ≡ other
same spot other e = grind (arith, nat_tests, e)

transitive : (a b c : Access) → Precedes a b → Precedes b c → Precedes a c
transitive a b c h g = grind (arith, h, g)

irreflexive : (a b : Access) → Precedes a b → Precedes b a → ⊥
irreflexive a b h g = grind (arith, h, g)

abbrev pub IsAscending : List Access → Type 0
IsAscending [] = Unit {0}
IsAscending (a ∷ rest) = AllByRecursion (Precedes a) rest × IsAscending rest

pub all_above : (a x : Access) → Precedes a x → (xs : List Access) → AllByRecursion (Precedes x) xs → AllByRecursion (Precedes a) xs
all_above a x h [] all = tt
all_above a x h (y ∷ xs) all = (transitive a x y h all.0, all_above a x h xs all.1)

further : (a b x : Access) (xs : List Access) → (Member b (with_access a xs) → (a ≡ b) ⊎ Member b xs) → Member b (x ∷ with_access a xs) → (a ≡ b) ⊎ Member b (x ∷ xs)
further a b x xs h (inl here) = inr (inl here)
further a b x xs h (inr m) = elim (h m) [
  | inl is ↦ inl is
  | inr later ↦ inr (inr later)
]

-- ONE ACCESS MORE: the modes of all are those of a function of the field
module _ (mode : ℕ → Option Mode) where
  abbrev InMode : Access → Type 0
  InMode a = mode a.spot.field ≡ Some a.mode

  one_mode : (m n : Mode) → Some m ≡ Some n → m ≡ n
  one_mode m n e = cc

  same_access : (a b : Access) → InMode a → InMode b → is_spot a.spot b.spot ≡ true → b ≡ a
  same_access a b h g e =
      let is : a.spot ≡ b.spot = same a.spot b.spot e in
      let modes : a.mode ≡ b.mode = one_mode a.mode b.mode (sym h ∙ ap (λ spot. mode spot.field) is ∙ g) in
      let equal : a ≡ b = ap (λ spot. record { spot = spot; mode = a.mode }) is ∙ ap (λ m. record { spot = b.spot; mode = m }) modes in
      sym equal

  remains : (a b : Access) (xs : List Access) → Member b xs → Member b (with_access a xs)
  remains a b [] m = absurd m
  remains a b (x ∷ xs) m = elim (cases_Bool (precedes a.spot x.spot)) [
    | inl is ↦ rw is (inr m)
    | inr no_less ↦ elim (cases_Bool (is_spot a.spot x.spot)) [
      | inl is ↦ rw (no_less, is) m
      | inr other ↦ rw (no_less, other) (elim m [
        | inl here ↦ inl here
        | inr later ↦ inr (remains a b xs later)
      ])
    ]
  ]

  is_there : (a : Access) (xs : List Access) → InMode a → AllByRecursion InMode xs → Member a (with_access a xs)
  is_there a [] h all = inl refl
  is_there a (x ∷ xs) h all = elim (cases_Bool (precedes a.spot x.spot)) [
    | inl is ↦ rw is (inl refl)
    | inr no_less ↦ elim (cases_Bool (is_spot a.spot x.spot)) [
      | inl is ↦ rw (no_less, is) (inl (same_access a x h all.0 is))
      | inr other ↦ rw (no_less, other) (inr (is_there a xs h all.1))
    ]
  ]

  no_other : (a b : Access) (xs : List Access) → Member b (with_access a xs) → (a ≡ b) ⊎ Member b xs
  no_other a b [] (inl is) = inl is
  no_other a b [] (inr m) = absurd m
  no_other a b (x ∷ xs) m = elim (cases_Bool (precedes a.spot x.spot)) [
    | inl is ↦ rw is at m
    | inr no_less ↦ elim (cases_Bool (is_spot a.spot x.spot)) [
      | inl is ↦ inr (rw (no_less, is) at m)
      | inr other ↦ further a b x xs (no_other a b xs) (rw (no_less, other) at m)
    ]
  ]

  -- the order
  above : (lower a : Access) (xs : List Access) → Precedes lower a → AllByRecursion (Precedes lower) xs → AllByRecursion (Precedes lower) (with_access a xs)
  above lower a [] h all = (h, tt)
  above lower a (x ∷ xs) h all = elim (cases_Bool (precedes a.spot x.spot)) [
    | inl is ↦ rw is (h, (all.0, all.1))
    | inr no_less ↦ elim (cases_Bool (is_spot a.spot x.spot)) [
      | inl is ↦ rw (no_less, is) all
      | inr other ↦ rw (no_less, other) (all.0, above lower a xs h all.1)
    ]
  ]

  ordered : (a : Access) (xs : List Access) → IsAscending xs → IsAscending (with_access a xs)
  ordered a [] h = (tt, tt)
  ordered a (x ∷ xs) h = elim (cases_Bool (precedes a.spot x.spot)) [
    | inl is ↦ rw is ((before a x is, all_above a x (before a x is) xs h.0), (h.0, h.1))
    | inr no_less ↦ elim (cases_Bool (is_spot a.spot x.spot)) [
      | inl is ↦ rw (no_less, is) h
      | inr other ↦ rw (no_less, other) (above x a xs (after a x no_less other) h.0, ordered a xs h.1)
    ]
  ]

  stencil_ascends : (xs : List Access) → IsAscending (stencil_of xs)
  stencil_ascends [] = tt
  stencil_ascends (x ∷ xs) = ordered x (stencil_of xs) (stencil_ascends xs)

  only_these : (xs : List Access) (a : Access) → Member a (stencil_of xs) → Member a xs
  only_these [] a m = m
  only_these (x ∷ xs) a m = elim (no_other x a (stencil_of xs) m) [
    | inl is ↦ inl is
    | inr later ↦ inr (only_these xs a later)
  ]

  all_in_mode : (xs ys : List Access) → ((a : Access) → Member a ys → Member a xs) → ((a : Access) → Member a xs → InMode a) → AllByRecursion InMode ys
  all_in_mode xs [] f h = tt
  all_in_mode xs (y ∷ ys) f h = (h y (f y (inl refl)), all_in_mode xs ys (λ a m. f a (inr m)) h)

  all_these : (xs : List Access) → ((a : Access) → Member a xs → InMode a) → (a : Access) → Member a xs → Member a (stencil_of xs)
  all_these [] h a m = m
  all_these (x ∷ xs) h a (inl is) =
      subst (λ a. Member a (stencil_of (x ∷ xs))) is
      (is_there x (stencil_of xs) (h x (inl refl)) (all_in_mode xs (stencil_of xs) (only_these xs) (λ a m. h a (inr m))))
  all_these (x ∷ xs) h a (inr m) = remains x a (stencil_of xs) (all_these xs (λ a m. h a (inr m)) a m)

-- an ordered list, by its indices
pub pairs_of : (xs : List Access) → IsAscending xs → AllPairs Precedes xs
pairs_of [] h = λ i j d less within. absurd (omega (arith, within))
pairs_of (x ∷ xs) h = AllPairs-cons Precedes x xs (All-from_recursion (Precedes x) xs h.0) (pairs_of xs h.1)

pub ascending_of : (xs : List Access) → AllPairs Precedes xs → IsAscending xs
ascending_of [] h = tt
ascending_of (x ∷ xs) h = (
  recursion_from_All (Precedes x) xs (λ k d within. h 0 (suc k) d (omega arith) (omega (arith, within))),
  ascending_of xs (λ i j d less within. h (suc i) (suc j) d (omega (arith, less)) (omega (arith, within))),
)

pub has_stencil : (mesh : MeshLists) (c : Comprehension) (id : ℕ) → ComprehensionFits c → IsStencil mesh c id (stencil_of (iteration_accesses mesh c id))
has_stencil mesh c id fits =
    let xs : List Access = iteration_accesses mesh c id in
    let mode : ℕ → Option Mode = λ field. mode_in c (OfField field) in
    record {
      ascending = pairs_of (stencil_of xs) (stencil_ascends mode xs);
      has_all = λ a h. contained_member (stencil_of xs) a (all_these mode xs (access_in_mode mesh c id fits) a (member_contained xs a h));
      has_no_other = λ a h. contained_member xs a (only_these mode xs a (member_contained (stencil_of xs) a h));
    }

same_mode : (m n : Mode) → Some m ≡ Some n → m ≡ n
same_mode m n e = cc

-- TWO ORDERED LISTS with the same members are equal
at_or_above : (x a : Access) (xs : List Access) → AllByRecursion (Precedes x) xs → Member a (x ∷ xs) → (x ≡ a) ⊎ Precedes x a
at_or_above x a xs all (inl is) = inl is
at_or_above x a (y ∷ xs) all (inr (inl is)) = inr (subst (Precedes x) is all.0)
at_or_above x a (y ∷ xs) all (inr (inr m)) = at_or_above x a xs all.1 (inr m)
at_or_above x a [] all (inr m) = absurd m

member_above : (x a : Access) (xs : List Access) → AllByRecursion (Precedes x) xs → Member a xs → Precedes x a
member_above x a [] all m = absurd m
member_above x a (y ∷ xs) all (inl is) = subst (Precedes x) is all.0
member_above x a (y ∷ xs) all (inr m) = member_above x a xs all.1 m

first_is : (x y : Access) (xs ys : List Access) → AllByRecursion (Precedes x) xs → AllByRecursion (Precedes y) ys → Member x (y ∷ ys) → Member y (x ∷ xs) → y ≡ x
first_is x y xs ys h g m n = elim (at_or_above y x ys g m) [
  | inl is ↦ is
  | inr less ↦ elim (at_or_above x y xs h n) [
    | inl is ↦ sym is
    | inr more ↦ absurd (irreflexive x y more less)
  ]
]

rest_member : (x y a : Access) (xs ys : List Access) → y ≡ x → AllByRecursion (Precedes x) xs → Member a xs → Member a (y ∷ ys) → Member a ys
rest_member x y a xs ys is h m (inl here) =
    let less : Precedes x a = member_above x a xs h m in
    let itself : Precedes x x = subst (Precedes x) (sym (sym is ∙ here)) less in absurd (irreflexive x x itself itself)
rest_member x y a xs ys is h m (inr later) = later

one_list : (xs ys : List Access) → IsAscending xs → IsAscending ys → ((a : Access) → Member a xs → Member a ys) → ((a : Access) → Member a ys → Member a xs) → ys ≡ xs
one_list [] [] h g f e = refl
one_list [] (y ∷ ys) h g f e = absurd (e y (inl refl))
one_list (x ∷ xs) [] h g f e = absurd (f x (inl refl))
one_list (x ∷ xs) (y ∷ ys) h g f e =
    let is : y ≡ x = first_is x y xs ys h.0 g.0 (f x (inl refl)) (e y (inl refl)) in
    let rest : ys ≡ xs = one_list xs ys h.1 g.1 (λ a m. rest_member x y a xs ys is h.0 m (f a (inr m))) (λ a m. rest_member y x a ys xs (sym is) g.0 m (e a (inr m))) in
    ap (λ a. a ∷ ys) is ∙ ap (λ rest. x ∷ rest) rest

-- A LIST of some of the members of an ordered list is no longer.
not_first : (y a : Access) (ys : List Access) → Precedes y a → Member a (y ∷ ys) → Member a ys
not_first y a ys h (inl is) = let itself : Precedes a a = subst (λ y. Precedes y a) is h in absurd (irreflexive a a itself itself)
not_first y a ys h (inr m) = m

pub no_longer : (xs ys : List Access) → IsAscending xs → IsAscending ys → ((a : Access) → Member a xs → Member a ys) → length xs ≤ length ys
no_longer [] ys h g f = omega arith
no_longer (x ∷ xs) [] h g f = absurd (f x (inl refl))
no_longer (x ∷ xs) (y ∷ ys) h g f = elim (f x (inl refl)) [
  | inl is ↦ (let rest : length xs ≤ length ys = no_longer xs ys h.1 g.1 (λ a m. rest_member x y a xs ys is h.0 m (f a (inr m))) in omega (arith, rest))
  | inr later ↦
      let less : Precedes y x = member_above y x ys g.0 later in
      let rest : length (x ∷ xs) ≤ length ys = no_longer (x ∷ xs) ys h g.1 (λ a m. not_first y a ys (above_all y x a xs less h.0 m) (f a m)) in omega (arith, rest)
] where
  above_all : (y x a : Access) (xs : List Access) → Precedes y x → AllByRecursion (Precedes x) xs → Member a (x ∷ xs) → Precedes y a
  above_all y x a xs less h (inl is) = subst (Precedes y) is less
  above_all y x a xs less h (inr m) = transitive y x a less (member_above x a xs h m)

pub same_stencil : (mesh : MeshLists) (c : Comprehension) (id : ℕ) (stencil other : List Access) → IsStencil mesh c id stencil → IsStencil mesh c id other → other ≡ stencil
same_stencil mesh c id stencil other h g =
    one_list stencil other (ascending_of stencil h.ascending) (ascending_of other g.ascending)
    (λ a m. member_contained other a (g.has_all a (h.has_no_other a (contained_member stencil a m))))
    (λ a m. member_contained stencil a (h.has_all a (g.has_no_other a (contained_member other a m))))

pub one_mode_at : (mesh : MeshLists) (c : Comprehension) (id : ℕ) → ComprehensionFits c → (a b : Access) → Contains (iteration_accesses mesh c id) a
    → Contains (iteration_accesses mesh c id) b → a.spot ≡ b.spot → b ≡ a
one_mode_at mesh c id fits a b m n e =
    let xs : List Access = iteration_accesses mesh c id in
    let modes : a.mode ≡ b.mode =
    same_mode a.mode b.mode
    (sym (access_in_mode mesh c id fits a (member_contained xs a m)) ∙ ap (λ spot. mode_in c (OfField spot.field)) e
    ∙ access_in_mode mesh c id fits b (member_contained xs b n)) in
    let equal : a ≡ b = ap (λ spot. record { spot = spot; mode = a.mode }) e ∙ ap (λ m. record { spot = b.spot; mode = m }) modes in sym equal

pub no_more_accesses : (mesh : MeshLists) (c : Comprehension) (id : ℕ) (some : List Access) → ComprehensionFits c → AllPairs Precedes some
    → ((a : Access) → Contains some a → Contains (iteration_accesses mesh c id) a) → length some ≤ length (stencil_of (iteration_accesses mesh c id))
no_more_accesses mesh c id some fits up h =
    let whole = has_stencil mesh c id fits in
    let stencil : List Access = stencil_of (iteration_accesses mesh c id) in
    no_longer some stencil (ascending_of some up) (ascending_of stencil whole.ascending)
    (λ a m. member_contained stencil a (whole.has_all a (h a (contained_member some a m))))
