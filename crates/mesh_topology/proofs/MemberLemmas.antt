-- Lists as sets: the meaning of the tests on them, and the length of lists without repeats.
use Rattle.std.proofs.Common.{◌≡◌, ◌⊎◌, ℕ, zero, suc, ◌+◌, ◌<◌, ◌≤◌, ◌==◌, not, cond, Bool, true, false, List, [], ◌∷◌, ◌++◌, map, length}
use Rattle.std.proofs.Common.{get_or, Contains, filter, flat_map, refl, sym, ap, subst, ◌∙◌, inl, inr, arith, eqb-true, eq-eqb}
use Rattle.std.specs.List.{list_any, list_all, range_with_len}
use Rattle.std.proofs.lemmas.Bool.{or_cases, or_left, or_right, and_parts, and_from, false_from_ne_true, not-true, not_from_false}
use Rattle.std.proofs.lemmas.Bool.{not_from_true, both_ways, cases_eq, cases_Bool}
use Rattle.liszt_base.specs.Corners.{is_in, includes, are_different}

-- x is in the list
abbrev pub Member : {A : Type 0} → A → List A → Type 0
Member x [] = ⊥
Member x (y ∷ ys) = (y ≡ x) ⊎ Member x ys

-- if `list_any` is true, some member passes
pub any_found : {A : Type 0} (p : A → Bool) (xs : List A) → list_any p xs ≡ true → (x : A) × Member x xs × (p x ≡ true)
any_found p [] e = cc
any_found p (x ∷ xs) e = elim (or_cases (p x) (list_any p xs) e) [
  | inl h ↦ (x, inl refl, h)
  | inr h ↦ let r = any_found p xs h in (r.0, inr r.1, r.2)
]

-- and conversely
pub any_by : {A : Type 0} (p : A → Bool) (xs : List A) (x : A) → Member x xs → p x ≡ true → list_any p xs ≡ true
any_by p [] x m h = absurd m
any_by p (y ∷ ys) x (inl e) h = or_left (p y) (list_any p ys) (ap p e ∙ h)
any_by p (y ∷ ys) x (inr m) h = or_right (p y) (list_any p ys) (any_by p ys x m h)

-- if `list_all` is true, each member passes
pub all_at : {A : Type 0} (p : A → Bool) (xs : List A) (x : A) → list_all p xs ≡ true → Member x xs → p x ≡ true
all_at p [] x e m = absurd m
all_at p (y ∷ ys) x e (inl h) = ap p (sym h) ∙ (and_parts (p y) (list_all p ys) e).0
all_at p (y ∷ ys) x e (inr m) = all_at p ys x (and_parts (p y) (list_all p ys) e).1 m

-- and conversely
pub all_by : {A : Type 0} (p : A → Bool) (xs : List A) → ((x : A) → Member x xs → p x ≡ true) → list_all p xs ≡ true
all_by p [] h = refl
all_by p (x ∷ xs) h = and_from (p x) (list_all p xs) (h x (inl refl)) (all_by p xs (λ y m. h y (inr m)))

-- `is_in` is membership
pub in_member : (xs : List ℕ) (x : ℕ) → is_in xs x ≡ true → Member x xs
in_member xs x e = let r = any_found (λ y. y == x) xs e in subst (λ z. Member z xs) (eqb-true r.0 x r.2) r.1

-- and conversely
pub member_in : (xs : List ℕ) (x : ℕ) → Member x xs → is_in xs x ≡ true
member_in xs x m = any_by (λ y. y == x) xs x m (eq-eqb x x refl)

-- the members of an included list are members
pub included : (xs ys : List ℕ) (x : ℕ) → includes xs ys ≡ true → Member x ys → Member x xs
included xs ys x e m = in_member xs x (all_at (is_in xs) ys x e m)

-- and conversely
pub includes_by : (xs ys : List ℕ) → ((x : ℕ) → Member x ys → Member x xs) → includes xs ys ≡ true
includes_by xs ys h = all_by (is_in xs) ys (λ x m. member_in xs x (h x m))

-- inclusion is transitive
pub includes_trans : (xs ys zs : List ℕ) → includes xs ys ≡ true → includes ys zs ≡ true → includes xs zs ≡ true
includes_trans xs ys zs a b = includes_by xs zs (λ x m. included xs ys x a (included ys zs x b m))

-- the item at an index is a member
pub member_at : {A : Type 0} (xs : List A) (k : ℕ) (d : A) → k < length xs → Member (get_or xs k d) xs
member_at [] k d l = absurd (omega arith)
member_at (x ∷ xs) zero d l = inl refl
member_at (x ∷ xs) (suc k) d l = inr (member_at xs k d (omega arith))

-- `Contains` is membership
pub member_contained : {A : Type 0} (xs : List A) (x : A) → Contains xs x → Member x xs
member_contained xs x c = subst (λ z. Member z xs) c.2 (member_at xs c.0 x c.1)

-- and conversely
pub contained_member : {A : Type 0} (xs : List A) (x : A) → Member x xs → Contains xs x
contained_member [] x m = absurd m
contained_member (y ∷ ys) x (inl e) = (0, omega arith, e)
contained_member (y ∷ ys) x (inr m) = let c = contained_member ys x m in (suc c.0, omega arith, c.2)

-- a member of the first of two lists is a member of the concatenation
pub member_left : {A : Type 0} (xs ys : List A) (x : A) → Member x xs → Member x (xs ++ ys)
member_left [] ys x m = absurd m
member_left (z ∷ zs) ys x (inl e) = inl e
member_left (z ∷ zs) ys x (inr m) = inr (member_left zs ys x m)

-- and so is a member of the second
pub member_right : {A : Type 0} (xs ys : List A) (x : A) → Member x ys → Member x (xs ++ ys)
member_right [] ys x m = m
member_right (z ∷ zs) ys x m = inr (member_right zs ys x m)

-- and there are no other members
pub member_parted : {A : Type 0} (xs ys : List A) (x : A) → Member x (xs ++ ys) → Member x xs ⊎ Member x ys
member_parted [] ys x m = inr m
member_parted (z ∷ zs) ys x (inl e) = inl (inl e)
member_parted (z ∷ zs) ys x (inr m) = elim (member_parted zs ys x m) [ inl l ↦ inl (inr l) | inr r ↦ inr r ]

-- the image of a member is a member of the image
pub member_map : {A B : Type 0} (f : A → B) (xs : List A) (x : A) → Member x xs → Member (f x) (map f xs)
member_map f [] x m = absurd m
member_map f (y ∷ ys) x (inl e) = inl (ap f e)
member_map f (y ∷ ys) x (inr m) = inr (member_map f ys x m)

-- and there are no other members
pub member_mapped : {A B : Type 0} (f : A → B) (xs : List A) (y : B) → Member y (map f xs) → (x : A) × Member x xs × (f x ≡ y)
member_mapped f [] y m = absurd m
member_mapped f (x ∷ xs) y (inl e) = (x, inl refl, e)
member_mapped f (x ∷ xs) y (inr m) = let r = member_mapped f xs y m in (r.0, inr r.1, r.2)

-- a member of the piece of a member is a member of the concatenation
pub member_flat : {A B : Type 0} (f : A → List B) (xs : List A) (x : A) (y : B) → Member x xs → Member y (f x) → Member y (flat_map f xs)
member_flat f [] x y m n = absurd m
member_flat f (z ∷ zs) x y (inl e) n = member_left (f z) (flat_map f zs) y (subst (λ v. Member y (f v)) (sym e) n)
member_flat f (z ∷ zs) x y (inr m) n = member_right (f z) (flat_map f zs) y (member_flat f zs x y m n)

-- and there are no other members
pub member_flattened : {A B : Type 0} (f : A → List B) (xs : List A) (y : B) → Member y (flat_map f xs)
    → (x : A) × Member x xs × Member y (f x)
member_flattened f [] y m = absurd m
member_flattened f (x ∷ xs) y m = elim (member_parted (f x) (flat_map f xs) y m) [
  | inl l ↦ (x, inl refl, l)
  | inr r ↦ let t = member_flattened f xs y r in (t.0, inr t.1, t.2)
]

-- a member that passes is in the filtered list
pub member_kept : {A : Type 0} (p : A → Bool) (xs : List A) (x : A) → Member x xs → p x ≡ true → Member x (filter p xs)
member_kept p [] x m h = absurd m
member_kept p (y ∷ ys) x (inl e) h = rw (ap p e ∙ h) (inl e)
member_kept p (y ∷ ys) x (inr m) h = go (p y) (member_kept p ys x m h) where
  go : (b : Bool) → Member x (filter p ys) → Member x (cond b (y ∷ filter p ys) (filter p ys))
  go true n = inr n
  go false n = n

-- and there are no other members
pub member_of_kept : {A : Type 0} (p : A → Bool) (xs : List A) (x : A) → Member x (filter p xs) → Member x xs × (p x ≡ true)
member_of_kept p [] x m = absurd m
member_of_kept p (y ∷ ys) x m = go (p y) refl (λ n. member_of_kept p ys x n) m where
  go : (b : Bool) → p y ≡ b → (Member x (filter p ys) → Member x ys × (p x ≡ true)) → Member x (cond b (y ∷ filter p ys) (filter p ys))
      → ((y ≡ x) ⊎ Member x ys) × (p x ≡ true)
  go true is more (inl e) = (inl e, ap p (sym e) ∙ is)
  go true is more (inr n) = let r = more n in (inr r.0, r.1)
  go false is more n = let r = more n in (inr r.0, r.1)

-- each number of [a, a + n) is a member of the range
pub member_range : (a n x : ℕ) → a ≤ x → x < a + n → Member x (range_with_len a n)
member_range a zero x l h = absurd (omega arith)
member_range a (suc n) x l h = elim (cases_eq a x) [
  | inl e ↦ inl e
  | inr ne ↦ inr (member_range (a + 1) n x (omega arith) (omega arith))
]

-- and there are no other members
pub member_ranged : (a n x : ℕ) → Member x (range_with_len a n) → (a ≤ x) × (x < a + n)
member_ranged a zero x m = absurd m
member_ranged a (suc n) x (inl e) = (omega arith, omega arith)
member_ranged a (suc n) x (inr m) = let r = member_ranged (a + 1) n x m in (omega arith, omega arith)

-- a filtered list is no longer
pub kept_shorter : {A : Type 0} (p : A → Bool) (xs : List A) → length (filter p xs) ≤ length xs
kept_shorter p [] = omega arith
kept_shorter p (x ∷ xs) = go (p x) (kept_shorter p xs) where
  go : (b : Bool) → length (filter p xs) ≤ length xs → length (cond b (x ∷ filter p xs) (filter p xs)) ≤ suc (length xs)
  go true l = omega arith
  go false l = omega arith

-- if a member fails, the filtered list is shorter
shorter : {A : Type 0} (p : A → Bool) (xs : List A) (x : A) → Member x xs → p x ≡ false → length (filter p xs) < length xs
shorter p [] x m h = absurd m
shorter p (y ∷ ys) x (inl e) h = rw (ap p e ∙ h) (omega (arith, kept_shorter p ys))
shorter p (y ∷ ys) x (inr m) h = go (p y) (shorter p ys x m h) where
  go : (b : Bool) → length (filter p ys) < length ys → length (cond b (y ∷ filter p ys) (filter p ys)) < suc (length ys)
  go true l = omega arith
  go false l = omega arith

-- the members of a list other than x
abbrev without : ℕ → List ℕ → List ℕ
without x ys = filter (λ y. not (y == x)) ys

-- a member of a list without x is one of those
stays : (xs ys : List ℕ) (x z : ℕ) → is_in xs x ≡ false → Member z xs → Member z ys → Member z (without x ys)
stays xs ys x z out m n = member_kept (λ y. not (y == x)) ys z n (not_from_false (z == x) (false_from_ne_true (z == x) other)) where
  other : (z == x) ≡ true → ⊥
  other e = both_ways (is_in xs x) out (member_in xs x (subst (λ v. Member v xs) (eqb-true z x e) m))

-- a list without repeats is no longer than one with its members
pub no_longer : (xs ys : List ℕ) → are_different xs ≡ true → ((x : ℕ) → Member x xs → Member x ys) → length xs ≤ length ys
no_longer [] ys d h = omega arith
no_longer (x ∷ xs) ys d h =
    let two = and_parts (not (is_in xs x)) (are_different xs) d in
    let out = not-true (is_in xs x) two.0 in
    let less = shorter (λ y. not (y == x)) ys x (h x (inl refl)) (not_from_true (x == x) (eq-eqb x x refl)) in
    let rest = no_longer xs (without x ys) two.1 (λ z m. stays xs ys x z out m (h z (inr m))) in
    omega arith

-- and a list that is no longer has no other members
pub has_all_members : (xs ys : List ℕ) → are_different xs ≡ true → ((x : ℕ) → Member x xs → Member x ys) → length ys ≤ length xs
    → (y : ℕ) → Member y ys → Member y xs
has_all_members xs ys d h l y m = elim (cases_Bool (is_in xs y)) [
  | inl t ↦ in_member xs y t
  | inr f ↦ absurd (too_length (no_longer (y ∷ xs) ys (more f) both))
]
  where
    more : is_in xs y ≡ false → are_different (y ∷ xs) ≡ true
    more f = and_from (not (is_in xs y)) (are_different xs) (not_from_false (is_in xs y) f) d

    both : (x : ℕ) → (y ≡ x) ⊎ Member x xs → Member x ys
    both x (inl e) = subst (λ v. Member v ys) e m
    both x (inr n) = h x n

    too_length : suc (length xs) ≤ length ys → ⊥
    too_length t = omega arith
