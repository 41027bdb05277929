-- Ascending lists between two bounds, and the list of all of one size in lexicographic order.
use Rattle.std.proofs.Common.{◌≡◌, ◌⊎◌, ℕ, zero, suc, ◌+◌, ◌-◌, ◌<◌, ◌≤◌, not, true, List, [], ◌∷◌, ◌++◌, map, length, get_or, AllPairs}
use Rattle.std.proofs.Common.{flat_map, nat_cmp, Less, Equal, refl, sym, ap, subst, inl, inr, arith, lt-ltb, le_antisymm}
use Rattle.std.specs.Prelude.{⊤}
use Rattle.std.specs.Cmp.Lexicographic.{slice_cmp}
use Rattle.std.specs.List.{range_with_len}
use Rattle.std.specs.List.Sorted.{IsStrictlyIncreasing}
use Rattle.std.proofs.lemmas.Bool.{and_from, not_from_false, false_from_ne_true}
use Rattle.std.proofs.lemmas.Bool.Decides.{nat_tests}
use Rattle.std.proofs.lemmas.List.Kept.{AllPairs-cons, AllPairs-from_increasing}
use Rattle.liszt_base.specs.Corners.{is_in, are_different}
use Rattle.mesh_topology.specs.Elements.{sets_of}
use Rattle.mesh_topology.proofs.MemberLemmas.{Member, in_member, contained_member, member_at, member_flat, member_flattened, member_map}
use Rattle.mesh_topology.proofs.MemberLemmas.{member_mapped, member_parted, member_range, member_ranged}

-- each member is in relation R to each later one
abbrev pub Pairs : {A : Type 0} → (A → A → Type 0) → List A → Type 0
Pairs R [] = ⊤
Pairs {A} R (x ∷ xs) = ((y : A) → Member y xs → R x y) × Pairs R xs

-- `AllPairs` says the same by indices
pub all_pairs : {A : Type 0} (R : A → A → Type 0) (xs : List A) → Pairs R xs → AllPairs R xs
all_pairs R [] p = λ i j d l m. absurd (omega arith)
all_pairs R (x ∷ xs) p = AllPairs-cons R x xs (λ k d l. p.0 (get_or xs k d) (member_at xs k d l)) (all_pairs R xs p.1)

-- and conversely
pub pairs_of : {A : Type 0} (R : A → A → Type 0) (xs : List A) → AllPairs R xs → Pairs R xs
pairs_of R [] h = tt
pairs_of R (x ∷ xs) h = (
  λ y m. let c = contained_member xs y m in subst (λ z. R x z) c.2 (h 0 (suc c.0) y (omega arith) (omega arith)),
  pairs_of R xs (λ i j d l m. h (suc i) (suc j) d (omega arith) (omega arith)),
)

-- of a concatenation
pub pairs_append : {A : Type 0} (R : A → A → Type 0) (xs ys : List A) → Pairs R xs → Pairs R ys
    → ((x y : A) → Member x xs → Member y ys → R x y) → Pairs R (xs ++ ys)
pairs_append R [] ys p q h = q
pairs_append R (x ∷ xs) ys p q h = (
  λ y m. elim (member_parted xs ys y m) [ inl l ↦ p.0 y l | inr r ↦ h x y (inl refl) r ],
  pairs_append R xs ys p.1 q (λ z y m n. h z y (inr m) n),
)

-- of the image of a function that preserves the order
pub pairs_map : {A B : Type 0} (R : A → A → Type 0) (S : B → B → Type 0) (f : A → B) (xs : List A) → ((x y : A) → R x y → S (f x) (f y))
    → Pairs R xs → Pairs S (map f xs)
pairs_map R S f [] h p = tt
pairs_map R S f (x ∷ xs) h p = (
  λ y m. let t = member_mapped f xs y m in subst (λ z. S (f x) z) t.2 (h x t.0 (p.0 t.0 t.1)),
  pairs_map R S f xs h p.1,
)

-- an ascending list of numbers of [low, high)
abbrev pub Between : ℕ → ℕ → List ℕ → Type 0
Between low high [] = ⊤
Between low high (x ∷ xs) = (low ≤ x) × (x < high) × Between (x + 1) high xs

-- its members are between the two
pub bounds : (low high : ℕ) (xs : List ℕ) (x : ℕ) → Between low high xs → Member x xs → (low ≤ x) × (x < high)
bounds low high [] x b m = absurd m
bounds low high (y ∷ ys) x b (inl e) = (omega (arith, b.0), omega (arith, b.1))
bounds low high (y ∷ ys) x b (inr m) = let r = bounds (y + 1) high ys x b.2 m in (omega (arith, b.0), r.1)

-- each member is smaller than each later one
pub rising_pairs : (low high : ℕ) (xs : List ℕ) → Between low high xs → Pairs (λ x y. x < y) xs
rising_pairs low high [] b = tt
rising_pairs low high (x ∷ xs) b = (λ y m. let r = bounds (x + 1) high xs y b.2 m in omega arith, rising_pairs (x + 1) high xs b.2)

-- each member is smaller than the next one
pub increasing : (low high : ℕ) (xs : List ℕ) → Between low high xs → IsStrictlyIncreasing xs
increasing low high xs b = λ k l. all_pairs (λ x y. x < y) xs (rising_pairs low high xs b) k (k + 1) 0 (omega arith) l

-- a list is such a list if each member is smaller than each later one and all are between the bounds
pub between_pairs : (low high : ℕ) (xs : List ℕ) → Pairs (λ x y. x < y) xs → ((x : ℕ) → Member x xs → (low ≤ x) × (x < high))
    → Between low high xs
between_pairs low high [] p h = tt
between_pairs low high (x ∷ xs) p h = let r = h x (inl refl) in
    (r.0, r.1, between_pairs (x + 1) high xs p.1 (λ y m. let s = p.0 y m in let t = h y (inr m) in (omega arith, t.1)))

-- and if each member is smaller than the next one and all are below high
pub between : (high : ℕ) (xs : List ℕ) → IsStrictlyIncreasing xs → ((x : ℕ) → Member x xs → x < high) → Between 0 high xs
between high xs i h = between_pairs 0 high xs (pairs_of (λ x y. x < y) xs (AllPairs-from_increasing xs i)) (λ x m. (omega arith, h x m))

-- no number is repeated in it
pub different : (low high : ℕ) (xs : List ℕ) → Between low high xs → are_different xs ≡ true
different low high [] b = refl
different low high (x ∷ xs) b =
    let absent = not_from_false (is_in xs x) (false_from_ne_true (is_in xs x) out) in
    and_from (not (is_in xs x)) (are_different xs) absent (different (x + 1) high xs b.2)
  where
    out : is_in xs x ≡ true → ⊥
    out e = let r = bounds (x + 1) high xs x b.2 (in_member xs x e) in omega arith

-- two ascending lists with the same members are equal
pub same_rising : (low high : ℕ) (xs ys : List ℕ) → Between low high xs → Between low high ys
    → ((z : ℕ) → Member z xs → Member z ys) → ((z : ℕ) → Member z ys → Member z xs) → xs ≡ ys
same_rising low high [] [] b c h k = refl
same_rising low high [] (y ∷ ys) b c h k = absurd (k y (inl refl))
same_rising low high (x ∷ xs) [] b c h k = absurd (h x (inl refl))
same_rising low high (x ∷ xs) (y ∷ ys) b c h k =
    let e : x ≡ y = le_antisymm (least y x xs b.2 (k y (inl refl))) (least x y ys c.2 (h x (inl refl))) in
    let c' = subst (λ v. Between (v + 1) high ys) (sym e) c.2 in
    let t = same_rising (x + 1) high xs ys b.2 c' (λ z m. later z xs b.2 m (h z (inr m)) e) (λ z m. past z ys c' m (k z (inr m))) in
    cc
  where
    least : (z w : ℕ) (ws : List ℕ) → Between (w + 1) high ws → (w ≡ z) ⊎ Member z ws → w ≤ z
    least z w ws d (inl e) = omega arith
    least z w ws d (inr m) = let r = bounds (w + 1) high ws z d m in omega arith

    later : (z : ℕ) (ws : List ℕ) → Between (x + 1) high ws → Member z ws → (y ≡ z) ⊎ Member z ys → x ≡ y → Member z ys
    later z ws d m (inl e) f = let r = bounds (x + 1) high ws z d m in absurd (omega arith)
    later z ws d m (inr n) f = n

    past : (z : ℕ) (ws : List ℕ) → Between (x + 1) high ws → Member z ws → (x ≡ z) ⊎ Member z xs → Member z xs
    past z ws d m (inl e) = let r = bounds (x + 1) high ws z d m in absurd (omega arith)
    past z ws d m (inr n) = n

-- the sets that begin with n
abbrev sets_with_first : ℕ → ℕ → ℕ → List (List ℕ)
sets_with_first size high n = map (λ s. n ∷ s) (sets_of size (n + 1) high)

-- the sets of a size are ascending lists of that length
pub sets_are : (size low high : ℕ) (set : List ℕ) → Member set (sets_of size low high) → (length set ≡ size) × Between low high set
sets_are zero low high set (inl e) = subst (λ s. (length s ≡ zero) × Between low high s) e (refl, tt)
sets_are zero low high set (inr m) = absurd m
sets_are (suc size) low high set m =
    let r = member_flattened (sets_with_first size high) (range_with_len low (high - low)) set m in
    let t = member_mapped (λ s. r.0 ∷ s) (sets_of size (r.0 + 1) high) set r.2 in
    let rest = sets_are size (r.0 + 1) high t.0 t.1 in
    let b = member_ranged low (high - low) r.0 r.1 in
    subst (λ s. (length s ≡ suc size) × Between low high s) t.2 (ap suc rest.0, (b.0, omega arith, rest.1))

-- and each ascending list is one of them
pub are_sets : (size low high : ℕ) (set : List ℕ) → length set ≡ size → Between low high set → Member set (sets_of size low high)
are_sets zero low high [] e b = inl refl
are_sets zero low high (x ∷ xs) e b = cc
are_sets (suc size) low high [] e b = cc
are_sets (suc size) low high (x ∷ xs) e b =
    let first = member_range low (high - low) x b.0 (omega (arith, b.0, b.1)) in
    let rest = member_map (λ s. x ∷ s) (sets_of size (x + 1) high) xs (are_sets size (x + 1) high xs (omega arith) b.2) in
    member_flat (sets_with_first size high) (range_with_len low (high - low)) x (x ∷ xs) first rest

-- lexicographic order
abbrev pub Before : List ℕ → List ℕ → Type 0
Before xs ys = slice_cmp nat_cmp xs ys ≡ Less

-- no number is smaller than itself
cmp_same : (a : ℕ) → nat_cmp a a ≡ Equal
cmp_same a = grind (arith, nat_tests)

-- equal first numbers do not decide
pub before_more : (a : ℕ) (xs ys : List ℕ) → Before xs ys → Before (a ∷ xs) (a ∷ ys)
before_more a xs ys h = rw (cmp_same a) h

-- a smaller first number decides
pub before_first : (a b : ℕ) (xs ys : List ℕ) → a < b → Before (a ∷ xs) (b ∷ ys)
before_first a b xs ys h = rw (lt-ltb a b h) refl

-- the order is irreflexive
pub not_before_itself : (xs : List ℕ) → Before xs xs → ⊥
not_before_itself [] e = cc
not_before_itself (x ∷ xs) e = not_before_itself xs (rw (cmp_same x) at e)

-- the sets that begin with a, with a + 1, and so on, are in this order
sets_beside : (size high a n : ℕ) → ((k : ℕ) → Pairs Before (sets_of size (k + 1) high))
    → Pairs Before (flat_map (sets_with_first size high) (range_with_len a n))
sets_beside size high a zero each = tt
sets_beside size high a (suc n) each =
    let here = pairs_map Before Before (λ s. a ∷ s) (sets_of size (a + 1) high) (before_more a) (each a) in
    pairs_append Before (sets_with_first size high a) (flat_map (sets_with_first size high) (range_with_len (a + 1) n)) here
    (sets_beside size high (a + 1) n each) apart
  where
    apart : (x y : List ℕ) → Member x (sets_with_first size high a) → Member y (flat_map (sets_with_first size high) (range_with_len (a + 1) n))
        → Before x y
    apart x y m k =
        let s = member_mapped (λ s. a ∷ s) (sets_of size (a + 1) high) x m in
        let f = member_flattened (sets_with_first size high) (range_with_len (a + 1) n) y k in
        let t = member_mapped (λ s. f.0 ∷ s) (sets_of size (f.0 + 1) high) y f.2 in
        let r = member_ranged (a + 1) n f.0 f.1 in
        let b : Before (a ∷ s.0) (f.0 ∷ t.0) = before_first a f.0 s.0 t.0 (omega arith) in
        subst (λ z. Before z y) s.2 (subst (λ z. Before (a ∷ s.0) z) t.2 b)

-- all sets of a size are in this order
pub sets_ordered : (size low high : ℕ) → Pairs Before (sets_of size low high)
sets_ordered zero low high = (λ y m. absurd m, tt)
sets_ordered (suc size) low high = sets_beside size high low (high - low) (λ k. sets_ordered size (k + 1) high)
