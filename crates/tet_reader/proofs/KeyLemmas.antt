-- Rows of different corners have one key exactly where they have the same corners.
use Rattle.std.proofs.Common.{◌≡◌, ℕ, ◌<◌, ◌==◌, not, Bool, true, false, List, [], ◌∷◌}
use Rattle.std.proofs.Common.{refl, sym, ap, subst, ◌∙◌, inl, inr, arith, eqb, eqb-true, eq-eqb, le_antisymm, ◌≤◌, nat_cmp, Less, bytes_eq}
use Rattle.std.specs.Cmp.Lexicographic.{slice_cmp}
use Rattle.std.specs.List.{list_all, AllByRecursion, IsDistinct}
use Rattle.std.specs.List.Sorted.{IsStrictlySortedBy}
use Rattle.std.specs.Ordering.{is_eq}
use Rattle.std.proofs.lemmas.Bool.{and_parts, and_from, or_parts, or_cases, or_left, or_right, not-true, both_ways}
use Rattle.std.proofs.lemmas.Cmp.{ranked}
use Rattle.std.proofs.lemmas.List.Sorted.{IsNonDecreasingBy-from_sort, list_any-IsPermutation}
use Rattle.std.proofs.lemmas.Map.Keys.{IsDistinct-cons, IsDistinct-IsPermutation, IsStrictlyIncreasing-from_distinct}
use Rattle.std.proofs.lemmas.Map.Keys.{sorted_from_strictly_increasing, sorted_head, sorted_tail}
use Rattle.std.proofs.lemmas.Map.Text.{is_eq-slice_cmp}
use Rattle.std.proofs.lemmas.Slice.Eq.{bytes_eq-Decides}
use Rattle.liszt_base.specs.Corners.{is_in, includes, same_members, are_different}
use Rattle.tet_reader.specs.declared.misfit.Row.{Row}
use Rattle.tet_reader.specs.Internal.RepeatedRows.{IsRow}
use Rattle.tet_reader.proofs.FaceLemmas.{same_either_way}

-- two tests are one where each passes with the other
pub bool_is : (a b : Bool) → (a ≡ true → b ≡ true) → (b ≡ true → a ≡ true) → a ≡ b
bool_is true b f g = sym (f refl)
bool_is false true f g = g refl
bool_is false false f g = refl

-- what passes everywhere passes at each member
pub all_at : (p : ℕ → Bool) (ys : List ℕ) (v : ℕ) → list_all p ys ≡ true → is_in ys v ≡ true → p v ≡ true
all_at p [] v h m = absurd (both_ways false refl m)
all_at p (y ∷ ys) v h m =
    let parts = and_parts (p y) (list_all p ys) h in
    elim (or_cases (y == v) (is_in ys v) m) [
      | inl e ↦ subst (λ z. p z ≡ true) (eqb-true y v e) parts.0
      | inr n ↦ all_at p ys v parts.1 n
    ]

-- and the other way round
pub all_by : (p : ℕ → Bool) (ys : List ℕ) → ((v : ℕ) → is_in ys v ≡ true → p v ≡ true) → list_all p ys ≡ true
all_by p [] h = refl
all_by p (y ∷ ys) h =
    and_from (p y) (list_all p ys) (h y (or_left (y == y) (is_in ys y) (eq-eqb y y refl)))
    (all_by p ys (λ v m. h v (or_right (y == v) (is_in ys v) m)))

-- lists with the same members, as a test and as numbers that are in one exactly where they are in the other
pub same_from : (xs ys : List ℕ) → ((v : ℕ) → is_in xs v ≡ is_in ys v) → same_members xs ys ≡ true
same_from xs ys h =
    and_from (includes xs ys) (includes ys xs) (all_by (is_in xs) ys (λ v m. h v ∙ m)) (all_by (is_in ys) xs (λ v m. sym (h v) ∙ m))

-- and the other way round
pub same_at : (xs ys : List ℕ) → same_members xs ys ≡ true → (v : ℕ) → is_in xs v ≡ is_in ys v
same_at xs ys h v =
    let parts = and_parts (includes xs ys) (includes ys xs) h in
    bool_is (is_in xs v) (is_in ys v) (all_at (is_in ys) xs v parts.1) (all_at (is_in xs) ys v parts.0)

-- rising lists with the same members are one
above : (x : ℕ) (xs : List ℕ) (v : ℕ) → AllByRecursion (λ y. nat_cmp x y ≡ Less) xs → is_in xs v ≡ true → x < v
above x [] v h m = absurd (both_ways false refl m)
above x (y ∷ ys) v h m = elim (or_cases (y == v) (is_in ys v) m) [
  | inl e ↦ subst (λ z. x < z) (eqb-true y v e) (ranked x y Less (sym h.0))
  | inr n ↦ above x ys v h.1 n
]

-- the first is a member, and no member of a rising list is less
first_in : (x : ℕ) (xs : List ℕ) → is_in (x ∷ xs) x ≡ true
first_in x xs = or_left (x == x) (is_in xs x) (eq-eqb x x refl)

least_first : (y : ℕ) (ys : List ℕ) (x : ℕ) → IsStrictlySortedBy nat_cmp (y ∷ ys) → is_in (y ∷ ys) x ≡ true → y ≤ x
least_first y ys x s m = elim (or_cases (y == x) (is_in ys x) m) [
  | inl e ↦ omega (arith, eqb-true y x e)
  | inr n ↦ omega (arith, above y ys x (sorted_head nat_cmp y ys s) n)
]

-- a member after the first is one of the other list after its first
still_in : (x y : ℕ) (xs ys : List ℕ) (v : ℕ) → IsStrictlySortedBy nat_cmp (x ∷ xs) → x ≡ y → is_in (x ∷ xs) v ≡ is_in (y ∷ ys) v
    → is_in xs v ≡ true → is_in ys v ≡ true
still_in x y xs ys v r e h m = elim (or_cases (y == v) (is_in ys v) (sym h ∙ or_right (x == v) (is_in xs v) m)) [
  | inl f ↦ absurd (omega (arith, above x xs v (sorted_head nat_cmp x xs r) m, eqb-true y v f))
  | inr n ↦ n
]

-- so the lists are one
pub same_rising : (xs ys : List ℕ) → IsStrictlySortedBy nat_cmp xs → IsStrictlySortedBy nat_cmp ys → ((v : ℕ) → is_in xs v ≡ is_in ys v)
    → xs ≡ ys
same_rising [] [] r s h = refl
same_rising [] (y ∷ ys) r s h = absurd (both_ways (is_in [] y) refl (h y ∙ first_in y ys))
same_rising (x ∷ xs) [] r s h = absurd (both_ways (is_in [] x) refl (sym (h x) ∙ first_in x xs))
same_rising (x ∷ xs) (y ∷ ys) r s h =
    let low = least_first y ys x s (sym (h x) ∙ first_in x xs) in
    let high = least_first x xs y r (h y ∙ first_in y ys) in
    let e : x ≡ y = le_antisymm high low in
    let tails : (v : ℕ) → is_in xs v ≡ is_in ys v =
    λ v. bool_is (is_in xs v) (is_in ys v) (still_in x y xs ys v r e (h v)) (still_in y x ys xs v s (sym e) (sym (h v))) in
    cc (e, same_rising xs ys (sorted_tail nat_cmp x xs r) (sorted_tail nat_cmp y ys s) tails)

-- ---- rows

-- lists without repeats, in the words of the library
distinct : (xs : List ℕ) → are_different xs ≡ true → IsDistinct eqb xs
unfolding IsDistinct
distinct [] d = tt
distinct (x ∷ xs) d =
    let parts = and_parts (not (is_in xs x)) (are_different xs) d in
    IsDistinct-cons eqb x xs (out xs (not-true (is_in xs x) parts.0)) (distinct xs parts.1)
  where
    out : (ys : List ℕ) → is_in ys x ≡ false → AllByRecursion (λ y. (x == y) ≡ false) ys
    out [] n = tt
    out (y ∷ ys) n = let p = or_parts (y == x) (is_in ys x) n in (same_either_way x y ∙ p.0, out ys p.1)

-- the key of different corners rises
rises : (row : Row (List ℕ)) (piece : List ℕ × ℕ) → IsRow row piece → are_different piece.0 ≡ true → IsStrictlySortedBy nat_cmp row.key
rises row piece r d =
    let apart = IsDistinct-IsPermutation eqb same_either_way piece.0 row.key r.permuted (distinct piece.0 d) in
    let order = IsNonDecreasingBy-from_sort (λ x. x) row.key r.ordered in
    sorted_from_strictly_increasing row.key (IsStrictlyIncreasing-from_distinct row.key order apart)

-- a key has the corners of its piece
holds : (row : Row (List ℕ)) (piece : List ℕ × ℕ) → IsRow row piece → (v : ℕ) → is_in piece.0 v ≡ is_in row.key v
holds row piece r v = list_any-IsPermutation (λ y. y == v) piece.0 row.key r.permuted

-- keys are one exactly where their pieces have the same corners
pub one_key : (row other : Row (List ℕ)) (piece more : List ℕ × ℕ) → IsRow row piece → IsRow other more → are_different piece.0 ≡ true
    → are_different more.0 ≡ true → is_eq (slice_cmp nat_cmp row.key other.key) ≡ same_members piece.0 more.0
one_key row other piece more r s d e =
    is_eq-slice_cmp row.key other.key ∙ bool_is (bytes_eq row.key other.key) (same_members piece.0 more.0) there back
  where
    there : bytes_eq row.key other.key ≡ true → same_members piece.0 more.0 ≡ true
    there h =
        let k : row.key ≡ other.key = (bytes_eq-Decides row.key other.key).0 h in
        same_from piece.0 more.0 (λ v. holds row piece r v ∙ ap (λ l. is_in l v) k ∙ sym (holds other more s v))

    back : same_members piece.0 more.0 ≡ true → bytes_eq row.key other.key ≡ true
    back h =
        let in_both = λ (v : ℕ). sym (holds row piece r v) ∙ same_at piece.0 more.0 h v ∙ holds other more s v in
        (bytes_eq-Decides row.key other.key).1 (same_rising row.key other.key (rises row piece r d) (rises other more s e) in_both)
