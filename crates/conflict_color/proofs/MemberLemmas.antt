-- Members of lists, of filters and of the numbers below a bound.
use Rattle.std.proofs.Common.{◌≡◌, ℕ, zero, suc, ◌+◌, ◌<◌, ◌==◌, Bool, true, false, cond, List, [], ◌∷◌, ◌++◌, map, take, length, get_or}
use Rattle.std.proofs.Common.{sym, ap, subst, ◌∙◌, inl, inr, arith, zero-add, eqb-true, eq-eqb}
use Rattle.std.specs.List.{filter, range_with_len, All, AllPairs, Contains}
use Rattle.std.specs.List.Sorted.{IsStrictlyIncreasing}
use Rattle.std.proofs.lemmas.Bool.{cases_order}
use Rattle.std.proofs.lemmas.List.{get_or-take, get_or-map, length-map, map-id, length-take-le, get_or_default}
use Rattle.std.proofs.lemmas.List.Elements.{All-contains, All-filter, filter_passes, Contains-get_or}
use Rattle.std.proofs.lemmas.List.Folds.{Any-from_list_any, list_any_at}
use Rattle.std.proofs.lemmas.List.FromFn.{length-range_with_len, get_or-range_with_len, map-range_with_len_more}
use Rattle.std.proofs.lemmas.List.Kept.{AllPairs-filter}
use Rattle.liszt_base.specs.Corners.{is_in}

pub contains_in : (xs : List ℕ) (x : ℕ) → Contains xs x → is_in xs x ≡ true
contains_in xs x m = list_any_at (λ y. y == x) xs m.0 x m.1 (eq-eqb (get_or xs m.0 x) x m.2)

pub in_contains : (xs : List ℕ) (x : ℕ) → is_in xs x ≡ true → Contains xs x
in_contains xs x e =
    let r = Any-from_list_any (λ y. y == x) xs e in
    (r.0, r.2, subst (λ z. get_or xs r.0 z ≡ z) (eqb-true r.1 x r.4) r.3)

contains_first : {A : Type 0} (x y : A) (xs : List A) → x ≡ y → Contains (x ∷ xs) y
contains_first x y xs e = (0, omega arith, e)

contains_later : {A : Type 0} (x y : A) (xs : List A) → Contains xs y → Contains (x ∷ xs) y
contains_later x y xs m = (suc m.0, omega (arith, m.1), m.2)

-- a member that passes the test is in the filter
pub filter_contains : {A : Type 0} (p : A → Bool) (xs : List A) (y : A) → Contains xs y → p y ≡ true → Contains (filter p xs) y
filter_contains p [] y m h = absurd (omega (arith, m.1))
filter_contains p (x ∷ xs) y (zero, lt, e) h =
    subst (λ (b : Bool). Contains (cond b (x ∷ filter p xs) (filter p xs)) y) (sym h ∙ ap p (sym e)) (contains_first x y (filter p xs) e)
filter_contains p (x ∷ xs) y (suc k, lt, e) h =
    more (p x) (filter_contains p xs y (k, omega (arith, lt), e) h) where
      more : (b : Bool) → Contains (filter p xs) y → Contains (cond b (x ∷ filter p xs) (filter p xs)) y
      more true m = contains_later x y (filter p xs) m
      more false m = m

pub map_contains : {A : Type 0} (f : A → ℕ) (xs : List A) (y : A) (x : ℕ) → Contains xs y → f y ≡ x → Contains (map f xs) x
map_contains f xs y x m e =
    (m.0, omega (arith, m.1, length-map xs f), get_or-map f xs m.0 y x m.1 ∙ (ap f m.2 ∙ e))

pub contains_map : (f : ℕ → ℕ) (xs : List ℕ) (x : ℕ) → Contains (map f xs) x → (y : ℕ) × Contains xs y × (f y ≡ x)
contains_map f xs x m =
    let lt : m.0 < length xs = omega (arith, m.1, length-map xs f) in
    (get_or xs m.0 0, Contains-get_or xs m.0 0 lt, sym (get_or-map f xs m.0 0 x lt) ∙ m.2)

pub range_contains : (n i : ℕ) → i < n → Contains (range_with_len 0 n) i
range_contains n i lt = (i, omega (arith, length-range_with_len 0 n), get_or-range_with_len 0 n i i lt ∙ (omega arith))

pub range_more : (n : ℕ) → range_with_len 0 (n + 1) ≡ range_with_len 0 n ++ n ∷ []
range_more n =
    sym (map-id (range_with_len 0 (n + 1)))
    ∙ (map-range_with_len_more (λ i. i) 0 n n (zero-add n) ∙ ap (λ l. l ++ n ∷ []) (map-id (range_with_len 0 n)))

range_below : (n : ℕ) → All (λ i. i < n) (range_with_len 0 n)
range_below n k d lt =
    let lt' : k < n = omega (arith, lt, length-range_with_len 0 n) in
    subst (λ i. i < n) (sym (get_or-range_with_len 0 n k d lt')) (omega arith)

range_ascending : (n : ℕ) → AllPairs (λ i j. i < j) (range_with_len 0 n)
range_ascending n i j d lt lt' =
    let below : j < n = omega (arith, lt', length-range_with_len 0 n) in
    omega (arith, get_or-range_with_len 0 n i d (omega arith), get_or-range_with_len 0 n j d below)

-- the numbers below n that pass a test
pub selected_below : (p : ℕ → Bool) (n : ℕ) → All (λ i. i < n) (filter p (range_with_len 0 n))
selected_below p n = All-filter p (λ i. i < n) (range_with_len 0 n) (range_below n)

pub selected_passes : (p : ℕ → Bool) (n i : ℕ) → Contains (filter p (range_with_len 0 n)) i → (i < n) × (p i ≡ true)
selected_passes p n i m = (
  All-contains (λ j. j < n) (filter p (range_with_len 0 n)) i (selected_below p n) m,
  All-contains (λ j. p j ≡ true) (filter p (range_with_len 0 n)) i (filter_passes p (range_with_len 0 n)) m,
)

pub passing_is_selected : (p : ℕ → Bool) (n i : ℕ) → i < n → p i ≡ true → Contains (filter p (range_with_len 0 n)) i
passing_is_selected p n i lt h = filter_contains p (range_with_len 0 n) i (range_contains n i lt) h

pub selected_ascending : (p : ℕ → Bool) (n : ℕ) → AllPairs (λ i j. i < j) (filter p (range_with_len 0 n))
selected_ascending p n = AllPairs-filter (λ i j. i < j) p (range_with_len 0 n) (range_ascending n)

pub selected_increasing : (p : ℕ → Bool) (n : ℕ) → IsStrictlyIncreasing (filter p (range_with_len 0 n))
selected_increasing p n k lt = selected_ascending p n k (k + 1) 0 (omega arith) lt

-- in an ascending list the members before an index are those below the one at the index
pub before_below : (xs : List ℕ) (m j : ℕ) → AllPairs (λ i k. i < k) xs → m < length xs → Contains (take m xs) j
    → j < get_or xs m 0
before_below xs m j h lt seen =
    let short = length-take-le m xs (omega arith) in
    let k_lt : seen.0 < m = omega (arith, seen.1) in
    let is = sym (get_or-take m xs seen.0 j k_lt) ∙ seen.2 in
    let is' : get_or xs seen.0 0 ≡ j = get_or_default xs seen.0 0 j (omega arith) ∙ is in
    omega (arith, h seen.0 m 0 k_lt lt)

pub below_before : (xs : List ℕ) (m j : ℕ) → AllPairs (λ i k. i < k) xs → m < length xs → Contains xs j
    → j < get_or xs m 0 → Contains (take m xs) j
below_before xs m j h lt m' below =
    let is : get_or xs m'.0 0 ≡ j = get_or_default xs m'.0 0 j m'.1 ∙ m'.2 in
    let k_lt : m'.0 < m = elim (cases_order m'.0 m) [
      | inl e ↦ absurd (omega (arith, below, sym is ∙ ap (λ k. get_or xs k 0) e))
      | inr (inl less) ↦ less
      | inr (inr more) ↦ absurd (omega (arith, below, is, h m m'.0 0 more m'.1))
    ] in
    (m'.0, omega (arith, length-take-le m xs (omega arith)), get_or-take m xs m'.0 j k_lt ∙ m'.2)
