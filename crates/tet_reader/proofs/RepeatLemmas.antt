-- In sorted rows, of which no two are one, a row has the key of the row n before it exactly where n rows of its key
-- have lesser places.
use Rattle.std.proofs.Common.{◌≡◌, ◌⊎◌, ℕ, zero, suc, ◌+◌, ◌-◌, ◌<◌, ◌≤◌, ◌==◌, ◌&&◌, ◌||◌, nat_lt, cond, Bool, true, false}
use Rattle.std.proofs.Common.{List, [], ◌∷◌, length, get_or, map, drop}
use Rattle.std.proofs.Common.{refl, sym, ap, subst, ◌∙◌, inl, inr, arith, lt-ltb, le-ltb, ltb-true, Ordering, Less, Equal, Greater, nat_cmp}
use Rattle.std.specs.Cmp.{IsTotalOrder}
use Rattle.std.specs.List.{list_any, count_by, filter, zip, IsDistinct}
use Rattle.std.specs.List.Sorted.{IsSorted}
use Rattle.std.specs.Ordering.{is_eq, is_lt, is_gt, eq_by_cmp, ordering_then, ordering_reverse}
use Rattle.std.proofs.lemmas.Bool.{both_ways, cases_lt, cases_Bool, and_left, and_right, and_parts, and_from}
use Rattle.std.proofs.lemmas.Cmp.{ranked, tied_itself, nat_cmp_total, on_total, then_total}
use Rattle.std.proofs.lemmas.List.{length-drop, get_or-drop, get_or_default}
use Rattle.std.proofs.lemmas.List.Folds.{Any-from_list_any, list_any_at}
use Rattle.std.proofs.lemmas.Slice.Zip.{length-zip, get_or-zip}
use Rattle.std.proofs.lemmas.Map.Keys.{sorted_from_all_adjacent, Less-from_sorted, apart_from_distinct}
use Rattle.liszt_base.specs.Corners.{is_in}
use Rattle.tet_reader.specs.declared.misfit.Row.{Row}
use Rattle.tet_reader.specs.Internal.RepeatedRows.{repeated_indices}
use Rattle.tet_reader.proofs.FaceLemmas.{count_more}
use Rattle.tet_reader.proofs.KeyLemmas.{bool_is}

-- ---- counts by places

-- a test that passes at n places in a row passes n times at least
at_least : {A : Type 0} (p : A → Bool) (xs : List A) (d : A) (a n : ℕ) → a + n ≤ length xs
    → ((k : ℕ) → a ≤ k → k < a + n → p (get_or xs k d) ≡ true) → n ≤ count_by p xs
at_least p [] d a n l h = omega arith
at_least p (x ∷ xs) d (suc a) n l h =
    let more = at_least p xs d a n (omega arith) (λ k b c. h (suc k) (omega arith) (omega arith)) in
    rw (count_more p x xs) (omega arith)
at_least p (x ∷ xs) d zero zero l h = omega arith
at_least p (x ∷ xs) d zero (suc n) l h =
    let more = at_least p xs d zero n (omega arith) (λ k b c. h (suc k) (omega arith) (omega arith)) in
    rw (count_more p x xs) (rw (h 0 (omega arith) (omega arith)) (omega arith))

-- and one that passes nowhere but there n times at most
at_most : {A : Type 0} (p : A → Bool) (xs : List A) (d : A) (a n : ℕ)
    → ((k : ℕ) → k < length xs → p (get_or xs k d) ≡ true → (a ≤ k) × (k < a + n)) → count_by p xs ≤ n
at_most p [] d a n h = omega arith
at_most p (x ∷ xs) d (suc a) n h =
    let more = at_most p xs d a n (λ k l e. let r = h (suc k) (omega arith) e in (omega (arith, r.0), omega (arith, r.1))) in
    rw (count_more p x xs) (elim (cases_Bool (p x)) [
      | inl e ↦ absurd (omega (arith, (h 0 (omega arith) e).0))
      | inr e ↦ rw e (omega arith)
    ])
at_most p (x ∷ xs) d zero zero h =
    let more = at_most p xs d zero zero (λ k l e. absurd (omega (arith, (h (suc k) (omega arith) e).1))) in
    rw (count_more p x xs) (elim (cases_Bool (p x)) [
      | inl e ↦ absurd (omega (arith, (h 0 (omega arith) e).1))
      | inr e ↦ rw e (omega arith)
    ])
at_most p (x ∷ xs) d zero (suc n) h =
    let more = at_most p xs d zero n (λ k l e. (omega arith, omega (arith, (h (suc k) (omega arith) e).1))) in
    rw (count_more p x xs) (elim (cases_Bool (p x)) [ inl e ↦ rw e (omega arith) | inr e ↦ rw e (omega arith) ])

-- ---- sorted rows

-- rows in order: by their keys, and at one key by their places
abbrev pub row_order : {K : Type 0} → (K → K → Ordering) → Row K → Row K → Ordering
row_order R x y = ordering_then (R x.key y.key) (nat_cmp x.place y.place)

-- this is an order
pub row_order_total : {K : Type 0} {R : K → K → Ordering} → IsTotalOrder R → IsTotalOrder (row_order R)
row_order_total o = then_total (on_total (λ r. r.key) o) (on_total (λ r. r.place) nat_cmp_total)

-- a row of the same key with a lesser place
abbrev pub is_before : {K : Type 0} → (K → K → Ordering) → Row K → Row K → Bool
is_before R row other = is_eq (R other.key row.key) && nat_lt other.place row.place

-- one of two answers of an order that are each other's reverse
less_from : (a b : Ordering) → a ≡ ordering_reverse b → is_lt b ≡ false → is_eq a ≡ false → a ≡ Less
less_from Less b e l n = refl
less_from Equal b e l n = absurd (both_ways true n refl)
less_from Greater Less e l n = absurd (both_ways true l refl)
less_from Greater Equal e l n = cc
less_from Greater Greater e l n = cc

-- what stands first is less by its key, or has the same key and a lesser place
row_less : (o : Ordering) (n m : ℕ) → ordering_then o (nat_cmp n m) ≡ Less → (o ≡ Less) ⊎ ((o ≡ Equal) × (n < m))
row_less Less n m e = inl refl
row_less Equal n m e = inr (refl, ranked n m Less (sym e))
row_less Greater n m e = cc

-- rows in order, no two of which are one
pub record AreInOrder {K : Type 0} (R : K → K → Ordering) (rows : List (Row K)) : Type 0 where
  pub total : IsTotalOrder R
  pub sorted : IsSorted (row_order R) rows
  pub apart : IsDistinct (eq_by_cmp (row_order R)) rows

-- each row is less than each later one
later : {K : Type 0} {R : K → K → Ordering} {rows : List (Row K)} → AreInOrder R rows → (i j : ℕ) (d : Row K) → i < j → j < length rows
    → row_order R (get_or rows i d) (get_or rows j d) ≡ Less
later {K} {R} {rows} h i j d l m =
    Less-from_sorted (row_order R) rows i j d (sorted_from_all_adjacent (row_order_total h.total) rows d next) l m
  where
    next : (k : ℕ) → k + 1 < length rows → row_order R (get_or rows k d) (get_or rows (k + 1) d) ≡ Less
    next k s =
        let x = get_or rows k d in
        let y = get_or rows (k + 1) d in
        let other = apart_from_distinct (eq_by_cmp (row_order R)) rows k (k + 1) d h.apart (omega arith) s in
        less_from (row_order R x y) (row_order R y x) ((row_order_total h.total).antisymm x y) (h.sorted k d (omega arith) s) other

-- the key of no row is greater than that of a later one
key_order : {K : Type 0} {R : K → K → Ordering} {rows : List (Row K)} → AreInOrder R rows → (i j : ℕ) (d : Row K) → i ≤ j
    → j < length rows → is_gt (R (get_or rows i d).key (get_or rows j d).key) ≡ false
key_order {K} {R} {rows} h i j d l m =
    let x = get_or rows i d in
    let y = get_or rows j d in
    elim (cases_lt i j) [
      | inl lt ↦ elim (row_less (R x.key y.key) x.place y.place (later h i j d lt m)) [ inl e ↦ ap is_gt e | inr e ↦ ap is_gt e.0 ]
      | inr ge ↦
          let same : i ≡ j = omega arith in
          subst (λ k. is_gt (R x.key (get_or rows k d).key) ≡ false) same (ap is_gt (tied_itself h.total x.key))
    ]

-- and where neither is greater
equal_from : (a b : Ordering) → a ≡ ordering_reverse b → is_gt a ≡ false → is_gt b ≡ false → a ≡ Equal
equal_from Less Less e f g = cc
equal_from Less Equal e f g = cc
equal_from Less Greater e f g = absurd (both_ways true g refl)
equal_from Equal b e f g = refl
equal_from Greater b e f g = absurd (both_ways true f refl)

-- between two rows of one key all have it
between : {K : Type 0} {R : K → K → Ordering} {rows : List (Row K)} → AreInOrder R rows → (i k j : ℕ) (d : Row K) → i ≤ k → k ≤ j
    → j < length rows → R (get_or rows i d).key (get_or rows j d).key ≡ Equal → R (get_or rows k d).key (get_or rows j d).key ≡ Equal
between {K} {R} {rows} h i k j d l m n e =
    let low = (get_or rows i d).key in
    let key = (get_or rows k d).key in
    let high = (get_or rows j d).key in
    let no_less : is_gt (R high key) ≡ false = ap is_gt (sym (h.total.congr low high key e)) ∙ key_order h i k d l (omega arith) in
    equal_from (R key high) (R high key) (h.total.antisymm key high) (key_order h k j d m n) no_less

-- of the rows in front of a row those of its key are before it, and no others are
before_earlier : {K : Type 0} {R : K → K → Ordering} {rows : List (Row K)} → AreInOrder R rows → (k j : ℕ) (d : Row K) → k < j
    → j < length rows → is_before R (get_or rows j d) (get_or rows k d) ≡ is_eq (R (get_or rows k d).key (get_or rows j d).key)
before_earlier {K} {R} {rows} h k j d l m =
    elim (row_less (R (get_or rows k d).key (get_or rows j d).key) (get_or rows k d).place (get_or rows j d).place (later h k j d l m)) [
      | inl e ↦ rw e refl
      | inr e ↦ rw (e.0, lt-ltb (get_or rows k d).place (get_or rows j d).place e.1) refl
    ]

-- and none of those after it
before_later : {K : Type 0} {R : K → K → Ordering} {rows : List (Row K)} → AreInOrder R rows → (k j : ℕ) (d : Row K) → j ≤ k
    → k < length rows → is_before R (get_or rows j d) (get_or rows k d) ≡ false
before_later {K} {R} {rows} h k j d l m =
    let x = get_or rows k d in
    let y = get_or rows j d in
    let by_place : y.place ≤ x.place → is_before R y x ≡ false =
    λ le. and_right (is_eq (R x.key y.key)) (nat_lt x.place y.place) (le-ltb x.place y.place le) in
    elim (cases_lt j k) [
      | inl lt ↦ elim (row_less (R y.key x.key) y.place x.place (later h j k d lt m)) [
        | inl e ↦
            let greater = h.total.antisymm x.key y.key ∙ ap ordering_reverse e in
            and_left (is_eq (R x.key y.key)) (nat_lt x.place y.place) (ap is_eq greater)
        | inr e ↦ by_place (omega (arith, e.1))
      ]
      | inr ge ↦
          let same : j ≡ k = omega arith in
          by_place (subst (λ i. y.place ≤ (get_or rows i d).place) same (omega arith))
    ]

-- a row with the key of the row n before it has n rows before it
counted : {K : Type 0} {R : K → K → Ordering} {rows : List (Row K)} → AreInOrder R rows → (few i j : ℕ) (d : Row K) → i + suc few ≡ j
    → j < length rows → R (get_or rows i d).key (get_or rows j d).key ≡ Equal → few < count_by (is_before R (get_or rows j d)) rows
counted {K} {R} {rows} h few i j d s l e =
    let each : (k : ℕ) → i ≤ k → k < i + suc few → is_before R (get_or rows j d) (get_or rows k d) ≡ true =
    λ k a b. before_earlier h k j d (omega arith) l ∙ ap is_eq (between h i k j d a (omega arith) l e) in
    let many = at_least (is_before R (get_or rows j d)) rows d i (suc few) (omega arith) each in
    omega arith

-- the test is this answer
equal_is : (o : Ordering) → is_eq o ≡ true → o ≡ Equal
equal_is Less e = absurd (both_ways false refl e)
equal_is Equal e = refl
equal_is Greater e = absurd (both_ways false refl e)

-- and the other way round
uncounted : {K : Type 0} {R : K → K → Ordering} {rows : List (Row K)} → AreInOrder R rows → (few j : ℕ) (d : Row K)
    → j < length rows → few < count_by (is_before R (get_or rows j d)) rows
    → (i : ℕ) × (i + suc few ≡ j) × (R (get_or rows i d).key (get_or rows j d).key ≡ Equal)
uncounted {K} {R} {rows} h few j d l c = elim (cases_lt few j) [
  | inl lt ↦
      let i : ℕ = j - suc few in
      elim (cases_Bool (is_eq (R (get_or rows i d).key (get_or rows j d).key))) [
        | inl e ↦ (i, omega arith, equal_is (R (get_or rows i d).key (get_or rows j d).key) e)
        | inr e ↦ absurd (too_many i (omega arith) e)
      ]
  | inr ge ↦
      let most = at_most (is_before R (get_or rows j d)) rows d 0 j (λ k m e. (omega arith, omega (arith, in_front k m e))) in
      absurd (omega arith)
]
  where
    in_front : (k : ℕ) → k < length rows → is_before R (get_or rows j d) (get_or rows k d) ≡ true → k < j
    in_front k m e = elim (cases_lt k j) [
      | inl lt ↦ lt
      | inr ge ↦ absurd (both_ways (is_before R (get_or rows j d) (get_or rows k d)) (before_later h k j d ge m) e)
    ]

    row_after_header : (i k : ℕ) → i < j → k < j → is_eq (R (get_or rows i d).key (get_or rows j d).key) ≡ false
        → is_before R (get_or rows j d) (get_or rows k d) ≡ true → suc i ≤ k
    row_after_header i k a b other e = elim (cases_lt i k) [
      | inl lt ↦ lt
      | inr ge ↦
          let same = equal_is (R (get_or rows k d).key (get_or rows j d).key) (sym (before_earlier h k j d b l) ∙ e) in
          absurd (both_ways (is_eq (R (get_or rows i d).key (get_or rows j d).key)) other
          (ap is_eq (between h k i j d ge (omega arith) l same)))
    ]

    too_many : (i : ℕ) → i + suc few ≡ j → is_eq (R (get_or rows i d).key (get_or rows j d).key) ≡ false → ⊥
    too_many i s other =
        let each : (k : ℕ) → k < length rows → is_before R (get_or rows j d) (get_or rows k d) ≡ true → (suc i ≤ k) × (k < suc i + few) =
        λ k m e. let f = in_front k m e in (row_after_header i k (omega arith) f other e, omega arith) in
        let most = at_most (is_before R (get_or rows j d)) rows d (suc i) few each in
        omega arith

-- ---- the places of repeats

-- a row with this place that has more than n rows before it
abbrev pub has_before : {K : Type 0} → (K → K → Ordering) → ℕ → List (Row K) → ℕ → Bool
has_before R few rows place = list_any (λ row. (row.place == place) && nat_lt few (count_by (is_before R row) rows)) rows

-- a number among the values of what is kept
in_included : {A : Type 0} (f : A → ℕ) (p : A → Bool) (xs : List A) (v : ℕ)
    → is_in (map f (filter p xs)) v ≡ list_any (λ x. p x && (f x == v)) xs
in_included f p [] v = refl
in_included {A} f p (x ∷ xs) v = go (p x) (in_included f p xs v) where
  go : (b : Bool) → is_in (map f (filter p xs)) v ≡ list_any (λ y. p y && (f y == v)) xs
      → is_in (map f (cond b (x ∷ filter p xs) (filter p xs))) v ≡ ((b && (f x == v)) || list_any (λ y. p y && (f y == v)) xs)
  go true e = ap (λ t. (f x == v) || t) e
  go false e = e

-- the pair of a row and the row n after it
pair_at : {A : Type 0} (xs : List A) (back i j : ℕ) (d : A) → i + back ≡ j → j < length xs
    → get_or (zip xs (drop back xs)) i (d, d) ≡ (get_or xs i d, get_or xs j d)
pair_at xs back i j d s l =
    let within : i < length (drop back xs) = omega (arith, length-drop back xs) in
    let where_is : back + i ≡ j = omega arith in
    get_or-zip xs (drop back xs) i (d, d) (omega arith) within
    ∙ ap (λ x. (get_or xs i d, x)) (get_or-drop back xs i d ∙ ap (λ k. get_or xs k d) where_is)

-- how many pairs there are
pairs_length : {A : Type 0} (xs : List A) (back i : ℕ) → i < length (zip xs (drop back xs)) → i + back < length xs
pairs_length xs back i l = omega (arith, length-zip xs (drop back xs), length-drop back xs)

length_of_pairs : {A : Type 0} (xs : List A) (back i : ℕ) → i + back < length xs → i < length (zip xs (drop back xs))
length_of_pairs xs back i l = omega (arith, length-zip xs (drop back xs), length-drop back xs)

-- the places of repeats are those of the rows with n rows before them
pub repeats_are : {K : Type 0} {R : K → K → Ordering} {rows : List (Row K)} → AreInOrder R rows → (same : K → K → Bool)
    → ((x y : K) → same x y ≡ is_eq (R x y)) → (few back : ℕ) → back ≡ suc few → (place : ℕ)
    → is_in (repeated_indices same back rows) place ≡ has_before R few rows place
repeats_are {K} {R} {rows} h same same_is few back back_is place =
    in_included (λ pair. pair.1.place) (λ pair. same pair.0.key pair.1.key) (zip rows (drop back rows)) place
    ∙ bool_is (list_any repeated (zip rows (drop back rows))) (has_before R few rows place) there back_passes
  where
    repeated : Row K × Row K → Bool
    repeated pair = same pair.0.key pair.1.key && (pair.1.place == place)

    counts : Row K → Bool
    counts row = (row.place == place) && nat_lt few (count_by (is_before R row) rows)

    at_pair : (i j : ℕ) (d : Row K) → i + back ≡ j → j < length rows → repeated (get_or rows i d, get_or rows j d) ≡ true
        → counts (get_or rows j d) ≡ true
    at_pair i j d s l t =
        let x = get_or rows i d in
        let y = get_or rows j d in
        let parts = and_parts (same x.key y.key) (y.place == place) t in
        let one = equal_is (R x.key y.key) (sym (same_is x.key y.key) ∙ parts.0) in
        and_from (y.place == place) (nat_lt few (count_by (is_before R y) rows)) parts.1
        (lt-ltb few (count_by (is_before R y) rows) (counted h few i j d (omega arith) l one))

    there : list_any repeated (zip rows (drop back rows)) ≡ true → has_before R few rows place ≡ true
    there e =
        let a = Any-from_list_any repeated (zip rows (drop back rows)) e in
        let d : Row K = a.1.0 in
        let l = pairs_length rows back a.0 a.2 in
        let is : get_or (zip rows (drop back rows)) a.0 a.1 ≡ (get_or rows a.0 d, get_or rows (a.0 + back) d) =
        get_or_default (zip rows (drop back rows)) a.0 a.1 (d, d) a.2 ∙ pair_at rows back a.0 (a.0 + back) d refl l in
        let t = subst (λ x. repeated x ≡ true) (sym a.3 ∙ is) a.4 in
        list_any_at counts rows (a.0 + back) d l (at_pair a.0 (a.0 + back) d refl l t)

    back_passes : has_before R few rows place ≡ true → list_any repeated (zip rows (drop back rows)) ≡ true
    back_passes e =
        let a = Any-from_list_any counts rows e in
        let d : Row K = a.1 in
        let y = get_or rows a.0 d in
        let t = subst (λ x. counts x ≡ true) (sym a.3) a.4 in
        let parts = and_parts (y.place == place) (nat_lt few (count_by (is_before R y) rows)) t in
        let u = uncounted h few a.0 d a.2 (ltb-true few (count_by (is_before R y) rows) parts.1) in
        let s : u.0 + back ≡ a.0 = omega (arith, u.1) in
        let x = get_or rows u.0 d in
        let key = same_is x.key y.key ∙ ap is_eq u.2 in
        list_any_at repeated (zip rows (drop back rows)) u.0 (d, d) (length_of_pairs rows back u.0 (omega arith))
        (subst (λ z. repeated z ≡ true) (sym (pair_at rows back u.0 a.0 d s a.2))
        (and_from (same x.key y.key) (y.place == place) key parts.0))
