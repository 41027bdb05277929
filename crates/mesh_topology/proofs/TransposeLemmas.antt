-- Transposed rows: for each id the indices of the rows that contain it.
use Rattle.std.proofs.Common.{◌≡◌, ◌⊎◌, ℕ, zero, suc, ◌+◌, ◌-◌, ◌<◌, ◌≤◌, ◌^◌, Bool, true, false, cond, List, [], ◌∷◌, ◌++◌, length, set, take, get_or, filter, map, replicate, All, AllPairs, refl, sym, ap, subst, ◌∙◌, inl, inr, arith}
use Rattle.std.specs.List.{range_with_len}
use Rattle.std.proofs.lemmas.Bool.{cases_eq, false_from_ne_true}
use Rattle.std.proofs.lemmas.List.{append-nil, ext_get_or, get_or-map, get_or-replicate, get_or_default, get_or-set_same, get_or-set_other, get_or-take, length-map, length-replicate, length-set, length-take-le, length_push, take_more}
use Rattle.std.proofs.lemmas.List.Elements.{filter-append}
use Rattle.liszt_base.specs.Corners.{is_in}
use Rattle.mesh_topology.specs.Elements.{numbers}
use Rattle.mesh_topology.specs.Internal.Incidence.{transposed, AreDegreesSoFar, AreChangedAt, IsTransposedSoFar}
use Rattle.mesh_topology.proofs.MemberLemmas.{Member, in_member, member_at, member_in, member_right, member_left, member_parted}
use Rattle.mesh_topology.proofs.SideLemmas.{same_test}
use Rattle.mesh_topology.proofs.FaceEdgeLemmas.{placed}
use Rattle.mesh_topology.proofs.NearLemmas.{long_numbers, at_numbers}

-- the next member
is_in_step : (front : List ℕ) (one y : ℕ) → (y ≡ one → ⊥) → is_in (front ++ one ∷ []) y ≡ is_in front y
is_in_step front one y ne = same_test (is_in (front ++ one ∷ []) y) (is_in front y) (λ h. member_in front y (out (member_parted front (one ∷ []) y (in_member (front ++ one ∷ []) y h)))) (λ h. member_in (front ++ one ∷ []) y (member_left front (one ∷ []) y (in_member front y h))) where
  out : Member y front ⊎ ((one ≡ y) ⊎ ⊥) → Member y front
  out (inl m) = m
  out (inr (inl e)) = absurd (ne (sym e))
  out (inr (inr f)) = absurd f

is_in_last : (front : List ℕ) (one : ℕ) → is_in (front ++ one ∷ []) one ≡ true
is_in_last front one = member_in (front ++ one ∷ []) one (member_right front (one ∷ []) one (inl refl))

-- a member of an ascending row is not repeated
not_before : (row : List ℕ) (i : ℕ) → i < length row → AllPairs (λ x y. x < y) row → is_in (take i row) (get_or row i 0) ≡ false
not_before row i l up = false_from_ne_true (is_in (take i row) (get_or row i 0)) (λ h. out (placed (take i row) (get_or row i 0) 0 (in_member (take i row) (get_or row i 0) h))) where
  out : (k : ℕ) × (k < length (take i row)) × (get_or (take i row) k 0 ≡ get_or row i 0) → ⊥
  out p =
      let k : p.0 < i = omega (arith, p.1, length-take-le i row (omega arith)) in
      let e = sym (get_or-take i row p.0 0 k) ∙ p.2 in
      let m = up p.0 i 0 k l in
      omega arith

-- the item at the next id of a row is unchanged
pub unchanged : {A : Type 0} (d : A) (change : A → A) (row : List ℕ) (i : ℕ) (old mid : List A) → i < length row → AllPairs (λ x y. x < y) row → get_or row i 0 < length old
    → AreChangedAt d change (take i row) old mid → get_or mid (get_or row i 0) d ≡ get_or old (get_or row i 0) d
unchanged d change row i old mid l up below so =
    so.at (get_or row i 0) below ∙ ap (λ b. cond b (change (get_or old (get_or row i 0) d)) (get_or old (get_or row i 0) d)) (not_before row i l up)

-- the next item is changed
pub changed_step : {A : Type 0} (d : A) (change : A → A) (row : List ℕ) (i : ℕ) (old mid : List A) (new : A) → i < length row → AllPairs (λ x y. x < y) row → get_or row i 0 < length old
    → AreChangedAt d change (take i row) old mid → new ≡ change (get_or mid (get_or row i 0) d) → AreChangedAt d change (take (i + 1) row) old (set mid (get_or row i 0) new)
changed_step d change row i old mid new l up below so is = record { length_is = length-set mid (get_or row i 0) new ∙ so.length_is; at = at } where
  here : get_or row i 0 < length mid
  here = omega (arith, so.length_is)

  at : (y : ℕ) → y < length old → get_or (set mid (get_or row i 0) new) y d ≡ cond (is_in (take (i + 1) row) y) (change (get_or old y d)) (get_or old y d)
  at y m = elim (cases_eq y (get_or row i 0)) [
    | inl e ↦
        let one = get_or row i 0 in
        let first : get_or (set mid one new) one d ≡ change (get_or mid one d) = get_or-set_same mid one new d here ∙ is in
        let second : get_or mid one d ≡ get_or old one d = unchanged d change row i old mid l up below so in
        let third : is_in (take (i + 1) row) one ≡ true = ap (λ xs. is_in xs one) (take_more row i 0 l) ∙ is_in_last (take i row) one in
        let all : get_or (set mid one new) one d ≡ cond (is_in (take (i + 1) row) one) (change (get_or old one d)) (get_or old one d)
        = first ∙ (ap change second ∙ ap (λ b. cond b (change (get_or old one d)) (get_or old one d)) (sym third)) in
        subst (λ v. get_or (set mid (get_or row i 0) new) v d ≡ cond (is_in (take (i + 1) row) v) (change (get_or old v d)) (get_or old v d)) (sym e) all
    | inr ne ↦
        let same : is_in (take (i + 1) row) y ≡ is_in (take i row) y = ap (λ xs. is_in xs y) (take_more row i 0 l) ∙ is_in_step (take i row) (get_or row i 0) y ne in
        get_or-set_other mid (get_or row i 0) y new d ne ∙ (so.at y m ∙ ap (λ b. cond b (change (get_or old y d)) (get_or old y d)) (sym same))
  ]

-- the next number
numbers_step : (a n : ℕ) → range_with_len a (n + 1) ≡ range_with_len a n ++ (a + n) ∷ []
numbers_step a zero = ap (λ v. v ∷ []) (omega arith)
numbers_step a (suc n) =
    let e : suc n + 1 ≡ suc (n + 1) = omega arith in
    let f : a + 1 + n ≡ a + suc n = omega arith in
    ap (λ m. range_with_len a m) e ∙ ap (λ xs. a ∷ xs) (numbers_step (a + 1) n ∙ ap (λ v. range_with_len (a + 1) n ++ v ∷ []) f)

one_step : (n : ℕ) → numbers 0 (n + 1) ≡ numbers 0 n ++ n ∷ []
one_step n = ap (λ m. range_with_len 0 m) (less n) ∙ (numbers_step 0 n ∙ both) where
  less : (n : ℕ) → (n + 1) - 0 ≡ n + 1
  less n = omega arith

  both : range_with_len 0 n ++ (0 + n) ∷ [] ≡ numbers 0 n ++ n ∷ []
  both = let e : n ≡ n - 0 = omega arith in let f : 0 + n ≡ n = omega arith in ap (λ m. range_with_len 0 m ++ (0 + n) ∷ []) e ∙ ap (λ v. numbers 0 n ++ v ∷ []) f

-- the indices of the first n rows that contain an id
abbrev pub with : List (List ℕ) → ℕ → ℕ → List ℕ
with rows y n = filter (λ x. is_in (get_or rows x []) y) (numbers 0 n)

pub with_step : (rows : List (List ℕ)) (y n : ℕ) → with rows y (n + 1) ≡ cond (is_in (get_or rows n []) y) (with rows y n ++ n ∷ []) (with rows y n)
with_step rows y n =
    let p = λ (x : ℕ). is_in (get_or rows x []) y in
    ap (λ xs. filter p xs) (one_step n) ∙ (filter-append p (numbers 0 n) (n ∷ []) ∙ go (p n) (with rows y n))
  where
    go : (b : Bool) (front : List ℕ) → front ++ cond b (n ∷ []) [] ≡ cond b (front ++ n ∷ []) front
    go true front = refl
    go false front = append-nil front

-- no rows
pub transposed_none : (rows : List (List ℕ)) (count : ℕ) (lists : List (List ℕ)) → lists ≡ replicate count [] → IsTransposedSoFar rows count 0 lists
transposed_none rows count lists is = record {
  length_is = ap (λ xs. length xs) is ∙ length-replicate count [];
  at = λ y l. ap (λ xs. get_or xs y []) is ∙ get_or-replicate count y [] [] l;
}

-- the next row
pub transposed_step : (rows : List (List ℕ)) (count id : ℕ) (mid new : List (List ℕ)) → IsTransposedSoFar rows count id mid → AreChangedAt [] (λ list. list ++ id ∷ []) (get_or rows id []) mid new
    → IsTransposedSoFar rows count (id + 1) new
transposed_step rows count id mid new so added = record { length_is = added.length_is ∙ so.length_is; at = at } where
  at : (y : ℕ) → y < count → get_or new y [] ≡ with rows y (id + 1)
  at y l =
      added.at y (omega (arith, so.length_is)) ∙ (ap (λ xs. cond (is_in (get_or rows id []) y) (xs ++ id ∷ []) xs) (so.at y l) ∙ sym (with_step rows y id))

-- the next row is counted
pub degrees_step : (rows : List (List ℕ)) (count id : ℕ) (mid new : List ℕ) → AreDegreesSoFar rows count id mid → AreChangedAt 0 (λ n. n + 1) (get_or rows id []) mid new
    → AreDegreesSoFar rows count (id + 1) new
degrees_step rows count id mid new so added = record { length_is = added.length_is ∙ so.length_is; at = at } where
  go : (b : Bool) (front : List ℕ) → cond b (length front + 1) (length front) ≡ length (cond b (front ++ id ∷ []) front)
  go true front = sym (length_push front id)
  go false front = refl

  at : (y : ℕ) → y < count → get_or new y 0 ≡ length (with rows y (id + 1))
  at y l =
      added.at y (omega (arith, so.length_is)) ∙ (ap (λ n. cond (is_in (get_or rows id []) y) (n + 1) n) (so.at y l) ∙ (go (is_in (get_or rows id []) y) (with rows y id) ∙ ap (λ xs. length xs) (sym (with_step rows y id))))

-- at most n of n rows contain an id
few_with : (rows : List (List ℕ)) (y n : ℕ) → length (with rows y n) ≤ n
few_with rows y zero = omega arith
few_with rows y (suc n) =
    let e : n + 1 ≡ suc n = omega arith in
    subst (λ m. length (with rows y m) ≤ m) e (subst (λ xs. length xs ≤ n + 1) (sym (with_step rows y n)) (go (is_in (get_or rows n []) y) (with rows y n) (few_with rows y n)))
  where
    go : (b : Bool) (front : List ℕ) → length front ≤ n → length (cond b (front ++ n ∷ []) front) ≤ n + 1
    go true front l = omega (arith, length_push front n)
    go false front l = omega arith

pub few_degrees : (rows : List (List ℕ)) (count done : ℕ) (degrees : List ℕ) → AreDegreesSoFar rows count done degrees → done < length rows → length rows < 2 ^ 32 → All (λ n. n + 1 < 2 ^ 32) degrees
few_degrees rows count done degrees so l few k d m =
    let e = so.at k (omega (arith, so.length_is)) in
    let f = few_with rows k done in
    let g : get_or degrees k d ≡ get_or degrees k 0 = get_or_default degrees k d 0 m in
    omega arith

-- the number of rows that contain an id does not decrease
with_grows : (rows : List (List ℕ)) (y n m : ℕ) → length (with rows y n) ≤ length (with rows y (n + m))
with_grows rows y n zero = let e : n ≡ n + 0 = omega arith in subst (λ k. length (with rows y n) ≤ length (with rows y k)) e (omega arith)
with_grows rows y n (suc m) =
    let e : n + m + 1 ≡ n + suc m = omega arith in
    subst (λ k. length (with rows y n) ≤ length (with rows y k)) e (subst (λ xs. length (with rows y n) ≤ length xs) (sym (with_step rows y (n + m))) (go (is_in (get_or rows (n + m) []) y) (with rows y (n + m)) (with_grows rows y n m)))
  where
    go : (b : Bool) (front : List ℕ) → length (with rows y n) ≤ length front → length (with rows y n) ≤ length (cond b (front ++ (n + m) ∷ []) front)
    go true front l = omega (arith, length_push front (n + m))
    go false front l = l

-- if a row contains an id, the list of the id is not full
capacity_with : (rows : List (List ℕ)) (y id : ℕ) → id < length rows → is_in (get_or rows id []) y ≡ true → length (with rows y id) < length (with rows y (length rows))
capacity_with rows y id l h =
    let e : id + 1 + (length rows - (id + 1)) ≡ length rows = omega arith in
    let g = subst (λ n. length (with rows y (id + 1)) ≤ length (with rows y n)) e (with_grows rows y (id + 1) (length rows - (id + 1))) in
    let f : with rows y (id + 1) ≡ with rows y id ++ id ∷ [] = with_step rows y id ∙ ap (λ b. cond b (with rows y id ++ id ∷ []) (with rows y id)) h in
    let m : length (with rows y (id + 1)) ≡ length (with rows y id) + 1 = ap (λ xs. length xs) f ∙ length_push (with rows y id) id in
    omega arith

-- the lists of transposed rows
pub transposed_length : (rows : List (List ℕ)) (count : ℕ) → length (transposed rows count) ≡ count
transposed_length rows count = length-map (numbers 0 count) (λ y. filter (λ x. is_in (get_or rows x []) y) (numbers 0 (length rows))) ∙ long_numbers count

pub transposed_at : (rows : List (List ℕ)) (count y : ℕ) → y < count → get_or (transposed rows count) y [] ≡ filter (λ x. is_in (get_or rows x []) y) (numbers 0 (length rows))
transposed_at rows count y l =
    let g = λ (y : ℕ). filter (λ x. is_in (get_or rows x []) y) (numbers 0 (length rows)) in
    let n : y < length (numbers 0 count) = omega (arith, long_numbers count) in
    get_or-map g (numbers 0 count) y 0 [] n ∙ ap g (at_numbers count y 0 l)

-- all rows
pub transposed_all : (rows : List (List ℕ)) (count id : ℕ) (lists : List (List ℕ)) → id ≡ length rows → IsTransposedSoFar rows count id lists → lists ≡ transposed rows count
transposed_all rows count id lists e so = ext_get_or [] lists (transposed rows count) (so.length_is ∙ sym (transposed_length rows count)) same where
  same : (y : ℕ) → y < length lists → get_or lists y [] ≡ get_or (transposed rows count) y []
  same y l =
      let m : y < count = omega (arith, so.length_is) in
      so.at y m ∙ (ap (λ k. filter (λ x. is_in (get_or rows x []) y) (numbers 0 k)) e ∙ sym (transposed_at rows count y m))

degree_at : (rows : List (List ℕ)) (count y : ℕ) → y < count → get_or (map (λ xs. length xs) (transposed rows count)) y 0 ≡ length (with rows y (length rows))
degree_at rows count y l = get_or-map (λ xs. length xs) (transposed rows count) y [] 0 (omega (arith, transposed_length rows count)) ∙ ap (λ xs. length xs) (transposed_at rows count y l)

-- all rows are counted
pub degrees_all : (rows : List (List ℕ)) (count done : ℕ) (degrees : List ℕ) → done ≡ length rows → AreDegreesSoFar rows count done degrees → degrees ≡ map (λ xs. length xs) (transposed rows count)
degrees_all rows count done degrees e so = ext_get_or 0 degrees (map (λ xs. length xs) (transposed rows count)) (so.length_is ∙ sym (length-map (transposed rows count) (λ xs. length xs) ∙ transposed_length rows count)) same where
  same : (y : ℕ) → y < length degrees → get_or degrees y 0 ≡ get_or (map (λ xs. length xs) (transposed rows count)) y 0
  same y l =
      let m : y < count = omega (arith, so.length_is) in
      so.at y m ∙ (ap (λ n. length (with rows y n)) e ∙ sym (degree_at rows count y m))

pub degrees_length : (rows : List (List ℕ)) (count : ℕ) → length (map (λ xs. length xs) (transposed rows count)) ≡ count
degrees_length rows count = length-map (transposed rows count) (λ xs. length xs) ∙ transposed_length rows count

-- if a row contains an id, fewer of the previous rows contain it than of all rows
row_later : (rows : List (List ℕ)) (count id : ℕ) (row : List ℕ) → id < length rows → get_or rows id [] ≡ row → All (λ y. y < count) row → (k d : ℕ) → k < length row
    → length (with rows (get_or row k d) id) < length (with rows (get_or row k d) (length rows))
row_later rows count id row l e below k d m =
    let y = get_or row k d in
    let has : is_in (get_or rows id []) y ≡ true = subst (λ r. is_in r y ≡ true) (sym e) (member_in row y (member_at row k d m)) in
    capacity_with rows y id l has

-- the lists at the ids of a row are not full
pub capacities_for : (rows : List (List ℕ)) (count id : ℕ) (row : List ℕ) (lists : List (List ℕ)) (capacities : List ℕ) → IsTransposedSoFar rows count id lists → capacities ≡ map (λ xs. length xs) (transposed rows count)
    → id < length rows → get_or rows id [] ≡ row → All (λ y. y < count) row → All (λ y. length (get_or lists y []) < get_or capacities y 0) row
capacities_for rows count id row lists capacities so is l e below k d m =
    let y = get_or row k d in
    let b : y < count = below k d m in
    let r = row_later rows count id row l e below k d m in
    let f = ap (λ xs. length xs) (so.at y b) in
    let g = ap (λ xs. get_or xs y 0) is ∙ degree_at rows count y b in
    omega arith

-- the same if no id is in more rows than the capacity
pub fewer : (rows : List (List ℕ)) (count most id : ℕ) (row : List ℕ) → All (λ list. length list ≤ most) (transposed rows count) → id < length rows → get_or rows id [] ≡ row → All (λ y. y < count) row
    → (k d : ℕ) → k < length row → length (with rows (get_or row k d) id) < most
fewer rows count most id row few l e below k d m =
    let y = get_or row k d in
    let b : y < count = below k d m in
    let r = row_later rows count id row l e below k d m in
    let length_is = ap (λ xs. length xs) (transposed_at rows count y b) in
    let here = few y [] (omega (arith, b, transposed_length rows count)) in
    omega arith

pub rows_for : (rows : List (List ℕ)) (count most id : ℕ) (row : List ℕ) (lists : List (List ℕ)) → IsTransposedSoFar rows count id lists → All (λ list. length list ≤ most) (transposed rows count)
    → id < length rows → get_or rows id [] ≡ row → All (λ y. y < count) row → All (λ y. length (get_or lists y []) < most) row
rows_for rows count most id row lists so few l e below k d m =
    let f = fewer rows count most id row few l e below k d m in
    let g = ap (λ xs. length xs) (so.at (get_or row k d) (below k d m)) in
    omega arith
