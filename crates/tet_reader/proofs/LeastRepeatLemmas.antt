-- The least repeat of sorted rows of pieces of cells is the first cell one of whose pieces enough earlier cells have.
use Rattle.std.proofs.Common.{◌≡◌, ℕ, suc, ◌+◌, ◌<◌, ◌≤◌, ◌==◌, ◌&&◌, nat_lt, cond, min, Bool, true, false, Option}
use Rattle.std.proofs.Common.{List, [], ◌∷◌, ◌++◌, map, refl, sym, ap, ◌∙◌, arith, Ordering, Less, Equal, Greater, nat_cmp}
use Rattle.std.proofs.Common.{ne_eqb, ◌≢◌}
use Rattle.std.specs.Cmp.Lexicographic.{slice_cmp}
use Rattle.std.specs.List.{list_any, count_by, reduce, AllByRecursion, AllZip, IsDistinct}
use Rattle.std.specs.List.Sorted.{IsPermutation, IsSorted}
use Rattle.std.specs.Ordering.{is_eq, eq_by_cmp, ordering_then}
use Rattle.std.proofs.lemmas.Bool.{and_left, and_right}
use Rattle.std.proofs.lemmas.Bool.Decides.{nat_tests}
use Rattle.std.proofs.lemmas.Cmp.{nat_list_cmp_total, eq_by_cmp_equiv}
use Rattle.std.proofs.lemmas.List.Sorted.{list_any-IsPermutation, sum_by-IsPermutation}
use Rattle.std.proofs.lemmas.Map.Keys.{IsDistinct-cons, IsDistinct-head, IsDistinct-tail, IsDistinct-IsPermutation}
use Rattle.liszt_base.specs.Corners.{is_in, same_members, are_different, along}
use Rattle.tet_reader.specs.declared.misfit.Row.{Row}
use Rattle.tet_reader.specs.Internal.FirstMisfit.{first_true}
use Rattle.tet_reader.specs.Internal.RepeatedRows.{repeated_indices, with_cell_index, IsRow}
use Rattle.tet_reader.proofs.FaceLemmas.{count_more}
use Rattle.tet_reader.proofs.KeyLemmas.{one_key}
use Rattle.tet_reader.proofs.CellIndexLemmas.{one_least, least_of, reduce_least, any_same, is_earlier, item_passes}
use Rattle.tet_reader.proofs.CellIndexLemmas.{has_earlier, least_passes}
use Rattle.tet_reader.proofs.RepeatLemmas.{row_order, row_order_total, is_before, AreInOrder, has_before, repeats_are}

-- ---- rows and pieces

-- the order of keys
abbrev key_order : List ℕ → List ℕ → Ordering
key_order = slice_cmp nat_cmp

-- a row and a piece of different corners
abbrev Fits : Row (List ℕ) → List ℕ × ℕ → Type 0
Fits row piece = IsRow row piece × (are_different piece.0 ≡ true)

-- tests of rows and pieces that go with each other
any_zip : {A B : Type 0} (R : A → B → Type 0) (p : A → Bool) (q : B → Bool) (xs : List A) (ys : List B) → AllZip R xs ys
    → ((x : A) (y : B) → R x y → p x ≡ q y) → list_any p xs ≡ list_any q ys
any_zip R p q [] [] z h = refl
any_zip R p q [] (y ∷ ys) z h = absurd z
any_zip R p q (x ∷ xs) [] z h = absurd z
any_zip R p q (x ∷ xs) (y ∷ ys) z h = cc (h x y z.0, any_zip R p q xs ys z.1 h)

-- and their counts
count_zip : {A B : Type 0} (R : A → B → Type 0) (p : A → Bool) (q : B → Bool) (xs : List A) (ys : List B) → AllZip R xs ys
    → ((x : A) (y : B) → R x y → p x ≡ q y) → count_by p xs ≡ count_by q ys
count_zip R p q [] [] z h = refl
count_zip R p q [] (y ∷ ys) z h = absurd z
count_zip R p q (x ∷ xs) [] z h = absurd z
count_zip R p q (x ∷ xs) (y ∷ ys) z h = cc (count_more p x xs, count_more q y ys, h x y z.0, count_zip R p q xs ys z.1 h)

-- a row is before another where its piece is earlier
before_is : (row other : Row (List ℕ)) (piece more : List ℕ × ℕ) → Fits row piece → Fits other more
    → is_before key_order row other ≡ is_earlier piece more
before_is row other piece more r s = cc (one_key other row more piece s.0 r.0 s.1 r.1, r.0.place_is, s.0.place_is)

-- so as many rows are before it as pieces are earlier
has_before_is : (few : ℕ) (rows : List (Row (List ℕ))) (pieces : List (List ℕ × ℕ)) → AllZip Fits rows pieces → (place : ℕ)
    → has_before key_order few rows place ≡ has_earlier few pieces place
has_before_is few rows pieces z place =
    any_zip Fits (λ row. (row.place == place) && nat_lt few (count_by (is_before key_order row) rows))
    (λ piece. (piece.1 == place) && nat_lt few (count_by (is_earlier piece) pieces)) rows pieces z each
  where
    each : (row : Row (List ℕ)) (piece : List ℕ × ℕ) → Fits row piece
        → ((row.place == place) && nat_lt few (count_by (is_before key_order row) rows))
        ≡ ((piece.1 == place) && nat_lt few (count_by (is_earlier piece) pieces))
    each row piece r =
        let other_is = λ (other : Row (List ℕ)) (more : List ℕ × ℕ) (s : Fits other more). before_is row other piece more r s in
        cc (r.0.place_is, count_zip Fits (is_before key_order row) (is_earlier piece) rows pieces z other_is)

-- rows that only change their places have as many rows before them
has_before_moved : (few : ℕ) (rows moved : List (Row (List ℕ))) → IsPermutation rows moved → (place : ℕ)
    → has_before key_order few moved place ≡ has_before key_order few rows place
has_before_moved few rows moved p place =
    let one = λ (row : Row (List ℕ)). (row.place == place) && nat_lt few (count_by (is_before key_order row) rows) in
    let two = λ (row : Row (List ℕ)). (row.place == place) && nat_lt few (count_by (is_before key_order row) moved) in
    let count = λ (row : Row (List ℕ)). sum_by-IsPermutation (λ other. cond (is_before key_order row other) 1 0) rows moved p in
    let same = λ (row : Row (List ℕ)). ap (λ n. (row.place == place) && nat_lt few n) (count row) in
    any_same two one moved same ∙ sym (list_any-IsPermutation one rows moved p)

-- ---- no two rows are one

-- pieces with the same corners and the same place
abbrev is_piece : List ℕ × ℕ → List ℕ × ℕ → Bool
is_piece piece other = same_members piece.0 other.0 && (piece.1 == other.1)

-- two rows are one where their pieces are
tie : (o : Ordering) (n m : ℕ) → is_eq (ordering_then o (nat_cmp n m)) ≡ (is_eq o && (n == m))
tie Less n m = refl
tie Equal n m = grind (arith, nat_tests)
tie Greater n m = refl

row_is : (row other : Row (List ℕ)) (piece more : List ℕ × ℕ) → Fits row piece → Fits other more
    → eq_by_cmp (row_order key_order) row other ≡ is_piece piece more
row_is row other piece more r s =
    tie (key_order row.key other.key) row.place other.place ∙ cc (one_key row other piece more r.0 s.0 r.1 s.1, r.0.place_is, s.0.place_is)

-- where no two pieces are one, no two rows are
rows_apart : (rows : List (Row (List ℕ))) (pieces : List (List ℕ × ℕ)) → AllZip Fits rows pieces → IsDistinct is_piece pieces
    → IsDistinct (eq_by_cmp (row_order key_order)) rows
unfolding IsDistinct
rows_apart [] [] z d = tt
rows_apart [] (piece ∷ pieces) z d = absurd z
rows_apart (row ∷ rows) [] z d = absurd z
rows_apart (row ∷ rows) (piece ∷ pieces) z d =
    IsDistinct-cons (eq_by_cmp (row_order key_order)) row rows (out rows pieces z.1 (IsDistinct-head is_piece piece pieces d))
    (rows_apart rows pieces z.1 (IsDistinct-tail is_piece piece pieces d))
  where
    out : (others : List (Row (List ℕ))) (more : List (List ℕ × ℕ)) → AllZip Fits others more
        → AllByRecursion (λ y. is_piece piece y ≡ false) more
        → AllByRecursion (λ other. eq_by_cmp (row_order key_order) row other ≡ false) others
    out [] [] s h = tt
    out [] (p ∷ more) s h = absurd s
    out (other ∷ others) [] s h = absurd s
    out (other ∷ others) (p ∷ more) s h = (row_is row other piece p z.0 s.0 ∙ h.0, out others more s.1 h.1)

-- the pieces of a cell are of different corners each, and no two have the same
pub record ArePieces (pieces : List (List ℕ)) : Type 0 where
  pub different : AllByRecursion (λ piece. are_different piece ≡ true) pieces
  pub apart : IsDistinct same_members pieces

-- the pieces of a cell in front of others
apart_in_front : (start : ℕ) (pieces : List (List ℕ)) (others : List (List ℕ × ℕ)) → IsDistinct same_members pieces
    → AllByRecursion (λ other. start < other.1) others → IsDistinct is_piece others
    → IsDistinct is_piece (map (λ piece. (piece, start)) pieces ++ others)
apart_in_front start [] others d row_after_header e = e
apart_in_front start (piece ∷ pieces) others d row_after_header e =
    IsDistinct-cons is_piece (piece, start) (map (λ x. (x, start)) pieces ++ others)
    (out pieces (IsDistinct-head same_members piece pieces d))
    (apart_in_front start pieces others (IsDistinct-tail same_members piece pieces d) row_after_header e)
  where
    past : (more : List (List ℕ × ℕ)) → AllByRecursion (λ other. start < other.1) more
        → AllByRecursion (λ y. is_piece (piece, start) y ≡ false) more
    past [] h = tt
    past (other ∷ more) h =
        let ne : start ≢ other.1 = omega (arith, h.0) in
        (and_right (same_members piece other.0) (start == other.1) (ne_eqb start other.1 ne), past more h.1)

    out : (xs : List (List ℕ)) → AllByRecursion (λ x. same_members piece x ≡ false) xs
        → AllByRecursion (λ y. is_piece (piece, start) y ≡ false) (map (λ x. (x, start)) xs ++ others)
    out [] h = past others row_after_header
    out (x ∷ xs) h = (and_left (same_members piece x) (start == start) h.0, out xs h.1)

-- what holds of each, of both lists joined, of values, of all there is, and what follows from it
pub all_append : {A : Type 0} (P : A → Type 0) (xs ys : List A) → AllByRecursion P xs → AllByRecursion P ys → AllByRecursion P (xs ++ ys)
all_append P [] ys h k = k
all_append P (x ∷ xs) ys h k = (h.0, all_append P xs ys h.1 k)

pub all_map : {A B : Type 0} (P : B → Type 0) (f : A → B) (xs : List A) → AllByRecursion (λ x. P (f x)) xs → AllByRecursion P (map f xs)
all_map P f [] h = tt
all_map P f (x ∷ xs) h = (h.0, all_map P f xs h.1)

all_true : {A : Type 0} (P : A → Type 0) (xs : List A) → ((x : A) → P x) → AllByRecursion P xs
all_true P [] h = tt
all_true P (x ∷ xs) h = (h x, all_true P xs h)

pub all_weaker : {A : Type 0} (P Q : A → Type 0) (xs : List A) → ((x : A) → P x → Q x) → AllByRecursion P xs → AllByRecursion Q xs
all_weaker P Q [] f h = tt
all_weaker P Q (x ∷ xs) f h = (f x h.0, all_weaker P Q xs f h.1)

-- pieces placed from a number on have no lesser place
with_cell_index_from : (start : ℕ) (cells : List (List (List ℕ))) → AllByRecursion (λ other. start ≤ other.1) (with_cell_index start cells)
with_cell_index_from start [] = tt
with_cell_index_from start (pieces ∷ cells) =
    all_append (λ other. start ≤ other.1) (map (λ piece. (piece, start)) pieces) (with_cell_index (start + 1) cells)
    (all_map (λ other. start ≤ other.1) (λ piece. (piece, start)) pieces (all_true (λ piece. start ≤ start) pieces (λ x. omega arith)))
    (all_weaker (λ other. start + 1 ≤ other.1) (λ other. start ≤ other.1) (with_cell_index (start + 1) cells) (λ x l. omega (arith, l))
    (with_cell_index_from (start + 1) cells))

-- no two pieces are one, and each is of different corners
pieces_apart : (start : ℕ) (cells : List (List (List ℕ))) → AllByRecursion ArePieces cells → IsDistinct is_piece (with_cell_index start cells)
unfolding IsDistinct
pieces_apart start [] h = tt
pieces_apart start (pieces ∷ cells) h =
    let more = with_cell_index (start + 1) cells in
    let row_after_header = all_weaker (λ x. start + 1 ≤ x.1) (λ x. start < x.1) more (λ x l. omega (arith, l)) (with_cell_index_from (start + 1) cells) in
    apart_in_front start pieces more h.0.apart row_after_header (pieces_apart (start + 1) cells h.1)

pieces_differ : (start : ℕ) (cells : List (List (List ℕ))) → AllByRecursion ArePieces cells
    → AllByRecursion (λ piece. are_different piece.0 ≡ true) (with_cell_index start cells)
pieces_differ start [] h = tt
pieces_differ start (pieces ∷ cells) h =
    all_append (λ piece. are_different piece.0 ≡ true) (map (λ piece. (piece, start)) pieces) (with_cell_index (start + 1) cells)
    (all_map (λ piece. are_different piece.0 ≡ true) (λ piece. (piece, start)) pieces h.0.different) (pieces_differ (start + 1) cells h.1)

-- so rows of those pieces fit them
rows_fit : (rows : List (Row (List ℕ))) (pieces : List (List ℕ × ℕ)) → AllZip IsRow rows pieces
    → AllByRecursion (λ piece. are_different piece.0 ≡ true) pieces → AllZip Fits rows pieces
rows_fit [] [] z h = tt
rows_fit [] (piece ∷ pieces) z h = absurd z
rows_fit (row ∷ rows) [] z h = absurd z
rows_fit (row ∷ rows) (piece ∷ pieces) z h = ((z.0, h.0), rows_fit rows pieces z.1 h.1)

-- ---- the least place

-- The least repeat of the sorted rows is the first cell one of whose pieces more than n earlier ones have.
pub least_repeat_is : (few back : ℕ) → back ≡ suc few → (cells : List (List (List ℕ))) → AllByRecursion ArePieces cells
    → (rows sorted : List (Row (List ℕ))) → AllZip IsRow rows (with_cell_index 0 cells) → IsPermutation rows sorted
    → IsSorted (row_order key_order) sorted → (same : List ℕ → List ℕ → Bool) → ((x y : List ℕ) → same x y ≡ is_eq (key_order x y))
    → reduce min (repeated_indices same back sorted) ≡ first_true 0 (along (item_passes few) [] cells)
least_repeat_is few back e cells h rows sorted z p s same same_is =
    one_least (has_earlier few (with_cell_index 0 cells)) found (first_true 0 (along (item_passes few) [] cells))
    (least_of (is_in (repeated_indices same back sorted)) (has_earlier few (with_cell_index 0 cells)) found each (reduce_least (repeated_indices same back sorted)))
    (least_passes few cells)
  where
    found : Option ℕ
    found = reduce min (repeated_indices same back sorted)

    fit : AllZip Fits rows (with_cell_index 0 cells)
    fit = rows_fit rows (with_cell_index 0 cells) z (pieces_differ 0 cells h)

    order : AreInOrder key_order sorted
    order =
        let flips = (eq_by_cmp_equiv (row_order_total nat_list_cmp_total)).symm in
        let apart = rows_apart rows (with_cell_index 0 cells) fit (pieces_apart 0 cells h) in
        let still = IsDistinct-IsPermutation (eq_by_cmp (row_order key_order)) flips rows sorted p apart in
        record { total = nat_list_cmp_total; sorted = s; apart = still }

    each : (place : ℕ) → is_in (repeated_indices same back sorted) place ≡ has_earlier few (with_cell_index 0 cells) place
    each place =
        repeats_are order same same_is few back e place
        ∙ has_before_moved few rows sorted p place
        ∙ has_before_is few rows (with_cell_index 0 cells) fit place
