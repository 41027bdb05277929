-- What sorted rows of the corners of cells, or of their faces, say of the first cell that is repeated and of the first that is the
-- third with some face.
use Rattle.std.proofs.Common.{◌≡◌, ℕ, suc, ◌+◌, ◌&&◌, ◌||◌, nat_lt, cond, min, Bool, true, false}
use Rattle.std.proofs.Common.{List, [], ◌∷◌, ◌++◌, length, map, refl, sym, ap, ◌∙◌, arith, eqb, nat_cmp}
use Rattle.std.proofs.Common.{lt-ltb, zero-add}
use Rattle.std.specs.Cmp.Lexicographic.{slice_cmp, pointwise}
use Rattle.std.specs.List.{list_any, count_by, reduce, AllByRecursion, AllZip, IsDistinct}
use Rattle.std.specs.List.Sorted.{IsPermutation, IsSorted}
use Rattle.std.proofs.lemmas.Bool.{and_left, and_right}
use Rattle.std.proofs.lemmas.List.{map-append}
use Rattle.std.proofs.lemmas.Map.Text.{is_eq-slice_cmp}
use Rattle.liszt_base.specs.Corners.{is_in, includes, same_members, are_different, induced_cycles, along, repeats_earlier, is_third}
use Rattle.liszt_base.specs.declared.mesh.RawCell.{RawCell}
use Rattle.tet_reader.specs.declared.misfit.Row.{Row}
use Rattle.tet_reader.specs.Internal.FirstMisfit.{first_true}
use Rattle.tet_reader.specs.Internal.RepeatedRows.{repeated_indices, with_cell_index, single_piece, IsRow}
use Rattle.tet_reader.proofs.FaceLemmas.{count_more, same_either_way, IsTriple, apart, faces_are_triples, one_face}
use Rattle.tet_reader.proofs.CellIndexLemmas.{count_same, held, item_passes}
use Rattle.tet_reader.proofs.RepeatLemmas.{row_order}
use Rattle.tet_reader.proofs.LeastRepeatLemmas.{all_append, all_map, all_weaker, ArePieces, least_repeat_is}

-- ---- cells

-- four different corners
abbrev pub AreCorners : List ℕ → Type 0
AreCorners corners = (length corners ≡ 4) × (are_different corners ≡ true)

-- a map of a map
map_map : {A B C : Type 0} (f : B → C) (g : A → B) (xs : List A) → map f (map g xs) ≡ map (λ x. f (g x)) xs
map_map f g [] = refl
map_map f g (x ∷ xs) = ap (λ l. f (g x) ∷ l) (map_map f g xs)

-- tests along some cells, and along what is made of them
along_map : {A B : Type 0} (P : A → Type 0) (f : A → B) (test : List B → B → Bool) (own : List A → A → Bool)
    → ((earlier : List A) (x : A) → AllByRecursion P earlier → P x → test (map f earlier) (f x) ≡ own earlier x)
    → (earlier xs : List A) → AllByRecursion P earlier → AllByRecursion P xs → along test (map f earlier) (map f xs) ≡ along own earlier xs
along_map P f test own h earlier [] e a = refl
along_map P f test own h earlier (x ∷ xs) e a =
    let more = along_map P f test own h (earlier ++ x ∷ []) xs (all_append P earlier (x ∷ []) e (a.0, tt)) a.1 in
    let next = ap (λ l. along test l (map f xs)) (sym (map-append f earlier (x ∷ []))) in
    cc (h earlier x e a.0, next, more)

-- having the same members goes both ways
same_back : (xs ys : List ℕ) → same_members xs ys ≡ same_members ys xs
same_back xs ys = and_back (includes xs ys) (includes ys xs) where
  and_back : (a b : Bool) → (a && b) ≡ (b && a)
  and_back true true = refl
  and_back true false = refl
  and_back false true = refl
  and_back false false = refl

-- where a cell has a piece of an earlier one, it is repeated
repeated_alone : (corners : List ℕ) (earlier : List (List ℕ))
    → nat_lt 0 (held corners (map single_piece earlier)) ≡ list_any (same_members corners) earlier
repeated_alone corners [] = refl
repeated_alone corners (cell ∷ earlier) =
    go (same_members cell corners) (same_members corners cell) (same_back cell corners) (held corners (map single_piece earlier))
    (list_any (same_members corners) earlier) (repeated_alone corners earlier)
  where
    go : (a b : Bool) → a ≡ b → (n : ℕ) (t : Bool) → nat_lt 0 n ≡ t → nat_lt 0 ((0 + cond a 1 0) + n) ≡ (b || t)
    go true true e n t h = lt-ltb 0 (1 + n) (omega arith)
    go true false e n t h = cc
    go false true e n t h = cc
    go false false e n t h = ap (λ m. nat_lt 0 m) (zero-add n) ∙ h

-- a test or none
or_false : (b : Bool) → (b || false) ≡ b
or_false true = refl
or_false false = refl

-- and so along all cells
along_single_piece : (cells : List (List ℕ)) → AllByRecursion AreCorners cells → along (item_passes 0) [] (map single_piece cells) ≡ along repeats_earlier [] cells
along_single_piece cells a =
    along_map AreCorners single_piece (item_passes 0) repeats_earlier
    (λ earlier x e c. or_false (nat_lt 0 (held x (map single_piece earlier))) ∙ repeated_alone x earlier) [] cells tt a

-- the corners are the one piece
single_pieces : (corners : List ℕ) → AreCorners corners → ArePieces (single_piece corners)
unfolding IsDistinct
single_pieces corners a = record { different = (a.1, tt); apart = (tt, tt) }

-- what holds of four different corners written out
of_four : (P : List ℕ → Type 0) → ((a b c d : ℕ) → are_different (a ∷ b ∷ c ∷ d ∷ []) ≡ true → P (a ∷ b ∷ c ∷ d ∷ []))
    → (corners : List ℕ) → AreCorners corners → P corners
of_four P h (a ∷ b ∷ c ∷ d ∷ []) r = h a b c d r.1
of_four P h [] r = absurd (omega (arith, r.0))
of_four P h (a ∷ []) r = absurd (omega (arith, r.0))
of_four P h (a ∷ b ∷ []) r = absurd (omega (arith, r.0))
of_four P h (a ∷ b ∷ c ∷ []) r = absurd (omega (arith, r.0))
of_four P h (a ∷ b ∷ c ∷ d ∷ e ∷ more) r = absurd (omega (arith, r.0))

-- a list that lacks one of the first three members of another does not include it
first_out : (a b c : Bool) → a ≡ false → ((a && b) && c) ≡ false
first_out a b c e = and_left (a && b) c (and_left a b e)

second_out : (a b c d : Bool) → b ≡ false → ((a && (b && c)) && d) ≡ false
second_out a b c d e = and_left (a && (b && c)) d (and_right a (b && c) (and_left b c e))

third_out : (a b c d f : Bool) → c ≡ false → ((a && (b && (c && d))) && f) ≡ false
third_out a b c d f e = and_left (a && (b && (c && d))) f (and_right a (b && (c && d)) (and_right b (c && d) (and_left c d e)))

-- no two faces have the same corners
faces_differ : (a b c d : ℕ) → are_different (a ∷ b ∷ c ∷ d ∷ []) ≡ true → ArePieces (induced_cycles (a ∷ b ∷ c ∷ d ∷ []))
unfolding IsDistinct
faces_differ a b c d e =
    let p = apart a b c d e in
    let t = faces_are_triples a b c d e in
    let a_out : is_in (b ∷ c ∷ d ∷ []) a ≡ false = rw (p.0, p.1, p.2) refl in
    let b_out : is_in (a ∷ d ∷ c ∷ []) b ≡ false = rw (same_either_way a b ∙ p.0, p.4, p.3) refl in
    let c_out : is_in (a ∷ b ∷ d ∷ []) c ≡ false = rw (same_either_way a c ∙ p.1, same_either_way b c ∙ p.3, p.5) refl in
    record {
      different = (t.0.1, (t.1.1, (t.2.1, (t.3.1, tt))));
      apart = (
        (first_out _ _ _ a_out, (first_out _ _ _ a_out, (first_out _ _ _ a_out, tt))),
        ((second_out _ _ _ _ b_out, (third_out _ _ _ _ _ b_out, tt)), ((second_out _ _ _ _ c_out, tt), (tt, tt))),
      );
    }

-- a cell includes a triple where one of its faces has the same corners
one_of_faces : (face : List ℕ) → IsTriple face → (cell : List ℕ) → AreCorners cell
    → count_by (λ piece. same_members piece face) (induced_cycles cell) ≡ cond (includes cell face) 1 0
one_of_faces face t =
    of_four (λ cell. count_by (λ piece. same_members piece face) (induced_cycles cell) ≡ cond (includes cell face) 1 0)
    (λ a b c d e.
    count_same (λ piece. same_members piece face) (same_members face) (induced_cycles (a ∷ b ∷ c ∷ d ∷ [])) (λ piece. same_back piece face)
    ∙ one_face a b c d face e t)

-- so earlier cells include it as often as their faces have its corners
repeated_faces : (face : List ℕ) → IsTriple face → (earlier : List (List ℕ)) → AllByRecursion AreCorners earlier
    → held face (map induced_cycles earlier) ≡ count_by (λ cell. includes cell face) earlier
repeated_faces face t [] a = refl
repeated_faces face t (cell ∷ earlier) a =
    cc (one_of_faces face t cell a.0, repeated_faces face t earlier a.1, count_more (λ x. includes x face) cell earlier)

-- two tests that agree at each member
any_each : {A : Type 0} (P : A → Type 0) (p q : A → Bool) (xs : List A) → AllByRecursion P xs → ((x : A) → P x → p x ≡ q x)
    → list_any p xs ≡ list_any q xs
any_each P p q [] a h = refl
any_each P p q (x ∷ xs) a h = cc (h x a.0, any_each P p q xs a.1 h)

-- each face is a triple
triples : (cell : List ℕ) → AreCorners cell → AllByRecursion IsTriple (induced_cycles cell)
triples = of_four (λ cell. AllByRecursion IsTriple (induced_cycles cell))
    (λ a b c d e. let t = faces_are_triples a b c d e in (t.0, (t.1, (t.2, (t.3, tt)))))

-- where a cell has a face of two earlier ones, it is the third with it
third_with : (earlier : List (List ℕ)) (corners : List ℕ) → AllByRecursion AreCorners earlier → AreCorners corners
    → item_passes 1 (map induced_cycles earlier) (induced_cycles corners) ≡ is_third earlier corners
third_with earlier corners e c =
    any_each IsTriple (λ face. nat_lt 1 (held face (map induced_cycles earlier)))
    (λ face. nat_lt 1 (count_by (λ cell. includes cell face) earlier)) (induced_cycles corners) (triples corners c)
    (λ face t. ap (λ n. nat_lt 1 n) (repeated_faces face t earlier e))

-- and so along all cells
along_faces : (cells : List (List ℕ)) → AllByRecursion AreCorners cells
    → along (item_passes 1) [] (map induced_cycles cells) ≡ along is_third [] cells
along_faces cells a = along_map AreCorners induced_cycles (item_passes 1) is_third third_with [] cells tt a

-- ---- what the two tables say

-- the corners of cells, which are four different ones each
abbrev corners_of : List RawCell → List (List ℕ)
corners_of cells = map (λ cell. cell.corners) cells

abbrev EachFour : List RawCell → Type 0
EachFour cells = AllByRecursion (λ cell. AreCorners cell.corners) cells

-- a table of pieces of cells, sorted
table_is : (few back : ℕ) → back ≡ suc few → (pieces : List ℕ → List (List ℕ))
    → ((corners : List ℕ) → AreCorners corners → ArePieces (pieces corners)) → (test : List (List ℕ) → List ℕ → Bool)
    → ((cells : List (List ℕ)) → AllByRecursion AreCorners cells → along (item_passes few) [] (map pieces cells) ≡ along test [] cells)
    → (cells : List RawCell) → EachFour cells → (rows sorted : List (Row (List ℕ)))
    → AllZip IsRow rows (with_cell_index 0 (map (λ cell. pieces cell.corners) cells)) → IsPermutation rows sorted
    → IsSorted (row_order (slice_cmp nat_cmp)) sorted
    → reduce min (repeated_indices (pointwise eqb) back sorted) ≡ first_true 0 (along test [] (corners_of cells))
table_is few back e pieces are test tests cells a rows sorted z p s =
    let own = λ (cell : RawCell). pieces cell.corners in
    let four = λ (cell : RawCell). AreCorners cell.corners in
    let of_own = all_weaker four (λ cell. ArePieces (own cell)) cells (λ cell r. are cell.corners r) a in
    let each = all_map ArePieces own cells of_own in
    let corners = all_map AreCorners (λ (cell : RawCell). cell.corners) cells a in
    least_repeat_is few back e (map own cells) each rows sorted z p s (pointwise eqb) (λ x y. sym (is_eq-slice_cmp x y))
    ∙ ap (λ all. first_true 0 (along (item_passes few) [] all)) (sym (map_map pieces (λ (cell : RawCell). cell.corners) cells))
    ∙ ap (λ all. first_true 0 all) (tests (corners_of cells) corners)

-- the first cell that is repeated
pub twice_is : (cells : List RawCell) → AllByRecursion (λ cell. AreCorners cell.corners) cells → (rows sorted : List (Row (List ℕ)))
    → AllZip IsRow rows (with_cell_index 0 (map (λ cell. single_piece cell.corners) cells)) → IsPermutation rows sorted
    → IsSorted (row_order (slice_cmp nat_cmp)) sorted
    → reduce min (repeated_indices (pointwise eqb) 1 sorted) ≡ first_true 0 (along repeats_earlier [] (map (λ cell. cell.corners) cells))
twice_is = table_is 0 1 refl single_piece single_pieces repeats_earlier along_single_piece

-- the first that is the third with some face
pub third_is : (cells : List RawCell) → AllByRecursion (λ cell. AreCorners cell.corners) cells → (rows sorted : List (Row (List ℕ)))
    → AllZip IsRow rows (with_cell_index 0 (map (λ cell. induced_cycles cell.corners) cells)) → IsPermutation rows sorted
    → IsSorted (row_order (slice_cmp nat_cmp)) sorted
    → reduce min (repeated_indices (pointwise eqb) 2 sorted) ≡ first_true 0 (along is_third [] (map (λ cell. cell.corners) cells))
third_is = table_is 1 2 refl induced_cycles (of_four (λ corners. ArePieces (induced_cycles corners)) faces_differ) is_third along_faces
