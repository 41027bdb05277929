-- A table of rows grows by the rows of one more cell.
use Rattle.std.proofs.Common.{◌≡◌, ℕ, suc, ◌+◌, ◌<◌, List, [], ◌∷◌, ◌++◌, length, map, take, get_or, sym, ap, subst, ◌∙◌, arith}
use Rattle.std.proofs.Common.{append_assoc, append-nil}
use Rattle.std.proofs.lemmas.List.{length-map, map-append, length-take, take_more}
use Rattle.std.specs.List.{AllZip}
use Rattle.tet_reader.specs.declared.misfit.Row.{Row}
use Rattle.tet_reader.specs.Internal.RepeatedRows.{with_cell_index, IsRow}
use Rattle.tet_reader.proofs.Tests.{zip_append}

-- the pieces of some cells and of further ones
with_cell_index_append : (start : ℕ) (xs ys : List (List (List ℕ))) → with_cell_index start (xs ++ ys) ≡ with_cell_index start xs ++ with_cell_index (start + length xs) ys
with_cell_index_append start [] ys = ap (λ n. with_cell_index n ys) (omega arith)
with_cell_index_append start (x ∷ xs) ys =
    let next : (start + 1) + length xs ≡ start + suc (length xs) = omega arith in
    let more = with_cell_index_append (start + 1) xs ys ∙ ap (λ n. with_cell_index (start + 1) xs ++ with_cell_index n ys) next in
    ap (λ l. map (λ piece. (piece, start)) x ++ l) more
    ∙ sym (append_assoc (map (λ piece. (piece, start)) x) (with_cell_index (start + 1) xs) (with_cell_index (start + suc (length xs)) ys))

-- the pieces of one more cell
with_cell_index_more : {A : Type 0} (pieces : A → List (List ℕ)) (cells : List A) (place : ℕ) (d : A) → place < length cells
    → with_cell_index 0 (map pieces (take (place + 1) cells))
    ≡ with_cell_index 0 (map pieces (take place cells)) ++ map (λ piece. (piece, place)) (pieces (get_or cells place d))
with_cell_index_more pieces cells place d l =
    let front = map pieces (take place cells) in
    let cell = get_or cells place d in
    let count : 0 + length front ≡ place = omega (arith, length-map (take place cells) pieces, length-take place cells) in
    ap (λ all. with_cell_index 0 (map pieces all)) (take_more cells place d l)
    ∙ ap (λ all. with_cell_index 0 all) (map-append pieces (take place cells) (cell ∷ []))
    ∙ with_cell_index_append 0 front (pieces cell ∷ [])
    ∙ ap (λ n. with_cell_index 0 front ++ with_cell_index n (pieces cell ∷ [])) count
    ∙ ap (λ more. with_cell_index 0 front ++ more) (append-nil (map (λ piece. (piece, place)) (pieces cell)))

-- the rows of one more cell
pub rows_more : {A : Type 0} (pieces : A → List (List ℕ)) (cells : List A) (place : ℕ) (d : A) (rows more : List (Row (List ℕ)))
    → place < length cells → AllZip IsRow rows (with_cell_index 0 (map pieces (take place cells)))
    → AllZip IsRow more (map (λ piece. (piece, place)) (pieces (get_or cells place d)))
    → AllZip IsRow (rows ++ more) (with_cell_index 0 (map pieces (take (place + 1) cells)))
rows_more pieces cells place d rows more l z new =
    subst (λ all. AllZip IsRow (rows ++ more) all) (sym (with_cell_index_more pieces cells place d l))
    (zip_append IsRow rows more (with_cell_index 0 (map pieces (take place cells))) (map (λ piece. (piece, place)) (pieces (get_or cells place d)))
    z new)
