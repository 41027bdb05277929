-- Rows from their ends and their words: one row more, and the row at a place.
use Rattle.std.proofs.Common.{◌≡◌, ◌≢◌, ℕ, zero, suc, ◌+◌, ◌-◌, ◌<◌, ◌≤◌, Some, List, [], ◌∷◌, ◌++◌, map, take, drop, length, get_or, slice_get, slice_index, refl, sym, ap, subst, ◌∙◌, arith, lt-ltb}
use Rattle.std.specs.List.{filter}
use Rattle.std.proofs.lemmas.List.{length-map, get_or-map, get_or-take, get_or-drop, length-drop, length-take-le, drop-append-le, map-append, drop_all}
use Rattle.std.proofs.lemmas.Option.{get_or_from_slice_get, slice_get-get_or}
use Rattle.liszt_base.specs.Cuts.{cut, AreEnds, start_at}
use Rattle.liszt_base.proofs.Cuts.{cut_length, cut_at, cut_kept, cut_close, ends_at, ends_push}
use Rattle.text_scan.specs.Rows.{Row, has_words}
use Rattle.text_scan.specs.Internal.OpenRows.{OpenRows, rows_of_ends}
use Rattle.text_scan.specs.Rows.{row_at}
use Rattle.text_scan.specs.declared.row_table.RowEnd.{RowEnd}

pub rows_of_ends_length : (ends : List RowEnd) (pieces : List (List (List ℕ))) → length ends ≡ length pieces → length (rows_of_ends ends pieces) ≡ length ends
rows_of_ends_length [] pieces e = refl
rows_of_ends_length (end ∷ ends) [] e = absurd (omega arith)
rows_of_ends_length (end ∷ ends) (piece ∷ pieces) e = ap suc (rows_of_ends_length ends pieces (omega arith))

pub rows_of_ends_push : (ends : List RowEnd) (pieces : List (List (List ℕ))) (end : RowEnd) (piece : List (List ℕ)) → length ends ≡ length pieces
    → rows_of_ends (ends ++ end ∷ []) (pieces ++ piece ∷ []) ≡ rows_of_ends ends pieces ++ record { line = end.line; words = piece } ∷ []
rows_of_ends_push [] [] end piece e = refl
rows_of_ends_push [] (other ∷ pieces) end piece e = absurd (omega arith)
rows_of_ends_push (other ∷ ends) [] end piece e = absurd (omega arith)
rows_of_ends_push (first ∷ ends) (other ∷ pieces) end piece e =
    ap (λ l. record { line = first.line; words = other } ∷ l) (rows_of_ends_push ends pieces end piece (omega arith))

pub row_is : (ends : List RowEnd) (pieces : List (List (List ℕ))) (i : ℕ) (end : RowEnd) → length ends ≡ length pieces → i < length ends
    → row_at (rows_of_ends ends pieces) i ≡ record { line = (get_or ends i end).line; words = get_or pieces i [] }
row_is [] pieces i end e lt = absurd (omega arith)
row_is (first ∷ ends) [] i end e lt = absurd (omega arith)
row_is (first ∷ ends) (piece ∷ pieces) zero end e lt = refl
row_is (first ∷ ends) (piece ∷ pieces) (suc i) end e lt = row_is ends pieces i end (omega arith) (omega arith)

-- ---- from the fields that the code has

abbrev ends_of : List RowEnd → List ℕ
ends_of ends = map (λ e. e.end) ends

-- there are as many rows as ends
pub rows_count : (words : List (List ℕ)) (ends : List RowEnd) (rows : List Row) → rows_of_ends ends (cut 0 words (ends_of ends)) ≡ rows
    → length ends ≡ length rows
rows_count words ends rows e =
    let pieces = cut_length 0 words (ends_of ends) in
    let size = length-map ends (λ e. e.end) in
    sym (rows_of_ends_length ends (cut 0 words (ends_of ends)) (omega (arith, pieces, size))) ∙ ap length e

-- The row at a place: where its words begin and end among those of the table.
pub record IsRowAt (words : List (List ℕ)) (row : Row) (start end : ℕ) : Type 0 where
  pub rises : start ≤ end
  pub fits : end ≤ length words
  pub words_are : row.words ≡ take (end - start) (drop start words)

pub row_found : (words : List (List ℕ)) (ends seen : List RowEnd) (rows : List Row) (closed place start end : ℕ)
    → rows_of_ends ends (cut 0 words (ends_of ends)) ≡ rows → AreEnds 0 (ends_of ends) closed → closed ≤ length words → place < length rows
    → seen ≡ ends → start ≡ start_at 0 (ends_of seen) place → end ≡ slice_index (ends_of seen) place → IsRowAt words (row_at rows place) start end
row_found words ends seen rows closed place start end e h le lt same_ends start_is end_is =
    let pieces = cut 0 words (ends_of ends) in
    let some : RowEnd = record { line = 0; end = 0 } in
    let size = length-map ends (λ e. e.end) in
    let inside : place < length ends = omega (arith, rows_count words ends rows e) in
    let same : length ends ≡ length pieces = omega (arith, cut_length 0 words (ends_of ends), size) in
    let bounds = ends_at 0 closed (ends_of ends) place h (omega (arith, size)) in
    let row = ap (λ l. row_at l place) (sym e) ∙ row_is ends pieces place some same inside in
    let start_is' : start_at 0 (ends_of ends) place ≡ start = sym (start_is ∙ ap (λ l. start_at 0 (ends_of l) place) same_ends) in
    let end_is' : get_or (ends_of ends) place 0 ≡ end = sym (end_is ∙ ap (λ l. slice_index (ends_of l) place) same_ends) in
    let piece = get_or_from_slice_get pieces place _ [] (cut_at 0 words (ends_of ends) place (omega (arith, size))) in
    let turned : take (get_or (ends_of ends) place 0 - start_at 0 (ends_of ends) place) (drop (start_at 0 (ends_of ends) place) words)
    ≡ take (end - start) (drop start words) = cc (start_is', end_is') in
    record {
      rises = omega (arith, bounds.0, start_is', end_is');
      fits = omega (arith, bounds.1, end_is');
      words_are = ap (λ r. r.words) row ∙ (piece ∙ turned);
    }

-- a word of that row is a word of the table
pub word_found : (words : List (List ℕ)) (row : Row) (start end number : ℕ) (word : List ℕ) → IsRowAt words row start end
    → number < length row.words → slice_get words (start + number) ≡ Some word → slice_get row.words number ≡ Some word
word_found words row start end number word r lt e =
    let ws : List (List ℕ) = take (end - start) (drop start words) in
    let size : length ws ≡ end - start = length-take-le (end - start) (drop start words) (omega (arith, length-drop start words, r.fits)) in
    let inside : number < end - start = omega (arith, ap length r.words_are, size) in
    let same : get_or ws number [] ≡ word =
    get_or-take (end - start) (drop start words) number [] inside
    ∙ (get_or-drop start words number [] ∙ get_or_from_slice_get words (start + number) word [] e) in
    ap (λ l. slice_get l number) r.words_are ∙ (slice_get-get_or ws number [] (omega (arith, size)) ∙ ap Some same)

-- how many words the row has
pub words_count : (words : List (List ℕ)) (row : Row) (start end : ℕ) → IsRowAt words row start end → length row.words ≡ end - start
words_count words row start end r =
    ap length r.words_are ∙ length-take-le (end - start) (drop start words) (omega (arith, length-drop start words, r.fits))

-- its line
pub line_found : (words : List (List ℕ)) (ends : List RowEnd) (rows : List Row) (place : ℕ) (end : RowEnd)
    → rows_of_ends ends (cut 0 words (ends_of ends)) ≡ rows → place < length rows → end ≡ get_or ends place end → (row_at rows place).line ≡ end.line
line_found words ends rows place end e lt at =
    let pieces = cut 0 words (ends_of ends) in
    let size = length-map ends (λ e. e.end) in
    let inside : place < length ends = omega (arith, rows_count words ends rows e) in
    let same : length ends ≡ length pieces = omega (arith, cut_length 0 words (ends_of ends), size) in
    ap (λ l. (row_at l place).line) (sym e) ∙ (ap (λ r. r.line) (row_is ends pieces place end same inside) ∙ ap (λ r. r.line) (sym at))

-- where a row after the first begins
pub start_is : (ends : List RowEnd) (place : ℕ) (end : RowEnd) → place ≢ 0 → place < length ends
    → (get_or ends (place - 1) end).end ≡ start_at 0 (ends_of ends) place
start_is ends zero end some lt = absurd (some refl)
start_is ends (suc place) end some lt =
    let at : suc place - 1 ≡ place = omega arith in
    ap (λ k. (get_or ends k end).end) at ∙ sym (get_or-map (λ e. e.end) ends place end 0 (omega arith))

-- ---- while the table grows

-- the table with a word more
pub word_pushed : (words words' : List (List ℕ)) (ends : List RowEnd) (closed : ℕ) (word : List ℕ) (now : OpenRows)
    → record { rows = rows_of_ends ends (cut 0 words (ends_of ends)); last = drop closed words } ≡ now
    → AreEnds 0 (ends_of ends) closed → closed ≤ length words → words' ≡ words ++ word ∷ []
    → ◌≡◌ {A = OpenRows} (record { rows = rows_of_ends ends (cut 0 words' (ends_of ends)); last = drop closed words' })
    (record { rows = now.rows; last = now.last ++ word ∷ [] })
word_pushed words words' ends closed word now e h le same =
    let kept : cut 0 words' (ends_of ends) ≡ cut 0 words (ends_of ends) =
    ap (λ l. cut 0 l (ends_of ends)) same ∙ cut_kept 0 closed words (word ∷ []) (ends_of ends) h le in
    let more : drop closed words' ≡ drop closed words ++ word ∷ [] = ap (drop closed) same ∙ drop-append-le closed words (word ∷ []) le in
    let rows_are : rows_of_ends ends (cut 0 words' (ends_of ends)) ≡ now.rows = ap (rows_of_ends ends) kept ∙ ap (λ t. t.rows) e in
    let last_is : drop closed words' ≡ now.last ++ word ∷ [] = more ∙ ap (λ t. t.last ++ word ∷ []) e in
    cc (rows_are, last_is)

-- the table with a row more
pub row_closed : (words : List (List ℕ)) (ends ends' : List RowEnd) (closed line end : ℕ) (now : OpenRows)
    → record { rows = rows_of_ends ends (cut 0 words (ends_of ends)); last = drop closed words } ≡ now
    → AreEnds 0 (ends_of ends) closed → closed < end → end ≡ length words → ends' ≡ ends ++ record { line = line; end = end } ∷ []
    → (AreEnds 0 (ends_of ends') end × (end ≤ length words))
    × (◌≡◌ {A = OpenRows} (record { rows = rows_of_ends ends' (cut 0 words (ends_of ends')); last = drop end words })
    (record { rows = now.rows ++ filter has_words (record { line = line; words = now.last } ∷ []); last = [] }))
row_closed words ends ends' closed line end now e h less end_is same =
    let le : closed ≤ length words = omega arith in
    let last : RowEnd = record { line = line; end = end } in
    let places : ends_of ends' ≡ ends_of ends ++ end ∷ [] = ap ends_of same ∙ map-append (λ e. e.end) ends (last ∷ []) in
    let rising = ends_push 0 closed end (ends_of ends) h (omega arith) in
    let cuts : cut 0 words (ends_of ends') ≡ cut 0 words (ends_of ends) ++ drop closed words ∷ [] =
    ap (cut 0 words) places ∙ (ap (λ k. cut 0 words (ends_of ends ++ k ∷ [])) end_is ∙ cut_close 0 closed words (ends_of ends) h le) in
    let size : length ends ≡ length (cut 0 words (ends_of ends)) =
    omega (arith, cut_length 0 words (ends_of ends), length-map ends (λ e. e.end)) in
    let rows_are : rows_of_ends ends' (cut 0 words (ends_of ends')) ≡ now.rows ++ record { line = line; words = now.last } ∷ [] =
    ap (λ l. rows_of_ends l (cut 0 words (ends_of ends'))) same
    ∙ (ap (rows_of_ends (ends ++ last ∷ [])) cuts
    ∙ (rows_of_ends_push ends (cut 0 words (ends_of ends)) last (drop closed words) size
    ∙ ap (λ t. t.rows ++ record { line = line; words = t.last } ∷ []) e)) in
    let some : 0 < length now.last = omega (arith, length-drop closed words, ap (λ t. length t.last) e) in
    let kept : filter has_words (record { line = line; words = now.last } ∷ []) ≡ record { line = line; words = now.last } ∷ [] =
    rw (lt-ltb 0 (length now.last) some) refl in
    let none : drop end words ≡ [] = drop_all end words (omega arith) in (
      (subst (λ (l : List ℕ). AreEnds 0 l end) (sym places) rising, omega arith),
      cc (rows_are, kept, none),
    )
