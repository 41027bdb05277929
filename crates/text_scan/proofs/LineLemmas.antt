-- The first line of a text, and the rows of a text line by line.
use Rattle.std.proofs.Common.{◌≡◌, ℕ, ◌+◌, ◌<◌, ◌≤◌, ◌⊎◌, cond, Bool, true, false, List, [], ◌∷◌, ◌++◌, map, length, refl, sym, ap, ◌∙◌, inl, inr, arith, append_assoc}
use Rattle.std.specs.List.{slice_split, before_first, after_first, enumerate_from, filter}
use Rattle.std.proofs.lemmas.List.{length-drop, take_all, drop_all}
use Rattle.std.proofs.lemmas.List.Splits.{slice_split_first}
use Rattle.text_scan.specs.Rows.{is_line_feed, without_empty_last, lines, words, Row, row_of, has_words, TextRows, text_rows}
use Rattle.text_scan.specs.Internal.OpenRows.{OpenRows}
use Rattle.text_scan.proofs.SplitLemmas.{HasFirst, first_part}
use Rattle.text_scan.proofs.WordLemmas.{place_of, place_here, place_further}

-- a text without LF is one part
one_part : (p : ℕ → Bool) (xs : List ℕ) → length xs ≤ place_of p xs → slice_split p xs ≡ xs ∷ []
one_part p [] le = refl
one_part p (x ∷ xs) le = go (p x) refl (λ h. one_part p xs h)
  where
    go : (b : Bool) → p x ≡ b → (length xs ≤ place_of p xs → slice_split p xs ≡ xs ∷ []) → slice_split p (x ∷ xs) ≡ (x ∷ xs) ∷ []
    go true is h = let at = place_here p x xs is in absurd (omega (arith, at))
    go false is h =
        let at = place_further p x xs is in
        let more : slice_split p xs ≡ xs ∷ [] = h (omega (arith, at)) in
        rw (is, more) refl

-- an empty last part is dropped only after another one
last_part_after : (part : List ℕ) (parts : List (List ℕ)) → HasFirst parts → without_empty_last (part ∷ parts) ≡ part ∷ without_empty_last parts
last_part_after [] parts h = rw h.2 refl
last_part_after (b ∷ part) parts h = refl

last_part_only : (part : List ℕ) → 0 < length part → without_empty_last (part ∷ []) ≡ part ∷ []
last_part_only [] some = absurd (omega arith)
last_part_only (b ∷ part) some = refl

le_or_lt : (m n : ℕ) → (m ≤ n) ⊎ (n < m)
le_or_lt m n = grind arith

-- the lines of a text that is not empty
lines_step : (text : List ℕ) → 0 < length text → lines text ≡ before_first is_line_feed text ∷ lines (after_first is_line_feed text)
lines_step text some = go (le_or_lt (length text) (place_of is_line_feed text))
  where
    go : (length text ≤ place_of is_line_feed text) ⊎ (place_of is_line_feed text < length text)
        → lines text ≡ before_first is_line_feed text ∷ lines (after_first is_line_feed text)
    go (inl none) =
        let all : before_first is_line_feed text ≡ text = take_all (place_of is_line_feed text) text none in
        let rest : after_first is_line_feed text ≡ [] = drop_all (place_of is_line_feed text + 1) text (omega arith) in
        ap without_empty_last (one_part is_line_feed text none) ∙ (last_part_only text some ∙ cc (all, rest))
    go (inr here) =
        let split = slice_split_first is_line_feed text 0 here in
        ap without_empty_last split
        ∙ last_part_after (before_first is_line_feed text) (slice_split is_line_feed (after_first is_line_feed text))
        (first_part is_line_feed (after_first is_line_feed text))

-- what is left is shorter
pub left_shorter : (text after : List ℕ) → 0 < length text → after ≡ after_first is_line_feed text → length after < length text
left_shorter text after some e = omega (arith, ap length e, length-drop (place_of is_line_feed text + 1) text)

-- The rows of a text, of which n lines were read with these rows, and this text is left.
abbrev rows_from : ℕ → List (List ℕ) → List Row
rows_from n ls = filter has_words (map row_of (enumerate_from n ls))

abbrev pub text_of : List Row → ℕ → List ℕ → TextRows
text_of rows n rest = record { rows = rows ++ rows_from (n + 1) (lines rest); last_line = n + length (lines rest) }

row_step : (n : ℕ) (line : List ℕ) (ls : List (List ℕ))
    → rows_from n (line ∷ ls) ≡ filter has_words (record { line = n; words = words line } ∷ []) ++ rows_from (n + 1) ls
row_step n line ls = go (has_words (row_of (n, line)))
  where
    go : (some : Bool) → cond some (row_of (n, line) ∷ rows_from (n + 1) ls) (rows_from (n + 1) ls)
        ≡ cond some (row_of (n, line) ∷ []) [] ++ rows_from (n + 1) ls
    go true = refl
    go false = refl

pub line_read : (bytes rest line after : List ℕ) (rows : List Row) (n : ℕ) → 0 < length rest → line ≡ before_first is_line_feed rest
    → after ≡ after_first is_line_feed rest → text_of rows n rest ≡ text_rows bytes
    → text_of (rows ++ filter has_words (record { line = n + 1; words = words line } ∷ [])) (n + 1) after ≡ text_rows bytes
line_read bytes rest line after rows n some line_is after_is e =
    let found : List Row = filter has_words (record { line = n + 1; words = words line } ∷ []) in
    let parts : lines rest ≡ line ∷ lines after = lines_step rest some ∙ cc (sym line_is, ap lines (sym after_is)) in
    let count : n + 1 + length (lines after) ≡ n + length (lines rest) = omega (arith, ap length parts) in
    let more : (rows ++ found) ++ rows_from (n + 1 + 1) (lines after) ≡ rows ++ rows_from (n + 1) (lines rest) =
    append_assoc rows found (rows_from (n + 1 + 1) (lines after))
    ∙ ap (λ l. rows ++ l) (sym (ap (rows_from (n + 1)) parts ∙ row_step (n + 1) line (lines after))) in
    let same : text_of (rows ++ found) (n + 1) after ≡ text_of rows n rest = cc (more, count) in
    same ∙ e

-- a line more, from what the table's calls left
pub line_added : (bytes rest line after : List ℕ) (before pushed closed : OpenRows) (n : ℕ) → 0 < length rest
    → line ≡ before_first is_line_feed rest → after ≡ after_first is_line_feed rest → before.last ≡ []
    → pushed ≡ record { rows = before.rows; last = before.last ++ words line }
    → closed ≡ record { rows = pushed.rows ++ filter has_words (record { line = n + 1; words = pushed.last } ∷ []); last = [] }
    → text_of before.rows n rest ≡ text_rows bytes → text_of closed.rows (n + 1) after ≡ text_rows bytes
line_added bytes rest line after before pushed closed n some line_is after_is none p q e =
    let last : pushed.last ≡ words line = ap (λ t. t.last) p ∙ ap (λ l. l ++ words line) none in
    let rows : closed.rows ≡ before.rows ++ filter has_words (record { line = n + 1; words = words line } ∷ []) =
    ap (λ t. t.rows) q ∙ cc (ap (λ t. t.rows) p, ap (λ l. filter has_words (record { line = n + 1; words = l } ∷ [])) last) in
    ap (λ r. text_of r (n + 1) after) rows ∙ line_read bytes rest line after before.rows n some line_is after_is e
