-- The table of rows while it grows. Private functions' contracts cite it.
use Rattle.std.specs.Prelude.{ℕ, List, [], ◌∷◌}
use Rattle.std.specs.List.{filter, slice_split, before_first}
use Rattle.std.specs.Str.Lines.{strip_carriage_return}
use Rattle.text_scan.specs.Rows.{Row, is_blank, is_hash, is_nonempty}
use Rattle.text_scan.specs.declared.row_table.RowEnd.{RowEnd}

-- The closed rows, and the words of the row that is still open.
pub record OpenRows : Type 0 where
  pub rows : List Row
  pub last : List (List ℕ)

-- The rows with these ends and these lists of words.
abbrev pub rows_of_ends : List RowEnd → List (List (List ℕ)) → List Row
rows_of_ends [] pieces = []
rows_of_ends (end ∷ ends) [] = []
rows_of_ends (end ∷ ends) (piece ∷ pieces) =
    record { line = end.line; words = piece } ∷ rows_of_ends ends pieces

-- The words of a text without a comment.
abbrev pub words_in : List ℕ → List (List ℕ)
words_in text = filter is_nonempty (slice_split is_blank text)

-- The text of a line without its CR and its comment.
abbrev pub content_of : List ℕ → List ℕ
content_of line = before_first is_hash (strip_carriage_return line)
