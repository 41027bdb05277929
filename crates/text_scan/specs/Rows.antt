-- The rows of a text: its lines, without comments, cut into words. That
-- `#` begins a comment and that blank lines are allowed is TetGen's file
-- format; where a line ends and what a blank is, is this project's own.
use Rattle.std.specs.Prelude.{◌≡◌, ◌≢◌, ℕ, ◌≤◌, ◌==◌, ◌||◌, ◌⊎◌, nat_lt, if◌then◌else◌, Bool, false}
use Rattle.std.specs.Prelude.{List, [], ◌∷◌, ◌++◌, map, length, slice_index_or}
use Rattle.std.specs.List.{slice_split, before_first, enumerate_from, filter, flat_map, list_any}
use Rattle.std.specs.List.{AllByRecursion}
use Rattle.std.specs.Str.Lines.{strip_carriage_return}

-- A line feed, a `#`, and a blank: a space or a tab.
abbrev pub is_line_feed : ℕ → Bool
is_line_feed b = b == 10

abbrev pub is_hash : ℕ → Bool
is_hash b = b == 35

abbrev pub is_blank : ℕ → Bool
is_blank b = (b == 32) || (b == 9)

-- The parts of a text without an empty last one.
abbrev pub without_empty_last : List (List ℕ) → List (List ℕ)
without_empty_last [] = []
without_empty_last ([] ∷ []) = []
without_empty_last (part ∷ parts) = part ∷ without_empty_last parts

-- The lines of a text: the parts between the LFs. No line follows an LF that is the last byte.
abbrev pub lines : List ℕ → List (List ℕ)
lines bytes = without_empty_last (slice_split is_line_feed bytes)

abbrev pub is_nonempty : List ℕ → Bool
is_nonempty word = nat_lt 0 (length word)

-- The words of a line: one CR at the end of the line and then its comment, from `#`
-- on, are dropped; the words are the nonempty parts between the blanks of the rest.
abbrev pub words : List ℕ → List (List ℕ)
words line =
    filter is_nonempty (slice_split is_blank (before_first is_hash (strip_carriage_return line)))

-- A row: the number of its line, from 1, and its words, at least one.
pub record Row : Type 0 where
  pub line : ℕ
  pub words : List (List ℕ)

abbrev pub row_of : ℕ × List ℕ → Row
row_of numbered = record { line = numbered.0; words = words numbered.1 }

abbrev pub has_words : Row → Bool
has_words row = nat_lt 0 (length row.words)

-- The rows of a text in the order of their lines, and the
-- number of the last line, 0 in an empty text.
pub record TextRows : Type 0 where
  pub rows : List Row
  pub last_line : ℕ

abbrev pub text_rows : List ℕ → TextRows
text_rows bytes =
    record {
      rows = filter has_words (map row_of (enumerate_from 1 (lines bytes)));
      last_line = length (lines bytes);
    }

-- The row at an index, from 0.
abbrev pub row_at : List Row → ℕ → Row
row_at rows index = slice_index_or rows index (record { line = 0; words = [] })

-- LAWS speak of a text with a CR before each LF, lines that do
-- not end in a CR, a text of whole lines, and rows of words.
abbrev pub with_carriage_returns : List ℕ → List ℕ
with_carriage_returns bytes = flat_map (λ b. if is_line_feed b then 13 ∷ 10 ∷ [] else b ∷ []) bytes

abbrev pub EndWithoutCarriageReturn : List (List ℕ) → Type 0
EndWithoutCarriageReturn lines = AllByRecursion (λ line. strip_carriage_return line ≡ line) lines

abbrev pub IsWholeLines : List ℕ → Type 0
IsWholeLines front = (front ≡ []) ⊎ ((text : List ℕ) × (front ≡ text ++ 10 ∷ []))

abbrev pub IsWord : List ℕ → Type 0
IsWord word =
    (word ≢ []) × (list_any is_blank word ≡ false) × (list_any is_hash word ≡ false)
    × (list_any is_line_feed word ≡ false)

abbrev pub IsRowUpTo : ℕ → Row → Type 0
IsRowUpTo last row =
    (1 ≤ row.line) × (row.line ≤ last) × (row.words ≢ []) × AllByRecursion IsWord row.words

abbrev pub row_words : List ℕ → List (List (List ℕ))
row_words bytes = map (λ row. row.words) (text_rows bytes).rows
