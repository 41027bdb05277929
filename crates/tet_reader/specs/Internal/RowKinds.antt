-- The words that a row of each kind should have, and the numbers
-- read from a row. Private functions' contracts cite it.
use Rattle.std.specs.Prelude.{◌≡◌, ℕ, None, Some, Option, List, map, ℤ, pos, Result, Ok, Err}
use Rattle.std.specs.Prelude.{if◌then◌else◌, ◌+◌, nat_lt, ◌-◌, ◌≤◌, ◌<◌, ◌^◌, nat_abs}
use Rattle.std.specs.List.{zip}
use Rattle.liszt_base.specs.declared.answers.MeshWhat.{MeshWhat}
use Rattle.text_scan.specs.Numbers.{whole_of, millionths_of}
use Rattle.text_scan.specs.declared.faults.NumberFault.{NumberFault}
use Rattle.tet_reader.specs.Tests.{first_some, word_test}
use Rattle.tet_reader.specs.Headers.{number_at}
use Rattle.tet_reader.specs.Faults.{point_words, cell_words}
use Rattle.tet_reader.specs.declared.words.Word.{Word}
use Rattle.tet_reader.specs.declared.words.Word.TheVariants.{Number, Real, Marker, Corner}
use Rattle.tet_reader.specs.declared.kinds.RowKind.{RowKind}
use Rattle.tet_reader.specs.declared.kinds.RowKind.TheVariants.{PointRow, CellRow}

-- The words that a row of this kind and number should have.
abbrev pub expected_words : RowKind → ℕ → List Word
expected_words (PointRow attributes markers) number = point_words attributes markers number
expected_words (CellRow attributes base points) number = cell_words attributes points base number

-- The value of a word as what the word should be.
abbrev pub word_value : Word → List ℕ → Result ℤ NumberFault
word_value (Number number) word = whole_of word
word_value Real word = millionths_of word
word_value Marker word = whole_of word
word_value (Corner base points) word = whole_of word

-- The value, or 0 where there is none.
abbrev pub value_or_zero : Result ℤ NumberFault → ℤ
value_or_zero (Ok value) = value
value_or_zero (Err fault) = pos 0

abbrev pub word_number : Word × List ℕ → ℤ
word_number w = value_or_zero (word_value w.0 w.1)

-- The answer of a reader of one word: its value where its test passes, otherwise the fault.
abbrev pub ReadsWord : Word → List ℕ → Result ℤ MeshWhat → Type 0
ReadsWord expected word (Ok value) =
    (word_test expected word ≡ None) × (word_value expected word ≡ Ok value)
ReadsWord expected word (Err what) = word_test expected word ≡ Some what

-- The answer of a reader of the numbers of a row that should have these words: the numbers of its
-- words where no test finds a fault, otherwise the first fault.
abbrev pub ReadsRow : List (Option MeshWhat) → List Word → List (List ℕ) → List ℤ
    → Result (Unit {0}) MeshWhat → Type 0
ReadsRow tests expected words numbers (Ok done) =
    (first_some tests ≡ None) × (numbers ≡ map word_number (zip expected words))
ReadsRow tests expected words numbers (Err what) = first_some tests ≡ Some what

-- The tests of the words only, of a row that has the right number of words.
abbrev pub word_tests : List Word → List (List ℕ) → List (Option MeshWhat)
word_tests expected words = map (λ w. word_test w.0 w.1) (zip expected words)

-- The mark among the numbers of a point's row, 0 where there is none.
abbrev pub mark_of : ℕ → ℕ → List ℤ → ℤ
mark_of attributes markers numbers =
    if nat_lt 0 markers then number_at numbers (4 + attributes) else pos 0

-- A corner among the numbers of a cell's row, as the index
-- of its point, and the region, 0 where there is none.
abbrev pub IsCorner : ℕ → List ℤ → ℕ → Type 0
IsCorner base numbers place =
    (base ≤ nat_abs (number_at numbers place)) × (nat_abs (number_at numbers place) < base + 2 ^ 32)

abbrev pub corner_of : ℕ → List ℤ → ℕ → ℕ
corner_of base numbers place = nat_abs (number_at numbers place) - base

abbrev pub region_of : ℕ → List ℤ → ℤ
region_of attributes numbers = if nat_lt 0 attributes then number_at numbers 5 else pos 0
