-- Lists of tests, the first fault that they find, and the
-- tests of words and rows. This project's own.
use Rattle.std.specs.Prelude.{ℕ, ◌+◌, ◌&&◌, nat_le, nat_lt, Bool, true, false, Option, Some}
use Rattle.std.specs.Prelude.{None, List, [], ◌∷◌, map, length, ℤ, pos, negsuc, Result, Ok, Err}
use Rattle.std.specs.List.{zip}
use Rattle.liszt_base.specs.declared.answers.MeshWhat.{MeshWhat}
use Rattle.liszt_base.specs.declared.answers.MeshWhat.TheVariants.{BadNumber, CoordRange}
use Rattle.liszt_base.specs.declared.answers.MeshWhat.TheVariants.{NumberOrder, Missing}
use Rattle.liszt_base.specs.declared.answers.MeshWhat.TheVariants.{Extra, CornerRange}
use Rattle.tet_reader.specs.declared.words.Word.{Word}
use Rattle.tet_reader.specs.declared.words.Word.TheVariants.{Number, Real, Marker, Corner}
use Rattle.text_scan.specs.Numbers.{whole_of, millionths_of}
use Rattle.text_scan.specs.declared.faults.NumberFault.{NumberFault}
use Rattle.text_scan.specs.declared.faults.NumberFault.TheVariants.{BadNumber as NoNumber}
use Rattle.text_scan.specs.declared.faults.NumberFault.TheVariants.{CoordRange as TooFar}

-- No fault where the condition holds.
abbrev pub unless : Bool → MeshWhat → Option MeshWhat
unless true fault = None
unless false fault = Some fault

-- The first fault in a list of tests.
abbrev pub first_some : {A : Type 0} → List (Option A) → Option A
first_some [] = None
first_some (Some fault ∷ tests) = Some fault
first_some (None ∷ tests) = first_some tests

-- The number is at least `low` and at most `high`.
abbrev pub is_within : ℕ → ℕ → ℤ → Bool
is_within low high (pos n) = nat_le low n && nat_le n high
is_within low high (negsuc n) = false

abbrev pub number_test : ℕ → Result ℤ NumberFault → Option MeshWhat
number_test number (Ok z) = unless (is_within number number z) NumberOrder
number_test number (Err fault) = Some BadNumber

abbrev pub real_test : Result ℤ NumberFault → Option MeshWhat
real_test (Ok z) = None
real_test (Err NoNumber) = Some BadNumber
real_test (Err TooFar) = Some CoordRange

abbrev pub marker_test : Result ℤ NumberFault → Option MeshWhat
marker_test (Ok z) = None
marker_test (Err fault) = Some BadNumber

abbrev pub is_corner : ℕ → ℕ → ℤ → Bool
is_corner base points (pos n) = nat_le base n && nat_lt n (base + points)
is_corner base points (negsuc n) = false

abbrev pub corner_test : ℕ → ℕ → Result ℤ NumberFault → Option MeshWhat
corner_test base points (Ok z) = unless (is_corner base points z) CornerRange
corner_test base points (Err fault) = Some BadNumber

-- The test of a word, by what the word should be: the number of the
-- row; a coordinate or an attribute; a marker; a corner, which is the
-- number of a point, where the first point has the number `base`.
abbrev pub word_test : Word → List ℕ → Option MeshWhat
word_test (Number number) word = number_test number (whole_of word)
word_test Real word = real_test (millionths_of word)
word_test Marker word = marker_test (whole_of word)
word_test (Corner base points) word = corner_test base points (whole_of word)

-- The tests of a row that should have these words: the count is not exceeded, no
-- word is missing, none is extra, and then the tests of the words from the left.
abbrev pub row_tests : ℕ → ℕ → List Word → List (List ℕ) → List (Option MeshWhat)
row_tests count place expected words =
    unless (nat_lt place count) Extra
    ∷ unless (nat_le (length expected) (length words)) Missing
    ∷ unless (nat_le (length words) (length expected)) Extra
    ∷ map (λ w. word_test w.0 w.1) (zip expected words)
