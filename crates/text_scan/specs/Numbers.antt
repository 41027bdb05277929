-- What a word of a mesh file means as a number. That numbers are decimal is TetGen's file
-- format; the bounds, and the reading of a coordinate in millionths, are this project's own.
use Rattle.std.specs.Prelude.{◌≡◌, ℕ, ◌+◌, ◌*◌, ◌/◌, ◌^◌, ◌<◌, ◌≤◌, min, ◌==◌, ◌&&◌, ◌||◌, not}
use Rattle.std.specs.Prelude.{nat_lt, nat_le, if◌then◌else◌, Bool, true, false, List, ◌++◌, length}
use Rattle.std.specs.Prelude.{ℤ, pos, neg_ℤ, Result, Ok, Err}
use Rattle.std.specs.Char.{is_ascii_digit}
use Rattle.std.specs.List.{list_any, list_all, before_first, after_first}
use Rattle.std.specs.Str.Parse.{digits_value, without_leading_sign, starts_with_minus}
use Rattle.std.specs.Str.Parse.{signed_digits_value}
use Rattle.text_scan.specs.declared.faults.NumberFault.{NumberFault}
use Rattle.text_scan.specs.declared.faults.NumberFault.TheVariants.{BadNumber, CoordRange}

-- One digit or more.
abbrev pub is_numeral : List ℕ → Bool
is_numeral ds = nat_lt 0 (length ds) && list_all is_ascii_digit ds

-- WHOLE NUMBERS: an optional sign, a plus or a minus, and 1 to 18 digits.
abbrev pub is_whole : List ℕ → Bool
is_whole text =
    is_numeral (without_leading_sign text) && nat_le (length (without_leading_sign text)) 18

abbrev pub whole_of : List ℕ → Result ℤ NumberFault
whole_of text = if is_whole text then Ok (signed_digits_value 10 text) else Err BadNumber

-- COORDINATES, and attributes: at most 64 bytes; an optional sign, one digit
-- or more with at most one point before, between or after them, and optionally
-- `e` or `E` and an exponent: an optional sign and one digit or more.
abbrev pub is_exponent_mark : ℕ → Bool
is_exponent_mark b = (b == 101) || (b == 69)

abbrev pub is_decimal_point : ℕ → Bool
is_decimal_point b = b == 46

abbrev pub mantissa : List ℕ → List ℕ
mantissa text = before_first is_exponent_mark (without_leading_sign text)

abbrev pub exponent : List ℕ → List ℕ
exponent text = after_first is_exponent_mark text

abbrev pub fraction : List ℕ → List ℕ
fraction text = after_first is_decimal_point (mantissa text)

-- The digits before the point and after it.
abbrev pub digits : List ℕ → List ℕ
digits text = before_first is_decimal_point (mantissa text) ++ fraction text

abbrev pub is_coordinate : List ℕ → Bool
is_coordinate text =
    nat_le (length text) 64 && is_numeral (digits text)
    && (not (list_any is_exponent_mark text)
    || is_numeral (without_leading_sign (exponent text)))

-- The text of a coordinate spells a rational number: without its
-- sign, digits / 10 ^ (length of the fraction) * 10 ^ exponent.
abbrev pub exponent_size : List ℕ → ℕ
exponent_size text = digits_value 10 (without_leading_sign (exponent text))

abbrev pub positive_exponent : List ℕ → ℕ
positive_exponent text = if starts_with_minus (exponent text) then 0 else exponent_size text

abbrev pub negative_exponent : List ℕ → ℕ
negative_exponent text = if starts_with_minus (exponent text) then exponent_size text else 0

abbrev pub numerator : List ℕ → ℕ
numerator text = digits_value 10 (digits text) * 10 ^ positive_exponent text

abbrev pub denominator : List ℕ → ℕ
denominator text = 10 ^ (length (fraction text) + negative_exponent text)

-- q millionths are the number that the text spells without its sign, truncated.
abbrev pub IsTruncation : List ℕ → ℕ → Type 0
IsTruncation text q =
    (q * denominator text ≤ numerator text * 10 ^ 6)
    × (numerator text * 10 ^ 6 < (q + 1) * denominator text)

abbrev pub with_sign_of : List ℕ → ℕ → ℤ
with_sign_of text q = if starts_with_minus text then neg_ℤ (pos q) else pos q

-- The meaning of a text as a coordinate: its value in millionths, truncated towards zero. Another
-- spelling is BadNumber; a size of more than 10^15 millionths after the truncation is CoordRange.
abbrev pub Means : List ℕ → Result ℤ NumberFault → Type 0
Means text (Err BadNumber) = is_coordinate text ≡ false
Means text (Err CoordRange) =
    (is_coordinate text ≡ true) × (q : ℕ) × IsTruncation text q × (10 ^ 15 < q)
Means text (Ok value) =
    (is_coordinate text ≡ true) × (q : ℕ) × IsTruncation text q × (q ≤ 10 ^ 15)
    × (value ≡ with_sign_of text q)

-- The meaning, computed. An exponent counts up to 100 places only: 64 bytes write
-- a number below 10^64, so with more places the number is zero, below a millionth,
-- or above the range. The law `one_meaning` says that this is the meaning.
abbrev pub magnitude : List ℕ → ℕ
magnitude text =
    digits_value 10 (digits text) * 10 ^ (6 + min (positive_exponent text) 100)
    / 10 ^ (length (fraction text) + min (negative_exponent text) 100)

abbrev pub millionths_of : List ℕ → Result ℤ NumberFault
millionths_of text =
    if is_coordinate text
    then if nat_le (magnitude text) (10 ^ 15) then Ok (with_sign_of text (magnitude text))
    else Err CoordRange
    else Err BadNumber
