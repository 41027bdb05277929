-- A coordinate's text has one meaning, which is the one computed.
use Rattle.std.proofs.lemmas.Bool.{and_parts, le-leb, leb-false, leb-true}
use Rattle.std.proofs.Common.{◌≡◌, ℕ, ◌+◌, ◌*◌, ◌/◌, ◌^◌, ◌<◌, ◌≤◌, ◌⊎◌, ◌&&◌, nat_le, cond, Bool, true, false, List, [], ◌∷◌, ◌++◌}
use Rattle.std.proofs.Common.{length, take, drop, Result, ℤ, refl, sym, ap, ◌∙◌, inl, inr, subst, slice_index, nat_lt, ◌==◌}
use Rattle.std.proofs.Common.{◌||◌, not, arith}
use Rattle.std.specs.Prelude.{Ok, Err}
use Rattle.std.specs.Char.{is_ascii_digit, digit_value}
use Rattle.std.specs.List.{list_all, list_any, before_first, position_or_len}
use Rattle.std.specs.Str.Parse.{AllDigits, digits_value, without_leading_sign, starts_with_minus}
use Rattle.std.proofs.Math.Nat.{pow-le-pow_right, le_trans}
use Rattle.std.proofs.lemmas.List.{length-take, length-drop, length-append}
use Rattle.std.proofs.lemmas.Int.Digits.{digits_value-lt}
use Rattle.std.proofs.lemmas.Bool.Decides.{nat_tests}
use Rattle.text_scan.specs.declared.faults.NumberFault.{NumberFault}
use Rattle.text_scan.specs.declared.faults.NumberFault.TheVariants.{BadNumber, CoordRange}
use Rattle.text_scan.specs.Numbers.{digits, mantissa, fraction, exponent, positive_exponent, negative_exponent, exponent_size}
use Rattle.text_scan.specs.Numbers.{is_coordinate, is_numeral, is_decimal_point, is_exponent_mark, IsTruncation, numerator, denominator}
use Rattle.text_scan.specs.Numbers.{Means, magnitude, millionths_of, with_sign_of}
use Rattle.text_scan.proofs.Truncations.{ten-pos, cuts_div, div_cuts, Agree, agree, agree_near, agree_far, agree_back}

-- what the tests tell, and back
is_digit : (b : ℕ) → is_ascii_digit b ≡ true → digit_value b < 10
is_digit b h = grind (arith, nat_tests)

not_le : (m n : ℕ) → n < m → nat_le m n ≡ false
not_le m n h = grind (arith, nat_tests)

-- tested digits are digits
pub all_digits : (ds : List ℕ) → list_all is_ascii_digit ds ≡ true → AllDigits 10 ds
all_digits [] e = tt
all_digits (d ∷ ds) e =
    let two = and_parts (is_ascii_digit d) (list_all is_ascii_digit ds) e in
    (is_digit d two.0, all_digits ds two.1)

-- the parts of a text are no longer than it
without_one : (k : ℕ) (xs : List ℕ) → length (take k xs ++ drop (k + 1) xs) ≤ length xs
without_one k xs = simp (length-append, length-take, length-drop) (omega arith)

length_without_sign : (sign : Bool) (k : ℕ) (xs : List ℕ) → length (cond sign (drop 1 xs) (drop k xs)) ≤ length xs
length_without_sign true k xs = simp length-drop (omega arith)
length_without_sign false k xs = simp length-drop (omega arith)

length_take_le : (k : ℕ) (xs : List ℕ) → length (take k xs) ≤ length xs
length_take_le k xs = simp length-take (omega arith)

mantissa_shorter : (text : List ℕ) → length (mantissa text) ≤ length text
mantissa_shorter text =
    le_trans (length_take_le (position_or_len is_exponent_mark (without_leading_sign text)) (without_leading_sign text))
    (length_without_sign (starts_with_minus text) (cond (slice_index text 0 == 43) 1 0) text)

digits_shorter : (text : List ℕ) → length (digits text) ≤ length text
digits_shorter text = le_trans (without_one (position_or_len is_decimal_point (mantissa text)) (mantissa text)) (mantissa_shorter text)

behind : (xs ys : List ℕ) → length ys ≤ length (xs ++ ys)
behind xs ys = simp length-append (omega arith)

fraction_shorter : (text : List ℕ) → length (fraction text) ≤ length text
fraction_shorter text = le_trans (behind (before_first is_decimal_point (mantissa text)) (fraction text)) (digits_shorter text)

-- an exponent has one sign
one_way : (minus : Bool) (size : ℕ) → (cond minus 0 size ≡ 0) ⊎ (cond minus size 0 ≡ 0)
one_way true size = inl refl
one_way false size = inr refl

-- 64 digits write less than 10^64
few_digits : (ds : List ℕ) → list_all is_ascii_digit ds ≡ true → length ds ≤ 64 → digits_value 10 ds < 10 ^ 64
few_digits ds is few =
    let below : digits_value 10 ds < 10 ^ length ds = digits_value-lt 10 ds (all_digits ds is) in
    let most : 10 ^ length ds ≤ 10 ^ 64 = pow-le-pow_right {n = 10} (omega arith) {i = length ds} {j = 64} few in
    omega arith

-- the cut of the number that a text spells
abbrev cut_of : List ℕ → ℕ
cut_of text = numerator text * 10 ^ 6 / denominator text

is_cut : (text : List ℕ) → IsTruncation text (cut_of text)
is_cut text = cuts_div (numerator text * 10 ^ 6) (denominator text) (ten-pos (length (fraction text) + negative_exponent text))

only_cut : (text : List ℕ) (q : ℕ) → IsTruncation text q → cut_of text ≡ q
only_cut text q c = div_cuts (numerator text * 10 ^ 6) (denominator text) q c

-- what is computed is the cut, or past the range with it
agrees : (text : List ℕ) → is_coordinate text ≡ true → Agree (cut_of text) (magnitude text)
agrees text is =
    let ending = not (list_any is_exponent_mark text) || is_numeral (without_leading_sign (exponent text)) in
    let spelled = and_parts (nat_le (length text) 64 && is_numeral (digits text)) ending is in
    let first = and_parts (nat_le (length text) 64) (is_numeral (digits text)) spelled.0 in
    let each = and_parts (nat_lt 0 (length (digits text))) (list_all is_ascii_digit (digits text)) first.1 in
    let short : length text ≤ 64 = leb-true (length text) 64 first.0 in
    let small = few_digits (digits text) each.1 (le_trans (digits_shorter text) short) in
    let sign = one_way (starts_with_minus (exponent text)) (exponent_size text) in
    let few : length (fraction text) ≤ 64 = le_trans (fraction_shorter text) short in
    agree (digits_value 10 (digits text)) (length (fraction text)) (positive_exponent text) (negative_exponent text) few small sign

-- what is computed is a meaning
pub computed : (text : List ℕ) → Means text (millionths_of text)
computed text = go (is_coordinate text) (nat_le (magnitude text) (10 ^ 15)) refl refl where
  go : (coordinate in_range : Bool) → is_coordinate text ≡ coordinate → nat_le (magnitude text) (10 ^ 15) ≡ in_range
      → Means text (cond coordinate (cond in_range (Ok (with_sign_of text (magnitude text))) (Err CoordRange)) (Err BadNumber))
  go false in_range is n = is
  go true true is n =
      let small = leb-true (magnitude text) (10 ^ 15) n in
      let same = agree_near (cut_of text) (magnitude text) (agrees text is) small in
      (is, magnitude text, subst (IsTruncation text) same (is_cut text), small, refl)
  go true false is n =
      let out_of_range = agree_far (cut_of text) (magnitude text) (agrees text is) (leb-false (magnitude text) (10 ^ 15) n) in
      (is, cut_of text, is_cut text, out_of_range)

-- each cut is what is computed, or past the range with it
agrees_at : (text : List ℕ) (q : ℕ) → is_coordinate text ≡ true → IsTruncation text q → Agree (magnitude text) q
agrees_at text q is c = agree_back q (magnitude text) (subst (λ n. Agree n (magnitude text)) (only_cut text q c) (agrees text is))

-- and there is no other
pub one : (text : List ℕ) (meaning : Result ℤ NumberFault) → Means text meaning → meaning ≡ millionths_of text
one text (Err BadNumber) m = rw m refl
one text (Err CoordRange) m =
    let out_of_range = agree_far (magnitude text) m.1 (agrees_at text m.1 m.0 m.2) m.3 in
    rw (m.0, not_le (magnitude text) (10 ^ 15) out_of_range) refl
one text (Ok value) m =
    let same = agree_near (magnitude text) m.1 (agrees_at text m.1 m.0 m.2) m.3 in
    let in_range : magnitude text ≤ 10 ^ 15 = omega (arith, same, m.3) in
    let value_is : ◌≡◌ {A = Result ℤ NumberFault} (Ok value) (Ok (with_sign_of text m.1)) = ap Ok m.4 in
    value_is ∙ rw (m.0, le-leb (magnitude text) (10 ^ 15) in_range) (ap (λ q. Ok (with_sign_of text q)) (sym same))
