-- From what the parts of a word are to the number that it spells.
use Rattle.std.proofs.Common.{◌≡◌, ℕ, ◌+◌, ◌-◌, ◌^◌, ◌<◌, ◌≤◌, min, not, ◌||◌, nat_lt, nat_le, cond, Bool, true, false, List, [], ◌++◌, length, Option, Some, None, Ok, Err, IfSome, IfNone, Bor, ℤ, pos, neg_ℤ, refl, sym, ap, ◌∙◌, arith}
use Rattle.std.specs.Char.{is_ascii_digit}
use Rattle.std.specs.List.{list_any, list_all, before_first}
use Rattle.std.specs.Option.{option_map}
use Rattle.std.specs.Str.Parse.{digits_value, without_leading_sign, starts_with_minus}
use Rattle.std.proofs.lemmas.Bool.{and_parts, le-leb}
use Rattle.std.proofs.lemmas.Bool.Decides.{nat_tests}
use Rattle.std.proofs.lemmas.List.{length-append}
use Rattle.std.proofs.Math.Nat.{pow-le-pow_right}
use Rattle.std.proofs.lemmas.Int.Digits.{digits_value-lt}
use Rattle.text_scan.specs.declared.faults.NumberFault.TheVariants.{CoordRange}
use Rattle.text_scan.specs.Numbers.{is_numeral, whole_of, is_exponent_mark, is_decimal_point, mantissa, exponent, fraction, digits, is_coordinate, positive_exponent, negative_exponent, magnitude, millionths_of}
use Rattle.text_scan.proofs.MeaningLemmas.{all_digits}
use Rattle.text_scan.proofs.SplitLemmas.{all_before}
use Rattle.text_scan.proofs.DecimalPlaces.{places_of, divided, held}

-- whole numbers
pub whole_is : (text : List ℕ) (size : ℕ) (value : ℤ) → is_numeral (without_leading_sign text) ≡ true → length (without_leading_sign text) ≤ 18
    → size ≡ min (digits_value 10 (without_leading_sign text)) (10 ^ 18) → value ≡ cond (starts_with_minus text) (neg_ℤ (pos size)) (pos size)
    → Ok value ≡ whole_of text
whole_is text size value is few held valued =
    let ds = without_leading_sign text in
    let numeral = and_parts (nat_lt 0 (length ds)) (list_all is_ascii_digit ds) is in
    let below : digits_value 10 ds < 10 ^ length ds = digits_value-lt 10 ds (all_digits ds numeral.1) in
    let most : 10 ^ length ds ≤ 10 ^ 18 = pow-le-pow_right {n = 10} (omega arith) {i = length ds} {j = 18} few in
    let same : size ≡ digits_value 10 ds = omega arith in
    rw (is, le-leb (length ds) 18 few, valued, same) refl

-- the test of an exponent, and the places before the point that it moves
abbrev pub well_ended : List ℕ → Bool
well_ended text = not (list_any is_exponent_mark text) || is_numeral (without_leading_sign (exponent text))

abbrev pub point_after_exponent : ℕ → List ℕ → ℕ
point_after_exponent point text = point + min (positive_exponent text) 100 - min (negative_exponent text) 100

-- the two ways of an exponent
abbrev up : List ℕ → ℕ
up behind = cond (starts_with_minus behind) 0 (digits_value 10 (without_leading_sign behind))

abbrev down : List ℕ → ℕ
down behind = cond (starts_with_minus behind) (digits_value 10 (without_leading_sign behind)) 0

one_way : (minus : Bool) (point size : ℕ)
    → cond minus (point - min size 100) (point + min size 100) ≡ point + min (cond minus 0 size) 100 - min (cond minus size 0) 100
one_way true point size = omega arith
one_way false point size = omega arith

-- where an exponent moves a point to
abbrev pub exponent_moves : List ℕ → ℕ → Option ℕ
exponent_moves behind point = cond (is_numeral (without_leading_sign behind))
    (Some (cond (starts_with_minus behind)
    (point - min (digits_value 10 (without_leading_sign behind)) 100)
    (point + min (digits_value 10 (without_leading_sign behind)) 100))) None

pub point_after_exponent_is : (text : List ℕ) (behind : Option (Bor (List ℕ))) (point : ℕ) (places : Option ℕ)
    → option_map (λ rest. rest.now) behind ≡ cond (list_any is_exponent_mark text) (Some (exponent text)) None
    → IfNone behind (places ≡ Some point)
    → IfSome behind (λ rest. places ≡ exponent_moves rest.now point)
    → places ≡ cond (well_ended text) (Some (point_after_exponent point text)) None
point_after_exponent_is text behind point places cut none some = go (list_any is_exponent_mark text) refl behind cut none some where
  go : (b : Bool) → list_any is_exponent_mark text ≡ b → (behind : Option (Bor (List ℕ)))
      → option_map (λ rest. rest.now) behind ≡ cond b (Some (exponent text)) None
      → IfNone behind (places ≡ Some point)
      → IfSome behind (λ rest. places ≡ exponent_moves rest.now point)
      → places ≡ cond (not b || is_numeral (without_leading_sign (exponent text))) (Some (point_after_exponent point text)) None
  go true is None e _ _ = cc
  go false is (Some rest) e _ _ = cc
  go false is None e plain _ =
      let gone : [] ≡ exponent text = (all_before is_exponent_mark text is).1 in
      let zero_moves : point ≡ point + min (up []) 100 - min (down []) 100 = omega arith in
      plain ∙ ap Some (zero_moves ∙ ap (λ t. point + min (up t) 100 - min (down t) 100) gone)
  go true is (Some rest) e _ by =
      let same : rest.now ≡ exponent text = cc in
      by
      ∙ ap (λ n. cond (is_numeral (without_leading_sign rest.now)) (Some n) None)
      (one_way (starts_with_minus rest.now) point (digits_value 10 (without_leading_sign rest.now)))
      ∙ ap (λ t. cond (is_numeral (without_leading_sign t)) (Some (point + min (up t) 100 - min (down t) 100)) None) same

-- the number of millionths from the first places of the digits
pub size_is : (text : List ℕ) → is_numeral (digits text) ≡ true
    → magnitude text ≡ places_of (point_after_exponent (length (before_first is_decimal_point (mantissa text)) + 6) text) (digits text)
size_is text is =
    let numeral = and_parts (nat_lt 0 (length (digits text))) (list_all is_ascii_digit (digits text)) is in
    let u = min (positive_exponent text) 100 in
    let d = min (negative_exponent text) 100 in
    let whole = before_first is_decimal_point (mantissa text) in
    let long = length-append whole (fraction text) in
    let places : length (digits text) + (6 + u) - (length (fraction text) + d) ≡ length whole + 6 + u - d = omega arith in
    divided (digits text) (6 + u) (length (fraction text) + d) (all_digits (digits text) numeral.1)
    ∙ ap (λ n. places_of n (digits text)) places

-- the ways out
past : (n : ℕ) → 10 ^ 15 < n → nat_le n (10 ^ 15) ≡ false
past n more = grind (arith, nat_tests)

some_of_cond : (b : Bool) (n places : ℕ) → ◌≡◌ {A = Option ℕ} (Some places) (cond b (Some n) None) → (b ≡ true) × (places ≡ n)
some_of_cond true n places e = (refl, cc)
some_of_cond false n places e = absurd cc

-- a text is a coordinate of that size
abbrev pub HasSize : List ℕ → ℕ → Type 0
HasSize text size = (is_coordinate text ≡ true) × (size ≡ min (magnitude text) (10 ^ 18))

pub coordinate_is : (text whole behind : List ℕ) (rest : Option (Bor (List ℕ))) (places size : ℕ)
    → whole ≡ before_first is_decimal_point (mantissa text) → behind ≡ fraction text
    → option_map (λ r. r.now) rest ≡ cond (list_any is_exponent_mark text) (Some (exponent text)) None
    → length text ≤ 64 → is_numeral (whole ++ behind) ≡ true
    → IfNone rest (◌≡◌ {A = Option ℕ} (Some places) (Some (length whole + 6)))
    → IfSome rest (λ r. ◌≡◌ {A = Option ℕ} (Some places) (exponent_moves r.now (length whole + 6)))
    → size ≡ min (places_of places (whole ++ behind)) (10 ^ 18) → HasSize text size
coordinate_is text whole behind rest places size w b cut short is none some held =
    let ended = point_after_exponent_is text rest (length whole + 6) (Some places) cut none some in
    let same : whole ++ behind ≡ digits text = ap (λ l. l ++ behind) w ∙ ap (λ l. before_first is_decimal_point (mantissa text) ++ l) b in
    let numeral : is_numeral (digits text) ≡ true = ap is_numeral (sym same) ∙ is in
    let end = some_of_cond (well_ended text) (point_after_exponent (length whole + 6) text) places ended in
    let sized = size_is text numeral in (
      rw (le-leb (length text) 64 short, numeral, end.0) refl,
      held
          ∙ ap (λ l. min (places_of places l) (10 ^ 18)) same
          ∙ ap (λ n. min (places_of n (digits text)) (10 ^ 18)) (end.1 ∙ ap (λ l. point_after_exponent (length l + 6) text) w)
          ∙ ap (λ n. min n (10 ^ 18)) (sym sized),
    )

pub out_of_range : (text : List ℕ) (size : ℕ) → HasSize text size → 10 ^ 15 < size → Err CoordRange ≡ millionths_of text
out_of_range text size is more =
    let out : nat_le (magnitude text) (10 ^ 15) ≡ false = past (magnitude text) (omega (arith, is.1)) in
    rw (is.0, out) refl

pub in_range : (text : List ℕ) (size : ℕ) (value : ℤ) → HasSize text size → size ≤ 10 ^ 15
    → value ≡ cond (starts_with_minus text) (neg_ℤ (pos size)) (pos size) → Ok value ≡ millionths_of text
in_range text size value is few valued =
    let same : size ≡ magnitude text = omega (arith, is.1) in
    let within : nat_le (magnitude text) (10 ^ 15) ≡ true = le-leb (magnitude text) (10 ^ 15) (omega arith) in
    rw (is.0, within, valued, same) refl
