-- The value of digits, one digit more at a time.
use Rattle.std.proofs.Common.{◌≡◌, ℕ, ◌+◌, ◌-◌, ◌*◌, ◌^◌, ◌<◌, ◌≤◌, nat_lt, true, false, List, length, take, get_or}
use Rattle.std.proofs.Common.{ap, ◌∙◌, arith, rules}
use Rattle.std.specs.Char.{is_ascii_digit, digit_value}
use Rattle.std.specs.List.{list_all}
use Rattle.std.specs.Str.Parse.{digits_value}
use Rattle.std.proofs.lemmas.Bool.{ltb-true}
use Rattle.std.proofs.lemmas.Int.Digits.{digits_value_more}
use Rattle.std.proofs.lemmas.List.Sums.{AllPass-from_list_all}
use Rattle.std.proofs.lemmas.Str.{digit_value_digit}
use Rattle.std.proofs.lemmas.Str.Parse.{digits_value-take-le}
use Rattle.liszt_lexer.proofs.ByteLemmas.{not_true_is_false}

-- a digit's value
digit_is : (b : ℕ) → is_ascii_digit b ≡ true → digit_value b ≡ b - 48
digit_is b e =
    let range : (48 ≤ b) × (b ≤ 57) = search rules in
    omega (arith, digit_value_digit b range)

-- with one digit more
pub one_more : (digits : List ℕ) (i : ℕ) → list_all is_ascii_digit digits ≡ true → i < length digits
    → digits_value 10 (take (i + 1) digits) ≡ digits_value 10 (take i digits) * 10 + (get_or digits i 0 - 48)
one_more digits i all lt =
    let here = digit_is (get_or digits i 0) (AllPass-from_list_all is_ascii_digit digits all i 0 lt) in
    digits_value_more 10 digits i lt ∙ ap (λ n. digits_value 10 (take i digits) * 10 + n) here

-- too much for the first digits is too much for all
pub too_large : (digits : List ℕ) (i value : ℕ) → value ≡ digits_value 10 (take i digits) → 2 ^ 63 ≤ value
    → nat_lt (digits_value 10 digits) (2 ^ 63) ≡ false
too_large digits i value is large =
    not_true_is_false (nat_lt (digits_value 10 digits) (2 ^ 63)) (λ e.
    absurd (omega (arith, digits_value-take-le 10 digits i (omega arith), ltb-true (digits_value 10 digits) (2 ^ 63) e)))
