use Rattle.std.proofs.Common.{◌≡◌, ◌≤◌, true, length, to_z-of_z}
use Rattle.std.specs.Str.Parse.{without_leading_sign}
use Rattle.text_scan.specs.Numbers.{is_numeral}
use Rattle.text_scan.proofs.NumberLemmas.{whole_is}
use Rattle.text_scan.proofs.numbers.whole.Goals as goal

pub returns-then-digits-le-MOST_DIGITS : goal.returns-then-digits-le-MOST_DIGITS
returns-then-digits-le-MOST_DIGITS c =
    let rest = c.split_sign-minus.ensures.rest in
    let is : is_numeral (without_leading_sign c.args.text.now) ≡ true = cc in
    let few : length (without_leading_sign c.args.text.now) ≤ 18 = rw rest at c.if-digits-le-MOST_DIGITS.true in
    let value = rw c.split_sign-minus.ensures.minus at c.with_sign.ensures in
    rw (to_z-of_z (record { sfits = c.with_sign.type_inv })) (whole_is c.args.text.now _ c.with_sign.result is few (rw rest at c.number_after.ensures) value)
