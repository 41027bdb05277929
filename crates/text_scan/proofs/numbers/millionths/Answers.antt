use Rattle.std.proofs.Common.{◌≡◌, true, ◌++◌, to_z-of_z}
use Rattle.text_scan.specs.Numbers.{is_numeral}
use Rattle.text_scan.proofs.NumberLemmas.{coordinate_is, out_of_range, in_range}
use Rattle.text_scan.proofs.numbers.millionths.Goals as goal

pub returns-then-size-gt-MOST_MILLIONTHS : goal.returns-then-size-gt-MOST_MILLIONTHS
returns-then-size-gt-MOST_MILLIONTHS c =
    let parts = c.parts_of-parts.result in
    let cut = c.parts_of-parts.ensures in
    let point_after_exponent = c.in-Some.ensures in
    let short = c.if-text-gt-MOST_BYTES.false in
    let digits : is_numeral (parts.whole.now ++ parts.fraction.now) ≡ true = cc in
    out_of_range c.args.text.now _
    (coordinate_is _ _ _ parts.exponent _ _ cut.whole cut.fraction cut.exponent short digits point_after_exponent.none point_after_exponent.some c.leading_value-size.ensures)
    c.if-size-gt-MOST_MILLIONTHS.true

pub returns : goal.returns
returns c =
    let parts = c.parts_of-parts.result in
    let cut = c.parts_of-parts.ensures in
    let point_after_exponent = c.in-Some.ensures in
    let short = c.if-text-gt-MOST_BYTES.false in
    let digits : is_numeral (parts.whole.now ++ parts.fraction.now) ≡ true = cc in
    rw (to_z-of_z (record { sfits = c.with_sign.type_inv }))
    (in_range c.args.text.now _ c.with_sign.result
    (coordinate_is _ _ _ parts.exponent _ _ cut.whole cut.fraction cut.exponent short digits point_after_exponent.none point_after_exponent.some c.leading_value-size.ensures)
    c.if-size-gt-MOST_MILLIONTHS.false
    (rw cut.minus at c.with_sign.ensures))
