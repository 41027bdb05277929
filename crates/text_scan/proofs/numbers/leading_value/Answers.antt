use Rattle.std.specs.Char.{is_ascii_digit}
use Rattle.text_scan.proofs.DecimalPlaces.{front_passes, first_is}
use Rattle.text_scan.proofs.numbers.leading_value.Goals as goal

pub number_after-requires-clause-digits : goal.number_after-requires-clause-digits
number_after-requires-clause-digits c = front_passes is_ascii_digit c.min.result c.args.whole.now c.requires.whole

pub number_after-value-requires-clause-digits : goal.number_after-value-requires-clause-digits
number_after-value-requires-clause-digits c = front_passes is_ascii_digit c.min-2.result c.args.fraction.now c.requires.fraction

pub returns : goal.returns
returns c =
    rw (c.min-3.ensures, c.saturating_mul.ensures, c.saturating_pow.ensures)
    (first_is c.args.places c.args.whole.now c.args.fraction.now _ _ _ _
    c.min.ensures c.min-2.ensures c.number_after.ensures c.number_after-value.ensures)
