use Rattle.std.proofs.Common.{◌≡◌, ◌≤◌, ◌^◌, ◌+◌, ◌*◌, take, refl, arith}
use Rattle.std.specs.Str.Parse.{digits_value}
use Rattle.liszt_lexer.proofs.NumberLemmas.{one_more, too_large}
use Rattle.liszt_lexer.proofs.leading.value_of.Goals as goal

pub loop-byte-preserved : goal.loop-byte-preserved
loop-byte-preserved c =
    let more = one_more c.args.digits.now c.loop-byte.byte-index c.requires (omega arith) in
    (omega arith, omega arith)

pub returns-then-value-digit : goal.returns-then-value-digit
returns-then-value-digit c =
    let value = c.loop-byte.value * 10 + c.from-digit.result in
    let more = one_more c.args.digits.now c.loop-byte.byte-index c.requires (omega arith) in
    let is : value ≡ digits_value 10 (take (c.loop-byte.byte-index + 1) c.args.digits.now) = omega arith in
    let large : 2 ^ 63 ≤ value = omega arith in
    rw (too_large c.args.digits.now (c.loop-byte.byte-index + 1) value is large) refl
