use Rattle.std.proofs.Common.{w64, bit_or, bit_xor, ◌*ℤ◌, sym, ◌∙◌}
use Rattle.std.proofs.lemmas.Int.{wrapping_mul_is}
use Rattle.liszt_base.proofs.Operators.{wrapped, bits_are, or_below, xor_below}
use Rattle.liszt_base.proofs.reductions.fold_op.Goals as goal

pub returns-in-Mul : goal.returns-in-Mul
returns-in-Mul c = rw c.in-Mul.is (wrapping_mul_is w64 c.args.a c.args.b c.ranges.a c.ranges.b ∙ sym (wrapped (c.args.a *ℤ c.args.b)))

pub returns-in-Or : goal.returns-in-Or
returns-in-Or c = rw c.in-Or.is (bits_are bit_or c.args.a c.args.b c.ranges.a c.ranges.b (or_below c.args.a c.args.b))

pub returns-in-Xor : goal.returns-in-Xor
returns-in-Xor c = rw c.in-Xor.is (bits_are bit_xor c.args.a c.args.b c.ranges.a c.ranges.b (xor_below c.args.a c.args.b))
