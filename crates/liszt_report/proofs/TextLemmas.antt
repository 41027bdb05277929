-- Texts of numbers are short.
use Rattle.std.proofs.Common.{ℕ, ◌<◌, ◌≤◌, ◌≡◌, ◌^◌, ℤ, ap, arith, length}
use Rattle.std.proofs.lemmas.Fmt.{length_signed_le, length-decimal-le}
use Rattle.std.proofs.lemmas.Int.{ints, to_z-of_z}
use Rattle.std.specs.Fmt.{decimal, signed_decimal}
use mir.Syntax.{w64}
use mir.Val.{SFits, to_z, of_z}

-- numbers of 64 bits are short
signed_short : (z : ℤ) → SFits w64 z → length (signed_decimal z) ≤ 20
signed_short z fits = length_signed_le 19 z (omega (arith, ints)) (omega (arith, ints))

pub count_short : (n : ℕ) → n < 2 ^ 64 → length (decimal n) ≤ 20
count_short n fits = length-decimal-le 20 n (omega arith) (omega arith) fits

-- a number of 64 bits in two's complement
pub value_short : (z : ℤ) → SFits w64 z → length (signed_decimal (to_z w64 (of_z w64 z))) ≤ 20
value_short z fits = let e : length (signed_decimal (to_z w64 (of_z w64 z))) ≡ length (signed_decimal z) = ap (λ n. length (signed_decimal n)) (to_z-of_z w64 z fits) in omega (arith, e, signed_short z fits)
