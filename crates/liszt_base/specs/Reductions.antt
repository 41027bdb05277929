-- What the operators of reductions give over the signed numbers
-- of 64 bits, those from -2^63 to 2^63 - 1. This project's own.
use Rattle.std.specs.Prelude.{ℕ, ◌%◌, ◌^◌, ◌-◌, nat_lt, if◌then◌else◌, ℤ, pos, neg_ℤ, ◌+ℤ◌, ◌-ℤ◌}
use Rattle.std.specs.Prelude.{◌*ℤ◌, ◌≤ℤ◌, ◌<ℤ◌, unsigned_abs, bit_and, bit_or, bit_xor}
use Rattle.std.specs.Int.{int_rem_euclid, int_min, int_max}
use Rattle.liszt_base.specs.declared.elements.Op.{Op}
use Rattle.liszt_base.specs.declared.elements.Op.TheVariants.{Add, Mul, And, Or, Xor, Min, Max}

abbrev pub InRange : ℤ → Type 0
InRange z = (neg_ℤ (pos (2 ^ 63)) ≤ℤ z) × (z <ℤ pos (2 ^ 63))

-- The word of a number, two's complement: the number from 0
-- to 2^64 - 1 that is the same modulo 2^64.
abbrev pub word : ℤ → ℕ
word z = unsigned_abs (int_rem_euclid z (pos (2 ^ 64)))

-- And back: the number from -2^63 to 2^63 - 1 that is the same modulo 2^64.
abbrev pub value : ℕ → ℤ
value w =
    if nat_lt (w % 2 ^ 64) (2 ^ 63) then pos (w % 2 ^ 64) else pos (w % 2 ^ 64) -ℤ pos (2 ^ 64)

-- Sums and products wrap, the bit operators take words, and the others pick one of two.
abbrev pub fold : Op → ℤ → ℤ → ℤ
fold Add a b = value (word (a +ℤ b))
fold Mul a b = value (word (a *ℤ b))
fold And a b = value (bit_and (word a) (word b))
fold Or a b = value (bit_or (word a) (word b))
fold Xor a b = value (bit_xor (word a) (word b))
fold Min a b = int_min a b
fold Max a b = int_max a b

-- what leaves each number as it is
abbrev pub identity_of : Op → ℤ
identity_of Add = pos 0
identity_of Mul = pos 1
identity_of And = neg_ℤ (pos 1)
identity_of Or = pos 0
identity_of Xor = pos 0
identity_of Min = pos (2 ^ 63 - 1)
identity_of Max = neg_ℤ (pos (2 ^ 63))
