-- The operators of reductions: the word of a number and back, and the order of operands.
use Rattle.std.proofs.Common.{◌≡◌, ℕ, ◌*◌, ◌^◌, ◌<◌, ℤ, pos, negsuc, ◌+ℤ◌, ◌*ℤ◌, bit_and, bit_or, bit_xor, w64, SFits, to_z, of_z, sym, ap, ap₂, ◌∙◌, arith, lt_of_le_of_lt}
use Rattle.std.proofs.lemmas.Int.{ints, clamps, int_wrap-add_left, int_wrap-add_right, int_wrap-mul_left, int_wrap-mul_right}
use Rattle.std.proofs.lemmas.Nat.{and_le_l, and_comm, or_comm, xor_comm, or_lt, xor_lt, and_assoc}
use Rattle.std.specs.Int.{int_wrap}
use Rattle.std.specs.Int.Bits.{xor_assoc}
use Rattle.std.proofs.lemmas.Nat.Bits.{same_from_bits, bit_at_or}
use Rattle.std.specs.Int.{bit_at}
use Rattle.std.proofs.Math.IntN.{+ℤ_assoc, +ℤ_comm, *ℤ_comm}
use borrow.Author.Differences.{up, down, product_is}
use Rattle.liszt_base.specs.declared.elements.Op.{Op}
use Rattle.liszt_base.specs.declared.elements.Op.TheVariants.{Add, Mul, And, Or, Xor, Min, Max}
use Rattle.liszt_base.specs.Reductions.{word, value, fold}

-- words are below 2^64, and stay what they are on the way to a number and back
pub word_below : (z : ℤ) → word z < 2 ^ 64
word_below (pos n) = omega arith
word_below (negsuc n) = omega arith

pub word_value : (w : ℕ) → w < 2 ^ 64 → word (value w) ≡ w
word_value w h = grind (arith, ints)

-- what the prover's own casts give
pub value_is : (w : ℕ) → w < 2 ^ 64 → value w ≡ to_z w64 w
value_is w h = grind (arith, ints)

pub word_is : (z : ℤ) → SFits w64 z → word z ≡ of_z w64 z
word_is (pos n) h = omega (arith, ints)
word_is (negsuc n) h = omega (arith, ints)

-- a bit operator of words
pub bits_are : (f : ℕ → ℕ → ℕ) (a b : ℤ) → SFits w64 a → SFits w64 b → f (word a) (word b) < 2 ^ 64
    → to_z w64 (f (of_z w64 a) (of_z w64 b)) ≡ value (f (word a) (word b))
bits_are f a b ha hb below = ap₂ (λ m n. to_z w64 (f m n)) (sym (word_is a ha)) (sym (word_is b hb)) ∙ sym (value_is (f (word a) (word b)) below)

-- a number that wraps around
pub wrapped : (z : ℤ) → value (word z) ≡ int_wrap w64 z
unfolding int_wrap
wrapped z = value_is (word z) (word_below z)

-- the bit operators stay below 2^64
and_below : (a b : ℤ) → bit_and (word a) (word b) < 2 ^ 64
and_below a b = lt_of_le_of_lt (and_le_l (word a) (word b)) (word_below a)

pub or_below : (a b : ℤ) → bit_or (word a) (word b) < 2 ^ 64
or_below a b = or_lt 64 (word a) (word b) (word_below a) (word_below b)

pub xor_below : (a b : ℤ) → bit_xor (word a) (word b) < 2 ^ 64
xor_below a b = xor_lt 64 (word a) (word b) (word_below a) (word_below b)

pub commutes : (op : Op) (a b : ℤ) → fold op a b ≡ fold op b a
commutes Add a b = ap (λ z. value (word z)) (+ℤ_comm a b)
commutes Mul a b = ap (λ z. value (word z)) (*ℤ_comm a b)
commutes And a b = ap value (and_comm (word a) (word b))
commutes Or a b = ap value (or_comm (word a) (word b))
commutes Xor a b = ap value (xor_comm (word a) (word b))
commutes Min a b = omega (arith, ints, clamps)
commutes Max a b = omega (arith, ints, clamps)

-- products of three numbers, each the difference of two
mul_assoc : (a b c : ℤ) → (a *ℤ b) *ℤ c ≡ a *ℤ (b *ℤ c)
mul_assoc a b c =
    let times = λ (k m n : ℕ) (e : m ≡ n). ap (λ x. x * k) e in
    let ab = product_is a b in
    let bc = product_is b c in
    let ups : up ((a *ℤ b) *ℤ c) ≡ up (a *ℤ (b *ℤ c)) =
    omega (arith, ints, times (up c) _ _ ab.0, times (down c) _ _ ab.1, times (up a) _ _ bc.0, times (down a) _ _ bc.1) in
    let downs : down ((a *ℤ b) *ℤ c) ≡ down (a *ℤ (b *ℤ c)) =
    omega (arith, ints, times (down c) _ _ ab.0, times (up c) _ _ ab.1, times (down a) _ _ bc.0, times (up a) _ _ bc.1) in
    omega (arith, ints)

or_assoc : (a b c : ℕ) → bit_or (bit_or a b) c ≡ bit_or a (bit_or b c)
or_assoc a b c = same_from_bits _ _ by_bit where
  by_bit : (i : ℕ) → bit_at (bit_or (bit_or a b) c) i ≡ bit_at (bit_or a (bit_or b c)) i
  by_bit i = rw (bit_at_or (bit_or a b) c i, bit_at_or a b i, bit_at_or a (bit_or b c) i, bit_at_or b c i) (omega arith)

-- a word inside another operator
inside : (f : ℕ → ℕ → ℕ) (m n : ℕ) → m < 2 ^ 64 → value (f (word (value m)) n) ≡ value (f m n)
inside f m n h = ap (λ w. value (f w n)) (word_value m h)

outside : (f : ℕ → ℕ → ℕ) (m n : ℕ) → n < 2 ^ 64 → value (f m (word (value n))) ≡ value (f m n)
outside f m n h = ap (λ w. value (f m w)) (word_value n h)

pub associates : (op : Op) (a b c : ℤ) → fold op (fold op a b) c ≡ fold op a (fold op b c)
associates Add a b c =
    wrapped (value (word (a +ℤ b)) +ℤ c)
    ∙ ap (λ z. int_wrap w64 (z +ℤ c)) (wrapped (a +ℤ b))
    ∙ int_wrap-add_left w64 (a +ℤ b) c
    ∙ ap (int_wrap w64) (+ℤ_assoc a b c)
    ∙ sym (wrapped (a +ℤ value (word (b +ℤ c))) ∙ ap (λ z. int_wrap w64 (a +ℤ z)) (wrapped (b +ℤ c)) ∙ int_wrap-add_right w64 a (b +ℤ c))
associates Mul a b c =
    wrapped (value (word (a *ℤ b)) *ℤ c)
    ∙ ap (λ z. int_wrap w64 (z *ℤ c)) (wrapped (a *ℤ b))
    ∙ int_wrap-mul_left w64 (a *ℤ b) c
    ∙ ap (int_wrap w64) (mul_assoc a b c)
    ∙ sym (wrapped (a *ℤ value (word (b *ℤ c))) ∙ ap (λ z. int_wrap w64 (a *ℤ z)) (wrapped (b *ℤ c)) ∙ int_wrap-mul_right w64 a (b *ℤ c))
associates And a b c =
    inside bit_and (bit_and (word a) (word b)) (word c) (and_below a b)
    ∙ ap value (and_assoc (word c) (word a) (word b))
    ∙ sym (outside bit_and (word a) (bit_and (word b) (word c)) (and_below b c))
associates Or a b c =
    inside bit_or (bit_or (word a) (word b)) (word c) (or_below a b)
    ∙ ap value (or_assoc (word a) (word b) (word c))
    ∙ sym (outside bit_or (word a) (bit_or (word b) (word c)) (or_below b c))
associates Xor a b c =
    inside bit_xor (bit_xor (word a) (word b)) (word c) (xor_below a b)
    ∙ ap value (xor_assoc (word a) (word b) (word c))
    ∙ sym (outside bit_xor (word a) (bit_xor (word b) (word c)) (xor_below b c))
associates Min a b c = omega (arith, ints, clamps)
associates Max a b c = omega (arith, ints, clamps)
