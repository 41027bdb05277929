-- A quotient is the one number that a division cuts to, and counting an exponent up to 100 places changes no small quotient.
use Rattle.std.proofs.Common.{◌≡◌, ℕ, ◌+◌, ◌*◌, ◌/◌, ◌^◌, ◌<◌, ◌≤◌, min, ◌⊎◌, refl, sym, ap, ◌∙◌, inl, inr, arith}
use Rattle.std.proofs.Math.Nat.{pow-le-pow_right, div-eq_of_lt-le, div-eq_of_lt, div-mul-le_self, lt-div-mul-add}
use Rattle.std.proofs.Math.Nat.{mul-le-mul_right, mul-le-mul, min-eq_left}
use Rattle.std.proofs.lemmas.Nat.{pow-add, le-div}

-- a power of ten is positive
pub ten-pos : (k : ℕ) → 0 < 10 ^ k
ten-pos k = pow-le-pow_right {n = 10} (omega arith) {i = 0} {j = k} (omega arith)

-- q is n / d, cut towards zero
abbrev pub Cuts : ℕ → ℕ → ℕ → Type 0
Cuts n d q = (q * d ≤ n) × (n < (q + 1) * d)

-- a quotient is a cut, and the only one
pub cuts_div : (n d : ℕ) → 0 < d → Cuts n d (n / d)
cuts_div n d pos =
    let above = lt-div-mul-add {a = n} {b = d} pos in
    (div-mul-le_self n d, omega (arith, above))

pub div_cuts : (n d q : ℕ) → Cuts n d q → n / d ≡ q
div_cuts n d q c = div-eq_of_lt-le {k = q} d c.0 c.1

-- with 80 places or more to the left a number that is not zero is past the range
past : (m places e : ℕ) → 1 ≤ m → places ≤ 64 → 80 ≤ e → 10 ^ 15 < m * 10 ^ e / 10 ^ places
past m places e some few many =
    let more : 10 ^ (16 + places) ≤ 10 ^ e = pow-le-pow_right {n = 10} (omega arith) {i = 16 + places} {j = e} (omega arith) in
    let most : 1 * 10 ^ e ≤ m * 10 ^ e = mul-le-mul_right (10 ^ e) some in
    let least : 10 ^ 16 ≤ m * 10 ^ e / 10 ^ places =
    le-div (10 ^ 16) (m * 10 ^ e) (10 ^ places) (ten-pos places) (omega (arith, pow-add 10 16 places)) in
    omega arith

-- with 70 places or more to the right a number below 10^64 is no millionth
none : (m e d : ℕ) → m < 10 ^ 64 → e ≤ 6 → 70 ≤ d → m * 10 ^ e / 10 ^ d ≡ 0
none m e d small few many =
    let most : 10 ^ e ≤ 10 ^ 6 = pow-le-pow_right {n = 10} (omega arith) {i = e} {j = 6} few in
    let wide : 10 ^ 70 ≤ 10 ^ d = pow-le-pow_right {n = 10} (omega arith) {i = 70} {j = d} many in
    let product : m * 10 ^ e ≤ m * 10 ^ 6 = mul-le-mul {n₁ = m} {m₁ = 10 ^ e} {n₂ = m} {m₂ = 10 ^ 6} (omega arith) most in
    div-eq_of_lt {n = m * 10 ^ e} {m = 10 ^ d} (omega arith)

-- nothing has nothing as its cut
nothing : (m n k : ℕ) → m ≤ 0 → m * n / 10 ^ k ≡ 0
nothing m n k zero =
    let is : m ≡ 0 = omega arith in
    let product : m * n ≡ 0 = rw is (omega arith) in
    div-eq_of_lt {n = m * n} {m = 10 ^ k} (omega (arith, ten-pos k))

-- the millionths of m without its last `places` digits, with the point point_after_exponent up or down, and the same up to 100 places alone
abbrev pub cut : ℕ → ℕ → ℕ → ℕ → ℕ
cut m places up down = m * 10 ^ up * 10 ^ 6 / 10 ^ (places + down)

abbrev pub short_cut : ℕ → ℕ → ℕ → ℕ → ℕ
short_cut m places up down = m * 10 ^ (6 + min up 100) / 10 ^ (places + min down 100)

-- the six places of a millionth count as places of the exponent
shift : (m up : ℕ) → m * 10 ^ up * 10 ^ 6 ≡ m * 10 ^ (6 + up)
shift m up = omega (arith, pow-add 10 6 up, ap (λ n. m * n) (pow-add 10 6 up))

-- two numbers are one, or both past the range
abbrev pub Agree : ℕ → ℕ → Type 0
Agree a b = (a ≡ b) ⊎ ((10 ^ 15 < a) × (10 ^ 15 < b))

pub agree_near : (a b : ℕ) → Agree a b → b ≤ 10 ^ 15 → a ≡ b
agree_near a b (inl same) in_range = same
agree_near a b (inr out_of_range) in_range = absurd (omega (arith, out_of_range.1))

pub agree_far : (a b : ℕ) → Agree a b → 10 ^ 15 < b → 10 ^ 15 < a
agree_far a b (inl same) out_of_range = omega arith
agree_far a b (inr both) out_of_range = both.0

pub agree_back : (a b : ℕ) → Agree a b → Agree b a
agree_back a b (inl same) = inl (sym same)
agree_back a b (inr out_of_range) = inr (out_of_range.1, out_of_range.0)

le_or_more : (m n : ℕ) → (m ≤ n) ⊎ (n < m)
le_or_more m n = grind arith

-- an exponent that is counted up to 100 places gives the same cut, or one that is past the range as the cut is
pub agree : (m places up down : ℕ) → places ≤ 64 → m < 10 ^ 64 → (up ≡ 0) ⊎ (down ≡ 0)
    → Agree (cut m places up down) (short_cut m places up down)
agree m places up down few small one = rw (shift m up) (go one (le_or_more up 100) (le_or_more down 100) (le_or_more m 0)) where
  go : (up ≡ 0) ⊎ (down ≡ 0) → (up ≤ 100) ⊎ (100 < up) → (down ≤ 100) ⊎ (100 < down) → (m ≤ 0) ⊎ (0 < m)
      → Agree (m * 10 ^ (6 + up) / 10 ^ (places + down)) (short_cut m places up down)
  go _ (inl u) (inl d) _ = inl (rw (min-eq_left u, min-eq_left d) refl)
  go (inl z) (inl u) (inr d) _ =
      let long = none m (6 + up) (places + down) small (omega arith) (omega arith) in
      let short = none m (6 + min up 100) (places + min down 100) small (omega arith) (omega arith) in
      inl (long ∙ sym short)
  go (inl z) (inr u) _ _ = absurd (omega arith)
  go (inr z) _ (inr d) _ = absurd (omega arith)
  go (inr z) (inr u) (inl d) (inl zero) =
      let long = nothing m (10 ^ (6 + up)) (places + down) zero in
      let short = nothing m (10 ^ (6 + min up 100)) (places + min down 100) zero in
      inl (long ∙ sym short)
  go (inr z) (inr u) (inl d) (inr some) =
      let long = past m (places + down) (6 + up) some (omega arith) (omega arith) in
      let short = past m (places + min down 100) (6 + min up 100) some (omega arith) (omega arith) in
      inr (long, short)
