-- Numbers of digits that are read from the front, up to a bound, and of their first places.
use Rattle.std.proofs.Common.{◌≡◌, ℕ, zero, suc, pow-suc, ◌+◌, ◌-◌, ◌*◌, ◌/◌, ◌^◌, ◌<◌, ◌≤◌, min, ◌⊎◌, true, Bool, List, [], ◌∷◌, ◌++◌, length, take, drop, refl, sym, ap, ◌∙◌, inl, inr, arith}
use Rattle.std.specs.Char.{is_ascii_digit, digit_value}
use Rattle.std.specs.List.{list_all}
use Rattle.std.specs.Str.Parse.{AllDigits, digits_value, digits_value_after}
use Rattle.std.proofs.Math.Nat.{pow-le-pow_right, div-eq_of_lt-le, mul-le-mul_right, mul-le-mul_left, mul-lt-mul_of_pos_right, min-eq_left, min-eq_right, le_of_lt}
use Rattle.std.proofs.lemmas.Nat.{pow-add}
use Rattle.std.proofs.lemmas.Bool.{and_parts}
use Rattle.std.proofs.lemmas.Bool.Decides.{nat_tests}
use Rattle.std.proofs.lemmas.Int.Digits.{digits_value-lt}
use Rattle.std.proofs.lemmas.List.{length-take, length-drop, length-append, take-append-drop, take_all, take_min}
use Rattle.text_scan.proofs.Truncations.{ten-pos}

le_or_more : (m n : ℕ) → (m ≤ n) ⊎ (n < m)
le_or_more m n = grind arith

-- HELD DOWN: a number is read from digits one by one, and held at 10^18

-- a digit's byte
pub digit_byte : (b : ℕ) → is_ascii_digit b ≡ true → (48 ≤ b) × (b ≤ 57) × (digit_value b ≡ b - 48)
digit_byte b h = grind (arith, nat_tests)

capped_step : (n d : ℕ) → min (min n (10 ^ 18) * 10 + d) (10 ^ 18) ≡ min (n * 10 + d) (10 ^ 18)
capped_step n d = omega arith

-- what was held down on the way makes no difference
pub held : (n : ℕ) (ds : List ℕ) → min (digits_value_after 10 (min n (10 ^ 18)) ds) (10 ^ 18) ≡ min (digits_value_after 10 n ds) (10 ^ 18)
held n [] = omega arith
held n (d ∷ ds) =
    sym (held (min n (10 ^ 18) * 10 + digit_value d) ds)
    ∙ ap (λ m. min (digits_value_after 10 m ds) (10 ^ 18)) (capped_step n (digit_value d))
    ∙ held (n * 10 + digit_value d) ds

-- one digit more
pub capped_more : (n d : ℕ) (ds : List ℕ) → is_ascii_digit d ≡ true
    → min (digits_value_after 10 (min (n * 10 + (d - 48)) (10 ^ 18)) ds) (10 ^ 18) ≡ min (digits_value_after 10 n (d ∷ ds)) (10 ^ 18)
capped_more n d ds h =
    held (n * 10 + (d - 48)) ds ∙ ap (λ v. min (digits_value_after 10 (n * 10 + v) ds) (10 ^ 18)) (sym (digit_byte d h).2)

-- digits in two parts
pub in_parts : (n : ℕ) (xs ys : List ℕ) → digits_value_after 10 n (xs ++ ys) ≡ digits_value_after 10 (digits_value_after 10 n xs) ys
in_parts n [] ys = refl
in_parts n (x ∷ xs) ys = in_parts (n * 10 + digit_value x) xs ys

one_front : (n v p w : ℕ) → (n * 10 + v) * p + w ≡ n * (p * 10) + ((0 * 10 + v) * p + w)
one_front n v p w = omega arith

pub after_front : (n : ℕ) (ys : List ℕ) → digits_value_after 10 n ys ≡ n * 10 ^ length ys + digits_value 10 ys
after_front n [] = omega arith
after_front n (y ∷ ys) =
    after_front (n * 10 + digit_value y) ys
    ∙ one_front n (digit_value y) (10 ^ length ys) (digits_value 10 ys)
    ∙ rw pow-suc (ap (λ w. n * (10 ^ length ys * 10) + w) (sym (after_front (0 * 10 + digit_value y) ys)))

-- the digits of a front are digits, and so are those after it
pub front_passes : (p : ℕ → Bool) (n : ℕ) (xs : List ℕ) → list_all p xs ≡ true → list_all p (take n xs) ≡ true
front_passes p zero xs h = refl
front_passes p (suc n) [] h = refl
front_passes p (suc n) (x ∷ xs) h =
    let two = and_parts (p x) (list_all p xs) h in
    rw two.0 (front_passes p n xs two.1)

all_digits_behind : (n : ℕ) (ds : List ℕ) → AllDigits 10 ds → AllDigits 10 (drop n ds)
all_digits_behind zero ds h = h
all_digits_behind (suc n) [] h = tt
all_digits_behind (suc n) (d ∷ ds) h = all_digits_behind n ds h.1

-- FIRST PLACES: what a division by a power of ten leaves of digits, with zeros after them

-- the digits without the last k
without_last : (ds : List ℕ) (k : ℕ) → AllDigits 10 ds
    → (digits_value 10 (take (length ds - k) ds) * 10 ^ k ≤ digits_value 10 ds)
    × (digits_value 10 ds < (digits_value 10 (take (length ds - k) ds) + 1) * 10 ^ k)
without_last ds k is = go (le_or_more k (length ds)) where
  go : (k ≤ length ds) ⊎ (length ds < k)
      → (digits_value 10 (take (length ds - k) ds) * 10 ^ k ≤ digits_value 10 ds)
      × (digits_value 10 ds < (digits_value 10 (take (length ds - k) ds) + 1) * 10 ^ k)
  go (inl few) =
      let n = length ds - k in
      let long : length (drop n ds) ≡ k = simp length-drop (omega arith) in
      let last : digits_value 10 (drop n ds) < 10 ^ length (drop n ds) = digits_value-lt 10 (drop n ds) (all_digits_behind n ds is) in
      let whole : digits_value 10 ds ≡ digits_value 10 (take n ds) * 10 ^ length (drop n ds) + digits_value 10 (drop n ds) =
      ap (digits_value 10) (sym (take-append-drop n ds)) ∙ in_parts 0 (take n ds) (drop n ds) ∙ after_front (digits_value 10 (take n ds)) (drop n ds) in
      let power : 10 ^ length (drop n ds) ≡ 10 ^ k = ap (λ m. 10 ^ m) long in
      let product : digits_value 10 (take n ds) * 10 ^ length (drop n ds) ≡ digits_value 10 (take n ds) * 10 ^ k = ap (λ m. digits_value 10 (take n ds) * m) power in
      (omega arith, omega arith)
  go (inr many) =
      let none : length ds - k ≡ 0 = omega arith in
      let small : digits_value 10 ds < 10 ^ length ds = digits_value-lt 10 ds is in
      let more : 10 ^ length ds ≤ 10 ^ k = pow-le-pow_right {n = 10} (omega arith) {i = length ds} {j = k} (omega arith) in
      rw none (omega arith, omega arith)

-- such a quotient
quotient : (m q up k : ℕ) → q * 10 ^ k ≤ m → m < (q + 1) * 10 ^ k → m * 10 ^ up / 10 ^ (k + up) ≡ q
quotient m q up k low high =
    let power = pow-add 10 k up in
    let least : q * 10 ^ k * 10 ^ up ≤ m * 10 ^ up = mul-le-mul_right (10 ^ up) low in
    let most : m * 10 ^ up < (q + 1) * 10 ^ k * 10 ^ up = mul-lt-mul_of_pos_right high (ten-pos up) in
    div-eq_of_lt-le {k = q} (10 ^ (k + up)) (omega (arith, ap (λ p. q * p) power)) (omega (arith, power, ap (λ p. q * p) power))

-- n digits and zeros of ds
abbrev pub places_of : ℕ → List ℕ → ℕ
places_of n ds = digits_value 10 (take n ds) * 10 ^ (n - length ds)

pub divided : (ds : List ℕ) (up down : ℕ) → AllDigits 10 ds
    → digits_value 10 ds * 10 ^ up / 10 ^ down ≡ places_of (length ds + up - down) ds
divided ds up down is = go (le_or_more down up) where
  go : (down ≤ up) ⊎ (up < down) → digits_value 10 ds * 10 ^ up / 10 ^ down ≡ places_of (length ds + up - down) ds
  go (inl few) =
      let n = length ds + up - down in
      let k = n - length ds in
      let all : take n ds ≡ ds = take_all n ds (omega arith) in
      let positive_exponent : 10 ^ up ≡ 10 ^ k * 10 ^ down = ap (λ m. 10 ^ m) (omega arith) ∙ pow-add 10 k down in
      let product = ap (λ p. digits_value 10 ds * p) positive_exponent in
      let value : digits_value 10 (take n ds) * 10 ^ k ≡ digits_value 10 ds * 10 ^ k = ap (λ l. digits_value 10 l * 10 ^ k) all in
      div-eq_of_lt-le {k = digits_value 10 ds * 10 ^ k} (10 ^ down) (omega arith) (omega (arith, ten-pos down)) ∙ sym value
  go (inr many) =
      let n = length ds + up - down in
      let k = down - up in
      let shorter : length ds - k ≡ n = omega arith in
      let two = without_last ds k is in
      let power : 10 ^ (k + up) ≡ 10 ^ down = ap (λ m. 10 ^ m) (omega arith) in
      let none : n - length ds ≡ 0 = omega arith in
      let single : digits_value 10 (take n ds) * 10 ^ (n - length ds) ≡ digits_value 10 (take n ds) = rw none (omega arith) in
      ap (λ p. digits_value 10 ds * 10 ^ up / p) (sym power)
      ∙ quotient (digits_value 10 ds) (digits_value 10 (take (length ds - k) ds)) up k two.0 two.1
      ∙ ap (λ m. digits_value 10 (take m ds)) shorter
      ∙ sym single

-- the front of two texts
pub front_of_two : (n : ℕ) (xs ys : List ℕ) → take n (xs ++ ys) ≡ take n xs ++ take (n - length xs) ys
front_of_two n [] ys = from_none n where
  from_none : (n : ℕ) → take n ys ≡ take {A = ℕ} n [] ++ take (n - 0) ys
  from_none zero = refl
  from_none (suc n) =
      let same : suc n ≡ suc n - 0 = omega arith in
      ap (λ k. take k ys) same
front_of_two zero (x ∷ xs) ys =
    let none : 0 - suc (length xs) ≡ 0 = omega arith in
    sym (ap (λ k. take k ys) none)
front_of_two (suc n) (x ∷ xs) ys =
    let less : suc n - suc (length xs) ≡ n - length xs = omega arith in
    ap (λ l. x ∷ l) (front_of_two n xs ys ∙ ap (λ k. take n xs ++ take k ys) (sym less))

-- a product of a number that is held and a factor that is
pub capped_product : (n p : ℕ) → 1 ≤ p
    → min (min (min n (10 ^ 18) * min p (2 ^ 64 - 1)) (2 ^ 64 - 1)) (10 ^ 18) ≡ min (n * p) (10 ^ 18)
capped_product n p some = go (le_or_more n 0) (le_or_more n (10 ^ 18)) (le_or_more p (2 ^ 64 - 1)) where
  go : (n ≤ 0) ⊎ (0 < n) → (n ≤ 10 ^ 18) ⊎ (10 ^ 18 < n) → (p ≤ 2 ^ 64 - 1) ⊎ (2 ^ 64 - 1 < p)
      → min (min (min n (10 ^ 18) * min p (2 ^ 64 - 1)) (2 ^ 64 - 1)) (10 ^ 18) ≡ min (n * p) (10 ^ 18)
  go (inl no_more) _ _ =
      let none : n ≡ 0 = omega arith in
      rw none (omega arith)
  go (inr more) (inl small) (inl few) = rw (min-eq_left small, min-eq_left few) (omega arith)
  go (inr more) (inr large) (inl few) =
      let one : 10 ^ 18 * 1 ≤ 10 ^ 18 * p = mul-le-mul_left (10 ^ 18) some in
      let two : n * 1 ≤ n * p = mul-le-mul_left n some in
      rw (min-eq_right (le_of_lt large), min-eq_left few) (omega arith)
  go (inr more) (inl small) (inr many) =
      let one : 1 * (2 ^ 64 - 1) ≤ n * (2 ^ 64 - 1) = mul-le-mul_right (2 ^ 64 - 1) more in
      let two : 1 * p ≤ n * p = mul-le-mul_right p more in
      rw (min-eq_left small, min-eq_right (le_of_lt many)) (omega arith)
  go (inr more) (inr large) (inr many) =
      let two : 1 * p ≤ n * p = mul-le-mul_right p more in
      rw (min-eq_right (le_of_lt large), min-eq_right (le_of_lt many)) (omega arith)

-- the first n of two texts' digits, read one text after the other
pub first_is : (n : ℕ) (xs ys : List ℕ) (i j first both : ℕ) → i ≡ min n (length xs) → j ≡ min (n - length (take i xs)) (length ys)
    → first ≡ min (digits_value 10 (take i xs)) (10 ^ 18) → both ≡ min (digits_value_after 10 first (take j ys)) (10 ^ 18)
    → min (min (both * min (10 ^ (n - length (take i xs) - length (take j ys))) (2 ^ 64 - 1)) (2 ^ 64 - 1)) (10 ^ 18)
    ≡ min (places_of n (xs ++ ys)) (10 ^ 18)
first_is n xs ys i j first both i_is j_is first_held both_held =
    let i_long : length (take i xs) ≡ i = simp length-take (omega arith) in
    let j_long : length (take j ys) ≡ j = simp length-take (omega arith) in
    let left : n - length (take i xs) ≡ n - length xs = omega arith in
    let front : take i xs ≡ take n xs = ap (λ k. take k xs) i_is ∙ take_min n xs in
    let back : take j ys ≡ take (n - length xs) ys = ap (λ k. take k ys) (j_is ∙ ap (λ k. min k (length ys)) left) ∙ take_min (n - length xs) ys in
    let joined : take n xs ++ take (n - length xs) ys ≡ take n (xs ++ ys) = sym (front_of_two n xs ys) in
    let zeros : n - length (take i xs) - length (take j ys) ≡ n - length (xs ++ ys) = omega (arith, length-append xs ys) in
    let held_both : both ≡ min (digits_value 10 (take n (xs ++ ys))) (10 ^ 18) =
    both_held
    ∙ ap (λ m. min (digits_value_after 10 m (take j ys)) (10 ^ 18)) first_held
    ∙ held (digits_value 10 (take i xs)) (take j ys)
    ∙ ap (λ l. min (digits_value_after 10 (digits_value 10 l) (take j ys)) (10 ^ 18)) front
    ∙ ap (λ l. min (digits_value_after 10 (digits_value 10 (take n xs)) l) (10 ^ 18)) back
    ∙ ap (λ m. min m (10 ^ 18)) (sym (in_parts 0 (take n xs) (take (n - length xs) ys)) ∙ ap (digits_value 10) joined) in
    rw (zeros, held_both) (capped_product (digits_value 10 (take n (xs ++ ys))) (10 ^ (n - length (xs ++ ys))) (ten-pos (n - length (xs ++ ys))))
