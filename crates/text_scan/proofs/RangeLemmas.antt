-- The numbers that words spell fit into 64 bits.
use Rattle.std.proofs.lemmas.Bool.{and_parts, leb-true}
use Rattle.std.proofs.lemmas.Int.{ints}
use Rattle.std.proofs.lemmas.Int.Digits.{digits_value-lt}
use Rattle.std.proofs.Math.Nat.{pow-le-pow_right}
use Rattle.std.proofs.Common.{◌≡◌, ℕ, ◌^◌, ◌<◌, ◌≤◌, nat_le, cond, Bool, true, false, List, length, refl, subst, arith}
use Rattle.std.specs.Prelude.{ℤ, pos, neg_ℤ, Result, Ok, Err}
use Rattle.std.specs.List.{list_all}
use Rattle.std.specs.Char.{is_ascii_digit}
use Rattle.std.specs.Str.Parse.{digits_value, without_leading_sign, starts_with_minus}
use mir.Syntax.{w64}
use mir.Val.{SFits}
use Rattle.text_scan.specs.declared.faults.NumberFault.{NumberFault}
use Rattle.text_scan.specs.declared.faults.NumberFault.TheVariants.{BadNumber, CoordRange}
use Rattle.text_scan.specs.Numbers.{is_numeral, is_whole, whole_of, is_coordinate, magnitude, millionths_of}
use Rattle.text_scan.proofs.MeaningLemmas.{all_digits}

-- a number below 10^18 with a sign
with_sign_fits : (minus : Bool) (n : ℕ) → n < 10 ^ 18 → SFits w64 (cond minus (neg_ℤ (pos n)) (pos n))
with_sign_fits true n small = omega (arith, ints)
with_sign_fits false n small = omega (arith, ints)

-- a choice gave a value
chose : {A : Type 0} (b : Bool) (x : A) (fault : NumberFault) (y : A) → ◌≡◌ {A = Result A NumberFault} (cond b (Ok x) (Err fault)) (Ok y)
    → (b ≡ true) × (x ≡ y)
chose true x fault y e = (refl, cc)
chose false x fault y e = cc

pub whole_fits : (text : List ℕ) (z : ℤ) → whole_of text ≡ Ok z → SFits w64 z
whole_fits text z e =
    let ds = without_leading_sign text in
    let c = chose (is_whole text) _ _ z e in
    let parts = and_parts (is_numeral ds) (nat_le (length ds) 18) c.0 in
    let few = leb-true (length ds) 18 parts.1 in
    let digits = (and_parts _ (list_all is_ascii_digit ds) parts.0).1 in
    let below : digits_value 10 ds < 10 ^ length ds = digits_value-lt 10 ds (all_digits ds digits) in
    let most : 10 ^ length ds ≤ 10 ^ 18 = pow-le-pow_right {n = 10} (omega arith) {i = length ds} {j = 18} few in
    subst (SFits w64) c.1 (with_sign_fits (starts_with_minus text) (digits_value 10 ds) (omega arith))

pub millionths_fits : (text : List ℕ) (z : ℤ) → millionths_of text ≡ Ok z → SFits w64 z
millionths_fits text z e = go (is_coordinate text) e
  where
    go : (b : Bool) → cond b (cond (nat_le (magnitude text) (10 ^ 15)) (Ok (cond (starts_with_minus text) (neg_ℤ (pos (magnitude text))) (pos (magnitude text)))) (Err CoordRange)) (Err BadNumber) ≡ Ok z
        → SFits w64 z
    go true e =
        let c = chose (nat_le (magnitude text) (10 ^ 15)) _ _ z e in
        let few = leb-true (magnitude text) (10 ^ 15) c.0 in
        subst (SFits w64) c.1 (with_sign_fits (starts_with_minus text) (magnitude text) (omega arith))
    go false e = cc
