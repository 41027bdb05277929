-- Whether a number is in range, as the code tests it.
use Rattle.std.proofs.Common.{◌≡◌, ◌≢◌, zero, suc, true, false, refl, sym, ap, ◌∙◌, inl, inr, arith}
use Rattle.std.proofs.lemmas.Bool.{cases_Bool, lt-ltb, ltb-true, le-leb, leb-true, and_parts}
use Rattle.std.specs.Prelude.{Option, Some, None, ℤ, pos, negsuc, int_le, ◌&&◌, Result, Ok, Err}
use Rattle.std.specs.Option.{SomeIff}
use Rattle.std.proofs.lemmas.Int.{to_z-of_z}
use mir.Val.{SFits, to_z, of_z}
use mir.Syntax.{w64}
use Rattle.liszt_base.specs.declared.answers.TrapKind.{TrapKind}
use Rattle.liszt_base.specs.declared.answers.TrapKind.TheVariants.{Overflow, ZeroDivide}
use Rattle.code_eval.specs.Arithmetic.{is_in_range, in_range, divided}

is_within : (n : ℤ) → SFits w64 n → is_in_range n ≡ true
is_within (pos a) h = lt-ltb a _ h.sfits
is_within (negsuc a) h = ap (λ b. b && true) (le-leb a 9223372036854775807 (omega (arith, h.sfits)))

within_fits : (n : ℤ) → is_in_range n ≡ true → SFits w64 n
within_fits (pos a) e = record { sfits = ltb-true a _ e }
within_fits (negsuc a) e = let l = leb-true a 9223372036854775807 (and_parts _ _ e).0 in record { sfits = omega (arith, l) }

-- a number that may not fit, as the definition tests it
pub fits : (n : ℤ) {k : ℤ} {o : Option ℤ} → SomeIff o (SFits w64 n) n → o ≡ Some k → in_range n ≡ Ok k
fits n {k = k} {o = Some j} h e =
    let same : n ≡ k = cc (h.1, e) in
    rw (is_within n h.0) (ap Ok same)
fits n {o = None} h e = absurd cc

pub fits_not : (n : ℤ) {o : Option ℤ} → SomeIff o (SFits w64 n) n → o ≡ None → in_range n ≡ Err Overflow
fits_not n {o = None} h e = elim (cases_Bool (is_in_range n)) [
  | inl is ↦ absurd (h (within_fits n is))
  | inr is ↦ rw is refl
]
fits_not n {o = Some k} h e = absurd cc

-- DIVISION by zero, and by another number
pub zero_divisor : (k : ℤ) (result : Result ℤ TrapKind) → k ≡ pos 0 → divided k result ≡ Err ZeroDivide
zero_divisor k result e = rw e refl

is_zero : (k : ℤ) → k ≢ pos 0 → (int_le k (pos 0) && int_le (pos 0) k) ≡ false
is_zero (pos zero) h = absurd (h refl)
is_zero (pos (suc n)) h = elim (cases_Bool (int_le (pos (suc n)) (pos 0) && int_le (pos 0) (pos (suc n)))) [
  | inl is ↦ absurd (omega (arith, leb-true (suc n) 0 (and_parts _ _ is).0))
  | inr is ↦ is
]
is_zero (negsuc n) h = refl

pub other_divisor : (k : ℤ) (result : Result ℤ TrapKind) → k ≢ pos 0 → divided k result ≡ result
other_divisor k result h = rw (is_zero k h) refl

pub fits_if_nonzero : (o : Option ℤ) {P : Type 0} (Q : Type 0) (n : ℤ) → P → SomeIff o (P × Q) n → SomeIff o Q n
fits_if_nonzero (Some k) Q n p h = (h.0.1, h.1)
fits_if_nonzero None Q n p h = λ q. h (p, q)

-- a test of the word of a divisor
pub zero_word : (k : ℤ) → SFits w64 k → of_z w64 k ≡ 0 → k ≡ pos 0
zero_word k f e = sym (to_z-of_z w64 k f) ∙ ap (to_z w64) e

pub other_word : (k : ℤ) → (of_z w64 k ≡ 0 → ⊥) → k ≢ pos 0
other_word k h e = h (ap (of_z w64) e)
