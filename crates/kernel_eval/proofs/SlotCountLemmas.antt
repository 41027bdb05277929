-- The greatest number of slots of a list of codes, item by item.
use Rattle.std.proofs.Common.{◌≡◌, ◌<◌, ◌≤◌, ◌+◌, ℕ, zero, suc, List, [], ◌∷◌, length, get_or, sym, ap, ◌∙◌, subst, inl, inr, arith}
use Rattle.std.proofs.lemmas.Bool.{cases_Bool, ltb-true, ltb-false}
use Rattle.std.specs.Prelude.{Some, nat_lt, slice_get}

some_is : {A : Type 0} (x y : A) → Some x ≡ Some y → x ≡ y
some_is x y e = cc

pub found_at : {A : Type 0} (xs : List A) (i : ℕ) (x : A) → i < length xs → x ≡ get_or xs i x → slice_get xs i ≡ Some x
found_at [] i x l e = absurd (omega (arith, l))
found_at (y ∷ ys) zero x l e = ap Some (sym e)
found_at (y ∷ ys) (suc i) x l e = found_at ys i x (omega (arith, l)) e

pub within : {A : Type 0} (xs : List A) (i : ℕ) (x : A) → slice_get xs i ≡ Some x → i < length xs
within [] i x e = absurd cc
within (y ∷ ys) zero x e = omega arith
within (y ∷ ys) (suc i) x e = omega (arith, within ys i x e)

-- what is at most a number for the items before an index, and for the one at the index, is so for those before the next one
pub one_more : {A : Type 0} (size : A → ℕ) (xs : List A) (i : ℕ) (x : A) (most next : ℕ) → i < length xs → x ≡ get_or xs i x
    → ((k : ℕ) (y : A) → slice_get xs k ≡ Some y → k < i → size y ≤ most) → most ≤ next → size x ≤ next
    → (k : ℕ) (y : A) → slice_get xs k ≡ Some y → k < i + 1 → size y ≤ next
one_more size xs i x most next l e h grown here k y is below = elim (cases_Bool (nat_lt k i)) [
  | inl before ↦ omega (arith, h k y is (ltb-true k i before), grown)
  | inr not ↦
      let same : k ≡ i = omega (arith, ltb-false k i not, below) in
      subst (λ x. size x ≤ next) (some_is x y (sym (found_at xs i x l e) ∙ ap (slice_get xs) (sym same) ∙ is)) here
]
