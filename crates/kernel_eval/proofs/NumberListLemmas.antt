-- Lists of numbers that are set index by index.
use Rattle.std.proofs.Common.{◌≡◌, ◌<◌, ℕ, ◌+◌, List, length, get_or, sym, subst, inl, inr, arith}
use Rattle.std.proofs.lemmas.Bool.{cases_Bool, ltb-true, ltb-false}
use Rattle.std.proofs.lemmas.List.{get_or-set_same, get_or-set_other}
use Rattle.std.specs.List.{slice_set}
use Rattle.std.specs.Prelude.{nat_lt, ℤ, pos}

-- what holds of the numbers before an index, and of the one that is set there, holds of those before the next index
pub holds_to_next : (Holds : ℕ → ℤ → Type 0) (xs : List ℤ) (i : ℕ) (x : ℤ) → i < length xs → ((n : ℕ) → n < i → Holds n (get_or xs n (pos 0))) → Holds i x
    → (n : ℕ) → n < i + 1 → Holds n (get_or (slice_set xs i x) n (pos 0))
holds_to_next Holds xs i x within h here n below = elim (cases_Bool (nat_lt n i)) [
  | inl before ↦
      let less : n < i = ltb-true n i before in
      subst (Holds n) (sym (get_or-set_other xs i n x (pos 0) (λ e. absurd (omega (arith, less, e))))) (h n less)
  | inr not ↦
      let same : i ≡ n = omega (arith, ltb-false n i not, below) in
      subst (λ n. Holds n (get_or (slice_set xs i x) n (pos 0))) same (subst (Holds i) (sym (get_or-set_same xs i x (pos 0) within)) here)
]
