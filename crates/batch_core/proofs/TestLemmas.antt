-- Two lists of acts on two words.
use Rattle.std.proofs.Common.{◌≡◌, ℕ, zero, suc, ℤ, List, [], ◌∷◌, length, sym, subst, arith}
use Rattle.std.specs.Prelude.{All}
use Rattle.batch_core.specs.declared.acts.Act.{Act}
use Rattle.batch_core.specs.Machine.{AreBelow, InRange, machine_at_start}
use Rattle.batch_core.proofs.StepLemmas.{lists_in_range}

all_of_two : (P : List Act → Type 0) (l m : List Act) → P l → P m → All P (l ∷ m ∷ [])
all_of_two P l m p q zero d lt = p
all_of_two P l m p q (suc zero) d lt = q
all_of_two P l m p q (suc (suc k)) d lt = absurd (omega arith)

pub two_lists_in_range : (words : List ℤ) (lists : List (List Act)) (l m : List Act) → length words ≡ 2 → lists ≡ l ∷ m ∷ []
    → AreBelow 2 l → AreBelow 2 m
    → InRange (machine_at_start words lists)
two_lists_in_range words lists l m size is p q =
    lists_in_range words lists
    (subst (λ (n : ℕ). All (AreBelow n) lists) (sym size) (subst (All (AreBelow 2)) (sym is) (all_of_two (AreBelow 2) l m p q)))
