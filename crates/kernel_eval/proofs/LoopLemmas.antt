-- A loop unfolds: the count of its definition does not end before the turns, since no step increases the turns.
use Rattle.std.proofs.Common.{◌≡◌, ℕ, zero, suc, ◌≤◌, Bool, true, false, refl, sym, ◌∙◌, arith}
use Rattle.std.specs.Prelude.{Result, Ok, Err}
use Rattle.kernel_eval.specs.Preservation.{Preserves, loop_unfolded}
use Rattle.kernel_eval.specs.Outcomes.{Stop, Outcome, continue_with, and_then, if_then_else, skip, Turns, take_turn, loop_within, loop}

module _ {S : Type 0} (turns : Turns S) (remaining_is : (n : ℕ) (s : S) → turns.remaining (turns.set_remaining n s) ≡ n) where
  abbrev Step : Type 0
  Step = S → Outcome S (Unit {0})

  abbrev Fewer : S → S → Type 0
  Fewer s after = turns.remaining after ≤ turns.remaining s

  same_next : {A : Type 0} (next other : A → Step) (s : S) (answer : Result A Stop) → ((a : A) → next a s ≡ other a s)
      → continue_with next s answer ≡ continue_with other s answer
  same_next next other s (Ok a) h = h a
  same_next next other s (Err stop) h = refl

  same_choice : (this other : Step) (s : S) → this s ≡ other s → (b : Bool) → if_then_else b this skip s ≡ if_then_else b other skip s
  same_choice this other s e true = e
  same_choice this other s e false = refl

  -- `spent` halts
  module _ (spent : Step) (body : Step) (test : S → Outcome S Bool) (halt : (again : Step) (s : S) → and_then spent (λ done. again) s ≡ spent s)
      (bodies : Preserves Fewer body) (tests : Preserves Fewer test) where
    abbrev turn_with : ℕ → Step
    turn_with left s = take_turn turns spent body left s

    abbrev turn_and : Step → Step
    turn_and again s = and_then (λ s. turn_with (turns.remaining s) s) (λ done. again) s

    fewer : (s : S) → turns.remaining (test s).after ≤ turns.remaining s
    fewer s = tests.preserved s

    less : (n : ℕ) (s : S) → turns.remaining (body (turns.set_remaining n s)).after ≤ n
    less n s = omega (arith, bodies.preserved (turns.set_remaining n s), remaining_is n s)

    none_remaining : (s : S) → turns.remaining s ≤ 0 → turns.remaining (test s).after ≤ 0
    none_remaining s none = omega (arith, fewer s, none)

    -- after a turn fewer remain; without a turn it is `spent`
    turn_then : (again other : Step) (left : ℕ) (s : S) → ((u : S) → suc (turns.remaining u) ≤ left → again u ≡ other u)
        → continue_with (λ done. again) (turn_with left s).after (turn_with left s).answer ≡ continue_with (λ done. other) (turn_with left s).after (turn_with left s).answer
    turn_then again other zero s h = halt again s ∙ sym (halt other s)
    turn_then again other (suc n) s h =
        same_next (λ done. again) (λ done. other) (body (turns.set_remaining n s)).after (body (turns.set_remaining n s)).answer
        (λ done. h (body (turns.set_remaining n s)).after (omega (arith, less n s)))

    no_turn : (again : Step) (left : ℕ) (s : S) → left ≤ 0 → continue_with (λ done. again) (turn_with left s).after (turn_with left s).answer ≡ spent s
    no_turn again zero s h = halt again s
    no_turn again (suc n) s h = absurd (omega (arith, h))

    -- after the test
    same_test : (this other : Step) (s : S) → this (test s).after ≡ other (test s).after
        → and_then test (λ b. if_then_else b this skip) s ≡ and_then test (λ b. if_then_else b other skip) s
    same_test this other s e =
        same_next (λ b. if_then_else b this skip) (λ b. if_then_else b other skip) (test s).after (test s).answer
        (same_choice this other (test s).after e)

    abbrev within : ℕ → Step
    within bound = loop_within turns spent test body bound

    spent_or : (again : Step) (s : S) → turns.remaining s ≤ 0
        → and_then test (λ b. if_then_else b spent skip) s ≡ and_then test (λ b. if_then_else b (turn_and again) skip) s
    spent_or again s none = same_test spent (turn_and again) s (sym (no_turn again (turns.remaining (test s).after) (test s).after (none_remaining s none)))

    -- two bounds that are not below the turns have the same result
    stable : (n m : ℕ) (s : S) → turns.remaining s ≤ n → turns.remaining s ≤ m → within n s ≡ within m s
    stable zero zero s h g = refl
    stable zero (suc m) s h g = spent_or (within m) s h
    stable (suc n) zero s h g = sym (spent_or (within n) s g)
    stable (suc n) (suc m) s h g =
        same_test (turn_and (within n)) (turn_and (within m)) s
        (turn_then (within n) (within m) (turns.remaining (test s).after) (test s).after
        (λ u few. stable n m u (omega (arith, few, fewer s, h)) (omega (arith, few, fewer s, g))))

    abbrev again : Step
    again = loop turns spent test body

    from_turns : (n : ℕ) (s : S) → turns.remaining s ≡ n → within n s ≡ loop_unfolded turns spent test body again s
    from_turns zero s e = spent_or again s (omega (arith, e))
    from_turns (suc n) s e =
        same_test (turn_and (within n)) (turn_and again) s
        (turn_then (within n) again (turns.remaining (test s).after) (test s).after
        (λ u few. stable n (turns.remaining u) u (omega (arith, few, fewer s, e)) (omega arith)))

    pub loop_is : (s : S) → again s ≡ loop_unfolded turns spent test body again s
    loop_is s = from_turns (turns.remaining s) s refl
