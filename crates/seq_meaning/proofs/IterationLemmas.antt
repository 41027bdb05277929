-- A value that each of a list of computations leaves unchanged is unchanged by all of them.
use Rattle.std.proofs.Common.{◌≡◌, ℕ, List, [], ◌∷◌, refl, ◌∙◌}
use Rattle.std.specs.Prelude.{Result, Ok, Err}
use Rattle.kernel_eval.specs.Outcomes.{Stop, Outcome, for_each, continue_with}
use Rattle.kernel_eval.specs.States.{State}

module _ {A : Type 0} (seen : State → A) (computation : ℕ → State → Outcome State (Unit {0})) (stays : (id : ℕ) (s : State) → seen (computation id s).after ≡ seen s) where
  rest_unchanged : (ids : List ℕ) → ((s : State) → seen (for_each computation ids s).after ≡ seen s) → (s : State) (answer : Result (Unit {0}) Stop)
      → seen (continue_with (λ done. for_each computation ids) s answer).after ≡ seen s
  rest_unchanged ids h s (Ok done) = h s
  rest_unchanged ids h s (Err stop) = refl

  pub for_each_unchanged : (ids : List ℕ) (s : State) → seen (for_each computation ids s).after ≡ seen s
  for_each_unchanged [] s = refl
  for_each_unchanged (id ∷ ids) s = rest_unchanged ids (for_each_unchanged ids) (computation id s).after (computation id s).answer ∙ stays id s
