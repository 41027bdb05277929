-- Sequences, branches and loops commute with a change of states if their parts do.
use Rattle.std.proofs.Common.{◌≡◌, ℕ, zero, suc, Bool, true, false, refl, ap, ◌∙◌}
use Rattle.std.specs.Prelude.{Result, Ok, Err}
use Rattle.kernel_eval.specs.Preservation.{Commutes}
use Rattle.kernel_eval.specs.Outcomes.{Stop, Outcome, pure, continue_with, and_then, if_then_else, skip, Turns, take_turn, loop_within, loop}

abbrev pub changed : {S A : Type 0} → (S → S) → Outcome S A → Outcome S A
changed change outcome = record { after = change outcome.after; answer = outcome.answer }

module _ {S : Type 0} {change : S → S} where
  commutes_continue : {A B : Type 0} {next : A → S → Outcome S B} → ((a : A) → Commutes change (next a)) → (s : S) (answer : Result A Stop)
      → continue_with next (change s) answer ≡ changed change (continue_with next s answer)
  commutes_continue h s (Ok a) = (h a).commuted s
  commutes_continue h s (Err stop) = refl

  pub commutes_then : {A B : Type 0} {first : S → Outcome S A} {next : A → S → Outcome S B} → Commutes change first → ((a : A) → Commutes change (next a))
      → Commutes change (and_then first next)
  commutes_then {first = first} {next = next} f h = record {
    commuted = λ s. ap (λ outcome. continue_with next outcome.after outcome.answer) (f.commuted s) ∙ commutes_continue h (first s).after (first s).answer;
  }

  pub commutes_if : {A : Type 0} {this other : S → Outcome S A} (b : Bool) → Commutes change this → Commutes change other → Commutes change (if_then_else b this other)
  commutes_if true f g = f
  commutes_if false f g = g

  pub value_commutes : {A : Type 0} (a : A) → Commutes change (pure {S = S} a)
  value_commutes a = record { commuted = λ s. refl }

  pub skip_commutes : Commutes change (skip {S = S})
  skip_commutes = record { commuted = λ s. refl }

  -- loops, if the change commutes with taking a turn
  module _ (turns : Turns S) (remain : (s : S) → turns.remaining (change s) ≡ turns.remaining s)
      (set : (n : ℕ) (s : S) → turns.set_remaining n (change s) ≡ change (turns.set_remaining n s)) where
    commutes_turn : {spent body : S → Outcome S (Unit {0})} → Commutes change spent → Commutes change body → (left : ℕ) (s : S)
        → take_turn turns spent body left (change s) ≡ changed change (take_turn turns spent body left s)
    commutes_turn f g zero s = f.commuted s
    commutes_turn {body = body} f g (suc n) s = ap body (set n s) ∙ g.commuted (turns.set_remaining n s)

    turn_commutes : {spent body : S → Outcome S (Unit {0})} → Commutes change spent → Commutes change body
        → Commutes change (λ s. take_turn turns spent body (turns.remaining s) s)
    turn_commutes {spent = spent} {body = body} f g = record {
      commuted = λ s. ap (λ left. take_turn turns spent body left (change s)) (remain s) ∙ commutes_turn f g (turns.remaining s) s;
    }

    commutes_within : {spent body : S → Outcome S (Unit {0})} {test : S → Outcome S Bool} → Commutes change spent → Commutes change test → Commutes change body
        → (bound : ℕ) → Commutes change (loop_within turns spent test body bound)
    commutes_within f h g zero = commutes_then h (λ is_true. commutes_if is_true f skip_commutes)
    commutes_within f h g (suc n) =
        commutes_then h (λ is_true. commutes_if is_true (commutes_then (turn_commutes f g) (λ done. commutes_within f h g n)) skip_commutes)

    pub commutes_loop : {spent body : S → Outcome S (Unit {0})} {test : S → Outcome S Bool} → Commutes change spent → Commutes change test → Commutes change body
        → Commutes change (loop turns spent test body)
    commutes_loop {spent = spent} {body = body} {test = test} f h g = record {
      commuted = λ s. ap (λ bound. loop_within turns spent test body bound (change s)) (remain s) ∙ (commutes_within f h g (turns.remaining s)).commuted s;
    }
