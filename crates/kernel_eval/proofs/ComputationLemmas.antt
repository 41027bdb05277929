-- Sequences, branches and loops preserve a reflexive and transitive relation if their parts do.
use Rattle.std.proofs.Common.{◌≡◌, ℕ, zero, suc, Bool, true, false, List, [], ◌∷◌, refl}
use Rattle.std.specs.Prelude.{Result, Ok, Err}
use Rattle.kernel_eval.specs.Preservation.{Preserves}
use Rattle.kernel_eval.specs.Outcomes.{Stop, Outcome, continue_with, and_then, if_then_else, for_each, skip, Turns, take_turn, loop_within, loop}

pub record IsPreorder {S : Type 0} (R : S → S → Type 0) : Type 0 where
  pub same : (s : S) → R s s
  pub later : (a b c : S) → R a b → R b c → R a c

pub keeps_if : {S A : Type 0} {R : S → S → Type 0} {this other : S → Outcome S A} (b : Bool) → Preserves R this → Preserves R other
    → Preserves R (if_then_else b this other)
keeps_if true f g = f
keeps_if false f g = g

module _ {S : Type 0} {R : S → S → Type 0} (leads : IsPreorder R) where
  keeps_continue : {A B : Type 0} {next : A → S → Outcome S B} → ((a : A) → Preserves R (next a)) → (before s : S) → R before s
      → (answer : Result A Stop) → R before (continue_with next s answer).after
  keeps_continue h before s r (Ok a) = leads.later before s _ r ((h a).preserved s)
  keeps_continue h before s r (Err stop) = r

  pub keeps_then : {A B : Type 0} {first : S → Outcome S A} {next : A → S → Outcome S B} → Preserves R first
      → ((a : A) → Preserves R (next a)) → Preserves R (and_then first next)
  keeps_then {first = first} f h = record { preserved = λ s. keeps_continue h s (first s).after (f.preserved s) (first s).answer }

  pub skip_keeps : Preserves R (skip {S = S})
  skip_keeps = record { preserved = leads.same }

  pub keeps_for_each : {X : Type 0} {computation : X → S → Outcome S (Unit {0})} → ((x : X) → Preserves R (computation x)) → (xs : List X) → Preserves R (for_each computation xs)
  keeps_for_each h [] = skip_keeps
  keeps_for_each h (x ∷ xs) = keeps_then (h x) (λ done. keeps_for_each h xs)

  -- loops, if taking a turn preserves the relation
  module _ (turns : Turns S) (turn : (n : ℕ) (s : S) → turns.remaining s ≡ suc n → R s (turns.set_remaining n s)) where
    keeps_turn : {spent body : S → Outcome S (Unit {0})} → Preserves R spent → Preserves R body → (left : ℕ) (s : S) → turns.remaining s ≡ left
        → R s (take_turn turns spent body left s).after
    keeps_turn f g zero s e = f.preserved s
    keeps_turn f g (suc n) s e = leads.later s (turns.set_remaining n s) _ (turn n s e) (g.preserved (turns.set_remaining n s))

    turn_keeps : {spent body : S → Outcome S (Unit {0})} → Preserves R spent → Preserves R body
        → Preserves R (λ s. take_turn turns spent body (turns.remaining s) s)
    turn_keeps f g = record { preserved = λ s. keeps_turn f g (turns.remaining s) s refl }

    keeps_within : {spent body : S → Outcome S (Unit {0})} {test : S → Outcome S Bool} → Preserves R spent → Preserves R test → Preserves R body
        → (bound : ℕ) → Preserves R (loop_within turns spent test body bound)
    keeps_within f h g zero = keeps_then h (λ is_true. keeps_if is_true f skip_keeps)
    keeps_within f h g (suc n) =
        keeps_then h (λ is_true. keeps_if is_true (keeps_then (turn_keeps f g) (λ done. keeps_within f h g n)) skip_keeps)

    pub keeps_loop : {spent body : S → Outcome S (Unit {0})} {test : S → Outcome S Bool} → Preserves R spent → Preserves R test → Preserves R body
        → Preserves R (loop turns spent test body)
    keeps_loop f h g = record { preserved = λ s. (keeps_within f h g (turns.remaining s)).preserved s }
