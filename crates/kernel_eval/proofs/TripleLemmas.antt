-- What a computation reaches from a state: a condition of the value and the state if it ends, and one of the state if it stops. Sequences,
-- branches and loops meet their conditions if their parts do.
use Rattle.std.proofs.Common.{ℕ, zero, suc, Bool, true, false, List, [], ◌∷◌}
use Rattle.std.specs.Prelude.{Result, Ok, Err}
use Rattle.std.specs.List.{AllByRecursion}
use Rattle.kernel_eval.specs.Outcomes.{Stop, Outcome, continue_with, and_then, if_then_else, for_each, skip, Turns, take_turn, loop_within, loop}

abbrev pub Meets : {S A : Type 0} → (A → S → Type 0) → (S → Type 0) → S → Result A Stop → Type 0
Meets Ended Stopped after (Ok a) = Ended a after
Meets Ended Stopped after (Err stop) = Stopped after

pub record Triple {S A : Type 0} (Start : S → Type 0) (computation : S → Outcome S A) (Ended : A → S → Type 0) (Stopped : S → Type 0) : Type 0 where
  pub meets : (s : S) → Start s → Meets Ended Stopped (computation s).after (computation s).answer

-- a condition that a computation keeps if it ends
abbrev pub KeptBy : {S A : Type 0} → (S → Type 0) → (S → Type 0) → (S → Outcome S A) → Type 0
KeptBy Stopped Holds computation = Triple Holds computation (λ a. Holds) Stopped

module _ {S : Type 0} {Stopped : S → Type 0} where
  continue_meets : {A B : Type 0} {Mid : A → S → Type 0} {Ended : B → S → Type 0} {next : A → S → Outcome S B} → ((a : A) → Triple (Mid a) (next a) Ended Stopped) → (s : S)
      (answer : Result A Stop) → Meets Mid Stopped s answer → Meets Ended Stopped (continue_with next s answer).after (continue_with next s answer).answer
  continue_meets h s (Ok a) m = (h a).meets s m
  continue_meets h s (Err stop) m = m

  pub triple_then : {A B : Type 0} {Start : S → Type 0} {Mid : A → S → Type 0} {Ended : B → S → Type 0} {first : S → Outcome S A} {next : A → S → Outcome S B}
      → Triple Start first Mid Stopped → ((a : A) → Triple (Mid a) (next a) Ended Stopped) → Triple Start (and_then first next) Ended Stopped
  triple_then {Mid = Mid} {first = first} f h = record { meets = λ s m. continue_meets {Mid = Mid} h (first s).after (first s).answer (f.meets s m) }

  pub triple_if : {A : Type 0} {Start : S → Type 0} {Ended : A → S → Type 0} {this other : S → Outcome S A} (b : Bool) → Triple Start this Ended Stopped
      → Triple Start other Ended Stopped → Triple Start (if_then_else b this other) Ended Stopped
  triple_if true f g = f
  triple_if false f g = g

  module _ {Holds : S → Type 0} where
    pub skip_triple : KeptBy Stopped Holds (skip {S = S})
    skip_triple = record { meets = λ s m. m }

    pub triple_for_each : {X : Type 0} {Good : X → Type 0} {computation : X → S → Outcome S (Unit {0})} → ((x : X) → Good x → KeptBy Stopped Holds (computation x)) → (xs : List X)
        → AllByRecursion Good xs → KeptBy Stopped Holds (for_each computation xs)
    triple_for_each h [] all = skip_triple
    triple_for_each h (x ∷ xs) all = triple_then (h x all.0) (λ done. triple_for_each h xs all.1)

    -- loops, if taking a turn keeps the condition
    module _ (turns : Turns S) (turn : (n : ℕ) (s : S) → Holds s → Holds (turns.set_remaining n s)) where
      turn_meets : {spent body : S → Outcome S (Unit {0})} → KeptBy Stopped Holds spent → KeptBy Stopped Holds body → (left : ℕ) (s : S) → Holds s
          → Meets (λ done. Holds) Stopped (take_turn turns spent body left s).after (take_turn turns spent body left s).answer
      turn_meets f g zero s m = f.meets s m
      turn_meets f g (suc n) s m = g.meets (turns.set_remaining n s) (turn n s m)

      turn_triple : {spent body : S → Outcome S (Unit {0})} → KeptBy Stopped Holds spent → KeptBy Stopped Holds body
          → KeptBy Stopped Holds (λ s. take_turn turns spent body (turns.remaining s) s)
      turn_triple f g = record { meets = λ s m. turn_meets f g (turns.remaining s) s m }

      triple_within : {spent body : S → Outcome S (Unit {0})} {test : S → Outcome S Bool} → KeptBy Stopped Holds spent → KeptBy Stopped Holds test → KeptBy Stopped Holds body → (bound : ℕ)
          → KeptBy Stopped Holds (loop_within turns spent test body bound)
      triple_within f h g zero = triple_then h (λ is_true. triple_if is_true f skip_triple)
      triple_within f h g (suc n) =
          triple_then h (λ is_true. triple_if is_true (triple_then (turn_triple f g) (λ done. triple_within f h g n)) skip_triple)

      pub triple_loop : {spent body : S → Outcome S (Unit {0})} {test : S → Outcome S Bool} → KeptBy Stopped Holds spent → KeptBy Stopped Holds test → KeptBy Stopped Holds body
          → KeptBy Stopped Holds (loop turns spent test body)
      triple_loop f h g = record { meets = λ s m. (triple_within f h g (turns.remaining s)).meets s m }
