-- Computations in sequence, up to the first stop. This project's own.
use Rattle.std.specs.Prelude.{ℕ, zero, suc, Bool, true, false, List, [], ◌∷◌, Result, Ok, Err}
pub use Rattle.code_eval.specs.Stops.{Stop, Trapped, NoMeaning}

-- AN OUTCOME is the state afterwards, also after a stop, and the value or the stop. A computation takes a state to an outcome.
pub record Outcome (S A : Type 0) : Type 0 where
  pub after : S
  pub answer : Result A Stop

abbrev pub Computation : Type 0 → Type 0 → Type 0
Computation S A = S → Outcome S A

abbrev pub Done : Type 0
Done = Unit {0}

abbrev pub pure : {S A : Type 0} → A → Computation S A
pure value s = record { after = s; answer = Ok value }

abbrev pub halt : {S A : Type 0} → Stop → Computation S A
halt stop s = record { after = s; answer = Err stop }

abbrev pub modify : {S : Type 0} → (S → S) → Computation S Done
modify change s = pure (tt {0}) (change s)

abbrev pub skip : {S : Type 0} → Computation S Done
skip s = pure (tt {0}) s

-- a computation, and after it another one of its value, unless it stops
abbrev pub continue_with : {S A B : Type 0} → (A → Computation S B) → S → Result A Stop → Outcome S B
continue_with next s (Ok value) = next value s
continue_with next s (Err stop) = halt stop s

abbrev pub and_then : {S A B : Type 0} → Computation S A → (A → Computation S B) → Computation S B
and_then first next s = continue_with next (first s).after (first s).answer

infixl 10 ◌>>=◌
abbrev pub ◌>>=◌ : {S A B : Type 0} → Computation S A → (A → Computation S B) → Computation S B
first >>= next = and_then first next

infixl 10 ◌>>◌
abbrev pub ◌>>◌ : {S A B : Type 0} → Computation S A → Computation S B → Computation S B
first >> next = and_then first (λ done. next)

-- one of two computations, by a truth value
abbrev pub if_then_else : {S A : Type 0} → Bool → Computation S A → Computation S A → Computation S A
if_then_else true this other = this
if_then_else false this other = other

-- a computation for each member of a list, in the order of the list
abbrev pub for_each : {S X : Type 0} → (X → Computation S Done) → List X → Computation S Done
for_each computation [] = skip
for_each computation (x ∷ xs) = computation x >> for_each computation xs

-- A LOOP: its test; if that is true, a turn, the body, and the loop again; if it is true and no turn remains, `spent`. Each round takes
-- a turn, so the loop ends. The definition counts down from the number of turns that remain at entry; no step raises the turns, so the
-- count never ends first, and the loop unfolds (law `loops_unfold`).
pub record Turns (S : Type 0) : Type 0 where
  pub remaining : S → ℕ
  pub set_remaining : ℕ → S → S

abbrev pub take_turn : {S : Type 0} → Turns S → Computation S Done → Computation S Done → ℕ → Computation S Done
take_turn turns spent body zero s = spent s
take_turn turns spent body (suc n) s = body (turns.set_remaining n s)

abbrev pub loop_within : {S : Type 0} → Turns S → Computation S Done → Computation S Bool → Computation S Done → ℕ → Computation S Done
loop_within turns spent test body zero = test >>= λ is_true. if_then_else is_true spent skip
loop_within turns spent test body (suc n) =
    test >>= λ is_true. if_then_else is_true
    ((λ s. take_turn turns spent body (turns.remaining s) s) >> loop_within turns spent test body n)
    skip

abbrev pub loop : {S : Type 0} → Turns S → Computation S Done → Computation S Bool → Computation S Done → Computation S Done
loop turns spent test body s = loop_within turns spent test body (turns.remaining s) s
