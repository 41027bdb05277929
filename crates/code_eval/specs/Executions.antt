-- Executions of resolved code, in sequence, up to the first stop. This project's own.
use Rattle.std.specs.Prelude.{◌≡◌, ◌≢◌, ◌≤◌, ℕ, zero, suc, Bool, true, false, List, [], ◌∷◌, ◌++◌, ℤ, Result, Ok, Err, Some}
use Rattle.liszt_base.specs.declared.accesses.Spot.{Spot}
use Rattle.liszt_base.specs.declared.answers.Place.{Place}
use Rattle.liszt_base.specs.declared.answers.Trap.{Trap}
use Rattle.liszt_base.specs.declared.answers.TrapKind.{TrapKind}
use Rattle.code_eval.specs.Acts.{Act}
use Rattle.code_eval.specs.Stops.{Stop, Trapped, NoMeaning}
use Rattle.code_eval.specs.Stores.{StoreView, HasActed, Admits}
pub use Rattle.code_eval.specs.declared.activation.Activation.{Activation}
use Rattle.code_eval.specs.declared.activation.Stopped.{Stopped}

-- AN EXECUTION takes an activation to the one afterwards, also after a stop, the acts that it makes, and its value or its stop. What
-- its reads give is fixed, for no execution of an iteration changes what the iteration reads.
pub record Executed (A : Type 0) : Type 0 where
  pub after : Activation
  pub acts : List Act
  pub answer : Result A Stop

abbrev pub Execution : Type 0 → Type 0
Execution A = (Spot → ℤ) → Activation → Executed A

abbrev pub Done : Type 0
Done = Unit {0}

abbrev pub answered : {A : Type 0} → Result A Stop → Execution A
answered answer view a = record { after = a; acts = []; answer = answer }

abbrev pub pure : {A : Type 0} → A → Execution A
pure value = answered (Ok value)

abbrev pub no_meaning : {A : Type 0} → Execution A
no_meaning = answered (Err NoMeaning)

abbrev pub modify : (Activation → Activation) → Execution Done
modify change view a = pure (tt {0}) view (change a)

-- a trap, which the activation keeps
abbrev pub trap_of : TrapKind → Place → Activation → Trap
trap_of kind place a = record { kind = kind; place = place; elem = Some a.elem }

abbrev pub with_trap : Trap → Activation → Activation
with_trap trap a = record a { trap = trap }

abbrev pub trap : {A : Type 0} → TrapKind → Place → Execution A
trap kind place view a = answered (Err (Trapped (trap_of kind place a))) view (with_trap (trap_of kind place a) a)

-- an act, with the value of the execution
abbrev pub act : {A : Type 0} → Act → A → Execution A
act made value view a = record { after = a; acts = made ∷ []; answer = Ok value }

abbrev pub after_acts : {A : Type 0} → List Act → Executed A → Executed A
after_acts acts r = record { after = r.after; acts = acts ++ r.acts; answer = r.answer }

-- an execution, and after it another one of its value, unless it stops
abbrev pub continue_with : {A B : Type 0} → (A → Execution B) → (Spot → ℤ) → Activation → List Act → Result A Stop → Executed B
continue_with next view a acts (Ok value) = after_acts acts (next value view a)
continue_with next view a acts (Err stop) = record { after = a; acts = acts; answer = Err stop }

infixl 10 ◌>>=◌
unfoldable pub ◌>>=◌ : {A B : Type 0} → Execution A → (A → Execution B) → Execution B
(first >>= next) view a = continue_with next view (first view a).after (first view a).acts (first view a).answer

infixl 10 ◌>>◌
abbrev pub ◌>>◌ : {A B : Type 0} → Execution A → Execution B → Execution B
first >> next = first >>= λ done. next

abbrev pub if_then_else : {A : Type 0} → Bool → Execution A → Execution A → Execution A
if_then_else true this other = this
if_then_else false this other = other

abbrev pub for_each : {X : Type 0} → (X → Execution Done) → List X → Execution Done
for_each execution [] = pure (tt {0})
for_each execution (x ∷ xs) = execution x >> for_each execution xs

abbrev pub in_turn : List (Execution Done) → Execution Done
in_turn [] = pure (tt {0})
in_turn (first ∷ rest) = first >> in_turn rest

-- A LOOP, as in the meaning of trees
abbrev pub with_turns : ℕ → Activation → Activation
with_turns turns a = record a { turns = turns }

abbrev pub take_turn : Execution Done → Execution Done → ℕ → Execution Done
take_turn spent body zero view a = spent view a
take_turn spent body (suc n) view a = body view (with_turns n a)

abbrev pub loop_within : Execution Done → Execution Bool → Execution Done → ℕ → Execution Done
loop_within spent test body zero = test >>= λ is_true. if_then_else is_true spent (pure (tt {0}))
loop_within spent test body (suc n) =
    test >>= λ is_true. if_then_else is_true
    ((λ view a. take_turn spent body a.turns view a) >> loop_within spent test body n)
    (pure (tt {0}))

abbrev pub loop : Execution Done → Execution Bool → Execution Done → Execution Done
loop spent test body view a = loop_within spent test body a.turns view a

-- the answer of code whose trap is in the activation
abbrev pub stop_in : {A : Type 0} → Result A Stopped → Activation → Result A Stop
stop_in (Ok value) a = Ok value
stop_in (Err stopped) a = Err (Trapped a.trap)

-- AN EXECUTION LEADS TO another, over a store that admits its acts: what it does from here is what the other does from there, after
-- acts that the store has done.
pub record HasLed {A : Type 0} (whole rest : Executed A) (s t : StoreView) : Type 0 where
  pub acts : List Act
  pub is : whole ≡ after_acts acts rest
  pub acted : HasActed acts s t

pub record LeadsTo {A : Type 0} (execution : Execution A) (a : Activation) (s : StoreView) (rest : Execution A) (b : Activation) (t : StoreView)
    : Type 0 where
  pub turns : b.turns ≤ a.turns
  pub leads : (view : Spot → ℤ) → Admits s (execution view a).acts → HasLed (execution view a) (rest view b) s t

-- AN EXECUTION CAN RUN over a store: for some values of reads it has a meaning, and the store admits its acts.
pub record CanRun {A : Type 0} (execution : Execution A) (a : Activation) (s : StoreView) : Type 0 where
  pub view : Spot → ℤ
  pub admits : Admits s (execution view a).acts
  pub has_meaning : (execution view a).answer ≢ Err NoMeaning
