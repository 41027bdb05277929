-- Counts of faults, and what an answer says of them. This project's own.
use Rattle.std.specs.Prelude.{◌≡◌, ℕ, ◌+◌, ◌-◌, ◌^◌, ◌≤◌, min, Result, Ok, Err, OnOk, OnErr}

-- One more, up to the last value of a count.
abbrev pub one_more : ℕ → ℕ
one_more count = min (count + 1) (2 ^ 64 - 1)

-- The count rose, or is at its last value; it has not fallen.
abbrev pub Rose : ℕ → ℕ → Type 0
Rose before now = (before ≤ now) × (one_more before ≤ now)

-- The count after a call: one more where the call failed.
abbrev pub faults_after : {T E : Type 0} → ℕ → Result T E → ℕ
faults_after before (Ok _) = before
faults_after before (Err _) = one_more before

-- The result of a call and a count: the count never falls,
-- it rose where the call failed, and an Ok leaves it.
pub record HasCause {T E : Type 0} (before now : ℕ) (result : Result T E) : Type 0 where
  pub later : before ≤ now
  pub failed : OnErr result (Rose before now)
  pub kept : OnOk result (now ≡ before)
