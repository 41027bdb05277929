-- What an item of a run of the main program promises at the level of its block. This project's own.
use Rattle.std.specs.Prelude.{◌≡◌, ◌<◌, ◌≤◌, ℕ, ◌+◌, ◌*◌, Option, Some, None, List, take, drop, slice_get, IfOk, Result, Ok}
use Rattle.liszt_base.specs.declared.answers.Trap.{Trap}
use Rattle.resolved_code.specs.declared.items.ItemCode.{ItemCode}
use Rattle.kernel_eval.specs.Outcomes.{Computation, Done}
use Rattle.seq_meaning.specs.MainRuns.{Frame, MainRun, World, StandsAt, HasDoneItem, KeepsShape}
use Rattle.seq_meaning.specs.RemainingEvents.{events_in, events_left, HasFewer}
use Rattle.seq_meaning.specs.Runs.{Progress}
use Rattle.seq_meaning.specs.declared.main_run.MainStep.{MainStep}

-- the remaining events of the block at a level, where each turn is worth the same number of events
abbrev pub events_at : ℕ → ℕ → List ItemCode → MainRun → ℕ
events_at worth level items r =
    r.turns * worth + events_left items (drop level (take r.depth r.frames))

-- no more events remain, and fewer after an event
abbrev pub CountsDown : Option MainStep → ℕ → ℕ → Type 0
CountsDown None before after = after ≤ before
CountsDown (Some step) before after = HasFewer step before after

pub record HasDone (level : ℕ) (items : List ItemCode) (next : Frame)
    (result : Result (Option MainStep) Trap) (r after : MainRun) : Type 0 where
  pub done : (w : World) (outside : List ℕ) (p : Progress) (remaining : Computation Progress Done)
      → StandsAt w r level outside items p remaining
      → HasDoneItem w level outside items p remaining result r after
  pub keeps : KeepsShape level r after
  pub fewer : (worth : ℕ) → events_in items < worth → IfOk result (λ step. CountsDown step
      (events_at worth level items r) (events_at worth level items after))
  pub at_next : result ≡ Ok None → slice_get after.frames level ≡ Some next
