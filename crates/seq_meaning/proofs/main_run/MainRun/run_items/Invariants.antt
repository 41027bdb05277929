use Rattle.std.proofs.Common.{◌≡◌, ◌<◌, ◌≤◌, ℕ, suc, ◌-◌, List, length, get_or, false}
use Rattle.kernel_eval.specs.Outcomes.{Computation, Done}
use Rattle.seq_meaning.specs.MainRuns.{CanAdvance, Continues, KeepsShape, StandsAt, World}
use Rattle.seq_meaning.specs.RemainingEvents.{events_in}
use Rattle.seq_meaning.specs.Internal.RunSteps.{events_at}
use Rattle.seq_meaning.specs.Runs.{Progress}
use Rattle.seq_meaning.proofs.main_run.MainRun.run_items.Given as goal

abbrev pub invariant-loop-frame : goal.invariant-loop-frame
invariant-loop-frame l =
    CanAdvance l.self l.level l.items × (suc l.level ≡ l.self.depth) × KeepsShape l.level l.initial.self l.self
    × ((w : World) (outside : List ℕ) (p : Progress) (remaining : Computation Progress Done) → StandsAt w l.initial.self l.level outside l.items p remaining
    → Continues w l.level outside l.items p remaining l.initial.self l.self)
    × ((worth : ℕ) → events_in l.items < worth → events_at worth l.level l.items l.self ≤ events_at worth l.level l.items l.initial.self)

abbrev pub decreases-loop-frame : goal.decreases-loop-frame
decreases-loop-frame l = length l.items - (get_or l.self.frames l.level (record { index = 0; after_else = false })).index
