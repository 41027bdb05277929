use Rattle.std.proofs.Common.{◌≡◌}
use Rattle.std.specs.Prelude.{Ok}
use Rattle.liszt_tree.specs.Tree.{Main}
use Rattle.phase_types.specs.Checked.{checked_program}
use Rattle.seq_meaning.specs.RemainingEvents.{remaining_events}
use Rattle.seq_meaning.specs.SequentialRuns.{IsPreparedFor}
use Rattle.seq_meaning.proofs.SequentialRunLemmas.{IsRunning}
use Rattle.seq_meaning.proofs.sequential_run.run_seq.Given as goal

abbrev pub invariant-events : goal.invariant-events
invariant-events l =
    IsPreparedFor l.c l.m l.store
    × ((program : Main) → checked_program program ≡ Ok l.c → IsRunning l.c l.m l.turns program l.store.main l.store.fields)

abbrev pub decreases-events : goal.decreases-events
decreases-events l = remaining_events l.c.items l.store.main
