use Rattle.std.proofs.Common.{◌≡◌, drop}
use Rattle.batch_core.specs.Machine.{HasSizesOf, run}
use Rattle.batch_core.proofs.machine.Core.take_turns.Given as goal

abbrev pub invariant-loop-worker : goal.invariant-loop-worker
invariant-loop-worker l =
    (run l.self (drop l.worker-index l.turns) ≡ run l.initial.self l.turns) × HasSizesOf l.initial.self l.self
