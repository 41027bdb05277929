use Rattle.std.proofs.Common.{◌+◌, ◌<◌, ◌≤◌, length, take}
use Rattle.seq_meaning.specs.MainRuns.{deepest}
use Rattle.seq_meaning.proofs.main_run.+reserve.Given as goal

abbrev pub invariant-reserve-loop-item : goal.invariant-reserve-loop-item
invariant-reserve-loop-item l = (l.level + deepest (take l.item-index l.items) < length l.frames) × (length l.fn.frames ≤ length l.frames)
