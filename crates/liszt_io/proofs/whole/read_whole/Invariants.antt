use Rattle.std.proofs.Common.{◌≡◌, ◌-◌, ◌<◌, ◌≤◌, length, Some}
use Rattle.liszt_io.specs.Shelves.{Files}
use Rattle.liszt_io.proofs.PieceLemmas.{IsReading}
use Rattle.liszt_io.proofs.whole.read_whole.Given as goal

abbrev pub invariant-loop-bytes : goal.invariant-loop-bytes
invariant-loop-bytes g l =
    (length l.bytes ≤ l.limit) × (0 < length l.buffer) × (g.F.Shelf.contents l.shelf ≡ g.F.Shelf.contents l.fn.shelf) × (g.F.Shelf.faults l.shelf ≡ g.F.Shelf.faults l.fn.shelf)
    × ((files : Files) → g.F.Shelf.contents l.fn.shelf ≡ Some files → IsReading files l.name l.bytes (g.F.Shelf.cursor l.shelf) (g.F.Shelf.tally l.fn.shelf) (g.F.Shelf.tally l.shelf))

abbrev pub decreases-loop-bytes : goal.decreases-loop-bytes
decreases-loop-bytes g l = l.limit - length l.bytes
