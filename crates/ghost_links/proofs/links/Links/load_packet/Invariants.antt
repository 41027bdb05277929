use Rattle.std.proofs.Common.{◌≡◌, ◌+◌, length}
use Rattle.ghost_links.specs.Ends.{receiving_end}
use Rattle.ghost_links.specs.Internal.Stages.{after_loads}
use Rattle.ghost_links.proofs.StageLemmas.{Loaded}
use Rattle.ghost_links.proofs.links.Links.load_packet.Given as goal

abbrev pub invariant-loop-i : goal.invariant-loop-i
invariant-loop-i l =
    (l.s ≡ after_loads (l.i + 1) l.fn.s) × (l.i-end ≡ length l.into.words)
    × Loaded l.link (receiving_end l.link) l.i l.fn.s l.fn.into.size l.into
