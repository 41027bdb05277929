use Rattle.std.proofs.Common.{◌≡◌, ◌+◌}
use Rattle.ghost_links.specs.Ends.{sending_end}
use Rattle.ghost_links.specs.Internal.Stages.{after_puts}
use Rattle.ghost_links.proofs.links.Links.store_packet.Given as goal

abbrev pub invariant-loop-i : goal.invariant-loop-i
invariant-loop-i l = l.s ≡ after_puts (sending_end l.link) (l.i + 1) l.fn.s
