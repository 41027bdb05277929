use Rattle.std.proofs.Common.{◌≡◌}
use Rattle.ghost_links.specs.Holdings.{ChangedOneEnd, receiver}
use Rattle.link_tests.proofs.polling.take_in_time.Given as goal

abbrev pub invariant-loop : goal.invariant-loop
invariant-loop l = ChangedOneEnd (receiver l.links l.link.from l.link.to) 0 l.fn.s l.s × (l.into.size ≡ l.fn.into.size)
