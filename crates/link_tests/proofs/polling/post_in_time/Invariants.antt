use Rattle.ghost_links.specs.Holdings.{ChangedOneEnd, sender}
use Rattle.link_tests.proofs.polling.post_in_time.Given as goal

abbrev pub invariant-loop : goal.invariant-loop
invariant-loop l = ChangedOneEnd (sender l.links l.link.from l.link.to) 0 l.fn.s l.s
