use Rattle.std.proofs.Common.{◌≡◌}
use Rattle.ghost_links.specs.Holdings.{receiver}
use Rattle.link_tests.specs.Rounds.{IsAt}
use Rattle.link_tests.proofs.exchange.take_all.Given as goal

abbrev pub invariant-loop-n : goal.invariant-loop-n
invariant-loop-n l =
    (l.s.links ≡ l.links) × IsAt l.s (receiver l.links l.link.from l.link.to) l.n × (l.p.size ≡ l.fn.p.size)
