use Rattle.std.proofs.Common.{◌≡◌}
use Rattle.ghost_links.specs.Holdings.{sender}
use Rattle.link_tests.specs.Rounds.{HasScript, IsAt}
use Rattle.link_tests.proofs.exchange.post_all.Given as goal

abbrev pub invariant-loop-n : goal.invariant-loop-n
invariant-loop-n l =
    HasScript l.links l.count l.s × IsAt l.s (sender l.links l.link.from l.link.to) l.n × (l.p.size ≡ l.fn.p.size)
