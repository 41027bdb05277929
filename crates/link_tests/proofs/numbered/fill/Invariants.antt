use Rattle.link_tests.proofs.FillLemmas.{HasFirst}
use Rattle.link_tests.proofs.numbered.fill.Given as goal

abbrev pub invariant-loop-i : goal.invariant-loop-i
invariant-loop-i l = HasFirst l.link.from l.link.to l.n l.used l.i l.fn.p.size l.p
