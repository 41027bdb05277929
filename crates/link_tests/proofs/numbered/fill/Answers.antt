use Rattle.std.proofs.Common.{◌%◌}
use Rattle.link_tests.proofs.FillLemmas.{one_more_first}
use Rattle.link_tests.proofs.numbered.fill.Goals as goal

pub loop-i-preserved : goal.loop-i-preserved
loop-i-preserved c =
    one_more_first c.args.link.from c.args.link.to c.args.n (c.args.n % 8) c.loop-i.i c.word_of.result c.args.p.now.size c.loop-i.p c.set.new.self
    c.loop-i.invariant c.loop-i-test.true c.word_of.ensures c.set.ensures
