use Rattle.ghost_links.specs.Holdings.{sender}
use Rattle.link_tests.proofs.RoundLemmas.{numbered_next}
use Rattle.link_tests.proofs.exchange.post_all.Goals as goal

pub post_in_time-requires-clause-packet : goal.post_in_time-requires-clause-packet
post_in_time-requires-clause-packet c =
    numbered_next c.args.links.now c.args.count c.args.link.from c.args.link.to (sender c.args.links.now c.args.link.from c.args.link.to) c.loop-n.n
    c.fill.new.p.words c.loop-n.s c.loop-n.invariant.0 c.requires.link c.loop-n.invariant.1 c.loop-n-test.true c.fill.ensures.words
