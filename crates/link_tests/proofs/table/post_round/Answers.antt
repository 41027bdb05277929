use Rattle.std.proofs.Common.{rules}
use Rattle.ghost_links.specs.Holdings.{HasLink}
use Rattle.link_tests.proofs.RoundLemmas.{post_next}
use Rattle.link_tests.proofs.table.post_round.Goals as goal

pub post_in_time-requires-clause-packet : goal.post_in_time-requires-clause-packet
post_in_time-requires-clause-packet c =
    let link : HasLink c.args.links.now c.args.rank c.loop-other.other = search rules in
    post_next c.args.links.now c.args.run.rounds c.args.rank c.loop-other.other c.args.round c.fill.new.p.words c.loop-other.s
    c.loop-other.invariant.0 link c.loop-other.invariant.1 c.requires.round c.fill.ensures.words
