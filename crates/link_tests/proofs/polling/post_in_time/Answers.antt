use Rattle.ghost_links.specs.Holdings.{sender}
use Rattle.link_tests.proofs.PollLemmas.{one_more_post_try, posted_try}
use Rattle.link_tests.proofs.polling.post_in_time.Goals as goal

pub returns-in-Posted : goal.returns-in-Posted
returns-in-Posted c =
    posted_try (sender c.args.links.now c.args.link.from c.args.link.to) c.args.p.now.words c.args.s.now c.loop.s c.post.new.s c.loop.invariant c.in-Posted.ensures

pub loop-preserved : goal.loop-preserved
loop-preserved c =
    one_more_post_try (sender c.args.links.now c.args.link.from c.args.link.to) c.in-NotYet.word c.args.p.now.words c.args.s.now c.loop.s c.post.new.s
    c.loop.invariant c.in-NotYet.ensures
