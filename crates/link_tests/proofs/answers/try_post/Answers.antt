use Rattle.ghost_links.specs.declared.links.PostAnswer.TheVariants.{NotYet, Posted}
use Rattle.link_tests.proofs.RoundLemmas.{link_posted}
use Rattle.link_tests.proofs.answers.try_post.Goals as goal

pub returns-in-Posted-clause-at : goal.returns-in-Posted-clause-at
returns-in-Posted-clause-at c =
    link_posted c.args.links.now 3 c.args.at.sent c.args.at.taken c.fill.new.p.words Posted c.args.s.now c.post.new.s c.requires.at c.in-Posted.ensures

pub returns-in-NotYet-clause-at : goal.returns-in-NotYet-clause-at
returns-in-NotYet-clause-at c =
    link_posted c.args.links.now 3 c.args.at.sent c.args.at.taken c.fill.new.p.words (NotYet c.in-NotYet.word) c.args.s.now c.post.new.s
    c.requires.at c.in-NotYet.ensures
