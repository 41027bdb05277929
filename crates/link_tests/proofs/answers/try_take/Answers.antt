use Rattle.ghost_links.specs.declared.links.TakeAnswer.TheVariants.{NotYet, Taken}
use Rattle.link_tests.proofs.RoundLemmas.{link_taken}
use Rattle.link_tests.proofs.answers.try_take.Goals as goal

pub returns-in-Taken-clause-at : goal.returns-in-Taken-clause-at
returns-in-Taken-clause-at c =
    link_taken c.args.links.now 3 c.args.at.sent c.args.at.taken Taken c.args.s.now c.take.new.s c.args.p.now c.take.new.into c.requires.at c.in-Taken.ensures

pub returns-in-NotYet-clause-at : goal.returns-in-NotYet-clause-at
returns-in-NotYet-clause-at c =
    link_taken c.args.links.now 3 c.args.at.sent c.args.at.taken (NotYet c.in-NotYet.word) c.args.s.now c.take.new.s c.args.p.now c.take.new.into
    c.requires.at c.in-NotYet.ensures
