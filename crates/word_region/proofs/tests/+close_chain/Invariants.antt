use Rattle.word_region.proofs.tests.+close_chain.Given as goal

abbrev pub decreases-close_chain : goal.decreases-close_chain
decreases-close_chain l = l.scope
