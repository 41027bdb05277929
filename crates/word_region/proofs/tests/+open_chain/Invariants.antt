use Rattle.word_region.proofs.tests.+open_chain.Given as goal

abbrev pub decreases-open_chain : goal.decreases-open_chain
decreases-open_chain l = l.scope
