use Rattle.word_region.proofs.ChainLemmas.{chain_first, outer_live, own_live, still_live}
use Rattle.word_region.proofs.laws.scopes_open_inwards.Goals as goal

pub returns-clause-chain : goal.returns-clause-chain
returns-clause-chain c = chain_first

pub returns-clause-live : goal.returns-clause-live
returns-clause-live c = still_live

pub returns-clause-own : goal.returns-clause-own
returns-clause-own c = own_live

pub returns-clause-outer : goal.returns-clause-outer
returns-clause-outer c = outer_live
