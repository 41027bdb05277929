use Rattle.liszt_lexer.proofs.FindingLemmas.{tokens_follow}
use Rattle.liszt_lexer.proofs.laws.tokens_ascend.Goals as goal

pub returns : goal.returns
returns c = tokens_follow
