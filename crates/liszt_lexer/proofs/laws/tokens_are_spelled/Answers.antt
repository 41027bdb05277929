use Rattle.liszt_lexer.proofs.FindingLemmas.{all_tokens_spelled}
use Rattle.liszt_lexer.proofs.laws.tokens_are_spelled.Goals as goal

pub returns : goal.returns
returns c = all_tokens_spelled
