use Rattle.liszt_lexer.proofs.LongestPieceLemmas.{tokens_as_pieces}
use Rattle.liszt_lexer.proofs.laws.tokens_are_the_pieces.Goals as goal

pub returns : goal.returns
returns c = tokens_as_pieces
