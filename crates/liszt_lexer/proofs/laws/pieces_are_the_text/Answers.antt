use Rattle.liszt_lexer.proofs.PieceLemmas.{pieces_join}
use Rattle.liszt_lexer.proofs.laws.pieces_are_the_text.Goals as goal

pub returns : goal.returns
returns c = pieces_join
