use Rattle.liszt_lexer.proofs.LongestPieceLemmas.{all_longest}
use Rattle.liszt_lexer.proofs.laws.pieces_are_longest.Goals as goal

pub returns : goal.returns
returns c = all_longest
