use Rattle.liszt_lexer.proofs.LongestPieceLemmas.{is_longest, is_nowhere}
use Rattle.liszt_lexer.proofs.laws.longest_size_is_longest.Goals as goal

pub returns-clause-some : goal.returns-clause-some
returns-clause-some c = is_longest

pub returns-clause-none : goal.returns-clause-none
returns-clause-none c = is_nowhere
