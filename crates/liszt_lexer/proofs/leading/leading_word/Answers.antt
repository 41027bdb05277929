use Rattle.std.proofs.Common.{sym, ◌∙◌}
use Rattle.liszt_lexer.proofs.LeadingPieceLemmas.{leading_set, leading_word}
use Rattle.liszt_lexer.proofs.leading.leading_word.Goals as goal

pub returns-in-Some : goal.returns-in-Some
returns-in-Some c = leading_set c.args.text.now c.in-Some.kind (sym c.leading_set.ensures ∙ c.in-Some.is)

pub returns-in-None : goal.returns-in-None
returns-in-None c =
    leading_word c.args.text.now c.name_size-size.result c.word_piece.result c.requires.some c.requires.letter
    (sym c.leading_set.ensures ∙ c.in-None.is) c.name_size-size.ensures c.word_piece.ensures
