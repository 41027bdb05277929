use Rattle.liszt_lexer.proofs.LeadingPieceLemmas.{leading_symbol}
use Rattle.liszt_lexer.proofs.leading.leading_symbol.Goals as goal

pub returns : goal.returns
returns c =
    leading_symbol c.args.text.now c.symbol_size-size.result c.symbol_piece.result c.requires.some c.requires.blank c.requires.digit
    c.requires.letter c.requires.comment c.symbol_size-size.ensures c.symbol_piece.ensures
