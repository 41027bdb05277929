use Rattle.std.specs.Char.{is_ascii_digit}
use Rattle.liszt_lexer.proofs.ByteLemmas.{prefix_passes}
use Rattle.liszt_lexer.proofs.LeadingPieceLemmas.{leading_number}
use Rattle.liszt_lexer.proofs.leading.leading_number.Goals as goal

pub returns : goal.returns
returns c =
    leading_number c.args.text.now c.digits_size-size.result c.number_piece.result c.requires.some c.requires.digit c.digits_size-size.ensures
    c.number_piece.ensures

pub number_piece-requires : goal.number_piece-requires
number_piece-requires c = rw c.digits_size-size.ensures (prefix_passes is_ascii_digit c.args.text.now)
