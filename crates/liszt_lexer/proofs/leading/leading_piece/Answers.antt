use Rattle.std.proofs.Common.{sym, ◌∙◌}
use Rattle.liszt_lexer.proofs.LeadingPieceLemmas.{leading_blank}
use Rattle.liszt_lexer.proofs.leading.leading_piece.Goals as goal

pub returns-then-is_blank : goal.returns-then-is_blank
returns-then-is_blank c = leading_blank c.args.text.now c.requires (sym c.is_blank.ensures ∙ c.if-is_blank.true)
