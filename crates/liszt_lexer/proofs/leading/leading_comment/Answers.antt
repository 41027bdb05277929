use Rattle.liszt_lexer.proofs.LeadingPieceLemmas.{leading_comment}
use Rattle.liszt_lexer.proofs.leading.leading_comment.Goals as goal

pub returns : goal.returns
returns c = leading_comment c.args.text.now c.comment_size.result c.requires c.comment_size.ensures
