use Rattle.std.proofs.Common.{◌∙◌}
use Rattle.liszt_parser.proofs.SourceLemmas.{sees}
use Rattle.liszt_parser.proofs.source.Source.token.Goals as goal

pub returns : goal.returns
returns c =
    sees c.args.self.now.text.now c.args.self.now.tokens.now c.args.at c.copied.result c.args.self.now.tokens_in_text
    (c.copied.ensures ∙ c.at.ensures)
