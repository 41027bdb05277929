use Rattle.std.proofs.Common.{◌+◌, rules, drop}
use Rattle.liszt_parser.specs.Internal.Sources.{source_lexemes, source_lexeme}
use Rattle.liszt_parser.proofs.ClosingLemmas.{ends_by}
use Rattle.liszt_parser.proofs.statement.ends.Goals as goal

pub returns-in-Some : goal.returns-in-Some
returns-in-Some c =
    let s = c.args.source.now in
    ends_by (source_lexeme s c.in-Some.token) (drop c.args.at (source_lexemes s)) (drop (c.args.at + 1) (source_lexemes s)) c.eq.result c.in-Some.ensures.0 (λ e. search rules) (λ e. search rules)
