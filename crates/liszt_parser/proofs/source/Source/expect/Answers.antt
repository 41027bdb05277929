use Rattle.std.proofs.Common.{rules, subst}
use Rattle.liszt_parser.specs.Internal.Reading.{Sees}
use Rattle.liszt_parser.specs.Internal.Sources.{source_lexemes, source_lexeme}
use Rattle.liszt_parser.proofs.SourceLemmas.{token_seen, other_seen, end_seen}
use Rattle.liszt_parser.proofs.source.Source.expect.Goals as goal

pub returns-in-Some-clause-outcome : goal.returns-in-Some-clause-outcome
returns-in-Some-clause-outcome c =
    let s = c.args.self.now in token_seen s.text.now (source_lexemes s) (source_lexeme s) c.args.at c.args.kind c.in-Some.token c.in-Some.ensures (search rules)

pub returns-in_default-clause-outcome : goal.returns-in_default-clause-outcome
returns-in_default-clause-outcome c =
    let s = c.args.self.now in other_seen s.text.now (source_lexemes s) (source_lexeme s) c.args.at c.args.kind c.in-Some.token c.in-Some.ensures (search rules)

pub returns-in_default-2-clause-outcome : goal.returns-in_default-2-clause-outcome
returns-in_default-2-clause-outcome c =
    let s = c.args.self.now in end_seen s.text.now (source_lexemes s) (source_lexeme s) c.args.at c.args.kind
    (subst (λ o. Sees s.text.now (source_lexemes s) (source_lexeme s) c.args.at o) c.in_default.is c.token.ensures) c.requires
