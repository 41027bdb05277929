use Rattle.std.proofs.Common.{refl, arith, drop}
use Rattle.liszt_lexer.specs.declared.token.TokenKind.TheVariants.{Name as NameToken}
use Rattle.liszt_tree.specs.Tree.{expression}
use Rattle.liszt_parser.specs.Internal.Sources.{source_lexemes, source_lexeme}
use Rattle.liszt_parser.specs.Grammar.{set_to}
use Rattle.liszt_parser.specs.Internal.Productions.{declaration, declaration_parts}
use Rattle.liszt_parser.proofs.Readers.{mapped_read}
use Rattle.liszt_parser.proofs.StatementReaders.{closed_lawful, set_closed, name_set, declared_lawful}
use Rattle.liszt_parser.proofs.StepLemmas.{leaves, map_fails, part_fails, part_then, part_read, token_part}
use Rattle.liszt_parser.proofs.statement.declaration.Goals as goal

pub returns-in_err-word-clause-outcome : goal.returns-in_err-word-clause-outcome
returns-in_err-word-clause-outcome c =
    let s = c.args.source.now in let ts = source_lexemes s in
    let refused = c.in_err-word.field-0.0 in
    leaves 1 (declaration c.args.word) (λ x. (source_lexeme s x.0, (source_lexeme s x.1, expression x.2))) ts c.args.at c.from_residual.result refused c.from_residual.ensures.1
    (map_fails declaration_parts (declared_lawful c.args.word) ts c.args.at refused
    (part_fails (token_part c.args.word) name_set ts c.args.at refused (c.in_err-word.ensures.outcome)))

pub returns-in_err-name-clause-outcome : goal.returns-in_err-name-clause-outcome
returns-in_err-name-clause-outcome c =
    let s = c.args.source.now in let ts = source_lexemes s in
    let refused = c.in_err-name.field-0.0 in
    leaves 1 (declaration c.args.word) (λ x. (source_lexeme s x.0, (source_lexeme s x.1, expression x.2))) ts c.args.at c.from_residual-in_err-name.result refused c.from_residual-in_err-name.ensures.1
    (map_fails declaration_parts (declared_lawful c.args.word) ts c.args.at refused
    (part_then (token_part c.args.word) name_set ts c.args.at c.in_ok-word.at (source_lexeme s c.in_ok-word.word) refused c.in_ok-word.ensures.outcome.2
    (part_fails (token_part NameToken) set_closed ts c.in_ok-word.at refused (c.in_err-name.ensures.outcome))))

pub returns-in_err-at-clause-outcome : goal.returns-in_err-at-clause-outcome
returns-in_err-at-clause-outcome c =
    let s = c.args.source.now in let ts = source_lexemes s in
    let refused = c.in_err-at.field-0.0 in
    leaves 1 (declaration c.args.word) (λ x. (source_lexeme s x.0, (source_lexeme s x.1, expression x.2))) ts c.args.at c.from_residual-in_err-at.result refused c.from_residual-in_err-at.ensures.1
    (map_fails declaration_parts (declared_lawful c.args.word) ts c.args.at refused
    (part_then (token_part c.args.word) name_set ts c.args.at c.in_ok-word.at (source_lexeme s c.in_ok-word.word) refused c.in_ok-word.ensures.outcome.2
    (part_then (token_part NameToken) set_closed ts c.in_ok-word.at c.in_ok-name.at (source_lexeme s c.in_ok-name.name) refused c.in_ok-name.ensures.outcome.2
    (part_fails (token_part set_to) closed_lawful ts c.in_ok-name.at refused (c.in_err-at.ensures.outcome)))))

pub returns-in_err-init-clause-outcome : goal.returns-in_err-init-clause-outcome
returns-in_err-init-clause-outcome c =
    let s = c.args.source.now in let ts = source_lexemes s in
    let refused = c.in_err-init.field-0.0 in
    leaves 1 (declaration c.args.word) (λ x. (source_lexeme s x.0, (source_lexeme s x.1, expression x.2))) ts c.args.at c.from_residual-in_err-init.result refused c.from_residual-in_err-init.ensures.1
    (map_fails declaration_parts (declared_lawful c.args.word) ts c.args.at refused
    (part_then (token_part c.args.word) name_set ts c.args.at c.in_ok-word.at (source_lexeme s c.in_ok-word.word) refused c.in_ok-word.ensures.outcome.2
    (part_then (token_part NameToken) set_closed ts c.in_ok-word.at c.in_ok-name.at (source_lexeme s c.in_ok-name.name) refused c.in_ok-name.ensures.outcome.2
    (part_then (token_part set_to) closed_lawful ts c.in_ok-name.at c.in_ok-at.at (source_lexeme s c.in_ok-at.field-0-0) refused c.in_ok-at.ensures.outcome.2
    (c.in_err-init.ensures)))))

pub returns-clause-outcome : goal.returns-clause-outcome
returns-clause-outcome c =
    let s = c.args.source.now in
    let ts = source_lexemes s in (
      omega (arith, c.in_ok-word.ensures.outcome.0, c.in_ok-name.ensures.outcome.0, c.in_ok-at.ensures.outcome.0, c.in_ok-init.ensures.0),
      c.in_ok-init.ensures.1,
      mapped_read declaration_parts (drop c.args.at ts) (drop c.in_ok-init.at ts) ((source_lexeme s c.in_ok-word.word), ((source_lexeme s c.in_ok-name.name), ((source_lexeme s c.in_ok-at.field-0-0), (expression c.in_ok-init.init)))) _ refl
          (part_read (token_part c.args.word) name_set (drop c.args.at ts) (drop c.in_ok-word.at ts) (drop c.in_ok-init.at ts) (source_lexeme s c.in_ok-word.word) ((source_lexeme s c.in_ok-name.name), ((source_lexeme s c.in_ok-at.field-0-0), (expression c.in_ok-init.init))) c.in_ok-word.ensures.outcome.2
          (part_read (token_part NameToken) set_closed (drop c.in_ok-word.at ts) (drop c.in_ok-name.at ts) (drop c.in_ok-init.at ts) (source_lexeme s c.in_ok-name.name) ((source_lexeme s c.in_ok-at.field-0-0), (expression c.in_ok-init.init)) c.in_ok-name.ensures.outcome.2
          (part_read (token_part set_to) closed_lawful (drop c.in_ok-name.at ts) (drop c.in_ok-at.at ts) (drop c.in_ok-init.at ts) (source_lexeme s c.in_ok-at.field-0-0) (expression c.in_ok-init.init) c.in_ok-at.ensures.outcome.2
          c.in_ok-init.ensures.2))),
    )
