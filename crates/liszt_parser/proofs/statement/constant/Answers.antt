use Rattle.std.proofs.Common.{arith, rules, drop}
use Rattle.liszt_tree.specs.Tree.{expression, statement_tree}
use Rattle.liszt_tree.specs.declared.tree.Stmt.{the_lemmas}
use Rattle.liszt_parser.specs.Internal.Sources.{source_lexemes, source_lexeme}
use Rattle.liszt_parser.specs.Grammar.{val_word}
use Rattle.liszt_parser.specs.Internal.Productions.{declaration_parts, constants, constants_tree}
use Rattle.liszt_parser.proofs.Readers.{mapped_read, mapped_lawful}
use Rattle.liszt_parser.proofs.StatementReaders.{declared_lawful}
use Rattle.liszt_parser.proofs.StepLemmas.{leaves, map_fails}
use Rattle.liszt_parser.proofs.statement.constant.Goals as goal

pub returns-in_err-word : goal.returns-in_err-word
returns-in_err-word c =
    let ts = source_lexemes c.args.source.now in
    let refused = c.in_err-word.field-0.0 in
    leaves 1 constants statement_tree ts c.args.at c.from_residual.result refused c.from_residual.ensures.1
    (map_fails constants_tree (mapped_lawful declaration_parts (declared_lawful val_word)) ts c.args.at refused
    (c.in_err-word.ensures.outcome))

pub returns : goal.returns
returns c =
    let s = c.args.source.now in
    let ts = source_lexemes s in (
      omega (arith, c.in_ok-word.ensures.outcome.0),
      c.in_ok-word.ensures.outcome.1,
      mapped_read constants_tree (drop c.args.at ts) (drop c.in_ok-word.end ts) (source_lexeme s c.in_ok-word.word, (source_lexeme s c.in_ok-word.name, expression c.in_ok-word.init)) _ (search (rules, the_lemmas))
          c.in_ok-word.ensures.outcome.2,
    )
