use Rattle.std.proofs.Common.{refl, arith, drop}
use Rattle.liszt_tree.specs.Tree.{expression}
use Rattle.liszt_parser.specs.Internal.Sources.{source_lexemes}
use Rattle.liszt_parser.specs.Internal.Productions.{closed_expression, closed_tree}
use Rattle.liszt_parser.proofs.Readers.{mapped_read}
use Rattle.liszt_parser.proofs.ExpressionSteps.{rank_fails, rank_then, rank_read}
use Rattle.liszt_parser.proofs.StatementReaders.{closings_lawful, closings_after}
use Rattle.liszt_parser.proofs.StepLemmas.{leaves, map_fails}
use Rattle.liszt_parser.proofs.StatementReaders.{closed_parts_lawful}
use Rattle.liszt_parser.proofs.statement.closed_expression.Goals as goal

pub returns-in_err-e : goal.returns-in_err-e
returns-in_err-e c =
    let ts = source_lexemes c.args.source.now in
    let refused = c.in_err-e.field-0.0 in
    leaves 1 closed_expression expression ts c.args.at c.from_residual.result refused c.from_residual.ensures.1
    (map_fails closed_tree closed_parts_lawful ts c.args.at refused
    (rank_fails closings_after closings_lawful ts c.args.at refused (c.in_err-e.ensures)))

pub returns-in_err-at : goal.returns-in_err-at
returns-in_err-at c =
    let ts = source_lexemes c.args.source.now in
    let refused = c.in_err-at.field-0.0 in
    leaves 1 closed_expression expression ts c.args.at c.from_residual-in_err-at.result refused c.from_residual-in_err-at.ensures.1
    (map_fails closed_tree closed_parts_lawful ts c.args.at refused
    (rank_then closings_after ts c.args.at c.in_ok-e.at (expression c.in_ok-e.e) refused c.in_ok-e.ensures.2
    (c.in_err-at.ensures)))

pub returns : goal.returns
returns c =
    let s = c.args.source.now in
    let ts = source_lexemes s in (
      omega (arith, c.in_ok-e.ensures.0, c.in_ok-at.ensures.0),
      c.in_ok-at.ensures.1,
      mapped_read closed_tree (drop c.args.at ts) (drop c.in_ok-at.at ts) ((expression c.in_ok-e.e), tt) _ refl
          (rank_read closings_after closings_lawful (drop c.args.at ts) (drop c.in_ok-e.at ts) (drop c.in_ok-at.at ts) (expression c.in_ok-e.e) tt c.in_ok-e.ensures.2
          c.in_ok-at.ensures.2),
    )
