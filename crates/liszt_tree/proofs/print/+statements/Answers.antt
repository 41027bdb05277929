use Rattle.std.proofs.Common.{◌≡◌, map, refl, rules, append_assoc}
use Rattle.std.proofs.lemmas.Result.{IfOk-equal}
use Rattle.liszt_tree.specs.declared.tree.Stmt.{the_lemmas}
use Rattle.liszt_tree.specs.Canonical.{statement_text}
use Rattle.liszt_tree.specs.Tree.{statement_tree, expression, body_of, If}
use Rattle.liszt_tree.proofs.ListPrintLemmas.{body_after, step}
use Rattle.liszt_tree.proofs.print.+statements.Goals as goal

pub print_statement-returns-in_ok-print_else-in-If : goal.print_statement-returns-in_ok-print_else-in-If
print_statement-returns-in_ok-print_else-in-If t c =
    let i = c.in-If in
    let is : statement_tree c.args.statement.now ≡ If i.place (expression i.test) (body_of (map statement_tree i.yes)) (body_of (map statement_tree i.no)) i.has_else = search (rules, the_lemmas) in
    search (rules, is, IfOk-equal, append_assoc)

pub print_body-loop-statement-preserved : goal.print_body-loop-statement-preserved
print_body-loop-statement-preserved t c =
    step (body_after c.args.depth) (λ x. statement_text c.args.depth (statement_tree x)) (λ x more. refl)
    c.args.body.now c.loop-statement.statement-index c.statement-item.result (search rules) c.statement-item.is c.loop-statement.out _ _ (search rules) c.loop-statement.invariant
