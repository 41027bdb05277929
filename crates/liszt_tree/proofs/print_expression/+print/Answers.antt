use Rattle.std.proofs.Common.{◌++◌, List, ℕ, refl, rules, append_assoc, nat_le}
use Rattle.std.proofs.lemmas.Result.{IfOk-equal}
use Rattle.liszt_tree.specs.Canonical.{spaced_text, sign_text, bracketed_text, level_of, expression_text}
use Rattle.liszt_tree.specs.declared.tree.Expr.{the_lemmas}
use Rattle.liszt_tree.specs.declared.tree.Link.{Link}
use Rattle.liszt_tree.specs.Tree.{expression}
use Rattle.liszt_tree.proofs.ListPrintLemmas.{links_after, step}
use Rattle.liszt_tree.proofs.print_expression.+print.Goals as goal

pub print_expression-returns-in_ok-print_operand-in-Chain : goal.print_expression-returns-in_ok-print_operand-in-Chain
print_expression-returns-in_ok-print_operand-in-Chain t c = search (rules, the_lemmas, IfOk-equal, append_assoc)

pub print_expression-returns-in_ok-print_spaced_text-in-Compare : goal.print_expression-returns-in_ok-print_spaced_text-in-Compare
print_expression-returns-in_ok-print_spaced_text-in-Compare t c = search (rules, the_lemmas, IfOk-equal, append_assoc)

pub print_links-loop-link-preserved : goal.print_links-loop-link-preserved
print_links-loop-link-preserved t c =
    let piece : Link → List ℕ = λ l. spaced_text (sign_text l.op) ++ bracketed_text (nat_le (level_of (expression l.arg)) c.args.level) (expression_text (expression l.arg)) in
    step (links_after c.args.level) piece (λ x more. refl)
    c.args.links.now c.loop-link.link-index c.link-item.result (search rules) c.link-item.is c.loop-link.out _ _ (search (rules, append_assoc)) c.loop-link.invariant
