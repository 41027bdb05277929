use Rattle.std.proofs.Common.{◌≡◌, ◌++◌, drop}
use Rattle.liszt_tree.proofs.ListPrintLemmas.{body_after}
use Rattle.liszt_tree.proofs.print.+statements.Given as goal

abbrev pub invariant-print_body-loop-statement : goal.invariant-print_body-loop-statement
invariant-print_body-loop-statement l = l.out ++ body_after l.depth (drop l.statement-index l.body) ≡ l.initial.out ++ body_after l.depth l.body
