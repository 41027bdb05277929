use Rattle.std.proofs.Common.{◌≡◌, ◌++◌, drop}
use Rattle.liszt_tree.proofs.ListPrintLemmas.{links_after}
use Rattle.liszt_tree.proofs.print_expression.+print.Given as goal

abbrev pub invariant-print_links-loop-link : goal.invariant-print_links-loop-link
invariant-print_links-loop-link l = l.out ++ links_after l.level (drop l.link-index l.links) ≡ l.initial.out ++ links_after l.level l.links
