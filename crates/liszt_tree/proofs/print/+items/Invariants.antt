use Rattle.std.proofs.Common.{◌≡◌, ◌++◌, drop}
use Rattle.liszt_tree.proofs.ListPrintLemmas.{main_after}
use Rattle.liszt_tree.proofs.print.+items.Given as goal

abbrev pub invariant-print_main-loop-item : goal.invariant-print_main-loop-item
invariant-print_main-loop-item l = l.out ++ main_after l.depth (drop l.item-index l.items) ≡ l.initial.out ++ main_after l.depth l.items
