use Rattle.std.proofs.Common.{◌≡◌, replicate}
use Rattle.link_tests.proofs.numbered.sizes_of.Given as goal

abbrev pub invariant-loop : goal.invariant-loop
invariant-loop l = l.sizes ≡ replicate l.counter l.row.items
