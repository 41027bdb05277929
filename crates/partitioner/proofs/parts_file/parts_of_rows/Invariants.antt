use Rattle.std.proofs.Common.{◌≡◌}
use Rattle.partitioner.proofs.RowRankLemmas.{AreRead}
use Rattle.partitioner.proofs.parts_file.parts_of_rows.Given as goal

abbrev pub invariant-loop-index : goal.invariant-loop-index
invariant-loop-index l =
    (l.parts.ranks ≡ l.ranks) × AreRead l.cells l.ranks l.rows.rows l.parts.list l.index
