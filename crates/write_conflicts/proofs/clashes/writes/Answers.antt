use Rattle.std.proofs.Common.{map}
use Rattle.write_conflicts.specs.Internal.Rows.{writer_of}
use Rattle.write_conflicts.proofs.RowLemmas.{writers_more}
use Rattle.write_conflicts.proofs.clashes.writes.Goals as goal

pub loop-i-preserved : goal.loop-i-preserved
loop-i-preserved c =
    writers_more c.args.lists.now c.loop-i.i c.of.result.now (map writer_of c.loop-i.rows.items) (map writer_of c.add_writes.new.rows.items)
    c.loop-i.invariant c.of.ensures c.in_ok-add_writes.ensures
