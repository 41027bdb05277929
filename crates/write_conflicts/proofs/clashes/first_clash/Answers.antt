use Rattle.std.proofs.Common.{length, map, sym, subst}
use Rattle.write_conflicts.specs.Internal.Rows.{writer_of, AreWriters}
use Rattle.write_conflicts.proofs.RowLemmas.{writers_moved}
use Rattle.write_conflicts.proofs.clashes.first_clash.Goals as goal

pub returns : goal.returns
returns c =
    let lists = c.args.lists.now in
    c.first_shared.ensures lists
    (subst (λ rows. AreWriters lists (length lists) (map writer_of rows)) (sym c.deref.ensures.value)
    (writers_moved lists (length lists) c.in_ok-rows.rows.items c.sort_rows.new.rows.items c.in_ok-rows.ensures c.sort_rows.ensures.permutes))
