use Rattle.write_conflicts.proofs.RowLemmas.{rows_ordered}
use Rattle.write_conflicts.proofs.clashes.sort_rows.Goals as goal

pub returns-clause-ordered : goal.returns-clause-ordered
returns-clause-ordered c = rows_ordered c.sort_unstable.new.self.items c.sort_unstable.ensures.sorted
