use Rattle.mesh_topology.proofs.SearchLemmas.{found_at, none_at}
use Rattle.mesh_topology.proofs.corner_sets.index_of.Goals as goal

pub returns-in-Ok-clause-some : goal.returns-in-Ok-clause-some
returns-in-Ok-clause-some g c = found_at c.args.table.now c.args.set.now c.in-Ok.id c.in-Ok.ensures.bound c.in-Ok.ensures.ok

pub returns-in-Err-clause-none : goal.returns-in-Err-clause-none
returns-in-Err-clause-none g c = none_at c.args.table.now c.args.set.now c.in-Err.field-0 c.requires.ordered c.in-Err.ensures.position
