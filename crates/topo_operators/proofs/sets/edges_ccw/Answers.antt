use Rattle.std.proofs.Common.{[], sym, ap, ◌∙◌, unwrap_or}
use Rattle.topo_operators.proofs.FaceCycleLemmas.{some_cycle, vertices_in}
use Rattle.topo_operators.proofs.sets.edges_ccw.Goals as goal

pub edges_along-requires : goal.edges_along-requires
edges_along-requires c = vertices_in c.args.m.now c.fits_together.ensures c.args.face c.requires.1 c.in-Some.cycle (sym (ap (λ r. unwrap_or r []) c.in-Some.is) ∙ c.cycle_of.ensures)

pub unreachable-requires : goal.unreachable-requires
unreachable-requires c = some_cycle c.args.m.now c.fits_together.ensures c.args.face c.requires.1 c.in-None.ensures
