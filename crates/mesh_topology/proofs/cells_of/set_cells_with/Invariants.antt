use Rattle.std.proofs.Common.{◌≡◌, [], take, get_or, filter}
use Rattle.liszt_base.specs.Corners.{is_in}
use Rattle.mesh_topology.proofs.cells_of.set_cells_with.Given as goal

abbrev pub invariant-loop-id : goal.invariant-loop-id
invariant-loop-id l = l.selected.items ≡ filter (λ id. is_in (get_or l.cells id []) l.corner) (take l.id-index l.ids)
