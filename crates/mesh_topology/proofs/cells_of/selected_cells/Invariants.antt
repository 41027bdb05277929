use Rattle.std.proofs.Common.{◌≡◌, map, take}
use Rattle.mesh_topology.specs.Internal.Incidence.{cells_with}
use Rattle.mesh_topology.proofs.cells_of.selected_cells.Given as goal

abbrev pub invariant-loop-pair : goal.invariant-loop-pair
invariant-loop-pair l = l.selections ≡ map (cells_with l.cells l.lists) (take l.pair-index l.pairs)
