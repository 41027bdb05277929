use Rattle.std.specs.Option.{option_to_list}
use Rattle.topo_operators.proofs.FaceCycleLemmas.{first_side}
use Rattle.topo_operators.proofs.sets.cycle_of.Goals as goal

pub cell_corners-requires : goal.cell_corners-requires
cell_corners-requires c = first_side c.args.m.now c.args.face.id c.face_cells-side.result.0 (option_to_list c.face_cells-side.result.1) c.face_cells-side.ensures
