use Rattle.liszt.proofs.MeshLemmas.{numberable}
use Rattle.liszt.proofs.inputs.read_ele_file.Goals as goal

pub returns-clause-numberable : goal.returns-clause-numberable
returns-clause-numberable g c = numberable c.args.points _ _ c.requires c.in_ok-read_cells.ensures.1
