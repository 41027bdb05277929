use Rattle.std.proofs.Common.{ap, ◌∙◌}
use Rattle.topo_operators.specs.Operators.{inside}
use Rattle.topo_operators.proofs.SideSwapLemmas.{sides_swap}
use Rattle.topo_operators.proofs.operators.outside.Goals as goal

pub returns : goal.returns
returns c = c.inside.ensures ∙ (ap (inside c.args.m.now) c.flip.ensures ∙ sides_swap c.args.m.now c.args.x)
