use Rattle.liszt_parser.proofs.NodeCountLemmas.{nodes_within}
use Rattle.liszt_parser.proofs.laws.few_nodes.Goals as goal

pub returns : goal.returns
returns c = nodes_within
