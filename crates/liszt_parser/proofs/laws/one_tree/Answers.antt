use Rattle.liszt_parser.proofs.OneTree.{one_tree_derived}
use Rattle.liszt_parser.proofs.laws.one_tree.Goals as goal

pub returns : goal.returns
returns c = one_tree_derived
