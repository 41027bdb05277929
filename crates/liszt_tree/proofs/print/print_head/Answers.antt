use Rattle.std.proofs.Common.{rules}
use Rattle.liszt_tree.proofs.LineLemmas.{line_steps}
use Rattle.liszt_tree.proofs.print.print_head.Goals as goal

pub returns : goal.returns
returns c = search (rules, line_steps)
