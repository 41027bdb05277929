use Rattle.std.proofs.Common.{append_assoc, rules}
use Rattle.liszt_tree.proofs.LineLemmas.{repeat_more}
use Rattle.liszt_tree.proofs.print.print_blanks.Goals as goal

pub loop-preserved : goal.loop-preserved
loop-preserved c = search (rules, repeat_more, append_assoc)
