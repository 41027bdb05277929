use Rattle.std.proofs.Common.{◌+◌, ◌-◌, ◌*◌}
use Rattle.link_tests.proofs.table.+fn-run_ranks-join_mut+arg3+run_ranks.Given as goal

abbrev pub decreases-run_ranks : goal.decreases-run_ranks
decreases-run_ranks g l = (l.run.ranks - l.first) * 2 + 1

abbrev pub decreases-join_mut+arg3 : goal.decreases-join_mut+arg3
decreases-join_mut+arg3 g l = (l.run.ranks - l.first) * 2
