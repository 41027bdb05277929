use Rattle.std.proofs.Common.{◌+◌, ◌*◌}
use Rattle.field_words.proofs.tests.+fill+fn-fill-join_mut+arg3.Given as goal

abbrev pub decreases-fill : goal.decreases-fill
decreases-fill g l = l.workers * 2 + 1

abbrev pub decreases-join_mut+arg3 : goal.decreases-join_mut+arg3
decreases-join_mut+arg3 g l = l.workers * 2
