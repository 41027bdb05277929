use Rattle.std.proofs.Common.{◌-◌}
use Rattle.seq_meaning.proofs.main_run.MainRun.+advance.Given as goal

abbrev pub decreases-advance : goal.decreases-advance
decreases-advance c = c.self.now.depth - c.level
