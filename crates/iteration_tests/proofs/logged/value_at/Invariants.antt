use Rattle.std.proofs.Common.{◌≡◌, drop}
use Rattle.iteration_tests.specs.Logs.{value_after_log, value_in_log}
use Rattle.iteration_tests.proofs.logged.value_at.Given as goal

abbrev pub invariant-loop-entry : goal.invariant-loop-entry
invariant-loop-entry l = value_after_log (drop l.entry-index l.log) l.spot l.value ≡ value_in_log l.log l.spot
