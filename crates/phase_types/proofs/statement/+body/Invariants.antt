use Rattle.std.proofs.Common.{◌≡◌, drop, ◌++◌, []}
use Rattle.phase_types.specs.Resolve.{Names}
use Rattle.phase_types.proofs.LoopLemmas.{statements_after}
use Rattle.phase_types.proofs.statement.+body.Given as goal

abbrev pub invariant-resolve_body-loop-s : goal.invariant-resolve_body-loop-s
invariant-resolve_body-loop-s l =
    (statements_after l.names l.frame l.done (drop l.s-index l.body) ≡ statements_after l.fn.names l.fn.frame [] l.fn.body)
    × ((rest : Names) × (l.names ≡ l.fn.names ++ rest))
