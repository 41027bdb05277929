use Rattle.std.proofs.Common.{refl, arith}
use Rattle.write_conflicts.specs.Internal.Cases.{at, writing_lists}
use Rattle.write_conflicts.specs.Conflicts.{Clash}
use Rattle.write_conflicts.proofs.cases.writes.Goals as goal

pub returns-clause-least_spot : goal.returns-clause-least_spot
returns-clause-least_spot c = λ h.
    let other : Clash writing_lists (at 0 4) 0 2 =
    record { different = λ e. absurd (omega arith); by_first = (1, omega arith, refl); by_second = (0, omega arith, refl) } in
    absurd (cc (h.least (at 0 4) 0 2 other))

pub returns-clause-least_iterations : goal.returns-clause-least_iterations
returns-clause-least_iterations c = λ h. absurd (grind (arith, h.two_least 2 (0, omega arith, refl)))
