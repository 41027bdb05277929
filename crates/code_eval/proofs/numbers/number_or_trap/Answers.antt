use Rattle.std.proofs.Common.{arith, refl}
use Rattle.std.proofs.Common.{rules}
use mir.Val.{SFits}
use mir.Syntax.{w64}
use Rattle.code_eval.proofs.LeadingLemmas.{at_once, changed, number_given}
use Rattle.code_eval.proofs.numbers.number_or_trap.Goals as goal

pub returns-in-Ok : goal.returns-in-Ok
returns-in-Ok c s =
    let fits : SFits w64 c.in-Ok.n = search rules in
    rw c.in-Ok.is (number_given fits (at_once (λ view. refl)))

pub returns-in-Err : goal.returns-in-Err
returns-in-Err c s = rw (c.in-Err.is, c.stop.ensures) (changed (omega arith) (λ view. refl))
