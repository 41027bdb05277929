use Rattle.std.proofs.Common.{rules, arith, refl}
use mir.Val.{SFits}
use mir.Syntax.{w64}
use Rattle.code_eval.proofs.LeadingLemmas.{at_once, changed, number_given}
use Rattle.code_eval.proofs.numbers.id_at.Goals as goal

pub returns-in-None : goal.returns-in-None
returns-in-None c s = rw (c.in-None.is, c.stop.ensures) (changed (omega arith) (λ view. refl))

pub returns-in-Some : goal.returns-in-Some
returns-in-Some c s =
    let fits : SFits w64 c.from.result = search rules in
    rw c.in-Some.is (number_given fits (at_once (λ view. rw c.from.ensures refl)))
