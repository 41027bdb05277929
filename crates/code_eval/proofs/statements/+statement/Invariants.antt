use Rattle.std.proofs.Common.{length, drop}
use Rattle.liszt_base.specs.declared.answers.TrapKind.TheVariants.{Spent}
use Rattle.code_eval.specs.Executions.{LeadsTo, for_each, trap}
use Rattle.code_eval.specs.Meaning.{body_execution, truth_execution, set_members, visit, visit_members}
use Rattle.code_eval.proofs.LoopLemmas.{IsBeforeTest}
use Rattle.code_eval.proofs.statements.+statement.Given as goal

abbrev pub invariant-run_body-loop-s : goal.invariant-run_body-loop-s
invariant-run_body-loop-s g l =
    LeadsTo (body_execution l.fn.m l.body) l.fn.a (g.W.Words.store l.initial.w) (body_execution l.fn.m (drop l.s-index l.body)) l.a (g.W.Words.store l.w)

abbrev pub invariant-run_loop-loop-is_true : goal.invariant-run_loop-loop-is_true
invariant-run_loop-loop-is_true g l =
    IsBeforeTest (trap Spent l.fn.place) (truth_execution l.fn.m l.fn.test) (body_execution l.fn.m l.fn.body) l.fn.a (g.W.Words.store l.initial.w) l.a (g.W.Words.store l.w)

abbrev pub decreases-run_loop-loop-is_true : goal.decreases-run_loop-loop-is_true
decreases-run_loop-loop-is_true g l = l.a.turns

abbrev pub invariant-visit-loop-member : goal.invariant-visit-loop-member
invariant-visit-loop-member g l =
    LeadsTo
    (visit_members l.fn.slot (body_execution l.fn.m l.fn.body) (set_members l.fn.m l.fn.set l.fn.x)) l.fn.a (g.W.Words.store l.initial.w)
    (for_each (visit l.fn.slot (body_execution l.fn.m l.fn.body)) l.xs) l.a (g.W.Words.store l.w)

abbrev pub decreases-visit-loop-member : goal.decreases-visit-loop-member
decreases-visit-loop-member g l = length l.xs
