use Rattle.std.proofs.Common.{map, drop}
use Rattle.code_eval.specs.Executions.{LeadsTo}
use Rattle.code_eval.specs.Meaning.{truth_operand, truth_rest}
use Rattle.code_eval.proofs.truths.+truth.Given as goal

abbrev pub invariant-chain-loop-link : goal.invariant-chain-loop-link
invariant-chain-loop-link g l =
    LeadsTo (truth_rest l.fn.first (map (truth_operand l.fn.m) l.rest)) l.fn.a (g.W.Words.store l.initial.w)
    (truth_rest l.b (map (truth_operand l.fn.m) (drop l.link-index l.rest))) l.a (g.W.Words.store l.w)
