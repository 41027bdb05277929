use Rattle.std.proofs.Common.{map, drop}
use Rattle.code_eval.specs.Executions.{LeadsTo}
use Rattle.code_eval.specs.Meaning.{number_operand, number_rest}
use Rattle.code_eval.proofs.numbers.+number.Given as goal

abbrev pub invariant-chain-loop-link : goal.invariant-chain-loop-link
invariant-chain-loop-link g l =
    LeadsTo (number_rest l.fn.first (map (number_operand l.fn.m) l.rest)) l.fn.a (g.W.Words.store l.initial.w)
    (number_rest l.n (map (number_operand l.fn.m) (drop l.link-index l.rest))) l.a (g.W.Words.store l.w)
