use Rattle.std.proofs.Common.{◌≡◌, map, drop}
use Rattle.seq_meaning.specs.MainValues.{number_operand, number_rest}
use Rattle.seq_meaning.proofs.values.+main_number.Given as goal

abbrev pub invariant-number_chain-loop-link : goal.invariant-number_chain-loop-link
invariant-number_chain-loop-link l =
    number_rest l.n (map (number_operand l.scalars) (drop l.link-index l.rest)) ≡ number_rest l.fn.first (map (number_operand l.scalars) l.rest)
