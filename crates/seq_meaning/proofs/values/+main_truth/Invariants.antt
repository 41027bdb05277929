use Rattle.std.proofs.Common.{◌≡◌, map, drop}
use Rattle.seq_meaning.specs.MainValues.{truth_operand, truth_rest}
use Rattle.seq_meaning.proofs.values.+main_truth.Given as goal

abbrev pub invariant-truth_chain-loop-link : goal.invariant-truth_chain-loop-link
invariant-truth_chain-loop-link l =
    truth_rest l.b (map (truth_operand l.scalars) (drop l.link-index l.rest)) ≡ truth_rest l.fn.first (map (truth_operand l.scalars) l.rest)
