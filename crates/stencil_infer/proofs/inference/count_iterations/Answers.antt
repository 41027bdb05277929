use Rattle.std.proofs.Common.{subst, arith}
use Rattle.stencil_infer.specs.Internal.CodeAccesses.{SlotsFit}
use Rattle.stencil_infer.proofs.InferLemmas.{count_step}
use Rattle.stencil_infer.proofs.inference.count_iterations.Goals as goal

pub loop-id-preserved : goal.loop-id-preserved
loop-id-preserved c = record {
  counts = count_step c.args.m.now c.args.code.now c.args.cap c.loop-id.counted c.count_body-counted.result c.loop-id.id c.loop-id.slots c.start.new.slots
      c.as_slice-in-loop-id.result.now (omega (arith, c.loop-id-test.true, c.count-id-end.ensures)) c.loop-id.invariant.fit.long c.start.ensures
      c.as_slice-in-loop-id.ensures c.count_body-counted.ensures.visits c.loop-id.invariant.counts;
  few = omega (arith, c.count_body-counted.ensures.visits);
  fit = subst (λ kinds. SlotsFit c.args.m.now kinds c.count_body-counted.new.slots) c.as_slice.ensures c.count_body-counted.ensures.fit;
}
