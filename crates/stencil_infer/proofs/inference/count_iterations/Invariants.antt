use Rattle.std.proofs.Common.{◌≤◌}
use Rattle.stencil_infer.specs.Internal.CodeAccesses.{SlotsFit}
use Rattle.stencil_infer.proofs.InferLemmas.{Counted}
use Rattle.stencil_infer.proofs.inference.count_iterations.Given as goal

abbrev pub invariant-loop-id : goal.invariant-loop-id
invariant-loop-id l =
    record {
      counts : Counted l.m l.code l.counted l.id l.cap;
      few : l.counted ≤ l.cap;
      fit : SlotsFit l.m l.code.elements l.slots;
    }
