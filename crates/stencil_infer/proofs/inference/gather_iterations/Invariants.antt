use Rattle.std.proofs.Common.{◌≡◌, ◌+◌}
use Rattle.liszt_base.specs.Limits.{entry_limit}
use Rattle.stencil_infer.specs.Stencils.{entries}
use Rattle.stencil_infer.specs.Internal.CodeAccesses.{SlotsFit}
use Rattle.stencil_infer.proofs.InferLemmas.{Gathered}
use Rattle.stencil_infer.proofs.inference.gather_iterations.Given as goal

abbrev pub invariant-loop-id : goal.invariant-loop-id
invariant-loop-id l =
    record {
      gathers : Gathered l.m l.code l.lists l.id;
      few : entries l.lists + l.room ≡ entry_limit;
      fit : SlotsFit l.m l.code.elements l.slots;
    }
