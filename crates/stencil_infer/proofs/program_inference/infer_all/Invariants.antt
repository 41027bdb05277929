use Rattle.std.proofs.Common.{◌≡◌, ◌≤◌, length}
use Rattle.liszt_base.specs.Limits.{kept_limit}
use Rattle.stencil_infer.proofs.ProgramInferenceLemmas.{IsInferred}
use Rattle.stencil_infer.proofs.program_inference.infer_all.Given as goal

abbrev pub invariant-loop-k : goal.invariant-loop-k
invariant-loop-k l =
    record {
      inferred : IsInferred l.fn.m l.fn.c l.k l.room l.all;
      within : l.room ≤ kept_limit;
      one_each : length l.all ≡ l.k;
    }
