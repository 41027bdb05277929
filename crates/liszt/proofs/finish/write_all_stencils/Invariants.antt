use Rattle.std.proofs.Common.{◌≡◌}
use Rattle.liszt.specs.Internal.Steps.{stencil_outcome}
use Rattle.liszt.proofs.InferenceLemmas.{stencils_after}
use Rattle.liszt_report.proofs.WrittenLemmas.{HasTaken}
use Rattle.liszt.proofs.finish.write_all_stencils.Given as goal

abbrev pub invariant-loop-k : goal.invariant-loop-k
invariant-loop-k g l =
    HasTaken (stencil_outcome l.fn.job).text (stencils_after l.fn.job.checked l.fn.job.stencils l.k) (g.S.Sink.output l.initial.out) (g.S.Sink.output l.out)
    × (g.S.Sink.faults l.out ≡ g.S.Sink.faults l.initial.out)
