use Rattle.std.proofs.Common.{◌≡◌, drop}
use Rattle.std.specs.List.{flat_map}
use Rattle.liszt_report.specs.Texts.{access_line, stencil_text}
use Rattle.liszt_report.proofs.WrittenLemmas.{HasTaken}
use Rattle.liszt_report.proofs.stencils.write_stencil.Given as goal

abbrev pub invariant-loop-index : goal.invariant-loop-index
invariant-loop-index g l =
    HasTaken (stencil_text l.fn.c l.fn.k l.fn.over l.fn.id l.fn.accesses) (flat_map (access_line l.fn.c l.fn.k l.fn.over l.fn.id) (drop l.index l.fn.accesses))
    (g.S.Sink.output l.initial.out) (g.S.Sink.output l.out)
    × (g.S.Sink.faults l.out ≡ g.S.Sink.faults l.initial.out)
