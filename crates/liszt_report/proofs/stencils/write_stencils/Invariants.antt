use Rattle.std.proofs.Common.{◌≡◌, ◌-◌, length}
use Rattle.std.specs.List.{flat_map, range_with_len}
use Rattle.liszt_report.specs.Texts.{comprehension_stencils, iteration_stencil}
use Rattle.liszt_report.proofs.WrittenLemmas.{HasTaken}
use Rattle.liszt_report.proofs.stencils.write_stencils.Given as goal

abbrev pub invariant-loop-id : goal.invariant-loop-id
invariant-loop-id g l =
    HasTaken (comprehension_stencils l.fn.c l.fn.k l.fn.s) (flat_map (iteration_stencil l.fn.c l.fn.k l.over l.fn.s) (range_with_len l.id (length l.fn.s - l.id)))
    (g.S.Sink.output l.initial.out) (g.S.Sink.output l.out)
    × (g.S.Sink.faults l.out ≡ g.S.Sink.faults l.initial.out)
