use Rattle.std.proofs.Common.{◌≡◌, ◌-◌, length}
use Rattle.std.specs.List.{flat_map, range_with_len}
use Rattle.liszt_report.specs.Texts.{comprehension_phases, phases_text}
use Rattle.liszt_report.proofs.WrittenLemmas.{HasTaken}
use Rattle.liszt_report.proofs.check.write_phases.Given as goal

abbrev pub invariant-loop-comp : goal.invariant-loop-comp
invariant-loop-comp g l =
    HasTaken (phases_text l.fn.c) (flat_map (comprehension_phases l.fn.c) (range_with_len l.comp (length l.fn.c.comprehensions - l.comp)))
    (g.S.Sink.output l.initial.out) (g.S.Sink.output l.out)
    × (g.S.Sink.faults l.out ≡ g.S.Sink.faults l.initial.out)
