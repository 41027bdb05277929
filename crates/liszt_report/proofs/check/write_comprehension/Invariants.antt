use Rattle.std.proofs.Common.{◌≡◌, ◌-◌, ◌≤◌}
use Rattle.std.specs.List.{flat_map, range_with_len}
use Rattle.liszt_report.specs.Internal.Places.{subject_at}
use Rattle.liszt_report.specs.Texts.{comprehension_phases, subject_text}
use Rattle.liszt_report.proofs.WrittenLemmas.{HasTaken}
use Rattle.liszt_report.proofs.check.write_comprehension.Given as goal

abbrev pub invariant-loop-place : goal.invariant-loop-place
invariant-loop-place g l =
    HasTaken (comprehension_phases l.fn.c l.fn.comp)
    (flat_map (λ place. subject_text l.fn.c l.fn.comp (subject_at l.fields place)) (range_with_len l.place (l.end - l.place)))
    (g.S.Sink.output l.initial.out) (g.S.Sink.output l.out)
    × (g.S.Sink.faults l.out ≡ g.S.Sink.faults l.initial.out)
    × (l.place ≤ l.end)

abbrev pub decreases-loop-place : goal.decreases-loop-place
decreases-loop-place g l = l.end - l.place
