use Rattle.std.proofs.Common.{◌≡◌, drop}
use Rattle.std.specs.List.{flat_map}
use Rattle.liszt_report.specs.Texts.{number_line, prints_text}
use Rattle.liszt_report.proofs.WrittenLemmas.{HasTaken}
use Rattle.liszt_report.proofs.prints.write_prints.Given as goal

abbrev pub invariant-loop-index : goal.invariant-loop-index
invariant-loop-index g l =
    HasTaken (prints_text l.fn.prints) (flat_map number_line (drop l.index l.fn.prints)) (g.S.Sink.output l.initial.out) (g.S.Sink.output l.out)
    × (g.S.Sink.faults l.out ≡ g.S.Sink.faults l.initial.out)
