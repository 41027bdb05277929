use Rattle.std.proofs.Common.{◌≡◌, ℕ, ◌+◌, drop}
use Rattle.mesh_topology.specs.Elements.{count}
use Rattle.liszt_report.specs.FieldValues.{value_at}
use Rattle.liszt_report.specs.Texts.{fields_from, fields_text}
use Rattle.liszt_report.proofs.WrittenLemmas.{HasTaken}
use Rattle.liszt_report.proofs.fields.write_fields.Given as goal

abbrev pub invariant-loop-index : goal.invariant-loop-index
invariant-loop-index g l =
    HasTaken (fields_text (count l.fn.m) (value_at (g.V.Values.values l.initial.v)) l.fn.c.fields)
    (fields_from (count l.fn.m) (value_at (g.V.Values.values l.initial.v)) (6 + l.index) (drop l.index l.fn.c.fields))
    (g.S.Sink.output l.initial.out) (g.S.Sink.output l.out)
    × (g.S.Sink.faults l.out ≡ g.S.Sink.faults l.initial.out)
    × ((other id : ℕ) → g.V.Values.values l.v other id ≡ g.V.Values.values l.initial.v other id)
