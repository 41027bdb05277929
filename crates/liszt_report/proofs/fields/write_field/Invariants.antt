use Rattle.std.proofs.Common.{◌≡◌, ℕ, ℤ, ◌-◌}
use Rattle.std.specs.List.{flat_map, range_with_len}
use Rattle.liszt_report.specs.Endings.{field_text, value_line}
use Rattle.liszt_report.specs.FieldValues.{value_at}
use Rattle.liszt_report.proofs.WrittenLemmas.{HasTaken}
use Rattle.liszt_report.proofs.fields.write_field.Given as goal

abbrev pub invariant-loop-id : goal.invariant-loop-id
invariant-loop-id g l =
    let value : ℕ → ℤ = value_at (g.V.Values.values l.initial.v) l.fn.field in
    HasTaken (field_text l.fn.name value l.fn.count) (flat_map (λ id. value_line l.fn.name id (value id)) (range_with_len l.id (l.fn.count - l.id))) (g.S.Sink.output l.initial.out) (g.S.Sink.output l.out)
    × (g.S.Sink.faults l.out ≡ g.S.Sink.faults l.initial.out)
    × ((other id : ℕ) → g.V.Values.values l.v other id ≡ g.V.Values.values l.initial.v other id)
