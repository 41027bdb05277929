use Rattle.std.proofs.Common.{◌-◌, ◌+◌, ◌∙◌, ℕ, ℤ, arith, ap, subst}
use Rattle.std.proofs.lemmas.Result.{err_from_is_err_and}
use Rattle.std.proofs.lemmas.Int.{to_z-of_z}
use mir.Syntax.{w64}
use Rattle.std.specs.List.{flat_map, range_with_len}
use Rattle.std.specs.Io.KnownBytes.{append_known}
use Rattle.liszt_io.specs.Sinks.{TakesPrefix}
use Rattle.liszt_report.specs.Endings.{field_text, value_line}
use Rattle.liszt_report.specs.FieldValues.{value_at}
use Rattle.liszt_report.proofs.FieldLemmas.{value_known}
use Rattle.liszt_report.proofs.WrittenLemmas.{range_next, taken_more, taken_prefix, writes_fault}
use Rattle.liszt_report.proofs.fields.write_field.Goals as goal

pub returns-in_err-write_value-clause-writes : goal.returns-in_err-write_value-clause-writes
returns-in_err-write_value-clause-writes g c =
    let p = err_from_is_err_and c.from_residual.result c.from_residual.ensures.1 in
    let loop = c.loop-id in
    let value : ℕ → ℤ = value_at (g.V.Values.values c.args.v.now) c.args.field in
    let line = λ (id : ℕ). value_line c.args.name.now id (value id) in
    let is = to_z-of_z w64 c.value-value.result (record { sfits = c.value-value.type_inv }) ∙ value_known (g.V.Values.values loop.v) (g.V.Values.values c.args.v.now) c.args.field loop.id c.value-value.result (loop.invariant.2 c.args.field loop.id) c.value-value.ensures.value in
    let prefix = subst (λ (v : ℤ). TakesPrefix (g.S.Sink.output loop.out) (g.S.Sink.output c.write_value.new.out) (value_line c.args.name.now loop.id v)) is c.in_err-write_value.ensures.writes in
    writes_fault (field_text c.args.name.now value c.args.count) _ _ _ c.from_residual.result p.1
    (taken_prefix (line loop.id) (flat_map line (range_with_len (loop.id + 1) (c.args.count - (loop.id + 1)))) loop.invariant.0 (range_next line loop.id c.args.count (omega arith)) prefix)

pub loop-id-preserved : goal.loop-id-preserved
loop-id-preserved g c =
    let loop = c.loop-id in
    let value : ℕ → ℤ = value_at (g.V.Values.values c.args.v.now) c.args.field in
    let line = λ (id : ℕ). value_line c.args.name.now id (value id) in
    let is = to_z-of_z w64 c.value-value.result (record { sfits = c.value-value.type_inv }) ∙ value_known (g.V.Values.values loop.v) (g.V.Values.values c.args.v.now) c.args.field loop.id c.value-value.result (loop.invariant.2 c.args.field loop.id) c.value-value.ensures.value in
    let written = c.in_ok-write_value.ensures.writes ∙ ap (λ (v : ℤ). append_known (g.S.Sink.output loop.out) (value_line c.args.name.now loop.id v)) is in (
      taken_more (line loop.id) (flat_map line (range_with_len (loop.id + 1) (c.args.count - (loop.id + 1)))) loop.invariant.0 (range_next line loop.id c.args.count (omega arith)) written,
      c.in_ok-write_value.ensures.cause.kept ∙ loop.invariant.1,
      λ other id. c.value-value.ensures.unchanged other id ∙ loop.invariant.2 other id,
    )
