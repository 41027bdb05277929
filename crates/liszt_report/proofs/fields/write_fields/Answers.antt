use Rattle.std.proofs.Common.{◌≡◌, ◌+◌, ◌<◌, ◌∙◌, ℕ, IsSome, Some, List, arith, ap, sym, subst, slice_get, drop}
use Rattle.std.proofs.Math.ListN.{get_or}
use Rattle.std.proofs.lemmas.Option.{slice_get-get_or}
use Rattle.std.proofs.lemmas.Result.{err_from_is_err_and}
use Rattle.std.specs.Io.KnownBytes.{append_known}
use Rattle.liszt_io.specs.Sinks.{TakesPrefix}
use Rattle.mesh_topology.specs.Elements.{count}
use Rattle.liszt_report.specs.FieldValues.{value_at}
use Rattle.liszt_report.specs.Texts.{declared_text, fields_from, fields_text}
use Rattle.liszt_report.proofs.FieldLemmas.{declared_same, fields_next}
use Rattle.liszt_report.proofs.WrittenLemmas.{taken_more, taken_prefix, writes_fault}
use Rattle.liszt_report.proofs.fields.write_fields.Goals as goal

pub write_declared-requires : goal.write_declared-requires
write_declared-requires g c id outer below =
    let loop = c.loop-index in
    let fields = c.fields-fields.result.now in
    let info = get_or fields loop.index c.index-fields-index.result in
    let is = ap (λ list. slice_get list loop.index) (sym c.fields-fields.ensures) ∙ slice_get-get_or fields loop.index c.index-fields-index.result (omega arith) in
    let number : 6 + loop.index ≡ loop.index + 6 = omega arith in
    let same = ap (λ n. g.V.Values.values c.args.v.now n id) number ∙ sym (loop.invariant.2 (loop.index + 6) id) in
    subst IsSome same (c.requires loop.index id info is (ap (λ i. i.scope) (sym c.index-fields-index.is) ∙ outer) (subst (λ i. id < count c.args.m.now i.kind) c.index-fields-index.is below))

pub returns-in_err-write_declared-clause-writes : goal.returns-in_err-write_declared-clause-writes
returns-in_err-write_declared-clause-writes g c =
    let p = err_from_is_err_and c.from_residual.result c.from_residual.ensures.1 in
    let loop = c.loop-index in
    let list = c.fields-fields.result.now in
    let fields = c.args.c.now.fields in
    let info = c.index-fields-index.result in
    let is = ap (λ l. slice_get l loop.index) (sym c.fields-fields.ensures) ∙ slice_get-get_or list loop.index info (omega arith) ∙ ap Some (sym c.index-fields-index.is) in
    let kinds = count c.args.m.now in
    let value = value_at (g.V.Values.values c.args.v.now) in
    let same = declared_same kinds (g.V.Values.values loop.v) (g.V.Values.values c.args.v.now) (loop.index + 6) info loop.invariant.2 in
    let prefix = subst (λ (l : List ℕ). TakesPrefix (g.S.Sink.output loop.out) (g.S.Sink.output c.write_declared.new.out) l) same c.in_err-write_declared.ensures.writes in
    writes_fault (fields_text kinds value fields) _ _ _ c.from_residual.result p.1
    (taken_prefix (declared_text kinds value (loop.index + 6) info) (fields_from kinds value (6 + (loop.index + 1)) (drop (loop.index + 1) fields)) loop.invariant.0
    (fields_next kinds value fields loop.index info is) prefix)

pub loop-index-preserved : goal.loop-index-preserved
loop-index-preserved g c =
    let loop = c.loop-index in
    let list = c.fields-fields.result.now in
    let fields = c.args.c.now.fields in
    let info = c.index-fields-index.result in
    let is = ap (λ l. slice_get l loop.index) (sym c.fields-fields.ensures) ∙ slice_get-get_or list loop.index info (omega arith) ∙ ap Some (sym c.index-fields-index.is) in
    let kinds = count c.args.m.now in
    let value = value_at (g.V.Values.values c.args.v.now) in
    let same = declared_same kinds (g.V.Values.values loop.v) (g.V.Values.values c.args.v.now) (loop.index + 6) info loop.invariant.2 in
    let written = c.in_ok-write_declared.ensures.writes ∙ ap (append_known (g.S.Sink.output loop.out)) same in (
      taken_more (declared_text kinds value (loop.index + 6) info) (fields_from kinds value (6 + (loop.index + 1)) (drop (loop.index + 1) fields)) loop.invariant.0
          (fields_next kinds value fields loop.index info is) written,
      c.in_ok-write_declared.ensures.cause.kept ∙ loop.invariant.1,
      λ other id. c.in_ok-write_declared.ensures.unchanged other id ∙ loop.invariant.2 other id,
    )
