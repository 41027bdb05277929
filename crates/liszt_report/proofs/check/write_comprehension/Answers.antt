use Rattle.std.proofs.Common.{◌+◌, ◌∙◌, arith, ap, length, refl}
use Rattle.std.proofs.lemmas.Result.{err_from_is_err_and}
use Rattle.liszt_report.specs.Texts.{comprehension_phases}
use Rattle.liszt_report.proofs.PhaseLemmas.{phases_fault, phases_first, phases_next}
use Rattle.liszt_report.proofs.WrittenLemmas.{writes_fault}
use Rattle.liszt_report.proofs.check.write_comprehension.Goals as goal

pub loop-place-init : goal.loop-place-init
loop-place-init g c =
    let fields = length c.fields.result.now + 6 in
    let end = fields + length c.scalars.result.now in
    let next = c.next_phase-place in (
      phases_first c.args.c.now c.args.comp fields end next.result _ (omega (arith, ap length c.fields.ensures)) (omega (arith, ap length c.scalars.ensures))
          next.ensures.end next.ensures.none,
      refl,
      next.ensures.end,
    )

pub returns-in_err-write_subject-clause-writes : goal.returns-in_err-write_subject-clause-writes
returns-in_err-write_subject-clause-writes g c =
    let p = err_from_is_err_and c.from_residual.result c.from_residual.ensures.1 in
    let fields = length c.fields.result.now + 6 in
    let end = fields + length c.scalars.result.now in
    writes_fault (comprehension_phases c.args.c.now c.args.comp) _ _ _ c.from_residual.result p.1
    (phases_fault c.args.c.now c.args.comp fields end c.loop-place.place c.subject_at.result _ _ _ c.loop-place.invariant.0 c.subject_at.ensures c.loop-place-test.true
    c.in_err-write_subject.ensures.writes)

pub loop-place-preserved : goal.loop-place-preserved
loop-place-preserved g c =
    let fields = length c.fields.result.now + 6 in
    let end = fields + length c.scalars.result.now in
    let next = c.next_phase-place-in-loop-place in (
      phases_next c.args.c.now c.args.comp fields end c.loop-place.place next.result c.subject_at.result _ _ _ c.loop-place.invariant.0 c.subject_at.ensures c.loop-place-test.true
          c.in_ok-write_subject.ensures.writes next.ensures.from next.ensures.end next.ensures.none,
      c.in_ok-write_subject.ensures.cause.kept ∙ c.loop-place.invariant.1,
      next.ensures.end,
    )
