use Rattle.std.proofs.Common.{◌<◌, ◌+◌, ◌++◌, Some, length, ap, sym, arith, slice_get, ◌∙◌}
use Rattle.std.proofs.lemmas.Option.{slice_get-get_or}
use Rattle.std.proofs.lemmas.Result.{err_from_is_err_and}
use Rattle.liszt_report.specs.Texts.{comprehension_stencils}
use Rattle.liszt_report.proofs.WrittenLemmas.{taken_more, taken_prefix, writes_fault}
use Rattle.liszt.specs.Internal.Steps.{stencil_outcome}
use Rattle.liszt.proofs.InferenceLemmas.{stencils_after, stencils_next}
use Rattle.liszt.proofs.finish.write_all_stencils.Goals as goal

pub returns-in_err-write_stencils-clause-writes : goal.returns-in_err-write_stencils-clause-writes
returns-in_err-write_stencils-clause-writes g c =
    let p = err_from_is_err_and c.from_residual.result c.from_residual.ensures.1 in
    let loop = c.loop-k in
    let job = c.args.job.now in
    let list = c.as_slice-stencils.result.now in
    let s = c.index-stencils-k.result in
    let below : loop.k < length list = omega (arith, c.loop-k-test.true, c.comps-k-end.ensures, job.one_each, ap (λ l. length l) c.as_slice-stencils.ensures) in
    let is = ap (λ l. slice_get l loop.k) (sym c.as_slice-stencils.ensures) ∙ slice_get-get_or list loop.k s below ∙ ap Some (sym c.index-stencils-k.is) in
    let rest = stencils_after job.checked job.stencils (loop.k + 1) in
    let next = stencils_next job.checked job.stencils loop.k s is ∙ ap (λ lists. comprehension_stencils job.checked loop.k lists ++ rest) (sym c.lists.ensures) in
    writes_fault (stencil_outcome job).text _ _ _ c.from_residual.result p.1
    (taken_prefix (comprehension_stencils job.checked loop.k c.lists.result.now) rest loop.invariant.0 next c.in_err-write_stencils.ensures.writes)

pub loop-k-preserved : goal.loop-k-preserved
loop-k-preserved g c =
    let loop = c.loop-k in
    let job = c.args.job.now in
    let list = c.as_slice-stencils.result.now in
    let s = c.index-stencils-k.result in
    let below : loop.k < length list = omega (arith, c.loop-k-test.true, c.comps-k-end.ensures, job.one_each, ap (λ l. length l) c.as_slice-stencils.ensures) in
    let is = ap (λ l. slice_get l loop.k) (sym c.as_slice-stencils.ensures) ∙ slice_get-get_or list loop.k s below ∙ ap Some (sym c.index-stencils-k.is) in
    let rest = stencils_after job.checked job.stencils (loop.k + 1) in
    let next = stencils_next job.checked job.stencils loop.k s is ∙ ap (λ lists. comprehension_stencils job.checked loop.k lists ++ rest) (sym c.lists.ensures) in (
      taken_more (comprehension_stencils job.checked loop.k c.lists.result.now) rest loop.invariant.0 next c.in_ok-write_stencils.ensures.writes,
      c.in_ok-write_stencils.ensures.cause.kept ∙ loop.invariant.1,
    )
