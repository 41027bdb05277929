use Rattle.std.proofs.Common.{List, ◌≡◌, ◌-◌, ◌+◌, ◌++◌, ◌∙◌, [], ap, sym, refl, arith, length}
use Rattle.std.proofs.lemmas.Result.{err_from_is_err_and}
use Rattle.std.specs.List.{flat_map, range_with_len}
use Rattle.std.specs.Prelude.{ℕ, unwrap_or}
use Rattle.liszt_report.specs.Texts.{comprehension_stencils, iteration_stencil, stencil_text, stencils_over}
use Rattle.liszt_report.proofs.WrittenLemmas.{range_next, taken_as, taken_more, taken_none, taken_prefix, writes_fault}
use Rattle.liszt_report.proofs.stencils.write_stencils.Goals as goal

pub loop-id-init : goal.loop-id-init
loop-id-init g c =
    let lists = c.args.s.now in
    let text = comprehension_stencils c.args.c.now c.args.k lists in
    let line = iteration_stencil c.args.c.now c.args.k c.comp_kind-over.result lists in
    let output = g.S.Sink.output c.args.out.now in
    let all : length lists ≡ length lists - 0 = omega arith in (
      taken_as text text (flat_map line (range_with_len 0 (length lists - 0))) output output (taken_none text output)
          (ap (stencils_over c.args.c.now c.args.k lists) c.comp_kind-over.ensures ∙ ap (λ n. flat_map line (range_with_len 0 n)) all),
      refl,
    )

pub returns-in_err-write_stencil-clause-writes : goal.returns-in_err-write_stencil-clause-writes
returns-in_err-write_stencil-clause-writes g c =
    let p = err_from_is_err_and c.from_residual.result c.from_residual.ensures.1 in
    let loop = c.loop-id in
    let lists = c.args.s.now in
    let line = iteration_stencil c.args.c.now c.args.k c.comp_kind-over.result lists in
    let rest = flat_map line (range_with_len (loop.id + 1) (length lists - (loop.id + 1))) in
    let piece = stencil_text c.args.c.now c.args.k c.comp_kind-over.result loop.id c.of.result.now in
    let same = ap (λ o. stencil_text c.args.c.now c.args.k c.comp_kind-over.result loop.id (unwrap_or o [])) c.of.ensures in
    writes_fault (comprehension_stencils c.args.c.now c.args.k lists) _ _ _ c.from_residual.result p.1
    (taken_prefix piece rest loop.invariant.0 (range_next line loop.id (length lists) (omega (arith, c.loop-id-test.true, c.len-id-end.ensures)) ∙ ap (λ (l : List ℕ). l ++ rest) same) c.in_err-write_stencil.ensures.writes)

pub loop-id-preserved : goal.loop-id-preserved
loop-id-preserved g c =
    let loop = c.loop-id in
    let lists = c.args.s.now in
    let line = iteration_stencil c.args.c.now c.args.k c.comp_kind-over.result lists in
    let rest = flat_map line (range_with_len (loop.id + 1) (length lists - (loop.id + 1))) in
    let piece = stencil_text c.args.c.now c.args.k c.comp_kind-over.result loop.id c.of.result.now in
    let same = ap (λ o. stencil_text c.args.c.now c.args.k c.comp_kind-over.result loop.id (unwrap_or o [])) c.of.ensures in (
      taken_more piece rest loop.invariant.0 (range_next line loop.id (length lists) (omega (arith, c.loop-id-test.true, c.len-id-end.ensures)) ∙ ap (λ (l : List ℕ). l ++ rest) same) c.in_ok-write_stencil.ensures.writes,
      c.in_ok-write_stencil.ensures.cause.kept ∙ loop.invariant.1,
    )
