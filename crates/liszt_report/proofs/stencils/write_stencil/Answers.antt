use Rattle.std.proofs.Common.{◌∙◌, ◌+◌, drop}
use Rattle.std.proofs.lemmas.Result.{err_from_is_err_and}
use Rattle.std.specs.List.{flat_map}
use Rattle.liszt_report.specs.Texts.{access_line, stencil_text}
use Rattle.liszt_report.proofs.WrittenLemmas.{drop_next, taken_more, taken_prefix, writes_fault}
use Rattle.liszt_report.proofs.stencils.write_stencil.Goals as goal

pub returns-in_err-write_access-clause-writes : goal.returns-in_err-write_access-clause-writes
returns-in_err-write_access-clause-writes g c =
    let p = err_from_is_err_and c.from_residual.result c.from_residual.ensures.1 in
    let accesses = c.args.accesses.now in
    let line = access_line c.args.c.now c.args.k c.args.over c.args.id in
    let at = c.loop-index.index in
    writes_fault (stencil_text c.args.c.now c.args.k c.args.over c.args.id accesses) _ _ _ c.from_residual.result p.1
    (taken_prefix (line c.access_at.result) (flat_map line (drop (at + 1) accesses)) c.loop-index.invariant.0 (drop_next line accesses at c.access_at.result c.access_at.ensures) c.in_err-write_access.ensures.writes)

pub loop-index-preserved : goal.loop-index-preserved
loop-index-preserved g c =
    let accesses = c.args.accesses.now in
    let line = access_line c.args.c.now c.args.k c.args.over c.args.id in
    let at = c.loop-index.index in (
      taken_more (line c.access_at.result) (flat_map line (drop (at + 1) accesses)) c.loop-index.invariant.0 (drop_next line accesses at c.access_at.result c.access_at.ensures) c.in_ok-write_access.ensures.writes,
      c.in_ok-write_access.ensures.cause.kept ∙ c.loop-index.invariant.1,
    )
