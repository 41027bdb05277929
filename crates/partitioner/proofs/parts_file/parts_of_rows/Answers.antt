use Rattle.std.proofs.Common.{◌<◌, ◌+◌, length, subst, sym, ap, ◌∙◌, arith}
use Rattle.partitioner.specs.PartLists.{Parts}
use Rattle.partitioner.proofs.RowRankLemmas.{AreRead, read_more, read_fault, all_read}
use Rattle.partitioner.proofs.parts_file.parts_of_rows.Goals as goal

pub returns-in-Err : goal.returns-in-Err
returns-in-Err c =
    read_fault c.args.cells c.args.ranks c.args.rows.now.rows c.loop-index.parts.list c.loop-index.index c.in-Err.what c.line-line.result
    (omega (arith, c.loop-index-test.true, c.len-index-end.ensures)) c.loop-index.invariant.1 c.in-Err.ensures.rank c.line-line.ensures

pub loop-index-preserved : goal.loop-index-preserved
loop-index-preserved c =
    let pushed = c.in_ok-push-in-Ok.ensures.ok in
    let inside : c.loop-index.index < length c.args.rows.now.rows = omega (arith, c.loop-index-test.true, c.len-index-end.ensures) in (
      ap (λ (p : Parts). p.ranks) pushed ∙ c.loop-index.invariant.0,
      subst (λ l. AreRead c.args.cells c.args.ranks c.args.rows.now.rows l (c.loop-index.index + 1)) (sym (ap (λ (p : Parts). p.list) pushed))
          (read_more c.args.cells c.args.ranks c.args.rows.now.rows c.loop-index.parts.list c.loop-index.index c.in-Ok.rank inside c.loop-index.invariant.1 c.in-Ok.ensures.rank),
    )

pub returns : goal.returns
returns c =
    all_read c.args.cells c.args.ranks c.args.rows.now.rows c.loop-index.parts c.loop-index.index
    (omega (arith, c.loop-index-test.false, c.len-index-end.ensures)) c.loop-index.invariant.0 c.loop-index.invariant.1
