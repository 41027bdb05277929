use Rattle.std.proofs.Common.{◌++◌, refl}
use Rattle.std.proofs.lemmas.Result.{err_from_is_err_and}
use Rattle.liszt_report.proofs.WrittenLemmas.{taken_none, taken_more, taken_prefix, writes_fault, writes_last}
use Rattle.liszt_report.proofs.named.write_named.Goals as goal

pub returns-in_err-write_whole-clause-writes : goal.returns-in_err-write_whole-clause-writes
returns-in_err-write_whole-clause-writes g c =
    let p = err_from_is_err_and c.from_residual.result c.from_residual.ensures.1 in
    let text = c.args.head.now ++ (c.args.name.now ++ c.args.tail.now) in
    let start = taken_none text (g.S.Sink.output c.args.out.now) in
    writes_fault text _ _ _ c.from_residual.result p.1
    (taken_prefix c.args.head.now (c.args.name.now ++ c.args.tail.now) start refl c.in_err-write_whole.ensures.writes)

pub returns-in_err-write_whole-2-clause-writes : goal.returns-in_err-write_whole-2-clause-writes
returns-in_err-write_whole-2-clause-writes g c =
    let p = err_from_is_err_and c.from_residual-in_err-write_whole-2.result c.from_residual-in_err-write_whole-2.ensures.1 in
    let text = c.args.head.now ++ (c.args.name.now ++ c.args.tail.now) in
    let start = taken_none text (g.S.Sink.output c.args.out.now) in
    let head = taken_more c.args.head.now (c.args.name.now ++ c.args.tail.now) start refl c.in_ok-write_whole.ensures.writes in
    writes_fault text _ _ _ c.from_residual-in_err-write_whole-2.result p.1
    (taken_prefix c.args.name.now c.args.tail.now head refl c.in_err-write_whole-2.ensures.writes)

pub returns-clause-writes : goal.returns-clause-writes
returns-clause-writes g c =
    let text = c.args.head.now ++ (c.args.name.now ++ c.args.tail.now) in
    let start = taken_none text (g.S.Sink.output c.args.out.now) in
    let head = taken_more c.args.head.now (c.args.name.now ++ c.args.tail.now) start refl c.in_ok-write_whole.ensures.writes in
    let name = taken_more c.args.name.now c.args.tail.now head refl c.in_ok-write_whole-2.ensures.writes in
    writes_last text c.args.tail.now _ _ _ c.write_whole-3.result name c.write_whole-3.ensures.writes
