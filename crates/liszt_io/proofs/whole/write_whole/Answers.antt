use Rattle.std.proofs.Common.{take, drop, sym, ◌∙◌}
use Rattle.std.proofs.lemmas.List.{take-append-drop}
use Rattle.liszt_io.proofs.PieceLemmas.{output_after_piece}
use Rattle.liszt_io.proofs.whole.write_whole.Goals as goal

pub loop-done-preserved : goal.loop-done-preserved
loop-done-preserved g c =
    let loop = c.loop-done in
    let more = output_after_piece (g.S.Sink.output c.args.out.now) (g.S.Sink.output loop.out) (g.S.Sink.output c.write.new.self) c.args.bytes.now loop.done c.in-Ok.count loop.invariant.0 loop.invariant.1 c.in-Ok.ensures.takes in
    (more.0, more.1, c.in-Ok.ensures.cause.kept ∙ loop.invariant.2)

pub returns-in-Err-clause-writes : goal.returns-in-Err-clause-writes
returns-in-Err-clause-writes g c =
    record { prefix = take c.loop-done.done c.args.bytes.now; rest = drop c.loop-done.done c.args.bytes.now; parts = sym (take-append-drop c.loop-done.done c.args.bytes.now); output = c.in-Err.ensures.takes.0 ∙ c.loop-done.invariant.1 }
