use Rattle.std.proofs.Common.{arith}
use Rattle.stencil_infer.proofs.ProgramInferenceLemmas.{has_room, less_room, no_room}
use Rattle.stencil_infer.proofs.program_inference.room_after.Goals as goal

pub returns-then-count-left : goal.returns-then-count-left
returns-then-count-left c =
    no_room c.args.lists.now c.args.room c.loop-id.left c.loop-id.id c.loop-id.invariant c.of-count.result.now c.of-count.ensures c.if-count-left.true

pub loop-id-preserved : goal.loop-id-preserved
loop-id-preserved c =
    less_room c.args.lists.now c.args.room c.loop-id.left c.loop-id.id c.loop-id.invariant c.of-count.result.now c.of-count.ensures c.if-count-left.false

pub returns : goal.returns
returns c =
    has_room c.args.lists.now c.args.room c.loop-id.left c.loop-id.id c.loop-id.invariant (omega (arith, c.loop-id-test.false, c.len-id-end.ensures))
