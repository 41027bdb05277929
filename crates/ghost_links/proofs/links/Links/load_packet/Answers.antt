use Rattle.std.proofs.Common.{◌+◌, ◌<◌, length, arith}
use Rattle.ghost_links.specs.Ends.{receiving_end}
use Rattle.ghost_links.proofs.StageLemmas.{length_after_set, loads_twice, one_more_loaded}
use Rattle.ghost_links.proofs.links.Links.load_packet.Goals as goal

pub loop-i-preserved : goal.loop-i-preserved
loop-i-preserved c =
    let inside : c.loop-i.i < length c.loop-i.into.words = let lt = c.loop-i-test.true in let e = c.loop-i.invariant.1 in omega arith in (
      loads_twice (c.loop-i.i + 1) 1 c.args.s.now c.loop-i.s c.load_data-in-loop-i.new.s c.loop-i.invariant.0 c.load_data-in-loop-i.ensures.seat,
      length_after_set c.loop-i.i c.load_data-in-loop-i.result c.used-i-end.result c.loop-i.into c.set.new.self c.loop-i.invariant.1 c.set.ensures,
      one_more_loaded c.args.link (receiving_end c.args.link) c.loop-i.i c.load_data-in-loop-i.result c.args.into.now.size (c.loop-i.i + 1)
          c.args.s.now c.loop-i.s c.loop-i.into c.set.new.self c.loop-i.invariant.2 inside c.loop-i.invariant.0 c.load_data-in-loop-i.ensures.word c.set.ensures,
    )
