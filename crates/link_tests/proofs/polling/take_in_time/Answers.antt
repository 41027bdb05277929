use Rattle.std.proofs.Common.{◌∙◌, ap}
use Rattle.ghost_links.specs.Packets.{PacketWords}
use Rattle.ghost_links.specs.Holdings.{link_of, receiver}
use Rattle.link_tests.proofs.PollLemmas.{one_more_take_try, taken_try}
use Rattle.link_tests.proofs.polling.take_in_time.Goals as goal

pub returns-in-Taken-clause-seat : goal.returns-in-Taken-clause-seat
returns-in-Taken-clause-seat c =
    taken_try (link_of c.args.links.now c.args.link.from c.args.link.to) (receiver c.args.links.now c.args.link.from c.args.link.to)
    c.args.s.now c.loop.s c.take.new.s c.loop.into c.take.new.into c.loop.invariant.0 c.in-Taken.ensures

pub loop-preserved : goal.loop-preserved
loop-preserved c = (
  one_more_take_try (link_of c.args.links.now c.args.link.from c.args.link.to) (receiver c.args.links.now c.args.link.from c.args.link.to) c.in-NotYet.word
      c.args.s.now c.loop.s c.take.new.s c.loop.into c.take.new.into c.loop.invariant.0 c.in-NotYet.ensures,
  ap (λ (p : PacketWords). p.size) c.in-NotYet.ensures.3 ∙ c.loop.invariant.1,
)
