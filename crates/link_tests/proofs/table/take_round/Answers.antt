use Rattle.std.proofs.Common.{rules, ◌+◌, ◌∙◌}
use Rattle.ghost_links.specs.Holdings.{HasLink, receiver}
use Rattle.link_tests.specs.Rounds.{all_at}
use Rattle.link_tests.proofs.RoundLemmas.{one_taken, script_kept}
use Rattle.link_tests.proofs.table.take_round.Goals as goal

pub loop-other-preserved : goal.loop-other-preserved
loop-other-preserved c =
    let t = c.args.links.now in
    let link : HasLink t c.loop-other.other c.args.rank = search rules in (
      script_kept t c.args.run.rounds (receiver t c.loop-other.other c.args.rank) 1 c.loop-other.s c.take_in_time.new.s
          c.loop-other.invariant.0 c.if-not-take_in_time.ensures.seat,
      one_taken t c.loop-other.s c.take_in_time.new.s c.args.rank c.args.round c.loop-other.other (all_at (c.args.round + 1)) link
          c.loop-other.invariant.1 c.if-not-take_in_time.ensures.seat,
      c.take_in_time.ensures.size ∙ c.loop-other.invariant.2,
    )
