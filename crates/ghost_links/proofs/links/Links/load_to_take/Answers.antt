use Rattle.ghost_links.proofs.SeatLemmas.{called, load_to_take_keeps, same_table, turn_bound, turn_inside}
use Rattle.ghost_links.specs.Ends.{receiving_end}
use Rattle.ghost_links.specs.Internal.Stages.{FindsTurn}
use Rattle.std.proofs.Common.{rules, ◌<◌, ◌^◌, arith}
use Rattle.ghost_links.proofs.links.Links.load_to_take.Goals as goal

pub load-requires : goal.load-requires
load-requires c =
    let me = c.s.inside.seat.me in
    let slots = c.self.inside.table.shared.table_id.slots in
    let here = called me.0 c.s.view_is c.requires.links c.self.view_is c.self.invariant c.s.invariant.1 in (
      same_table me.0 c.s.view_is c.requires.links c.self.view_is,
      turn_inside me.0 here c.args.link c.requires.link,
      load_to_take_keeps me here slots c.s.inside.seat.id c.args.link c.requires.link c.requires.end,
    )

pub returns-clause-bound : goal.returns-clause-bound
returns-clause-bound c =
    let me = c.s.inside.seat.me in
    let here = called me.0 c.s.view_is c.requires.links c.self.view_is c.self.invariant c.s.invariant.1 in
    let found : FindsTurn c.args.s.now c.args.link (receiving_end c.args.link) c.load.result = search rules in
    let fits : c.load.result < 2 ^ 64 = omega arith in
    turn_bound me.0 here c.args.link (receiving_end c.args.link) c.load.result c.requires.link fits found
