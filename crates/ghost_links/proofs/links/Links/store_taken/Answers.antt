use Rattle.ghost_links.proofs.SeatLemmas.{called, same_table, store_taken_keeps, turn_inside}
use Rattle.ghost_links.proofs.links.Links.store_taken.Goals as goal

pub store-requires : goal.store-requires
store-requires c =
    let me = c.s.inside.seat.me in
    let slots = c.self.inside.table.shared.table_id.slots in
    let here = called me.0 c.s.view_is c.requires.links c.self.view_is c.self.invariant c.s.invariant.1 in (
      same_table me.0 c.s.view_is c.requires.links c.self.view_is,
      turn_inside me.0 here c.args.link c.requires.link,
      store_taken_keeps me here slots c.s.inside.seat.id c.args.link c.requires.link c.args.turn c.requires.end c.requires.turn,
    )
