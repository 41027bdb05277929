use Rattle.ghost_links.proofs.SeatLemmas.{called, load_to_post_keeps, same_table, turn_inside}
use Rattle.ghost_links.proofs.links.Links.load_to_post.Goals as goal

pub load-requires : goal.load-requires
load-requires c =
    let me = c.s.inside.seat.me in
    let slots = c.self.inside.table.shared.table_id.slots in
    let here = called me.0 c.s.view_is c.requires.links c.self.view_is c.self.invariant c.s.invariant.1 in (
      same_table me.0 c.s.view_is c.requires.links c.self.view_is,
      turn_inside me.0 here c.args.link c.requires.link,
      load_to_post_keeps me here slots c.s.inside.seat.id c.args.link c.requires.link c.requires.end c.requires.packet,
    )
