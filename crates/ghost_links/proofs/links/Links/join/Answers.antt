use Rattle.ghost_links.proofs.SeatLemmas.{called, same_table, some_word}
use Rattle.ghost_links.proofs.StepLemmas.{join_keeps}
use Rattle.ghost_links.proofs.links.Links.join.Goals as goal

pub join_seat-requires : goal.join_seat-requires
join_seat-requires c =
    let me = c.s.inside.seat.me in
    let here = called me.0 c.s.view_is c.requires.links.0 c.self.view_is c.self.invariant c.s.invariant.1 in (
      same_table me.0 c.s.view_is c.requires.links.0 c.self.view_is,
      same_table c.other.inside.seat.me.0 c.other.view_is c.requires.links.1 c.self.view_is,
      c.other.invariant.0,
      some_word me.0 here,
      join_keeps c.self.inside.table.shared.key c.s.inside.seat.id me.0 c.other.inside.seat.id c.other.inside.seat.me.0
          c.s.invariant.1 c.other.invariant.1,
    )
