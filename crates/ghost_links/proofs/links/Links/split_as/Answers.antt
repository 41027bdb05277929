use Rattle.ghost_links.proofs.SeatLemmas.{called, same_table, some_word}
use Rattle.ghost_links.proofs.StepLemmas.{split_keeps}
use Rattle.ghost_links.proofs.links.Links.split_as.Goals as goal

pub split_seat-requires : goal.split_seat-requires
split_seat-requires g c =
    let me = c.s.inside.seat.me in
    let here = called me.0 c.s.view_is c.requires.links c.self.view_is c.self.invariant c.s.invariant.1 in (
      same_table me.0 c.s.view_is c.requires.links c.self.view_is,
      some_word me.0 here,
      split_keeps c.self.inside.table.shared.key c.s.inside.seat.id me.0 g.A.HandedRank.rank c.s.invariant.1,
    )
