use Rattle.std.proofs.Common.{◌≡◌, ◌+◌, ◌<◌, sym, ap, ◌∙◌, subst, arith}
use Rattle.ghost_links.specs.Layouts.{Layout, first_word}
use Rattle.ghost_links.specs.Ends.{sending_end}
use Rattle.ghost_links.proofs.SeatLemmas.{called, data_inside, data_place, few_words, same_table, store_data_at}
use Rattle.ghost_links.proofs.links.Links.store_data_as.Goals as goal

pub overflow_add-index : goal.overflow_add-index
overflow_add-index g c =
    let me = c.s.inside.seat.me in
    let slots = c.self.inside.table.shared.table_id.slots in
    let here = called me.0 c.s.view_is c.requires.links c.self.view_is c.self.invariant c.s.invariant.1 in
    let at : c.first.result + c.args.place ≡ first_word c.self.inside.table.shared.key c.args.link + c.args.place =
    ap (λ k. k + c.args.place) (c.first.ensures ∙ ap (λ (l : Layout). first_word l c.args.link) (sym c.self.invariant.1)) in
    let place = data_place c.args.s.now c.args.link (sending_end c.args.link) c.args.place c.args.word c.requires.word in
    let inside = data_inside me.0 here c.args.link (sending_end c.args.link) c.args.place c.requires.link place in
    let few = few_words me.0 here in omega arith

pub store-requires : goal.store-requires
store-requires g c =
    let me = c.s.inside.seat.me in
    let slots = c.self.inside.table.shared.table_id.slots in
    let here = called me.0 c.s.view_is c.requires.links c.self.view_is c.self.invariant c.s.invariant.1 in
    let at : c.first.result + c.args.place ≡ first_word c.self.inside.table.shared.key c.args.link + c.args.place =
    ap (λ k. k + c.args.place) (c.first.ensures ∙ ap (λ (l : Layout). first_word l c.args.link) (sym c.self.invariant.1)) in
    let place = data_place c.args.s.now c.args.link (sending_end c.args.link) c.args.place c.args.word c.requires.word in (
      same_table me.0 c.s.view_is c.requires.links c.self.view_is,
      subst (λ i. i < c.self.inside.table.shared.table_id.words) (sym at)
          (data_inside me.0 here c.args.link (sending_end c.args.link) c.args.place c.requires.link place),
      store_data_at me here slots c.s.inside.seat.id c.args.link c.requires.link (c.first.result + c.args.place) c.args.place c.args.word
          g.A.DataPlace.link at c.requires.place c.requires.end c.requires.word,
    )
