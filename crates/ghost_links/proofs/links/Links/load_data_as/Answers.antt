use Rattle.std.proofs.Common.{◌≡◌, ◌+◌, ◌<◌, sym, ap, ◌∙◌, subst, arith}
use Rattle.ghost_links.specs.Layouts.{Layout, first_word}
use Rattle.ghost_links.specs.Ends.{receiving_end}
use Rattle.ghost_links.proofs.SeatLemmas.{called, data_inside, few_words, load_data_at, loaded_word_at, next_fits, same_table}
use Rattle.ghost_links.proofs.links.Links.load_data_as.Goals as goal

pub overflow_add-index : goal.overflow_add-index
overflow_add-index g c =
    let me = c.s.inside.seat.me in
    let slots = c.self.inside.table.shared.table_id.slots in
    let here = called me.0 c.s.view_is c.requires.links c.self.view_is c.self.invariant c.s.invariant.1 in
    let at : c.first.result + c.args.place ≡ first_word c.self.inside.table.shared.key c.args.link + c.args.place =
    ap (λ k. k + c.args.place) (c.first.ensures ∙ ap (λ (l : Layout). first_word l c.args.link) (sym c.self.invariant.1)) in
    let inside = data_inside me.0 here c.args.link (receiving_end c.args.link) c.args.place c.requires.link c.requires.place in
    let few = few_words me.0 here in omega arith

pub load-requires : goal.load-requires
load-requires g c =
    let me = c.s.inside.seat.me in
    let slots = c.self.inside.table.shared.table_id.slots in
    let here = called me.0 c.s.view_is c.requires.links c.self.view_is c.self.invariant c.s.invariant.1 in
    let at : c.first.result + c.args.place ≡ first_word c.self.inside.table.shared.key c.args.link + c.args.place =
    ap (λ k. k + c.args.place) (c.first.ensures ∙ ap (λ (l : Layout). first_word l c.args.link) (sym c.self.invariant.1)) in (
      same_table me.0 c.s.view_is c.requires.links c.self.view_is,
      subst (λ i. i < c.self.inside.table.shared.table_id.words) (sym at)
          (data_inside me.0 here c.args.link (receiving_end c.args.link) c.args.place c.requires.link c.requires.place),
      load_data_at me here slots c.s.inside.seat.id c.args.link c.requires.link (c.first.result + c.args.place) c.args.place
          g.A.DataPlace.link g.A.DataPlace.place at c.requires.picked.0 c.requires.picked.1 c.requires.end c.requires.place,
    )

pub returns-clause-word : goal.returns-clause-word
returns-clause-word g c =
    let me = c.s.inside.seat.me in
    let slots = c.self.inside.table.shared.table_id.slots in
    let here = called me.0 c.s.view_is c.requires.links c.self.view_is c.self.invariant c.s.invariant.1 in
    loaded_word_at me here slots c.s.inside.seat.id c.args.link c.requires.link c.args.place c.load.result
    g.A.DataPlace.link g.A.DataPlace.place c.requires.picked.0 c.requires.picked.1 c.requires.end c.requires.place c.load.ensures.2.1

pub returns-clause-fits : goal.returns-clause-fits
returns-clause-fits g c =
    let me = c.s.inside.seat.me in
    let here = called me.0 c.s.view_is c.requires.links c.self.view_is c.self.invariant c.s.invariant.1 in
    next_fits me.0 here c.args.link (receiving_end c.args.link) c.requires.link
