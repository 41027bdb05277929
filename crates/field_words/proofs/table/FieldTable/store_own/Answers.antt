use Rattle.std.proofs.Common.{◌≡◌, ap, ◌∙◌, subst, ◌<◌, Some}
use Rattle.field_words.specs.Maps.{value_in}
use Rattle.field_words.proofs.MapLemmas.{value_of_occurrence}
use Rattle.field_words.proofs.SeatLemmas.{same_table}
use Rattle.field_words.proofs.StepLemmas.{store_own_keeps}
use Rattle.field_words.proofs.table.FieldTable.store_own.Goals as goal

pub store-requires : goal.store-requires
store-requires c =
    let same = same_table c.s.view_is c.requires.table c.self.view_is in
    let held = value_of_occurrence c.args.s.now.own c.args.w c.requires.own in
    let here : value_in c.s.inside.seat.me.0.own c.args.w ≡ Some held.0 = ap (λ h. value_in h.own c.args.w) c.s.view_is ∙ held.1 in (
      same,
      subst (λ t. c.args.w < t.words) same (c.s.invariant.1.own c.args.w held.0 here),
      store_own_keeps c.self.inside.table.shared.key c.self.inside.table.shared.table_id.slots c.s.inside.seat.id
          c.args.w c.word_of.result c.s.inside.seat.me held.0 here,
    )
