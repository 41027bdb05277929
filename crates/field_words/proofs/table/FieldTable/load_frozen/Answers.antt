use Rattle.std.proofs.Common.{◌≡◌, ap, ◌∙◌, subst, ◌<◌, Some}
use Rattle.field_words.specs.Maps.{value_in}
use Rattle.field_words.proofs.MapLemmas.{value_of_occurrence}
use Rattle.field_words.proofs.SeatLemmas.{same_table}
use Rattle.field_words.proofs.StepLemmas.{load_frozen_keeps}
use Rattle.field_words.proofs.table.FieldTable.load_frozen.Goals as goal

pub load-requires : goal.load-requires
load-requires c =
    let same = same_table c.s.view_is c.requires.table c.self.view_is in
    let held = value_of_occurrence c.args.s.now.frozen c.args.w c.requires.frozen in
    let here : value_in c.s.inside.seat.me.0.frozen c.args.w ≡ Some held.0 = ap (λ h. value_in h.frozen c.args.w) c.s.view_is ∙ held.1 in (
      same,
      subst (λ t. c.args.w < t.words) same (c.s.invariant.1.frozen c.args.w held.0 here),
      load_frozen_keeps c.self.inside.table.shared.key c.self.inside.table.shared.table_id.slots c.s.inside.seat.id
          c.args.w c.s.inside.seat.me held.0 c.s.invariant.1.share here,
    )
