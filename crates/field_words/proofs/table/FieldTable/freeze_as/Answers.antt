use Rattle.std.proofs.Common.{◌≡◌, ap, ◌∙◌, arith}
use Rattle.field_words.specs.Views.{full_share}
use Rattle.field_words.proofs.SeatLemmas.{same_table, seat_invariant, seat_frozen}
use Rattle.field_words.proofs.StepLemmas.{freeze_keeps}
use Rattle.field_words.proofs.table.FieldTable.freeze_as.Goals as goal

pub load-requires : goal.load-requires
load-requires g c =
    let same = same_table c.s.view_is c.requires.table c.self.view_is in
    let share : c.s.inside.seat.me.0.share ≡ full_share = ap (λ h. h.share) c.s.view_is ∙ c.requires.full_share in (
      same,
      omega (arith, c.self.invariant),
      freeze_keeps c.self.inside.table.shared.key c.self.inside.table.shared.table_id.slots c.s.inside.seat.id g.A.Span.first g.A.Span.count
          c.s.inside.seat.me share,
    )

pub invariant_of-s : goal.invariant_of-s
invariant_of-s g c =
    seat_invariant c.s.inside.seat.table_id c.load.new.seat.table_id c.load.new.seat.me _ _ c.load.ensures.0 c.load.ensures.2 c.s.invariant.0
    (seat_frozen c.s.inside.seat.table_id.words g.A.Span.first g.A.Span.count c.s.inside.seat.me.0 c.s.invariant.1)
