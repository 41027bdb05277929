use Rattle.std.proofs.Common.{◌≡◌, sym, ◌∙◌, subst, arith}
use Rattle.field_words.specs.Holdings.{IsSeat}
use Rattle.field_words.proofs.SeatLemmas.{same_table, seat_invariant, seat_joined}
use Rattle.field_words.proofs.StepLemmas.{join_keeps}
use Rattle.field_words.proofs.table.FieldTable.join.Goals as goal

pub join_seat-requires : goal.join_seat-requires
join_seat-requires c =
    let same = same_table c.s.view_is c.requires.table.0 c.self.view_is in
    let same_too = same_table c.other.view_is c.requires.table.1 c.self.view_is in (
      same,
      same_too,
      c.other.invariant.0,
      omega (arith, c.self.invariant),
      join_keeps c.self.inside.table.shared.key c.s.inside.seat.id c.s.inside.seat.me.0 c.other.inside.seat.id c.other.inside.seat.me.0
          c.s.invariant.1.share,
    )

pub invariant_of-s : goal.invariant_of-s
invariant_of-s c =
    let e = c.join_seat.ensures in
    let same : c.other.inside.seat.table_id ≡ c.s.inside.seat.table_id =
    same_table c.other.view_is c.requires.table.1 c.self.view_is ∙ sym (same_table c.s.view_is c.requires.table.0 c.self.view_is) in
    seat_invariant c.s.inside.seat.table_id c.join_seat.new.seat.table_id c.join_seat.new.seat.me _ _ e.0 e.2 c.s.invariant.0
    (seat_joined c.s.inside.seat.table_id.words c.s.inside.seat.me.0 c.other.inside.seat.me.0 c.s.invariant.1
    (subst (λ t. IsSeat t.words c.other.inside.seat.me.0) same c.other.invariant.1))
