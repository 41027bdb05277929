use Rattle.std.proofs.Common.{sym, subst, arith, ◌≤◌, [], refl}
use Rattle.field_words.proofs.SeatLemmas.{same_table, seat_invariant, seat_kept, seat_handed}
use Rattle.field_words.proofs.StepLemmas.{split_keeps}
use Rattle.field_words.proofs.table.FieldTable.split_as.Goals as goal

pub split_seat-requires : goal.split_seat-requires
split_seat-requires g c =
    let same = same_table c.s.view_is c.requires.table c.self.view_is in
    let enough : 2 ≤ c.s.inside.seat.me.0.share = subst (λ h. 2 ≤ h.share) (sym c.s.view_is) c.requires.share in (
      same,
      omega (arith, c.self.invariant),
      split_keeps c.self.inside.table.shared.key c.s.inside.seat.id c.s.inside.seat.me.0 g.A.HandedWords.words enough,
    )

pub invariant_of-s : goal.invariant_of-s
invariant_of-s g c =
    let e = c.split_seat.ensures in
    let enough : 2 ≤ c.s.inside.seat.me.0.share = subst (λ h. 2 ≤ h.share) (sym c.s.view_is) c.requires.share in
    seat_invariant c.s.inside.seat.table_id c.split_seat.new.seat.table_id c.split_seat.new.seat.me _ _ e.0 e.2 c.s.invariant.0
    (seat_kept c.s.inside.seat.table_id.words c.s.inside.seat.me.0 g.A.HandedWords.words enough c.s.invariant.1)

pub invariant_of-result : goal.invariant_of-result
invariant_of-result g c =
    let e = c.split_seat.ensures in
    seat_invariant c.s.inside.seat.table_id c.split_seat.result.table_id c.split_seat.result.me _ [] e.3 e.4 refl
    (seat_handed c.s.inside.seat.table_id.words c.s.inside.seat.me.0 g.A.HandedWords.words c.s.invariant.1)
