use Rattle.std.proofs.Common.{arith, ◌≤◌, ◌<◌, ◌+◌, ◌≡◌, length, sym, ap, ◌∙◌, subst}
use Rattle.resolved_code.specs.declared.items.ItemCode.TheVariants as code
use Rattle.seq_meaning.specs.MainRuns.{deepest, nested}
use Rattle.seq_meaning.proofs.NestingLemmas.{nested_if, nested_if_alone, nested_while, room_for_one_more, room_for_both, room_for_one}
use Rattle.seq_meaning.proofs.main_run.+reserve.Goals as goal

pub reserve-loop-item-preserved : goal.reserve-loop-item-preserved
reserve-loop-item-preserved t c = (
  room_for_one_more c.args.items.now c.loop-item.item-index c.item-item.result c.args.level _ _ c.loop-item-test.true c.item-item.is c.loop-item.invariant.0 c.in_ok-reserve_inner.ensures.more
      (subst (λ inner. inner + nested c.item-item.result ≤ length c.reserve_inner.new.frames) c.in_ok-inner.ensures.next c.in_ok-reserve_inner.ensures.room),
  omega (arith, c.loop-item.invariant.1, c.in_ok-reserve_inner.ensures.more),
)

pub reserve_inner-returns-in_ok-reserve-in-If-2-clause-room : goal.reserve_inner-returns-in_ok-reserve-in-If-2-clause-room
reserve_inner-returns-in_ok-reserve-in-If-2-clause-room t c =
    let depth : nested c.args.item.now ≡ _ = ap nested (c.in-If.is ∙ ap (code.If c.in-If.test c.in-If.first) c.in-Some.is) ∙ nested_if c.in-If.test c.in-If.first c.in-Some.second in
    subst (λ n. c.args.level + n ≤ length c.reserve-in-Some.new.frames) (sym depth)
    (room_for_both (deepest c.in-If.first.items) (deepest c.in-Some.second.items) c.args.level _ _
    (subst (λ items. c.args.level + deepest items < length c.reserve.new.frames) c.as_slice.ensures c.in_ok-reserve-in-If.ensures.room) c.in_ok-reserve-in-If-2.ensures.more
    (subst (λ items. c.args.level + deepest items < length c.reserve-in-Some.new.frames) c.as_slice-in-Some.ensures c.in_ok-reserve-in-If-2.ensures.room))

pub reserve_inner-returns-in_default-second-clause-room : goal.reserve_inner-returns-in_default-second-clause-room
reserve_inner-returns-in_default-second-clause-room t c =
    let depth : nested c.args.item.now ≡ _ = ap nested (c.in-If.is ∙ ap (code.If c.in-If.test c.in-If.first) c.in_default-second.is) ∙ nested_if_alone c.in-If.test c.in-If.first in
    subst (λ n. c.args.level + n ≤ length c.reserve.new.frames) (sym depth)
    (room_for_one (deepest c.in-If.first.items) c.args.level _ (subst (λ items. c.args.level + deepest items < length c.reserve.new.frames) c.as_slice.ensures c.in_ok-reserve-in-If.ensures.room))

pub reserve_inner-returns-in_ok-reserve-in-While-clause-room : goal.reserve_inner-returns-in_ok-reserve-in-While-clause-room
reserve_inner-returns-in_ok-reserve-in-While-clause-room t c =
    let depth : nested c.args.item.now ≡ _ = ap nested c.in-While.is ∙ nested_while c.in-While.place c.in-While.test c.in-While.body in
    let room : c.args.level + deepest c.in-While.body.items < length c.reserve-in-While.new.frames = subst (λ items. c.args.level + deepest items < length c.reserve-in-While.new.frames) c.as_slice-in-While.ensures c.in_ok-reserve-in-While.ensures.room in
    subst (λ n. c.args.level + n ≤ length c.reserve-in-While.new.frames) (sym depth) (omega (arith, room))
