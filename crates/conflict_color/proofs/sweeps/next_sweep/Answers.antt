use Rattle.std.proofs.Common.{◌+◌, ◌<◌, length, get_or, refl, subst, sym, arith}
use Rattle.conflict_color.proofs.SweepLemmas.{IsSwept, is_remaining, row_fits, swept_batch, swept_rest, swept_all}
use Rattle.conflict_color.proofs.sweeps.next_sweep.Goals as goal
use Rattle.conflict_color.proofs.sweeps.next_sweep.Goals.{then-are_free+in_ok-push, else-are_free+in_ok-push-2}

pub of-numbers-requires : goal.of-numbers-requires
of-numbers-requires c =
    (is_remaining c.args.touched.now c.args.colour c.args.remaining.now c.loop-iteration.iteration-index c.requires.remaining (omega arith)).0

pub are_free-requires : goal.are_free-requires
are_free-requires c =
    let m = c.loop-iteration.iteration-index in
    let inside = (is_remaining c.args.touched.now c.args.colour c.args.remaining.now m c.requires.remaining (omega arith)).0 in
    row_fits c.args.touched.now (length c.args.first_free.now) (length c.loop-iteration.first_free) (get_or c.args.remaining.now m 0)
    c.of-numbers.result.now c.requires.numbers inside c.of-numbers.ensures (omega arith)

pub fill_at-requires : goal.fill_at-requires
fill_at-requires c =
    let m = c.loop-iteration.iteration-index in
    let inside = (is_remaining c.args.touched.now c.args.colour c.args.remaining.now m c.requires.remaining (omega arith)).0 in
    row_fits c.args.touched.now (length c.args.first_free.now) (length c.loop-iteration.first_free) (get_or c.args.remaining.now m 0)
    c.of-numbers.result.now c.requires.numbers inside c.of-numbers.ensures (omega arith)

pub loop-iteration-preserved : goal.loop-iteration-preserved
loop-iteration-preserved c =
    let m = c.loop-iteration.iteration-index in
    let i = get_or c.args.remaining.now m 0 in
    let before : m < length c.args.remaining.now = omega arith in
    let inside = (is_remaining c.args.touched.now c.args.colour c.args.remaining.now m c.requires.remaining before).0 in
    let fits =
    row_fits c.args.touched.now (length c.args.first_free.now) (length c.loop-iteration.first_free) i
    c.of-numbers.result.now c.requires.numbers inside c.of-numbers.ensures (omega arith) in
    elim c.if-are_free.branch [
      | then-are_free+in_ok-push w ↦
          rw (w.first_free-is, w.batch-is, w.rest-is)
          (subst (λ l. IsSwept c.args.touched.now c.args.colour c.args.remaining.now (m + 1) w.fill_at.new.values l c.loop-iteration.rest.items)
          (sym w.in_ok-push.ensures.items)
          (swept_batch c.args.touched.now c.args.colour c.args.remaining.now m i c.of-numbers.result.now c.loop-iteration.first_free
          w.fill_at.new.values c.loop-iteration.batch.items c.loop-iteration.rest.items c.loop-iteration.invariant c.requires.remaining
          before refl c.of-numbers.ensures fits w.if-are_free.ensures w.fill_at.ensures (omega arith)))
      | else-are_free+in_ok-push-2 w ↦
          rw (w.first_free-is, w.batch-is, w.rest-is)
          (subst (λ l. IsSwept c.args.touched.now c.args.colour c.args.remaining.now (m + 1) c.loop-iteration.first_free c.loop-iteration.batch.items l)
          (sym w.in_ok-push-2.ensures.items)
          (swept_rest c.args.touched.now c.args.colour c.args.remaining.now m i c.of-numbers.result.now c.loop-iteration.first_free
          c.loop-iteration.batch.items c.loop-iteration.rest.items c.loop-iteration.invariant c.requires.remaining
          before refl c.of-numbers.ensures fits w.if-are_free.ensures))
    ]

pub returns-clause-batch : goal.returns-clause-batch
returns-clause-batch c =
    (swept_all c.args.touched.now c.args.colour c.args.remaining.now c.loop-iteration.iteration-index c.loop-iteration.first_free
    c.loop-iteration.batch.items c.loop-iteration.rest.items c.loop-iteration.invariant c.requires.remaining (omega arith)).0

pub returns-clause-rest : goal.returns-clause-rest
returns-clause-rest c =
    (swept_all c.args.touched.now c.args.colour c.args.remaining.now c.loop-iteration.iteration-index c.loop-iteration.first_free
    c.loop-iteration.batch.items c.loop-iteration.rest.items c.loop-iteration.invariant c.requires.remaining (omega arith)).1
