use Rattle.std.proofs.Common.{◌≡◌, ◌<◌, ◌∙◌, ℕ, List, [], ◌++◌, ◌∷◌, length, drop, ap, sym, subst, arith, cond}
use Rattle.std.specs.List.{range_with_len}
use Rattle.std.specs.Prelude.{slice_index}
use Rattle.std.proofs.lemmas.Bool.{eqb-true}
use Rattle.std.proofs.lemmas.List.{take_at}
use Rattle.liszt_base.specs.Corners.{is_in}
use Rattle.conflict_color.specs.Colours.{AreColours, number_of_colours}
use Rattle.conflict_color.proofs.AllSweepLemmas.{coloured_none, coloured_more, coloured_all, colour_below, at_most_the_iterations, batch_fits, batches_at}
use Rattle.conflict_color.proofs.LeastColourLemmas.{are_colours}
use Rattle.conflict_color.proofs.sweeps.colour.Goals as goal

pub loop-alloc-init : goal.loop-alloc-init
loop-alloc-init c =
    rw c.new-batches.ensures
    (coloured_none c.args.touched.now c.len.result c.number_bound.result c.in_ok-colours.colours.items c.in_ok-first_free.first_free.items
    c.in_ok-remaining.remaining.items c.len.ensures (c.in_ok-colours.ensures.items_if_clones_equal (λ y e. e))
    (c.in_ok-first_free.ensures.items_if_clones_equal (λ y e. e)) c.number_bound.ensures
    (c.in_ok-remaining.ensures ∙ ap (range_with_len 0) (c.len-2.ensures ∙ sym c.len.ensures)))

pub next_sweep-requires-clause-few : goal.next_sweep-requires-clause-few
next_sweep-requires-clause-few c =
    let lt = colour_below c.args.touched.now c.loop-alloc.colour c.loop-alloc.remaining.items c.loop-alloc.remaining.len
    c.loop-alloc.invariant.remaining_is c.loop-alloc.remaining.ok.0 (sym c.loop-alloc-test.ensures) in
    omega (arith, at_most_the_iterations c.args.touched.now, c.requires)

pub fill_at-requires : goal.fill_at-requires
fill_at-requires c =
    let size = c.loop-alloc.invariant.size in
    batch_fits c.args.touched.now c.loop-alloc.colour (length c.deref_mut-in-loop-alloc.result.now) c.deref-in-loop-alloc.result.now
    (c.deref-in-loop-alloc.ensures.value ∙ c.in_ok-batch.ensures.batch)
    (ap (λ (l : List ℕ). length l) c.deref_mut-in-loop-alloc.ensures.value ∙ size)

pub overflow_add-colour : goal.overflow_add-colour
overflow_add-colour c =
    let lt = colour_below c.args.touched.now c.loop-alloc.colour c.loop-alloc.remaining.items c.loop-alloc.remaining.len
    c.loop-alloc.invariant.remaining_is c.loop-alloc.remaining.ok.0 (sym c.loop-alloc-test.ensures) in
    omega (arith, at_most_the_iterations c.args.touched.now, c.requires)

pub loop-alloc-smaller : goal.loop-alloc-smaller
loop-alloc-smaller c =
    let lt = colour_below c.args.touched.now c.loop-alloc.colour c.loop-alloc.remaining.items c.loop-alloc.remaining.len
    c.loop-alloc.invariant.remaining_is c.loop-alloc.remaining.ok.0 (sym c.loop-alloc-test.ensures) in
    omega arith

pub loop-alloc-preserved : goal.loop-alloc-preserved
loop-alloc-preserved c =
    let lt = colour_below c.args.touched.now c.loop-alloc.colour c.loop-alloc.remaining.items c.loop-alloc.remaining.len
    c.loop-alloc.invariant.remaining_is c.loop-alloc.remaining.ok.0 (sym c.loop-alloc-test.ensures) in
    let colours_size : length c.fill_at.new.values ≡ c.loop-alloc.colours.len =
    omega (arith, c.deref_mut-in-loop-alloc.ensures.len, c.fill_at.auto.values) in
    let free_size : length c.next_sweep.new.first_free ≡ c.loop-alloc.first_free.len =
    omega (arith, c.deref_mut.ensures.len, c.next_sweep.auto.first_free) in
    let colours_is = take_at c.fill_at.new.values (drop (length c.fill_at.new.values) c.loop-alloc.colours.items) c.loop-alloc.colours.len colours_size in
    let free_is =
    take_at c.next_sweep.new.first_free (drop (length c.next_sweep.new.first_free) c.loop-alloc.first_free.items) c.loop-alloc.first_free.len free_size in
    let change =
    subst (λ (l : List ℕ). (i : ℕ) → i < length l
    → slice_index c.fill_at.new.values i ≡ cond (is_in c.deref-in-loop-alloc.result.now i) c.loop-alloc.colour (slice_index l i))
    c.deref_mut-in-loop-alloc.ensures.value c.fill_at.ensures in
    let pushed =
    c.in_ok-push.ensures.ok
    ∙ ap (λ b. c.loop-alloc.batches ++ b ∷ []) (c.deref-in-loop-alloc-2.ensures.value ∙ sym c.deref-in-loop-alloc.ensures.value) in
    rw (colours_is, free_is)
    (coloured_more c.args.touched.now c.loop-alloc.colour c.loop-alloc.colours.items c.fill_at.new.values c.loop-alloc.batches c.push.new.self
    c.loop-alloc.first_free.items c.next_sweep.new.first_free c.loop-alloc.remaining.items c.deref-in-loop-alloc.result.now c.in_ok-batch.field-0.rest.items
    c.loop-alloc.invariant lt (c.deref-in-loop-alloc.ensures.value ∙ c.in_ok-batch.ensures.batch) c.in_ok-batch.ensures.rest change (omega (arith, c.loop-alloc.colours.ok.0)) pushed
    (omega (arith, c.loop-alloc.first_free.ok.0)) c.in_ok-batch.ensures.free)

pub invariant_of-result : goal.invariant_of-result
invariant_of-result c =
    let size = c.loop-alloc.remaining.ok.0 in
    let none = eqb-true c.loop-alloc.remaining.len 0 (sym c.loop-alloc-test.ensures) in
    let h = coloured_all c.args.touched.now c.loop-alloc.colour c.loop-alloc.colours.items c.loop-alloc.batches c.loop-alloc.first_free.items
    c.loop-alloc.remaining.items c.loop-alloc.invariant (omega arith) in (
      omega (arith, ap number_of_colours h.0, at_most_the_iterations c.args.touched.now, c.requires),
      batches_at c.args.touched.now c.loop-alloc.colour c.loop-alloc.colours.items c.loop-alloc.batches h.0 h.1 c.loop-alloc.invariant.batches_are,
    )

pub returns : goal.returns
returns c =
    let size = c.loop-alloc.remaining.ok.0 in
    let none = eqb-true c.loop-alloc.remaining.len 0 (sym c.loop-alloc-test.ensures) in
    let h = coloured_all c.args.touched.now c.loop-alloc.colour c.loop-alloc.colours.items c.loop-alloc.batches c.loop-alloc.first_free.items
    c.loop-alloc.remaining.items c.loop-alloc.invariant (omega arith) in
    subst (AreColours c.args.touched.now) (sym h.0) (are_colours c.args.touched.now)
