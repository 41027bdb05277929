use Rattle.std.proofs.Common.{◌<◌, ◌≤◌, List, [], ℕ, length, take, subst, sym, arith}
use Rattle.std.specs.List.{All}
use Rattle.std.proofs.lemmas.List.{take_all}
use Rattle.std.proofs.lemmas.List.Elements.{All-more, All-weaker}
use Rattle.std.proofs.lemmas.Option.{get_or_from_slice_get}
use Rattle.conflict_color.proofs.sweeps.number_bound.Goals as goal

pub loop-i-preserved : goal.loop-i-preserved
loop-i-preserved c =
    let bound = c.max-bound.result in
    let wider = λ (b : ℕ) (le : b ≤ bound) (xs : List ℕ). All-weaker (λ x. x < b) (λ x. x < bound) (λ x lt. omega arith) xs in
    let inside : c.loop-i.i < length c.args.touched.now = omega (arith, c.loop-i-test.true, c.len-i-end.ensures) in
    All-more (All (λ x. x < bound)) c.args.touched.now c.loop-i.i [] inside
    (All-weaker (All (λ x. x < c.loop-i.bound)) (All (λ x. x < bound)) (wider c.loop-i.bound (omega (arith, c.max-bound.ensures))) (take c.loop-i.i c.args.touched.now) c.loop-i.invariant)
    (subst (All (λ x. x < bound)) (sym (get_or_from_slice_get c.args.touched.now c.loop-i.i c.of.result.now [] c.of.ensures))
    (wider c.list_bound.result (omega (arith, c.max-bound.ensures)) c.of.result.now c.list_bound.ensures))

pub returns : goal.returns
returns c =
    subst (All (All (λ x. x < c.loop-i.bound)))
    (take_all c.loop-i.i c.args.touched.now (omega (arith, c.loop-i-test.false, c.len-i-end.ensures))) c.loop-i.invariant
