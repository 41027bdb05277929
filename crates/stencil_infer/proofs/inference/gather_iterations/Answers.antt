use Rattle.std.proofs.Common.{◌<◌, ◌-◌, length, refl, sym, subst, arith}
use Rattle.liszt_base.specs.Limits.{entry_limit}
use Rattle.stencil_infer.specs.Internal.CodeAccesses.{SlotsFit}
use Rattle.stencil_infer.proofs.InferLemmas.{start_fits, is_stencil, is_overfull, gather_step, gather_full, entries_step}
use Rattle.stencil_infer.proofs.inference.gather_iterations.Goals as goal

pub gather_body-requires-clause-slots : goal.gather_body-requires-clause-slots
gather_body-requires-clause-slots c =
    subst (λ kinds. SlotsFit c.args.m.now kinds c.start.new.slots) (sym c.as_slice.ensures)
    (start_fits c.args.m.now c.args.code.now c.loop-id.slots c.start.new.slots c.loop-id.id c.requires.code c.loop-id.invariant.fit
    (omega (arith, c.loop-id-test.true, c.count-id-end.ensures)) c.start.ensures)

pub returns-in_default : goal.returns-in_default
returns-in_default c =
    gather_full c.args.m.now c.args.code.now entry_limit c.loop-id.room c.loop-id.id c.loop-id.lists (omega (arith, c.loop-id-test.true, c.count-id-end.ensures))
    c.loop-id.invariant.few c.loop-id.invariant.gathers
    (λ comprehension of.
    let more = is_overfull c.args.m.now c.args.code.now comprehension of c.loop-id.id c.loop-id.slots c.start.new.slots c.gather_body.new.slots c.as_slice-in-loop-id.result.now
    c.clear.new.self c.gather_body.new.set c.loop-id.invariant.fit.long c.start.ensures c.as_slice-in-loop-id.ensures c.clear.ensures c.in_ok-gather_body.ensures.gathered
    (c.in_default.ensures.none refl) in omega (arith, more, c.loop-id.invariant.few))

pub returns-then-stencil-room : goal.returns-then-stencil-room
returns-then-stencil-room c =
    gather_full c.args.m.now c.args.code.now entry_limit c.loop-id.room c.loop-id.id c.loop-id.lists (omega (arith, c.loop-id-test.true, c.count-id-end.ensures))
    c.loop-id.invariant.few c.loop-id.invariant.gathers
    (λ comprehension of.
    let is = is_stencil c.args.m.now c.args.code.now comprehension of c.loop-id.id c.loop-id.slots c.start.new.slots c.gather_body.new.slots c.as_slice-in-loop-id.result.now
    c.clear.new.self c.gather_body.new.set c.in-Some.stencil.now c.loop-id.invariant.fit.long c.start.ensures c.as_slice-in-loop-id.ensures c.clear.ensures
    c.in_ok-gather_body.ensures.gathered c.in-Some.ensures.some in subst (λ items. c.loop-id.room < length items) is c.if-stencil-room.true)

pub loop-id-preserved : goal.loop-id-preserved
loop-id-preserved c = record {
  gathers = gather_step c.args.m.now c.args.code.now c.loop-id.lists c.push.new.self c.in-Some.stencil.now c.loop-id.id
      (omega (arith, c.loop-id-test.true, c.count-id-end.ensures)) c.in_ok-push.ensures.ok
      (λ comprehension of.
      is_stencil c.args.m.now c.args.code.now comprehension of c.loop-id.id c.loop-id.slots c.start.new.slots c.gather_body.new.slots c.as_slice-in-loop-id.result.now
      c.clear.new.self c.gather_body.new.set c.in-Some.stencil.now c.loop-id.invariant.fit.long c.start.ensures c.as_slice-in-loop-id.ensures c.clear.ensures
      c.in_ok-gather_body.ensures.gathered c.in-Some.ensures.some) c.loop-id.invariant.gathers;
  few = entries_step c.loop-id.lists c.push.new.self c.in-Some.stencil.now c.loop-id.room (c.loop-id.room - length c.in-Some.stencil.now) entry_limit c.in_ok-push.ensures.ok
      c.loop-id.invariant.few c.if-stencil-room.false refl;
  fit = subst (λ kinds. SlotsFit c.args.m.now kinds c.gather_body.new.slots) c.as_slice.ensures c.in_ok-gather_body.ensures.fit;
}
