use Rattle.seq_meaning.proofs.FieldStoreLemmas.{still_spots}
use Rattle.seq_meaning.proofs.ComprehensionRunLemmas.{all_iterated, beyond, can_iterate, iterated, iterating, partial_is_there, trapped_at, typed, within}
use Rattle.seq_meaning.proofs.sequential_run.run_iterations.Goals as goal

pub loop-id-init : goal.loop-id-init
loop-id-init c =
    (c.requires.prepared, λ can. iterating c.args.c.now c.args.k c.args.m.now c.args.turns c.args.locals.now.activation c.args.fields.now can c.requires.prepared, λ declared h. h)

pub run_iteration-requires-clause-can : goal.run_iteration-requires-clause-can
run_iteration-requires-clause-can c =
    can_iterate c.args.c.now c.args.k c.args.m.now c.args.turns c.args.locals.now.activation c.args.fields.now c.requires.can c.loop-id.id c.loop-id.locals.activation c.loop-id.fields
    (within c.args.c.now c.args.k c.args.m.now c.args.turns c.args.locals.now.activation c.args.fields.now c.requires.can c.comp_kind.result c.comp_kind.ensures c.count-id-end.result c.loop-id.id c.count-id-end.ensures c.loop-id-test.true)
    (c.loop-id.invariant.1 c.requires.can)

pub returns-in-Trap-clause-ran : goal.returns-in-Trap-clause-ran
returns-in-Trap-clause-ran c = λ can.
    let l = within c.args.c.now c.args.k c.args.m.now c.args.turns c.args.locals.now.activation c.args.fields.now can c.comp_kind.result c.comp_kind.ensures c.count-id-end.result c.loop-id.id c.count-id-end.ensures c.loop-id-test.true in
    let i = c.loop-id.invariant.1 can in
    trapped_at c.args.m.now can.comprehension c.args.turns (typed c.args.c.now c.args.k c.args.m.now c.args.turns c.args.locals.now.activation c.args.fields.now can) can.state c.loop-id.id
    c.loop-id.locals.activation c.run_iteration.new.l.activation c.loop-id.fields c.run_iteration.new.w i
    (partial_is_there c.args.c.now c.args.k c.args.m.now c.args.turns c.args.locals.now.activation c.args.fields.now can c.requires.prepared c.loop-id.locals.activation c.loop-id.invariant.0) l c.in-Trap.trap
    (c.in-Trap.ensures.iterated (can_iterate c.args.c.now c.args.k c.args.m.now c.args.turns c.args.locals.now.activation c.args.fields.now can c.loop-id.id c.loop-id.locals.activation c.loop-id.fields l i))

pub returns-in-Trap-clause-spots : goal.returns-in-Trap-clause-spots
returns-in-Trap-clause-spots c = λ declared h.
    still_spots declared c.args.m.now c.loop-id.fields c.run_iteration.new.w (c.loop-id.invariant.2 declared h)
    (c.run_iteration.ensures.iterated (can_iterate c.args.c.now c.args.k c.args.m.now c.args.turns c.args.locals.now.activation c.args.fields.now c.requires.can c.loop-id.id c.loop-id.locals.activation c.loop-id.fields
    (within c.args.c.now c.args.k c.args.m.now c.args.turns c.args.locals.now.activation c.args.fields.now c.requires.can c.comp_kind.result c.comp_kind.ensures c.count-id-end.result c.loop-id.id c.count-id-end.ensures c.loop-id-test.true) (c.loop-id.invariant.1 c.requires.can))).acted.spots

pub loop-id-preserved : goal.loop-id-preserved
loop-id-preserved c = (
  c.run_iteration.ensures.prepared,
  λ can.
      let l = within c.args.c.now c.args.k c.args.m.now c.args.turns c.args.locals.now.activation c.args.fields.now can c.comp_kind.result c.comp_kind.ensures c.count-id-end.result c.loop-id.id c.count-id-end.ensures c.loop-id-test.true in
      let i = c.loop-id.invariant.1 can in
      iterated c.args.m.now can.comprehension c.args.turns (typed c.args.c.now c.args.k c.args.m.now c.args.turns c.args.locals.now.activation c.args.fields.now can) can.state c.loop-id.id
      c.loop-id.locals.activation c.run_iteration.new.l.activation c.loop-id.fields c.run_iteration.new.w i
      (partial_is_there c.args.c.now c.args.k c.args.m.now c.args.turns c.args.locals.now.activation c.args.fields.now can c.requires.prepared c.loop-id.locals.activation c.loop-id.invariant.0) l
      (c.in-Done.ensures.iterated (can_iterate c.args.c.now c.args.k c.args.m.now c.args.turns c.args.locals.now.activation c.args.fields.now can c.loop-id.id c.loop-id.locals.activation c.loop-id.fields l i)),
  λ declared h.
      still_spots declared c.args.m.now c.loop-id.fields c.run_iteration.new.w (c.loop-id.invariant.2 declared h)
      (c.run_iteration.ensures.iterated (can_iterate c.args.c.now c.args.k c.args.m.now c.args.turns c.args.locals.now.activation c.args.fields.now c.requires.can c.loop-id.id c.loop-id.locals.activation c.loop-id.fields
      (within c.args.c.now c.args.k c.args.m.now c.args.turns c.args.locals.now.activation c.args.fields.now c.requires.can c.comp_kind.result c.comp_kind.ensures c.count-id-end.result c.loop-id.id c.count-id-end.ensures c.loop-id-test.true) (c.loop-id.invariant.1 c.requires.can))).acted.spots,
)

pub returns-clause-ran : goal.returns-clause-ran
returns-clause-ran c = λ can.
    all_iterated c.args.m.now can.comprehension c.args.turns (typed c.args.c.now c.args.k c.args.m.now c.args.turns c.args.locals.now.activation c.args.fields.now can) can.state c.loop-id.id
    c.loop-id.locals.activation c.loop-id.locals.activation c.loop-id.fields c.loop-id.fields (c.loop-id.invariant.1 can)
    (partial_is_there c.args.c.now c.args.k c.args.m.now c.args.turns c.args.locals.now.activation c.args.fields.now can c.requires.prepared c.loop-id.locals.activation c.loop-id.invariant.0)
    (beyond c.args.c.now c.args.k c.args.m.now c.args.turns c.args.locals.now.activation c.args.fields.now can c.comp_kind.result c.comp_kind.ensures c.count-id-end.result c.loop-id.id c.count-id-end.ensures c.loop-id-test.false)
