use Rattle.std.proofs.Common.{◌<◌, sym, subst, refl}
use Rattle.seq_meaning.specs.MainRuns.{MainRun}
use Rattle.seq_meaning.specs.RemainingEvents.{remaining_events}
use Rattle.std.proofs.Common.{rules}
use Rattle.std.proofs.lemmas.Int.{to_z-of_z}
use mir.Val.{SFits}
use mir.Syntax.{w64}
use Rattle.seq_meaning.proofs.FieldStoreLemmas.{spots_after_declaration}
use Rattle.seq_meaning.proofs.SequentialRunLemmas.{can_continue, can_run, comprehension_done, comprehension_trapped, field_declared, run_over, scope_closed, scope_opened, starts}
use Rattle.seq_meaning.proofs.sequential_run.run_seq.Goals as goal

pub events-init : goal.events-init
events-init c = (
  record { main = c.next.ensures.prepared (c.begin.ensures.prepared c.args.c.now c.requires.main); locals = c.requires.locals; fields = c.requires.fields },
  λ program is.
      starts c.args.c.now c.args.m.now c.args.turns program c.next.result c.next.new.self c.args.store.now.fields
      (c.next.ensures.opened c.args.m.now program c.args.turns c.fits_together.ensures is c.begin.ensures.begun (c.begin.ensures.prepared c.args.c.now c.requires.main)),
)

pub next-requires-in-events : goal.next-requires-in-events
next-requires-in-events c =
    can_continue c.args.c.now c.args.m.now c.args.turns c.is_checked.ensures.program.program c.events.store.main c.events.store.fields
    (c.events.invariant.1 c.is_checked.ensures.program.program c.is_checked.ensures.program.is)

pub returns-in-Over-clause-ran : goal.returns-in-Over-clause-ran
returns-in-Over-clause-ran c = λ program is.
    let r = c.events.invariant.1 program is in
    run_over c.args.c.now c.args.m.now c.args.turns program is c.fits_together.ensures c.events.store.main c.next-in-events.new.self c.events.store.fields r
    (record c.events.store { main = c.next-in-events.new.self }) refl refl c.in-Over.end (c.in-Over.ensures.continued c.args.m.now program c.args.turns r.progress r.at)

pub events-preserved-in-Declare : goal.events-preserved-in-Declare
events-preserved-in-Declare c =
    let fits : SFits w64 c.in-Declare.value = search rules in
    let values = rw (to_z-of_z w64 c.in-Declare.value fits) at c.declare.ensures.values in (
      record {
        main = c.in-Declare.ensures.prepared c.events.invariant.0.main;
        locals = c.events.invariant.0.locals;
        fields = spots_after_declaration c.args.c.now.fields c.args.m.now c.events.store.fields c.declare.new.self c.in-Declare.field c.in-Declare.value c.events.invariant.0.fields values;
      },
      λ program is.
          let r = c.events.invariant.1 program is in
          field_declared c.args.c.now c.args.m.now c.args.turns program is c.fits_together.ensures c.events.store.main c.next-in-events.new.self c.events.store.fields r c.in-Declare.field c.in-Declare.value
          c.declare.new.self (c.in-Declare.ensures.continued c.args.m.now program c.args.turns r.progress r.at) c.events.invariant.0.fields values,
    )

pub run_comprehension-requires-clause-can : goal.run_comprehension-requires-clause-can
run_comprehension-requires-clause-can c =
    let program = c.is_checked.ensures.program.program in
    let is = c.is_checked.ensures.program.is in
    let r = c.events.invariant.1 program is in
    can_run c.args.c.now c.args.m.now c.args.turns program is c.fits_together.ensures c.events.store.main c.next-in-events.new.self c.events.store.fields r c.in-Comp.k
    (c.in-Comp.ensures.continued c.args.m.now program c.args.turns r.progress r.at) (record c.events.store { main = c.next-in-events.new.self }) refl refl

pub returns-in-Trap-clause-ran : goal.returns-in-Trap-clause-ran
returns-in-Trap-clause-ran c = λ program is.
    let r = c.events.invariant.1 program is in
    let e = c.in-Comp.ensures.continued c.args.m.now program c.args.turns r.progress r.at in
    let before = record c.events.store { main = c.next-in-events.new.self } in
    comprehension_trapped c.args.c.now c.args.m.now c.args.turns program is c.fits_together.ensures c.events.store.main c.next-in-events.new.self c.events.store.fields r c.in-Comp.k e
    before c.run_comprehension.new.store refl c.in-Trap.trap
    (c.in-Trap.ensures.ran (can_run c.args.c.now c.args.m.now c.args.turns program is c.fits_together.ensures c.events.store.main c.next-in-events.new.self c.events.store.fields r c.in-Comp.k e before refl refl))

pub events-preserved-in-Done : goal.events-preserved-in-Done
events-preserved-in-Done c = (
  c.in-Done.ensures.prepared,
  λ program is.
      let r = c.events.invariant.1 program is in
      let e = c.in-Comp.ensures.continued c.args.m.now program c.args.turns r.progress r.at in
      let before = record c.events.store { main = c.next-in-events.new.self } in
      comprehension_done c.args.c.now c.args.m.now c.args.turns program is c.fits_together.ensures c.events.store.main c.next-in-events.new.self c.events.store.fields r c.in-Comp.k e
      before c.run_comprehension.new.store refl
      (c.in-Done.ensures.ran (can_run c.args.c.now c.args.m.now c.args.turns program is c.fits_together.ensures c.events.store.main c.next-in-events.new.self c.events.store.fields r c.in-Comp.k e before refl refl)),
)

pub events-preserved : goal.events-preserved
events-preserved c = (
  record { main = c.in-Leave.ensures.prepared c.events.invariant.0.main; locals = c.events.invariant.0.locals; fields = c.events.invariant.0.fields },
  λ program is.
      let r = c.events.invariant.1 program is in
      scope_closed c.args.c.now c.args.m.now c.args.turns program is c.fits_together.ensures c.events.store.main c.next-in-events.new.self c.events.store.fields r c.in-Leave._scope
      (c.in-Leave.ensures.continued c.args.m.now program c.args.turns r.progress r.at),
)

pub events-preserved-in-Enter-1 : goal.events-preserved-in-Enter-1
events-preserved-in-Enter-1 c = (
  record { main = c.in-Enter.ensures.prepared c.events.invariant.0.main; locals = c.events.invariant.0.locals; fields = c.events.invariant.0.fields },
  λ program is.
      let r = c.events.invariant.1 program is in
      scope_opened c.args.c.now c.args.m.now c.args.turns program is c.fits_together.ensures c.events.store.main c.next-in-events.new.self c.events.store.fields r c.in-Enter._scope
      (c.in-Enter.ensures.continued c.args.m.now program c.args.turns r.progress r.at),
)

pub events-smaller-in-Done : goal.events-smaller-in-Done
events-smaller-in-Done c =
    let program = c.is_checked.ensures.program.program in
    let is = c.is_checked.ensures.program.is in
    let r = c.events.invariant.1 program is in
    let e = c.in-Comp.ensures.continued c.args.m.now program c.args.turns r.progress r.at in
    let h = c.in-Done.ensures.ran (can_run c.args.c.now c.args.m.now c.args.turns program is c.fits_together.ensures c.events.store.main c.next-in-events.new.self c.events.store.fields r c.in-Comp.k e
    (record c.events.store { main = c.next-in-events.new.self }) refl refl) in
    subst (λ (main : MainRun). remaining_events c.args.c.now.items main < remaining_events c.args.c.now.items c.events.store.main) (sym h.main) c.in-Comp.ensures.fewer
