use Rattle.std.proofs.Common.{refl}
use Rattle.seq_meaning.proofs.ComprehensionRunLemmas.{comprehension_below, comprehension_knows, has_begun, mode_is, scalars_held}
use Rattle.seq_meaning.proofs.sequential_run.run_comprehension.Goals as goal

pub begin-requires-clause-comprehension : goal.begin-requires-clause-comprehension
begin-requires-clause-comprehension c = comprehension_below c.args.c.now c.args.k c.requires.can.program c.requires.can.comprehension c.requires.can.is_checked c.requires.can.is

pub run_iterations-requires-clause-comprehension : goal.run_iterations-requires-clause-comprehension
run_iterations-requires-clause-comprehension c = comprehension_below c.args.c.now c.args.k c.requires.can.program c.requires.can.comprehension c.requires.can.is_checked c.requires.can.is

pub run_iterations-requires-clause-can : goal.run_iterations-requires-clause-can
run_iterations-requires-clause-can c = has_begun c.args.c.now c.args.k c.args.m.now c.args.store.now c.requires.can c.scalars.result.now c.begin.new.self.activation c.scalars.ensures c.begin.ensures.begun

pub returns-in-Done-clause-ran : goal.returns-in-Done-clause-ran
returns-in-Done-clause-ran c = λ can.
    let begun = has_begun c.args.c.now c.args.k c.args.m.now c.args.store.now can c.scalars.result.now c.begin.new.self.activation c.scalars.ensures c.begin.ensures.begun in
    let h = c.in-Done.ensures.ran begun in
    record {
      ended = h.ended;
      main = c.reduce_scalars.ensures.others;
      count = c.reduce_scalars.ensures.reduced.count;
      scalars = λ done. scalars_held c.args.c.now c.args.k can.comprehension (mode_is c.args.c.now c.args.k c.args.m.now c.args.turns c.begin.new.self.activation c.args.store.now.fields begun) can.state _
          c.run_iterations.new.locals.activation.partials c.args.store.now.main.scalars c.reduce_scalars.new.main.scalars (comprehension_knows c.args.m.now can.comprehension c.args.turns can.state)
          can.scalars h.reduced c.reduce_scalars.ensures.reduced;
      fields = λ done. h.fields;
    }

pub returns-in-Trap-clause-ran : goal.returns-in-Trap-clause-ran
returns-in-Trap-clause-ran c = λ can.
    let begun = has_begun c.args.c.now c.args.k c.args.m.now c.args.store.now can c.scalars.result.now c.begin.new.self.activation c.scalars.ensures c.begin.ensures.begun in
    let h = c.in-Trap.ensures.ran begun in
    record { ended = h.ended; main = refl; count = refl; scalars = λ done. absurd cc; fields = λ done. absurd cc }
