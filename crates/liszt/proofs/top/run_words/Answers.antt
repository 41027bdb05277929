use Rattle.std.proofs.Common.{subst, sym}
use Rattle.liszt.specs.Answers.{IsOutcome}
use Rattle.liszt.proofs.top.run_words.Goals as goal

pub returns-clause-complete : goal.returns-clause-complete
returns-clause-complete g c files outcome held expected others sink =
    subst (IsOutcome outcome (g.S.Sink.output c.args.out.now) (g.S.Sink.output c.run_returning.new.out)) (sym c.ended_in.ensures)
    (c.run_returning.ensures.complete files outcome held expected others sink)
