use Rattle.liszt.proofs.OutcomeLemmas.{complete}
use Rattle.liszt.proofs.top.run_returning.Goals as goal

pub returns-clause-complete : goal.returns-clause-complete
returns-clause-complete g c files outcome h expected others sink =
    complete c.args.words.now files (g.F.Shelf.tally c.args.shelf.now) (g.F.Shelf.tally c.run.new.shelf) _ _ _ _ (g.S.Sink.output c.args.out.now) (g.S.Sink.output c.run.new.out)
    c.run.result outcome (c.run.ensures.answers files h) c.run.ensures.causes expected others sink
