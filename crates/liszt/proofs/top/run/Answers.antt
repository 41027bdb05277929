use Rattle.liszt.proofs.StepLemmas.{job_answers, job_causes, job_end_no_usage, refusal_answers, wrote_job, wrote_refusal, causes_of}
use Rattle.liszt.proofs.top.run.Goals as goal

pub returns-in-Ok-clause-answers : goal.returns-in-Ok-clause-answers
returns-in-Ok-clause-answers g c files h =
    job_answers c.args.words.now files (g.F.Shelf.tally c.args.shelf.now) (g.F.Shelf.tally c.prepare.new.shelf) (g.F.Shelf.faults c.args.shelf.now) (g.F.Shelf.faults c.prepare.new.shelf)
    (g.S.Sink.output c.args.out.now) (g.S.Sink.output c.write_job.new.out) c.in-Ok.job c.write_job.result c.ending_of.result (c.in-Ok.ensures.answers files h) c.in-Ok.ensures.cause c.write_job.ensures.writes c.ending_of.ensures

pub returns-in-Ok-clause-wrote : goal.returns-in-Ok-clause-wrote
returns-in-Ok-clause-wrote g c =
    wrote_job c.args.words.now (g.S.Sink.output c.args.out.now) (g.S.Sink.output c.write_job.new.out) c.in-Ok.job c.write_job.result c.ending_of.result
    c.in-Ok.ensures.job c.write_job.ensures.writes c.ending_of.ensures

pub returns-in-Ok-clause-causes : goal.returns-in-Ok-clause-causes
returns-in-Ok-clause-causes g c =
    job_causes (g.F.Shelf.faults c.args.shelf.now) (g.F.Shelf.faults c.prepare.new.shelf) (g.S.Sink.faults c.args.out.now) (g.S.Sink.faults c.write_job.new.out)
    (g.S.Sink.output c.args.out.now) (g.S.Sink.output c.write_job.new.out) c.in-Ok.job c.write_job.result c.ending_of.result
    c.in-Ok.ensures.cause c.write_job.ensures.cause c.write_job.ensures.writes c.ending_of.ensures

pub returns-in-Ok-clause-only : goal.returns-in-Ok-clause-only
returns-in-Ok-clause-only g c usage =
    absurd (job_end_no_usage (g.S.Sink.output c.args.out.now) (g.S.Sink.output c.write_job.new.out) c.in-Ok.job c.write_job.result c.ending_of.result
    c.write_job.ensures.writes c.ending_of.ensures usage)

pub returns-in-Err-clause-answers : goal.returns-in-Err-clause-answers
returns-in-Err-clause-answers g c files h =
    refusal_answers c.args.words.now files (g.F.Shelf.tally c.args.shelf.now) (g.F.Shelf.tally c.prepare.new.shelf) (g.F.Shelf.faults c.args.shelf.now) (g.F.Shelf.faults c.prepare.new.shelf)
    (g.S.Sink.output c.args.out.now) (g.S.Sink.output c.write_refusal.new.out) c.in-Err.refusal c.write_refusal.result c.ended_by.result
    (c.in-Err.ensures.answers files h) c.in-Err.ensures.cause c.write_refusal.ensures.writes c.ended_by.ensures

pub returns-in-Err-clause-wrote : goal.returns-in-Err-clause-wrote
returns-in-Err-clause-wrote g c =
    wrote_refusal c.args.words.now (g.F.Shelf.faults c.args.shelf.now) (g.F.Shelf.faults c.prepare.new.shelf) (g.S.Sink.output c.args.out.now) (g.S.Sink.output c.write_refusal.new.out)
    c.in-Err.refusal c.write_refusal.result c.ended_by.result
    (λ none. let usage = (c.in-Err.ensures.usage none).0 in cc) c.in-Err.ensures.cause c.write_refusal.ensures.writes c.ended_by.ensures

pub returns-in-Err-clause-causes : goal.returns-in-Err-clause-causes
returns-in-Err-clause-causes g c =
    causes_of (g.F.Shelf.faults c.args.shelf.now) (g.F.Shelf.faults c.prepare.new.shelf) (g.S.Sink.faults c.args.out.now) (g.S.Sink.faults c.write_refusal.new.out)
    c.in-Err.refusal c.write_refusal.result c.ended_by.result c.in-Err.ensures.cause c.write_refusal.ensures.cause c.ended_by.ensures
