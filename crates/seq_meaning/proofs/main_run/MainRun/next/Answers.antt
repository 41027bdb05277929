use Rattle.std.proofs.Common.{arith}
use Rattle.seq_meaning.proofs.MainHereLemmas.{stands_below}
use Rattle.seq_meaning.proofs.MainStartLemmas.{has_frames, opened, opened_fewer, opened_shape, still_prepared}
use Rattle.seq_meaning.proofs.main_run.MainRun.next.Goals as goal

pub returns-then-self-eq0-clause-opened : goal.returns-then-self-eq0-clause-opened
returns-then-self-eq0-clause-opened c = λ mesh program turns is_mesh is begun prepared.
    opened mesh program turns c.args.c.now c.args.self.now c.open.new.self is_mesh is begun prepared c.open.ensures

pub returns-then-self-eq0-clause-continued : goal.returns-then-self-eq0-clause-continued
returns-then-self-eq0-clause-continued c = λ mesh program turns p at. let l = stands_below at.stands.stands in absurd (omega (arith, l, c.if-self-eq0.true))

pub returns-then-self-eq0-clause-prepared : goal.returns-then-self-eq0-clause-prepared
returns-then-self-eq0-clause-prepared c = λ prepared. still_prepared c.args.c.now (opened_shape c.args.self.now c.open.new.self c.open.ensures) prepared

pub returns-clause-prepared : goal.returns-clause-prepared
returns-clause-prepared c = λ prepared. still_prepared c.args.c.now c.next_event.ensures.keeps prepared

pub returns-then-self-eq0-clause-fewer : goal.returns-then-self-eq0-clause-fewer
returns-then-self-eq0-clause-fewer c = opened_fewer c.args.c.now.items c.args.self.now c.open.new.self c.if-self-eq0.true (has_frames c.args.c.now c.args.self.now c.requires) c.open.ensures
