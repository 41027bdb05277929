use Rattle.std.proofs.Common.{◌≡◌, sym, ap, subst, ◌∙◌}
use Rattle.batch_core.specs.Machine.{Machine, Apart, IsFinished, run, sequential_result, value_at}
use Rattle.batch_core.proofs.TurnOrderLemmas.{stays_apart, keeps_result, keeps_reads, ends_with_result}
use Rattle.batch_core.proofs.machine.Core.run.Goals as goal

pub returns-clause-apart : goal.returns-clause-apart
returns-clause-apart c =
    let e : c.take_turns.new.self ≡ run c.args.self.now c.args.turns.now = c.take_turns.ensures.machine in
    λ r. subst Apart (sym e) (stays_apart c.args.self.now c.args.turns.now r)

pub returns-clause-result : goal.returns-clause-result
returns-clause-result c =
    let e : c.take_turns.new.self ≡ run c.args.self.now c.args.turns.now = c.take_turns.ensures.machine in
    λ r. ap sequential_result e ∙ keeps_result c.args.self.now c.args.turns.now r

pub returns-clause-reads : goal.returns-clause-reads
returns-clause-reads c =
    let e : c.take_turns.new.self ≡ run c.args.self.now c.args.turns.now = c.take_turns.ensures.machine in
    λ r w by. ap (λ (z : Machine). value_at z.words w) e ∙ keeps_reads c.args.self.now c.args.turns.now w r by

pub returns-clause-finished : goal.returns-clause-finished
returns-clause-finished c =
    let e : c.take_turns.new.self ≡ run c.args.self.now c.args.turns.now = c.take_turns.ensures.machine in
    λ r over. ap (λ (z : Machine). z.words) e ∙ ends_with_result c.args.self.now c.args.turns.now r (subst IsFinished e over)
