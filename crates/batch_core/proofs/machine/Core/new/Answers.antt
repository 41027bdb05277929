use Rattle.std.proofs.Common.{◌≡◌, sym, ap, ◌∙◌, subst, map, List}
use Rattle.batch_core.specs.Machine.{InRange, Worker, worker_at_start}
use Rattle.batch_core.proofs.machine.Core.new.Goals as goal

pub invariant_of-result : goal.invariant_of-result
invariant_of-result c =
    let same : map worker_at_start c.args.acts ≡ c.acts.inside.queues.items = ap (map worker_at_start) (sym c.acts.view_is) ∙ c.acts.invariant in
    subst (λ (workers : List Worker). InRange record { words = c.args.words; workers = workers }) same c.requires
