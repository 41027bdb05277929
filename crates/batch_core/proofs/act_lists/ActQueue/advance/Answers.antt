use Rattle.std.proofs.Common.{ℤ, List, ap, ap₂, sym, ◌∙◌, to_z-of_z}
use Rattle.batch_core.specs.declared.acts.Act.{Act}
use Rattle.batch_core.specs.Machine.{Worker}
use Rattle.batch_core.proofs.StepLemmas.{worker_after_is, drop_one_more}
use Rattle.batch_core.proofs.act_lists.ActQueue.advance.Goals as goal

pub returns : goal.returns
returns c =
    let worker : ℤ → List Act → Worker = λ r l. record { register = r; acts = l } in
    let rest = drop_one_more c.self.inside.done c.self.inside.acts.items c.args.self.now.acts (ap (λ w. w.acts) c.self.view_is) in
    ap₂ worker (to_z-of_z c.ranges.register) rest ∙ sym (worker_after_is c.args.register c.args.self.now.acts)
