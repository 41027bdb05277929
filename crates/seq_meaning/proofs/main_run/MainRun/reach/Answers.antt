use Rattle.std.proofs.Common.{sym, subst, Ok, Some}
use Rattle.seq_meaning.specs.Internal.RunSteps.{HasDone}
use Rattle.seq_meaning.specs.declared.main_run.MainStep.TheVariants.{Comp}
use Rattle.seq_meaning.proofs.MainItemLemmas.{reach_done}
use Rattle.seq_meaning.proofs.main_run.MainRun.reach.Goals as goal

pub returns : goal.returns
returns c = subst (HasDone c.args.level c.args.items.now c.args.next (Ok (Some (Comp c.args.comprehension))) c.args.self.now) (sym c.move_on.ensures) (reach_done c.args.self.now c.args.level c.args.items.now c.args.next c.args.comprehension c.requires)
