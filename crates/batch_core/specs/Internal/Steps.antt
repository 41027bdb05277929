-- The parts of a turn, as private functions compute them.
use Rattle.std.specs.Prelude.{ℤ, List, [], ◌∷◌}
use Rattle.std.specs.declared.option.Option.{Option}
use Rattle.std.specs.declared.option.Option.TheVariants.{None, Some}
use Rattle.batch_core.specs.declared.acts.Act.{Act}
use Rattle.batch_core.specs.Machine.{Worker}

abbrev pub acts_of : Worker → List Act
acts_of worker = worker.acts

abbrev pub next_act : List Act → Option Act
next_act [] = None
next_act (a ∷ acts) = Some a

-- a worker after the first of these acts
abbrev pub worker_after : ℤ → List Act → Worker
worker_after register [] = record { register = register; acts = [] }
worker_after register (a ∷ acts) = record { register = register; acts = acts }
