use Rattle.phase_types.proofs.TypeLemmas.{computed, typed}
use Rattle.phase_types.proofs.laws.types_are_computed.Goals as goal

pub returns-clause-complete : goal.returns-clause-complete
returns-clause-complete c environment e type h = computed h

pub returns-clause-sound : goal.returns-clause-sound
returns-clause-sound c = typed
