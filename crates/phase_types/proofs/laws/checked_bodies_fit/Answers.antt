use Rattle.phase_types.proofs.FrameLemmas.{bodies_fit}
use Rattle.phase_types.proofs.laws.checked_bodies_fit.Goals as goal

pub returns : goal.returns
returns c = record { bodies = bodies_fit }
