use Rattle.conflict_color.proofs.SweepLemmas.{IsSwept}
use Rattle.conflict_color.proofs.sweeps.next_sweep.Given as goal

abbrev pub invariant-loop-iteration : goal.invariant-loop-iteration
invariant-loop-iteration l =
    IsSwept l.touched l.colour l.remaining l.iteration-index l.first_free l.batch.items l.rest.items
