use Rattle.std.proofs.Common.{◌≡◌}
use Rattle.seq_meaning.specs.Internal.Iterating.{AreReducedBelow}
use Rattle.seq_meaning.proofs.sequential_run.reduce_scalars.Given as goal

abbrev pub invariant-loop-scalar : goal.invariant-loop-scalar
invariant-loop-scalar l =
    (l.main ≡ record l.initial.main { scalars = l.main.scalars })
    × AreReducedBelow l.c l.k l.locals.activation.partials l.initial.main.scalars l.main.scalars l.scalar
