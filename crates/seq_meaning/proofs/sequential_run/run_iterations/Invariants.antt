use Rattle.std.proofs.Common.{List}
use Rattle.phase_types.specs.declared.info.FieldInfo.{FieldInfo}
use Rattle.kernel_eval.specs.Running.{IsPrepared}
use Rattle.seq_meaning.specs.FieldStores.{HasSpotsOf}
use Rattle.seq_meaning.specs.Internal.Iterating.{CanRunIterations, IsIterating}
use Rattle.seq_meaning.proofs.sequential_run.run_iterations.Given as goal

abbrev pub invariant-loop-id : goal.invariant-loop-id
invariant-loop-id l =
    IsPrepared l.c l.locals.activation
    × ((can : CanRunIterations l.c l.k l.m l.initial.locals.activation l.initial.fields)
    → IsIterating l.m can.comprehension l.turns can.state l.id l.locals.activation l.fields)
    × ((declared : List FieldInfo) → HasSpotsOf declared l.m l.initial.fields → HasSpotsOf declared l.m l.fields)
