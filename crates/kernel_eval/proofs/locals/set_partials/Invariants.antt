use Rattle.std.proofs.Common.{◌≡◌, ◌<◌, ℕ, Some, length, get_or}
use Rattle.std.specs.Prelude.{pos}
use Rattle.liszt_base.specs.Reductions.{identity_of}
use Rattle.liszt_base.specs.declared.accesses.Mode.TheVariants.{Reduce}
use Rattle.liszt_base.specs.declared.elements.Op.{Op}
use Rattle.phase_types.specs.Checked.{checked_mode}
use Rattle.phase_types.specs.Walk.{OfScalar}
use Rattle.kernel_eval.proofs.locals.set_partials.Given as goal

abbrev pub invariant-loop-scalar : goal.invariant-loop-scalar
invariant-loop-scalar l =
    (length l.partials ≡ length l.c.scalars)
    × ((scalar : ℕ) (op : Op) → scalar < l.scalar → checked_mode l.c l.k (OfScalar scalar) ≡ Some (Reduce op)
    → get_or l.partials scalar (pos 0) ≡ identity_of op)
