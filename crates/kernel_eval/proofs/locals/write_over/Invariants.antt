use Rattle.std.proofs.Common.{◌≡◌, length, take}
use Rattle.kernel_eval.proofs.locals.write_over.Given as goal

abbrev pub invariant-loop-i : goal.invariant-loop-i
invariant-loop-i l = (length l.list ≡ length l.numbers) × (take l.i l.list ≡ take l.i l.numbers)
