use Rattle.std.proofs.Common.{◌≡◌, ◌<◌, ◌≤◌, ℕ, Some}
use Rattle.std.specs.Prelude.{slice_get}
use Rattle.resolved_code.specs.declared.items.ComprehensionCode.{ComprehensionCode}
use Rattle.kernel_eval.proofs.locals.most_numbers.Given as goal

abbrev pub invariant-loop-code : goal.invariant-loop-code
invariant-loop-code l = (k : ℕ) (code : ComprehensionCode) → slice_get l.codes k ≡ Some code → k < l.code-index → code.numbers ≤ l.most
