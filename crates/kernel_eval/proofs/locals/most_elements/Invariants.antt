use Rattle.std.proofs.Common.{◌≡◌, ◌<◌, ◌≤◌, ℕ, Some, length}
use Rattle.std.specs.Prelude.{slice_get}
use Rattle.resolved_code.specs.declared.items.ComprehensionCode.{ComprehensionCode}
use Rattle.kernel_eval.proofs.locals.most_elements.Given as goal

abbrev pub invariant-loop-code : goal.invariant-loop-code
invariant-loop-code l =
    (0 < l.most) × ((k : ℕ) (code : ComprehensionCode) → slice_get l.codes k ≡ Some code → k < l.code-index → length code.elements ≤ l.most)
