use Rattle.std.proofs.Common.{◌≡◌, drop, []}
use Rattle.phase_types.specs.Internal.Results.{ExtendsNames}
use Rattle.phase_types.proofs.LoopLemmas.{items_after}
use Rattle.phase_types.proofs.program.+items.Given as goal

abbrev pub invariant-resolve_items-loop-i : goal.invariant-resolve_items-loop-i
invariant-resolve_items-loop-i l =
    (items_after l.state l.done (drop l.i-index l.items) ≡ items_after l.fn.state [] l.fn.items) × ExtendsNames l.fn.state.names l.state.names
