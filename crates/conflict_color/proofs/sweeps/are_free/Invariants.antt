use Rattle.std.proofs.Common.{◌≤◌, slice_index}
use Rattle.std.specs.List.{AllWithin}
use Rattle.conflict_color.proofs.sweeps.are_free.Given as goal

abbrev pub invariant-loop-number : goal.invariant-loop-number
invariant-loop-number l = AllWithin (λ x. slice_index l.first_free x ≤ l.colour) l.numbers 0 l.number-index
