use Rattle.std.proofs.Common.{◌≡◌, ◌<◌, ℕ, cond, length, take, slice_index}
use Rattle.liszt_base.specs.Corners.{is_in}
use Rattle.conflict_color.proofs.sweeps.fill_at.Given as goal

abbrev pub invariant-loop-index : goal.invariant-loop-index
invariant-loop-index l =
    (x : ℕ) → x < length l.values
    → slice_index l.values x ≡ cond (is_in (take l.index-index l.indices) x) l.value (slice_index l.initial.values x)
