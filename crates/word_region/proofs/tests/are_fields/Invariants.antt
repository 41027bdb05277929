use Rattle.std.proofs.Common.{ℕ, ◌<◌}
use Rattle.std.specs.Prelude.{slice_index_or}
use Rattle.word_region.proofs.tests.are_fields.Given as goal

abbrev pub invariant-loop-scope : goal.invariant-loop-scope
invariant-loop-scope l = (k : ℕ) (d : ℕ × ℕ) → k < l.scope-index → (slice_index_or l.sizes k d).0 < l.scopes
