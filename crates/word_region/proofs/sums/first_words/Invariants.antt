use Rattle.std.proofs.Common.{◌+◌, length, take}
use Rattle.std.specs.Prelude.{slice_index}
use Rattle.word_region.specs.Regions.{own_words as OwnWords}
use Rattle.word_region.specs.Internal.Tables.{IsTable, first_after}
use Rattle.word_region.proofs.sums.first_words.Given as goal

abbrev pub invariant-loop-scope : goal.invariant-loop-scope
invariant-loop-scope l = record {
  firsts : IsTable l.scope-index (first_after l.fn.starts l.sizes) l.firsts;
  ends : IsTable (length l.fn.starts) (λ scope. slice_index l.fn.starts scope + OwnWords (take l.scope-index l.sizes) scope) l.ends;
}
