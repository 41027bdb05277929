use Rattle.std.proofs.Common.{◌≤◌, ◌*◌, ◌^◌, take}
use Rattle.word_region.specs.Regions.{own_words as OwnWords}
use Rattle.word_region.specs.Internal.Tables.{IsTable, all_words}
use Rattle.word_region.proofs.sums.own_words.Given as goal

abbrev pub invariant-loop-scope : goal.invariant-loop-scope
invariant-loop-scope l = record {
  words : IsTable l.scopes (OwnWords (take l.scope-index l.sizes)) l.own;
  few : all_words (take l.scope-index l.sizes) ≤ l.scope-index * 2 ^ 32;
}
