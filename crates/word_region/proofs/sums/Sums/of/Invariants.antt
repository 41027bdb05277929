use Rattle.std.proofs.Common.{◌≡◌, map}
use Rattle.std.specs.List.{range_with_len}
use Rattle.word_region.specs.Regions.{greatest_of, words_above, words_upto}
use Rattle.word_region.specs.Internal.Tables.{IsTable}
use Rattle.word_region.proofs.sums.Sums.of.Given as goal

abbrev pub invariant-loop-scope : goal.invariant-loop-scope
invariant-loop-scope l = record {
  words : IsTable l.scope (words_above l.scopes l.sizes) l.starts;
  greatest : l.peak ≡ greatest_of (map (words_upto l.scopes l.sizes) (range_with_len 0 l.scope));
}
