use Rattle.std.proofs.Common.{◌≡◌, ◌≤◌, ◌+◌, ◌++◌, drop}
use Rattle.liszt_base.specs.Limits.{word_limit}
use Rattle.seq_meaning.specs.FieldStores.{ranges_from, words_of as WordsOf}
use Rattle.seq_meaning.proofs.field_store.ranges_of.Given as goal

abbrev pub invariant-loop-info : goal.invariant-loop-info
invariant-loop-info l =
    (l.ranges ++ ranges_from l.m l.first (drop l.info-index l.fields) ≡ ranges_from l.m 0 l.fields)
    × (l.first + WordsOf l.m (drop l.info-index l.fields) ≤ word_limit)
