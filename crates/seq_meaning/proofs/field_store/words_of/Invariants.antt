use Rattle.std.proofs.Common.{◌≡◌, ◌≤◌, ◌*◌, ◌^◌, take}
use Rattle.seq_meaning.specs.FieldStores.{words_of as WordsOf}
use Rattle.seq_meaning.proofs.field_store.words_of.Given as goal

abbrev pub invariant-loop-info : goal.invariant-loop-info
invariant-loop-info l = (l.total ≡ WordsOf l.m (take l.info-index l.c.fields)) × (l.total ≤ l.info-index * 2 ^ 32)
