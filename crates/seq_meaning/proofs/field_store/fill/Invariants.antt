use Rattle.std.proofs.Common.{◌≡◌, length}
use Rattle.seq_meaning.specs.FieldStores.{filled}
use Rattle.seq_meaning.proofs.field_store.fill.Given as goal

abbrev pub invariant-loop-offset : goal.invariant-loop-offset
invariant-loop-offset l =
    (l.words ≡ filled l.range.first l.offset l.value l.fn.words) × (length l.words ≡ length l.fn.words)
