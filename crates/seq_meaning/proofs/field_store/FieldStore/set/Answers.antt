use Rattle.std.proofs.Common.{◌≡◌, Some, sym, ap, ◌∙◌, w64, to_z, of_z, to_z-of_z}
use Rattle.seq_meaning.specs.FieldStores.{word_index}
use Rattle.seq_meaning.proofs.FieldStoreLemmas.{values_after_store}
use Rattle.seq_meaning.proofs.field_store.FieldStore.set.Goals as goal

pub returns-clause-values : goal.returns-clause-values
returns-clause-values c other =
    let is : word_index c.self.inside.ranges c.args.spot ≡ Some c.in-Some.index =
    ap (λ ranges. word_index ranges c.args.spot) (sym c.as_slice.ensures) ∙ sym c.index_of.ensures ∙ c.in-Some.is in
    let value : to_z w64 (of_z w64 c.args.value) ≡ c.args.value = to_z-of_z c.ranges.value in
    rw (c.set.ensures, value, ← c.self.view_is) (values_after_store c.self.inside.ranges c.self.inside.words c.self.invariant c.args.spot c.in-Some.index c.args.value is other)
