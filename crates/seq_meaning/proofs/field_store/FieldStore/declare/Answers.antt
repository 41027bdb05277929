use Rattle.std.proofs.Common.{◌≡◌, Some, sym, ap, ◌∙◌, w64, to_z, of_z, to_z-of_z}
use Rattle.seq_meaning.specs.FieldStores.{range_of as RangeOf}
use Rattle.seq_meaning.proofs.FieldStoreLemmas.{values_after_declaration}
use Rattle.seq_meaning.proofs.field_store.FieldStore.declare.Goals as goal

pub returns-clause-values : goal.returns-clause-values
returns-clause-values c spot =
    let is : RangeOf c.self.inside.ranges c.args.field ≡ Some c.in-Some.range =
    ap (λ ranges. RangeOf ranges c.args.field) (sym c.as_slice.ensures) ∙ sym c.range_of.ensures ∙ c.in-Some.is in
    let value : to_z w64 (of_z w64 c.args.value) ≡ c.args.value = to_z-of_z c.ranges.value in
    rw (c.fill.ensures.filled, value, ← c.self.view_is) (values_after_declaration c.self.inside.ranges c.self.inside.words c.self.invariant c.args.field c.in-Some.range c.args.value is spot)
