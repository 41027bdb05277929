use Rattle.std.proofs.Common.{◌<◌, length, sym, ap, ◌∙◌, arith, [], get_or}
use Rattle.std.proofs.lemmas.List.FromFn.{length-map-range_with_len, get_or-map-range_with_len}
use Rattle.std.proofs.lemmas.Option.{get_or_from_slice_get}
use Rattle.conflict_color.specs.Colours.{number_of_colours, positions_of}
use Rattle.conflict_color.proofs.colours.Colours.batch.Goals as goal

pub of-requires : goal.of-requires
of-requires c =
    let cs = c.self.inside.colours.items in
    omega (arith, c.requires, ap number_of_colours c.self.view_is, ap (λ b. length b) c.self.invariant.1, length-map-range_with_len (λ k. positions_of k cs) 0 (number_of_colours cs))

pub returns : goal.returns
returns c =
    let cs = c.self.inside.colours.items in
    let k = c.args.k in
    let lt : k < number_of_colours cs = omega (arith, c.requires, ap number_of_colours c.self.view_is) in
    sym (get_or_from_slice_get c.self.inside.batches k c.of.result.now [] c.of.ensures)
    ∙ (ap (λ b. get_or b k []) c.self.invariant.1
    ∙ (get_or-map-range_with_len (λ j. positions_of j cs) 0 (number_of_colours cs) k k [] lt (omega arith) ∙ ap (positions_of k) c.self.view_is))
