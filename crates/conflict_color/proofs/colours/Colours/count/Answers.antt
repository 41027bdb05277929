use Rattle.std.proofs.Common.{length, ap, ◌∙◌, arith}
use Rattle.std.proofs.lemmas.List.FromFn.{length-map-range_with_len}
use Rattle.conflict_color.specs.Colours.{number_of_colours, positions_of}
use Rattle.conflict_color.proofs.colours.Colours.count.Goals as goal

pub overflow_cast-result : goal.overflow_cast-result
overflow_cast-result c =
    let a = c.self.inside in
    let few = c.self.invariant.0 in
    omega (arith, c.len.ensures, ap (λ b. length b) c.self.invariant.1, length-map-range_with_len (λ k. positions_of k a.colours.items) 0 (number_of_colours a.colours.items))

pub returns : goal.returns
returns c =
    let a = c.self.inside in
    c.len.ensures ∙ (ap (λ b. length b) c.self.invariant.1
    ∙ (length-map-range_with_len (λ k. positions_of k a.colours.items) 0 (number_of_colours a.colours.items)
    ∙ ap number_of_colours c.self.view_is))
