use Rattle.std.proofs.Common.{◌∙◌, ap, eqb, min}
use Rattle.std.specs.Cmp.Lexicographic.{pointwise}
use Rattle.std.specs.List.{reduce}
use Rattle.tet_reader.specs.Internal.RepeatedRows.{repeated_indices}
use Rattle.tet_reader.proofs.MisfitLemmas.{twice_is}
use Rattle.tet_reader.proofs.misfit.first_repeated_cell.Goals as goal

pub returns : goal.returns
returns c =
    c.least_repeated_index.ensures ∙ ap (λ rows. reduce min (repeated_indices (pointwise eqb) 1 rows)) c.deref.ensures.value
    ∙ twice_is c.args.cells.now c.requires.corners c.in_ok-rows.rows.items c.sort_unstable.new.self.items c.in_ok-rows.ensures
    c.sort_unstable.ensures.permutation c.sort_unstable.ensures.sorted
