use Rattle.std.proofs.Common.{sym, subst}
use Rattle.field_words.specs.Holdings.{Holding, OwnsRange}
use Rattle.field_words.proofs.FillLemmas.{first_owns, filled_owns}
use Rattle.field_words.proofs.tests.eight_filled.Goals as goal

pub fill-requires-clause-own : goal.fill-requires-clause-own
fill-requires-clause-own g c κs within =
    subst (λ (h : Holding). OwnsRange h 1 8000) (sym c.in_ok-table.ensures) (first_owns 8000 c.in_ok-table.table)

pub has_numbers-requires-clause-own : goal.has_numbers-requires-clause-own
has_numbers-requires-clause-own g c = filled_owns 1 8000 c.in_ok-table.seat c.fill.new.seat c.fill.ensures
