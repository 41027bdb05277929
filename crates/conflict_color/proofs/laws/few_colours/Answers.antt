use Rattle.conflict_color.proofs.ColourLemmas.{each_colour, few_colours}
use Rattle.conflict_color.proofs.laws.few_colours.Goals as goal

pub returns : goal.returns
returns c = record { each = each_colour; bound = few_colours }
