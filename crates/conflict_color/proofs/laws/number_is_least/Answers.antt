use Rattle.conflict_color.proofs.ColourLemmas.{number_at_most}
use Rattle.conflict_color.proofs.LeastColourLemmas.{below_number}
use Rattle.conflict_color.proofs.laws.number_is_least.Goals as goal

pub returns : goal.returns
returns c = record { above = below_number; least = number_at_most }
