use Rattle.conflict_color.specs.Internal.LeastColours.{colours_of}
use Rattle.conflict_color.proofs.ColourLemmas.{unique}
use Rattle.conflict_color.proofs.LeastColourLemmas.{are_colours}
use Rattle.conflict_color.proofs.laws.one_colouring.Goals as goal

pub returns : goal.returns
returns c = record { exists = λ touched. (colours_of touched, are_colours touched); unique = unique }
