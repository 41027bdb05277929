use Rattle.conflict_color.specs.Internal.Cases.{tetrahedron_edges}
use Rattle.conflict_color.specs.Internal.LeastColours.{colours_of, first_colours}
use Rattle.conflict_color.proofs.LeastColourLemmas.{are_colours}
use Rattle.conflict_color.proofs.cases.edges_of_a_tetrahedron.Goals as goal

pub returns-clause-colours : goal.returns-clause-colours
unfolding colours_of first_colours
returns-clause-colours c = are_colours tetrahedron_edges
