use Rattle.std.proofs.Common.{if◌then◌else◌}
use Rattle.liszt_base.specs.declared.elements.Kind.TheVariants.{Vertex, Edge, Face, Cell}
use Rattle.topo_operators.specs.Operators.{tail_of, head_of, inside_of, outside_of}
use Rattle.topo_operators.proofs.ResultLemmas.{nil_or_result, end_of, side_of, members_of}
use Rattle.topo_operators.proofs.laws.results_are_elements.Goals as goal

pub returns-clause-tail : goal.returns-clause-tail
returns-clause-tail c = λ mesh. nil_or_result mesh Edge Vertex (tail_of mesh) (λ x. end_of mesh x (if x.flipped then 1 else 0))

pub returns-clause-head : goal.returns-clause-head
returns-clause-head c = λ mesh. nil_or_result mesh Edge Vertex (head_of mesh) (λ x. end_of mesh x (if x.flipped then 0 else 1))

pub returns-clause-inside : goal.returns-clause-inside
returns-clause-inside c = λ mesh. nil_or_result mesh Face Cell (inside_of mesh) (λ x is. side_of mesh x (if x.flipped then 1 else 0))

pub returns-clause-outside : goal.returns-clause-outside
returns-clause-outside c = λ mesh. nil_or_result mesh Face Cell (outside_of mesh) (λ x is. side_of mesh x (if x.flipped then 0 else 1))

pub returns-clause-members : goal.returns-clause-members
returns-clause-members c = members_of
