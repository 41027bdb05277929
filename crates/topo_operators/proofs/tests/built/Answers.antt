use Rattle.std.proofs.Common.{◌<◌, ◌^◌, length, refl, sym, subst, arith}
use Rattle.liszt_base.specs.Corners.{IsMesh}
use Rattle.liszt_base.specs.declared.elements.Kind.{Kind}
use Rattle.mesh_topology.specs.Elements.{corner_lists, count}
use Rattle.mesh_topology.specs.Internal.Meshes.{one_cell}
use Rattle.mesh_topology.proofs.CountLemmas.{fits}
use Rattle.topo_operators.proofs.tests.built.Goals as goal

one_is : IsMesh (length one_cell.points) (corner_lists one_cell)
one_is = record { each = ((refl, refl, refl), tt); together = (refl, refl) }

one_fits : (kind : Kind) → count one_cell kind < 2 ^ 32
one_fits = fits one_cell one_is (omega arith) (omega arith)

pub build-requires-clause-mesh : goal.build-requires-clause-mesh
build-requires-clause-mesh c = subst (λ m. IsMesh (length m.points) (corner_lists m)) (sym c.in_ok-raw.ensures) one_is

pub build-requires-clause-fits : goal.build-requires-clause-fits
build-requires-clause-fits c = subst (λ m. (kind : Kind) → count m kind < 2 ^ 32) (sym c.in_ok-raw.ensures) one_fits
