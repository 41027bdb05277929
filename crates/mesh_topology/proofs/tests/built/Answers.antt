use Rattle.std.proofs.Common.{◌<◌, ◌^◌, length, refl, sym, subst, arith}
use Rattle.liszt_base.specs.Corners.{IsMesh}
use Rattle.liszt_base.specs.declared.elements.Kind.{Kind}
use Rattle.mesh_topology.specs.Elements.{corner_lists, count}
use Rattle.mesh_topology.specs.Internal.Meshes.{two_cells}
use Rattle.mesh_topology.proofs.CountLemmas.{fits}
use Rattle.mesh_topology.proofs.tests.built.Goals as goal

two_is : IsMesh (length two_cells.points) (corner_lists two_cells)
two_is = record { each = ((refl, refl, refl), ((refl, refl, refl), tt)); together = (refl, refl) }

two_fits : (kind : Kind) → count two_cells kind < 2 ^ 32
two_fits = fits two_cells two_is (omega arith) (omega arith)

pub build-requires-clause-mesh : goal.build-requires-clause-mesh
build-requires-clause-mesh c = subst (λ m. IsMesh (length m.points) (corner_lists m)) (sym c.in_ok-raw.ensures) two_is

pub build-requires-clause-fits : goal.build-requires-clause-fits
build-requires-clause-fits c = subst (λ m. (kind : Kind) → count m kind < 2 ^ 32) (sym c.in_ok-raw.ensures) two_fits
