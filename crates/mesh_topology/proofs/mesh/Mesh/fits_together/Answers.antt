use Rattle.std.proofs.Common.{subst, length}
use Rattle.liszt_base.specs.Corners.{IsMesh}
use Rattle.mesh_topology.specs.Elements.{corner_lists}
use Rattle.mesh_topology.proofs.mesh.Mesh.fits_together.Goals as goal

pub returns : goal.returns
returns c = subst (λ mesh. IsMesh (length mesh.points) (corner_lists mesh)) c.self.view_is c.self.invariant.small.is_mesh
