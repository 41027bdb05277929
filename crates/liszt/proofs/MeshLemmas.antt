-- The elements of a mesh that is read can be numbered.
use Rattle.std.proofs.Common.{◌*◌, ◌<◌, ◌^◌, List, length, sym, subst, arith}
use Rattle.liszt_base.specs.Corners.{IsMesh}
use Rattle.liszt_base.specs.MeshLists.{MeshLists}
use Rattle.liszt_base.specs.declared.mesh.Point.{Point}
use Rattle.liszt_base.specs.declared.mesh.PointTable.{PointTable}
use Rattle.mesh_topology.specs.Elements.{corner_lists}
use Rattle.mesh_topology.proofs.CountLemmas.{fits}
use Rattle.text_scan.specs.Rows.{TextRows}
use Rattle.tet_reader.specs.Answers.{SpellMesh}
use Rattle.liszt.specs.Internal.Steps.{IsNumberable}

pub is_mesh : (table : PointTable) (rows : TextRows) (mesh : MeshLists) → SpellMesh table rows mesh → IsMesh (length mesh.points) (corner_lists mesh)
is_mesh table rows mesh spell = subst (λ (points : List Point). IsMesh (length points) (corner_lists mesh)) (sym spell.points_are) spell.fits

pub numberable : (table : PointTable) (rows : TextRows) (mesh : MeshLists) → length table.list < 2 ^ 32 → SpellMesh table rows mesh → IsNumberable mesh
numberable table rows mesh few spell =
    let is : IsMesh (length mesh.points) (corner_lists mesh) = is_mesh table rows mesh spell in
    let points : length mesh.points < 2 ^ 32 = subst (λ (points : List Point). length points < 2 ^ 32) (sym spell.points_are) few in
    let cells : 6 * length mesh.cells < 2 ^ 32 = omega (arith, spell.cells.header_is.cells_fit) in
    record { mesh = is; fits = fits mesh is points cells }
