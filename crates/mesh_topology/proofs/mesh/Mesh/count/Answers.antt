use Rattle.std.proofs.Common.{◌≡◌, ◌<◌, ◌^◌, length, ap, sym, ◌∙◌, arith, rules}
use Rattle.liszt_base.specs.declared.elements.Kind.TheVariants.{Vertex, Edge, Face, Cell}
use Rattle.mesh_topology.specs.Elements.{count}
use Rattle.mesh_topology.proofs.NearLemmas.{vertex_count, cell_count}
use Rattle.mesh_topology.proofs.mesh.Mesh.count.Goals as goal

pub overflow_cast-result : goal.overflow_cast-result
overflow_cast-result c =
    let mesh = c.self.inside.raw in
    let e : length c.points.result.now ≡ length mesh.points = ap (λ xs. length xs) c.points.ensures in
    let l : length c.points.result.now < 2 ^ 32 = omega (arith, vertex_count mesh, c.self.invariant.small.fits Vertex) in
    search rules

pub overflow_cast-result-in-Edge : goal.overflow_cast-result-in-Edge
overflow_cast-result-in-Edge c =
    let e : length c.self.inside.lower.sets.edges.items ≡ count c.self.inside.raw Edge = ap (λ xs. length xs) c.self.invariant.lower_tables.sets.edges in
    let l : c.len.result < 2 ^ 32 = omega (arith, c.self.inside.lower.sets.edges.ok.0, c.self.invariant.small.fits Edge) in
    search rules

pub overflow_cast-result-in-Face : goal.overflow_cast-result-in-Face
overflow_cast-result-in-Face c =
    let e : length c.self.inside.lower.sets.faces.items ≡ count c.self.inside.raw Face = ap (λ xs. length xs) c.self.invariant.lower_tables.sets.faces in
    let l : c.len-in-Face.result < 2 ^ 32 = omega (arith, c.self.inside.lower.sets.faces.ok.0, c.self.invariant.small.fits Face) in
    search rules

pub overflow_cast-result-in-Cell : goal.overflow_cast-result-in-Cell
overflow_cast-result-in-Cell c =
    let mesh = c.self.inside.raw in
    let e : length c.cells.result.now ≡ length mesh.cells = ap (λ xs. length xs) c.cells.ensures in
    let l : length c.cells.result.now < 2 ^ 32 = omega (arith, cell_count mesh, c.self.invariant.small.fits Cell) in
    search rules

pub returns-in-Vertex : goal.returns-in-Vertex
returns-in-Vertex c =
    let e = ap (λ xs. length xs) c.points.ensures ∙ ap (λ m. length m.points) c.self.view_is in
    e ∙ (sym (vertex_count c.args.self.now) ∙ ap (λ kind. count c.args.self.now kind) (sym c.in-Vertex.is))
