use Rattle.std.proofs.Common.{◌≡◌, ap, ◌∙◌, refl, arith}
use Rattle.liszt_base.specs.declared.elements.Kind.TheVariants.{Edge}
use Rattle.mesh_topology.specs.Elements.{elements}
use Rattle.mesh_topology.proofs.TableLemmas.{small_table}
use Rattle.mesh_topology.proofs.SearchLemmas.{number_by, same_order, other_order}
use Rattle.mesh_topology.proofs.mesh.Mesh.edge_number.Goals as goal
use Rattle.mesh_topology.proofs.mesh.Mesh.edge_number.Goals.{then-a-b, else-a-b}

pub index_of-requires : goal.index_of-requires
index_of-requires c =
    let mesh = c.self.inside.raw in
    (omega arith, small_table mesh c.self.invariant.small Edge 2 refl c.as_slice.result.now (c.as_slice.ensures.value ∙ c.self.invariant.lower_tables.sets.edges))

pub returns : goal.returns
returns c =
    let mesh = c.args.self.now in
    let table = c.as_slice.result.now in
    let e : table ≡ elements mesh Edge = c.as_slice.ensures.value ∙ (c.self.invariant.lower_tables.sets.edges ∙ ap (λ m. elements m Edge) c.self.view_is) in
    let a = c.args.a in
    let b = c.args.b in
    elim c.if-a-b.branch [
      | then-a-b w ↦ number_by mesh table e a b a b c.if-a-b.ends w.ends-is (omega (arith, w.if-a-b.true)) (same_order a b) c.index_of.result c.index_of.ensures.some c.index_of.ensures.none
      | else-a-b w ↦ number_by mesh table e a b b a c.if-a-b.ends w.ends-is (omega (arith, w.if-a-b.false)) (other_order a b) c.index_of.result c.index_of.ensures.some c.index_of.ensures.none
    ]
