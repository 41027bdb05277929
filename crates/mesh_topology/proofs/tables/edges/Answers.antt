use Rattle.std.proofs.Common.{◌<◌, ◌++◌, [], All, length, get_or, map, flat_map, ap, sym, subst, ◌∙◌, arith}
use Rattle.std.proofs.lemmas.Option.{get_or_from_slice_get}
use Rattle.mesh_topology.specs.Internal.Combinations.{combinations}
use Rattle.mesh_topology.specs.Internal.Incidence.{members_above, combinations_from, pair, IsSetOf}
use Rattle.mesh_topology.proofs.FirstCornerLemmas.{combinations_from_are, cells_of, pairs_above, table_all, table_step}
use Rattle.mesh_topology.proofs.tables.edges.Goals as goal

pub set_corners_above-requires : goal.set_corners_above-requires
set_corners_above-requires c =
    let lists = c.args.vertex_cells.now in
    let l : c.loop-v.v < length lists = omega (arith, c.len-v-end.ensures) in
    let e = get_or_from_slice_get lists c.loop-v.v c.of.result.now [] c.of.ensures in
    subst (λ ids. All (λ id. id < length c.args.cells.now) ids) e (cells_of c.args.cells.now lists c.loop-v.v c.requires l)

pub loop-v-preserved : goal.loop-v-preserved
loop-v-preserved c =
    let cells = c.args.cells.now in
    let lists = c.args.vertex_cells.now in
    let v = c.loop-v.v in
    let l : v < length lists = omega (arith, c.len-v-end.ensures) in
    let e = get_or_from_slice_get lists v c.of.result.now [] c.of.ensures in
    let above = c.set_corners_above.new.above.items in
    let one = pairs_above cells lists v above c.requires l (subst (λ ids. IsSetOf (members_above cells v ids) above) (sym e) c.in_ok-set_corners_above.ensures) in
    let is = c.in_ok-add_pairs.ensures ∙ ap (λ xs. c.loop-v.table.items ++ map (pair v) xs) c.as_slice.ensures.value in
    table_step (flat_map (combinations 2) cells) (combinations_from 2 cells v (get_or lists v [])) c.loop-v.table.items (map (pair v) above) c.add_pairs.new.table.items v (combinations_from_are 2 cells lists v (omega arith) c.requires l) c.loop-v.invariant one is

pub returns : goal.returns
returns c =
    table_all 2 c.args.cells.now c.args.vertex_cells.now c.loop-v.table.items c.loop-v.v (omega arith) c.requires (omega (arith, c.len-v-end.ensures, c.loop-v.auto.v-end)) c.loop-v.invariant
