use Rattle.std.proofs.Common.{◌<◌, ◌++◌, [], All, length, get_or, map, flat_map, ap, sym, subst, ◌∙◌, arith}
use Rattle.std.proofs.lemmas.Option.{get_or_from_slice_get}
use Rattle.mesh_topology.specs.Internal.Combinations.{combinations}
use Rattle.mesh_topology.specs.Internal.Incidence.{combinations_from, keys_in, triple, IsSetOf}
use Rattle.mesh_topology.proofs.FirstCornerLemmas.{combinations_from_are, cells_of, table_all, table_step, triples_of_keys}
use Rattle.mesh_topology.proofs.tables.faces.Goals as goal

pub set_keys-requires : goal.set_keys-requires
set_keys-requires c =
    let lists = c.args.vertex_cells.now in
    let l : c.loop-v.v < length lists = omega (arith, c.len-v-end.ensures) in
    let e = get_or_from_slice_get lists c.loop-v.v c.of.result.now [] c.of.ensures in
    subst (λ ids. All (λ id. id < length c.args.cells.now) ids) e (cells_of c.args.cells.now lists c.loop-v.v c.requires l)

pub loop-v-preserved : goal.loop-v-preserved
loop-v-preserved c =
    let cells = c.args.cells.now in
    let lists = c.args.vertex_cells.now in
    let v = c.loop-v.v in
    let l : v < length lists = omega (arith, c.len-v-end.ensures) in
    let e = get_or_from_slice_get lists v c.of.result.now [] c.of.ensures in
    let keys = c.set_keys.new.keys.items in
    let one = triples_of_keys cells lists v keys c.requires l (subst (λ ids. IsSetOf (keys_in cells v ids) keys) (sym e) c.in_ok-set_keys.ensures) in
    let is = c.in_ok-add_triples.ensures ∙ ap (λ xs. c.loop-v.table.items ++ map (triple v) xs) c.as_slice.ensures.value in
    table_step (flat_map (combinations 3) cells) (combinations_from 3 cells v (get_or lists v [])) c.loop-v.table.items (map (triple v) keys) c.add_triples.new.table.items v (combinations_from_are 3 cells lists v (omega arith) c.requires l) c.loop-v.invariant one is

pub returns : goal.returns
returns c =
    table_all 3 c.args.cells.now c.args.vertex_cells.now c.loop-v.table.items c.loop-v.v (omega arith) c.requires (omega (arith, c.len-v-end.ensures, c.loop-v.auto.v-end)) c.loop-v.invariant
