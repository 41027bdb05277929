use Rattle.std.proofs.Common.{◌+◌, get_or, ap, arith}
use Rattle.mesh_topology.proofs.StartLemmas.{between_starts, part_small}
use Rattle.mesh_topology.proofs.corner_sets.rank.Goals as goal

pub index_of-requires : goal.index_of-requires
index_of-requires g c =
    let low = get_or c.args.starts.now c.first_corner-first.result 0 in
    let high = get_or c.args.starts.now (c.first_corner-first.result + 1) 0 in
    let e = ap (λ v. get_or c.args.starts.now v 0) c.first_corner-first.ensures in
    let f = ap (λ v. get_or c.args.starts.now (v + 1) 0) c.first_corner-first.ensures in
    let s = between_starts c.args.table.now c.args.starts.now c.args.set.now low high c.requires.table c.requires.inside e f in
    (omega arith, part_small c.args.table.now low high c.requires.table.small s.inside)

pub unreachable-requires : goal.unreachable-requires
unreachable-requires g c =
    let low = get_or c.args.starts.now c.first_corner-first.result 0 in
    let high = get_or c.args.starts.now (c.first_corner-first.result + 1) 0 in
    let e = ap (λ v. get_or c.args.starts.now v 0) c.first_corner-first.ensures in
    let f = ap (λ v. get_or c.args.starts.now (v + 1) 0) c.first_corner-first.ensures in
    let s = between_starts c.args.table.now c.args.starts.now c.args.set.now low high c.requires.table c.requires.inside e f in
    c.in-None.ensures.none s.at s.below s.is
