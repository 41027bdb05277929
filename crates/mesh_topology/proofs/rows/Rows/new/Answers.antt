use Rattle.std.proofs.Common.{◌∙◌, replicate, sym, arith}
use Rattle.std.proofs.lemmas.List.{ext_get_or, length-replicate}
use Rattle.mesh_topology.proofs.PrefixLemmas.{no_prefixes, none_inside}
use Rattle.mesh_topology.proofs.rows.Rows.new.Goals as goal

pub invariant_of-result : goal.invariant_of-result
invariant_of-result g c =
    let none = c.in_ok-counts.ensures.items_if_clones_equal (λ y h. h) in
    let all = c.in_ok-rows.ensures.items_if_clones_equal (λ y h. ext_get_or 0 y (replicate g.row.N 0) (h.long ∙ sym (length-replicate g.row.N 0)) (λ i l. h.at i 0 0 (omega (arith, l, h.long)))) in
    none_inside g.row.N c.args.count c.in_ok-counts.counts.items c.in_ok-rows.rows.items (replicate g.row.N 0) c.requires none all (length-replicate g.row.N 0)

pub returns : goal.returns
returns g c = no_prefixes c.in_ok-counts.counts.items c.in_ok-rows.rows.items c.args.count (c.in_ok-counts.ensures.items_if_clones_equal (λ y h. h))
