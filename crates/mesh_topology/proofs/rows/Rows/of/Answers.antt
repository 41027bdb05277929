use Rattle.std.proofs.Common.{[], take, get_or, Some, ap, sym, ◌∙◌, arith}
use Rattle.std.proofs.lemmas.Grind.{get_or_default_zero}
use Rattle.std.proofs.lemmas.List.{get_or_read}
use Rattle.mesh_topology.proofs.PrefixLemmas.{front}
use Rattle.mesh_topology.proofs.rows.Rows.of.Goals as goal

pub index-count-requires : goal.index-count-requires
index-count-requires g c =
    let b = c.self.inside in
    let f = front g.row.N c.args.self.now b.counts.items b.rows.items c.args.place c.self.view_is c.self.invariant c.requires in
    omega (arith, f.counted, b.counts.ok.0)

pub index-requires : goal.index-requires
index-requires g c =
    let b = c.self.inside in
    let f = front g.row.N c.args.self.now b.counts.items b.rows.items c.args.place c.self.view_is c.self.invariant c.requires in
    omega (arith, f.below, b.rows.ok.0)

pub shared_whole_as_front-result : goal.shared_whole_as_front-result
shared_whole_as_front-result g c =
    let b = c.self.inside in
    let f = front g.row.N c.args.self.now b.counts.items b.rows.items c.args.place c.self.view_is c.self.invariant c.requires in
    let e = c.index-count.ensures ∙ get_or_default_zero b.counts.items c.args.place c.index-count.result.now f.counted in
    omega (arith, e, f.short, c.self.invariant.few)

pub returns : goal.returns
returns g c =
    let b = c.self.inside in
    let f = front g.row.N c.args.self.now b.counts.items b.rows.items c.args.place c.self.view_is c.self.invariant c.requires in
    let e = c.index-count.ensures ∙ get_or_default_zero b.counts.items c.args.place c.index-count.result.now f.counted in
    let row = get_or_read b.rows.items c.args.place c.index.result.now f.below c.index.ensures [] in
    f.is ∙ ap Some (ap (λ n. take n (get_or b.rows.items c.args.place [])) (sym e) ∙ ap (λ xs. take c.index-count.result.now xs) (sym row))
