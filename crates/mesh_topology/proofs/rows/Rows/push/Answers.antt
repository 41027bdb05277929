use Rattle.std.proofs.Common.{◌-◌, ◌<◌, ◌^◌, [], ◌∙◌, arith, rules}
use Rattle.std.proofs.lemmas.Grind.{get_or_default_zero}
use Rattle.std.proofs.lemmas.List.{get_or_read}
use Rattle.mesh_topology.proofs.PrefixLemmas.{front, prefix_push}
use Rattle.mesh_topology.proofs.rows.Rows.push.Goals as goal

pub index-count-requires : goal.index-count-requires
index-count-requires g c =
    let b = c.self.inside in
    let f = front g.row.N c.args.self.now b.counts.items b.rows.items c.args.list c.self.view_is c.self.invariant c.requires.below in
    omega (arith, f.counted, b.counts.ok.0)

pub index_mut-requires : goal.index_mut-requires
index_mut-requires g c =
    let b = c.self.inside in
    let f = front g.row.N c.args.self.now b.counts.items b.rows.items c.args.list c.self.view_is c.self.invariant c.requires.below in
    omega (arith, f.below, b.rows.ok.0)

pub bounds-index_mut-count : goal.bounds-index_mut-count
bounds-index_mut-count g c =
    let b = c.self.inside in
    let f = front g.row.N c.args.self.now b.counts.items b.rows.items c.args.list c.self.view_is c.self.invariant c.requires.below in
    let e = c.index-count.ensures ∙ get_or_default_zero b.counts.items c.args.list c.index-count.result.now f.counted in
    omega (arith, e, f.length_is, c.requires.capacity)

pub overflow_add-count : goal.overflow_add-count
overflow_add-count g c =
    let b = c.self.inside in
    let f = front g.row.N c.args.self.now b.counts.items b.rows.items c.args.list c.self.view_is c.self.invariant c.requires.below in
    let e = c.index-count.ensures ∙ get_or_default_zero b.counts.items c.args.list c.index-count.result.now f.counted in
    let k : c.index-count.result.now < 2 ^ 8 - 1 = omega (arith, e, f.length_is, c.requires.capacity, c.self.invariant.few) in
    search rules

pub index_mut-requires-2 : goal.index_mut-requires-2
index_mut-requires-2 g c =
    let b = c.self.inside in
    let f = front g.row.N c.args.self.now b.counts.items b.rows.items c.args.list c.self.view_is c.self.invariant c.requires.below in
    omega (arith, f.counted, b.counts.ok.0)

pub invariant_of-self : goal.invariant_of-self
invariant_of-self g c =
    let b = c.self.inside in
    let f = front g.row.N c.args.self.now b.counts.items b.rows.items c.args.list c.self.view_is c.self.invariant c.requires.below in
    let e = c.index-count.ensures ∙ get_or_default_zero b.counts.items c.args.list c.index-count.result.now f.counted in
    let row = get_or_read b.rows.items c.args.list c.index_mut.result.now f.below c.index_mut.ensures.value [] in
    let l = prefix_push g.row.N c.args.self.now b.counts.items b.rows.items c.args.list c.args.id c.index-count.result.now c.index_mut.result.now c.self.view_is c.self.invariant f.counted e row (omega (arith, e, f.length_is, c.requires.capacity)) in
    l.inside

pub returns : goal.returns
returns g c =
    let b = c.self.inside in
    let f = front g.row.N c.args.self.now b.counts.items b.rows.items c.args.list c.self.view_is c.self.invariant c.requires.below in
    let e = c.index-count.ensures ∙ get_or_default_zero b.counts.items c.args.list c.index-count.result.now f.counted in
    let row = get_or_read b.rows.items c.args.list c.index_mut.result.now f.below c.index_mut.ensures.value [] in
    let l = prefix_push g.row.N c.args.self.now b.counts.items b.rows.items c.args.list c.args.id c.index-count.result.now c.index_mut.result.now c.self.view_is c.self.invariant f.counted e row (omega (arith, e, f.length_is, c.requires.capacity)) in
    l.are
