use Rattle.std.proofs.Common.{◌≡◌, ◌≤◌, length, get_or, Some, ap, sym, ◌∙◌, arith, rules}
use Rattle.std.specs.List.{between}
use Rattle.std.proofs.lemmas.Grind.{get_or_default_zero}
use Rattle.mesh_topology.proofs.BucketLemmas.{list_read}
use Rattle.mesh_topology.proofs.buckets.Buckets.of.Goals as goal

pub index-start-requires : goal.index-start-requires
index-start-requires c =
    let b = c.self.inside in
    let r = list_read c.args.self.now b.starts.items b.ends.items b.items.items c.args.place c.self.view_is c.self.invariant c.requires in
    omega (arith, r.begins, b.starts.ok.0)

pub index-end-requires : goal.index-end-requires
index-end-requires c =
    let b = c.self.inside in
    let r = list_read c.args.self.now b.starts.items b.ends.items b.items.items c.args.place c.self.view_is c.self.invariant c.requires in
    omega (arith, r.below, b.ends.ok.0)

pub slice_bounds-result-count : goal.slice_bounds-result-count
slice_bounds-result-count c =
    let b = c.self.inside in
    let r = list_read c.args.self.now b.starts.items b.ends.items b.items.items c.args.place c.self.view_is c.self.invariant c.requires in
    let f = c.index-start.ensures ∙ get_or_default_zero b.starts.items c.args.place c.index-start.result.now r.begins in
    let e = c.index-end.ensures ∙ get_or_default_zero b.ends.items c.args.place c.index-end.result.now r.below in
    omega (arith, f, e, r.ascending)

pub slice_bounds-result-start : goal.slice_bounds-result-start
slice_bounds-result-start c =
    let b = c.self.inside in
    let r = list_read c.args.self.now b.starts.items b.ends.items b.items.items c.args.place c.self.view_is c.self.invariant c.requires in
    let f = c.index-start.ensures ∙ get_or_default_zero b.starts.items c.args.place c.index-start.result.now r.begins in
    let e = c.index-end.ensures ∙ get_or_default_zero b.ends.items c.args.place c.index-end.result.now r.below in
    omega (arith, f, e, r.ascending)

pub slice_bounds-result-end : goal.slice_bounds-result-end
slice_bounds-result-end c =
    let b = c.self.inside in
    let r = list_read c.args.self.now b.starts.items b.ends.items b.items.items c.args.place c.self.view_is c.self.invariant c.requires in
    let e = c.index-end.ensures ∙ get_or_default_zero b.ends.items c.args.place c.index-end.result.now r.below in
    let k : c.index-end.result.now ≤ length b.items.items = omega (arith, r.inside) in
    let v = c.deref.ensures in
    search rules

pub offset_bounds-deref-start : goal.offset_bounds-deref-start
offset_bounds-deref-start c =
    let b = c.self.inside in
    let r = list_read c.args.self.now b.starts.items b.ends.items b.items.items c.args.place c.self.view_is c.self.invariant c.requires in
    let f = c.index-start.ensures ∙ get_or_default_zero b.starts.items c.args.place c.index-start.result.now r.begins in
    let k : c.index-start.result.now ≤ length b.items.items = omega (arith, r.ascending, r.inside) in
    let v = c.deref.ensures in
    search rules

pub returns : goal.returns
returns c =
    let b = c.self.inside in
    let r = list_read c.args.self.now b.starts.items b.ends.items b.items.items c.args.place c.self.view_is c.self.invariant c.requires in
    let f = c.index-start.ensures ∙ get_or_default_zero b.starts.items c.args.place c.index-start.result.now r.begins in
    let e = c.index-end.ensures ∙ get_or_default_zero b.ends.items c.args.place c.index-end.result.now r.below in
    let one : between c.index-start.result.now c.index-end.result.now c.deref.result.now ≡ between (get_or b.starts.items c.args.place 0) (get_or b.ends.items c.args.place 0) b.items.items
    = ap (λ xs. between c.index-start.result.now c.index-end.result.now xs) c.deref.ensures.value
    ∙ (ap (λ n. between n c.index-end.result.now b.items.items) f ∙ ap (λ n. between (get_or b.starts.items c.args.place 0) n b.items.items) e) in
    r.is ∙ ap Some (sym one)
