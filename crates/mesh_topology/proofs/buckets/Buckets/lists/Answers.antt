use Rattle.std.proofs.Common.{◌<◌, ◌≤◌, ◌∷◌, ◌++◌, [], ap, length, ◌∙◌, arith, rules}
use Rattle.std.specs.List.{between}
use Rattle.std.proofs.lemmas.Grind.{get_or_default_zero}
use Rattle.mesh_topology.proofs.BucketLemmas.{list_step, list_all, part_inside}
use Rattle.mesh_topology.proofs.buckets.Buckets.lists.Goals as goal

pub slice_bounds-push-count : goal.slice_bounds-push-count
slice_bounds-push-count c =
    let b = c.self.inside in
    let l : c.loop-i.i < length b.ends.items = omega (arith, c.len-i-end.ensures, b.ends.ok.0) in
    let m : c.loop-i.i < length b.starts.items = omega (arith, c.self.invariant.length_is) in
    let f = c.index.ensures ∙ get_or_default_zero b.starts.items c.loop-i.i c.index.result.now m in
    let e = c.index-in-loop-i.ensures ∙ get_or_default_zero b.ends.items c.loop-i.i c.index-in-loop-i.result.now l in
    omega (arith, f, e, c.self.invariant.begins c.loop-i.i l)

pub slice_bounds-push-end : goal.slice_bounds-push-end
slice_bounds-push-end c =
    let b = c.self.inside in
    let l : c.loop-i.i < length b.ends.items = omega (arith, c.len-i-end.ensures, b.ends.ok.0) in
    let e = c.index-in-loop-i.ensures ∙ get_or_default_zero b.ends.items c.loop-i.i c.index-in-loop-i.result.now l in
    let p = part_inside b.starts.items b.ends.items b.items.items c.self.invariant c.loop-i.i l in
    let k : c.index-in-loop-i.result.now ≤ length b.items.items = omega arith in
    let v = c.deref.ensures in
    search rules

pub offset_bounds-deref-index : goal.offset_bounds-deref-index
offset_bounds-deref-index c =
    let b = c.self.inside in
    let l : c.loop-i.i < length b.ends.items = omega (arith, c.len-i-end.ensures, b.ends.ok.0) in
    let m : c.loop-i.i < length b.starts.items = omega (arith, c.self.invariant.length_is) in
    let f = c.index.ensures ∙ get_or_default_zero b.starts.items c.loop-i.i c.index.result.now m in
    let e = c.index-in-loop-i.ensures ∙ get_or_default_zero b.ends.items c.loop-i.i c.index-in-loop-i.result.now l in
    let p = part_inside b.starts.items b.ends.items b.items.items c.self.invariant c.loop-i.i l in
    let k : c.index.result.now ≤ length b.items.items = omega (arith, c.self.invariant.begins c.loop-i.i l) in
    let v = c.deref.ensures in
    search rules

pub loop-i-preserved : goal.loop-i-preserved
loop-i-preserved c =
    let b = c.self.inside in
    let l : c.loop-i.i < length b.ends.items = omega (arith, c.len-i-end.ensures, b.ends.ok.0) in
    let m : c.loop-i.i < length b.starts.items = omega (arith, c.self.invariant.length_is) in
    let f = c.index.ensures ∙ get_or_default_zero b.starts.items c.loop-i.i c.index.result.now m in
    let e = c.index-in-loop-i.ensures ∙ get_or_default_zero b.ends.items c.loop-i.i c.index-in-loop-i.result.now l in
    list_step c.args.self.now b.starts.items b.ends.items b.items.items c.loop-i.i c.index.result.now c.index-in-loop-i.result.now c.loop-i.lists c.push.new.self c.self.view_is l f e c.loop-i.invariant
    (c.in_ok-push.ensures.ok ∙ ap (λ xs. c.loop-i.lists ++ between c.index.result.now c.index-in-loop-i.result.now xs ∷ []) c.deref.ensures.value)

pub returns : goal.returns
returns c =
    let b = c.self.inside in
    list_all c.args.self.now b.starts.items b.ends.items b.items.items c.loop-i.i c.loop-i.lists c.self.view_is (omega (arith, c.len-i-end.ensures, b.ends.ok.0, c.loop-i.auto.i-end)) c.loop-i.invariant
