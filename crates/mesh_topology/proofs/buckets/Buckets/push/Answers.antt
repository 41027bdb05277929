use Rattle.std.proofs.Common.{◌∙◌, arith, rules}
use Rattle.std.proofs.lemmas.Grind.{get_or_default_zero}
use Rattle.mesh_topology.proofs.BucketLemmas.{has_capacity, push_is}
use Rattle.mesh_topology.proofs.buckets.Buckets.push.Goals as goal

pub index-end-requires : goal.index-end-requires
index-end-requires c =
    let b = c.self.inside in
    let r = has_capacity c.args.self.now b.starts.items b.ends.items b.items.items c.args.list c.self.view_is c.self.invariant c.requires.below c.requires.capacity in
    omega (arith, r.below, b.ends.ok.0)

pub index_mut-requires : goal.index_mut-requires
index_mut-requires c =
    let b = c.self.inside in
    let r = has_capacity c.args.self.now b.starts.items b.ends.items b.items.items c.args.list c.self.view_is c.self.invariant c.requires.below c.requires.capacity in
    let e = c.index-end.ensures ∙ get_or_default_zero b.ends.items c.args.list c.index-end.result.now r.below in
    omega (arith, e, r.inside, b.items.ok.0)

pub overflow_add-end : goal.overflow_add-end
overflow_add-end c =
    let b = c.self.inside in
    let r = has_capacity c.args.self.now b.starts.items b.ends.items b.items.items c.args.list c.self.view_is c.self.invariant c.requires.below c.requires.capacity in
    let e = c.index-end.ensures ∙ get_or_default_zero b.ends.items c.args.list c.index-end.result.now r.below in
    let i = r.inside in
    search rules

pub index_mut-requires-2 : goal.index_mut-requires-2
index_mut-requires-2 c =
    let b = c.self.inside in
    let r = has_capacity c.args.self.now b.starts.items b.ends.items b.items.items c.args.list c.self.view_is c.self.invariant c.requires.below c.requires.capacity in
    omega (arith, r.below, b.ends.ok.0)

pub invariant_of-self : goal.invariant_of-self
invariant_of-self c =
    let b = c.self.inside in
    let r = has_capacity c.args.self.now b.starts.items b.ends.items b.items.items c.args.list c.self.view_is c.self.invariant c.requires.below c.requires.capacity in
    let e = c.index-end.ensures ∙ get_or_default_zero b.ends.items c.args.list c.index-end.result.now r.below in
    (push_is c.args.self.now b.starts.items b.ends.items b.items.items c.args.list c.args.id c.index-end.result.now c.self.view_is c.self.invariant r e).apart

pub returns-clause-lists : goal.returns-clause-lists
returns-clause-lists c =
    let b = c.self.inside in
    let r = has_capacity c.args.self.now b.starts.items b.ends.items b.items.items c.args.list c.self.view_is c.self.invariant c.requires.below c.requires.capacity in
    let e = c.index-end.ensures ∙ get_or_default_zero b.ends.items c.args.list c.index-end.result.now r.below in
    (push_is c.args.self.now b.starts.items b.ends.items b.items.items c.args.list c.args.id c.index-end.result.now c.self.view_is c.self.invariant r e).lists
