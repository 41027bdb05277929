use Rattle.std.proofs.Common.{length, ap, arith}
use Rattle.mesh_topology.proofs.BucketLemmas.{lists_length}
use Rattle.mesh_topology.proofs.buckets.Buckets.len.Goals as goal

pub returns : goal.returns
returns c =
    let b = c.self.inside in
    let e = ap (λ f. length f.lists) c.self.view_is in
    omega (arith, e, lists_length b.starts.items b.ends.items b.items.items, b.ends.ok.0)
