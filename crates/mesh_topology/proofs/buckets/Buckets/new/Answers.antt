use Rattle.std.proofs.Common.{◌≡◌, ◌<◌, length, get_or, ◌∙◌, arith, rules}
use Rattle.std.proofs.lemmas.Grind.{get_or_default_zero}
use Rattle.mesh_topology.proofs.BucketLemmas.{empty_with}
use Rattle.mesh_topology.proofs.buckets.Buckets.new.Goals as goal

pub returns : goal.returns
returns c =
    let capacities = c.args.capacities.now in
    let starts = c.in_ok-starts.starts.items in
    let size = c.index.result.now in
    let last : length capacities < length starts = omega (arith, c.in_ok-starts.ensures.length_is) in
    let is : size ≡ get_or starts (length capacities) 0 = c.index.ensures ∙ get_or_default_zero starts (length capacities) size last in
    let full : length c.in_ok-items.items.items ≡ size = omega (arith, c.in_ok-items.ensures.len, c.in_ok-items.items.ok.0) in
    empty_with capacities starts c.in_ok-ends.ends.items c.in_ok-items.items.items c.in_ok-starts.ensures (search rules) (full ∙ is)
