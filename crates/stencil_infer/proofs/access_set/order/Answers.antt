use Rattle.std.proofs.Common.{◌≡◌, rules}
use Rattle.std.proofs.lemmas.Fn.{always_returns_same, dedup_same}
use Rattle.stencil_infer.proofs.SetLemmas.{key, same_spot, order_ascends, order_keeps}
use Rattle.stencil_infer.proofs.access_set.order.Goals as goal

pub returns : goal.returns
returns c =
    let kept = dedup_same _ same_spot _ (λ x y b f' x' y' k. search rules) _ _ c.dedup_by_key.ensures.filtered in
    let sorted = c.sort_unstable_by_key.ensures.sorted key (always_returns_same _ (λ a r. r ≡ key a.0.now) _ (λ a r f' k. search rules)) in
    record { ascending = order_ascends _ _ sorted kept; members = order_keeps _ _ _ c.sort_unstable_by_key.ensures.permutation kept }
