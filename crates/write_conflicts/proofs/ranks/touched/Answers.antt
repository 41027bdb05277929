use Rattle.std.proofs.Common.{map, sym, subst}
use Rattle.std.proofs.lemmas.Result.{IfOk-weaker}
use Rattle.write_conflicts.specs.Conflicts.{AreReducedSpots, AreTouched}
use Rattle.write_conflicts.specs.Internal.Rows.{spot_of, IsKeyTable}
use Rattle.write_conflicts.proofs.KeyLemmas.{are_reduced, is_key_table}
use Rattle.write_conflicts.proofs.RankLemmas.{are_touched}
use Rattle.write_conflicts.proofs.ranks.touched.Goals as goal

pub ranked_lists-requires : goal.ranked_lists-requires
ranked_lists-requires c =
    subst (IsKeyTable c.args.lists.now) (sym c.deref.ensures.value)
    (is_key_table c.args.lists.now c.in_ok-keys.keys.items c.sort_keys.new.keys.items c.in_ok-keys.ensures c.sort_keys.ensures.set
    c.sort_keys.ensures.bound c.requires)

pub returns : goal.returns
returns c =
    let lists = c.args.lists.now in
    let are =
    subst (λ keys. AreReducedSpots lists (map spot_of keys)) (sym c.deref.ensures.value)
    (are_reduced lists c.in_ok-keys.keys.items c.sort_keys.new.keys.items c.in_ok-keys.ensures c.sort_keys.ensures.set) in
    IfOk-weaker c.ranked_lists.result _ (AreTouched lists)
    (λ touched. are_touched lists (map spot_of c.deref.result.now) touched are) c.ranked_lists.ensures
