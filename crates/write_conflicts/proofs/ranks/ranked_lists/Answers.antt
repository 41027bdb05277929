use Rattle.std.proofs.Common.{[], ◌++◌, ◌∙◌, Some, map, sym, ap, subst}
use Rattle.std.specs.Prelude.{slice_get}
use Rattle.std.specs.List.{Contains}
use Rattle.std.proofs.lemmas.Option.{get_or_from_slice_get}
use Rattle.write_conflicts.specs.Conflicts.{reduced_spots}
use Rattle.write_conflicts.specs.Internal.Rows.{spot_of}
use Rattle.write_conflicts.proofs.RankLemmas.{ranks_more}
use Rattle.write_conflicts.proofs.ranks.ranked_lists.Goals as goal

pub add_ranks-requires-clause-all : goal.add_ranks-requires-clause-all
add_ranks-requires-clause-all c = λ spot m.
    c.requires.all c.loop-i.i spot
    (subst (λ l. Contains (reduced_spots l) spot) (sym (get_or_from_slice_get c.args.lists.now c.loop-i.i c.of.result.now [] c.of.ensures)) m)

pub loop-i-preserved : goal.loop-i-preserved
loop-i-preserved c =
    let spots = map spot_of c.args.keys.now in
    let ranks = c.as_slice.result.now in
    ranks_more spots c.args.lists.now c.loop-i.i c.of.result.now c.loop-i.touched c.push.new.self ranks c.of.ensures c.loop-i.invariant
    (ap (map (slice_get spots)) c.as_slice.ensures.value
    ∙ (c.in_ok-add_ranks.ensures
    ∙ ap (λ l. map (slice_get spots) l ++ map (λ spot. Some spot) (reduced_spots c.of.result.now)) c.clear.ensures.items))
    c.in_ok-push.ensures.ok
