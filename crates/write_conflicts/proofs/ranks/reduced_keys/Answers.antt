use Rattle.write_conflicts.proofs.RankLemmas.{keys_more}
use Rattle.write_conflicts.proofs.ranks.reduced_keys.Goals as goal

pub loop-i-preserved : goal.loop-i-preserved
loop-i-preserved c =
    keys_more c.args.lists.now c.loop-i.i c.of.result.now c.loop-i.keys.items c.add_keys.new.keys.items c.of.ensures c.loop-i.invariant
    c.in_ok-add_keys.ensures
