use Rattle.write_conflicts.proofs.KeyLemmas.{found_at, found_none}
use Rattle.write_conflicts.proofs.ranks.rank.Goals as goal

pub unreachable-requires : goal.unreachable-requires
unreachable-requires c =
    found_none c.args.keys.now c.key.result c.in-Err.field-0 (record { field = c.args.field; id = c.args.id }) c.requires.ascending
    c.in-Err.ensures.position c.key.ensures c.requires.present

pub returns : goal.returns
returns c =
    found_at c.args.keys.now c.key.result c.in-Ok.rank (record { field = c.args.field; id = c.args.id }) c.requires.ascending
    c.in-Ok.ensures.position c.key.ensures
