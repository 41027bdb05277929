use Rattle.std.proofs.Common.{◌≡◌}
use Rattle.link_tests.specs.Rounds.{HasScript, RankIsAt, all_at, first_ones_at}
use Rattle.link_tests.proofs.table.post_round.Given as goal

abbrev pub invariant-loop-other : goal.invariant-loop-other
invariant-loop-other l =
    HasScript l.links l.fn.run.rounds l.s × RankIsAt l.links l.s l.rank (first_ones_at l.round l.other) (all_at l.round) × (l.p.size ≡ 7)
