use Rattle.std.proofs.Common.{◌≡◌}
use Rattle.link_tests.specs.Rounds.{HasScript, RankIsAt, all_at}
use Rattle.link_tests.proofs.table.run_rank.Given as goal

abbrev pub invariant-loop-round : goal.invariant-loop-round
invariant-loop-round l =
    HasScript l.links l.run.rounds l.s × RankIsAt l.links l.s l.rank (all_at l.round) (all_at l.round) × (l.p.size ≡ 7)
