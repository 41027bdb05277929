use Rattle.std.proofs.Common.{◌≡◌, ◌+◌}
use Rattle.link_tests.specs.Rounds.{HasScript, RankIsAt, all_at, first_ones_at}
use Rattle.link_tests.proofs.table.take_round.Given as goal

abbrev pub invariant-loop-other : goal.invariant-loop-other
invariant-loop-other l =
    HasScript l.links l.fn.run.rounds l.s × RankIsAt l.links l.s l.rank (all_at (l.round + 1)) (first_ones_at l.round l.other) × (l.p.size ≡ 7)
