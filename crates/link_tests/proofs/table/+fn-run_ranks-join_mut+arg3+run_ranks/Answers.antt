use Rattle.std.proofs.Common.{rules, ◌<◌, ◌+◌, arith}
use Rattle.link_tests.specs.Rounds.{HasScript, RankIsAt, RanksStart, all_at}
use Rattle.link_tests.proofs.TableLemmas.{handed_rank, handed_script, kept_ranks, kept_script, rank_is_idle}
use Rattle.link_tests.proofs.table.+fn-run_ranks-join_mut+arg3+run_ranks.Goals as goal

pub split-given-requires-clause-ends : goal.split-given-requires-clause-ends
split-given-requires-clause-ends g n c =
    let lt : c.args.first < c.args.run.ranks = search rules in
    let inside : c.args.first < c.args.links.now.layout.ranks = let e = c.requires.ranks in omega arith in
    rank_is_idle c.args.links.now c.args.s.now c.args.first c.args.first c.requires.ends (omega arith) inside

pub join_mut-requires-after_bounds : goal.join_mut-requires-after_bounds
join_mut-requires-after_bounds g n c κs within =
    let lt : c.args.first < c.args.run.ranks = search rules in
    let inside : c.args.first < c.args.links.now.layout.ranks = let e = c.requires.ranks in omega arith in
    let given_script : HasScript c.args.links.now c.args.run.rounds c.split-given.result =
    handed_script c.args.links.now c.args.run.rounds c.args.first c.args.s.now c.split-given.result c.requires.script c.split-given.ensures.new in
    let given_ends : RankIsAt c.args.links.now c.split-given.result c.args.first (all_at 0) (all_at 0) =
    handed_rank c.args.links.now c.args.first c.args.s.now c.split-given.result c.requires.script.links c.requires.ends inside c.split-given.ensures.new in
    let rest_script : HasScript c.args.links.now c.args.run.rounds c.split-given.new.s =
    kept_script c.args.links.now c.args.run.rounds c.args.first c.args.s.now c.split-given.new.s c.requires.script c.split-given.ensures.seat in
    let rest_ends : RanksStart c.args.links.now c.split-given.new.s (c.args.first + 1) =
    kept_ranks c.args.links.now c.args.first c.args.s.now c.split-given.new.s c.requires.script.links c.requires.ends c.split-given.ensures.seat in
    let ranks = c.requires.ranks in
    let few = c.requires.few in
    let sizes = c.requires.sizes in
    search rules
