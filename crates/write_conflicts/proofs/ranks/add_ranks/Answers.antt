use Rattle.std.proofs.Common.{sym, ◌∙◌, get_or}
use Rattle.liszt_base.specs.declared.accesses.Access.{Access}
use Rattle.liszt_base.specs.declared.accesses.Mode.TheVariants.{Read}
use Rattle.write_conflicts.proofs.MemberLemmas.{reduced_at}
use Rattle.write_conflicts.proofs.ranks.add_ranks.Goals as goal

pub rank-requires-clause-present : goal.rank-requires-clause-present
rank-requires-clause-present c =
    let none : Access = record { spot = record { field = 0; id = 0 }; mode = Read } in
    let k = c.loop-access.access-index in
    c.requires.all (get_or c.args.accesses.now k none).spot
    (reduced_at c.args.accesses.now k none c.loop-access-test.true (sym c.is_reduction.ensures ∙ c.if-is_reduction.true))
