use Rattle.std.proofs.Common.{get_or, sym, subst, arith}
use Rattle.mesh_topology.specs.Internal.Incidence.{AreOthersAppended}
use Rattle.mesh_topology.proofs.PartnerLemmas.{joined_none, joined_two}
use Rattle.mesh_topology.proofs.LookupLemmas.{two_listed}
use Rattle.mesh_topology.proofs.incidence.add_partners.Goals as goal

pub returns-else-list-eq2 : goal.returns-else-list-eq2
returns-else-list-eq2 g c = joined_none c.args.list.now c.args.rows.now (omega (arith, c.requires.at_most_two, c.if-list-eq2.false))

pub returns-then-list-eq2 : goal.returns-then-list-eq2
returns-then-list-eq2 g c =
    let list = c.args.list.now in
    let two = c.if-list-eq2.true in
    let both = joined_two (get_or list 0 0) (get_or list 1 0) c.args.rows.now c.push.new.self c.push-then-list-eq2.new.self (c.requires.ascending 0 1 0 (omega arith) (omega arith)) (c.requires.below 0 0 (omega arith)) (c.requires.below 1 0 (omega arith))
    c.push.ensures c.push-then-list-eq2.ensures in
    subst (λ xs. AreOthersAppended xs c.args.rows.now c.push-then-list-eq2.new.self) (sym (two_listed list two)) both
