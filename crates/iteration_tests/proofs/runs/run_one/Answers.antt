use Rattle.std.proofs.Common.{◌≡◌, ◌<◌, length, refl, rules, arith}
use Rattle.mesh_topology.specs.Elements.{count}
use Rattle.iteration_tests.specs.Logs.{view_of}
use Rattle.kernel_eval.proofs.HeldStateLemmas.{can_over_store}
use Rattle.iteration_tests.proofs.runs.run_one.Goals as goal

pub run_iteration-requires-clause-can : goal.run_iteration-requires-clause-can
run_iteration-requires-clause-can g c =
    let same : length c.args.scalars.now ≡ length c.args.c.now.scalars = search rules in
    let below : c.args.id < count c.args.m.now c.comp_kind.result = omega (arith, c.if-id-count.false, c.count.ensures) in
    can_over_store c.args.c.now 0 c.comp_kind.result c.args.m.now c.args.turns c.args.id c.args.scalars.now c.begin.new.self.activation (view_of c.args.store.now.log)
    c.is_checked.ensures.program c.comp_kind.ensures same c.begin.ensures.begun below (record { loadable = λ index info id is inside. refl; storable = λ index info id is inside. refl })
