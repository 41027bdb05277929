use Rattle.std.proofs.Common.{◌≡◌, ◌<◌, ◌≤◌, ◌^◌, length, arith, rules}
use Rattle.liszt_base.specs.Limits.{token_limit}
use Rattle.phase_types.proofs.CheckedLemmas.{checked_few}
use Rattle.phase_types.proofs.checker.Checked.comps.Goals as goal

pub overflow_cast-result : goal.overflow_cast-result
overflow_cast-result c =
    let within = checked_few c.self.invariant in
    let few : length c.self.inside.program.comprehensions ≤ token_limit = within.comprehensions in
    let e : c.len.result ≡ length c.self.inside.program.comprehensions = search rules in
    let l : c.len.result < 2 ^ 32 = omega (arith, few, e) in
    search rules
