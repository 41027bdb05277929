use Rattle.std.proofs.Common.{rules, ap, ◌∙◌}
use Rattle.std.proofs.lemmas.Int.{to_z-of_z}
use Rattle.std.specs.Int.{w64}
use mir.Val.{SFits}
use Rattle.iteration_tests.specs.Logs.{value_in_log}
use Rattle.iteration_tests.proofs.LogLemmas.{is_load}
use Rattle.iteration_tests.proofs.logged.LoggedStoreWords.load.Goals as goal

pub returns : goal.returns
returns g c =
    let fine : SFits w64 c.value_at-value.result = search rules in
    rw (c.append.ensures, to_z-of_z w64 c.value_at-value.result fine) (is_load c.args.self.now.log c.args.spot c.value_at-value.result
    (c.value_at-value.ensures ∙ ap (λ log. value_in_log log c.args.spot) c.as_slice.ensures))
