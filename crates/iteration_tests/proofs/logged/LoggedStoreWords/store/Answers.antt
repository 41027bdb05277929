use Rattle.std.proofs.Common.{rules}
use Rattle.std.proofs.lemmas.Int.{to_z-of_z}
use Rattle.std.specs.Int.{w64}
use mir.Val.{SFits}
use Rattle.iteration_tests.proofs.LogLemmas.{is_store}
use Rattle.iteration_tests.proofs.logged.LoggedStoreWords.store.Goals as goal

pub returns : goal.returns
returns g c =
    let fine : SFits w64 c.args.value = search rules in
    rw (c.append.ensures, to_z-of_z w64 c.args.value fine) (is_store c.args.self.now.log c.args.spot c.args.value)
