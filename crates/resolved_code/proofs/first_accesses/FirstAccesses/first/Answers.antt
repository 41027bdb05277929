use Rattle.std.proofs.Common.{ap, ◌∙◌}
use Rattle.resolved_code.specs.Accesses.{first_access}
use Rattle.resolved_code.proofs.AccessLemmas.{found_first}
use Rattle.resolved_code.proofs.first_accesses.FirstAccesses.first.Goals as goal

pub returns : goal.returns
returns c =
    c.copied.ensures ∙ c.get.ensures.value ∙ found_first c.args.subject c.self.inside.table.entries c.self.invariant
    ∙ ap (λ accesses. first_access accesses c.args.subject) c.self.view_is
