use Rattle.std.proofs.Common.{ap, ◌∙◌, take}
use Rattle.phase_types.proofs.NameLemmas.{names_of, taken_names}
use Rattle.phase_types.proofs.names.Names.truncate.Goals as goal

pub returns : goal.returns
returns c =
    ap (names_of (λ key. key.items)) c.truncate.ensures.entries ∙ taken_names (λ key. key.items) c.args.len c.self.inside.table.entries ∙ ap (take c.args.len) c.self.view_is
