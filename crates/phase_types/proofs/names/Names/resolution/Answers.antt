use Rattle.std.proofs.Common.{ap, ◌∙◌}
use Rattle.phase_types.specs.Resolve.{resolution_of}
use Rattle.phase_types.proofs.NameLemmas.{found_name}
use Rattle.phase_types.proofs.names.Names.resolution.Goals as goal

pub returns : goal.returns
returns c =
    c.copied.ensures ∙ c.get.ensures.value ∙ found_name (λ key. key.items) c.args.name.now c.self.inside.table.entries ∙ ap (λ names. resolution_of names c.args.name.now) c.self.view_is
