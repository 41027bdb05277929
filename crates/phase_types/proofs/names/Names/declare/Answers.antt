use Rattle.std.proofs.Common.{ap, ◌∙◌, ◌++◌, ◌∷◌, []}
use Rattle.phase_types.specs.Resolve.{resolution_of}
use Rattle.phase_types.proofs.NameLemmas.{names_of, inserted_name}
use Rattle.phase_types.proofs.names.Names.declare.Goals as goal

pub returns : goal.returns
returns c =
    ap (names_of (λ key. key.items)) c.in_ok-insert.ensures.entries
    ∙ inserted_name (λ key. key.items) c.self.inside.table.entries c.in_ok-key.key c.args.denoted
    (ap (λ names. resolution_of names c.in_ok-key.key.items) c.self.view_is ∙ ap (resolution_of c.args.self.now) c.in_ok-key.ensures.items ∙ c.requires)
    ∙ ap (λ names. names ++ (c.in_ok-key.key.items, c.args.denoted) ∷ []) c.self.view_is
    ∙ ap (λ name. c.args.self.now ++ (name, c.args.denoted) ∷ []) c.in_ok-key.ensures.items
