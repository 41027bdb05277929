use Rattle.std.proofs.Common.{ap, ◌∙◌, sym, subst, ◌++◌, ◌∷◌, []}
use Rattle.std.proofs.lemmas.List.{map-append}
use Rattle.resolved_code.specs.Accesses.{first_access}
use Rattle.resolved_code.proofs.AccessLemmas.{inserted, with_key, HasKeys, accesses_of}
use Rattle.resolved_code.proofs.first_accesses.FirstAccesses.add.Goals as goal

pub invariant_of-self-2 : goal.invariant_of-self-2
invariant_of-self-2 c =
    subst HasKeys
    (sym (c.in_ok-insert.ensures.entries ∙ inserted c.self.inside.table.entries c.args.access c.self.invariant (ap (λ accesses. first_access accesses c.args.access.subject) c.self.view_is ∙ c.requires)))
    (with_key c.self.inside.table.entries c.args.access c.self.invariant)

pub returns-clause-ok : goal.returns-clause-ok
returns-clause-ok c =
    ap accesses_of
    (c.in_ok-insert.ensures.entries ∙ inserted c.self.inside.table.entries c.args.access c.self.invariant (ap (λ accesses. first_access accesses c.args.access.subject) c.self.view_is ∙ c.requires))
    ∙ map-append (λ entry. entry.1) c.self.inside.table.entries ((c.args.access.subject, c.args.access) ∷ []) ∙ ap (λ accesses. accesses ++ c.args.access ∷ []) c.self.view_is
