use Rattle.std.proofs.Common.{◌∙◌, subst}
use Rattle.liszt_base.specs.Gives.{Gives}
use Rattle.liszt_tree.specs.Tree.{program_tree}
use Rattle.phase_types.specs.Checked.{checked_program}
use Rattle.phase_types.proofs.CheckedLemmas.{checked_parts, checked_is_typed, only_fault}
use Rattle.phase_types.proofs.checker.check.Goals as goal

pub invariant_of-result : goal.invariant_of-result
invariant_of-result c =
    record { program = program_tree c.args.p.now; items = c.requires; is = subst (Gives (checked_program (program_tree c.args.p.now))) c.in-Ok.is c.check_program.ensures }

pub returns-in-Ok-clause-typed : goal.returns-in-Ok-clause-typed
returns-in-Ok-clause-typed c =
    checked_is_typed (program_tree c.args.p.now) c.in-Ok.program (subst (Gives (checked_program (program_tree c.args.p.now))) c.in-Ok.is c.check_program.ensures)

pub returns-in-Ok-clause-parts : goal.returns-in-Ok-clause-parts
returns-in-Ok-clause-parts c =
    checked_parts (program_tree c.args.p.now) c.in-Ok.program (subst (Gives (checked_program (program_tree c.args.p.now))) c.in-Ok.is c.check_program.ensures)

pub returns-in-Err-clause-fault : goal.returns-in-Err-clause-fault
returns-in-Err-clause-fault c fault e =
    only_fault (program_tree c.args.p.now) fault (subst (Gives (checked_program (program_tree c.args.p.now))) (c.in-Err.is ∙ e) c.check_program.ensures)
