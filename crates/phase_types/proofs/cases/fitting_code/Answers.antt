use Rattle.std.proofs.Common.{rules}
use Rattle.resolved_code.specs.declared.expressions.ElementCode.{the_lemmas as element_lemmas}
use Rattle.resolved_code.specs.declared.expressions.NumberCode.{the_lemmas as number_lemmas}
use Rattle.resolved_code.specs.declared.statements.StatementCode.{the_lemmas as statement_lemmas}
use Rattle.phase_types.proofs.cases.fitting_code.Goals as goal

pub returns-clause-last_slot : goal.returns-clause-last_slot
returns-clause-last_slot c = search (rules, statement_lemmas, number_lemmas)

pub returns-clause-no_slot : goal.returns-clause-no_slot
returns-clause-no_slot c = search (rules, statement_lemmas, number_lemmas)

pub returns-clause-last_scalar : goal.returns-clause-last_scalar
returns-clause-last_scalar c = search (rules, statement_lemmas, number_lemmas)

pub returns-clause-no_scalar : goal.returns-clause-no_scalar
returns-clause-no_scalar c = search (rules, statement_lemmas, number_lemmas)

pub returns-clause-right_kind : goal.returns-clause-right_kind
returns-clause-right_kind c = search (rules, number_lemmas, element_lemmas)

pub returns-clause-wrong_kind : goal.returns-clause-wrong_kind
returns-clause-wrong_kind c = search (rules, number_lemmas, element_lemmas)

pub returns-clause-no_field : goal.returns-clause-no_field
returns-clause-no_field c = search (rules, number_lemmas, element_lemmas)
