use Rattle.stencil_infer.proofs.CodeComprehensionLemmas.{checked_walk}
use Rattle.stencil_infer.proofs.walks.code_is_walked_as_its_tree.Goals as goal

pub returns-clause-accesses : goal.returns-clause-accesses
returns-clause-accesses c program checked k code comprehension is at of mesh id slots long =
    (checked_walk program checked k code comprehension is at of mesh id slots long).accesses

pub returns-clause-visits : goal.returns-clause-visits
returns-clause-visits c program checked k code comprehension is at of mesh id slots long =
    (checked_walk program checked k code comprehension is at of mesh id slots long).visits
