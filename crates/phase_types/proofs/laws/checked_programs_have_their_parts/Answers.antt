use Rattle.phase_types.proofs.CheckedLemmas.{checked_parts, checked_within, items_are_nodes}
use Rattle.phase_types.proofs.laws.checked_programs_have_their_parts.Goals as goal

pub returns-clause-parts : goal.returns-clause-parts
returns-clause-parts c = checked_parts

pub returns-clause-within : goal.returns-clause-within
returns-clause-within c = checked_within

pub returns-clause-items : goal.returns-clause-items
returns-clause-items c = items_are_nodes
