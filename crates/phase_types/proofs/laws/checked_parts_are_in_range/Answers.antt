use Rattle.std.proofs.Common.{subst, sym}
use Rattle.phase_types.specs.CheckedParts.{HasLowerParents}
use Rattle.phase_types.proofs.AccessLemmas.{modes_in_range, modes_allowed}
use Rattle.phase_types.proofs.CheckedLemmas.{checked_parts}
use Rattle.phase_types.proofs.ComprehensionLemmas.{scopes_nested}
use Rattle.phase_types.proofs.laws.checked_parts_are_in_range.Goals as goal

pub returns-clause-modes : goal.returns-clause-modes
returns-clause-modes c = modes_in_range

pub returns-clause-allowed : goal.returns-clause-allowed
returns-clause-allowed c = modes_allowed

pub returns-clause-scopes : goal.returns-clause-scopes
returns-clause-scopes c program checked is = subst HasLowerParents (sym (checked_parts program checked is).scopes) (scopes_nested program)
