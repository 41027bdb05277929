use Rattle.std.proofs.Common.{refl}
use Rattle.phase_types.specs.Environments.{FieldPart, ScalarPart, ComprehensionPart, ScopePart, field_part, scalar_part, comprehension_part, scope_part}
use Rattle.phase_types.proofs.PartLemmas.{item_is_prefix, main_is_prefix, part_at}
use Rattle.phase_types.proofs.laws.parts_are_numbered_in_order.Goals as goal

pub returns-clause-after_item : goal.returns-clause-after_item
returns-clause-after_item c = item_is_prefix

pub returns-clause-after_items : goal.returns-clause-after_items
returns-clause-after_items c = main_is_prefix

pub returns-clause-fields : goal.returns-clause-fields
returns-clause-fields c before rest info = part_at field_part before rest (FieldPart info) info refl

pub returns-clause-scalars : goal.returns-clause-scalars
returns-clause-scalars c before rest name = part_at scalar_part before rest (ScalarPart name) name refl

pub returns-clause-comprehensions : goal.returns-clause-comprehensions
returns-clause-comprehensions c before rest met = part_at comprehension_part before rest (ComprehensionPart met) met refl

pub returns-clause-scopes : goal.returns-clause-scopes
returns-clause-scopes c before rest parent = part_at scope_part before rest (ScopePart parent) parent refl
