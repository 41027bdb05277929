use Rattle.phase_types.proofs.BindingLemmas.{start_binds, item_binds, main_binds, block_binds, denotes_later, item_keeps, main_keeps}
use Rattle.phase_types.proofs.laws.bindings_denote_parts.Goals as goal

pub returns-clause-start : goal.returns-clause-start
returns-clause-start c = start_binds

pub returns-clause-after_item : goal.returns-clause-after_item
returns-clause-after_item c = item_binds

pub returns-clause-after_items : goal.returns-clause-after_items
returns-clause-after_items c = main_binds

pub returns-clause-block : goal.returns-clause-block
returns-clause-block c = block_binds

pub returns-clause-later_parts : goal.returns-clause-later_parts
returns-clause-later_parts c = denotes_later

pub returns-clause-unchanged_by_item : goal.returns-clause-unchanged_by_item
returns-clause-unchanged_by_item c = item_keeps

pub returns-clause-unchanged_by_items : goal.returns-clause-unchanged_by_items
returns-clause-unchanged_by_items c = main_keeps
