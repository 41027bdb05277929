use Rattle.kernel_eval.proofs.ElementBindingLemmas.{after_body_block, after_statement}
use Rattle.kernel_eval.proofs.laws.blocks_restore_elements.Goals as goal

pub returns-clause-blocks : goal.returns-clause-blocks
returns-clause-blocks c = after_body_block

pub returns-clause-statements : goal.returns-clause-statements
returns-clause-statements c = after_statement
