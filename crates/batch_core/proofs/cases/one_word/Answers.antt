use Rattle.batch_core.proofs.CaseLemmas.{one_word_not_apart}
use Rattle.batch_core.proofs.cases.one_word.Goals as goal

pub returns-clause-not_apart : goal.returns-clause-not_apart
returns-clause-not_apart c = one_word_not_apart
