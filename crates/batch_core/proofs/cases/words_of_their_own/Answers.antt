use Rattle.std.proofs.Common.{pos}
use Rattle.liszt_base.specs.declared.elements.Op.TheVariants.{Add, Max}
use Rattle.batch_core.proofs.CaseLemmas.{two_words_apart}
use Rattle.batch_core.proofs.cases.words_of_their_own.Goals as goal

pub returns-clause-apart : goal.returns-clause-apart
returns-clause-apart c = two_words_apart (pos 10) (pos 20) Add Max (pos 5) (pos 7)
