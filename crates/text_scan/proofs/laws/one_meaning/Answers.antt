use Rattle.text_scan.proofs.MeaningLemmas.{computed, one}
use Rattle.text_scan.proofs.laws.one_meaning.Goals as goal

pub returns-clause-computed : goal.returns-clause-computed
returns-clause-computed c = computed

pub returns-clause-unique : goal.returns-clause-unique
returns-clause-unique c = one
