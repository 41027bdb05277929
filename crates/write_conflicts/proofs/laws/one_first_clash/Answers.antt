use Rattle.write_conflicts.proofs.LawLemmas as lemmas
use Rattle.write_conflicts.proofs.laws.one_first_clash.Goals as goal

pub returns : goal.returns
returns c = lemmas.one_first
