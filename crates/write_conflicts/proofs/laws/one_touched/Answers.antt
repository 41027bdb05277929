use Rattle.write_conflicts.proofs.LawLemmas as lemmas
use Rattle.write_conflicts.proofs.laws.one_touched.Goals as goal

pub returns : goal.returns
returns c = record { unique = lemmas.one_touched; one_each = lemmas.one_each }
