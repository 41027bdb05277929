use Rattle.write_conflicts.proofs.LawLemmas as lemmas
use Rattle.write_conflicts.proofs.laws.touched_share_numbers.Goals as goal

pub returns : goal.returns
returns c = lemmas.share_numbers
