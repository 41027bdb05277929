use Rattle.seq_meaning.proofs.ItemCodeLemmas.{checked_is_code}
use Rattle.seq_meaning.proofs.laws.checked_programs_are_code.Goals as goal

pub returns : goal.returns
returns c program checked is = checked_is_code program checked is
