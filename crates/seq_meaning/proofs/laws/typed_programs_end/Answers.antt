use Rattle.seq_meaning.proofs.TypedRunLemmas.{run_ends}
use Rattle.seq_meaning.proofs.laws.typed_programs_end.Goals as goal

pub returns : goal.returns
returns c mesh program turns is_mesh typed = run_ends mesh turns is_mesh program typed
