use Rattle.seq_meaning.proofs.PathEntryLemmas.{path_fits, run_has_fitting_path}
use Rattle.seq_meaning.proofs.laws.entries_fit_their_program.Goals as goal

pub returns-clause-entries : goal.returns-clause-entries
returns-clause-entries c mesh program turns typed = path_fits mesh turns program typed

pub returns-clause-fields : goal.returns-clause-fields
returns-clause-fields c mesh program turns typed = (run_has_fitting_path mesh turns program typed).fields
