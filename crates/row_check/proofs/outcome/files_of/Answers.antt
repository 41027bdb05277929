use Rattle.row_check.proofs.NameLemmas.{no_names}
use Rattle.row_check.proofs.outcome.files_of.Goals as goal

pub push_all-requires : goal.push_all-requires
push_all-requires c = no_names c.new-files.result c.new-files.ensures
