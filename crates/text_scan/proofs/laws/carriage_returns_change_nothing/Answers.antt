use Rattle.text_scan.proofs.RowLemmas.{carriage_returns_change_nothing}
use Rattle.text_scan.proofs.laws.carriage_returns_change_nothing.Goals as goal

pub returns : goal.returns
returns c = carriage_returns_change_nothing
