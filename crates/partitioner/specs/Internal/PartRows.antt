-- The parts of rows, whatever their number. Private functions' contracts cite it.
use Rattle.std.specs.Prelude.{ℕ, List, Result}
use Rattle.std.specs.Result.{result_map_both}
use Rattle.liszt_base.specs.declared.answers.PartsFault.{PartsFault}
use Rattle.text_scan.specs.Rows.{Row}
use Rattle.partitioner.specs.PartLists.{Parts}
use Rattle.partitioner.specs.PartsFile.{all_or_first, row_ranks}

abbrev pub with_ranks : ℕ → Result (List ℕ) PartsFault → Result Parts PartsFault
with_ranks ranks = result_map_both (λ list. record { list = list; ranks = ranks }) (λ fault. fault)

abbrev pub parts_of_rows : ℕ → ℕ → List Row → Result Parts PartsFault
parts_of_rows cells ranks rows = with_ranks ranks (all_or_first (row_ranks cells ranks rows))
