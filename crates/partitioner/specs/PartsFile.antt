-- The parts that a parts file spells, and its first fault. This project's own.
use Rattle.std.specs.Prelude.{◌≡◌, ℕ, ◌<◌, nat_lt, if◌then◌else◌, List, [], ◌∷◌, map, length}
use Rattle.std.specs.Prelude.{ℤ, pos, negsuc, Result, Ok, Err}
use Rattle.std.specs.List.{AllZip, enumerate_from}
use Rattle.std.specs.Result.{result_map_both}
use Rattle.liszt_base.specs.declared.answers.PartsFault.{PartsFault}
use Rattle.liszt_base.specs.declared.answers.PartsWhat.{PartsWhat}
use Rattle.liszt_base.specs.declared.answers.PartsWhat.TheVariants.{BadNumber, Count, RankRange}
use Rattle.text_scan.specs.Numbers.{whole_of}
use Rattle.text_scan.specs.Rows.{Row, TextRows}
use Rattle.text_scan.specs.declared.faults.NumberFault.{NumberFault}
use Rattle.partitioner.specs.PartLists.{Parts}

-- A ROW of a parts file is one word, a whole number from 0 to ranks - 1.
abbrev pub rank_among : ℕ → ℤ → Result ℕ PartsWhat
rank_among ranks (pos n) = if nat_lt n ranks then Ok n else Err RankRange
rank_among ranks (negsuc n) = Err RankRange

abbrev pub rank_of : ℕ → Result ℤ NumberFault → Result ℕ PartsWhat
rank_of ranks (Ok number) = rank_among ranks number
rank_of ranks (Err fault) = Err BadNumber

abbrev pub rank_of_words : ℕ → List (List ℕ) → Result ℕ PartsWhat
rank_of_words ranks (word ∷ []) = rank_of ranks (whole_of word)
rank_of_words ranks words = Err BadNumber

-- The rank of the row at an index, from 0. A row past the cells is Count, whatever its words are.
abbrev pub rank_at : ℕ → ℕ → ℕ → List (List ℕ) → Result ℕ PartsWhat
rank_at cells ranks index words =
    if nat_lt index cells then rank_of_words ranks words else Err Count

abbrev pub fault_at : ℕ → PartsWhat → PartsFault
fault_at line what = record { what = what; line = line }

-- The rank of a row with its index, or the fault of its line.
abbrev pub row_rank : ℕ → ℕ → ℕ × Row → Result ℕ PartsFault
row_rank cells ranks row =
    result_map_both (λ rank. rank) (fault_at row.1.line) (rank_at cells ranks row.0 row.1.words)

abbrev pub row_ranks : ℕ → ℕ → List Row → List (Result ℕ PartsFault)
row_ranks cells ranks rows = map (row_rank cells ranks) (enumerate_from 0 rows)

-- The values of a list of results, or the first fault.
abbrev pub all_or_first : {A F : Type 0} → List (Result A F) → Result (List A) F
all_or_first [] = Ok []
all_or_first (Ok value ∷ results) =
    result_map_both (λ values. value ∷ values) (λ fault. fault) (all_or_first results)
all_or_first (Err fault ∷ results) = Err fault

-- A FILE has a row for each cell, in the order of the
-- cells. Too few rows is Count at the last line.
abbrev pub enough_ranks : ℕ → ℕ → ℕ → Result (List ℕ) PartsFault → Result Parts PartsFault
enough_ranks cells ranks last (Ok list) =
    if nat_lt (length list) cells then Err (fault_at last Count)
    else Ok (record { list = list; ranks = ranks })
enough_ranks cells ranks last (Err fault) = Err fault

abbrev pub file_parts : ℕ → ℕ → TextRows → Result Parts PartsFault
file_parts cells ranks text =
    enough_ranks cells ranks text.last_line (all_or_first (row_ranks cells ranks text.rows))

-- The rows spell these ranks, one row for each cell. A law says that these are the parts of a file
-- that has no fault.
abbrev pub SpellsRank : ℕ → Row → ℕ → Type 0
SpellsRank ranks row rank =
    (word : List ℕ) × (row.words ≡ word ∷ []) × (whole_of word ≡ Ok (pos rank)) × (rank < ranks)

pub record SpellRanks (rows : List Row) (cells ranks : ℕ) (list : List ℕ) : Type 0 where
  pub count : length list ≡ cells
  pub each : AllZip (SpellsRank ranks) rows list
