-- The ranks of rows as they are read one after the other.
use Rattle.std.proofs.Common.{◌≡◌, ℕ, zero, suc, ◌+◌, ◌<◌, ◌≤◌, List, [], ◌∷◌, ◌++◌, map, drop, length}
use Rattle.std.proofs.Common.{refl, sym, ap, ◌∙◌, arith, append_assoc, add-zero, zero-add}
use Rattle.std.proofs.lemmas.List.{append-nil, drop_all, length-map}
use Rattle.std.proofs.lemmas.List.FromFn.{length-enumerate_from}
use Rattle.std.specs.Prelude.{Result, Ok, Err}
use Rattle.std.specs.List.{enumerate_from}
use Rattle.std.specs.Result.{result_map_both}
use Rattle.liszt_base.specs.declared.answers.PartsFault.{PartsFault}
use Rattle.liszt_base.specs.declared.answers.PartsWhat.{PartsWhat}
use Rattle.text_scan.specs.Rows.{Row, row_at}
use Rattle.partitioner.specs.Internal.PartRows.{with_ranks, parts_of_rows}
use Rattle.partitioner.specs.PartLists.{Parts}
use Rattle.partitioner.specs.PartsFile.{rank_at, fault_at, row_rank, row_ranks, all_or_first}

-- A list of ranks followed by those of the rest, or the rest's fault.
abbrev pub with_front : List ℕ → Result (List ℕ) PartsFault → Result (List ℕ) PartsFault
with_front front = result_map_both (λ rest. front ++ rest) (λ fault. fault)

front_more : (front : List ℕ) (rank : ℕ) (rest : Result (List ℕ) PartsFault)
    → with_front front (result_map_both (λ ranks. rank ∷ ranks) (λ fault. fault) rest)
    ≡ with_front (front ++ rank ∷ []) rest
front_more front rank (Ok rest) = ap Ok (sym (append_assoc front (rank ∷ []) rest))
front_more front rank (Err fault) = refl

front_none : (rest : Result (List ℕ) PartsFault) → rest ≡ with_front [] rest
front_none (Ok rest) = refl
front_none (Err fault) = refl

-- The rows up to an index have these ranks.
pub record AreRead (cells ranks : ℕ) (rows : List Row) (list : List ℕ) (index : ℕ) : Type 0 where
  pub parted : all_or_first (row_ranks cells ranks rows)
      ≡ with_front list (all_or_first (drop index (row_ranks cells ranks rows)))

row_at_front : (f : ℕ × Row → Result ℕ PartsFault) (number : ℕ) (rows : List Row) (index : ℕ)
    → index < length rows → drop index (map f (enumerate_from number rows))
    ≡ f (number + index, row_at rows index) ∷ drop (index + 1) (map f (enumerate_from number rows))
row_at_front f number [] index lt = absurd (omega arith)
row_at_front f number (row ∷ rows) zero lt =
    ap (λ k. f (k, row) ∷ map f (enumerate_from (number + 1) rows)) (sym (add-zero number))
row_at_front f number (row ∷ rows) (suc index) lt =
    let at : suc (index + 1) ≡ suc index + 1 = omega arith in
    let is : number + 1 + index ≡ number + suc index = omega arith in
    let all = map f (enumerate_from number (row ∷ rows)) in
    row_at_front f (number + 1) rows index (omega arith)
    ∙ ap (λ k. f (k, row_at rows index) ∷ drop (suc (index + 1)) all) is
    ∙ ap (λ k. f (number + suc index, row_at rows index) ∷ drop k all) at

rank_at_front : (cells ranks : ℕ) (rows : List Row) (index : ℕ) (found : Result ℕ PartsWhat)
    → index < length rows → rank_at cells ranks index (row_at rows index).words ≡ found
    → drop index (row_ranks cells ranks rows)
    ≡ result_map_both (λ rank. rank) (fault_at (row_at rows index).line) found
    ∷ drop (index + 1) (row_ranks cells ranks rows)
rank_at_front cells ranks rows index found lt is =
    let others = drop (index + 1) (row_ranks cells ranks rows) in
    row_at_front (row_rank cells ranks) 0 rows index lt
    ∙ ap (λ k. row_rank cells ranks (k, row_at rows index) ∷ others) (zero-add index)
    ∙ ap (λ r. result_map_both (λ rank. rank) (fault_at (row_at rows index).line) r ∷ others) is

pub none_read : (cells ranks : ℕ) (rows : List Row) → AreRead cells ranks rows [] 0
none_read cells ranks rows =
    record { parted = front_none (all_or_first (row_ranks cells ranks rows)) }

pub read_more : (cells ranks : ℕ) (rows : List Row) (list : List ℕ) (index rank : ℕ)
    → index < length rows → AreRead cells ranks rows list index
    → Ok rank ≡ rank_at cells ranks index (row_at rows index).words
    → AreRead cells ranks rows (list ++ rank ∷ []) (index + 1)
read_more cells ranks rows list index rank lt h is = record {
  parted = h.parted
      ∙ ap (λ l. with_front list (all_or_first l)) (rank_at_front cells ranks rows index (Ok rank) lt (sym is))
      ∙ front_more list rank (all_or_first (drop (index + 1) (row_ranks cells ranks rows)));
}

-- A row that is no rank, with its line.
pub read_fault : (cells ranks : ℕ) (rows : List Row) (list : List ℕ) (index : ℕ) (what : PartsWhat)
    (line : ℕ) → index < length rows → AreRead cells ranks rows list index
    → Err what ≡ rank_at cells ranks index (row_at rows index).words → line ≡ (row_at rows index).line
    → parts_of_rows cells ranks rows ≡ Err (record { what = what; line = line })
read_fault cells ranks rows list index what line lt h is at =
    ap (with_ranks ranks) (h.parted
    ∙ ap (λ l. with_front list (all_or_first l)) (rank_at_front cells ranks rows index (Err what) lt (sym is)))
    ∙ ap (λ l. Err (fault_at l what)) (sym at)

pub all_read : (cells ranks : ℕ) (rows : List Row) (parts : Parts) (index : ℕ) → length rows ≤ index
    → parts.ranks ≡ ranks → AreRead cells ranks rows parts.list index
    → parts_of_rows cells ranks rows ≡ Ok parts
all_read cells ranks rows parts index le e h =
    let count : length (row_ranks cells ranks rows) ≡ length rows =
    length-map (enumerate_from 0 rows) (row_rank cells ranks) ∙ length-enumerate_from 0 rows in
    let none = drop_all index (row_ranks cells ranks rows) (omega (arith, count)) in
    ap (with_ranks ranks) (h.parted ∙ ap (λ l. with_front parts.list (all_or_first l)) none
    ∙ ap Ok (append-nil parts.list))
    ∙ ap (λ k. Ok (record { list = parts.list; ranks = k })) (sym e)
