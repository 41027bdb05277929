-- The blocks of cells, one cell after the other.
use Rattle.std.proofs.Common.{◌≡◌, ℕ, ◌+◌, [], ◌∷◌, ◌++◌, map, sym, ap, ◌∙◌, zero-add}
use Rattle.std.proofs.lemmas.List.FromFn.{map-range_with_len_more}
use Rattle.std.specs.List.{range_with_len}
use Rattle.partitioner.specs.PartLists.{Parts}
use Rattle.partitioner.specs.Blocks.{block_of}

abbrev pub blocks_below : ℕ → ℕ → ℕ → Parts
blocks_below cells ranks cell =
    record { list = map (block_of cells ranks) (range_with_len 0 cell); ranks = ranks }

pub block_more : (cells ranks cell part : ℕ) (old new : Parts) → old ≡ blocks_below cells ranks cell
    → part ≡ block_of cells ranks cell → new ≡ record old { list = old.list ++ part ∷ [] }
    → new ≡ blocks_below cells ranks (cell + 1)
block_more cells ranks cell part old new h is e =
    let list = map (block_of cells ranks) (range_with_len 0 cell) in
    e ∙ ap (λ (o : Parts). record o { list = o.list ++ part ∷ [] }) h
    ∙ ap (λ p. record { list = list ++ p ∷ []; ranks = ranks }) is
    ∙ ap (λ l. record { list = l; ranks = ranks })
    (sym (map-range_with_len_more (block_of cells ranks) 0 cell cell (zero-add cell)))
