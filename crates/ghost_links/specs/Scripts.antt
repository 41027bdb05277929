-- Scripts: for each link the packets that are sent over it, in order. This project's own.
use Rattle.std.specs.Prelude.{ℕ, ◌*◌, ◌/◌, ◌%◌, List, [], ◌∷◌, map, length, slice_get, slice_index_or}
use Rattle.std.specs.List.{range_with_len}
use Rattle.std.specs.declared.option.Option.{Option}

-- for each turn word the packets of its link, each a list of words
abbrev pub LinkScript : Type 0
LinkScript = List (List (List ℕ))

-- packet n of a link, if its list has one
abbrev pub packet_of : LinkScript → ℕ → ℕ → Option (List ℕ)
packet_of script link n = slice_get (slice_index_or script link []) n

-- the data words of a packet: the number of its words, and the words
abbrev pub area : List ℕ → List ℕ
area packet = length packet ∷ packet

-- the script over these ranks, where `packets a b` are those of the link from a to b
abbrev pub script_over : ℕ → (ℕ → ℕ → List (List ℕ)) → LinkScript
script_over ranks packets = map (λ link. packets (link / ranks) (link % ranks)) (range_with_len 0 (ranks * ranks))
