-- How the words of a table of links are laid out: a turn word for each pair of ranks, then the data words of the links
-- in the order of the turn words. A link is named by its turn word. This project's own.
use Rattle.std.specs.Prelude.{◌≡◌, ℕ, zero, suc, ◌+◌, ◌-◌, ◌*◌, ◌/◌, ◌%◌, ◌<◌, ◌≤◌, ◌^◌, Bool, not, ◌&&◌, cond, eqb, ltb, List, [], map, length, slice_index, slice_index_or}
use Rattle.std.specs.List.{range_with_len}
use Rattle.liszt_base.specs.Limits.{rank_limit}

-- the number of ranks; the first data word of each turn word, and the number of all words
pub record Layout : Type 0 where
  pub ranks : ℕ
  pub firsts : List ℕ

abbrev pub turn_count : Layout → ℕ
turn_count layout = layout.ranks * layout.ranks

abbrev pub first_word : Layout → ℕ → ℕ
first_word layout link = slice_index layout.firsts link

abbrev pub word_count : Layout → ℕ
word_count layout = first_word layout (turn_count layout)

-- the number of a link's data words, and its packet size: one word has the number of a packet's words
abbrev pub room : Layout → ℕ → ℕ
room layout link = first_word layout (link + 1) - first_word layout link

abbrev pub packet_size : Layout → ℕ → ℕ
packet_size layout link = room layout link - 1

-- the turn word of the link from a to b
abbrev pub turn_word : ℕ → ℕ → ℕ → ℕ
turn_word ranks a b = a * ranks + b

-- whether a turn word is that of a link: the two ranks are different
abbrev pub is_link : ℕ → ℕ → Bool
is_link ranks link = ltb link (ranks * ranks) && not (eqb (link / ranks) (link % ranks))

-- the size that is given for a link, in one list for each sending rank
abbrev pub given_size : List (List ℕ) → ℕ → ℕ → ℕ
given_size sizes a b = slice_index (slice_index_or sizes a []) b

-- the number of data words that belong to a turn word
abbrev pub given_room : ℕ → List (List ℕ) → ℕ → ℕ
given_room ranks sizes link =
    cond (eqb (link / ranks) (link % ranks)) 0 (given_size sizes (link / ranks) (link % ranks) + 1)

-- the first data word that belongs to a turn word; after the last turn word the number of all words
abbrev pub first_of : ℕ → List (List ℕ) → ℕ → ℕ
first_of ranks sizes zero = ranks * ranks
first_of ranks sizes (suc link) = first_of ranks sizes link + given_room ranks sizes link

abbrev pub layout_of : ℕ → List (List ℕ) → Layout
layout_of ranks sizes =
    record { ranks = ranks; firsts = map (first_of ranks sizes) (range_with_len 0 (ranks * ranks + 1)) }

-- what holds of each layout
pub record IsLayout (layout : Layout) : Type 0 where
  pub some_rank : 0 < layout.ranks
  pub few_ranks : layout.ranks ≤ rank_limit
  pub count : length layout.firsts ≡ turn_count layout + 1
  pub start : turn_count layout ≤ first_word layout 0
  pub ascending : (k l : ℕ) → k ≤ l → l ≤ turn_count layout → first_word layout k ≤ first_word layout l
  pub few_words : word_count layout < 2 ^ 32
