-- How far a rank of the tests has come: the next numbers of its ends.
use Rattle.std.specs.Prelude.{◌≡◌, ℕ, ◌+◌, ◌<◌, ◌≤◌, true, cond, ltb, [], slice_index_or}
use Rattle.std.specs.declared.option.Option.{Option}
use Rattle.std.specs.declared.option.Option.TheVariants.{None, Some}
use Rattle.ghost_links.specs.Layouts.{packet_size}
use Rattle.ghost_links.specs.Holdings.{HasLink, Holding, LinkTable, has_idle, link_of, next_number, receiver, sender}
use Rattle.link_tests.specs.Scripts.{packets_at}

-- The seat is of these links, and its script is that of the tests.
pub record HasScript (t : LinkTable) (count : ℕ) (h : Holding) : Type 0 where
  pub links : h.links ≡ t
  pub packets : (a b : ℕ) → HasLink t a b → slice_index_or h.script (link_of t a b) [] ≡ packets_at count a b

-- The end is idle, and has this next number.
pub record IsAt (h : Holding) (x n : ℕ) : Type 0 where
  pub idle : has_idle h x ≡ true
  pub next : next_number h x ≡ n

-- All ends of a rank: those to and from each other rank have these next numbers.
pub record RankIsAt (t : LinkTable) (h : Holding) (rank : ℕ) (sent taken : ℕ → ℕ) : Type 0 where
  pub sends : (other : ℕ) → HasLink t rank other → IsAt h (sender t rank other) (sent other)
  pub takes : (other : ℕ) → HasLink t other rank → IsAt h (receiver t other rank) (taken other)

-- n for all others, and n for all others after the first ones, which have n + 1
abbrev pub all_at : ℕ → ℕ → ℕ
all_at n other = n

abbrev pub first_ones_at : ℕ → ℕ → ℕ → ℕ
first_ones_at n first other = cond (ltb other first) (n + 1) n

-- All ends of the ranks from `first` on are before packet 0.
abbrev pub RanksStart : LinkTable → Holding → ℕ → Type 0
RanksStart t h first = (rank : ℕ) → first ≤ rank → rank < t.layout.ranks → RankIsAt t h rank (all_at 0) (all_at 0)

-- Each link has packets of at most seven words.
abbrev pub FitSeven : LinkTable → Type 0
FitSeven t = (a b : ℕ) → HasLink t a b → packet_size t.layout (link_of t a b) ≤ 7

-- New links between `ranks` ranks with the script of the tests, and their first seat.
pub record IsNumbered (t : LinkTable) (ranks count : ℕ) (h : Holding) : Type 0 where
  pub ranks_are : t.layout.ranks ≡ ranks
  pub sizes : FitSeven t
  pub script : HasScript t count h
  pub ends : RanksStart t h 0

-- The link from rank 0 to rank 1 with both ends in one seat, after `sent` posts and `taken` takes.
pub record LinkIsAt (t : LinkTable) (count : ℕ) (h : Holding) (sent taken : ℕ) : Type 0 where
  pub script : HasScript t count h
  pub link : HasLink t 0 1
  pub sends : IsAt h (sender t 0 1) sent
  pub takes : IsAt h (receiver t 0 1) taken

-- 1 where a call answered no turn word, which is where a packet was posted or taken
abbrev pub done_count : Option ℕ → ℕ
done_count None = 1
done_count (Some word) = 0
