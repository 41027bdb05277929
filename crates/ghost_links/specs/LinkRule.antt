-- The link rule, over the words of a table and the views of all seats. It is in a compact form, which the proof of each
-- step uses; `laws::link_rule` has its sentences one by one. This project's own.
use Rattle.std.specs.Prelude.{◌≡◌, ◌≢◌, ◌⊎◌, ℕ, ◌+◌, ◌*◌, ◌<◌, ◌≤◌, ◌^◌, true, false, cond, List, [], ◌∷◌, length, replicate, slice_index, slice_index_or}
use Rattle.std.specs.declared.option.Option.TheVariants.{Some}
use mathlib.Core.Option.{some}
use lib.ListN.{get_elem?}
use Rattle.atomic_table.specs.Table.{State}
use Rattle.ghost_links.specs.declared.view.End.{End}
use Rattle.ghost_links.specs.declared.view.View.{View}
use Rattle.ghost_links.specs.Layouts.{Layout, first_word, is_link, room, turn_count, word_count}
use Rattle.ghost_links.specs.Scripts.{LinkScript, area, packet_of}
use Rattle.ghost_links.specs.Ends.{Each, is_end, occurrences, receiving_end, sending_end}
use Rattle.ghost_links.specs.Views.{opening_view}

-- the words of the table, and the views of its seats
abbrev pub TableState : Type 0
TableState = State (Unit {0}) View

-- the sum over all views
abbrev pub total : (View → ℕ) → List View → ℕ
total f [] = 0
total f (v ∷ vs) = f v + total f vs

-- Each link's list of packets is shorter than 2^62, and each packet fits its link.
pub record FitsLayout (layout : Layout) (script : LinkScript) : Type 0 where
  pub count : length script ≡ turn_count layout
  pub short : (link : ℕ) → is_link layout.ranks link ≡ true → length (slice_index_or script link []) < 2 ^ 62
  pub fits : (link n : ℕ) (packet : List ℕ) → is_link layout.ranks link ≡ true → packet_of script link n ≡ Some packet
      → length packet < room layout link

-- the first n words from `first` on are those of the list
abbrev pub HaveWords : List ℕ → ℕ → ℕ → List ℕ → Type 0
HaveWords words first n list = (j : ℕ) → j < n → slice_index words (first + j) ≡ slice_index list j

-- The script has a packet n, and the link's data words begin with its area.
pub record HavePacket (layout : Layout) (script : LinkScript) (words : List ℕ) (link n : ℕ) : Type 0 where
  pub packet : List ℕ
  pub packet_is : packet_of script link n ≡ Some packet
  pub words_are : HaveWords words (first_word layout link) (length (area packet)) (area packet)

-- The script has the end's next packet, and the words that the end has put are the first ones of its area.
pub record PutsPacket (layout : Layout) (script : LinkScript) (words : List ℕ) (link : ℕ) (e : End) : Type 0 where
  pub packet : List ℕ
  pub packet_is : packet_of script link e.next ≡ Some packet
  pub put : e.put ≤ length (area packet)
  pub words_are : HaveWords words (first_word layout link) e.put (area packet)

-- At turn word 2n both ends have next number n, and the receiving end is idle. At 2n + 1 the sending end has n + 1 and
-- is idle, and the receiving end has n.
pub record SenderFits (layout : Layout) (script : LinkScript) (words : List ℕ) (link : ℕ) (e : End) : Type 0 where
  pub turn : (slice_index words link ≡ 2 * e.next) ⊎ ((slice_index words link + 1 ≡ 2 * e.next) × (e.busy ≡ false))
  pub puts : e.busy ≡ true → PutsPacket layout script words link e

abbrev pub ReceiverFits : List ℕ → ℕ → End → Type 0
ReceiverFits words link e =
    ((slice_index words link ≡ 2 * e.next) × (e.busy ≡ false)) ⊎ (slice_index words link ≡ 2 * e.next + 1)

pub record EndFits (layout : Layout) (script : LinkScript) (words : List ℕ) (x : ℕ) (e : End) : Type 0 where
  pub sender : (link : ℕ) → x ≡ sending_end link → SenderFits layout script words link e
  pub receiver : (link : ℕ) → x ≡ receiving_end link → ReceiverFits words link e

-- what holds of one view
pub record ViewFits (layout : Layout) (script : LinkScript) (words : List ℕ) (v : View) : Type 0 where
  pub script_is : v.joined ≡ false → v.script ≡ script
  pub no_end : v.joined ≡ true → v.ends ≡ []
  pub ends : Each (EndFits layout script words) v.ends

-- Each end of each link is in one view, and no other number is in a view. A turn word that belongs to no link is 0.
pub record IsLinked (layout : Layout) (s : TableState) : Type 0 where
  pub script : LinkScript
  pub script_fits : FitsLayout layout script
  pub length_is : length s.words ≡ word_count layout
  pub one_place : (x : ℕ) → total (λ v. occurrences x v.ends) s.views ≡ cond (is_end layout.ranks x) 1 0
  pub unused : (link : ℕ) → link < turn_count layout → is_link layout.ranks link ≡ false → slice_index s.words link ≡ 0
  pub full : (link n : ℕ) → link < turn_count layout → slice_index s.words link ≡ 2 * n + 1
      → HavePacket layout script s.words link n
  pub each : (j : ℕ) (v : View) → get_elem? s.views j ≡ some v → ViewFits layout script s.words v

-- One view has the end, and no other.
pub record IsInOneView (s : TableState) (x : ℕ) : Type 0 where
  pub place : ℕ
  pub view_there : View
  pub there : get_elem? s.views place ≡ some view_there
  pub has : occurrences x view_there.ends ≡ 1
  pub alone : (j : ℕ) (v : View) → j ≢ place → get_elem? s.views j ≡ some v → occurrences x v.ends ≡ 0

-- Before the script is set, which is a part of making the table, there is one view and all words are 0.
pub record IsOpening (layout : Layout) (s : TableState) : Type 0 where
  pub words : s.words ≡ replicate (word_count layout) 0
  pub views : s.views ≡ opening_view ∷ []

abbrev pub FollowsRule : Layout → TableState → Type 0
FollowsRule layout s = IsOpening layout s ⊎ IsLinked layout s
