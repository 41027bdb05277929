-- What contracts see of a table of links and of a seat, and what each call makes of a seat. This project's own.
use Rattle.std.specs.Prelude.{◌≡◌, ◌≢◌, ℕ, ◌+◌, ◌*◌, ◌%◌, ◌<◌, ◌≤◌, ◌^◌, Bool, true, false, not, List, [], length, slice_get, slice_index_or}
use Rattle.std.specs.declared.option.Option.{Option}
use Rattle.std.specs.declared.option.Option.TheVariants.{None, Some}
use Rattle.atomic_table.specs.Seated.{TableId}
use Rattle.ghost_links.specs.declared.links.PostAnswer.{PostAnswer}
use Rattle.ghost_links.specs.declared.links.PostAnswer.TheVariants.{Posted, NotYet as PostNotYet}
use Rattle.ghost_links.specs.declared.links.TakeAnswer.{TakeAnswer}
use Rattle.ghost_links.specs.declared.links.TakeAnswer.TheVariants.{Taken, NotYet as TakeNotYet}
use Rattle.ghost_links.specs.declared.view.End.{End}
use Rattle.ghost_links.specs.declared.view.View.{View}
use Rattle.ghost_links.specs.Layouts.{IsLayout, Layout, given_size, turn_word}
use Rattle.ghost_links.specs.Scripts.{LinkScript, packet_of}
use Rattle.ghost_links.specs.Ends.{EndMap, with_change, end_in, idle_end, receiving_end, sending_end}
use Rattle.ghost_links.specs.Views.{first_view, handed_view, joined_view, kept_view, view}
use Rattle.ghost_links.specs.LinkRule.{FitsLayout}
use Rattle.ghost_links.specs.Packets.{PacketWords}

-- which table it is, and how its words are laid out
pub record LinkTable : Type 0 where
  pub table : TableId
  pub layout : Layout

-- the links of a seat, their script, its ends, and the number of its steps
pub record Holding : Type 0 where
  pub links : LinkTable
  pub script : LinkScript
  pub ends : EndMap
  pub steps : ℕ

abbrev pub holding : TableId → View → Holding
holding t v =
    record { links = record { table = t; layout = v.layout }; script = v.script; ends = v.ends; steps = v.steps }

abbrev pub view_of : Holding → View
view_of h = view h.links.layout h.script h.ends false h.steps

-- the seat is of these links
abbrev pub AreLinked : LinkTable → Holding → Type 0
AreLinked t h = h.links ≡ t

-- the table has this link
pub record HasLink (t : LinkTable) (a b : ℕ) : Type 0 where
  pub from : a < t.layout.ranks
  pub to : b < t.layout.ranks
  pub apart : a ≢ b

-- the turn word of a link, by which it is named, and its two ends
abbrev pub link_of : LinkTable → ℕ → ℕ → ℕ
link_of t a b = turn_word t.layout.ranks a b

abbrev pub sender : LinkTable → ℕ → ℕ → ℕ
sender t a b = sending_end (link_of t a b)

abbrev pub receiver : LinkTable → ℕ → ℕ → ℕ
receiver t a b = receiving_end (link_of t a b)

-- whether a seat has an end and it is idle
abbrev pub is_idle : Option End → Bool
is_idle None = false
is_idle (Some e) = not e.busy

abbrev pub has_idle : Holding → ℕ → Bool
has_idle h x = is_idle (end_in h.ends x)

-- an end's next number, and the last turn word loaded there
abbrev pub next_of : Option End → ℕ
next_of None = 0
next_of (Some e) = e.next

abbrev pub next_number : Holding → ℕ → ℕ
next_number h x = next_of (end_in h.ends x)

abbrev pub last_of : Option End → Option ℕ
last_of None = None
last_of (Some e) = e.last

abbrev pub last_word : Holding → ℕ → Option ℕ
last_word h x = last_of (end_in h.ends x)

-- the packet that the script has next at an end of a link
abbrev pub next_packet : Holding → ℕ → ℕ → Option (List ℕ)
next_packet h link x = packet_of h.script link (next_number h x)

-- A seat after steps that change one end.
abbrev pub after_steps : ℕ → (End → End) → ℕ → Holding → Holding
after_steps x f n h = record { links = h.links; script = h.script; ends = with_change x f h.ends; steps = h.steps + n }

-- A post or take that is not possible yet: one step, and its word is kept.
abbrev pub after_load : ℕ → ℕ → Holding → Holding
after_load x word h = after_steps x (λ e. idle_end e.next (Some word)) 1 h

-- A post of a packet: the load of 2n, the data words, and the store of the turn word.
abbrev pub after_post : ℕ → List ℕ → Holding → Holding
after_post x packet h = after_steps x (λ e. idle_end (e.next + 1) (Some (2 * e.next))) (length packet + 3) h

-- A take: the load of 2n + 1, the data words, and the store of the turn word.
abbrev pub after_take : ℕ → List ℕ → Holding → Holding
after_take x packet h = after_steps x (λ e. idle_end (e.next + 1) (Some (2 * e.next + 1))) (length packet + 3) h

-- What a post answers, and what it makes of its seat: not yet exactly where the word that its load found is odd. The
-- word then says that the link has the previous packet.
abbrev pub Posts : ℕ → List ℕ → PostAnswer → Holding → Holding → Type 0
Posts x packet Posted h k = k ≡ after_post x packet h
Posts x packet (PostNotYet word) h k =
    (word % 2 ≡ 1) × (word + 1 ≡ 2 * next_number h x) × (k ≡ after_load x word h)

-- What a take answers, and what it makes of its seat and of the packet: not yet exactly where the word that its load
-- found is even.
abbrev pub Takes : ℕ → ℕ → TakeAnswer → Holding → Holding → PacketWords → PacketWords → Type 0
Takes link x Taken h k old new =
    (next_packet h link x ≡ Some new.words) × (new.size ≡ old.size) × (k ≡ after_take x new.words h)
Takes link x (TakeNotYet word) h k old new =
    (word % 2 ≡ 0) × (word ≡ 2 * next_number h x) × (k ≡ after_load x word h) × (new ≡ old)

-- A call that changed one end of a seat, which is idle, and whose next number rose by n.
pub record ChangedOneEnd (x n : ℕ) (h k : Holding) : Type 0 where
  pub links : k.links ≡ h.links
  pub script : k.script ≡ h.script
  pub idle : has_idle k x ≡ true
  pub next : next_number k x ≡ next_number h x + n
  pub others : (y : ℕ) → y ≢ x → end_in k.ends y ≡ end_in h.ends y

-- 1 for a packet that was posted or taken, else 0
abbrev pub posted_count : PostAnswer → ℕ
posted_count Posted = 1
posted_count (PostNotYet word) = 0

abbrev pub taken_count : TakeAnswer → ℕ
taken_count Taken = 1
taken_count (TakeNotYet word) = 0

-- the first seat of a table
abbrev pub first_holding : LinkTable → (ℕ → ℕ → List (List ℕ)) → Holding
first_holding t packets = holding t.table (first_view t.layout packets)

-- the seat after a split and after a join, and the seat that a split hands over
abbrev pub after_split : ℕ → Holding → Holding
after_split rank h = holding h.links.table (kept_view rank (view_of h))

abbrev pub handed_holding : ℕ → Holding → Holding
handed_holding rank h = holding h.links.table (handed_view rank (view_of h))

abbrev pub after_join : Holding → Holding → Holding
after_join h k = holding h.links.table (joined_view (view_of h) (view_of k))

-- The seat has all ends of a rank, and they are idle.
abbrev pub HasIdleEnds : LinkTable → Holding → ℕ → Type 0
HasIdleEnds t h rank = (other : ℕ) → HasLink t rank other
    → (has_idle h (sender t rank other) ≡ true) × (has_idle h (receiver t other rank) ≡ true)

-- there is a list of sizes for each rank, with one size for each rank
pub record IsSquare (ranks : ℕ) (sizes : List (List ℕ)) : Type 0 where
  pub senders : length sizes ≡ ranks
  pub receivers : (a : ℕ) → a < ranks → length (slice_index_or sizes a []) ≡ ranks

-- the packets of each link are fewer than 2^62, and have at most as many words as the link's size
pub record FitsSizes (ranks : ℕ) (sizes : List (List ℕ)) (packets : ℕ → ℕ → List (List ℕ)) : Type 0 where
  pub short : (a b : ℕ) → a < ranks → b < ranks → a ≢ b → length (packets a b) < 2 ^ 62
  pub fits : (a b n : ℕ) (packet : List ℕ) → a < ranks → b < ranks → a ≢ b → slice_get (packets a b) n ≡ Some packet
      → length packet ≤ given_size sizes a b

-- what holds of each seat
pub record IsSeat (v : View) : Type 0 where
  pub in_use : v.joined ≡ false
  pub layout_holds : IsLayout v.layout
  pub script_fits : FitsLayout v.layout v.script
