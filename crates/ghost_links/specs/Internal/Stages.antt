-- The stages of a seat within a post or a take.
use Rattle.std.specs.Prelude.{◌≡◌, ◌⊎◌, ℕ, ◌+◌, ◌*◌, ◌<◌, ◌≤◌, Bool, true, false, cond, List, length, slice_get}
use Rattle.std.specs.declared.option.Option.{Option}
use Rattle.std.specs.declared.option.Option.TheVariants.{None, Some}
use Rattle.ghost_links.specs.declared.view.End.{End}
use Rattle.ghost_links.specs.Layouts.{Layout, packet_size}
use Rattle.ghost_links.specs.Scripts.{area}
use Rattle.ghost_links.specs.Ends.{busy_end, end_in}
use Rattle.ghost_links.specs.Holdings.{Holding, after_steps, next_number, next_packet}

abbrev pub is_some : {A : Type 0} → Option A → Bool
is_some None = false
is_some (Some x) = true

abbrev pub busy_of : Option End → Bool
busy_of None = false
busy_of (Some e) = e.busy

abbrev pub is_busy : Holding → ℕ → Bool
is_busy h x = busy_of (end_in h.ends x)

-- the number of data words that a busy end has put
abbrev pub put_of : Option End → Option ℕ
put_of None = None
put_of (Some e) = cond e.busy (Some e.put) None

abbrev pub words_put : Holding → ℕ → Option ℕ
words_put h x = put_of (end_in h.ends x)

-- a data word of the next packet at an end of a link
pub record IsDataWord (h : Holding) (link x place word : ℕ) : Type 0 where
  pub packet : List ℕ
  pub packet_is : next_packet h link x ≡ Some packet
  pub word_is : slice_get (area packet) place ≡ Some word

pub record HasDataPlace (h : Holding) (link x place : ℕ) : Type 0 where
  pub packet : List ℕ
  pub packet_is : next_packet h link x ≡ Some packet
  pub place_is : place < length (area packet)

-- the next packet is no longer than its link's size
abbrev pub NextFits : Layout → Holding → ℕ → ℕ → Type 0
NextFits layout h link x =
    (packet : List ℕ) → next_packet h link x ≡ Some packet → length packet ≤ packet_size layout link

-- the end has put all data words of its next packet
pub record HasPut (h : Holding) (link x : ℕ) : Type 0 where
  pub packet : List ℕ
  pub packet_is : next_packet h link x ≡ Some packet
  pub put_is : words_put h x ≡ Some (length (area packet))

-- what a receiver's load finds: 2n, or 2n + 1, and then the script has a packet n
abbrev pub FindsTurn : Holding → ℕ → ℕ → ℕ → Type 0
FindsTurn h link x word = (word ≡ 2 * next_number h x)
    ⊎ ((word ≡ 2 * next_number h x + 1) × (is_some (next_packet h link x) ≡ true))

-- a seat after it has put n data words, and after n data loads
abbrev pub after_puts : ℕ → ℕ → Holding → Holding
after_puts x n h = after_steps x (λ e. busy_end e.next n e.last) n h

abbrev pub after_loads : ℕ → Holding → Holding
after_loads n h = record { links = h.links; script = h.script; ends = h.ends; steps = h.steps + n }
