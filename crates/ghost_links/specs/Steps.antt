-- What each kind of step makes of its seat, and the steps that lead to a seat. This project's own.
use Rattle.std.specs.Prelude.{◌≡◌, ◌⊎◌, ℕ, ◌+◌, ◌*◌, cond, eqb, List, [], ◌∷◌, ◌++◌, replicate, slice_get, slice_index}
use Rattle.std.specs.List.{slice_set}
use Rattle.std.specs.declared.option.Option.{Option}
use Rattle.std.specs.declared.option.Option.TheVariants.{None, Some}
use Rattle.atomic_table.specs.Table.{Me, Step}
use Rattle.ghost_links.specs.declared.view.End.{End}
use Rattle.ghost_links.specs.declared.view.View.{View}
use Rattle.ghost_links.specs.Layouts.{Layout, word_count}
use Rattle.ghost_links.specs.Scripts.{area, packet_of}
use Rattle.ghost_links.specs.Ends.{Each, end_in, occurrences, receiving_end, sending_end}
use Rattle.ghost_links.specs.Views.{changed_view, counted_view, after_turn_store, first_view, after_data_store, after_receiver_load, after_sender_load, handed_view, joined_view, kept_view, spent_view}

abbrev pub SeatState : Type 0
SeatState = Me (Unit {0}) View

abbrev pub SetsScript : Layout → (ℕ → ℕ → List (List ℕ)) → Step (Unit {0}) → SeatState → ℕ → SeatState → Type 0
SetsScript layout packets s v found w = w ≡ (first_view layout packets, v.1)

-- A sender finds 2n or 2n - 1 at its next number n.
abbrev pub SenderLoads : Step (Unit {0}) → SeatState → ℕ → SeatState → Type 0
SenderLoads s v found w = (w ≡ (changed_view (sending_end s.word) (after_sender_load found) v.0, v.1))
    × ((e : End) → end_in v.0.ends (sending_end s.word) ≡ Some e → (found ≡ 2 * e.next) ⊎ (found + 1 ≡ 2 * e.next))

-- A receiver finds 2n or 2n + 1 at its next number n, and at 2n + 1 the script has a packet n.
abbrev pub ReceiverLoads : Step (Unit {0}) → SeatState → ℕ → SeatState → Type 0
ReceiverLoads s v found w = (w ≡ (changed_view (receiving_end s.word) (after_receiver_load found) v.0, v.1))
    × ((e : End) → end_in v.0.ends (receiving_end s.word) ≡ Some e → (found ≡ 2 * e.next)
    ⊎ ((found ≡ 2 * e.next + 1) × ((packet : List ℕ) × (packet_of v.0.script s.word e.next ≡ Some packet))))

abbrev pub StoresData : ℕ → Step (Unit {0}) → SeatState → ℕ → SeatState → Type 0
StoresData link s v stored w = w ≡ (changed_view (sending_end link) after_data_store v.0, v.1)

-- The word of the area at this place.
abbrev pub LoadsData : ℕ → ℕ → Step (Unit {0}) → SeatState → ℕ → SeatState → Type 0
LoadsData link place s v found w = (w ≡ (counted_view v.0, v.1))
    × ((e : End) (packet : List ℕ) → end_in v.0.ends (receiving_end link) ≡ Some e → packet_of v.0.script link e.next ≡ Some packet
    → found ≡ slice_index (area packet) place)

abbrev pub SenderStores : Step (Unit {0}) → SeatState → ℕ → SeatState → Type 0
SenderStores s v stored w = w ≡ (changed_view (sending_end s.word) after_turn_store v.0, v.1)

abbrev pub ReceiverStores : Step (Unit {0}) → SeatState → ℕ → SeatState → Type 0
ReceiverStores s v stored w = w ≡ (changed_view (receiving_end s.word) after_turn_store v.0, v.1)

-- LOADED WORDS: for each end the turn words that were loaded there, the latest one first
abbrev pub Loads : Type 0
Loads = ℕ → List ℕ

abbrev pub with_load : ℕ → ℕ → Loads → Loads
with_load x word loads y = cond (eqb x y) (word ∷ loads y) (loads y)

abbrev pub joined_loads : View → Loads → Loads → Loads
joined_loads v first second x = cond (eqb (occurrences x v.ends) 1) (first x) (second x)

abbrev pub last_loaded : List ℕ → Option ℕ
last_loaded [] = None
last_loaded (word ∷ earlier) = Some word

-- A SEAT OF A RUN: what the rule knows of it, and the turn words that were loaded at its ends
pub record RunSeat : Type 0 where
  pub view_now : View
  pub loads : Loads

abbrev pub run_seat : View → Loads → RunSeat
run_seat v loads = record { view_now = v; loads = loads }

-- a seat loaded a turn word
abbrev pub loaded_seat : SeatState → ℕ → ℕ → Loads → RunSeat
loaded_seat w x word loads = run_seat w.0 (with_load x word loads)

-- A RUN OF A TABLE: its words and all its seats after any steps in any order, from the table that was made. A load finds the word that the
-- table then has. A seat that a split hands over is a new one, with the loaded words of the ends that it is given.
pub data Runs : List ℕ → List RunSeat → Type 0 where
  Made : (layout : Layout) (packets : ℕ → ℕ → List (List ℕ)) → Runs (replicate (word_count layout) 0) (run_seat (first_view layout packets) (λ x. []) ∷ [])
  SenderLoaded : {words : List ℕ} {seats : List RunSeat} (j : ℕ) (s : Step (Unit {0})) (v w : SeatState) (loads : Loads) → Runs words seats
      → slice_get seats j ≡ Some (run_seat v.0 loads) → SenderLoads s v (slice_index words s.word) w
      → Runs words (slice_set seats j (loaded_seat w (sending_end s.word) (slice_index words s.word) loads))
  ReceiverLoaded : {words : List ℕ} {seats : List RunSeat} (j : ℕ) (s : Step (Unit {0})) (v w : SeatState) (loads : Loads) → Runs words seats
      → slice_get seats j ≡ Some (run_seat v.0 loads) → ReceiverLoads s v (slice_index words s.word) w
      → Runs words (slice_set seats j (loaded_seat w (receiving_end s.word) (slice_index words s.word) loads))
  DataLoaded : {words : List ℕ} {seats : List RunSeat} (j link place : ℕ) (s : Step (Unit {0})) (v w : SeatState) (loads : Loads) → Runs words seats
      → slice_get seats j ≡ Some (run_seat v.0 loads) → LoadsData link place s v (slice_index words s.word) w
      → Runs words (slice_set seats j (run_seat w.0 loads))
  DataStored : {words : List ℕ} {seats : List RunSeat} (j link word : ℕ) (s : Step (Unit {0})) (v w : SeatState) (loads : Loads) → Runs words seats
      → slice_get seats j ≡ Some (run_seat v.0 loads) → StoresData link s v word w
      → Runs (slice_set words s.word word) (slice_set seats j (run_seat w.0 loads))
  SenderStored : {words : List ℕ} {seats : List RunSeat} (j word : ℕ) (s : Step (Unit {0})) (v w : SeatState) (loads : Loads) → Runs words seats
      → slice_get seats j ≡ Some (run_seat v.0 loads) → SenderStores s v word w
      → Runs (slice_set words s.word word) (slice_set seats j (run_seat w.0 loads))
  ReceiverStored : {words : List ℕ} {seats : List RunSeat} (j word : ℕ) (s : Step (Unit {0})) (v w : SeatState) (loads : Loads) → Runs words seats
      → slice_get seats j ≡ Some (run_seat v.0 loads) → ReceiverStores s v word w
      → Runs (slice_set words s.word word) (slice_set seats j (run_seat w.0 loads))
  Split : {words : List ℕ} {seats : List RunSeat} (j rank : ℕ) (v : View) (loads : Loads) → Runs words seats
      → slice_get seats j ≡ Some (run_seat v loads)
      → Runs words (slice_set seats j (run_seat (kept_view rank v) loads) ++ run_seat (handed_view rank v) loads ∷ [])
  Joined : {words : List ℕ} {seats : List RunSeat} (j k : ℕ) (v w : View) (first second : Loads) → Runs words seats
      → slice_get seats j ≡ Some (run_seat v first) → slice_get seats k ≡ Some (run_seat w second)
      → Runs words (slice_set (slice_set seats j (run_seat (joined_view v w) (joined_loads v first second))) k (run_seat spent_view second))

-- The last word of each end of a seat is the last one that was loaded there, and none before the first load.
abbrev pub HasLoadedWords : RunSeat → Type 0
HasLoadedWords seat = Each (λ x e. e.last ≡ last_loaded (seat.loads x)) seat.view_now.ends
