-- What each kind of step tells its seat.
use Rattle.std.specs.Prelude.{◌≡◌, ℕ}
use Rattle.std.specs.declared.option.Option.TheVariants.{Some}
use Rattle.atomic_table.specs.Table.{Me, Step}
use Rattle.liszt_base.specs.Reductions.{value}
use Rattle.field_words.specs.declared.view.View.{View}
use Rattle.field_words.specs.Maps.{value_in}
use Rattle.field_words.specs.Views.{counted_view, stored_view, frozen_view, thawed_view}

abbrev pub SeatState : Type 0
SeatState = Me (Unit {0}) View

abbrev pub LoadsOwn : Step (Unit {0}) → SeatState → ℕ → SeatState → Type 0
LoadsOwn s v found w = (w ≡ (counted_view v.0, v.1)) × (value_in v.0.own s.word ≡ Some (value found))

abbrev pub LoadsFrozen : Step (Unit {0}) → SeatState → ℕ → SeatState → Type 0
LoadsFrozen s v found w = (w ≡ (counted_view v.0, v.1)) × (value_in v.0.frozen s.word ≡ Some (value found))

abbrev pub StoresOwn : Step (Unit {0}) → SeatState → ℕ → SeatState → Type 0
StoresOwn s v stored w = w ≡ (stored_view v.0 s.word (value s.first), v.1)

abbrev pub Freezes : ℕ → ℕ → Step (Unit {0}) → SeatState → ℕ → SeatState → Type 0
Freezes first count s v found w = w ≡ (frozen_view first count v.0, v.1)

abbrev pub Thaws : Step (Unit {0}) → SeatState → ℕ → SeatState → Type 0
Thaws s v found w = w ≡ (thawed_view v.0, v.1)
