-- What contracts see of a seat, and what each call makes of it. This project's own.
use Rattle.std.specs.Prelude.{◌≡◌, ℕ, ◌+◌, ◌<◌, ◌≤◌, ℤ, List}
use Rattle.atomic_table.specs.Seated.{TableId}
use Rattle.field_words.specs.declared.view.View.{View}
use Rattle.field_words.specs.Maps.{WordMap, AreBelow, occurrences}
use Rattle.field_words.specs.Views.{first_view, counted_view, stored_view, kept_view, handed_view, joined_view, frozen_view, thawed_view}

-- the table of a seat, its own and its frozen words with their values, its share, and the number of its steps
pub record Holding : Type 0 where
  pub table : TableId
  pub own : WordMap
  pub frozen : WordMap
  pub share : ℕ
  pub steps : ℕ

abbrev pub holding : TableId → View → Holding
holding t v = record { table = t; own = v.own; frozen = v.frozen; share = v.share; steps = v.steps }

abbrev pub view_of : Holding → View
view_of h = record { own = h.own; frozen = h.frozen; share = h.share; steps = h.steps }

-- x is one of the seat's own words, or one of the frozen words
abbrev pub Owns : Holding → ℕ → Type 0
Owns h x = occurrences x h.own ≡ 1

abbrev pub SeesFrozen : Holding → ℕ → Type 0
SeesFrozen h x = occurrences x h.frozen ≡ 1

abbrev pub OwnsRange : Holding → ℕ → ℕ → Type 0
OwnsRange h first count = (x : ℕ) → first ≤ x → x < first + count → Owns h x

-- the seat of a new table with words 1 to n
abbrev pub first_holding : TableId → ℕ → Holding
first_holding t n = holding t (first_view n)

-- the seat after a load, a store, a split, a join, a freeze and a thaw; and the seat that a split hands over
abbrev pub after_load : Holding → Holding
after_load h = holding h.table (counted_view (view_of h))

abbrev pub after_store : Holding → ℕ → ℤ → Holding
after_store h x u = holding h.table (stored_view (view_of h) x u)

abbrev pub after_split : List ℕ → Holding → Holding
after_split words h = holding h.table (kept_view words (view_of h))

abbrev pub handed_holding : List ℕ → Holding → Holding
handed_holding words h = holding h.table (handed_view words (view_of h))

abbrev pub after_join : Holding → Holding → Holding
after_join h k = holding h.table (joined_view (view_of h) (view_of k))

abbrev pub after_freeze : ℕ → ℕ → Holding → Holding
after_freeze first count h = holding h.table (frozen_view first count (view_of h))

abbrev pub after_thaw : Holding → Holding
after_thaw h = holding h.table (thawed_view (view_of h))

-- what holds of each seat: it has a share, and its words are words of the table
pub record IsSeat (words : ℕ) (v : View) : Type 0 where
  pub share : 0 < v.share
  pub own : AreBelow words v.own
  pub frozen : AreBelow words v.frozen
