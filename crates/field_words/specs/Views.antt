-- What each kind of step does to views. This project's own.
use Rattle.std.specs.Prelude.{ℕ, ℤ, ◌+◌, ◌-◌, not, List, [], ◌∷◌, ◌++◌}
use Rattle.field_words.specs.declared.view.View.{View}
use Rattle.field_words.specs.Maps.{WordMap, restriction, is_in, is_within, zero_words}

abbrev pub view : WordMap → WordMap → ℕ → ℕ → View
view own frozen share steps = record { own = own; frozen = frozen; share = share; steps = steps }

-- the share of a seat that has the whole right to a table
abbrev pub full_share : ℕ
full_share = 65

-- the view of the first seat: all words, and the full share
abbrev pub first_view : ℕ → View
first_view n = view (zero_words n) [] full_share 0

-- the view of a seat that was joined into another
abbrev pub spent_view : View
spent_view = view [] [] 0 0

-- a load
abbrev pub counted_view : View → View
counted_view v = view v.own v.frozen v.share (v.steps + 1)

-- a store
abbrev pub stored_view : View → ℕ → ℤ → View
stored_view v x u = view ((x, u) ∷ v.own) v.frozen v.share (v.steps + 1)

-- a split that hands these words over: the view of the seat, and of the new one
abbrev pub kept_view : List ℕ → View → View
kept_view words v = view (restriction (λ x. not (is_in words x)) v.own) v.frozen (v.share - 1) (v.steps + 1)

abbrev pub handed_view : List ℕ → View → View
handed_view words v = view (restriction (is_in words) v.own) v.frozen 1 0

-- a join
abbrev pub joined_view : View → View → View
joined_view v w = view (v.own ++ w.own) v.frozen (v.share + w.share) (v.steps + 1)

-- a freeze of `count` words from `first` on
abbrev pub frozen_view : ℕ → ℕ → View → View
frozen_view first count v = view (restriction (λ x. not (is_within first count x)) v.own)
    (restriction (is_within first count) v.own ++ v.frozen) v.share (v.steps + 1)

-- a thaw
abbrev pub thawed_view : View → View
thawed_view v = view (v.own ++ v.frozen) [] v.share (v.steps + 1)
