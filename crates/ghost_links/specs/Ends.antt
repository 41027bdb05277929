-- The ends of links that a seat has. This project's own.
use Rattle.std.specs.Prelude.{◌≡◌, ℕ, zero, suc, ◌+◌, ◌*◌, ◌/◌, ◌%◌, Bool, true, false, cond, eqb, List, [], ◌∷◌}
use Rattle.std.specs.declared.option.Option.{Option}
use Rattle.std.specs.declared.option.Option.TheVariants.{None, Some}
use Rattle.ghost_links.specs.declared.view.End.{End}
use Rattle.ghost_links.specs.Layouts.{is_link}

-- Ends have numbers: each link has a sending and a receiving end.
abbrev pub sending_end : ℕ → ℕ
sending_end link = 2 * link

abbrev pub receiving_end : ℕ → ℕ
receiving_end link = 2 * link + 1

-- An end has the number of its next packet and a stage, idle or busy. A busy sending end has the number of data words
-- that it has put. Each end keeps the last turn word that was loaded there.
abbrev pub idle_end : ℕ → Option ℕ → End
idle_end n last = record { next = n; busy = false; put = 0; last = last }

abbrev pub busy_end : ℕ → ℕ → Option ℕ → End
busy_end n put last = record { next = n; busy = true; put = put; last = last }

-- Finite maps from numbers of ends to ends, as lists of pairs of which the first one of a number counts.
abbrev pub EndMap : Type 0
EndMap = List (ℕ × End)

abbrev pub end_in : EndMap → ℕ → Option End
end_in [] x = None
end_in (p ∷ ps) x = cond (eqb p.0 x) (Some p.1) (end_in ps x)

abbrev pub end_count : Option End → ℕ
end_count None = 0
end_count (Some e) = 1

-- 1 where the map has the end, else 0
abbrev pub occurrences : ℕ → EndMap → ℕ
occurrences x m = end_count (end_in m x)

-- the map with one end changed
abbrev pub with_change : ℕ → (End → End) → EndMap → EndMap
with_change x f [] = []
with_change x f (p ∷ ps) = cond (eqb p.0 x) ((p.0, f p.1) ∷ ps) (p ∷ with_change x f ps)

-- the map on the numbers that pass a test
abbrev pub restriction : (ℕ → Bool) → EndMap → EndMap
restriction test [] = []
restriction test (p ∷ ps) = cond (test p.0) (p ∷ restriction test ps) (restriction test ps)

-- a fact of each end
abbrev pub Each : (ℕ → End → Type 0) → EndMap → Type 0
Each P m = (x : ℕ) (e : End) → end_in m x ≡ Some e → P x e

-- whether a number is that of an end of a link
abbrev pub is_end : ℕ → ℕ → Bool
is_end ranks x = is_link ranks (x / 2)

-- the rank that an end belongs to: the sending rank of a sending end, the receiving rank of a receiving one
abbrev pub rank_of_end : ℕ → ℕ → ℕ
rank_of_end ranks x = cond (eqb (x % 2) 0) (x / 2 / ranks) (x / 2 % ranks)

-- the ends of all links, idle before packet 0
abbrev pub ends_below : ℕ → ℕ → EndMap
ends_below ranks zero = []
ends_below ranks (suc x) = cond (is_end ranks x) ((x, idle_end 0 None) ∷ ends_below ranks x) (ends_below ranks x)

abbrev pub all_ends : ℕ → EndMap
all_ends ranks = ends_below ranks (2 * (ranks * ranks))
