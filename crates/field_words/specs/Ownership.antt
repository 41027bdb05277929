-- The rule of ownership, over the words of a table and the views of all seats. It is in a compact form, which the proof of each step
-- uses; `laws::ownership` has its consequences one by one. This project's own.
use Rattle.std.specs.Prelude.{◌≡◌, ℕ, ◌+◌, ◌<◌, ◌&&◌, cond, ltb, leb, List, [], ◌∷◌, length, slice_index}
use mathlib.Core.Option.{some}
use lib.ListN.{get_elem?}
use Rattle.atomic_table.specs.Table.{State}
use Rattle.liszt_base.specs.Reductions.{value}
use Rattle.field_words.specs.declared.view.View.{View}
use Rattle.field_words.specs.Views.{full_share}
use Rattle.field_words.specs.Maps.{WordMap, Each, occurrences}

-- the words of the table, and the views of its seats
abbrev pub TableState : Type 0
TableState = State (Unit {0}) View

-- the sum over all views
abbrev pub total : (View → ℕ) → List View → ℕ
total f [] = 0
total f (v ∷ vs) = f v + total f vs

-- 1 for each word from 1 to n, else 0
abbrev pub occurrences_in_table : ℕ → ℕ → ℕ
occurrences_in_table n x = cond (ltb 0 x && leb x n) 1 0

-- the map has the present value of each of its words
abbrev pub IsPresent : List ℕ → WordMap → Type 0
IsPresent words m = Each (λ x u. value (slice_index words x) ≡ u) m

-- what holds of one view while these words are frozen
pub record ViewFits (words : List ℕ) (frozen : WordMap) (v : View) : Type 0 where
  pub own : IsPresent words v.own
  pub same : 0 < v.share → v.frozen ≡ frozen
  pub spent : v.share ≡ 0 → (v.own ≡ []) × (v.frozen ≡ [])

-- Each word from 1 to n is in exactly one own map or frozen, and no other word is in any map. Maps have the present values. The
-- shares add up to the full share; a view with a share has the one frozen map, and a view without one has empty maps.
pub record IsOwned (n : ℕ) (s : TableState) : Type 0 where
  pub frozen : WordMap
  pub length_is : length s.words ≡ n + 1
  pub shares : total (λ v. v.share) s.views ≡ full_share
  pub one_place : (x : ℕ) → total (λ v. occurrences x v.own) s.views + occurrences x frozen ≡ occurrences_in_table n x
  pub present : IsPresent s.words frozen
  pub each : (j : ℕ) (v : View) → get_elem? s.views j ≡ some v → ViewFits s.words frozen v
