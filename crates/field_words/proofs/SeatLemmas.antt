-- What holds of a seat holds after each of its steps.
use Rattle.std.proofs.Common.{◌≡◌, ℕ, ℤ, ◌+◌, ◌<◌, ◌≤◌, not, eqb, eqb-true, List, [], ◌++◌, Some, Bool, true, false, cond, refl, sym, ap, ◌∙◌, subst, arith}
use Rattle.atomic_table.specs.Seated.{TableId}
use Rattle.field_words.specs.declared.view.View.{View}
use Rattle.field_words.specs.Maps.{WordMap, AreBelow, value_in, restriction, is_in, is_within, zero_words}
use Rattle.field_words.specs.Views.{first_view, counted_view, stored_view, kept_view, handed_view, joined_view, frozen_view, thawed_view}
use Rattle.field_words.specs.Holdings.{Holding, IsSeat, holding}
use Rattle.field_words.specs.Internal.Plays.{SeatState}
use Rattle.field_words.proofs.MapLemmas.{word_is_at_most, occurrences_in_zero_words, each_restriction, each_append, each_of_none, occurrences_of_value}

-- a seat and its table by what contracts see of them
pub same_table : {t t' z : TableId} {v : View} {h : Holding} → holding t v ≡ h → h.table ≡ z → t' ≡ z → t ≡ t'
same_table e f g = ap (λ k. k.table) e ∙ (f ∙ sym g)

below_restriction : (n : ℕ) (f : ℕ → Bool) (m : WordMap) → AreBelow n m → AreBelow n (restriction f m)
below_restriction n f m h = each_restriction (λ x u. x < n) f m h

below_append : (n : ℕ) (m k : WordMap) → AreBelow n m → AreBelow n k → AreBelow n (m ++ k)
below_append n m k hm hk = each_append (λ x u. x < n) m k hm hk

below_none : (n : ℕ) → AreBelow n []
below_none n = each_of_none (λ x u. x < n)

zero_words_below : (n x : ℕ) (u : ℤ) → value_in (zero_words n) x ≡ Some u → x < n + 1
zero_words_below n x u e =
    let h = occurrences_in_zero_words n x in
    let one = occurrences_of_value (zero_words n) x u e in
    let inside : x ≤ n = word_is_at_most n x (omega arith) in omega arith

pub first_seat : (n words : ℕ) → words ≡ n + 1 → IsSeat words (first_view n)
first_seat n words is = record {
  share = omega arith;
  own = λ x u e. let b = zero_words_below n x u e in omega arith;
  frozen = below_none words;
}

pub seat_counted : (words : ℕ) (v : View) → IsSeat words v → IsSeat words (counted_view v)
seat_counted words v h = record { share = h.share; own = h.own; frozen = h.frozen }

pub seat_stored : (words : ℕ) (v : View) (i : ℕ) (u w : ℤ) → value_in v.own i ≡ Some u → IsSeat words v → IsSeat words (stored_view v i w)
seat_stored words v i u w e h = record { share = h.share; own = λ x t is. go x t (eqb i x) refl is; frozen = h.frozen }
  where
    go : (x : ℕ) (t : ℤ) (b : Bool) → eqb i x ≡ b → cond b (Some w) (value_in v.own x) ≡ Some t → x < words
    go x t true is q = subst (λ y. y < words) (eqb-true i x is) (h.own i u e)
    go x t false is q = h.own x t q

pub seat_kept : (words : ℕ) (v : View) (ws : List ℕ) → 2 ≤ v.share → IsSeat words v → IsSeat words (kept_view ws v)
seat_kept words v ws enough h = record {
  share = omega arith;
  own = below_restriction words (λ x. not (is_in ws x)) v.own h.own;
  frozen = h.frozen;
}

pub seat_handed : (words : ℕ) (v : View) (ws : List ℕ) → IsSeat words v → IsSeat words (handed_view ws v)
seat_handed words v ws h = record { share = omega arith; own = below_restriction words (is_in ws) v.own h.own; frozen = h.frozen }

pub seat_joined : (words : ℕ) (v w : View) → IsSeat words v → IsSeat words w → IsSeat words (joined_view v w)
seat_joined words v w h k =
    let some_share = h.share in
    record { share = omega arith; own = below_append words v.own w.own h.own k.own; frozen = h.frozen }

pub seat_frozen : (words first count : ℕ) (v : View) → IsSeat words v → IsSeat words (frozen_view first count v)
seat_frozen words first count v h =
    let moved = below_restriction words (is_within first count) v.own h.own in
    record {
      share = h.share;
      own = below_restriction words (λ x. not (is_within first count x)) v.own h.own;
      frozen = below_append words (restriction (is_within first count) v.own) v.frozen moved h.frozen;
    }

pub seat_thawed : (words : ℕ) (v : View) → IsSeat words v → IsSeat words (thawed_view v)
seat_thawed words v h = record { share = h.share; own = below_append words v.own v.frozen h.own h.frozen; frozen = below_none words }

-- the invariant of a seat, from what a step says of its table and its view
pub seat_invariant : (t t' : TableId) (me : SeatState) (w : View) (c : List (ℕ × Unit {0})) → t' ≡ t → me ≡ (w, c) → c ≡ []
    → IsSeat t.words w → (me.1 ≡ []) × IsSeat t'.words me.0
seat_invariant t t' me w c e f g h =
    (ap (λ m. m.1) f ∙ g, subst (λ z. IsSeat z.words me.0) (sym e) (subst (λ m. IsSeat t.words m.0) (sym f) h))
