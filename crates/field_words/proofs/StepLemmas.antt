-- Each kind of step keeps the rule of ownership.
use Rattle.std.proofs.Common.{◌≡◌, ◌≢◌, ℕ, zero, suc, ℤ, ◌+◌, ◌<◌, ◌≤◌, not, eqb, eqb-true, List, [], ◌∷◌, ◌++◌, length, set, get_or, Some, Bool, true, false, cond, refl, sym, ap, ◌∙◌, subst, ⊎_elim, arith, length-set, get_or-set_other, get_or-set_same, replicate, pos}
use Rattle.std.specs.Prelude.{slice_index}
use Rattle.std.proofs.lemmas.Bool.{eqb-false}
use Rattle.std.proofs.lemmas.List.{length-replicate}
use mathlib.Core.Option.{some, none, some-injective, some-ne-none}
use lib.ListN.{get_elem?}
use lib.Seq.{set-get_or}
use Rattle.atomic_table.specs.Table.{step, keeps, stepped, opening, Allows, Splits, Joins}
use Rattle.atomic_table.proofs.Lists.{at_set, at_snoc, set_else}
use Rattle.liszt_base.specs.Reductions.{value}
use Rattle.field_words.specs.declared.view.View.{View}
use Rattle.field_words.specs.Maps.{WordMap, value_in, option_count, occurrences, restriction, is_in, is_within, zero_words}
use Rattle.field_words.specs.Views.{full_share, first_view, spent_view, counted_view, stored_view, kept_view, handed_view, joined_view, frozen_view, thawed_view}
use Rattle.field_words.specs.Ownership.{TableState, IsPresent, ViewFits, IsOwned}
use Rattle.field_words.specs.Internal.Plays.{SeatState, LoadsOwn, LoadsFrozen, StoresOwn, Freezes, Thaws}
use Rattle.field_words.proofs.MapLemmas.{occurrences_in_table_at_most, word_is_at_most, occurrences_in_zero_words, each_restriction, each_append, each_of_none, occurrences_in_restriction, occurrences_in_append, occurrences_of_value}
use Rattle.field_words.proofs.SumLemmas.{total_set, total_snoc, total_at, total_two}

present_restriction : (words : List ℕ) (f : ℕ → Bool) (m : WordMap) → IsPresent words m → IsPresent words (restriction f m)
present_restriction words f m h = each_restriction (λ x u. value (slice_index words x) ≡ u) f m h

present_append : (words : List ℕ) (m k : WordMap) → IsPresent words m → IsPresent words k → IsPresent words (m ++ k)
present_append words m k hm hk = each_append (λ x u. value (slice_index words x) ≡ u) m k hm hk

present_none : (words : List ℕ) → IsPresent words []
present_none words = each_of_none (λ x u. value (slice_index words x) ≡ u)

-- views after one of them changed
fits_after_set : (words : List ℕ) (frozen : WordMap) (vs : List View) (id : ℕ) (w : View) → ViewFits words frozen w
    → ((j : ℕ) (u : View) → j ≢ id → get_elem? vs j ≡ some u → ViewFits words frozen u)
    → (j : ℕ) (u : View) → get_elem? (set vs id w) j ≡ some u → ViewFits words frozen u
fits_after_set words frozen vs id w mine others j u e = ⊎_elim
    (λ (t : (j ≡ id) × (w ≡ u)). subst (ViewFits words frozen) t.1 mine)
    (λ (t : (j ≢ id) × (get_elem? vs j ≡ some u)). others j u t.0 t.1)
    (at_set vs id j w u e)

-- a word of one view is in no other, and is not frozen
pub owned_once : (n : ℕ) (s : TableState) (r : IsOwned n s) (id j x : ℕ) (v u : View) → j ≢ id → get_elem? s.views id ≡ some v
    → get_elem? s.views j ≡ some u → occurrences x v.own + occurrences x u.own ≤ 1
owned_once n s r id j x v u ne here at_j =
    let two = total_two (λ t. occurrences x t.own) s.views id j v u (λ e. ne (sym e)) here at_j in
    let one = r.one_place x in
    let most = occurrences_in_table_at_most n x in omega arith

pub owned_or_frozen : (n : ℕ) (s : TableState) (r : IsOwned n s) (id x : ℕ) (v : View) → get_elem? s.views id ≡ some v
    → occurrences x v.own + occurrences x r.frozen ≤ 1
owned_or_frozen n s r id x v here =
    let part = total_at (λ t. occurrences x t.own) s.views id v here in
    let one = r.one_place x in
    let most = occurrences_in_table_at_most n x in omega arith

-- One view changes, and no word. Own and frozen words together stay the same.
owned_after : (n i id : ℕ) (s : TableState) (r : IsOwned n s) (v w : View) (c : List (ℕ × Unit {0})) (frozen : WordMap)
    → get_elem? s.views id ≡ some v → w.share ≡ v.share → ((x : ℕ) → occurrences x w.own + occurrences x frozen ≡ occurrences x v.own + occurrences x r.frozen)
    → IsPresent s.words frozen → ViewFits s.words frozen w
    → ((j : ℕ) (u : View) → j ≢ id → get_elem? s.views j ≡ some u → ViewFits s.words frozen u)
    → IsOwned n (stepped s i (slice_index s.words i) id c w keeps)
owned_after n i id s r v w c frozen here share places present mine others =
    subst (λ (ws : List ℕ). IsOwned n record { words = ws; homes = s.homes; views = set s.views id w }) (sym (set-get_or s.words i 0))
    record {
      frozen = frozen;
      length_is = r.length_is;
      shares = let t = total_set (λ u. u.share) s.views id v w here in let all = r.shares in omega arith;
      one_place = λ x.
          let t = total_set (λ u. occurrences x u.own) s.views id v w here in
          let one = r.one_place x in
          let p = places x in omega arith;
      present = present;
      each = fits_after_set s.words frozen s.views id w mine others;
    }

-- loads
owned_after_load : (n i id : ℕ) (s : TableState) (r : IsOwned n s) (me : SeatState) → get_elem? s.views id ≡ some me.0
    → IsOwned n (stepped s i (slice_index s.words i) id me.1 (counted_view me.0) keeps)
owned_after_load n i id s r me here =
    let f = r.each id me.0 here in
    owned_after n i id s r me.0 (counted_view me.0) me.1 r.frozen here refl (λ x. refl) r.present
    record { own = f.own; same = f.same; spent = f.spent } (λ j u _ e. r.each j u e)

pub load_own_keeps : (n slots id i : ℕ) (me : SeatState) (u : ℤ) → value_in me.0.own i ≡ Some u
    → Allows (IsOwned n) slots id me i (λ k. k) (LoadsOwn (step slots i 0 0 none) me)
load_own_keeps n slots id i me u e s r _ here _ =
    let now = (r.each id me.0 here).own i u e in
    (counted_view me.0, keeps, tt, owned_after_load n i id s r me here, (refl, e ∙ ap Some (sym now)))

pub load_frozen_keeps : (n slots id i : ℕ) (me : SeatState) (u : ℤ) → 0 < me.0.share → value_in me.0.frozen i ≡ Some u
    → Allows (IsOwned n) slots id me i (λ k. k) (LoadsFrozen (step slots i 0 0 none) me)
load_frozen_keeps n slots id i me u some_share e s r _ here _ =
    let same = (r.each id me.0 here).same some_share in
    let now = r.present i u (ap (λ m. value_in m i) (sym same) ∙ e) in
    (counted_view me.0, keeps, tt, owned_after_load n i id s r me here, (refl, e ∙ ap Some (sym now)))

-- a store, for a map without the word and for one with it
present_elsewhere : (words : List ℕ) (i k : ℕ) (m : WordMap) → occurrences i m ≡ 0 → IsPresent words m → IsPresent (set words i k) m
present_elsewhere words i k m none_here present x u e =
    let ne : x ≢ i = λ (q : x ≡ i).
    let one = occurrences_of_value m x u e in
    let same : occurrences x m ≡ occurrences i m = ap (λ y. occurrences y m) q in absurd (omega arith) in
    ap value (get_or-set_other words i x k 0 ne) ∙ present x u e

present_after_store : (words : List ℕ) (i k : ℕ) (m : WordMap) → i < length words → IsPresent words m
    → IsPresent (set words i k) ((i, value k) ∷ m)
present_after_store words i k m inside present x u e = go (eqb i x) refl e
  where
    go : (b : Bool) → eqb i x ≡ b → cond b (Some (value k)) (value_in m x) ≡ Some u → value (slice_index (set words i k) x) ≡ u
    go true is h =
        let same = eqb-true i x is in
        ap (λ y. value (slice_index (set words i k) y)) (sym same) ∙ (ap value (get_or-set_same words i k 0 inside) ∙ cc)
    go false is h = ap value (get_or-set_other words i x k 0 (λ q. eqb-false i x is (sym q))) ∙ present x u h

occurrences_after_store : (m : WordMap) (i x : ℕ) (u w : ℤ) → value_in m i ≡ Some u → occurrences x ((i, w) ∷ m) ≡ occurrences x m
occurrences_after_store m i x u w e = go (eqb i x) refl
  where
    go : (b : Bool) → eqb i x ≡ b → occurrences x ((i, w) ∷ m) ≡ occurrences x m
    go true is =
        let here = subst (λ y. value_in m y ≡ Some u) (eqb-true i x is) e in
        ap (λ b. option_count (cond b (Some w) (value_in m x))) is ∙ sym (occurrences_of_value m x u here)
    go false is = ap (λ b. option_count (cond b (Some w) (value_in m x))) is

pub store_own_keeps : (n slots id i k : ℕ) (me : SeatState) (u : ℤ) → value_in me.0.own i ≡ Some u
    → Allows (IsOwned n) slots id me i (λ _. k) (λ _. StoresOwn (step slots i k 0 none) me k)
store_own_keeps n slots id i k me u e s r _ here _ =
    let v = me.0 in
    let w = stored_view v i (value k) in
    let f = r.each id v here in
    let mine = occurrences_of_value v.own i u e in
    let part = total_at (λ t. occurrences i t.own) s.views id v here in
    let one = r.one_place i in
    let inside : i ≤ n = word_is_at_most n i (omega arith) in
    let wide = r.length_is in
    let apart : occurrences i r.frozen ≡ 0 = let b = owned_or_frozen n s r id i v here in omega arith in (
      w,
      keeps,
      tt,
      record {
        frozen = r.frozen;
        length_is = length-set s.words i k ∙ wide;
        shares = let t = total_set (λ u. u.share) s.views id v w here in let all = r.shares in omega arith;
        one_place = λ x.
            let t = total_set (λ u. occurrences x u.own) s.views id v w here in
            let o = r.one_place x in
            let p = occurrences_after_store v.own i x u (value k) e in omega arith;
        present = present_elsewhere s.words i k r.frozen apart r.present;
        each = fits_after_set (set s.words i k) r.frozen s.views id w
            record {
              own = present_after_store s.words i k v.own (omega arith) f.own;
              same = f.same;
              spent = λ none_left. absurd (has_share none_left f);
            }
            (λ j t ne at_j.
            let g = r.each j t at_j in
            let a = owned_once n s r id j i v t ne here at_j in
            record { own = present_elsewhere s.words i k t.own (omega arith) g.own; same = g.same; spent = g.spent });
      },
      refl,
    )
  where
    has_share : {ws : List ℕ} {frozen : WordMap} → me.0.share ≡ 0 → ViewFits ws frozen me.0 → ⊥
    has_share z f = let none_own = (f.spent z).0 in absurd cc

pub split_keeps : (n id : ℕ) (v : View) (ws : List ℕ) → 2 ≤ v.share → Splits (IsOwned n) id v (kept_view ws v) (handed_view ws v)
split_keeps n id v ws enough s r here =
    let f = r.each id v here in
    let a = kept_view ws v in
    let b = handed_view ws v in
    let now = set s.views id a in
    let same = f.same (omega arith) in
    let fits_a : ViewFits s.words r.frozen a = record {
      own = present_restriction s.words (λ x. not (is_in ws x)) v.own f.own;
      same = λ _. same;
      spent = λ z. absurd (omega arith);
    } in
    let fits_b : ViewFits s.words r.frozen b = record {
      own = present_restriction s.words (is_in ws) v.own f.own;
      same = λ _. same;
      spent = λ z. absurd (omega arith);
    } in
    record {
      frozen = r.frozen;
      length_is = r.length_is;
      shares =
          let t = total_set (λ u. u.share) s.views id v a here in
          let p = total_snoc (λ u. u.share) now b in
          let all = r.shares in omega arith;
      one_place = λ x.
          let t = total_set (λ u. occurrences x u.own) s.views id v a here in
          let p = total_snoc (λ u. occurrences x u.own) now b in
          let o = r.one_place x in
          let q = occurrences_in_restriction (is_in ws) v.own x in omega arith;
      present = r.present;
      each = λ j u e. ⊎_elim
          (fits_after_set s.words r.frozen s.views id a fits_a (λ i t _ at_i. r.each i t at_i) j u)
          (λ (is : b ≡ u). subst (ViewFits s.words r.frozen) is fits_b)
          (at_snoc now b u j e);
    }

pub join_keeps : (n id : ℕ) (v : View) (other : ℕ) (w : View) → 0 < v.share → Joins (IsOwned n) id v other w (joined_view v w) spent_view
join_keeps n id v other w some_share s r here apart at_other =
    let f = r.each id v here in
    let both = joined_view v w in
    let now = set s.views id both in
    let was : get_elem? s.views other ≡ some w = sym (set_else s.views id other both apart) ∙ at_other in
    let g = r.each other w was in
    let fits_both : ViewFits s.words r.frozen both = record {
      own = present_append s.words v.own w.own f.own g.own;
      same = λ _. f.same some_share;
      spent = λ z. absurd (omega arith);
    } in
    let fits_spent : ViewFits s.words r.frozen spent_view = record {
      own = present_none s.words;
      same = λ z. absurd (omega arith);
      spent = λ _. (refl, refl);
    } in
    record {
      frozen = r.frozen;
      length_is = r.length_is;
      shares =
          let t = total_set (λ u. u.share) s.views id v both here in
          let p = total_set (λ u. u.share) now other w spent_view at_other in
          let all = r.shares in omega arith;
      one_place = λ x.
          let t = total_set (λ u. occurrences x u.own) s.views id v both here in
          let p = total_set (λ u. occurrences x u.own) now other w spent_view at_other in
          let o = r.one_place x in
          let q = occurrences_in_append v.own w.own x (owned_once n s r id other x v w apart here was) in omega arith;
      present = r.present;
      each = fits_after_set s.words r.frozen now other spent_view fits_spent
          (λ j u _ e. fits_after_set s.words r.frozen s.views id both fits_both (λ i t _ at_i. r.each i t at_i) j u e);
    }

-- with the full share, every other view is spent
others_fit : (n id : ℕ) (s : TableState) (r : IsOwned n s) (v : View) → v.share ≡ full_share → get_elem? s.views id ≡ some v
    → (frozen : WordMap) (j : ℕ) (u : View) → j ≢ id → get_elem? s.views j ≡ some u → ViewFits s.words frozen u
others_fit n id s r v all here frozen j u ne e =
    let two = total_two (λ t. t.share) s.views id j v u (λ q. ne (sym q)) here e in
    let sum = r.shares in
    let none_left : u.share ≡ 0 = omega arith in
    let f = r.each j u e in
    record { own = f.own; same = λ z. absurd (omega arith); spent = f.spent }

pub freeze_keeps : (n slots id first count : ℕ) (me : SeatState) → me.0.share ≡ full_share
    → Allows (IsOwned n) slots id me 0 (λ k. k) (Freezes first count (step slots 0 0 0 none) me)
freeze_keeps n slots id first count me all s r _ here _ =
    let v = me.0 in
    let f = r.each id v here in
    let w = frozen_view first count v in
    let same : v.frozen ≡ r.frozen = f.same (omega arith) in
    let known : IsPresent s.words v.frozen = subst (IsPresent s.words) (sym same) r.present in
    let moved = present_restriction s.words (is_within first count) v.own f.own in
    let fits : ViewFits s.words w.frozen w = record {
      own = present_restriction s.words (λ x. not (is_within first count x)) v.own f.own;
      same = λ _. refl;
      spent = λ z. absurd (omega arith);
    } in
    let places : (x : ℕ) → occurrences x w.own + occurrences x w.frozen ≡ occurrences x v.own + occurrences x r.frozen = λ x.
    let b = owned_or_frozen n s r id x v here in
    let p = occurrences_in_restriction (is_within first count) v.own x in
    let same_x : occurrences x v.frozen ≡ occurrences x r.frozen = ap (occurrences x) same in
    let q = occurrences_in_append (restriction (is_within first count) v.own) v.frozen x (omega arith) in omega arith in (
      w,
      keeps,
      tt,
      owned_after n 0 id s r v w me.1 w.frozen here refl places
          (present_append s.words (restriction (is_within first count) v.own) v.frozen moved known) fits (others_fit n id s r v all here w.frozen),
      refl,
    )

pub thaw_keeps : (n slots id : ℕ) (me : SeatState) → me.0.share ≡ full_share
    → Allows (IsOwned n) slots id me 0 (λ k. k) (Thaws (step slots 0 0 0 none) me)
thaw_keeps n slots id me all s r _ here _ =
    let v = me.0 in
    let f = r.each id v here in
    let w = thawed_view v in
    let same : v.frozen ≡ r.frozen = f.same (omega arith) in
    let known : IsPresent s.words v.frozen = subst (IsPresent s.words) (sym same) r.present in
    let fits : ViewFits s.words [] w = record {
      own = present_append s.words v.own v.frozen f.own known;
      same = λ _. refl;
      spent = λ z. absurd (omega arith);
    } in
    let places : (x : ℕ) → occurrences x w.own + occurrences x [] ≡ occurrences x v.own + occurrences x r.frozen = λ x.
    let b = owned_or_frozen n s r id x v here in
    let same_x : occurrences x v.frozen ≡ occurrences x r.frozen = ap (occurrences x) same in
    let q = occurrences_in_append v.own v.frozen x (omega arith) in omega arith in (
      w,
      keeps,
      tt,
      owned_after n 0 id s r v w me.1 [] here refl places (present_none s.words) fits (others_fit n id s r v all here []),
      refl,
    )

-- a new table
zeros_at : (k x : ℕ) → ◌≡◌ {A = ℕ} (get_or (replicate k 0) x 0) 0
zeros_at zero x = refl
zeros_at (suc k) zero = refl
zeros_at (suc k) (suc x) = zeros_at k x

zero_word_value : (n x : ℕ) (u : ℤ) → value_in (zero_words n) x ≡ Some u → pos 0 ≡ u
zero_word_value zero x u e = absurd cc
zero_word_value (suc n) x u e = go (eqb (suc n) x) e (zero_word_value n x u)
  where
    go : (b : Bool) → cond b (Some (pos 0)) (value_in (zero_words n) x) ≡ Some u
        → (value_in (zero_words n) x ≡ Some u → pos 0 ≡ u) → pos 0 ≡ u
    go true e h = cc
    go false e h = h e

zero_words_present : (n k : ℕ) → IsPresent (replicate k 0) (zero_words n)
zero_words_present n k x u e = ap value (zeros_at k x) ∙ zero_word_value n x u e

pub first_state_owned : (n : ℕ) → IsOwned n (opening (replicate (n + 1) 0) [] (first_view n))
first_state_owned n = record {
  frozen = [];
  length_is = length-replicate (n + 1) 0;
  shares = refl;
  one_place = λ x. let z = occurrences_in_zero_words n x in omega arith;
  present = present_none (replicate (n + 1) 0);
  each = one;
}
  where
    fits : ViewFits (replicate (n + 1) 0) [] (first_view n)
    fits = record { own = zero_words_present n (n + 1); same = λ _. refl; spent = λ z. absurd (omega arith) }

    one : (j : ℕ) (v : View) → get_elem? (first_view n ∷ []) j ≡ some v → ViewFits (replicate (n + 1) 0) [] v
    one zero v e = subst (ViewFits (replicate (n + 1) 0) []) (some-injective _ _ e) fits
    one (suc j) v e = absurd (some-ne-none v (sym e))
