-- Consequences of the rule of ownership.
use Rattle.std.proofs.Common.{◌≡◌, ◌⊎◌, ℕ, suc, ℤ, ◌+◌, ◌<◌, ◌≤◌, List, [], ◌∷◌, Some, None, refl, sym, ap, ◌∙◌, inl, inr, arith}
use Rattle.std.specs.Prelude.{slice_index}
use mathlib.Core.Option.{some}
use mathlib.Core.Logic.{dite}
use native.Mathlib.Decide.{ℕ_discrete}
use lib.ListN.{get_elem?}
use Rattle.std.specs.declared.option.Option.{Option}
use Rattle.std.proofs.lemmas.Bool.Decides.{nat_tests}
use Rattle.liszt_base.specs.Reductions.{value}
use Rattle.field_words.specs.declared.view.View.{View}
use Rattle.field_words.specs.Maps.{WordMap, value_in, option_count, occurrences}
use Rattle.field_words.specs.Ownership.{TableState, total, occurrences_in_table, IsOwned}
use Rattle.field_words.proofs.StepLemmas.{owned_or_frozen}

-- a total that isn't 0 has a part that isn't
positive_part : (f : View → ℕ) (vs : List View) → 0 < total f vs → (j : ℕ) × (v : View) × (get_elem? vs j ≡ some v) × (0 < f v)
positive_part f [] h = absurd (omega arith)
positive_part f (v ∷ vs) h = dite (ℕ_discrete (f v) 0)
    (λ z. let r = positive_part f vs (omega arith) in (suc r.0, r.1, r.2, r.3))
    (λ ne. (0, v, refl, omega arith))

occurrences_at_most : (m : WordMap) (x : ℕ) → occurrences x m ≤ 1
occurrences_at_most m x = go (value_in m x)
  where
    go : (o : Option ℤ) → option_count o ≤ 1
    go None = omega arith
    go (Some u) = omega arith

pub occurrences_of_word : (n x : ℕ) → 0 < x → x ≤ n → occurrences_in_table n x ≡ 1
occurrences_of_word n x lo hi = grind (arith, nat_tests)

pub frozen_is_present : (n : ℕ) (s : TableState) → IsOwned n s → (j x : ℕ) (v : View) (u : ℤ) → get_elem? s.views j ≡ some v
    → value_in v.frozen x ≡ Some u → value (slice_index s.words x) ≡ u
frozen_is_present n s r j x v u here e = dite (ℕ_discrete v.share 0)
    (λ z. let none = ((r.each j v here).spent z).1 in absurd cc)
    (λ ne. r.present x u (ap (λ m. value_in m x) (sym ((r.each j v here).same (omega arith))) ∙ e))

pub owned_is_not_frozen : (n : ℕ) (s : TableState) → IsOwned n s → (i j x : ℕ) (v w : View) → get_elem? s.views i ≡ some v
    → get_elem? s.views j ≡ some w → occurrences x v.own + occurrences x w.frozen ≤ 1
owned_is_not_frozen n s r i j x v w here at_j = dite (ℕ_discrete w.share 0)
    (λ z.
    let none : occurrences x w.frozen ≡ 0 = ap (occurrences x) ((r.each j w at_j).spent z).1 in
    let most = occurrences_at_most v.own x in omega arith)
    (λ ne.
    let same : occurrences x w.frozen ≡ occurrences x r.frozen = ap (occurrences x) ((r.each j w at_j).same (omega arith)) in
    let b = owned_or_frozen n s r i x v here in omega arith)

pub owned_or_frozen_word : (n : ℕ) (s : TableState) → IsOwned n s → (x : ℕ) → 0 < x → x ≤ n
    → (j : ℕ) × (v : View) × (get_elem? s.views j ≡ some v) × ((occurrences x v.own ≡ 1) ⊎ (occurrences x v.frozen ≡ 1))
owned_or_frozen_word n s r x lo hi = dite (ℕ_discrete (total (λ v. occurrences x v.own) s.views) 0)
    (λ z.
    let one = r.one_place x in
    let is = occurrences_of_word n x lo hi in
    let all = r.shares in
    let p = positive_part (λ v. v.share) s.views (omega arith) in
    let same : occurrences x p.1.frozen ≡ occurrences x r.frozen = ap (occurrences x) ((r.each p.0 p.1 p.2).same p.3) in
    (p.0, p.1, p.2, inr (omega arith)))
    (λ ne.
    let p = positive_part (λ v. occurrences x v.own) s.views (omega arith) in
    let most = occurrences_at_most p.1.own x in
    let some_there = p.3 in
    (p.0, p.1, p.2, inl (omega arith)))
