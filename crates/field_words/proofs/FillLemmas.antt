-- Workers that fill words of their own, one range after the other.
use Rattle.std.proofs.Common.{◌≡◌, ℕ, zero, suc, ℤ, pos, ◌+◌, ◌-◌, ◌<◌, ◌≤◌, Bool, true, false, not, cond, ◌||◌, eqb, eqb-true, Some, None, refl, sym, ap, ap₂, ◌∙◌, subst, arith}
use Rattle.std.specs.List.{range_with_len}
use Rattle.std.specs.declared.option.Option.{Option}
use Rattle.std.proofs.lemmas.Bool.Decides.{nat_tests}
use Rattle.field_words.specs.Maps.{value_in, option_count, is_in, is_within}
use Rattle.field_words.specs.Holdings.{Holding, Owns, OwnsRange, after_store, after_split, first_holding, handed_holding, after_join}
use Rattle.field_words.specs.Internal.Fills.{IsFilled}
use Rattle.atomic_table.specs.Seated.{TableId}
use Rattle.field_words.proofs.MapLemmas.{first_of, value_in_restriction, value_in_append, occurrences_in_zero_words}
use Rattle.field_words.proofs.OwnershipLemmas.{occurrences_of_word}

is_in_range : (first n x : ℕ) → is_in (range_with_len first n) x ≡ is_within first n x
is_in_range first zero x = grind (arith, nat_tests)
is_in_range first (suc n) x = ap (λ b. eqb first x || b) (is_in_range (first + 1) n x) ∙ either_way where
  either_way : (eqb first x || is_within (first + 1) n x) ≡ is_within first (suc n) x
  either_way = grind (arith, nat_tests)

within : (first n x : ℕ) → first ≤ x → x < first + n → is_within first n x ≡ true
within first n x lo hi = grind (arith, nat_tests)

not_within : (first n x : ℕ) → first + n ≤ x → is_within first n x ≡ false
not_within first n x lo = grind (arith, nat_tests)

-- a range of one worker, and one of all
pub none_filled : (first : ℕ) (h : Holding) → IsFilled first 0 h h
none_filled first h = record {
  table = refl;
  share = refl;
  values = λ x. ap (λ b. cond b (Some (pos x)) (value_in h.own x)) (sym (empty x));
}
  where
    empty : (x : ℕ) → is_within first 0 x ≡ false
    empty x = grind (arith, nat_tests)

pub owns_next : (first n count : ℕ) (h k : Holding) → IsFilled first n h k → OwnsRange h first count → n < count → Owns k (first + n)
owns_next first n count h k f own lt =
    let after = not_within first n (first + n) (omega arith) in
    ap option_count (f.values (first + n) ∙ ap (λ b. cond b (Some (pos (first + n))) (value_in h.own (first + n))) after)
    ∙ own (first + n) (omega arith) (omega arith)

pub one_more_filled : (first n : ℕ) (h k j : Holding) → IsFilled first n h k → j ≡ after_store k (first + n) (pos (first + n))
    → IsFilled first (n + 1) h j
one_more_filled first n h k j f e = subst (IsFilled first (n + 1) h) (sym e) record {
  table = f.table;
  share = f.share;
  values = λ x. go x (eqb (first + n) x) refl;
}
  where
    go : (x : ℕ) (b : Bool) → eqb (first + n) x ≡ b
        → cond (eqb (first + n) x) (Some (pos (first + n))) (value_in k.own x)
        ≡ cond (is_within first (n + 1) x) (Some (pos x)) (value_in h.own x)
    go x true is =
        let same : first + n ≡ x = eqb-true (first + n) x is in
        let inside : is_within first (n + 1) x ≡ true = within first (n + 1) x (omega arith) (omega arith) in
        ap (λ b. cond b (Some (pos (first + n))) (value_in k.own x)) is
        ∙ ap (λ y. Some (pos y)) same
        ∙ sym (ap (λ b. cond b (Some (pos x)) (value_in h.own x)) inside)
    go x false is =
        let same : is_within first (n + 1) x ≡ is_within first n x = grind (arith, nat_tests) in
        ap (λ b. cond b (Some (pos (first + n))) (value_in k.own x)) is
        ∙ f.values x
        ∙ sym (ap (λ b. cond b (Some (pos x)) (value_in h.own x)) same)

pub handed_owns : (first n m : ℕ) (h k : Holding) → OwnsRange h first m → n ≤ m
    → k ≡ handed_holding (range_with_len first n) h → OwnsRange k first n
handed_owns first n m h k own le e x lo hi =
    ap (λ (z : Holding). option_count (value_in z.own x)) e
    ∙ ap option_count (value_in_restriction (is_in (range_with_len first n)) h.own x)
    ∙ ap (λ b. option_count (cond b (value_in h.own x) None)) (is_in_range first n x ∙ within first n x lo hi)
    ∙ own x lo (omega arith)

pub kept_owns : (first n m : ℕ) (h k : Holding) → OwnsRange h first (n + m)
    → k ≡ after_split (range_with_len first n) h → OwnsRange k (first + n) m
kept_owns first n m h k own e x lo hi =
    ap (λ (z : Holding). option_count (value_in z.own x)) e
    ∙ ap option_count (value_in_restriction (λ y. not (is_in (range_with_len first n) y)) h.own x)
    ∙ ap (λ b. option_count (cond (not b) (value_in h.own x) None)) (is_in_range first n x ∙ not_within first n x lo)
    ∙ own x (omega arith) (omega arith)

first_of_none : (o : Option ℤ) → first_of o None ≡ o
first_of_none None = refl
first_of_none (Some u) = refl

-- the value of a word after the split, the fills of both parts, and the join
value_after : (a b c : Bool) (o u k l p q : Option ℤ) → c ≡ (a || b) → (a ≡ true → b ≡ false) → k ≡ cond (not a) o None → l ≡ cond a o None
    → p ≡ cond b u k → q ≡ cond a u l → first_of p q ≡ cond c u o
value_after true b c o u k l p q is apart ek el ep eq =
    let none : p ≡ None = ep ∙ (ap (λ z. cond z u k) (apart refl) ∙ ek) in
    ap (λ z. first_of z q) none ∙ (eq ∙ sym (ap (λ z. cond z u o) is))
value_after false b c o u k l p q is apart ek el ep eq =
    ap₂ first_of (ep ∙ ap (cond b u) ek) (eq ∙ el) ∙ (first_of_none (cond b u o) ∙ sym (ap (λ z. cond z u o) is))

pub both_filled : (first n m : ℕ) (h k l p q e : Holding) → 1 ≤ h.share
    → k ≡ after_split (range_with_len first n) h → l ≡ handed_holding (range_with_len first n) h
    → IsFilled (first + n) m k p → IsFilled first n l q → e ≡ after_join p q → IsFilled first (n + m) h e
both_filled first n m h k l p q e some_share ik il fp fq ie =
    let ps : p.share ≡ h.share - 1 = fp.share ∙ ap (λ z. z.share) ik in
    let qs : q.share ≡ 1 = fq.share ∙ ap (λ z. z.share) il in
    subst (IsFilled first (n + m) h) (sym ie) record {
      table = fp.table ∙ ap (λ z. z.table) ik;
      share = omega arith;
      values = λ x. value_in_append p.own q.own x
          ∙ value_after (is_within first n x) (is_within (first + n) m x) (is_within first (n + m) x) (value_in h.own x) (Some (pos x))
          (value_in k.own x) (value_in l.own x) (value_in p.own x) (value_in q.own x) (whole x) (apart x)
          (ap (λ (z : Holding). value_in z.own x) ik ∙ value_in_restriction (λ y. not (is_in (range_with_len first n) y)) h.own x
          ∙ ap (λ b. cond (not b) (value_in h.own x) None) (is_in_range first n x))
          (ap (λ (z : Holding). value_in z.own x) il ∙ value_in_restriction (is_in (range_with_len first n)) h.own x
          ∙ ap (λ b. cond b (value_in h.own x) None) (is_in_range first n x))
          (fp.values x) (fq.values x);
    }
  where
    whole : (x : ℕ) → is_within first (n + m) x ≡ (is_within first n x || is_within (first + n) m x)
    whole x = grind (arith, nat_tests)

    apart : (x : ℕ) → is_within first n x ≡ true → is_within (first + n) m x ≡ false
    apart x h = grind (arith, nat_tests)

pub first_owns : (n : ℕ) (t : TableId) → OwnsRange (first_holding t n) 1 n
first_owns n t x lo hi = occurrences_in_zero_words n x ∙ occurrences_of_word n x lo (omega arith)

pub filled_owns : (first n : ℕ) (h k : Holding) → IsFilled first n h k → OwnsRange k first n
filled_owns first n h k f x lo hi =
    ap option_count (f.values x ∙ ap (λ b. cond b (Some (pos x)) (value_in h.own x)) (within first n x lo hi))
