-- Maps from words to values: restricted, appended, and the words that they have.
use Rattle.std.proofs.Common.{◌≡◌, ℕ, zero, suc, ℤ, ◌+◌, ◌<◌, ◌≤◌, Bool, true, false, true≢false, not, cond, ◌&&◌, eqb, eqb-true, ltb, leb, [], ◌∷◌, ◌++◌, Some, None, refl, sym, ap, ap₂, ◌∙◌, arith}
use Rattle.std.specs.declared.option.Option.{Option}
use Rattle.std.proofs.lemmas.Bool.Decides.{nat_tests}
use Rattle.field_words.specs.Maps.{WordMap, Each, value_in, option_count, occurrences, restriction, zero_words}
use Rattle.field_words.specs.Ownership.{occurrences_in_table}

abbrev pub first_of : Option ℤ → Option ℤ → Option ℤ
first_of None b = b
first_of (Some u) b = Some u

restriction_true : (A B : Option ℤ) (u : ℤ) (c d : Bool) → (c ≡ true → d ≡ true) → A ≡ cond d B None
    → cond c (Some u) A ≡ cond d (cond c (Some u) B) None
restriction_true A B u true true h e = refl
restriction_true A B u true false h e = absurd (true≢false (sym (h refl)))
restriction_true A B u false d h e = e

restriction_false : (A B : Option ℤ) (u : ℤ) (c d : Bool) → (c ≡ true → d ≡ false) → A ≡ cond d B None → A ≡ cond d (cond c (Some u) B) None
restriction_false A B u true true h e = absurd (true≢false (h refl))
restriction_false A B u true false h e = e
restriction_false A B u false d h e = e

pub value_in_restriction : (f : ℕ → Bool) (m : WordMap) (x : ℕ) → value_in (restriction f m) x ≡ cond (f x) (value_in m x) None
value_in_restriction f [] x = go (f x)
  where
    go : (b : Bool) → value_in [] x ≡ cond b (value_in [] x) None
    go true = refl
    go false = refl
value_in_restriction f (p ∷ ps) x = go (f p.0) refl (value_in_restriction f ps x)
  where
    go : (b : Bool) → f p.0 ≡ b → value_in (restriction f ps) x ≡ cond (f x) (value_in ps x) None
        → value_in (cond b (p ∷ restriction f ps) (restriction f ps)) x ≡ cond (f x) (cond (eqb p.0 x) (Some p.1) (value_in ps x)) None
    go true e h =
        restriction_true (value_in (restriction f ps) x) (value_in ps x) p.1 (eqb p.0 x) (f x) (λ t. sym (ap f (eqb-true p.0 x t)) ∙ e) h
    go false e h =
        restriction_false (value_in (restriction f ps) x) (value_in ps x) p.1 (eqb p.0 x) (f x) (λ t. sym (ap f (eqb-true p.0 x t)) ∙ e) h

pub value_in_append : (m k : WordMap) (x : ℕ) → value_in (m ++ k) x ≡ first_of (value_in m x) (value_in k x)
value_in_append [] k x = refl
value_in_append (p ∷ ps) k x = go (eqb p.0 x) (value_in_append ps k x)
  where
    go : (b : Bool) → value_in (ps ++ k) x ≡ first_of (value_in ps x) (value_in k x)
        → cond b (Some p.1) (value_in (ps ++ k) x) ≡ first_of (cond b (Some p.1) (value_in ps x)) (value_in k x)
    go true e = refl
    go false e = e

pub occurrences_in_table_at_most : (n x : ℕ) → occurrences_in_table n x ≤ 1
occurrences_in_table_at_most n x = go (ltb 0 x && leb x n)
  where
    go : (b : Bool) → cond b 1 0 ≤ 1
    go true = omega arith
    go false = omega arith

pub word_is_at_most : (n x : ℕ) → 0 < occurrences_in_table n x → x ≤ n
word_is_at_most n x h = grind (arith, nat_tests)

pub occurrences_in_zero_words : (n x : ℕ) → occurrences x (zero_words n) ≡ occurrences_in_table n x
occurrences_in_zero_words zero x = grind (arith, nat_tests)
occurrences_in_zero_words (suc n) x = let h = occurrences_in_zero_words n x in grind (arith, nat_tests)

from_restriction : (b : Bool) (o : Option ℤ) (u : ℤ) → cond b o None ≡ Some u → o ≡ Some u
from_restriction true o u e = e
from_restriction false o u e = absurd cc

pub each_restriction : (P : ℕ → ℤ → Type 0) (f : ℕ → Bool) (m : WordMap) → Each P m → Each P (restriction f m)
each_restriction P f m h x u e = h x u (from_restriction (f x) (value_in m x) u (sym (value_in_restriction f m x) ∙ e))

pub each_append : (P : ℕ → ℤ → Type 0) (m k : WordMap) → Each P m → Each P k → Each P (m ++ k)
each_append P m k hm hk x u e = go (value_in m x) refl (sym (value_in_append m k x) ∙ e)
  where
    go : (o : Option ℤ) → value_in m x ≡ o → first_of o (value_in k x) ≡ Some u → P x u
    go (Some t) is h = hm x u (is ∙ h)
    go None is h = hk x u h

pub each_of_none : (P : ℕ → ℤ → Type 0) → Each P []
each_of_none P x u e = absurd cc

-- a word is in one part or in the other
option_count_parts : (b : Bool) (o : Option ℤ) → option_count (cond (not b) o None) + option_count (cond b o None) ≡ option_count o
option_count_parts true o = omega arith
option_count_parts false o = omega arith

pub occurrences_in_restriction : (f : ℕ → Bool) (m : WordMap) (x : ℕ) → occurrences x (restriction (λ y. not (f y)) m) + occurrences x (restriction f m) ≡ occurrences x m
occurrences_in_restriction f m x =
    ap₂ (λ a b. option_count a + option_count b) (value_in_restriction (λ y. not (f y)) m x) (value_in_restriction f m x)
    ∙ option_count_parts (f x) (value_in m x)

option_count_either : (a b : Option ℤ) → option_count a + option_count b ≤ 1 → option_count (first_of a b) ≡ option_count a + option_count b
option_count_either None b h = omega arith
option_count_either (Some u) None h = refl
option_count_either (Some u) (Some t) h = absurd (omega arith)

pub occurrences_in_append : (m k : WordMap) (x : ℕ) → occurrences x m + occurrences x k ≤ 1 → occurrences x (m ++ k) ≡ occurrences x m + occurrences x k
occurrences_in_append m k x h = ap option_count (value_in_append m k x) ∙ option_count_either (value_in m x) (value_in k x) h

pub occurrences_of_value : (m : WordMap) (x : ℕ) (u : ℤ) → value_in m x ≡ Some u → occurrences x m ≡ 1
occurrences_of_value m x u e = ap option_count e

pub value_of_occurrence : (m : WordMap) (x : ℕ) → occurrences x m ≡ 1 → (u : ℤ) × (value_in m x ≡ Some u)
value_of_occurrence m x h = go (value_in m x) refl h
  where
    go : (o : Option ℤ) → value_in m x ≡ o → option_count o ≡ 1 → (u : ℤ) × (value_in m x ≡ Some u)
    go (Some u) is one = (u, is)
    go None is one = absurd (omega arith)
