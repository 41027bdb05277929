-- Maps from numbers to ends: changed at one number, restricted, appended, and the ends that they have.
use Rattle.std.proofs.Common.{◌≡◌, ◌≢◌, ℕ, zero, suc, ◌+◌, ◌<◌, ◌≤◌, Bool, true, false, true≢false, not, cond, eqb, eqb-true, eq-eqb, ne_eqb, [], ◌∷◌, ◌++◌, Some, None, refl, sym, ap, ap₂, ◌∙◌, subst, arith}
use Rattle.std.specs.declared.option.Option.{Option}
use mathlib.Core.Logic.{dite}
use native.Mathlib.Decide.{ℕ_discrete}
use Rattle.ghost_links.specs.declared.view.End.{End}
use Rattle.ghost_links.specs.Ends.{EndMap, Each, with_change, end_count, end_in, ends_below, idle_end, is_end, occurrences, restriction}

abbrev pub mapped : (End → End) → Option End → Option End
mapped f None = None
mapped f (Some e) = Some (f e)

abbrev pub either_end : Option End → Option End → Option End
either_end None b = b
either_end (Some e) b = Some e

-- one end changed
pub end_in_changed : (x : ℕ) (f : End → End) (m : EndMap) → end_in (with_change x f m) x ≡ mapped f (end_in m x)
end_in_changed x f [] = refl
end_in_changed x f (p ∷ ps) = go (eqb p.0 x) refl (end_in_changed x f ps)
  where
    go : (b : Bool) → eqb p.0 x ≡ b → end_in (with_change x f ps) x ≡ mapped f (end_in ps x)
        → end_in (cond b ((p.0, f p.1) ∷ ps) (p ∷ with_change x f ps)) x ≡ mapped f (cond b (Some p.1) (end_in ps x))
    go true is h = ap (λ b. cond b (Some (f p.1)) (end_in ps x)) is
    go false is h = ap (λ b. cond b (Some p.1) (end_in (with_change x f ps) x)) is ∙ h

pub end_in_changed_else : (x y : ℕ) (f : End → End) (m : EndMap) → y ≢ x → end_in (with_change x f m) y ≡ end_in m y
end_in_changed_else x y f [] ne = refl
end_in_changed_else x y f (p ∷ ps) ne = go (eqb p.0 x) refl (end_in_changed_else x y f ps ne)
  where
    other : (b : Bool) (u w : Option End) → eqb p.0 x ≡ true → eqb p.0 y ≡ b → cond b u w ≡ w
    other true u w is h = absurd (ne (sym (eqb-true p.0 y h) ∙ eqb-true p.0 x is))
    other false u w is h = refl

    go : (b : Bool) → eqb p.0 x ≡ b → end_in (with_change x f ps) y ≡ end_in ps y
        → end_in (cond b ((p.0, f p.1) ∷ ps) (p ∷ with_change x f ps)) y ≡ cond (eqb p.0 y) (Some p.1) (end_in ps y)
    go true is h = other (eqb p.0 y) (Some (f p.1)) (end_in ps y) is refl ∙ sym (other (eqb p.0 y) (Some p.1) (end_in ps y) is refl)
    go false is h = ap (cond (eqb p.0 y) (Some p.1)) h

pub changed_at : (x : ℕ) (f : End → End) (m : EndMap) (e : End) → end_in m x ≡ Some e → end_in (with_change x f m) x ≡ Some (f e)
changed_at x f m e is = end_in_changed x f m ∙ ap (mapped f) is

pub changed_twice : (x : ℕ) (f g : End → End) (m : EndMap) → with_change x g (with_change x f m) ≡ with_change x (λ e. g (f e)) m
changed_twice x f g [] = refl
changed_twice x f g (p ∷ ps) = go (eqb p.0 x) refl (changed_twice x f g ps)
  where
    go : (b : Bool) → eqb p.0 x ≡ b → with_change x g (with_change x f ps) ≡ with_change x (λ e. g (f e)) ps
        → with_change x g (cond b ((p.0, f p.1) ∷ ps) (p ∷ with_change x f ps)) ≡ cond b ((p.0, g (f p.1)) ∷ ps) (p ∷ with_change x (λ e. g (f e)) ps)
    go true is h = ap (λ b. cond b ((p.0, g (f p.1)) ∷ ps) ((p.0, f p.1) ∷ with_change x g ps)) is
    go false is h = ap (λ b. cond b ((p.0, g p.1) ∷ with_change x f ps) (p ∷ with_change x g (with_change x f ps))) is ∙ ap (λ l. p ∷ l) h

pub changed_same : (x : ℕ) (f g : End → End) (m : EndMap) (e : End) → end_in m x ≡ Some e → f e ≡ g e → with_change x f m ≡ with_change x g m
changed_same x f g [] e is same = refl
changed_same x f g (p ∷ ps) e is same = go (eqb p.0 x) is (λ h. changed_same x f g ps e h same)
  where
    go : (b : Bool) → cond b (Some p.1) (end_in ps x) ≡ Some e → (end_in ps x ≡ Some e → with_change x f ps ≡ with_change x g ps)
        → cond b ((p.0, f p.1) ∷ ps) (p ∷ with_change x f ps) ≡ cond b ((p.0, g p.1) ∷ ps) (p ∷ with_change x g ps)
    go true h r =
        let here : p.1 ≡ e = cc in
        ap (λ u. (p.0, u) ∷ ps) (ap f here ∙ (same ∙ sym (ap g here)))
    go false h r = ap (λ l. p ∷ l) (r h)

end_count_mapped : (f : End → End) (o : Option End) → end_count (mapped f o) ≡ end_count o
end_count_mapped f None = refl
end_count_mapped f (Some e) = refl

pub occurrences_in_changed : (x y : ℕ) (f : End → End) (m : EndMap) → occurrences y (with_change x f m) ≡ occurrences y m
occurrences_in_changed x y f m = dite (ℕ_discrete y x)
    (λ is. subst (λ z. occurrences z (with_change x f m) ≡ occurrences z m) (sym is) (ap end_count (end_in_changed x f m) ∙ end_count_mapped f (end_in m x)))
    (λ ne. ap end_count (end_in_changed_else x y f m ne))

pub each_changed : (P : ℕ → End → Type 0) (x : ℕ) (f : End → End) (m : EndMap) (e : End) → end_in m x ≡ Some e → P x (f e)
    → ((y : ℕ) (g : End) → y ≢ x → end_in m y ≡ Some g → P y g) → Each P (with_change x f m)
each_changed P x f m e is mine others y g q = dite (ℕ_discrete y x)
    (λ same.
    let there : end_in (with_change x f m) x ≡ Some g = subst (λ z. end_in (with_change x f m) z ≡ Some g) same q in
    let here = changed_at x f m e is in
    let equal : f e ≡ g = cc in
    subst (λ z. P z g) (sym same) (subst (P x) equal mine))
    (λ ne. others y g ne (sym (end_in_changed_else x y f m ne) ∙ q))

-- restricted and appended
restriction_true : (A B : Option End) (u : End) (c d : Bool) → (c ≡ true → d ≡ true) → A ≡ cond d B None
    → cond c (Some u) A ≡ cond d (cond c (Some u) B) None
restriction_true A B u true true h e = refl
restriction_true A B u true false h e = absurd (true≢false (sym (h refl)))
restriction_true A B u false d h e = e

restriction_false : (A B : Option End) (u : End) (c d : Bool) → (c ≡ true → d ≡ false) → A ≡ cond d B None → A ≡ cond d (cond c (Some u) B) None
restriction_false A B u true true h e = absurd (true≢false (h refl))
restriction_false A B u true false h e = e
restriction_false A B u false d h e = e

pub end_in_restriction : (f : ℕ → Bool) (m : EndMap) (x : ℕ) → end_in (restriction f m) x ≡ cond (f x) (end_in m x) None
end_in_restriction f [] x = go (f x)
  where
    go : (b : Bool) → end_in [] x ≡ cond b (end_in [] x) None
    go true = refl
    go false = refl
end_in_restriction f (p ∷ ps) x = go (f p.0) refl (end_in_restriction f ps x)
  where
    go : (b : Bool) → f p.0 ≡ b → end_in (restriction f ps) x ≡ cond (f x) (end_in ps x) None
        → end_in (cond b (p ∷ restriction f ps) (restriction f ps)) x ≡ cond (f x) (cond (eqb p.0 x) (Some p.1) (end_in ps x)) None
    go true e h =
        restriction_true (end_in (restriction f ps) x) (end_in ps x) p.1 (eqb p.0 x) (f x) (λ t. sym (ap f (eqb-true p.0 x t)) ∙ e) h
    go false e h =
        restriction_false (end_in (restriction f ps) x) (end_in ps x) p.1 (eqb p.0 x) (f x) (λ t. sym (ap f (eqb-true p.0 x t)) ∙ e) h

pub end_in_append : (m k : EndMap) (x : ℕ) → end_in (m ++ k) x ≡ either_end (end_in m x) (end_in k x)
end_in_append [] k x = refl
end_in_append (p ∷ ps) k x = go (eqb p.0 x) (end_in_append ps k x)
  where
    go : (b : Bool) → end_in (ps ++ k) x ≡ either_end (end_in ps x) (end_in k x)
        → cond b (Some p.1) (end_in (ps ++ k) x) ≡ either_end (cond b (Some p.1) (end_in ps x)) (end_in k x)
    go true e = refl
    go false e = e

from_restriction : (b : Bool) (o : Option End) (e : End) → cond b o None ≡ Some e → o ≡ Some e
from_restriction true o e h = h
from_restriction false o e h = absurd cc

pub each_restriction : (P : ℕ → End → Type 0) (f : ℕ → Bool) (m : EndMap) → Each P m → Each P (restriction f m)
each_restriction P f m h x e q = h x e (from_restriction (f x) (end_in m x) e (sym (end_in_restriction f m x) ∙ q))

pub each_append : (P : ℕ → End → Type 0) (m k : EndMap) → Each P m → Each P k → Each P (m ++ k)
each_append P m k hm hk x e q = go (end_in m x) refl (sym (end_in_append m k x) ∙ q)
  where
    go : (o : Option End) → end_in m x ≡ o → either_end o (end_in k x) ≡ Some e → P x e
    go (Some g) is h = hm x e (is ∙ h)
    go None is h = hk x e h

pub each_of_none : (P : ℕ → End → Type 0) → Each P []
each_of_none P x e q = absurd cc

end_count_parts : (b : Bool) (o : Option End) → end_count (cond (not b) o None) + end_count (cond b o None) ≡ end_count o
end_count_parts true o = omega arith
end_count_parts false o = omega arith

pub occurrences_in_restriction : (f : ℕ → Bool) (m : EndMap) (x : ℕ)
    → occurrences x (restriction (λ y. not (f y)) m) + occurrences x (restriction f m) ≡ occurrences x m
occurrences_in_restriction f m x =
    ap₂ (λ a b. end_count a + end_count b) (end_in_restriction (λ y. not (f y)) m x) (end_in_restriction f m x)
    ∙ end_count_parts (f x) (end_in m x)

end_count_either : (a b : Option End) → end_count a + end_count b ≤ 1 → end_count (either_end a b) ≡ end_count a + end_count b
end_count_either None b h = omega arith
end_count_either (Some e) None h = refl
end_count_either (Some e) (Some g) h = absurd (omega arith)

pub occurrences_in_append : (m k : EndMap) (x : ℕ) → occurrences x m + occurrences x k ≤ 1 → occurrences x (m ++ k) ≡ occurrences x m + occurrences x k
occurrences_in_append m k x h = ap end_count (end_in_append m k x) ∙ end_count_either (end_in m x) (end_in k x) h

pub occurrences_of_end : (m : EndMap) (x : ℕ) (e : End) → end_in m x ≡ Some e → occurrences x m ≡ 1
occurrences_of_end m x e q = ap end_count q

-- the ends of a new table
pub new_end : (ranks n x : ℕ) (e : End) → end_in (ends_below ranks n) x ≡ Some e → e ≡ idle_end 0 None
new_end ranks zero x e q = absurd cc
new_end ranks (suc n) x e q = go (is_end ranks n) (eqb n x) refl q (new_end ranks n x e)
  where
    go : (b c : Bool) → eqb n x ≡ c → end_in (cond b ((n, idle_end 0 None) ∷ ends_below ranks n) (ends_below ranks n)) x ≡ Some e
        → (end_in (ends_below ranks n) x ≡ Some e → e ≡ idle_end 0 None) → e ≡ idle_end 0 None
    go true true is h r =
        let here : cond true (Some (idle_end 0 None)) (end_in (ends_below ranks n) x) ≡ Some e = sym (ap (λ c. cond c (Some (idle_end 0 None)) (end_in (ends_below ranks n) x)) is) ∙ h in
        let same : idle_end 0 None ≡ e = cc in sym same
    go true false is h r = r (sym (ap (λ c. cond c (Some (idle_end 0 None)) (end_in (ends_below ranks n) x)) is) ∙ h)
    go false c is h r = r h

pub no_new_end : (ranks n x : ℕ) → n ≤ x → occurrences x (ends_below ranks n) ≡ 0
no_new_end ranks zero x h = refl
no_new_end ranks (suc n) x h = go (is_end ranks n) (eqb n x) refl (no_new_end ranks n x (omega arith))
  where
    go : (b c : Bool) → eqb n x ≡ c → occurrences x (ends_below ranks n) ≡ 0
        → occurrences x (cond b ((n, idle_end 0 None) ∷ ends_below ranks n) (ends_below ranks n)) ≡ 0
    go true true is r = let same : n ≡ x = eqb-true n x is in absurd (omega arith)
    go true false is r = ap (λ c. end_count (cond c (Some (idle_end 0 None)) (end_in (ends_below ranks n) x))) is ∙ r
    go false c is r = r

pub occurrences_of_new : (ranks n x : ℕ) → x < n → occurrences x (ends_below ranks n) ≡ cond (is_end ranks x) 1 0
occurrences_of_new ranks zero x h = absurd (omega arith)
occurrences_of_new ranks (suc n) x h = dite (ℕ_discrete n x)
    (λ same. subst (λ y. occurrences x (cond (is_end ranks y) ((y, idle_end 0 None) ∷ ends_below ranks y) (ends_below ranks y)) ≡ cond (is_end ranks x) 1 0) (sym same) (here (is_end ranks x)))
    (λ ne. less (is_end ranks n) ne (occurrences_of_new ranks n x (omega arith)))
  where
    here : (b : Bool) → occurrences x (cond b ((x, idle_end 0 None) ∷ ends_below ranks x) (ends_below ranks x)) ≡ cond b 1 0
    here true = ap (λ c. end_count (cond c (Some (idle_end 0 None)) (end_in (ends_below ranks x) x))) (eq-eqb x x refl)
    here false = no_new_end ranks x x (omega arith)

    less : (b : Bool) → n ≢ x → occurrences x (ends_below ranks n) ≡ cond (is_end ranks x) 1 0
        → occurrences x (cond b ((n, idle_end 0 None) ∷ ends_below ranks n) (ends_below ranks n)) ≡ cond (is_end ranks x) 1 0
    less true ne r = ap (λ c. end_count (cond c (Some (idle_end 0 None)) (end_in (ends_below ranks n) x))) (ne_eqb n x ne) ∙ r
    less false ne r = r
