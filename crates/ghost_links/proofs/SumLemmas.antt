-- Sums over the views of all seats.
use Rattle.std.proofs.Common.{◌≡◌, ◌≢◌, ℕ, zero, suc, ◌+◌, ◌≤◌, List, [], ◌∷◌, ◌++◌, set, refl, sym, ap, arith}
use mathlib.Core.Option.{some, some-injective, some-ne-none}
use lib.ListN.{get_elem?}
use Rattle.ghost_links.specs.declared.view.View.{View}
use Rattle.ghost_links.specs.LinkRule.{total}

pub total_set : (f : View → ℕ) (vs : List View) (i : ℕ) (v w : View) → get_elem? vs i ≡ some v
    → total f (set vs i w) + f v ≡ total f vs + f w
total_set f [] i v w e = absurd (some-ne-none v (sym e))
total_set f (x ∷ xs) zero v w e = let same : f x ≡ f v = ap f (some-injective x v e) in omega arith
total_set f (x ∷ xs) (suc i) v w e = let h = total_set f xs i v w e in omega arith

pub total_snoc : (f : View → ℕ) (vs : List View) (w : View) → total f (vs ++ w ∷ []) ≡ total f vs + f w
total_snoc f [] w = omega arith
total_snoc f (x ∷ xs) w = let h = total_snoc f xs w in omega arith

pub total_at : (f : View → ℕ) (vs : List View) (i : ℕ) (v : View) → get_elem? vs i ≡ some v → f v ≤ total f vs
total_at f [] i v e = absurd (some-ne-none v (sym e))
total_at f (x ∷ xs) zero v e = let same : f x ≡ f v = ap f (some-injective x v e) in omega arith
total_at f (x ∷ xs) (suc i) v e = let h = total_at f xs i v e in omega arith

pub total_two : (f : View → ℕ) (vs : List View) (i j : ℕ) (v w : View) → i ≢ j → get_elem? vs i ≡ some v → get_elem? vs j ≡ some w
    → f v + f w ≤ total f vs
total_two f [] i j v w n e h = absurd (some-ne-none v (sym e))
total_two f (x ∷ xs) zero zero v w n e h = absurd (n refl)
total_two f (x ∷ xs) zero (suc j) v w n e h =
    let same : f x ≡ f v = ap f (some-injective x v e) in
    let t = total_at f xs j w h in omega arith
total_two f (x ∷ xs) (suc i) zero v w n e h =
    let same : f x ≡ f w = ap f (some-injective x w h) in
    let t = total_at f xs i v e in omega arith
total_two f (x ∷ xs) (suc i) (suc j) v w n e h = let t = total_two f xs i j v w (λ q. n (ap suc q)) e h in omega arith
