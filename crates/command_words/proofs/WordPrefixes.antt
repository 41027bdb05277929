-- What follows the front of a word is what std's reader of a front gives.
use Rattle.std.proofs.Common.{◌≡◌, ◌≢◌, ℕ, ◌==◌, Bool, true, false, cond, List, [], ◌∷◌, ◌++◌, Option, Some, None, MatchOption, Bor, refl, sym, eqb-true, eq-eqb}
use Rattle.std.specs.Option.{option_map}
use Rattle.command_words.specs.Commands.{after_prefix}

chosen : {A : Type 0} (b : Bool) (o : Option A) (y : A) → cond b o None ≡ Some y → (b ≡ true) × (o ≡ Some y)
chosen true o y e = (refl, e)
chosen false o y e = cc

some_is : {A : Type 0} (x y : A) → ◌≡◌ {A = Option A} (Some x) (Some y) → x ≡ y
some_is x y e = cc

pub after_prefix_splits : (front word rest : List ℕ) → after_prefix front word ≡ Some rest → word ≡ front ++ rest
after_prefix_splits [] word rest e = some_is word rest e
after_prefix_splits (p ∷ front) [] rest e = cc
after_prefix_splits (p ∷ front) (b ∷ word) rest e =
    let c = chosen (b == p) (after_prefix front word) rest e in
    let same : b ≡ p = eqb-true b p c.0 in
    let more : word ≡ front ++ rest = after_prefix_splits front word rest c.1 in
    cc

after_prefix_joins : (front rest : List ℕ) → after_prefix front (front ++ rest) ≡ Some rest
after_prefix_joins [] rest = refl
after_prefix_joins (p ∷ front) rest = rw (eq-eqb p p refl) (after_prefix_joins front rest)

pub after_prefix_is : (front word : List ℕ) (r : Option (Bor (List ℕ)))
    → MatchOption r ((rest : List ℕ) → word ≢ front ++ rest) (λ x. word ≡ front ++ x.now) → option_map (λ x. x.now) r ≡ after_prefix front word
after_prefix_is front word (Some x) h = rw h (sym (after_prefix_joins front x.now))
after_prefix_is front word None h = go (after_prefix front word) refl
  where
    go : (o : Option (List ℕ)) → after_prefix front word ≡ o → None ≡ o
    go None is = refl
    go (Some rest) is = absurd (h rest (after_prefix_splits front word rest is))
