-- The next item of a list that a loop walks.
use Rattle.std.proofs.Common.{◌≡◌, ◌<◌, ◌+◌, ℕ, List, ◌∷◌, drop, length, get_or, sym, ap, ◌∙◌, subst}
use Rattle.std.proofs.lemmas.List.{drop_more}
use Rattle.code_eval.specs.Executions.{Activation, Execution, LeadsTo}
use Rattle.code_eval.specs.Stores.{StoreView}

next_item : {X : Type 0} (xs : List X) (i : ℕ) (x : X) → i < length xs → x ≡ get_or xs i x → drop i xs ≡ x ∷ drop (i + 1) xs
next_item xs i x within here = drop_more xs i x within ∙ ap (λ y. y ∷ drop (i + 1) xs) (sym here)

pub at_item : {X A : Type 0} (f : List X → Execution A) {p : Execution A} {a b : Activation} {s t : StoreView} (xs : List X) (i : ℕ) (x : X) → i < length xs → x ≡ get_or xs i x
    → LeadsTo p a s (f (drop i xs)) b t → LeadsTo p a s (f (x ∷ drop (i + 1) xs)) b t
at_item f {p = p} {a = a} {b = b} {s = s} {t = t} xs i x within here h = subst (λ ys. LeadsTo p a s (f ys) b t) (next_item xs i x within here) h
