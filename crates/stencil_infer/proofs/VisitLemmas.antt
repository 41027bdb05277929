-- Visits that are counted up to the greatest number of 64 bits.
use Rattle.std.proofs.Common.{◌≡◌, ℕ, ◌+◌, ◌≤◌, ◌<◌, List, ◌∷◌, map, min, length, drop, get_or, sym, ap, ◌∙◌, arith}
use Rattle.std.proofs.lemmas.List.{drop_more}
use Rattle.std.proofs.Math.ListN.{drop_of_length-le}
use Rattle.stencil_infer.specs.Internal.CodeAccesses.{total}

abbrev pub greatest : ℕ
greatest = 18446744073709551615

-- the count so far and the visits of the rest
abbrev pub counted : {A : Type 0} → (A → ℕ) → ℕ → List A → ℕ
counted f visits rest = min (visits + total (map f rest)) greatest

pub start_counted : {A : Type 0} (f : A → ℕ) (xs : List A) → counted f 0 (drop 0 xs) ≡ min (total (map f xs)) greatest
start_counted f xs = omega arith

pub one_counted : {A : Type 0} (f : A → ℕ) (xs : List A) (i : ℕ) (x : A) → i < length xs → x ≡ get_or xs i x → (visits item now whole : ℕ) → item ≡ min (f x) greatest
    → now ≡ min (visits + item) greatest → counted f visits (drop i xs) ≡ whole → counted f now (drop (i + 1) xs) ≡ whole
one_counted f xs i x within here visits item now whole is new h =
    let rest : total (map f (drop i xs)) ≡ f x + total (map f (drop (i + 1) xs)) =
    ap (λ xs. total (map f xs)) (drop_more xs i x within ∙ ap (λ y. y ∷ drop (i + 1) xs) (sym here)) in
    omega (arith, rest, is, new, h)

pub all_counted : {A : Type 0} (f : A → ℕ) (xs : List A) (i visits whole : ℕ) → length xs ≤ i → visits ≤ greatest → counted f visits (drop i xs) ≡ whole → visits ≡ whole
all_counted f xs i visits whole past few h =
    let none : total (map f (drop i xs)) ≡ 0 = ap (λ xs. total (map f xs)) (drop_of_length-le xs past) in
    omega (arith, none, few, h)

pub chain_counted : (first rest whole a b sum result : ℕ) → whole ≡ 1 + first + rest → a ≡ min first greatest → b ≡ min rest greatest → sum ≡ min (a + b) greatest
    → result ≡ min (sum + 1) greatest → result ≡ min whole greatest
chain_counted first rest whole a b sum result w e f s r = omega (arith, w, e, f, s, r)
