-- The starts of the sets with each first corner in a table, and the sets between two starts.
use Rattle.std.proofs.Common.{◌≡◌, ℕ, ◌+◌, ◌-◌, ◌<◌, ◌≤◌, List, [], ◌∷◌, ◌++◌, length, get_or, AllPairs, Contains, nat_cmp, Greater, sym, ap, subst, ◌∙◌, inl, inr, arith}
use Rattle.std.specs.List.{between}
use Rattle.std.proofs.lemmas.Bool.{cases_eq, cases_lt}
use Rattle.std.proofs.lemmas.Bool.Decides.{nat_tests}
use Rattle.std.proofs.lemmas.List.{get_or_append_left, get_or_default, get_or_push, length_push}
use Rattle.std.proofs.lemmas.List.Edits.{length-between, get_or-between}
use Rattle.mesh_topology.specs.Internal.Combinations.{first_corner, AreStarts, IsIndexed, IsSmallTable}
use Rattle.mesh_topology.proofs.OrderLemmas.{Before}

-- first corners do not descend
first_before : (xs ys : List ℕ) → Before xs ys → get_or xs 0 0 ≤ get_or ys 0 0
first_before [] ys b = omega arith
first_before (x ∷ xs) [] b = cc
first_before (x ∷ xs) (y ∷ ys) b = elim (cases_lt y x) [
  | inl l ↦ absurd (after x y xs ys l b)
  | inr l ↦ l
]
  where
    after : (x y : ℕ) (xs ys : List ℕ) → y < x → Before (x ∷ xs) (y ∷ ys) → ⊥
    after x y xs ys l b = let e : nat_cmp x y ≡ Greater = grind (arith, nat_tests) in let f = rw e at b in cc

firsts_rise : (table : List (List ℕ)) → AllPairs Before table → (i j : ℕ) → i ≤ j → j < length table → get_or (get_or table i []) 0 0 ≤ get_or (get_or table j []) 0 0
firsts_rise table up i j l m = elim (cases_eq i j) [
  | inl e ↦ let f = ap (λ k. get_or (get_or table k []) 0 0) e in omega (arith, f)
  | inr ne ↦ first_before (get_or table i []) (get_or table j []) (up i j [] (omega arith) m)
]

-- the next start
pub starts_step : (table : List (List ℕ)) (v : ℕ) (starts : List ℕ) (from next : ℕ) (more : List ℕ) → IsSmallTable table → AreStarts table v starts
    → ((id : ℕ) → id < from → first_corner (get_or table id []) < v) → (from ≤ next) × (next ≤ length table)
    → ((id : ℕ) → from ≤ id → id < next → first_corner (get_or table id []) < v) → (next < length table → v ≤ first_corner (get_or table next []))
    → more ≡ starts ++ next ∷ [] → AreStarts table (v + 1) more
starts_step table v starts from next more small so before range skipped stops is =
    subst (λ s. AreStarts table (v + 1) s) (sym is) (record { length_is = length_push starts next ∙ ap (λ n. n + 1) so.length_is; inside = inside; below = below; above = above })
  where
    last : get_or (starts ++ next ∷ []) v 0 ≡ next
    last = get_or_push starts next 0 v so.length_is

    other : (w : ℕ) → w < v → get_or (starts ++ next ∷ []) w 0 ≡ get_or starts w 0
    other w l = get_or_append_left starts (next ∷ []) 0 w (omega (arith, so.length_is))

    inside : (w : ℕ) → w < v + 1 → get_or (starts ++ next ∷ []) w 0 ≤ length table
    inside w l = elim (cases_eq w v) [
      | inl e ↦ subst (λ k. get_or (starts ++ next ∷ []) k 0 ≤ length table) (sym e) (subst (λ s. s ≤ length table) (sym last) range.1)
      | inr ne ↦ let m : w < v = omega arith in subst (λ s. s ≤ length table) (sym (other w m)) (so.inside w m)
    ]

    here_below : (id : ℕ) → id < next → first_corner (get_or table id []) < v
    here_below id l = elim (cases_lt id from) [ inl m ↦ before id m | inr m ↦ skipped id m l ]

    here_above : (id : ℕ) → next ≤ id → id < length table → v ≤ first_corner (get_or table id [])
    here_above id l m = let s = stops (omega arith) in let r = firsts_rise table small.ordered next id l m in omega arith

    below : (w id : ℕ) → w < v + 1 → id < get_or (starts ++ next ∷ []) w 0 → first_corner (get_or table id []) < w
    below w id l k = elim (cases_eq w v) [
      | inl e ↦ subst (λ u. first_corner (get_or table id []) < u) (sym e) (here_below id (subst (λ s. id < s) last (subst (λ u. id < get_or (starts ++ next ∷ []) u 0) e k)))
      | inr ne ↦ let m : w < v = omega arith in so.below w id m (subst (λ s. id < s) (other w m) k)
    ]

    above : (w id : ℕ) → w < v + 1 → get_or (starts ++ next ∷ []) w 0 ≤ id → id < length table → w ≤ first_corner (get_or table id [])
    above w id l k n = elim (cases_eq w v) [
      | inl e ↦ subst (λ u. u ≤ first_corner (get_or table id [])) (sym e) (here_above id (subst (λ s. s ≤ id) last (subst (λ u. get_or (starts ++ next ∷ []) u 0 ≤ id) e k)) n)
      | inr ne ↦ let m : w < v = omega arith in so.above w id m (subst (λ s. s ≤ id) (other w m) k) n
    ]

-- a set between two starts
pub record IsBetweenStarts (table : List (List ℕ)) (low high : ℕ) (set : List ℕ) : Type 0 where
  pub range : low ≤ high
  pub inside : high ≤ length table
  pub at : ℕ
  pub below : at < length (between low high table)
  pub is : get_or (between low high table) at [] ≡ set

pub between_starts : (table : List (List ℕ)) (starts set : List ℕ) (low high : ℕ) → IsIndexed table starts → Contains table set → low ≡ get_or starts (first_corner set) 0 → high ≡ get_or starts (first_corner set + 1) 0
    → IsBetweenStarts table low high set
between_starts table starts set low high x c e f =
    let id = c.0 in
    let is : get_or table id [] ≡ set = get_or_default table id [] set c.1 ∙ c.2 in
    let first : first_corner (get_or table id []) ≡ first_corner set = ap (λ s. get_or s 0 0) is in
    let s = x.starts_are in
    let few = x.firsts id c.1 in
    let one : low ≤ id = lower id first few in
    let two : id < high = upper id first few c.1 in
    let inside : high ≤ length table = subst (λ n. n ≤ length table) (sym f) (s.inside (first_corner set + 1) (omega arith)) in
    let length_is = length-between table low high inside in
    let at : get_or (between low high table) (id - low) [] ≡ get_or table (low + (id - low)) [] = get_or-between table low high (id - low) [] (omega arith) in
    let back : low + (id - low) ≡ id = omega arith in
    record { range = omega arith; inside = inside; at = id - low; below = omega (arith, length_is); is = at ∙ (ap (λ k. get_or table k []) back ∙ is) }
  where
    lower : (id : ℕ) → first_corner (get_or table id []) ≡ first_corner set → first_corner (get_or table id []) + 1 < length starts → low ≤ id
    lower id first few = elim (cases_lt id low) [
      | inl l ↦ absurd (let b = x.starts_are.below (first_corner set) id (omega arith) (subst (λ n. id < n) e l) in omega arith)
      | inr l ↦ l
    ]

    upper : (id : ℕ) → first_corner (get_or table id []) ≡ first_corner set → first_corner (get_or table id []) + 1 < length starts → id < length table → id < high
    upper id first few in' = elim (cases_lt id high) [
      | inl l ↦ l
      | inr l ↦ absurd (let b = x.starts_are.above (first_corner set + 1) id (omega arith) (subst (λ n. n ≤ id) f l) in' in omega arith)
    ]

-- a part of a table is a table
pub part_small : (table : List (List ℕ)) (low high : ℕ) → IsSmallTable table → high ≤ length table → IsSmallTable (between low high table)
part_small table low high small l = record { few = omega (arith, small.few, length-between table low high l); ordered = ordered } where
  ordered : AllPairs Before (between low high table)
  ordered i j d m n =
      let k : low + j < high = omega (arith, length-between table low high l) in
      let one = get_or-between table low high i d (omega arith) in
      let two = get_or-between table low high j d k in
      let b = small.ordered (low + i) (low + j) d (omega arith) (omega arith) in
      subst (λ x. Before x (get_or (between low high table) j d)) (sym one) (subst (λ y. Before (get_or table (low + i) d) y) (sym two) b)

-- the indices of a part are indices of the table
pub part_place : (table : List (List ℕ)) (low high id : ℕ) (set : List ℕ) → high ≤ length table → id < length (between low high table) → get_or (between low high table) id [] ≡ set
    → (low + id < length table) × (get_or table (low + id) [] ≡ set)
part_place table low high id set l m e =
    let k : low + id < high = omega (arith, length-between table low high l) in
    (omega arith, sym (get_or-between table low high id [] k) ∙ e)

-- the sets up to an index have smaller first corners
pub first_corners_below : (table : List (List ℕ)) (from next v : ℕ) → ((id : ℕ) → id < from → first_corner (get_or table id []) < v)
    → ((id : ℕ) → from ≤ id → id < next → first_corner (get_or table id []) < v) → (id : ℕ) → id < next → first_corner (get_or table id []) < v + 1
first_corners_below table from next v before skipped id l = elim (cases_lt id from) [
  | inl m ↦ let b = before id m in omega arith
  | inr m ↦ let b = skipped id m l in omega arith
]
