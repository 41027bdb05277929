-- The keys of spots: their order, the table of all of them, and the index of one.
use Rattle.std.proofs.Common.{◌≡◌, ◌⊎◌, ℕ, ◌+◌, ◌*◌, ◌/◌, ◌%◌, ◌^◌, ◌<◌, ◌≤◌, true, List, [], ◌∷◌, map, length, get_or}
use Rattle.std.proofs.Common.{Ok, Err, Some, Bool, filter, sym, ap, subst, ◌∙◌, inl, inr, arith, nat_cmp}
use Rattle.std.specs.Prelude.{slice_get}
use Rattle.std.specs.List.{AllPairs, Contains, flat_map}
use Rattle.std.specs.List.Sorted.{IsBinarySearchResult}
use Rattle.std.proofs.Math.Nat.{div-add-mod, mod-lt}
use Rattle.std.proofs.lemmas.Bool.{cases_eq, cases_lt, cases_Bool, cond-true, cond-false}
use Rattle.std.proofs.lemmas.Bool.Decides.{nat_tests}
use Rattle.std.proofs.lemmas.List.{get_or-map, length-append, length-map, get_or_default}
use Rattle.std.proofs.lemmas.List.Concat.{flat_map-cons}
use Rattle.std.proofs.lemmas.List.Sorted.{searched}
use Rattle.std.proofs.lemmas.List.Sums.{sum_by-cons}
use Rattle.std.proofs.lemmas.Option.{slice_get-get_or}
use Rattle.liszt_base.specs.declared.accesses.Access.{Access}
use Rattle.liszt_base.specs.declared.accesses.Spot.{Spot}
use Rattle.write_conflicts.specs.Conflicts.{is_reduction, precedes, reduced_spots, accesses_at, entries, AreReducedSpots}
use Rattle.write_conflicts.specs.Internal.Rows.{spot_of, IsSetOf, IsKeyTable}
use Rattle.write_conflicts.proofs.MemberLemmas.{contains_map, map_contains, contains_flat, flat_contains, contains_reduced, reduced_contains}

-- the order of spots as numbers
pub precedes_from : (s t : Spot) → (s.field < t.field) ⊎ ((s.field ≡ t.field) × (s.id < t.id)) → precedes s t ≡ true
precedes_from s t (inl lt) = grind (arith, nat_tests)
precedes_from s t (inr both) = grind (arith, nat_tests)

pub precedes_parts : (s t : Spot) → precedes s t ≡ true → (s.field < t.field) ⊎ ((s.field ≡ t.field) × (s.id < t.id))
precedes_parts s t h = grind (arith, nat_tests)

-- a key is that of one spot
pub same_key : (x y : ℕ) → spot_of x ≡ spot_of y → x ≡ y
same_key x y e =
    let f : x / 2 ^ 32 ≡ y / 2 ^ 32 = ap (λ (s : Spot). s.field) e in
    let g : x % 2 ^ 32 ≡ y % 2 ^ 32 = ap (λ (s : Spot). s.id) e in
    let whole_x : 2 ^ 32 * (x / 2 ^ 32) + x % 2 ^ 32 ≡ x = div-add-mod x (2 ^ 32) in
    let whole_y : 2 ^ 32 * (y / 2 ^ 32) + y % 2 ^ 32 ≡ y = div-add-mod y (2 ^ 32) in
    omega arith

-- keys are in the order of their spots
key_precedes : (x y : ℕ) → x < y → precedes (spot_of x) (spot_of y) ≡ true
key_precedes x y lt =
    let under_x : x % 2 ^ 32 < 2 ^ 32 = mod-lt x (omega arith) in
    let under_y : y % 2 ^ 32 < 2 ^ 32 = mod-lt y (omega arith) in
    let whole_x : 2 ^ 32 * (x / 2 ^ 32) + x % 2 ^ 32 ≡ x = div-add-mod x (2 ^ 32) in
    let whole_y : 2 ^ 32 * (y / 2 ^ 32) + y % 2 ^ 32 ≡ y = div-add-mod y (2 ^ 32) in
    precedes_from (spot_of x) (spot_of y) (elim (cases_eq (x / 2 ^ 32) (y / 2 ^ 32)) [
      | inl e ↦ inr (e, omega arith)
      | inr ne ↦ inl (omega arith)
    ])

pub precedes_key : (x y : ℕ) → precedes (spot_of x) (spot_of y) ≡ true → x < y
precedes_key x y h =
    let under_x : x % 2 ^ 32 < 2 ^ 32 = mod-lt x (omega arith) in
    let under_y : y % 2 ^ 32 < 2 ^ 32 = mod-lt y (omega arith) in
    let whole_x : 2 ^ 32 * (x / 2 ^ 32) + x % 2 ^ 32 ≡ x = div-add-mod x (2 ^ 32) in
    let whole_y : 2 ^ 32 * (y / 2 ^ 32) + y % 2 ^ 32 ≡ y = div-add-mod y (2 ^ 32) in
    elim (precedes_parts (spot_of x) (spot_of y) h) [
      | inl lt ↦ omega arith
      | inr (e, lt) ↦ omega arith
    ]

-- the set of the keys of all reduced spots is that of the reduced spots
pub are_reduced : (lists : List (List Access)) (keys set : List ℕ) → map spot_of keys ≡ flat_map reduced_spots lists → IsSetOf keys set
    → AreReducedSpots lists (map spot_of set)
are_reduced lists keys set are h = record {
  ascending = λ i j d lt lt'.
      let inside : j < length set = omega (arith, lt', length-map set spot_of) in
      let a = get_or-map spot_of set i 0 d (omega arith) in
      let b = get_or-map spot_of set j 0 d inside in
      subst (λ s. precedes s (get_or (map spot_of set) j d) ≡ true) (sym a)
      (subst (λ s. precedes (spot_of (get_or set i 0)) s ≡ true) (sym b)
      (key_precedes (get_or set i 0) (get_or set j 0) (h.ascending i j 0 lt inside)));
  each = λ spot m.
      let r = contains_map spot_of set spot m in
      let k = map_contains spot_of keys r.0 spot ((h.members r.0).0 r.1) r.2 in
      let f = contains_flat lists spot (subst (λ l. Contains l spot) are k) in
      (f.0, contains_reduced (accesses_at lists f.0) spot f.1);
  all = λ i spot m.
      let f = flat_contains lists i spot (reduced_contains (accesses_at lists i) spot m) in
      let r = contains_map spot_of keys spot (subst (λ l. Contains l spot) (sym are) f) in
      map_contains spot_of set r.0 spot ((h.members r.0).1 r.1) r.2;
}

filter_short : {A : Type 0} (p : A → Bool) (xs : List A) → length (filter p xs) ≤ length xs
filter_short p [] = omega arith
filter_short {A = A} p (x ∷ xs) = elim (cases_Bool (p x)) [
  | inl t ↦ omega (arith, ap (λ (l : List A). length l) (cond-true (p x) (x ∷ filter p xs) (filter p xs) t), filter_short p xs)
  | inr f ↦ omega (arith, ap (λ (l : List A). length l) (cond-false (p x) (x ∷ filter p xs) (filter p xs) f), filter_short p xs)
]

reduced_short : (accesses : List Access) → length (reduced_spots accesses) ≤ length accesses
reduced_short accesses =
    let p = λ (a : Access). is_reduction a.mode in
    omega (arith, length-map (filter p accesses) (λ (a : Access). a.spot), filter_short p accesses)

reduced_few : (lists : List (List Access)) → length (flat_map reduced_spots lists) ≤ entries lists
reduced_few [] = omega arith
reduced_few (list ∷ lists) =
    let more = ap (λ (l : List Spot). length l) (flat_map-cons reduced_spots list lists)
    ∙ length-append (reduced_spots list) (flat_map reduced_spots lists) in
    omega (arith, more, reduced_short list, reduced_few lists, sum_by-cons (λ (l : List Access). length l) list lists)

pub is_key_table : (lists : List (List Access)) (keys set : List ℕ) → map spot_of keys ≡ flat_map reduced_spots lists → IsSetOf keys set
    → length set ≤ length keys → entries lists < 2 ^ 32 → IsKeyTable lists set
is_key_table lists keys set are h le few =
    let reduced = are_reduced lists keys set are h in
    record {
      few = omega (arith, sym (length-map keys spot_of), ap (λ (l : List Spot). length l) are, reduced_few lists);
      ascending = h.ascending;
      all = λ i spot m. reduced.all i spot (contains_reduced (accesses_at lists i) spot m);
    }

-- the index that the search gives
rising : (keys : List ℕ) → AllPairs (λ x y. x < y) keys → (i j : ℕ) → i ≤ j → j < length keys → get_or keys i 0 ≤ get_or keys j 0
rising keys up i j le lt = elim (cases_eq i j) [
  | inl e ↦ omega (arith, ap (λ k. get_or keys k 0) e)
  | inr ne ↦ omega (arith, up i j 0 (omega arith) lt)
]

pub found_at : (keys : List ℕ) (k rank : ℕ) (spot : Spot) → AllPairs (λ x y. x < y) keys
    → IsBinarySearchResult (λ y. nat_cmp y k) keys (Ok rank) → spot_of k ≡ spot → slice_get (map spot_of keys) rank ≡ Some spot
found_at keys k rank spot up search_is e =
    let r = searched keys k (Ok rank) search_is (rising keys up) in
    let lt : rank < length (map spot_of keys) = omega (arith, r.0, length-map keys spot_of) in
    slice_get-get_or (map spot_of keys) rank spot lt
    ∙ ap (λ s. Some s) (get_or-map spot_of keys rank 0 spot r.0 ∙ (ap spot_of r.1 ∙ e))

pub found_none : (keys : List ℕ) (k at : ℕ) (spot : Spot) → AllPairs (λ x y. x < y) keys
    → IsBinarySearchResult (λ y. nat_cmp y k) keys (Err at) → spot_of k ≡ spot → Contains (map spot_of keys) spot → ⊥
found_none keys k at spot up search_is e m =
    let r = searched keys k (Err at) search_is (rising keys up) in
    let c = contains_map spot_of keys spot m in
    let same = same_key c.0 k (c.2 ∙ sym e) in
    let m' = c.1 in
    let is : get_or keys m'.0 0 ≡ k = get_or_default keys m'.0 0 c.0 m'.1 ∙ (m'.2 ∙ same) in
    elim (cases_lt m'.0 at) [
      | inl lt ↦ omega (arith, r.1 m'.0 lt)
      | inr le ↦ omega (arith, r.2 m'.0 le m'.1)
    ]
