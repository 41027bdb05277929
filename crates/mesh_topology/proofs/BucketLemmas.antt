-- Lists of fixed capacity in one buffer.
use Rattle.std.proofs.Common.{◌≡◌, ℕ, zero, suc, ◌+◌, ◌-◌, ◌<◌, ◌≤◌, ◌⊎◌, List, [], ◌∷◌, ◌++◌, map, length, set, take, get_or, slice_get, Some, replicate, refl, sym, ap, subst, ◌∙◌, inl, inr, arith}
use Rattle.std.specs.List.{between, range_with_len}
use Rattle.std.proofs.lemmas.Bool.{cases_eq, cases_lt}
use Rattle.std.proofs.lemmas.List.{ext_get_or, get_or-replicate, get_or-set_same, get_or-set_other, get_or-take, length-set, length-replicate, length-take-le, take_more}
use Rattle.std.proofs.lemmas.Option.{slice_get-get_or}
use Rattle.std.proofs.Math.Seq.{take-length}
use Rattle.std.proofs.lemmas.List.Edits.{between_more, get_or-between, length-between}
use Rattle.std.proofs.lemmas.List.FromFn.{get_or-map-range_with_len, length-map-range_with_len}
use Rattle.mesh_topology.specs.Internal.Buckets.{bucket_lists, AreApart, AreStartsOf, BucketLists, IsEmptyWith}

-- a write outside of a part of a list
between_set : (items : List ℕ) (from end i x : ℕ) → end ≤ length items → (i < from) ⊎ (end ≤ i) → between from end (set items i x) ≡ between from end items
between_set items from end i x inside other = ext_get_or 0 (between from end (set items i x)) (between from end items) (length_is ∙ sym (length-between items from end inside)) same where
  length_is : length (between from end (set items i x)) ≡ end - from
  length_is = length-between (set items i x) from end (omega (arith, length-set items i x))

  apart : (k : ℕ) → k < end - from → (i < from) ⊎ (end ≤ i) → from + k ≡ i → ⊥
  apart k l (inl m) e = omega arith
  apart k l (inr m) e = omega arith

  same : (k : ℕ) → k < length (between from end (set items i x)) → get_or (between from end (set items i x)) k 0 ≡ get_or (between from end items) k 0
  same k l =
      let m : k < end - from = omega (arith, length_is) in
      get_or-between (set items i x) from end k 0 (omega arith) ∙ (get_or-set_other items i (from + k) x 0 (apart k m other) ∙ sym (get_or-between items from end k 0 (omega arith)))

-- a write at the end of a part of a list
between_push : (items : List ℕ) (from end x : ℕ) → from ≤ end → end < length items → between from (end + 1) (set items end x) ≡ between from end items ++ x ∷ []
between_push items from end x ascending inside =
    between_more (set items end x) from end 0 ascending (omega (arith, length-set items end x))
    ∙ (ap (λ xs. xs ++ get_or (set items end x) end 0 ∷ []) (between_set items from end end x (omega arith) (inr (omega arith))) ∙ ap (λ y. between from end items ++ y ∷ []) (get_or-set_same items end x 0 inside))

-- the starts of lists ascend
starts_rise : (starts ends : List ℕ) (size : ℕ) → AreApart starts ends size → (i n : ℕ) → i + n ≤ length ends → get_or starts i 0 ≤ get_or starts (i + n) 0
starts_rise starts ends size so i zero l = let e : i ≡ i + 0 = omega arith in subst (λ j. get_or starts i 0 ≤ get_or starts j 0) e (omega arith)
starts_rise starts ends size so i (suc n) l =
    let before = starts_rise starts ends size so i n (omega arith) in
    let e : i + n + 1 ≡ i + suc n = omega arith in
    subst (λ j. get_or starts i 0 ≤ get_or starts j 0) e (omega (arith, before, so.begins (i + n) (omega arith), so.inside (i + n) (omega arith)))

-- an index within the capacity of a list is in no other list
outside : (starts ends : List ℕ) (size : ℕ) → AreApart starts ends size → (list y end : ℕ) → list < length ends → y < length ends → (y ≡ list → ⊥)
    → get_or starts list 0 ≤ end → end < get_or starts (list + 1) 0 → (end < get_or starts y 0) ⊎ (get_or ends y 0 ≤ end)
outside starts ends size so list y end l m ne from below = elim (cases_lt y list) [
  | inl before ↦
      let e : y + 1 + (list - (y + 1)) ≡ list = omega arith in
      let rise = subst (λ j. get_or starts (y + 1) 0 ≤ get_or starts j 0) e (starts_rise starts ends size so (y + 1) (list - (y + 1)) (omega arith)) in
      inr (omega (arith, so.inside y m))
  | inr behind ↦
      let e : list + 1 + (y - (list + 1)) ≡ y = omega arith in
      let rise = subst (λ j. get_or starts (list + 1) 0 ≤ get_or starts j 0) e (starts_rise starts ends size so (list + 1) (y - (list + 1)) (omega arith)) in
      inl (omega arith)
]

-- the end and the capacity of each list are within the buffer
end_inside : (starts ends items : List ℕ) → AreApart starts ends (length items) → (i : ℕ) → i < length ends → get_or starts (i + 1) 0 ≤ length items
end_inside starts ends items so i l =
    let e : i + 1 + (length ends - (i + 1)) ≡ length ends = omega arith in
    let rise = subst (λ j. get_or starts (i + 1) 0 ≤ get_or starts j 0) e (starts_rise starts ends (length items) so (i + 1) (length ends - (i + 1)) (omega arith)) in
    omega (arith, so.last)

pub part_inside : (starts ends items : List ℕ) → AreApart starts ends (length items) → (i : ℕ) → i < length ends → get_or ends i 0 ≤ length items
part_inside starts ends items so i l = omega (arith, end_inside starts ends items so i l, so.inside i l)

-- a list and its capacity
pub list_at : (starts ends items : List ℕ) (i : ℕ) → i < length ends → get_or (bucket_lists starts ends items).lists i [] ≡ between (get_or starts i 0) (get_or ends i 0) items
list_at starts ends items i l = get_or-map-range_with_len (λ i. between (get_or starts i 0) (get_or ends i 0) items) 0 (length ends) i i [] l (omega arith)

pub capacity_at : (starts ends items : List ℕ) (i : ℕ) → i < length ends → get_or (bucket_lists starts ends items).capacities i 0 ≡ get_or starts (i + 1) 0 - get_or starts i 0
capacity_at starts ends items i l = get_or-map-range_with_len (λ i. get_or starts (i + 1) 0 - get_or starts i 0) 0 (length ends) i i 0 l (omega arith)

pub lists_length : (starts ends items : List ℕ) → length (bucket_lists starts ends items).lists ≡ length ends
lists_length starts ends items = length-map-range_with_len (λ i. between (get_or starts i 0) (get_or ends i 0) items) 0 (length ends)

pub capacities_length : (starts ends items : List ℕ) → length (bucket_lists starts ends items).capacities ≡ length ends
capacities_length starts ends items = length-map-range_with_len (λ i. get_or starts (i + 1) 0 - get_or starts i 0) 0 (length ends)

-- a list that is not full ends within its capacity
pub record HasCapacity (starts ends items : List ℕ) (list : ℕ) : Type 0 where
  pub below : list < length ends
  pub capacity : get_or ends list 0 < get_or starts (list + 1) 0
  pub inside : get_or ends list 0 < length items

pub has_capacity : (buckets : BucketLists) (starts ends items : List ℕ) (list : ℕ) → bucket_lists starts ends items ≡ buckets → AreApart starts ends (length items) → list < length buckets.lists
    → length (get_or buckets.lists list []) < get_or buckets.capacities list 0 → HasCapacity starts ends items list
has_capacity buckets starts ends items list is so below capacity =
    let r = subst (λ b. length (get_or b.lists list []) < get_or b.capacities list 0) (sym is) capacity in
    let e : length (between (get_or starts list 0) (get_or ends list 0) items) < get_or starts (list + 1) 0 - get_or starts list 0
    = subst (λ r. length (between (get_or starts list 0) (get_or ends list 0) items) < r) (capacity_at starts ends items list l) (subst (λ xs. length xs < get_or (bucket_lists starts ends items).capacities list 0) (list_at starts ends items list l) r) in
    let inside = part_inside starts ends items so list l in
    let length_is = length-between items (get_or starts list 0) (get_or ends list 0) inside in
    record { below = l; capacity = omega (arith, so.begins list l); inside = omega (arith, so.begins list l, so.last, end_inside starts ends items so list l) }
  where
    l : list < length ends
    l = let m = subst (λ b. list < length b.lists) (sym is) below in omega (arith, m, lists_length starts ends items)

-- an id appended
pub record IsPush (buckets : BucketLists) (starts ends items : List ℕ) (list id : ℕ) : Type 0 where
  pub apart : AreApart starts ends (length items)
  pub lists : (bucket_lists starts ends items).lists ≡ set buckets.lists list (get_or buckets.lists list [] ++ id ∷ [])
  pub capacities : (bucket_lists starts ends items).capacities ≡ buckets.capacities

put : (starts ends items : List ℕ) (list id end : ℕ) → AreApart starts ends (length items) → list < length ends → end ≡ get_or ends list 0 → end < get_or starts (list + 1) 0 → end < length items
    → IsPush (bucket_lists starts ends items) starts (set ends list (end + 1)) (set items end id) list id
put starts ends items list id end so l is capacity inside = record {
  apart = record {
    length_is = so.length_is ∙ ap (λ n. n + 1) (sym (length-set ends list (end + 1)));
    begins = λ i m. begins i (omega (arith, m, length-set ends list (end + 1)));
    inside = λ i m. fits i (omega (arith, m, length-set ends list (end + 1)));
    last = last;
  };
  lists = ext_get_or [] (bucket_lists starts ends' items').lists new length_is same;
  capacities = ap (λ n. map (λ i. get_or starts (i + 1) 0 - get_or starts i 0) (range_with_len 0 n)) (length-set ends list (end + 1));
} where
  ends' : List ℕ
  ends' = set ends list (end + 1)

  items' : List ℕ
  items' = set items end id

  old : List (List ℕ)
  old = (bucket_lists starts ends items).lists

  new : List (List ℕ)
  new = set old list (get_or old list [] ++ id ∷ [])

  at_list : get_or (set ends list (end + 1)) list 0 ≡ end + 1
  at_list = get_or-set_same ends list (end + 1) 0 l

  at_other : (i : ℕ) → (i ≡ list → ⊥) → get_or (set ends list (end + 1)) i 0 ≡ get_or ends i 0
  at_other i ne = get_or-set_other ends list i (end + 1) 0 ne

  begins : (i : ℕ) → i < length ends → get_or starts i 0 ≤ get_or (set ends list (end + 1)) i 0
  begins i m = elim (cases_eq i list) [
    | inl e ↦ subst (λ k. get_or starts k 0 ≤ get_or (set ends list (end + 1)) k 0) (sym e) (omega (arith, at_list, so.begins list l, is))
    | inr ne ↦ omega (arith, at_other i ne, so.begins i m)
  ]

  fits : (i : ℕ) → i < length ends → get_or (set ends list (end + 1)) i 0 ≤ get_or starts (i + 1) 0
  fits i m = elim (cases_eq i list) [
    | inl e ↦ subst (λ k. get_or (set ends list (end + 1)) k 0 ≤ get_or starts (k + 1) 0) (sym e) (omega (arith, at_list, capacity))
    | inr ne ↦ omega (arith, at_other i ne, so.inside i m)
  ]

  last : get_or starts (length (set ends list (end + 1))) 0 ≤ length (set items end id)
  last = subst (λ n. get_or starts n 0 ≤ length (set items end id)) (sym (length-set ends list (end + 1))) (omega (arith, so.last, length-set items end id))

  length_is : length (bucket_lists starts ends' items').lists ≡ length new
  length_is = lists_length starts ends' items' ∙ (length-set ends list (end + 1) ∙ sym (length-set old list (get_or old list [] ++ id ∷ []) ∙ lists_length starts ends items))

  same : (i : ℕ) → i < length (bucket_lists starts ends' items').lists → get_or (bucket_lists starts ends' items').lists i [] ≡ get_or new i []
  same i k =
      let m : i < length ends = omega (arith, lists_length starts ends' items', length-set ends list (end + 1)) in
      let n : i < length (set ends list (end + 1)) = omega (arith, length-set ends list (end + 1)) in
      list_at starts ends' items' i n ∙ at i m
    where
      at : (i : ℕ) → i < length ends → between (get_or starts i 0) (get_or (set ends list (end + 1)) i 0) (set items end id) ≡ get_or new i []
      at i m = elim (cases_eq i list) [
        | inl e ↦
            let a = ap (λ n. between (get_or starts list 0) n (set items end id)) at_list in
            let b = between_push items (get_or starts list 0) end id (omega (arith, so.begins list l, is)) inside in
            let c = ap (λ n. between (get_or starts list 0) n items ++ id ∷ []) is in
            let d = ap (λ xs. xs ++ id ∷ []) (sym (list_at starts ends items list l)) in
            let f = sym (get_or-set_same old list (get_or old list [] ++ id ∷ []) [] (omega (arith, lists_length starts ends items))) in
            subst (λ k. between (get_or starts k 0) (get_or (set ends list (end + 1)) k 0) (set items end id) ≡ get_or new k []) (sym e) (a ∙ (b ∙ (c ∙ (d ∙ f))))
        | inr ne ↦
            let a = ap (λ n. between (get_or starts i 0) n (set items end id)) (at_other i ne) in
            let o = outside starts ends (length items) so list i end l m ne (omega (arith, so.begins list l, is)) capacity in
            let b = between_set items (get_or starts i 0) (get_or ends i 0) end id (part_inside starts ends items so i m) o in
            let f = sym (get_or-set_other old list i (get_or old list [] ++ id ∷ []) [] ne) in
            a ∙ (b ∙ (sym (list_at starts ends items i m) ∙ f))
      ]

pub push_is : (buckets : BucketLists) (starts ends items : List ℕ) (list id end : ℕ) → bucket_lists starts ends items ≡ buckets → AreApart starts ends (length items) → HasCapacity starts ends items list
    → end ≡ get_or ends list 0 → IsPush buckets starts (set ends list (end + 1)) (set items end id) list id
push_is buckets starts ends items list id end same so has is =
    subst (λ b. IsPush b starts (set ends list (end + 1)) (set items end id) list id) same (put starts ends items list id end so has.below is (omega (arith, has.capacity)) (omega (arith, has.inside)))

-- the next list is read
pub list_step : (buckets : BucketLists) (starts ends items : List ℕ) (i from end : ℕ) (mid new : List (List ℕ)) → bucket_lists starts ends items ≡ buckets → i < length ends → from ≡ get_or starts i 0 → end ≡ get_or ends i 0
    → mid ≡ take i buckets.lists → new ≡ mid ++ between from end items ∷ [] → new ≡ take (i + 1) buckets.lists
list_step buckets starts ends items i from end mid new same l f e so is =
    let lists = (bucket_lists starts ends items).lists in
    let one : between from end items ≡ get_or lists i [] = ap (λ n. between n end items) f ∙ (ap (λ n. between (get_or starts i 0) n items) e ∙ sym (list_at starts ends items i l)) in
    let front : mid ≡ take i lists = so ∙ ap (λ b. take i b.lists) (sym same) in
    let more = sym (take_more lists i [] (omega (arith, lists_length starts ends items))) in
    is ∙ (ap (λ xs. xs ++ between from end items ∷ []) front ∙ (ap (λ x. take i lists ++ x ∷ []) one ∙ (more ∙ ap (λ b. take (i + 1) b.lists) same)))

pub list_all : (buckets : BucketLists) (starts ends items : List ℕ) (i : ℕ) (all : List (List ℕ)) → bucket_lists starts ends items ≡ buckets → i ≡ length ends → all ≡ take i buckets.lists → all ≡ buckets.lists
list_all buckets starts ends items i all same l so =
    let e : i ≡ length buckets.lists = l ∙ sym (ap (λ b. length b.lists) (sym same) ∙ lists_length starts ends items) in
    so ∙ (ap (λ n. take n buckets.lists) e ∙ take-length buckets.lists)

-- empty lists
pub empty_with : (capacities starts ends items : List ℕ) → AreStartsOf capacities (length capacities) starts → ends ≡ take (length capacities) starts → length items ≡ get_or starts (length capacities) 0 → IsEmptyWith capacities (bucket_lists starts ends items)
empty_with capacities starts ends items so is full = record {
  lists = ext_get_or [] (bucket_lists starts ends items).lists (replicate (length capacities) []) (lists_length starts ends items ∙ (length_is ∙ sym (length-replicate (length capacities) []))) empty;
  capacities_are = ext_get_or 0 (bucket_lists starts ends items).capacities capacities (capacities_length starts ends items ∙ length_is) capacity;
} where
  length_is : length ends ≡ length capacities
  length_is = ap (λ xs. length xs) is ∙ length-take-le (length capacities) starts (omega (arith, so.length_is))

  same : (i : ℕ) → i < length capacities → get_or ends i 0 ≡ get_or starts i 0
  same i l = ap (λ xs. get_or xs i 0) is ∙ get_or-take (length capacities) starts i 0 l

  nothing : (n : ℕ) → between n n items ≡ []
  nothing n = let e : n - n ≡ 0 = omega arith in rw e refl

  empty : (i : ℕ) → i < length (bucket_lists starts ends items).lists → get_or (bucket_lists starts ends items).lists i [] ≡ get_or (replicate (length capacities) []) i []
  empty i l =
      let k : i < length ends = omega (arith, lists_length starts ends items) in
      let m : i < length capacities = omega (arith, length_is) in
      list_at starts ends items i k ∙ (ap (λ n. between (get_or starts i 0) n items) (same i m) ∙ (nothing (get_or starts i 0) ∙ sym (get_or-replicate (length capacities) i [] [] m)))

  capacity : (i : ℕ) → i < length (bucket_lists starts ends items).capacities → get_or (bucket_lists starts ends items).capacities i 0 ≡ get_or capacities i 0
  capacity i l =
      let k : i < length ends = omega (arith, capacities_length starts ends items) in
      let m : i < length capacities = omega (arith, length_is) in
      capacity_at starts ends items i k ∙ (let e = so.at i m in omega (arith, e))

-- the reads of a list are within the buffer
pub record IsListRead (buckets : BucketLists) (starts ends items : List ℕ) (place : ℕ) : Type 0 where
  pub below : place < length ends
  pub begins : place < length starts
  pub ascending : get_or starts place 0 ≤ get_or ends place 0
  pub inside : get_or ends place 0 ≤ length items
  pub is : slice_get buckets.lists place ≡ Some (between (get_or starts place 0) (get_or ends place 0) items)

pub list_read : (buckets : BucketLists) (starts ends items : List ℕ) (place : ℕ) → bucket_lists starts ends items ≡ buckets → AreApart starts ends (length items) → place < length buckets.lists → IsListRead buckets starts ends items place
list_read buckets starts ends items place is so below = record {
  below = l;
  begins = omega (arith, so.length_is, l);
  ascending = so.begins place l;
  inside = part_inside starts ends items so place l;
  is = slice_get-get_or buckets.lists place [] below ∙ ap Some (ap (λ b. get_or b.lists place []) (sym is) ∙ list_at starts ends items place l);
} where
  l : place < length ends
  l = let m = subst (λ b. place < length b.lists) (sym is) below in omega (arith, m, lists_length starts ends items)
