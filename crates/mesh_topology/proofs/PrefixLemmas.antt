-- Prefixes of rows.
use Rattle.std.proofs.Common.{◌≡◌, ℕ, ◌+◌, ◌<◌, ◌≤◌, ◌^◌, List, [], ◌∷◌, ◌++◌, length, set, take, get_or, slice_get, Some, replicate, sym, ap, subst, ◌∙◌, inl, inr, arith}
use Rattle.std.proofs.lemmas.Bool.{cases_eq}
use Rattle.std.proofs.lemmas.List.{ext_get_or, get_or-replicate, get_or-set_same, get_or-set_other, length-set, length-replicate, length-take-le, take_more_set}
use Rattle.std.proofs.lemmas.Option.{slice_get-get_or}
use Rattle.std.proofs.lemmas.List.FromFn.{get_or-map-range_with_len, length-map-range_with_len}
use Rattle.mesh_topology.specs.Internal.Buckets.{prefixes, AreRowCounts}

pub prefix_at : (counts : List ℕ) (rows : List (List ℕ)) (i : ℕ) → i < length counts → get_or (prefixes counts rows) i [] ≡ take (get_or counts i 0) (get_or rows i [])
prefix_at counts rows i l = get_or-map-range_with_len (λ i. take (get_or counts i 0) (get_or rows i [])) 0 (length counts) i i [] l (omega arith)

pub prefixes_length : (counts : List ℕ) (rows : List (List ℕ)) → length (prefixes counts rows) ≡ length counts
prefixes_length counts rows = length-map-range_with_len (λ i. take (get_or counts i 0) (get_or rows i [])) 0 (length counts)

-- empty prefixes
pub none_inside : (size count : ℕ) (counts : List ℕ) (rows : List (List ℕ)) (row : List ℕ) → size < 2 ^ 8 → counts ≡ replicate count 0 → rows ≡ replicate count row → length row ≡ size → AreRowCounts size counts rows
none_inside size count counts rows row few is are wide = record {
  few = few;
  length_is = ap (λ xs. length xs) are ∙ (length-replicate count row ∙ sym length_is);
  wide = λ i l. ap (λ xs. length (get_or xs i [])) are ∙ (ap (λ xs. length xs) (get_or-replicate count i row [] (omega (arith, l, length_is))) ∙ wide);
  short = λ i l. let e = ap (λ xs. get_or xs i 0) is ∙ get_or-replicate count i 0 0 (omega (arith, l, length_is)) in omega arith;
} where
  length_is : length counts ≡ count
  length_is = ap (λ xs. length xs) is ∙ length-replicate count 0

pub no_prefixes : (counts : List ℕ) (rows : List (List ℕ)) (count : ℕ) → counts ≡ replicate count 0 → prefixes counts rows ≡ replicate count []
no_prefixes counts rows count is = ext_get_or [] (prefixes counts rows) (replicate count []) (prefixes_length counts rows ∙ (length_is ∙ sym (length-replicate count []))) same where
  length_is : length counts ≡ count
  length_is = ap (λ xs. length xs) is ∙ length-replicate count 0

  same : (i : ℕ) → i < length (prefixes counts rows) → get_or (prefixes counts rows) i [] ≡ get_or (replicate count []) i []
  same i l =
      let k : i < count = omega (arith, prefixes_length counts rows, length_is) in
      let zero = ap (λ xs. get_or xs i 0) is ∙ get_or-replicate count i 0 0 k in
      prefix_at counts rows i (omega (arith, length_is)) ∙ (ap (λ n. take n (get_or rows i [])) zero ∙ sym (get_or-replicate count i [] [] k))

-- the reads of a prefix, and the write at its end, are within the row
pub record IsRowPrefix (size : ℕ) (lists : List (List ℕ)) (counts : List ℕ) (rows : List (List ℕ)) (i : ℕ) : Type 0 where
  pub counted : i < length counts
  pub below : i < length rows
  pub wide : length (get_or rows i []) ≡ size
  pub short : get_or counts i 0 ≤ size
  pub length_is : length (get_or lists i []) ≡ get_or counts i 0
  pub is : slice_get lists i ≡ Some (take (get_or counts i 0) (get_or rows i []))

pub front : (size : ℕ) (lists : List (List ℕ)) (counts : List ℕ) (rows : List (List ℕ)) (i : ℕ) → prefixes counts rows ≡ lists → AreRowCounts size counts rows → i < length lists → IsRowPrefix size lists counts rows i
front size lists counts rows i is so below = record {
  counted = l;
  below = omega (arith, so.length_is, l);
  wide = so.wide i l;
  short = so.short i l;
  length_is = ap (λ xs. length xs) at ∙ length-take-le (get_or counts i 0) (get_or rows i []) (omega (arith, so.wide i l, so.short i l));
  is = slice_get-get_or lists i [] below ∙ ap Some at;
} where
  l : i < length counts
  l = let m = subst (λ ls. i < length ls) (sym is) below in omega (arith, m, prefixes_length counts rows)

  at : get_or lists i [] ≡ take (get_or counts i 0) (get_or rows i [])
  at = ap (λ ls. get_or ls i []) (sym is) ∙ prefix_at counts rows i l

-- an id appended
pub record IsPrefixPush (size : ℕ) (lists : List (List ℕ)) (counts : List ℕ) (rows : List (List ℕ)) (list id : ℕ) : Type 0 where
  pub inside : AreRowCounts size counts rows
  pub are : prefixes counts rows ≡ set lists list (get_or lists list [] ++ id ∷ [])

pub prefix_push : (size : ℕ) (lists : List (List ℕ)) (counts : List ℕ) (rows : List (List ℕ)) (list id count : ℕ) (row : List ℕ) → prefixes counts rows ≡ lists → AreRowCounts size counts rows → list < length counts
    → count ≡ get_or counts list 0 → row ≡ get_or rows list [] → count < size → IsPrefixPush size lists (set counts list (count + 1)) (set rows list (set row count id)) list id
prefix_push size lists counts rows list id count row is so l e f capacity = subst (λ ls. IsPrefixPush size ls counts' rows' list id) is (record { inside = inside; are = ext_get_or [] (prefixes counts' rows') new length_is same }) where
  counts' : List ℕ
  counts' = set counts list (count + 1)

  rows' : List (List ℕ)
  rows' = set rows list (set row count id)

  old : List (List ℕ)
  old = prefixes counts rows

  new : List (List ℕ)
  new = set old list (get_or old list [] ++ id ∷ [])

  here : list < length rows
  here = omega (arith, so.length_is)

  counted : get_or (set counts list (count + 1)) list 0 ≡ count + 1
  counted = get_or-set_same counts list (count + 1) 0 l

  written : get_or (set rows list (set row count id)) list [] ≡ set row count id
  written = get_or-set_same rows list (set row count id) [] here

  full : length row ≡ size
  full = ap (λ xs. length xs) f ∙ so.wide list l

  inside : AreRowCounts size (set counts list (count + 1)) (set rows list (set row count id))
  inside = record {
    few = so.few;
    length_is = length-set rows list (set row count id) ∙ (so.length_is ∙ sym (length-set counts list (count + 1)));
    wide = λ i m. wide i (omega (arith, m, length-set counts list (count + 1)));
    short = λ i m. short i (omega (arith, m, length-set counts list (count + 1)));
  } where
    wide : (i : ℕ) → i < length counts → length (get_or (set rows list (set row count id)) i []) ≡ size
    wide i m = elim (cases_eq i list) [
      | inl same ↦ subst (λ k. length (get_or (set rows list (set row count id)) k []) ≡ size) (sym same) (ap (λ xs. length xs) written ∙ (length-set row count id ∙ full))
      | inr ne ↦ ap (λ xs. length xs) (get_or-set_other rows list i (set row count id) [] ne) ∙ so.wide i m
    ]

    short : (i : ℕ) → i < length counts → get_or (set counts list (count + 1)) i 0 ≤ size
    short i m = elim (cases_eq i list) [
      | inl same ↦ subst (λ k. get_or (set counts list (count + 1)) k 0 ≤ size) (sym same) (omega (arith, counted, capacity))
      | inr ne ↦ omega (arith, get_or-set_other counts list i (count + 1) 0 ne, so.short i m)
    ]

  length_is : length (prefixes counts' rows') ≡ length new
  length_is = prefixes_length counts' rows' ∙ (length-set counts list (count + 1) ∙ sym (length-set old list (get_or old list [] ++ id ∷ []) ∙ prefixes_length counts rows))

  same : (i : ℕ) → i < length (prefixes counts' rows') → get_or (prefixes counts' rows') i [] ≡ get_or new i []
  same i m =
      let n : i < length (set counts list (count + 1)) = omega (arith, prefixes_length counts' rows') in
      prefix_at counts' rows' i n ∙ at i (omega (arith, length-set counts list (count + 1)))
    where
      at : (i : ℕ) → i < length counts → take (get_or (set counts list (count + 1)) i 0) (get_or (set rows list (set row count id)) i []) ≡ get_or new i []
      at i k = elim (cases_eq i list) [
        | inl e' ↦
            let a = ap (λ n. take n (get_or (set rows list (set row count id)) list [])) counted in
            let b = ap (λ xs. take (count + 1) xs) written in
            let c = take_more_set row count id (omega (arith, full, capacity)) in
            let d = ap (λ n. take n row ++ id ∷ []) e ∙ (ap (λ xs. take (get_or counts list 0) xs ++ id ∷ []) f ∙ ap (λ xs. xs ++ id ∷ []) (sym (prefix_at counts rows list l))) in
            let g = sym (get_or-set_same old list (get_or old list [] ++ id ∷ []) [] (omega (arith, prefixes_length counts rows))) in
            subst (λ k. take (get_or (set counts list (count + 1)) k 0) (get_or (set rows list (set row count id)) k []) ≡ get_or new k []) (sym e') (a ∙ (b ∙ (c ∙ (d ∙ g))))
        | inr ne ↦
            let a = ap (λ n. take n (get_or (set rows list (set row count id)) i [])) (get_or-set_other counts list i (count + 1) 0 ne) in
            let b = ap (λ xs. take (get_or counts i 0) xs) (get_or-set_other rows list i (set row count id) [] ne) in
            let g = sym (get_or-set_other old list i (get_or old list [] ++ id ∷ []) [] ne) in
            a ∙ (b ∙ (sym (prefix_at counts rows i k) ∙ g))
      ]
