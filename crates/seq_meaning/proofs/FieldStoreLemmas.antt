-- The ranges, words and values of stores of declared fields.
use Rattle.std.proofs.Common.{◌≡◌, ◌≢◌, ◌⊎◌, ◌≤◌, ◌<◌, ℕ, zero, suc, ◌+◌, ◌-◌, ◌==◌, Bool, true, false, List, [], ◌∷◌, length, refl, sym, subst, ap, ◌∙◌, inl, inr, arith, take}
use Rattle.std.proofs.lemmas.Bool.{cases_Bool, ltb-true, ltb-false, lt-ltb, le-ltb}
use Rattle.std.proofs.lemmas.Bool.Decides.{nat_tests, eqb_tells}
use Rattle.std.proofs.lemmas.List.Sums.{sum_by-cons}
use Rattle.std.specs.Prelude.{Option, Some, None, IsSome, is_some, nat_lt, slice_get, slice_set, if◌then◌else◌, ◌&&◌, ℤ}
use Rattle.std.specs.Option.{option_and_then, option_map}
use Rattle.liszt_base.specs.MeshLists.{MeshLists}
use Rattle.liszt_base.specs.declared.accesses.Spot.{Spot}
use Rattle.phase_types.specs.declared.info.FieldInfo.{FieldInfo}
use Rattle.phase_types.specs.Environments.{first_declared, is_built_in}
use Rattle.code_eval.specs.Acts.{is_spot}
use Rattle.code_eval.specs.Stores.{HasSameSpots}
use Rattle.seq_meaning.specs.declared.field_store.FieldRange.{FieldRange}
use Rattle.seq_meaning.specs.FieldStores.{HasSpotsOf, has_element, has_spot, view_of, field_words, words_of, ranges_from, StoreWords, IsStoreOf, IsLaidOut, range_of, index_in, word_index, stored_value, HasSameRanges, filled, declared_value, value_after_store}

-- LISTS
within : {A : Type 0} (xs : List A) (i : ℕ) → i < length xs → (x : A) × (slice_get xs i ≡ Some x)
within [] i below = absurd (omega arith)
within (x ∷ xs) zero below = (x, refl)
within (x ∷ xs) (suc i) below = within xs i (omega arith)

below_length : {A : Type 0} (xs : List A) (i : ℕ) (x : A) → slice_get xs i ≡ Some x → i < length xs
below_length [] i x e = absurd cc
below_length (y ∷ xs) zero x e = omega arith
below_length (y ∷ xs) (suc i) x e = let p : i < length xs = below_length xs i x e in omega arith

set_here : (xs : List ℤ) (i : ℕ) (value : ℤ) → i < length xs → slice_get (slice_set xs i value) i ≡ Some value
set_here [] i value below = absurd (omega arith)
set_here (x ∷ xs) zero value below = refl
set_here (x ∷ xs) (suc i) value below = set_here xs i value (omega arith)

set_elsewhere : (xs : List ℤ) (i j : ℕ) (value : ℤ) → j ≢ i → slice_get (slice_set xs i value) j ≡ slice_get xs j
set_elsewhere [] i j value other = refl
set_elsewhere (x ∷ xs) zero zero value other = absurd (other refl)
set_elsewhere (x ∷ xs) zero (suc j) value other = refl
set_elsewhere (x ∷ xs) (suc i) zero value other = refl
set_elsewhere (x ∷ xs) (suc i) (suc j) value other = set_elsewhere xs i j value (λ e. other (ap suc e))

length_set : (xs : List ℤ) (i : ℕ) (value : ℤ) → length (slice_set xs i value) ≡ length xs
length_set [] i value = refl
length_set (x ∷ xs) zero value = refl
length_set (x ∷ xs) (suc i) value = ap suc (length_set xs i value)

-- FILLED WORDS: those in the range have the value, and others are unchanged
pub length_filled : (first count : ℕ) (value : ℤ) (words : List ℤ) → length (filled first count value words) ≡ length words
length_filled first zero value words = refl
length_filled first (suc count) value words =
    length_set (filled first count value words) (first + count) value ∙ length_filled first count value words

filled_elsewhere : (first count : ℕ) (value : ℤ) (words : List ℤ) (j : ℕ) → (j < first) ⊎ (first + count ≤ j)
    → slice_get (filled first count value words) j ≡ slice_get words j
filled_elsewhere first zero value words j outside = refl
filled_elsewhere first (suc count) value words j outside =
    set_elsewhere (filled first count value words) (first + count) j value (elim outside [ inl h ↦ λ e. omega arith | inr h ↦ λ e. omega arith ])
    ∙ filled_elsewhere first count value words j (elim outside [ inl h ↦ inl h | inr h ↦ inr (omega arith) ])

filled_here : (first count : ℕ) (value : ℤ) (words : List ℤ) (offset : ℕ) → first + count ≤ length words → offset < count
    → slice_get (filled first count value words) (first + offset) ≡ Some value
filled_here first zero value words offset room below = absurd (omega arith)
filled_here first (suc count) value words offset room below = elim (eqb_tells offset count) [
  | inl h ↦ rw h.1 (set_here (filled first count value words) (first + count) value (omega (arith, length_filled first count value words)))
  | inr h ↦ set_elsewhere (filled first count value words) (first + count) (first + offset) value (λ e. h.1 (omega arith))
      ∙ filled_here first count value words offset (omega arith) (let ne : offset ≢ count = h.1 in omega arith)
]

-- THE WORD of a spot: the range of its field, and the spot's id in it
pub record HasWord (ranges : List FieldRange) (spot : Spot) (index : ℕ) : Type 0 where
  pub range : FieldRange
  pub declared : first_declared ≤ spot.field
  pub at_index : slice_get ranges (spot.field - first_declared) ≡ Some range
  pub below : spot.id < range.count
  pub is : index ≡ range.first + spot.id

and_then_found : {A B : Type 0} (f : A → Option B) (o : Option A) (y : B) → option_and_then f o ≡ Some y → (x : A) × (o ≡ Some x) × (f x ≡ Some y)
and_then_found f None y e = absurd cc
and_then_found f (Some x) y e = (x, refl, e)

range_found : (ranges : List FieldRange) (field : ℕ) (range : FieldRange) → range_of ranges field ≡ Some range
    → (first_declared ≤ field) × (slice_get ranges (field - first_declared) ≡ Some range)
range_found ranges field range e = by_test (is_built_in field) refl e where
  by_test : (b : Bool) → is_built_in field ≡ b → (if b then None else slice_get ranges (field - first_declared)) ≡ Some range
      → (first_declared ≤ field) × (slice_get ranges (field - first_declared) ≡ Some range)
  by_test true h e = absurd cc
  by_test false h e = (ltb-false field first_declared h, e)

index_found : (range : FieldRange) (id index : ℕ) → index_in range id ≡ Some index → (id < range.count) × (index ≡ range.first + id)
index_found range id index e = by_test (nat_lt id range.count) refl e where
  by_test : (b : Bool) → nat_lt id range.count ≡ b → (if b then Some (range.first + id) else None) ≡ Some index
      → (id < range.count) × (index ≡ range.first + id)
  by_test true h e = (ltb-true id range.count h, let p : range.first + id ≡ index = cc in sym p)
  by_test false h e = absurd cc

pub has_word : (ranges : List FieldRange) (spot : Spot) (index : ℕ) → word_index ranges spot ≡ Some index → HasWord ranges spot index
has_word ranges spot index e =
    let found = and_then_found (λ range. index_in range spot.id) (range_of ranges spot.field) index e in
    let field = range_found ranges spot.field found.0 found.1 in
    let word = index_found found.0 spot.id index found.2 in
    record { range = found.0; declared = field.0; at_index = field.1; below = word.0; is = word.1 }

order : (x y : ℕ) → (x < y) ⊎ ((x ≡ y) ⊎ (y < x))
order x y = elim (cases_Bool (nat_lt x y)) [
  | inl h ↦ inl (ltb-true x y h)
  | inr h ↦ elim (cases_Bool (nat_lt y x)) [
    | inl k ↦ inr (inr (ltb-true y x k))
    | inr k ↦ inr (inl (omega (arith, ltb-false x y h, ltb-false y x k)))
  ]
]

-- two spots with one word are one spot
pub same_word : (ranges : List FieldRange) (words : ℕ) → IsLaidOut ranges words → (a b : Spot) (index : ℕ) → HasWord ranges a index
    → HasWord ranges b index → is_spot a b ≡ true
same_word ranges words laid a b index p q = elim (order (a.field - first_declared) (b.field - first_declared)) [
  | inl h ↦ absurd (omega (arith, laid.apart _ _ p.range q.range h p.at_index q.at_index, p.is, q.is, p.below))
  | inr rest ↦ elim rest [
    | inr h ↦ absurd (omega (arith, laid.apart _ _ q.range p.range h q.at_index p.at_index, p.is, q.is, q.below))
    | inl h ↦
        let some : Some p.range ≡ Some q.range = sym p.at_index ∙ ap (slice_get ranges) h ∙ q.at_index in
        let range : p.range ≡ q.range = cc in
        let field : a.field ≡ b.field = omega (arith, p.declared, q.declared) in
        let id : a.id ≡ b.id = omega (arith, p.is, q.is, ap (λ (r : FieldRange). r.first) range) in
        grind (arith, nat_tests)
  ]
]

-- TWO DIFFERENT SPOTS have different words.
pub different_words : (ranges : List FieldRange) (words : ℕ) → IsLaidOut ranges words → (a b : Spot) (i j : ℕ) → is_spot a b ≡ false
    → word_index ranges a ≡ Some i → word_index ranges b ≡ Some j → i ≢ j
different_words ranges words laid a b i j different p q e =
    let same : is_spot a b ≡ true = same_word ranges words laid a b j (subst (HasWord ranges a) e (has_word ranges a i p)) (has_word ranges b j q) in
    absurd cc

-- the word of each spot is one of the store's
pub word_within : (ranges : List FieldRange) (words : ℕ) → IsLaidOut ranges words → (spot : Spot) (index : ℕ) → word_index ranges spot ≡ Some index
    → index < words
word_within ranges words laid spot index e =
    let p = has_word ranges spot index e in
    omega (arith, laid.within _ p.range p.at_index, p.is, p.below)

spots_agree : (spot other : Spot) → is_spot spot other ≡ true → other ≡ spot
spots_agree spot other e = go (spot.field == other.field) (spot.id == other.id) refl refl e where
  go : (a b : Bool) → spot.field == other.field ≡ a → spot.id == other.id ≡ b → (a && b) ≡ true → other ≡ spot
  go true true a b e = grind (arith, nat_tests)
  go _ _ a b e = absurd cc

-- A VALUE STORED at a spot changes the value there, and no other one.
pub values_after_store : (ranges : List FieldRange) (words : List ℤ) → IsLaidOut ranges (length words) → (spot : Spot) (index : ℕ) (value : ℤ)
    → word_index ranges spot ≡ Some index → (other : Spot)
    → stored_value (record { ranges = ranges; words = slice_set words index value }) other
    ≡ value_after_store spot value other (stored_value (record { ranges = ranges; words = words }) other)
values_after_store ranges words laid spot index value e other = by_test (is_spot spot other) refl (word_index ranges other) refl where
  by_test : (b : Bool) → is_spot spot other ≡ b → (o : Option ℕ) → word_index ranges other ≡ o
      → option_and_then (slice_get (slice_set words index value)) o ≡ (if b then Some value else option_and_then (slice_get words) o)
  by_test true same o at =
      let is : o ≡ Some index = sym at ∙ ap (word_index ranges) (spots_agree spot other same) ∙ e in
      rw is (set_here words index value (word_within ranges (length words) laid spot index e))
  by_test false same None at = refl
  by_test false same (Some j) at =
      set_elsewhere words index j value (λ h. different_words ranges (length words) laid spot other index j same e at (sym h))

-- A FIELD DECLARED with a value has it at each of its elements, and no other field changes.
outside_range : (ranges : List FieldRange) (words : ℕ) → IsLaidOut ranges words → (field : ℕ) (range : FieldRange) → range_of ranges field ≡ Some range
    → (spot : Spot) (j : ℕ) → spot.field ≢ field → word_index ranges spot ≡ Some j → (j < range.first) ⊎ (range.first + range.count ≤ j)
outside_range ranges words laid field range e spot j other at =
    let p = has_word ranges spot j at in
    let q = range_found ranges field range e in
    elim (order (spot.field - first_declared) (field - first_declared)) [
      | inl h ↦ inl (omega (arith, laid.apart _ _ p.range range h p.at_index q.1, p.is, p.below))
      | inr rest ↦ elim rest [
        | inl h ↦ absurd (other (omega (arith, p.declared, q.0)))
        | inr h ↦ inr (omega (arith, laid.apart _ _ range p.range h q.1 p.at_index, p.is))
      ]
    ]

inside_range : (ranges : List FieldRange) (field : ℕ) (range : FieldRange) → range_of ranges field ≡ Some range
    → (spot : Spot) (j : ℕ) → spot.field ≡ field → word_index ranges spot ≡ Some j → (j ≡ range.first + spot.id) × (spot.id < range.count)
inside_range ranges field range e spot j same at =
    let p = has_word ranges spot j at in
    let q = range_found ranges field range e in
    let some : Some p.range ≡ Some range = sym p.at_index ∙ ap (λ n. slice_get ranges (n - first_declared)) same ∙ q.1 in
    let is : p.range ≡ range = cc in
    (omega (arith, p.is, ap (λ (r : FieldRange). r.first) is), omega (arith, p.below, ap (λ (r : FieldRange). r.count) is))

pub values_after_declaration : (ranges : List FieldRange) (words : List ℤ) → IsLaidOut ranges (length words) → (field : ℕ) (range : FieldRange) (value : ℤ)
    → range_of ranges field ≡ Some range → (spot : Spot)
    → stored_value (record { ranges = ranges; words = filled range.first range.count value words }) spot
    ≡ declared_value field value spot (stored_value (record { ranges = ranges; words = words }) spot)
values_after_declaration ranges words laid field range value e spot = by_test (spot.field == field) refl (word_index ranges spot) refl where
  by_test : (b : Bool) → spot.field == field ≡ b → (o : Option ℕ) → word_index ranges spot ≡ o
      → option_and_then (slice_get (filled range.first range.count value words)) o
      ≡ (if b then option_map (λ _. value) (option_and_then (slice_get words) o) else option_and_then (slice_get words) o)
  by_test true same None at = refl
  by_test false same None at = refl
  by_test true same (Some j) at =
      let field_is : spot.field ≡ field = grind (arith, nat_tests) in
      let inside = inside_range ranges field range e spot j field_is at in
      let old = within words j (word_within ranges (length words) laid spot j at) in
      let room = laid.within _ range (range_found ranges field range e).1 in
      rw (old.1, inside.0) (filled_here range.first range.count value words spot.id room inside.1)
  by_test false same (Some j) at =
      let other : spot.field ≢ field = λ h. grind (arith, nat_tests) in
      filled_elsewhere range.first range.count value words j (outside_range ranges (length words) laid field range e spot j other at)

-- RANGES in order are within the words of the fields, and do not overlap.
range_at : (mesh : MeshLists) (first : ℕ) (fields : List FieldInfo) (index : ℕ) (info : FieldInfo) → slice_get fields index ≡ Some info
    → slice_get (ranges_from mesh first fields) index
    ≡ Some (record { first = first + words_of mesh (take index fields); count = field_words mesh info })
range_at mesh first [] index info e = absurd cc
range_at mesh first (other ∷ fields) zero info e =
    let is : other ≡ info = cc in
    let start : first ≡ first + 0 = omega arith in
    ap (λ (i : FieldInfo). Some (record { first = first; count = field_words mesh i })) is
    ∙ ap (λ n. Some (record { first = n; count = field_words mesh info })) start
range_at mesh first (other ∷ fields) (suc index) info e =
    let start : (first + field_words mesh other) + words_of mesh (take index fields) ≡ first + words_of mesh (other ∷ take index fields) =
    omega (arith, sum_by-cons (field_words mesh) other (take index fields)) in
    range_at mesh (first + field_words mesh other) fields index info e
    ∙ ap (λ n. Some (record { first = n; count = field_words mesh info })) start

within_words : (mesh : MeshLists) (first : ℕ) (fields : List FieldInfo) (index : ℕ) (range : FieldRange)
    → slice_get (ranges_from mesh first fields) index ≡ Some range
    → (first ≤ range.first) × (range.first + range.count ≤ first + words_of mesh fields)
within_words mesh first [] index range e = absurd cc
within_words mesh first (info ∷ fields) zero range e =
    let is : record { first = first; count = field_words mesh info } ≡ range = cc in
    let start : first ≡ range.first = ap (λ (r : FieldRange). r.first) is in
    let size : field_words mesh info ≡ range.count = ap (λ (r : FieldRange). r.count) is in
    (omega arith, omega (arith, sum_by-cons (field_words mesh) info fields))
within_words mesh first (info ∷ fields) (suc index) range e =
    let p = within_words mesh (first + field_words mesh info) fields index range e in
    (omega (arith, p.0), omega (arith, p.1, sum_by-cons (field_words mesh) info fields))

apart_ranges : (mesh : MeshLists) (first : ℕ) (fields : List FieldInfo) (index later : ℕ) (range other : FieldRange) → index < later
    → slice_get (ranges_from mesh first fields) index ≡ Some range → slice_get (ranges_from mesh first fields) later ≡ Some other
    → range.first + range.count ≤ other.first
apart_ranges mesh first [] index later range other below p q = absurd cc
apart_ranges mesh first (info ∷ fields) index zero range other below p q = absurd (omega arith)
apart_ranges mesh first (info ∷ fields) zero (suc later) range other below p q =
    let is : record { first = first; count = field_words mesh info } ≡ range = cc in
    let start : first ≡ range.first = ap (λ (r : FieldRange). r.first) is in
    let size : field_words mesh info ≡ range.count = ap (λ (r : FieldRange). r.count) is in
    omega (arith, (within_words mesh (first + field_words mesh info) fields later other q).0)
apart_ranges mesh first (info ∷ fields) (suc index) (suc later) range other below p q =
    apart_ranges mesh (first + field_words mesh info) fields index later range other (omega arith) p q

pub ranges_laid_out : (mesh : MeshLists) (fields : List FieldInfo) → IsLaidOut (ranges_from mesh 0 fields) (words_of mesh fields)
ranges_laid_out mesh fields =
    record {
      within = λ index range e. omega (arith, (within_words mesh 0 fields index range e).1);
      apart = apart_ranges mesh 0 fields;
    }

-- A STORE OF FIELDS: its ranges fit; the range of each field; and the spots that have a value are the elements of declared fields.
pub store_laid_out : (fields : List FieldInfo) (mesh : MeshLists) (store : StoreWords) → IsStoreOf fields mesh store
    → IsLaidOut store.ranges (length store.words)
store_laid_out fields mesh store is = rw (is.ranges, is.words) (ranges_laid_out mesh fields)

pub store_range : (fields : List FieldInfo) (mesh : MeshLists) (store : StoreWords) → IsStoreOf fields mesh store
    → (index : ℕ) (info : FieldInfo) → slice_get fields index ≡ Some info
    → range_of store.ranges (first_declared + index)
    ≡ Some (record { first = words_of mesh (take index fields); count = field_words mesh info })
store_range fields mesh store is index info e =
    let declared : is_built_in (first_declared + index) ≡ false = le-ltb (first_declared + index) first_declared (omega arith) in
    let number : (first_declared + index) - first_declared ≡ index = omega arith in
    let start : 0 + words_of mesh (take index fields) ≡ words_of mesh (take index fields) = omega arith in
    rw (declared, number, is.ranges)
    (range_at mesh 0 fields index info e ∙ ap (λ n. Some (record { first = n; count = field_words mesh info })) start)

pub store_index : (fields : List FieldInfo) (mesh : MeshLists) (store : StoreWords) → IsStoreOf fields mesh store
    → (index id : ℕ) (info : FieldInfo) → slice_get fields index ≡ Some info → id < field_words mesh info
    → word_index store.ranges (record { field = first_declared + index; id = id }) ≡ Some (words_of mesh (take index fields) + id)
store_index fields mesh store is index id info e below =
    let has : nat_lt id (field_words mesh info) ≡ true = lt-ltb id (field_words mesh info) below in
    ap (option_and_then (λ range. index_in range id)) (store_range fields mesh store is index info e) ∙ rw has refl

pub store_value : (fields : List FieldInfo) (mesh : MeshLists) (store : StoreWords) → IsStoreOf fields mesh store
    → (index id : ℕ) (info : FieldInfo) → slice_get fields index ≡ Some info → id < field_words mesh info
    → (value : ℤ) × (stored_value store (record { field = first_declared + index; id = id }) ≡ Some value)
store_value fields mesh store is index id info e below =
    let at = store_index fields mesh store is index id info e below in
    let spot : Spot = record { field = first_declared + index; id = id } in
    let laid = store_laid_out fields mesh store is in
    let value = within store.words _ (word_within store.ranges (length store.words) laid spot _ at) in
    (value.0, ap (option_and_then (slice_get store.words)) at ∙ value.1)

pub store_has_value : (fields : List FieldInfo) (mesh : MeshLists) (store : StoreWords) → IsStoreOf fields mesh store
    → (index id : ℕ) (info : FieldInfo) → slice_get fields index ≡ Some info → id < field_words mesh info
    → IsSome (stored_value store (record { field = first_declared + index; id = id }))
store_has_value fields mesh store is index id info e below =
    ap is_some (store_value fields mesh store is index id info e below).1

pub no_further_value : (fields : List FieldInfo) (mesh : MeshLists) (store : StoreWords) → IsStoreOf fields mesh store
    → (index id : ℕ) (info : FieldInfo) → slice_get fields index ≡ Some info → field_words mesh info ≤ id
    → stored_value store (record { field = first_declared + index; id = id }) ≡ None
no_further_value fields mesh store is index id info e above =
    let has : nat_lt id (field_words mesh info) ≡ false = le-ltb id (field_words mesh info) above in
    let at : word_index store.ranges (record { field = first_declared + index; id = id }) ≡ None =
    ap (option_and_then (λ range. index_in range id)) (store_range fields mesh store is index info e) ∙ rw has refl in
    ap (option_and_then (slice_get store.words)) at

-- a store of fields is one after each step that keeps the ranges
pub still_store : (fields : List FieldInfo) (mesh : MeshLists) (before after : StoreWords) → IsStoreOf fields mesh before
    → HasSameRanges before after → IsStoreOf fields mesh after
still_store fields mesh before after is same = record { ranges = same.ranges ∙ is.ranges; words = same.words ∙ is.words }

-- THE SPOTS that a store of fields has a value at are those of the fields.
no_range : (mesh : MeshLists) (first : ℕ) (fields : List FieldInfo) (index : ℕ) → slice_get fields index ≡ None
    → slice_get (ranges_from mesh first fields) index ≡ None
no_range mesh first [] index e = refl
no_range mesh first (info ∷ fields) zero e = absurd cc
no_range mesh first (info ∷ fields) (suc index) e = no_range mesh (first + field_words mesh info) fields index e

pub store_spots : (fields : List FieldInfo) (mesh : MeshLists) (store : StoreWords) → IsStoreOf fields mesh store → HasSpotsOf fields mesh store
store_spots fields mesh store is = record { spots = at_spot } where
  at_element : (index id : ℕ) (info : FieldInfo) → slice_get fields index ≡ Some info → (b : Bool) → nat_lt id (field_words mesh info) ≡ b
      → is_some (stored_value store (record { field = first_declared + index; id = id })) ≡ b
  at_element index id info e true h =
      store_has_value fields mesh store is index id info e (ltb-true id (field_words mesh info) h)
  at_element index id info e false h =
      ap is_some (no_further_value fields mesh store is index id info e (ltb-false id (field_words mesh info) h))

  at_field : (spot : Spot) → first_declared ≤ spot.field → (o : Option FieldInfo) → slice_get fields (spot.field - first_declared) ≡ o
      → is_some (stored_value store spot) ≡ has_element mesh spot.id o
  at_field spot declared None e =
      let none : range_of store.ranges spot.field ≡ None =
      rw (le-ltb spot.field first_declared declared, is.ranges) (no_range mesh 0 fields (spot.field - first_declared) e) in
      rw none refl
  at_field spot declared (Some info) e =
      let field : first_declared + (spot.field - first_declared) ≡ spot.field = omega arith in
      subst (λ n. is_some (stored_value store (record { field = n; id = spot.id })) ≡ nat_lt spot.id (field_words mesh info)) field
      (at_element (spot.field - first_declared) spot.id info e (nat_lt spot.id (field_words mesh info)) refl)

  at_spot : (spot : Spot) → is_some (stored_value store spot) ≡ has_spot fields mesh spot
  at_spot spot = elim (cases_Bool (is_built_in spot.field)) [
    | inl h ↦ rw h refl
    | inr h ↦
        let has : has_element mesh spot.id (slice_get fields (spot.field - first_declared)) ≡ has_spot fields mesh spot = rw h refl in
        at_field spot (ltb-false spot.field first_declared h) (slice_get fields (spot.field - first_declared)) refl ∙ has
  ]

-- it still has them after each step that keeps the spots that may be loaded, and after each declaration
pub still_spots : (fields : List FieldInfo) (mesh : MeshLists) (before after : StoreWords) → HasSpotsOf fields mesh before
    → HasSameSpots (view_of before) (view_of after) → HasSpotsOf fields mesh after
still_spots fields mesh before after has same =
    record { spots = λ spot. ap (λ (loadable : Spot → Bool). loadable spot) same.loadable ∙ has.spots spot }

pub spots_after_declaration : (fields : List FieldInfo) (mesh : MeshLists) (before after : StoreWords) (field : ℕ) (value : ℤ)
    → HasSpotsOf fields mesh before
    → ((spot : Spot) → stored_value after spot ≡ declared_value field value spot (stored_value before spot))
    → HasSpotsOf fields mesh after
spots_after_declaration fields mesh before after field value has values =
    record { spots = λ spot. ap is_some (values spot) ∙ same (spot.field == field) (stored_value before spot) ∙ has.spots spot } where
      same : (b : Bool) (old : Option ℤ) → is_some (if b then option_map (λ _. value) old else old) ≡ is_some old
      same true None = refl
      same true (Some x) = refl
      same false old = refl
