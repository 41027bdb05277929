-- Stores hold the fields of a state, through declarations and acts.
use Rattle.std.proofs.Common.{◌≡◌, ◌<◌, ℕ, zero, suc, ◌+◌, ◌-◌, ◌==◌, Bool, true, false, List, [], ◌∷◌, ◌++◌, refl, sym, subst, ap, ◌∙◌, inl, inr, arith}
use Rattle.std.proofs.lemmas.Bool.{cases_Bool, lt-ltb, le-ltb}
use Rattle.std.proofs.lemmas.Bool.Decides.{nat_tests}
use Rattle.std.specs.Prelude.{Option, Some, None, is_some, unwrap_or, slice_get, replicate, if◌then◌else◌, ℤ, pos}
use Rattle.std.specs.Option.{option_and_then, option_map}
use Rattle.liszt_base.specs.MeshLists.{MeshLists}
use Rattle.liszt_base.specs.declared.accesses.Spot.{Spot}
use Rattle.phase_types.specs.declared.info.FieldInfo.{FieldInfo}
use Rattle.phase_types.specs.Environments.{first_declared, is_built_in, lookup}
use Rattle.code_eval.specs.Acts.{Act, is_spot, value_by, value_after}
use Rattle.code_eval.specs.Stores.{HasActed}
use Rattle.kernel_eval.specs.Preservation.{value_after_acts}
use Rattle.kernel_eval.specs.States.{Fields, value_in}
use Rattle.seq_meaning.specs.FieldStores.{field_words, StoreWords, stored_value, declared_value, has_spot, HasSpotsOf, HoldsFields, view_of}

replicate_found : (n : ℕ) (value : ℤ) (i : ℕ) (x : ℤ) → slice_get (replicate n value) i ≡ Some x → (i < n) × (value ≡ x)
replicate_found zero value i x e = absurd cc
replicate_found (suc n) value zero x e = (omega arith, cc)
replicate_found (suc n) value (suc i) x e = let p = replicate_found n value i x e in (omega (arith, p.0), p.1)

pub some_found : {A : Type 0} (o : Option A) → is_some o ≡ true → (x : A) × (o ≡ Some x)
some_found None e = absurd cc
some_found (Some x) e = (x, refl)

declared_spot : (fields : List FieldInfo) (mesh : MeshLists) (index id : ℕ) (info : FieldInfo) → slice_get fields index ≡ Some info
    → id < field_words mesh info → has_spot fields mesh (record { field = first_declared + index; id = id }) ≡ true
declared_spot fields mesh index id info e below =
    let declared : is_built_in (first_declared + index) ≡ false = le-ltb (first_declared + index) first_declared (omega arith) in
    let number : (first_declared + index) - first_declared ≡ index = omega arith in
    rw (declared, number, e) (lt-ltb id (field_words mesh info) below)

-- A DECLARATION adds a field with its value at each element.
pub holds_after_declaration : (fields : List FieldInfo) (mesh : MeshLists) (before after : StoreWords) (live : Fields) (index : ℕ) (info : FieldInfo)
    (value : ℤ) → HasSpotsOf fields mesh before → HoldsFields live before → slice_get fields index ≡ Some info
    → ((spot : Spot) → stored_value after spot ≡ declared_value (first_declared + index) value spot (stored_value before spot))
    → HoldsFields ((first_declared + index, replicate (field_words mesh info) value) ∷ live) after
holds_after_declaration fields mesh before after live index info value has holds e values = record { values = at_spot } where
  at_same : (spot : Spot) (x : ℤ) → first_declared + index ≡ spot.field
      → slice_get (replicate (field_words mesh info) value) spot.id ≡ Some x → stored_value after spot ≡ Some x
  at_same spot x field is =
      let found = replicate_found (field_words mesh info) value spot.id x is in
      let has_it : has_spot fields mesh spot ≡ true =
      subst (λ n. has_spot fields mesh (record { field = n; id = spot.id }) ≡ true) field (declared_spot fields mesh index spot.id info e found.0) in
      let old = some_found (stored_value before spot) (has.spots spot ∙ has_it) in
      let same : spot.field == first_declared + index ≡ true = grind (arith, nat_tests) in
      values spot ∙ ap (declared_value (first_declared + index) value spot) old.1 ∙ rw same (ap Some found.1)

  at_other : (spot : Spot) (x : ℤ) → first_declared + index == spot.field ≡ false → value_in live spot ≡ Some x → stored_value after spot ≡ Some x
  at_other spot x field is =
      let other : spot.field == first_declared + index ≡ false = grind (arith, nat_tests) in
      values spot ∙ rw other (holds.values spot x is)

  by_test : (spot : Spot) (x : ℤ) (b : Bool) → first_declared + index == spot.field ≡ b
      → (if b then slice_get (replicate (field_words mesh info) value) spot.id else value_in live spot) ≡ Some x → stored_value after spot ≡ Some x
  by_test spot x true field is = at_same spot x (grind (arith, nat_tests)) is
  by_test spot x false field is = at_other spot x field is

  at_spot : (spot : Spot) (x : ℤ)
      → value_in ((first_declared + index, replicate (field_words mesh info) value) ∷ live) spot ≡ Some x → stored_value after spot ≡ Some x
  at_spot spot x is = elim (cases_Bool (first_declared + index == spot.field)) [
    | inl h ↦ by_test spot x true h (sym (rw h refl) ∙ is)
    | inr h ↦ by_test spot x false h (sym (rw h refl) ∙ is)
  ]

-- ACTS change the values of a store as those of the fields.
same_test : (a b : Spot) → is_spot a b ≡ is_spot b a
same_test a b = grind (arith, nat_tests)

abbrev changed : (b : Bool) → Act → Option ℤ → Option ℤ
changed b act value = if b then option_map (value_by act.mode act.value) value else value

change_of_none : (b : Bool) (act : Act) → changed b act None ≡ None
change_of_none true act = refl
change_of_none false act = refl

change_of_some : (b : Bool) (act : Act) (old : ℤ) → changed b act (Some old) ≡ Some (if b then value_by act.mode act.value old else old)
change_of_some true act old = refl
change_of_some false act old = refl

pub none_after_acts : (spot : Spot) (acts : List Act) → value_after_acts spot None acts ≡ None
none_after_acts spot [] = refl
none_after_acts spot (act ∷ rest) =
    ap (λ value. value_after_acts spot value rest) (change_of_none (is_spot spot act.spot) act) ∙ none_after_acts spot rest

pub some_after_acts : (spot : Spot) (acts : List Act) (old : ℤ) → value_after_acts spot (Some old) acts ≡ Some (value_after acts spot old)
some_after_acts spot [] old = refl
some_after_acts spot (act ∷ rest) old =
    ap (λ value. value_after_acts spot value rest)
    (change_of_some (is_spot spot act.spot) act old
    ∙ ap (λ (b : Bool). Some (if b then value_by act.mode act.value old else old)) (same_test spot act.spot))
    ∙ some_after_acts spot rest (if is_spot act.spot spot then value_by act.mode act.value old else old)

pub holds_after_acts : (before after : StoreWords) (live later : Fields) (acts : List Act) → HoldsFields live before
    → HasActed acts (view_of before) (view_of after)
    → ((spot : Spot) → value_in later spot ≡ value_after_acts spot (value_in live spot) acts) → HoldsFields later after
holds_after_acts before after live later acts holds acted values = record { values = λ spot x is. by_old spot x (value_in live spot) refl (sym (values spot) ∙ is) } where
  by_old : (spot : Spot) (x : ℤ) (old : Option ℤ) → value_in live spot ≡ old → value_after_acts spot old acts ≡ Some x → stored_value after spot ≡ Some x
  by_old spot x None at is = let none = none_after_acts spot acts in absurd cc
  by_old spot x (Some old) at is =
      let held = holds.values spot old at in
      let value : value_after acts spot old ≡ x = let e = some_after_acts spot acts old in cc in
      let loadable : is_some (stored_value after spot) ≡ true =
      ap (λ (loadable : Spot → Bool). loadable spot) acted.spots.loadable ∙ ap is_some held in
      let later_value = some_found (stored_value after spot) loadable in
      let same : unwrap_or (stored_value after spot) (pos 0) ≡ value_after acts spot old =
      acted.values spot ∙ ap (λ o. value_after acts spot (unwrap_or o (pos 0))) held in
      later_value.1 ∙ ap Some (ap (λ o. unwrap_or o (pos 0)) (sym later_value.1) ∙ same ∙ value)

-- THE END OF A SCOPE leaves the fields of the scopes around it.
lookup_after : (field : ℕ) (closed rest : Fields) → lookup (λ other. other == field) closed ≡ None
    → lookup (λ other. other == field) (closed ++ rest) ≡ lookup (λ other. other == field) rest
lookup_after field [] rest none = refl
lookup_after field (entry ∷ closed) rest none = elim (cases_Bool (entry.0 == field)) [
  | inl h ↦
      let is : lookup (λ other. other == field) (entry ∷ closed) ≡ Some entry.1 = rw h refl in
      absurd cc
  | inr h ↦
      let is : lookup (λ other. other == field) (entry ∷ closed) ≡ lookup (λ other. other == field) closed = rw h refl in
      rw h (lookup_after field closed rest (sym is ∙ none))
]

pub holds_after_scope : (store : StoreWords) (closed rest : Fields) → HoldsFields (closed ++ rest) store
    → ((number : ℕ) → is_some (lookup (λ other. other == number) rest) ≡ true → lookup (λ other. other == number) closed ≡ None)
    → HoldsFields rest store
holds_after_scope store closed rest holds apart = record { values = λ spot x is. holds.values spot x (same spot x is ∙ is) } where
  is_there : (o : Option (List ℤ)) (id : ℕ) (x : ℤ) → option_and_then (λ values. slice_get values id) o ≡ Some x → is_some o ≡ true
  is_there None id x e = absurd cc
  is_there (Some values) id x e = refl

  same : (spot : Spot) (x : ℤ) → value_in rest spot ≡ Some x → value_in (closed ++ rest) spot ≡ value_in rest spot
  same spot x is =
      let there = is_there (lookup (λ other. other == spot.field) rest) spot.id x is in
      ap (option_and_then (λ values. slice_get values spot.id)) (lookup_after spot.field closed rest (apart spot.field there))
