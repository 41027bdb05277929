-- Locals that have begun a comprehension can run its iterations, from the state that a store holds.
use Rattle.std.proofs.Common.{◌≡◌, ◌<◌, ℕ, zero, suc, ◌+◌, ◌==◌, true, false, List, [], ◌∷◌, length, map, get_or, refl, sym, ap, subst, ◌∙◌, inl, inr, arith}
use Rattle.std.proofs.lemmas.Bool.{cases_Bool, ltb-true}
use Rattle.std.proofs.lemmas.Bool.Decides.{eqb_tells}
use Rattle.std.proofs.lemmas.List.FromFn.{get_or-map-range_with_len, length-map-range_with_len}
use Rattle.std.proofs.lemmas.Option.{get_or_from_slice_get, slice_get-get_or, slice_get_within}
use Rattle.std.specs.List.{range_with_len}
use Rattle.std.specs.Option.{option_map, option_and_then}
use Rattle.std.specs.Prelude.{Option, Some, None, is_some, nat_lt, slice_get, ℤ, pos, Ok}
use Rattle.liszt_base.specs.MeshLists.{MeshLists}
use Rattle.liszt_base.specs.declared.accesses.Spot.{Spot}
use Rattle.liszt_base.specs.declared.elements.Kind.{Kind}
use Rattle.liszt_tree.specs.Tree.{Main}
use Rattle.mesh_topology.specs.Elements.{count}
use Rattle.resolved_code.specs.declared.items.ComprehensionCode.{ComprehensionCode}
use Rattle.phase_types.specs.declared.info.FieldInfo.{FieldInfo}
use Rattle.phase_types.specs.declared.state.CheckedProgram.{CheckedProgram}
use Rattle.phase_types.specs.Checked.{HasPartsOf, IsChecked, checked_kind, checked_program}
use Rattle.phase_types.specs.Environments.{Binding, FieldName, ScalarName, LocalName, ElementName, Comprehension, DenotesPart, binding_of, built_in_fields, comprehension_of, is_built_in, lookup, parts_of, scalars_in}
use Rattle.phase_types.proofs.AccessLemmas.{binds_all}
use Rattle.phase_types.proofs.CheckedLemmas.{checked_code, checked_is_typed, checked_parts}
use Rattle.phase_types.proofs.ComprehensionLemmas.{Stands, comprehension_stands}
use Rattle.code_eval.specs.declared.activation.Activation.{Activation}
use Rattle.code_eval.specs.Stores.{StoreView}
use Rattle.kernel_eval.specs.Fits.{EntryFits, IsBuiltIn, IsLive, StateFits}
use Rattle.kernel_eval.specs.HeldFields.{HasRoomFor, HoldsAt, HoldsFields, HoldsScalars}
use Rattle.kernel_eval.specs.Running.{CanIterate, HasBegun}
use Rattle.kernel_eval.specs.States.{State}
use Rattle.kernel_eval.proofs.HeldFieldLemmas.{fields_admit}

-- FROM A STATE
pub can_from_state : (program : Main) (checked : CheckedProgram) (k : ℕ) (c : Comprehension) (mesh : MeshLists) (turns : ℕ) (s : State) (id : ℕ) (scalars : List ℤ) (a : Activation)
    (store : StoreView) → checked_program program ≡ Ok checked → comprehension_of program k ≡ Some c → StateFits mesh c.environment s → HoldsScalars s scalars
    → HasBegun checked k scalars a → id < count mesh c.over → HoldsFields s store → CanIterate checked k mesh turns id a store
can_from_state program checked k c mesh turns s id scalars a store is found fits held begun below fields =
    let stands : Stands (parts_of program) c = comprehension_stands program (checked_is_typed program checked is) k c found in
    record {
      program = program;
      is_checked = is;
      comprehension = c;
      is = found;
      typed = stands.fits;
      state = s;
      fits = fits;
      scalars = λ scalar value mode value_is.
          ap (λ numbers. get_or numbers scalar (pos 0)) begun.scalars_are ∙ get_or_from_slice_get scalars scalar value (pos 0) (held.holds scalar value value_is);
      below = below;
      admits = fields_admit mesh c turns s id store stands.fits fields;
    }

-- A MAP with ascending keys
abbrev numbered : {A B : Type 0} → (ℕ → A → B) → ℕ → List A → List (ℕ × B)
numbered f n [] = []
numbered f n (x ∷ xs) = (n, f n x) ∷ numbered f (n + 1) xs

some_is : {A : Type 0} (x y : A) → Some x ≡ Some y → x ≡ y
some_is x y e = cc

module _ {A B : Type 0} (f : ℕ → A → B) where
  found : (n : ℕ) (xs : List A) (i number : ℕ) (x : A) → number ≡ n + i → slice_get xs i ≡ Some x → lookup (λ other. other == number) (numbered f n xs) ≡ Some (f number x)
  found n [] i number x e is = absurd cc
  found n (y ∷ ys) zero number x e is = elim (eqb_tells n number) [
    | inl h ↦ rw h.0 (ap (λ m. Some (f m y)) h.1 ∙ ap (λ x. Some (f number x)) (some_is y x is))
    | inr h ↦ absurd (h.1 (omega (arith, e)))
  ]
  found n (y ∷ ys) (suc i) number x e is = elim (eqb_tells n number) [
    | inl h ↦ absurd (omega (arith, e, h.1))
    | inr h ↦ rw h.0 (found (n + 1) ys i number x (omega (arith, e)) is)
  ]

  record IsAt (n : ℕ) (xs : List A) (number : ℕ) (y : B) : Type 0 where
    index : ℕ
    x : A
    at_index : slice_get xs index ≡ Some x
    number_is : number ≡ n + index
    value_is : y ≡ f number x

  from_lookup : (n : ℕ) (xs : List A) (number : ℕ) (y : B) → lookup (λ other. other == number) (numbered f n xs) ≡ Some y → IsAt n xs number y
  from_lookup n [] number y e = absurd cc
  from_lookup n (x ∷ xs) number y e = elim (eqb_tells n number) [
    | inl h ↦ record {
      index = 0;
      x = x;
      at_index = refl;
      number_is = omega (arith, h.1);
      value_is = some_is y (f number x) (sym (rw h.0 at e) ∙ ap (λ m. Some (f m x)) h.1);
    }
    | inr h ↦ later (from_lookup (n + 1) xs number y (rw h.0 at e))
  ] where
    later : IsAt (n + 1) xs number y → IsAt n (x ∷ xs) number y
    later at = record { index = suc at.index; x = at.x; at_index = at.at_index; number_is = omega (arith, at.number_is); value_is = at.value_is }

-- THE STATE THAT A STORE HOLDS
abbrev values_in : StoreView → MeshLists → ℕ → FieldInfo → List ℤ
values_in store mesh number info = map (λ id. store.values (record { field = number; id = id })) (range_with_len 0 (count mesh info.kind))

abbrev held_state : List FieldInfo → List ℤ → MeshLists → StoreView → State
held_state fields scalars mesh store =
    record { fields = numbered (values_in store mesh) 6 fields; scalars = numbered (λ number value. value) 0 scalars; prints = []; turns = 0 }

in_range : {A : Type 0} (f : ℕ → A) (n i : ℕ) (x : A) → slice_get (map f (range_with_len 0 n)) i ≡ Some x → (i < n) × (f i ≡ x)
in_range f n i x e =
    let below : i < n = subst (λ n. i < n) (length-map-range_with_len f 0 n) (slice_get_within (map f (range_with_len 0 n)) i x e) in
    (below, sym (get_or-map-range_with_len f 0 n i i x below (omega arith)) ∙ get_or_from_slice_get (map f (range_with_len 0 n)) i x x e)

module _ (fields : List FieldInfo) (scalars : List ℤ) (mesh : MeshLists) (store : StoreView) (room : HasRoomFor fields mesh store) where
  abbrev state : State
  state = held_state fields scalars mesh store

  holds_values : (spot : Spot) (value : ℤ) (values : Option (List ℤ)) → lookup (λ number. number == spot.field) state.fields ≡ values
      → option_and_then (λ values. slice_get values spot.id) values ≡ Some value → HoldsAt store spot value
  holds_values spot value None e is = absurd cc
  holds_values spot value (Some values) e is =
      let at : IsAt (values_in store mesh) 6 fields spot.field values = from_lookup (values_in store mesh) 6 fields spot.field values e in
      let inside : (spot.id < count mesh at.x.kind) × (store.values spot ≡ value) =
      in_range (λ id. store.values (record { field = spot.field; id = id })) (count mesh at.x.kind) spot.id value (subst (λ values. slice_get values spot.id ≡ Some value) at.value_is is) in
      record {
        value_is = inside.1;
        loadable = ap (λ field. store.loadable (record { field = field; id = spot.id })) at.number_is ∙ room.loadable at.index at.x spot.id at.at_index inside.0;
        storable = ap (λ field. store.storable (record { field = field; id = spot.id })) at.number_is ∙ room.storable at.index at.x spot.id at.at_index inside.0;
      }

  holds_fields : HoldsFields state store
  holds_fields = record { holds = λ spot value is. holds_values spot value (lookup (λ number. number == spot.field) state.fields) refl is }

  holds_scalars : HoldsScalars state scalars
  holds_scalars = record {
    holds = λ scalar value is.
        let at = from_lookup (λ number value. value) 0 scalars scalar value is in
        let same : scalar ≡ at.index = omega (arith, at.number_is) in
        ap (slice_get scalars) same ∙ at.at_index ∙ ap Some (sym at.value_is);
  }

-- names of a program denote what the state has
abbrev IsBuiltInBinding : Binding → Type 0
IsBuiltInBinding (FieldName number kind) = IsBuiltIn number kind
IsBuiltInBinding _ = Unit {0}

built_in : (name : List ℕ) (number : ℕ) (kind : Kind) → binding_of built_in_fields name ≡ Some (FieldName number kind) → IsBuiltIn number kind
built_in name number kind e =
    let a : 0 < 4 = omega arith in let b : 1 < 4 = omega arith in let c : 2 < 4 = omega arith in let d : 3 < 4 = omega arith in
    binds_all IsBuiltInBinding built_in_fields name (FieldName number kind) (inl (a, refl), (inl (b, refl), (inl (c, refl), (inl (d, refl), (inr (refl, refl), tt {0}))))) e

not_built_in : (index number : ℕ) → number ≡ 6 + index → is_built_in number ≡ false
not_built_in index number e = elim (cases_Bool (nat_lt number 6)) [
  | inl less ↦ absurd (omega (arith, e, ltb-true number 6 less))
  | inr not ↦ not
]

scalar_found : (scalars : List ℤ) (number : ℕ) → number < length scalars → is_some (lookup (λ other. other == number) (numbered (λ number value. value) 0 scalars)) ≡ true
scalar_found scalars number below =
    ap is_some (found (λ number value. value) 0 scalars number number (get_or scalars number (pos 0)) (omega arith) (slice_get-get_or scalars number (pos 0) below))

module _ (parts_fields : List FieldInfo) (mesh : MeshLists) (scalars : List ℤ) (store : StoreView) where
  live : (index number scope : ℕ) (name : List ℕ) (kind : Kind) → number ≡ 6 + index → slice_get parts_fields index ≡ Some (record { name = name; kind = kind; scope = scope })
      → IsLive mesh (held_state parts_fields scalars mesh store) number kind
  live index number scope name kind e is = (
    not_built_in index number e,
    ap (option_map (λ values. length values)) (found (values_in store mesh) 6 parts_fields index number (record { name = name; kind = kind; scope = scope }) e is)
        ∙ ap Some (length-map-range_with_len (λ id. store.values (record { field = number; id = id })) 0 (count mesh kind)),
  )

state_fits : (program : Main) (checked : CheckedProgram) (c : Comprehension) (mesh : MeshLists) (scalars : List ℤ) (store : StoreView) → HasPartsOf program checked
    → Stands (parts_of program) c → length scalars ≡ length checked.scalars → StateFits mesh c.environment (held_state checked.fields scalars mesh store)
state_fits program checked c mesh scalars store parts stands same = record { entry_fits = λ name entry is. go name entry (stands.denotes name entry is) } where
  go : (name : List ℕ) (entry : Binding) → DenotesPart (parts_of program) name entry → EntryFits mesh (held_state checked.fields scalars mesh store) entry
  go name (FieldName number kind) (inl is) = inl (built_in name number kind is)
  go name (FieldName number kind) (inr d) =
      inr (live checked.fields mesh scalars store d.index number d.scope name kind d.number_is (ap (λ fields. slice_get fields d.index) parts.fields ∙ d.at_index))
  go name (ScalarName number) is =
      let below : number < length (scalars_in (parts_of program)) = slice_get_within (scalars_in (parts_of program)) number name is in
      scalar_found scalars number (omega (arith, below, same, ap (λ xs. length xs) parts.scalars))
  go name LocalName h = absurd h
  go name (ElementName kind) h = absurd h

-- OVER A STORE that has room for the fields
code_of : (checked : CheckedProgram) (k : ℕ) (over : Kind) → checked_kind checked k ≡ Some over → (code : ComprehensionCode) × (slice_get checked.comprehensions k ≡ Some code)
code_of checked k over e = go (slice_get checked.comprehensions k) refl e where
  go : (code : Option ComprehensionCode) → slice_get checked.comprehensions k ≡ code → option_map (λ (c : ComprehensionCode). c.over) code ≡ Some over
      → (code : ComprehensionCode) × (slice_get checked.comprehensions k ≡ Some code)
  go (Some code) is e = (code, is)
  go None is e = absurd cc

pub can_over_store : (checked : CheckedProgram) (k : ℕ) (over : Kind) (mesh : MeshLists) (turns id : ℕ) (scalars : List ℤ) (a : Activation) (store : StoreView) → IsChecked checked
    → checked_kind checked k ≡ Some over → length scalars ≡ length checked.scalars → HasBegun checked k scalars a → id < count mesh over → HasRoomFor checked.fields mesh store
    → CanIterate checked k mesh turns id a store
can_over_store checked k over mesh turns id scalars a store h kind same begun below room =
    let code = code_of checked k over kind in
    let c = checked_code h.program checked h.is k code.0 code.1 in
    let parts : HasPartsOf h.program checked = checked_parts h.program checked h.is in
    let stands : Stands (parts_of h.program) c.0 = comprehension_stands h.program (checked_is_typed h.program checked h.is) k c.0 c.1 in
    let is_over : over ≡ c.0.over = some_is over c.0.over (sym kind ∙ ap (option_map (λ (code : ComprehensionCode). code.over)) code.1 ∙ ap Some c.2.over) in
    can_from_state h.program checked k c.0 mesh turns (held_state checked.fields scalars mesh store) id scalars a store h.is c.1
    (state_fits h.program checked c.0 mesh scalars store parts stands same) (holds_scalars checked.fields scalars mesh store room) begun
    (subst (λ kind. id < count mesh kind) is_over below) (holds_fields checked.fields scalars mesh store room)
