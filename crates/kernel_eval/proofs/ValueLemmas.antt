-- The value at one spot after acts.
use Rattle.std.proofs.Common.{◌≡◌, ℕ, zero, suc, ◌==◌, Bool, true, false, List, [], ◌∷◌, refl, sym, ap, ◌∙◌, inl, inr, arith}
use Rattle.std.proofs.lemmas.Bool.{cases_Bool}
use Rattle.std.proofs.lemmas.Bool.Decides.{nat_tests, eqb_tells}
use Rattle.std.specs.Prelude.{Option, Some, None, slice_get, if◌then◌else◌, ◌&&◌, ℤ}
use Rattle.std.specs.List.{slice_set}
use Rattle.std.specs.Option.{option_map, option_and_then}
use Rattle.liszt_base.specs.declared.accesses.Mode.{Mode}
use Rattle.liszt_base.specs.declared.accesses.Mode.TheVariants.{Read, Write, Reduce}
use Rattle.liszt_base.specs.declared.accesses.Spot.{Spot}
use Rattle.phase_types.specs.Environments.{lookup}
use Rattle.kernel_eval.specs.Preservation.{fields_after_act, fields_after_acts, ActsDetermineFields, value_after_act, is_spot, value_after_acts, ActsDetermineValues}
use Rattle.kernel_eval.specs.States.{Fields, value_in, with_value, Act, EvaluationState}

set_here : (xs : List ℤ) (i : ℕ) (value old : ℤ) → slice_get xs i ≡ Some old → slice_get (slice_set xs i value) i ≡ Some value
set_here [] i value old e = absurd cc
set_here (x ∷ xs) zero value old e = refl
set_here (x ∷ xs) (suc i) value old e = set_here xs i value old e

set_elsewhere : (xs : List ℤ) (i j : ℕ) (value : ℤ) → (j ≡ i → ⊥) → slice_get (slice_set xs i value) j ≡ slice_get xs j
set_elsewhere [] i j value other = refl
set_elsewhere (x ∷ xs) zero zero value other = absurd (other refl)
set_elsewhere (x ∷ xs) zero (suc j) value other = refl
set_elsewhere (x ∷ xs) (suc i) zero value other = refl
set_elsewhere (x ∷ xs) (suc i) (suc j) value other = set_elsewhere xs i j value (λ e. other (ap suc e))

abbrev values_of : Fields → ℕ → Option (List ℤ)
values_of fields field = lookup (λ number. number == field) fields

of_field : (spot : Spot) (value : ℤ) (fields : Fields)
    → values_of (with_value spot value fields) spot.field ≡ option_map (λ values. slice_set values spot.id value) (values_of fields spot.field)
of_field spot value [] = refl
of_field spot value (entry ∷ fields) = elim (cases_Bool (entry.0 == spot.field)) [
  | inl is ↦ rw (is, is) refl
  | inr is ↦ rw (is, is) (of_field spot value fields)
]

of_other : (spot : Spot) (value : ℤ) (field : ℕ) → (field ≡ spot.field → ⊥) → (fields : Fields)
    → values_of (with_value spot value fields) field ≡ values_of fields field
of_other spot value field other [] = refl
of_other spot value field other (entry ∷ fields) = grind (arith, nat_tests, of_other spot value field other fields)

at_id : (i j : ℕ) (value old : ℤ) (values : Option (List ℤ)) → option_and_then (λ xs. slice_get xs i) values ≡ Some old
    → (same : Bool) → j == i ≡ same
    → option_and_then (λ xs. slice_get xs j) (option_map (λ xs. slice_set xs i value) values)
    ≡ (if same then Some value else option_and_then (λ xs. slice_get xs j) values)
at_id i j value old None e same is = absurd cc
at_id i j value old (Some xs) e true is = elim (eqb_tells j i) [
  | inl h ↦ rw h.1 (set_here xs i value old e)
  | inr h ↦ absurd cc
]
at_id i j value old (Some xs) e false is = elim (eqb_tells j i) [
  | inl h ↦ absurd cc
  | inr h ↦ set_elsewhere xs i j value h.1
]

-- a value is set at one spot, where there was one
pub set_value : (spot other : Spot) (value old : ℤ) (fields : Fields) → value_in fields spot ≡ Some old
    → value_in (with_value spot value fields) other ≡ (if is_spot other spot then Some value else value_in fields other)
set_value spot other value old fields e = elim (eqb_tells other.field spot.field) [
  | inl h ↦ rw (h.0, h.1, of_field spot value fields) (at_id spot.id other.id value old (values_of fields spot.field) e (other.id == spot.id) refl)
  | inr h ↦ rw (h.0, of_other spot value other.field h.1 fields) refl
]

pub here : (spot other : Spot) → is_spot other spot ≡ true → other ≡ spot
here spot other e = go (other.field == spot.field) (other.id == spot.id) refl refl e where
  go : (a b : Bool) → other.field == spot.field ≡ a → other.id == spot.id ≡ b → (a && b) ≡ true → other ≡ spot
  go true true a b e = grind (arith, nat_tests)
  go _ _ a b e = absurd cc

pub in_place : (change : ℤ → ℤ) (same : Bool) (value : Option ℤ) (old : ℤ) → (same ≡ true → value ≡ Some old)
    → (if same then Some (change old) else value) ≡ (if same then option_map change value else value)
in_place change true value old h = sym (ap (option_map change) (h refl))
in_place change false value old h = refl

pub no_value : (change : ℤ → ℤ) (same : Bool) (value : Option ℤ) → (same ≡ true → value ≡ None) → value ≡ (if same then option_map change value else value)
no_value change true value h = h refl ∙ sym (ap (option_map change) (h refl))
no_value change false value h = refl

read_value : (n : ℤ) (same : Bool) (value : Option ℤ) → value ≡ (if same then option_map (value_after_act Read n) value else value)
read_value n true None = refl
read_value n true (Some old) = refl
read_value n false value = refl

at_same : (spot other : Spot) (fields : Fields) (old : Option ℤ) → value_in fields spot ≡ old → is_spot other spot ≡ true → value_in fields other ≡ old
at_same spot other fields old e is = ap (value_in fields) (here spot other is) ∙ e

after_act : (spot other : Spot) (mode : Mode) (n : ℤ) (old : Option ℤ) (fields : Fields) → value_in fields spot ≡ old
    → value_in (fields_after_act (record { spot = spot; mode = mode; value = n }) old fields) other
    ≡ (if is_spot other spot then option_map (value_after_act mode n) (value_in fields other) else value_in fields other)
after_act spot other mode n None fields e =
    no_value (value_after_act mode n) (is_spot other spot) (value_in fields other) (at_same spot other fields None e)
after_act spot other Read n (Some old) fields e = read_value n (is_spot other spot) (value_in fields other)
after_act spot other Write n (Some old) fields e =
    set_value spot other n old fields e
    ∙ in_place (value_after_act Write n) (is_spot other spot) (value_in fields other) old (at_same spot other fields (Some old) e)
after_act spot other (Reduce op) n (Some old) fields e =
    set_value spot other (value_after_act (Reduce op) n old) old fields e
    ∙ in_place (value_after_act (Reduce op) n) (is_spot other spot) (value_in fields other) old (at_same spot other fields (Some old) e)

after_acts : (spot : Spot) (acts : List Act) (fields : Fields) → value_in (fields_after_acts fields acts) spot ≡ value_after_acts spot (value_in fields spot) acts
after_acts spot [] fields = refl
after_acts spot (act ∷ acts) fields =
    after_acts spot acts (fields_after_act act (value_in fields act.spot) fields)
    ∙ ap (λ value. value_after_acts spot value acts) (after_act act.spot spot act.mode act.value (value_in fields act.spot) fields refl)

pub values_determined : (m after : EvaluationState) → ActsDetermineFields m after → ActsDetermineValues m after
values_determined m after r =
    record {
      new_acts = r.new_acts;
      acts_are = r.acts_are;
      values_are = λ spot. ap (λ fields. value_in fields spot) r.fields_are ∙ after_acts spot r.new_acts m.state.fields;
    }
