-- No meaning changes the set of fields and scalars, their numbers of values, or the names at entry. So a state continues to
-- fit its environment.
use Rattle.std.proofs.Common.{◌≡◌, ℕ, ◌-◌, Bool, List, [], ◌∷◌, ◌++◌, map, length, drop, refl, sym, ap, ◌∙◌, inl, inr, arith}
use Rattle.std.proofs.Math.Seq.{drop-append_seam}
use Rattle.std.proofs.lemmas.Bool.{cases_Bool}
use Rattle.std.proofs.lemmas.List.{append_assoc, drop-map, length-append, length-map, length-set}
use Rattle.std.specs.Prelude.{◌==◌, Option, Some, None, is_some, ℤ}
use Rattle.std.specs.Option.{option_map}
use Rattle.std.specs.Str.{bytes_eq}
use Rattle.liszt_base.specs.MeshLists.{MeshLists}
use Rattle.liszt_base.specs.declared.accesses.Spot.{Spot}
use Rattle.liszt_tree.specs.declared.tree.How.{How}
use Rattle.liszt_tree.specs.declared.tree.How.TheVariants.{Set}
use Rattle.phase_types.specs.Environments.{Environment, Binding, FieldName, ScalarName, lookup}
use Rattle.phase_types.specs.Walk.{mode_by}
use Rattle.kernel_eval.specs.Fits.{EntryFits, StateFits}
use Rattle.kernel_eval.specs.Meaning.{operand, assigned_value, with_scalar_fold}
use Rattle.kernel_eval.specs.States.{Fields, updated_entry, with_value, map_update, update_first, with_fields, State, with_scalar_value, EvaluationState, local_bound_to, with_local_value, with_act, with_state, after_block}
use Rattle.kernel_eval.proofs.PreservationLemmas.{IsFilter}

-- THE SHAPE of a finite map: its keys, each with the preserved part of its value
abbrev pub shaped : {K A B : Type 0} → (A → B) → K × A → K × B
shaped of entry = (entry.0, of entry.1)

abbrev pub shape : {K A B : Type 0} → (A → B) → List (K × A) → List (K × B)
shape of entries = map (shaped of) entries

abbrev pub unit_of : ℤ → Unit {0}
unit_of n = tt {0}

abbrev pub length_of : List ℤ → ℕ
length_of values = length values

module _ {K A B : Type 0} (of : A → B) where
  lookup_shape : (is_key : K → Bool) (entries : List (K × A)) → lookup is_key (shape of entries) ≡ option_map of (lookup is_key entries)
  lookup_shape is_key [] = refl
  lookup_shape is_key (entry ∷ entries) = elim (cases_Bool (is_key entry.0)) [
    | inl is ↦ rw is refl
    | inr is ↦ rw is (lookup_shape is_key entries)
  ]

  same_lookup : (is_key : K → Bool) (xs ys : List (K × A)) → shape of ys ≡ shape of xs
      → option_map of (lookup is_key ys) ≡ option_map of (lookup is_key xs)
  same_lookup is_key xs ys e = sym (lookup_shape is_key ys) ∙ ap (lookup is_key) e ∙ lookup_shape is_key xs

  changed_shape : (change : K × A → K × A) → ((entry : K × A) → shaped of (change entry) ≡ shaped of entry) → (entries : List (K × A))
      → shape of (map change entries) ≡ shape of entries
  changed_shape change h [] = refl
  changed_shape change h (entry ∷ entries) = cc (h entry, changed_shape change h entries)

found_both : (x y : Option ℤ) → option_map unit_of x ≡ option_map unit_of y → is_some x ≡ is_some y
found_both None None e = refl
found_both (Some a) (Some b) e = refl
found_both _ _ e = absurd cc

pub map_update_shape : {K : Type 0} (is_key : K → Bool) (value : ℤ) (entries : List (K × ℤ)) → shape unit_of (map_update is_key value entries) ≡ shape unit_of entries
map_update_shape is_key value entries = changed_shape unit_of _ (λ entry. elim (cases_Bool (is_key entry.0)) [
  | inl is ↦ rw is refl
  | inr is ↦ rw is refl
]) entries

update_first_shape : {K : Type 0} (is_key : K → Bool) (value : ℤ) (entries : List (K × ℤ)) → shape unit_of (update_first is_key value entries) ≡ shape unit_of entries
update_first_shape is_key value [] = refl
update_first_shape is_key value (entry ∷ entries) = elim (cases_Bool (is_key entry.0)) [
  | inl is ↦ rw is refl
  | inr is ↦ rw is (ap (λ rest. shaped unit_of entry ∷ rest) (update_first_shape is_key value entries))
]

pub set_shape : (spot : Spot) (value : ℤ) (fields : Fields) → shape length_of (with_value spot value fields) ≡ shape length_of fields
set_shape spot value fields = changed_shape length_of (updated_entry spot value) (λ entry. elim (cases_Bool (entry.0 == spot.field)) [
  | inl is ↦ rw is (ap (λ n. (entry.0, n)) (length-set entry.1 spot.id value))
  | inr is ↦ rw is refl
]) fields

-- the same fields and scalars
pub record IsLike (s t : State) : Type 0 where
  pub fields : shape length_of t.fields ≡ shape length_of s.fields
  pub scalars : shape unit_of t.scalars ≡ shape unit_of s.scalars

like_fits : (mesh : MeshLists) (s t : State) → IsLike s t → (entry : Binding) → EntryFits mesh s entry → EntryFits mesh t entry
like_fits mesh s t like (ScalarName number) h =
    found_both _ _ (same_lookup unit_of (λ other. other == number) s.scalars t.scalars like.scalars) ∙ h
like_fits mesh s t like (FieldName number kind) (inl is) = inl is
like_fits mesh s t like (FieldName number kind) (inr is) =
    inr (is.0, same_lookup length_of (λ other. other == number) s.fields t.fields like.fields ∙ is.1)
like_fits mesh s t like _ h = h

pub still_fits : {mesh : MeshLists} {environment : Environment} {s t : State} → IsLike s t → StateFits mesh environment s → StateFits mesh environment t
still_fits {mesh = mesh} {s = s} {t = t} like h = record { entry_fits = λ name entry is. like_fits mesh s t like entry (h.entry_fits name entry is) }

-- AN EVALUATION STATE has the shape of another one: the same fields and scalars, and the same names, with the same elements
pub record HasShape (m after : EvaluationState) : Type 0 where
  pub like : IsLike m.state after.state
  pub locals : shape unit_of after.locals ≡ shape unit_of m.locals
  pub elements : after.elements ≡ m.elements

pub same_locals : (m after : EvaluationState) → HasShape m after → (name : List ℕ) → is_some (local_bound_to after name) ≡ is_some (local_bound_to m name)
same_locals m after r name = found_both _ _ (same_lookup unit_of (bytes_eq name) m.locals after.locals r.locals)

pub like_itself : (s : State) → IsLike s s
like_itself s = record { fields = refl; scalars = refl }

pub same_names : (m after : EvaluationState) → IsLike m.state after.state → after.locals ≡ m.locals → after.elements ≡ m.elements → HasShape m after
same_names m after like e f = record { like = like; locals = ap (shape unit_of) e; elements = f }

pub local_assigned : (name : List ℕ) (n : ℤ) (m : EvaluationState) → HasShape m (with_local_value name n m)
local_assigned name n m = record { like = like_itself m.state; locals = update_first_shape (bytes_eq name) n m.locals; elements = refl }

pub spot_set : (spot : Spot) (how : How) (n old : ℤ) (m : EvaluationState)
    → HasShape m (with_act (record { spot = spot; mode = mode_by how; value = operand how n }) (with_state (with_fields (with_value spot (assigned_value how old n) m.state.fields) m.state) m))
spot_set spot how n old m = same_names m _ (record { fields = set_shape spot (assigned_value how old n) m.state.fields; scalars = refl }) refl refl

pub reduced : (how : How) (n : ℤ) (scalar : ℕ) (old : ℤ) (m : EvaluationState)
    → HasShape m (with_scalar_fold how scalar n (with_state (with_scalar_value scalar (assigned_value how old n) m.state) m))
reduced how n scalar old m = go how (assigned_value how old n) where
  go : (how : How) (value : ℤ) → HasShape m (with_scalar_fold how scalar n (with_state (with_scalar_value scalar value m.state) m))
  go Set value = same_names m _ (record { fields = refl; scalars = map_update_shape _ value m.state.scalars }) refl refl
  go _ value = same_names m _ (record { fields = refl; scalars = map_update_shape _ value m.state.scalars }) refl refl

pub with_turns : (n : ℕ) (m : EvaluationState) → HasShape m (with_state (record m.state { turns = n }) m)
with_turns n m = same_names m _ (record { fields = refl; scalars = refl }) refl refl

-- a list and the items in front of it
pub record Extends {A : Type 0} (before after : List A) : Type 0 where
  pub new : List A
  pub is : after ≡ new ++ before

pub further : {A : Type 0} (a b c : List A) → Extends a b → Extends b c → Extends a c
further a b c r s = record { new = s.new ++ r.new; is = s.is ∙ ap (λ xs. s.new ++ xs) r.is ∙ sym (append_assoc s.new r.new a) }

pub dropped : {A : Type 0} (before after : List A) → Extends before after → drop (length after - length before) after ≡ before
dropped before after e =
    let long : length after - length before ≡ length e.new = omega (arith, ap (λ xs. length xs) e.is, length-append e.new before) in
    ap (λ n. drop n after) long ∙ ap (drop (length e.new)) e.is ∙ drop-append_seam e.new before

-- MEANINGS preserve the fields and scalars, and the names at entry, with new ones in front
pub record KeepsShape (m after : EvaluationState) : Type 0 where
  pub like : IsLike m.state after.state
  pub locals : Extends (shape unit_of m.locals) (shape unit_of after.locals)
  pub elements : Extends m.elements after.elements

-- the end of a block restores the names at entry
pub block_shape_preserved : (before m : EvaluationState) → KeepsShape before m → HasShape before (after_block before m)
block_shape_preserved before m r = record { like = r.like; locals = locals; elements = dropped before.elements m.elements r.elements } where
  n : ℕ
  n = length m.locals - length before.locals

  long : n ≡ length (shape unit_of m.locals) - length (shape unit_of before.locals)
  long = omega (arith, length-map m.locals (shaped unit_of), length-map before.locals (shaped unit_of))

  locals : shape unit_of (drop n m.locals) ≡ shape unit_of before.locals
  locals =
      sym (drop-map (shaped unit_of) n m.locals) ∙ ap (λ n. drop n (shape unit_of m.locals)) long
      ∙ dropped (shape unit_of before.locals) (shape unit_of m.locals) r.locals

no_new_entries : (m after : EvaluationState) → HasShape m after → KeepsShape m after
no_new_entries m after r =
    record { like = r.like; locals = record { new = []; is = r.locals }; elements = record { new = []; is = r.elements } }

pub shapes_kept : IsFilter (λ a. Unit {0}) KeepsShape
shapes_kept =
    record {
      same = λ m. no_new_entries m m (same_names m m (like_itself m.state) refl refl);
      later = λ a b c r s. record {
        like = record { fields = s.like.fields ∙ r.like.fields; scalars = s.like.scalars ∙ r.like.scalars };
        locals = further _ _ _ r.locals s.locals;
        elements = further _ _ _ r.elements s.elements;
      };
      local = λ name n m. record {
        like = like_itself m.state;
        locals = record { new = (name, tt {0}) ∷ []; is = refl };
        elements = record { new = []; is = refl };
      };
      local_set = λ name n m. no_new_entries m _ (local_assigned name n m);
      element = λ name x m. record {
        like = like_itself m.state;
        locals = record { new = []; is = refl };
        elements = record { new = (name, x) ∷ []; is = refl };
      };
      read = λ spot n m any e. no_new_entries m _ (same_names m _ (like_itself m.state) refl refl);
      spot_set = λ spot how n old m any e. no_new_entries m _ (spot_set spot how n old m);
      scalar_assignment = λ how n scalar old m any e. no_new_entries m _ (reduced how n scalar old m);
      block = λ before m r. no_new_entries before _ (block_shape_preserved before m r);
      turn = λ n m e. no_new_entries m _ (with_turns n m);
    }
