-- Declarations and assignments keep names and slots in agreement.
use Rattle.std.proofs.Common.{◌≡◌, ◌≢◌, ◌<◌, ◌≤◌, ◌+◌, ℕ, Bool, true, false, cond, List, [], ◌∷◌, ◌++◌, map, length, get_or, refl, sym, ap, subst, ◌∙◌, inl, inr, arith, eqb-true}
use Rattle.std.proofs.lemmas.Bool.{cases_Bool}
use Rattle.std.proofs.lemmas.List.{get_or-set_same, get_or-set_other, length-set, length-append}
use Rattle.std.proofs.lemmas.Slice.Eq.{bytes_eq-Decides}
use Rattle.std.specs.List.{find, slice_set}
use Rattle.std.specs.Option.{option_map, option_and_then}
use Rattle.std.specs.Prelude.{Option, Some, None, ℤ, pos, ◌==◌, slice_get, if◌then◌else◌}
use Rattle.std.specs.Str.{bytes_eq}
use Rattle.liszt_base.specs.declared.accesses.Spot.{Spot}
use Rattle.liszt_base.specs.declared.elements.Elem.{Elem}
use Rattle.liszt_base.specs.declared.elements.Kind.{Kind}
use Rattle.topo_operators.specs.Operands.{IsNilOrElement}
use Rattle.phase_types.specs.declared.resolution.Resolution.{Resolution}
use Rattle.phase_types.specs.declared.resolution.Resolution.TheVariants as resolution
use Rattle.phase_types.specs.Environments.{lookup}
use Rattle.phase_types.specs.declared.frame.Frame.{Frame}
use Rattle.phase_types.specs.Resolve.{Names, resolution_of}
use Rattle.code_eval.specs.Meaning as resolved
use Rattle.code_eval.specs.declared.activation.Activation.{Activation}
use Rattle.kernel_eval.specs.States.{Fields, value_in, with_value, updated_entry, update_first, map_update, EvaluationState, local_bound_to, element_bound_to, with_local, with_element, with_local_value}
use Rattle.kernel_eval.proofs.SimulationLemmas.{Setting, NameAgrees, Agrees, Extends, IsNested, keys}

-- NAMES with one more
pub kept_name : (names : Names) (entry : List ℕ × Resolution) (name : List ℕ) (r : Resolution) → resolution_of names name ≡ Some r → resolution_of (names ++ entry ∷ []) name ≡ Some r
kept_name [] entry name r e = absurd cc
kept_name (first ∷ names) entry name r e = elim (cases_Bool (bytes_eq name first.0)) [
  | inl is ↦ rw is (rw is at e)
  | inr is ↦ rw is (kept_name names entry name r (rw is at e))
]

pub added_name : (names : Names) (entry : List ℕ × Resolution) (name : List ℕ) (b : Bool) → resolution_of names name ≡ None → bytes_eq name entry.0 ≡ b
    → resolution_of (names ++ entry ∷ []) name ≡ (if b then Some entry.1 else None)
added_name [] entry name true e is = rw is refl
added_name [] entry name false e is = rw is refl
added_name (first ∷ names) entry name b e is = elim (cases_Bool (bytes_eq name first.0)) [
  | inl same ↦ absurd (some_none first.1 (rw same at e))
  | inr other ↦ rw other (added_name names entry name b (rw other at e) is)
] where
  some_none : (r : Resolution) → Some r ≡ None → ⊥
  some_none r e = cc

pub extends_by_one : (names : Names) (entry : List ℕ × Resolution) → Extends names (names ++ entry ∷ [])
extends_by_one names entry = record { kept = λ name r is. kept_name names entry name r is }

-- SLOTS are below the sizes of the frame, and no two names have one number slot.
pub record SlotsFit (names : Names) (frame : Frame) : Type 0 where
  pub numbers : (name : List ℕ) (slot : ℕ) → resolution_of names name ≡ Some (resolution.Number slot) → slot < frame.numbers
  pub elements : (name : List ℕ) (slot : ℕ) (kind : Kind) → resolution_of names name ≡ Some (resolution.Element slot kind) → slot < length frame.elements
  pub apart : (name other : List ℕ) (slot : ℕ) → resolution_of names name ≡ Some (resolution.Number slot) → resolution_of names other ≡ Some (resolution.Number slot) → name ≡ other

pub record Grows (frame later : Frame) : Type 0 where
  pub numbers : frame.numbers ≤ later.numbers
  pub elements : length frame.elements ≤ length later.elements

pub still_fit : {names : Names} {frame later : Frame} → Grows frame later → SlotsFit names frame → SlotsFit names later
still_fit g h = record {
  numbers = λ name slot is. omega (arith, h.numbers name slot is, g.numbers);
  elements = λ name slot kind is. omega (arith, h.elements name slot kind is, g.elements);
  apart = h.apart;
}

-- a name among the names with one more, by cases
data Among (names : Names) (entry : List ℕ × Resolution) (name : List ℕ) (r : Resolution) : Type 0 where
  Older : resolution_of names name ≡ Some r → Among names entry name r
  Newest : resolution_of names name ≡ None → name ≡ entry.0 → entry.1 ≡ r → Among names entry name r

among : (names : Names) (entry : List ℕ × Resolution) (name : List ℕ) (r : Resolution) → resolution_of (names ++ entry ∷ []) name ≡ Some r → Among names entry name r
among names entry name r e = go (resolution_of names name) refl where
  some_is : (a b : Resolution) → Some a ≡ Some b → a ≡ b
  some_is a b e = cc

  go : (found : Option Resolution) → resolution_of names name ≡ found → Among names entry name r
  go (Some found) is = Older (is ∙ sym (kept_name names entry name found is) ∙ e)
  go None is = elim (cases_Bool (bytes_eq name entry.0)) [
    | inl same ↦ Newest is ((bytes_eq-Decides name entry.0).0 same) (some_is entry.1 r (sym (added_name names entry name true is same) ∙ e))
    | inr other ↦ absurd (let bad : None ≡ Some r = sym (added_name names entry name false is other) ∙ e in cc)
  ]

number_is : (a b : ℕ) → resolution.Number a ≡ resolution.Number b → a ≡ b
number_is a b e = cc

element_is : (a b : ℕ) (k l : Kind) → resolution.Element a k ≡ resolution.Element b l → a ≡ b
element_is a b k l e = cc

pub number_fits : (names : Names) (frame : Frame) (name : List ℕ) → resolution_of names name ≡ None → SlotsFit names frame
    → (later : Frame) → later.numbers ≡ frame.numbers + 1 → later.elements ≡ frame.elements → SlotsFit (names ++ (name, resolution.Number frame.numbers) ∷ []) later
number_fits names frame name new h later e f = record {
  numbers = λ other slot is. below other slot (among names (name, resolution.Number frame.numbers) other (resolution.Number slot) is);
  elements = λ other slot kind is. of_element other slot kind (among names (name, resolution.Number frame.numbers) other (resolution.Element slot kind) is);
  apart = λ x y slot is is'. both x y slot (among names (name, resolution.Number frame.numbers) x (resolution.Number slot) is) (among names (name, resolution.Number frame.numbers) y (resolution.Number slot) is');
} where
  below : (other : List ℕ) (slot : ℕ) → Among names (name, resolution.Number frame.numbers) other (resolution.Number slot) → slot < later.numbers
  below other slot (Older is) = omega (arith, h.numbers other slot is, e)
  below other slot (Newest none same is) = let at = number_is frame.numbers slot is in omega (arith, at, e)

  of_element : (other : List ℕ) (slot : ℕ) (kind : Kind) → Among names (name, resolution.Number frame.numbers) other (resolution.Element slot kind) → slot < length later.elements
  of_element other slot kind (Older is) = subst (λ elements. slot < length elements) (sym f) (h.elements other slot kind is)
  of_element other slot kind (Newest none same is) = absurd cc

  both : (x y : List ℕ) (slot : ℕ) → Among names (name, resolution.Number frame.numbers) x (resolution.Number slot) → Among names (name, resolution.Number frame.numbers) y (resolution.Number slot) → x ≡ y
  both x y slot (Older is) (Older is') = h.apart x y slot is is'
  both x y slot (Newest none same is) (Newest none' same' is') = same ∙ sym same'
  both x y slot (Older is) (Newest none' same' is') = absurd (omega (arith, h.numbers x slot is, number_is frame.numbers slot is'))
  both x y slot (Newest none same is) (Older is') = absurd (omega (arith, h.numbers y slot is', number_is frame.numbers slot is))

pub element_fits : (names : Names) (frame : Frame) (name : List ℕ) (kind : Kind) → resolution_of names name ≡ None → SlotsFit names frame
    → (later : Frame) → later.numbers ≡ frame.numbers → later.elements ≡ frame.elements ++ kind ∷ [] → SlotsFit (names ++ (name, resolution.Element (length frame.elements) kind) ∷ []) later
element_fits names frame name kind new h later e f = record {
  numbers = λ other slot is. of_number other slot (among names (name, resolution.Element (length frame.elements) kind) other (resolution.Number slot) is);
  elements = λ other slot k is. below other slot k (among names (name, resolution.Element (length frame.elements) kind) other (resolution.Element slot k) is);
  apart = λ x y slot is is'. both x y slot (among names (name, resolution.Element (length frame.elements) kind) x (resolution.Number slot) is) (among names (name, resolution.Element (length frame.elements) kind) y (resolution.Number slot) is');
} where
  longer : length later.elements ≡ length frame.elements + 1
  longer = ap length f ∙ length-append frame.elements (kind ∷ [])

  of_number : (other : List ℕ) (slot : ℕ) → Among names (name, resolution.Element (length frame.elements) kind) other (resolution.Number slot) → slot < later.numbers
  of_number other slot (Older is) = subst (λ n. slot < n) (sym e) (h.numbers other slot is)
  of_number other slot (Newest none same is) = absurd cc

  below : (other : List ℕ) (slot : ℕ) (k : Kind) → Among names (name, resolution.Element (length frame.elements) kind) other (resolution.Element slot k) → slot < length later.elements
  below other slot k (Older is) = omega (arith, h.elements other slot k is, longer)
  below other slot k (Newest none same is) = let at = element_is (length frame.elements) slot kind k is in omega (arith, at, longer)

  both : (x y : List ℕ) (slot : ℕ) → Among names (name, resolution.Element (length frame.elements) kind) x (resolution.Number slot)
      → Among names (name, resolution.Element (length frame.elements) kind) y (resolution.Number slot) → x ≡ y
  both x y slot (Older is) (Older is') = h.apart x y slot is is'
  both x y slot (Newest none same is) _ = absurd cc
  both x y slot (Older is) (Newest none same is') = absurd cc

-- A DECLARATION of a local number
module _ (c : Setting) (names : Names) (frame : Frame) (name : List ℕ) (new : resolution_of names name ≡ None) (fit : SlotsFit names frame) where
  not_new : (other : List ℕ) (r : Resolution) → resolution_of names other ≡ Some r → bytes_eq other name ≡ false
  not_new other r is = elim (cases_Bool (bytes_eq other name)) [
    | inl same ↦ absurd (let bad : Some r ≡ None = sym is ∙ ap (resolution_of names) ((bytes_eq-Decides other name).0 same) ∙ new in cc)
    | inr not ↦ not
  ]

  module _ (n : ℤ) (m : EvaluationState) (a : Activation) (r : Agrees c names m a) (room : frame.numbers < c.numbers) where
    abbrev number_later : Names
    number_later = names ++ (name, resolution.Number frame.numbers) ∷ []

    abbrev NumberAgrees : List ℕ → Option ℤ → Option Resolution → Type 0
    NumberAgrees other local found = NameAgrees c (resolved.with_number frame.numbers n a) other local (element_bound_to m other) found

    older_number : (other : List ℕ) (found : Resolution) → resolution_of names other ≡ Some found → NameAgrees c a other (local_bound_to m other) (element_bound_to m other) (Some found)
        → NumberAgrees other (local_bound_to m other) (Some found)
    older_number other (resolution.Field field kind) is h = h
    older_number other (resolution.Scalar scalar) is h = h
    older_number other (resolution.Element slot kind) is h = h
    older_number other (resolution.Number slot) is h =
        let apart : slot ≢ frame.numbers = omega (arith, fit.numbers other slot is) in
        h ∙ ap Some (sym (get_or-set_other a.numbers frame.numbers slot n (pos 0) apart))

    other_local : (other : List ℕ) → bytes_eq other name ≡ false → local_bound_to (with_local name n m) other ≡ local_bound_to m other
    other_local other e = rw e refl

    this_local : (other : List ℕ) → bytes_eq other name ≡ true → local_bound_to (with_local name n m) other ≡ Some n
    this_local other e = rw e refl

    number_named : (other : List ℕ) → NumberAgrees other (local_bound_to (with_local name n m) other) (resolution_of number_later other)
    number_named other = go (resolution_of names other) refl where
      go : (found : Option Resolution) → resolution_of names other ≡ found → NumberAgrees other (local_bound_to (with_local name n m) other) (resolution_of number_later other)
      go (Some found) is =
          subst (NumberAgrees other (local_bound_to (with_local name n m) other)) (sym (kept_name names (name, resolution.Number frame.numbers) other found is))
          (subst (λ local. NumberAgrees other local (Some found)) (sym (other_local other (not_new other found is)))
          (older_number other found is (subst (NameAgrees c a other (local_bound_to m other) (element_bound_to m other)) is (r.named other))))
      go None is = elim (cases_Bool (bytes_eq other name)) [
        | inl same ↦
            subst (NumberAgrees other (local_bound_to (with_local name n m) other)) (sym (added_name names (name, resolution.Number frame.numbers) other true is same))
            (subst (λ local. NumberAgrees other local (Some (resolution.Number frame.numbers))) (sym (this_local other same))
            (ap Some (sym (get_or-set_same a.numbers frame.numbers n (pos 0) (omega (arith, room, r.numbers_room))))))
        | inr not ↦
            subst (NumberAgrees other (local_bound_to (with_local name n m) other)) (sym (added_name names (name, resolution.Number frame.numbers) other false is not))
            (subst (λ local. NumberAgrees other local None) (sym (other_local other not)) (subst (NameAgrees c a other (local_bound_to m other) (element_bound_to m other)) is (r.named other)))
      ]

    pub number_declared : Agrees c number_later (with_local name n m) (resolved.with_number frame.numbers n a)
    number_declared = record {
      elem = r.elem;
      turns = r.turns;
      named = number_named;
      fields = r.fields;
      scalars = r.scalars;
      partials = r.partials;
      kept = r.kept;
      numbers_room = length-set a.numbers frame.numbers n ∙ r.numbers_room;
      elements_room = r.elements_room;
    }

  -- a declaration of an element
  module _ (kind : Kind) (x : Option Elem) (of : IsNilOrElement c.mesh kind x) (m : EvaluationState) (a : Activation) (r : Agrees c names m a) (room : length frame.elements < c.elements) where
    abbrev element_later : Names
    element_later = names ++ (name, resolution.Element (length frame.elements) kind) ∷ []

    abbrev ElementAgrees : List ℕ → Option (Option Elem) → Option Resolution → Type 0
    ElementAgrees other element found = NameAgrees c (resolved.with_element (length frame.elements) x a) other (local_bound_to m other) element found

    older_element : (other : List ℕ) (found : Resolution) → resolution_of names other ≡ Some found → NameAgrees c a other (local_bound_to m other) (element_bound_to m other) (Some found)
        → ElementAgrees other (element_bound_to m other) (Some found)
    older_element other (resolution.Field field k) is h = h
    older_element other (resolution.Scalar scalar) is h = h
    older_element other (resolution.Number slot) is h = h
    older_element other (resolution.Element slot k) is h =
        let apart : slot ≢ length frame.elements = omega (arith, fit.elements other slot k is) in
        let same : get_or (slice_set a.elements (length frame.elements) x) slot None ≡ get_or a.elements slot None = get_or-set_other a.elements (length frame.elements) slot x None apart in
        (h.0, h.1 ∙ ap Some (sym same), subst (IsNilOrElement c.mesh k) (sym same) h.2)

    other_element : (other : List ℕ) → bytes_eq other name ≡ false → element_bound_to (with_element name x m) other ≡ element_bound_to m other
    other_element other e = rw e refl

    this_element : (other : List ℕ) → bytes_eq other name ≡ true → element_bound_to (with_element name x m) other ≡ Some x
    this_element other e = rw e refl

    element_named : (other : List ℕ) → ElementAgrees other (element_bound_to (with_element name x m) other) (resolution_of element_later other)
    element_named other = go (resolution_of names other) refl where
      go : (found : Option Resolution) → resolution_of names other ≡ found → ElementAgrees other (element_bound_to (with_element name x m) other) (resolution_of element_later other)
      go (Some found) is =
          subst (ElementAgrees other (element_bound_to (with_element name x m) other)) (sym (kept_name names (name, resolution.Element (length frame.elements) kind) other found is))
          (subst (λ element. ElementAgrees other element (Some found)) (sym (other_element other (not_new other found is)))
          (older_element other found is (subst (NameAgrees c a other (local_bound_to m other) (element_bound_to m other)) is (r.named other))))
      go None is =
          let old : (local_bound_to m other ≡ None) × (element_bound_to m other ≡ None) = subst (NameAgrees c a other (local_bound_to m other) (element_bound_to m other)) is (r.named other) in
          let there : get_or (slice_set a.elements (length frame.elements) x) (length frame.elements) None ≡ x =
          get_or-set_same a.elements (length frame.elements) x None (omega (arith, room, r.elements_room)) in
          elim (cases_Bool (bytes_eq other name)) [
            | inl same ↦
                subst (ElementAgrees other (element_bound_to (with_element name x m) other)) (sym (added_name names (name, resolution.Element (length frame.elements) kind) other true is same))
                (subst (λ element. ElementAgrees other element (Some (resolution.Element (length frame.elements) kind))) (sym (this_element other same))
                (old.0, ap Some (sym there), subst (IsNilOrElement c.mesh kind) (sym there) of))
            | inr not ↦
                subst (ElementAgrees other (element_bound_to (with_element name x m) other)) (sym (added_name names (name, resolution.Element (length frame.elements) kind) other false is not))
                (subst (λ element. ElementAgrees other element None) (sym (other_element other not)) old)
          ]

    pub element_declared : Agrees c element_later (with_element name x m) (resolved.with_element (length frame.elements) x a)
    element_declared = record {
      elem = r.elem;
      turns = r.turns;
      named = element_named;
      fields = r.fields;
      scalars = r.scalars;
      partials = r.partials;
      kept = r.kept;
      numbers_room = r.numbers_room;
      elements_room = length-set a.elements (length frame.elements) x ∙ r.elements_room;
    }

-- AN ASSIGNMENT to a local number
update_keys : (name : List ℕ) (value : ℤ) (entries : List (List ℕ × ℤ)) → keys (update_first (bytes_eq name) value entries) ≡ keys entries
update_keys name value [] = refl
update_keys name value (entry ∷ entries) = elim (cases_Bool (bytes_eq name entry.0)) [
  | inl is ↦ rw is refl
  | inr is ↦ rw is (ap (λ ks. entry.0 ∷ ks) (update_keys name value entries))
]

updated_here : (name : List ℕ) (value old : ℤ) (entries : List (List ℕ × ℤ)) → lookup (bytes_eq name) entries ≡ Some old → lookup (bytes_eq name) (update_first (bytes_eq name) value entries) ≡ Some value
updated_here name value old [] e = absurd cc
updated_here name value old (entry ∷ entries) e = elim (cases_Bool (bytes_eq name entry.0)) [
  | inl is ↦ rw (is, is) refl
  | inr is ↦ rw (is, is) (updated_here name value old entries (rw is at e))
]

updated_elsewhere : (name other : List ℕ) (value : ℤ) (entries : List (List ℕ × ℤ)) → bytes_eq other name ≡ false
    → lookup (bytes_eq other) (update_first (bytes_eq name) value entries) ≡ lookup (bytes_eq other) entries
updated_elsewhere name other value [] e = refl
updated_elsewhere name other value (entry ∷ entries) e = elim (cases_Bool (bytes_eq name entry.0)) [
  | inl is ↦ rw is (let same : name ≡ entry.0 = (bytes_eq-Decides name entry.0).0 is in rw (ap (bytes_eq other) (sym same) ∙ e) refl)
  | inr is ↦ rw is (by (bytes_eq other entry.0) (updated_elsewhere name other value entries e))
] where
  by : (b : Bool) → lookup (bytes_eq other) (update_first (bytes_eq name) value entries) ≡ lookup (bytes_eq other) entries
      → option_map (λ (entry : List ℕ × ℤ). entry.1) (cond b (Some entry) (find (λ (entry : List ℕ × ℤ). bytes_eq other entry.0) (update_first (bytes_eq name) value entries)))
      ≡ option_map (λ (entry : List ℕ × ℤ). entry.1) (cond b (Some entry) (find (λ (entry : List ℕ × ℤ). bytes_eq other entry.0) entries))
  by true h = refl
  by false h = h

module _ (c : Setting) (names : Names) (frame : Frame) (name : List ℕ) (slot : ℕ) (here : resolution_of names name ≡ Some (resolution.Number slot)) (fit : SlotsFit names frame)
    (n : ℤ) (m : EvaluationState) (a : Activation) (r : Agrees c names m a) (room : frame.numbers ≤ c.numbers) where
  abbrev LocalAgrees : List ℕ → Option ℤ → Option Resolution → Type 0
  LocalAgrees other local found = NameAgrees c (resolved.with_number slot n a) other local (element_bound_to m other) found

  old_local : Some (get_or a.numbers slot (pos 0)) ≡ local_bound_to m name
  old_local = sym (subst (NameAgrees c a name (local_bound_to m name) (element_bound_to m name)) here (r.named name))

  -- a name that is not assigned
  unassigned : (other : List ℕ) (found : Option Resolution) → resolution_of names other ≡ found → bytes_eq other name ≡ false
      → NameAgrees c a other (local_bound_to m other) (element_bound_to m other) found → LocalAgrees other (local_bound_to m other) found
  unassigned other None is not h = h
  unassigned other (Some (resolution.Field field kind)) is not h = h
  unassigned other (Some (resolution.Scalar scalar)) is not h = h
  unassigned other (Some (resolution.Element other_slot kind)) is not h = h
  unassigned other (Some (resolution.Number other_slot)) is not h =
      h ∙ ap Some (sym (get_or-set_other a.numbers slot other_slot n (pos 0) (λ same.
      let names_same : other ≡ name = fit.apart other name slot (is ∙ ap (λ s. Some (resolution.Number s)) same) here in
      let bad : true ≡ false = sym ((bytes_eq-Decides other name).1 names_same) ∙ not in cc)))

  assigned_named : (other : List ℕ) → LocalAgrees other (local_bound_to (with_local_value name n m) other) (resolution_of names other)
  assigned_named other = elim (cases_Bool (bytes_eq other name)) [
    | inl same ↦
        let is : other ≡ name = (bytes_eq-Decides other name).0 same in
        subst (λ other. LocalAgrees other (local_bound_to (with_local_value name n m) other) (resolution_of names other)) (sym is)
        (subst (LocalAgrees name (local_bound_to (with_local_value name n m) name)) (sym here)
        (updated_here name n (get_or a.numbers slot (pos 0)) m.locals (sym old_local)
        ∙ ap Some (sym (get_or-set_same a.numbers slot n (pos 0) (omega (arith, fit.numbers name slot here, room, r.numbers_room))))))
    | inr not ↦
        subst (λ local. LocalAgrees other local (resolution_of names other)) (sym (updated_elsewhere name other n m.locals not))
        (unassigned other (resolution_of names other) refl not (r.named other))
  ]

  pub local_assigned : Agrees c names (with_local_value name n m) (resolved.with_number slot n a)
  local_assigned = record {
    elem = r.elem;
    turns = r.turns;
    named = assigned_named;
    fields = r.fields;
    scalars = r.scalars;
    partials = r.partials;
    kept = r.kept;
    numbers_room = length-set a.numbers slot n ∙ r.numbers_room;
    elements_room = r.elements_room;
  }

pub assigned_nested : (names : Names) (name : List ℕ) (n : ℤ) (m : EvaluationState) → IsNested names m (with_local_value name n m)
assigned_nested names name n m = record { new_locals = []; locals = update_keys name n m.locals; locals_are_new = tt; new_elements = []; elements = refl; elements_are_new = tt }

pub local_nested : (names : Names) (name : List ℕ) (n : ℤ) (m : EvaluationState) → resolution_of names name ≡ None → IsNested names m (with_local name n m)
local_nested names name n m new = record { new_locals = name ∷ []; locals = refl; locals_are_new = (new, tt); new_elements = []; elements = refl; elements_are_new = tt }

pub element_nested : (names : Names) (name : List ℕ) (x : Option Elem) (m : EvaluationState) → resolution_of names name ≡ None → IsNested names m (with_element name x m)
element_nested names name x m new = record { new_locals = []; locals = refl; locals_are_new = tt; new_elements = name ∷ []; elements = refl; elements_are_new = (new, tt) }

-- OTHER FIELDS AND SCALARS keep their values.
pub other_field : (spot other : Spot) (value : ℤ) (fields : Fields) → spot.field ≢ other.field → value_in (with_value spot value fields) other ≡ value_in fields other
other_field spot other value fields apart = ap (option_and_then (λ values. slice_get values other.id)) (looked fields) where
  one : (entry : ℕ × List ℤ) (rest : List (ℕ × List ℤ)) → lookup (λ number. number == other.field) (map (updated_entry spot value) rest) ≡ lookup (λ number. number == other.field) rest
      → (b : Bool) → (entry.0 == spot.field) ≡ b → (d : Bool) → (entry.0 == other.field) ≡ d
      → lookup (λ number. number == other.field) (map (updated_entry spot value) (entry ∷ rest)) ≡ lookup (λ number. number == other.field) (entry ∷ rest)
  one entry rest h true e true f = absurd (apart (sym (eqb-true entry.0 spot.field e) ∙ eqb-true entry.0 other.field f))
  one entry rest h true e false f = rw (e, f) h
  one entry rest h false e d f = rw e (by d f) where
    by : (d : Bool) → (entry.0 == other.field) ≡ d → lookup (λ number. number == other.field) (entry ∷ map (updated_entry spot value) rest) ≡ lookup (λ number. number == other.field) (entry ∷ rest)
    by true f = rw f refl
    by false f = rw f h

  looked : (fields : Fields) → lookup (λ number. number == other.field) (map (updated_entry spot value) fields) ≡ lookup (λ number. number == other.field) fields
  looked [] = refl
  looked (entry ∷ rest) = one entry rest (looked rest) (entry.0 == spot.field) refl (entry.0 == other.field) refl

pub other_scalar : (scalar other : ℕ) (value : ℤ) (scalars : List (ℕ × ℤ)) → scalar ≢ other
    → lookup (λ number. number == other) (map_update (λ number. number == scalar) value scalars) ≡ lookup (λ number. number == other) scalars
other_scalar scalar other value [] apart = refl
other_scalar scalar other value (entry ∷ rest) apart = one (other_scalar scalar other value rest apart) (entry.0 == scalar) refl (entry.0 == other) refl where
  one : lookup (λ number. number == other) (map_update (λ number. number == scalar) value rest) ≡ lookup (λ number. number == other) rest
      → (b : Bool) → (entry.0 == scalar) ≡ b → (d : Bool) → (entry.0 == other) ≡ d
      → lookup (λ number. number == other) (map_update (λ number. number == scalar) value (entry ∷ rest)) ≡ lookup (λ number. number == other) (entry ∷ rest)
  one h true e true f = absurd (apart (sym (eqb-true entry.0 scalar e) ∙ eqb-true entry.0 other f))
  one h true e false f = rw (e, f) h
  one h false e true f = rw (e, f) refl
  one h false e false f = rw (e, f) h
