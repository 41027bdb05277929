-- The state of a program, and that of an evaluation. This project's own.
use Rattle.std.specs.Prelude.{ℕ, ◌-◌, ◌==◌, Bool, if◌then◌else◌, Option, None, List, [], ◌∷◌, ◌++◌, length, map, drop, slice_get, ℤ}
use Rattle.std.specs.List.{slice_set}
use Rattle.std.specs.Option.{option_and_then}
use Rattle.std.specs.Str.{bytes_eq}
use Rattle.liszt_base.specs.declared.accesses.Spot.{Spot}
use Rattle.liszt_base.specs.declared.elements.Elem.{Elem}
use Rattle.liszt_base.specs.declared.elements.Op.{Op}
pub use Rattle.code_eval.specs.Acts.{Act}
use Rattle.phase_types.specs.Environments.{lookup}

-- a finite map with another value at the first key that passes a test; at all of them
abbrev pub update_first : {K A : Type 0} → (K → Bool) → A → List (K × A) → List (K × A)
update_first is_key value [] = []
update_first is_key value (entry ∷ entries) =
    if is_key entry.0 then (entry.0, value) ∷ entries else entry ∷ update_first is_key value entries

abbrev pub map_update : {K A : Type 0} → (K → Bool) → A → List (K × A) → List (K × A)
map_update is_key value entries = map (λ entry. if is_key entry.0 then (entry.0, value) else entry) entries

-- THE LIVE FIELDS, each by its number with its values by id, the latest declaration first. A spot is an element of a field.
abbrev pub Fields : Type 0
Fields = List (ℕ × List ℤ)

abbrev pub value_in : Fields → Spot → Option ℤ
value_in fields spot = option_and_then (λ values. slice_get values spot.id) (lookup (λ number. number == spot.field) fields)

abbrev pub updated_entry : Spot → ℤ → ℕ × List ℤ → ℕ × List ℤ
updated_entry spot value entry = if entry.0 == spot.field then (entry.0, slice_set entry.1 spot.id value) else entry

abbrev pub with_value : Spot → ℤ → Fields → Fields
with_value spot value fields = map (updated_entry spot value) fields

-- THE STATE of a program: the live fields; the scalars by their numbers, the latest declaration first; the numbers printed; and the
-- remaining turns
pub record State : Type 0 where
  pub fields : Fields
  pub scalars : List (ℕ × ℤ)
  pub prints : List ℤ
  pub turns : ℕ

abbrev pub with_fields : Fields → State → State
with_fields fields s = record s { fields = fields }

abbrev pub scalar_value : State → ℕ → Option ℤ
scalar_value s number = lookup (λ other. other == number) s.scalars

abbrev pub with_scalar_value : ℕ → ℤ → State → State
with_scalar_value number value s = record s { scalars = map_update (λ other. other == number) value s.scalars }

-- THE PARTS of a state that only declarations and the ends of scopes change: its fields, with their numbers of values, and its scalars
abbrev pub field_lengths : State → List (ℕ × ℕ)
field_lengths s = map (λ field. (field.0, length field.1)) s.fields

abbrev pub known_scalars : State → List ℕ
known_scalars s = map (λ scalar. scalar.0) s.scalars

-- a reduction of a scalar of the main program, with its operand
pub record ScalarFold : Type 0 where
  pub scalar : ℕ
  pub op : Op
  pub value : ℤ

-- THE STATE OF AN EVALUATION: the program's state; the element of the iteration, or none in the main program; the element, or nil, of
-- each element name, and the local numbers, the latest declarations first; and the acts and reductions of scalars so far
pub record EvaluationState : Type 0 where
  pub state : State
  pub elem : Option Elem
  pub elements : List (List ℕ × Option Elem)
  pub locals : List (List ℕ × ℤ)
  pub acts : List Act
  pub folds : List ScalarFold

abbrev pub main_evaluation : State → EvaluationState
main_evaluation s = record { state = s; elem = None; elements = []; locals = []; acts = []; folds = [] }

abbrev pub element_bound_to : EvaluationState → List ℕ → Option (Option Elem)
element_bound_to m name = lookup (bytes_eq name) m.elements

abbrev pub local_bound_to : EvaluationState → List ℕ → Option ℤ
local_bound_to m name = lookup (bytes_eq name) m.locals

abbrev pub with_element : List ℕ → Option Elem → EvaluationState → EvaluationState
with_element name x m = record m { elements = (name, x) ∷ m.elements }

abbrev pub with_local : List ℕ → ℤ → EvaluationState → EvaluationState
with_local name value m = record m { locals = (name, value) ∷ m.locals }

abbrev pub with_local_value : List ℕ → ℤ → EvaluationState → EvaluationState
with_local_value name value m = record m { locals = update_first (bytes_eq name) value m.locals }

abbrev pub with_act : Act → EvaluationState → EvaluationState
with_act act m = record m { acts = m.acts ++ act ∷ [] }

abbrev pub with_fold : ScalarFold → EvaluationState → EvaluationState
with_fold folded m = record m { folds = m.folds ++ folded ∷ [] }

abbrev pub with_state : State → EvaluationState → EvaluationState
with_state s m = record m { state = s }

-- after a block: the names that were visible at entry, with their present values
abbrev pub after_block : EvaluationState → EvaluationState → EvaluationState
after_block before m =
    record m {
      elements = drop (length m.elements - length before.elements) m.elements;
      locals = drop (length m.locals - length before.locals) m.locals;
    }
