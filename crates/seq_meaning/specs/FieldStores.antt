-- The words of all declared fields of a sequential run. This project's own.
use Rattle.std.specs.Prelude.{◌≡◌, ◌≤◌, ◌<◌, ℕ, zero, suc, ◌+◌, ◌-◌, ◌==◌, nat_lt, Bool, false, if◌then◌else◌, Option, Some, None, is_some, unwrap_or}
use Rattle.std.specs.Prelude.{List, [], ◌∷◌, length, replicate, slice_get, slice_set, sum_by, ℤ, pos, Result, Ok, Err}
use Rattle.std.specs.Option.{option_and_then, option_map}
use Rattle.liszt_base.specs.Limits.{word_limit}
use Rattle.liszt_base.specs.MeshLists.{MeshLists}
use Rattle.liszt_base.specs.declared.accesses.Spot.{Spot}
use Rattle.liszt_base.specs.declared.answers.LimitFault.{LimitFault}
use Rattle.liszt_base.specs.declared.answers.LimitWhat.TheVariants.{Words}
use Rattle.mesh_topology.specs.Elements.{count}
use Rattle.phase_types.specs.declared.info.FieldInfo.{FieldInfo}
use Rattle.phase_types.specs.Environments.{first_declared, is_built_in}
use Rattle.code_eval.specs.Acts.{is_spot}
use Rattle.code_eval.specs.Stores.{StoreView}
use Rattle.kernel_eval.specs.States.{Fields, value_in}
use Rattle.seq_meaning.specs.declared.field_store.FieldRange.{FieldRange}

-- THE WORDS of declared fields: one for each element of each field
abbrev pub field_words : MeshLists → FieldInfo → ℕ
field_words mesh info = count mesh info.kind

abbrev pub words_of : MeshLists → List FieldInfo → ℕ
words_of mesh fields = sum_by (field_words mesh) fields

-- THE RANGES of the fields' words, each after that of the previous field
abbrev pub ranges_from : MeshLists → ℕ → List FieldInfo → List FieldRange
ranges_from mesh first [] = []
ranges_from mesh first (info ∷ rest) =
    record { first = first; count = field_words mesh info } ∷ ranges_from mesh (first + field_words mesh info) rest

-- A STORE of words: the range of each declared field, by its index among the declared fields, and the words
pub record StoreWords : Type 0 where
  pub ranges : List FieldRange
  pub words : List ℤ

-- the store that is prepared, all of whose words are zero; or the fault, where there are more words than allowed
abbrev pub prepared_store : List FieldInfo → MeshLists → Result StoreWords LimitFault
prepared_store fields mesh =
    let found : ℕ = words_of mesh fields in
    if nat_lt word_limit found then Err (record { what = Words; allowed = word_limit; found = found })
    else Ok (record { ranges = ranges_from mesh 0 fields; words = replicate found (pos 0) })

-- A STORE OF DECLARED FIELDS on a mesh: they have their ranges in order, and there are no other words
pub record IsStoreOf (fields : List FieldInfo) (mesh : MeshLists) (store : StoreWords) : Type 0 where
  pub ranges : store.ranges ≡ ranges_from mesh 0 fields
  pub words : length store.words ≡ words_of mesh fields

-- The ranges of each store are within its words, and those of different fields do not overlap.
pub record IsLaidOut (ranges : List FieldRange) (words : ℕ) : Type 0 where
  pub within : (index : ℕ) (range : FieldRange) → slice_get ranges index ≡ Some range → range.first + range.count ≤ words
  pub apart : (index later : ℕ) (range other : FieldRange) → index < later → slice_get ranges index ≡ Some range
      → slice_get ranges later ≡ Some other → range.first + range.count ≤ other.first

-- THE WORD of a spot: the range of its field, if the field is declared, and the index of the spot's word, if the field has the element
abbrev pub range_of : List FieldRange → ℕ → Option FieldRange
range_of ranges field = if is_built_in field then None else slice_get ranges (field - first_declared)

abbrev pub index_in : FieldRange → ℕ → Option ℕ
index_in range id = if nat_lt id range.count then Some (range.first + id) else None

abbrev pub word_index : List FieldRange → Spot → Option ℕ
word_index ranges spot = option_and_then (λ range. index_in range spot.id) (range_of ranges spot.field)

-- THE VALUE of a spot, if its field is declared and has the element
abbrev pub stored_value : StoreWords → Spot → Option ℤ
stored_value store spot = option_and_then (slice_get store.words) (word_index store.ranges spot)

-- THE SPOTS of declared fields on a mesh, which are those that a store of the fields has a value at
abbrev pub info_of : List FieldInfo → ℕ → Option FieldInfo
info_of fields field = if is_built_in field then None else slice_get fields (field - first_declared)

abbrev pub has_element : MeshLists → ℕ → Option FieldInfo → Bool
has_element mesh id None = false
has_element mesh id (Some info) = nat_lt id (field_words mesh info)

abbrev pub has_spot : List FieldInfo → MeshLists → Spot → Bool
has_spot fields mesh spot = has_element mesh spot.id (info_of fields spot.field)

pub record HasSpotsOf (fields : List FieldInfo) (mesh : MeshLists) (store : StoreWords) : Type 0 where
  pub spots : (spot : Spot) → is_some (stored_value store spot) ≡ has_spot fields mesh spot

-- no step changes the ranges or the number of words
pub record HasSameRanges (before after : StoreWords) : Type 0 where
  pub ranges : after.ranges ≡ before.ranges
  pub words : length after.words ≡ length before.words

-- the words with another value in `count` words from `first` on
abbrev pub filled : ℕ → ℕ → ℤ → List ℤ → List ℤ
filled first zero value words = words
filled first (suc count) value words = slice_set (filled first count value words) (first + count) value

-- THE VALUE OF A SPOT after a field is declared with a value, and after a value is stored at a spot
abbrev pub declared_value : ℕ → ℤ → Spot → Option ℤ → Option ℤ
declared_value field value spot old = if spot.field == field then option_map (λ _. value) old else old

abbrev pub value_after_store : Spot → ℤ → Spot → Option ℤ → Option ℤ
value_after_store spot value other old = if is_spot spot other then Some value else old

-- A STORE HOLDS THE FIELDS of a state, if it has each of their values.
pub record HoldsFields (fields : Fields) (store : StoreWords) : Type 0 where
  pub values : (spot : Spot) (value : ℤ) → value_in fields spot ≡ Some value → stored_value store spot ≡ Some value

-- THE VIEW of a store: the spots that have a value may be loaded and stored; no spot has a flag, and there is no log.
abbrev pub view_of : StoreWords → StoreView
view_of store =
    record {
      loadable = λ spot. is_some (stored_value store spot);
      storable = λ spot. is_some (stored_value store spot);
      values = λ spot. unwrap_or (stored_value store spot) (pos 0);
      flags = λ _. None;
      log = None;
    }
