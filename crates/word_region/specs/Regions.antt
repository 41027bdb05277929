-- One region of words for the fields of all scopes of a program. This project's own.
use Rattle.std.specs.Prelude.{◌≡◌, ◌<◌, ◌≤◌, ℕ, zero, suc, ◌+◌, ◌-◌, ◌==◌, nat_lt, max, if◌then◌else◌, Option, Some, None, Result, Ok, Err}
use Rattle.std.specs.Prelude.{List, [], ◌∷◌, All, Contains, length, map, slice_get, slice_index_or, sum_by, take}
use Rattle.std.specs.List.{range_with_len}
use Rattle.liszt_base.specs.declared.answers.LimitFault.{LimitFault}
use Rattle.liszt_base.specs.declared.answers.LimitWhat.TheVariants.{Words}

-- the number of the first declared field
abbrev pub first_declared : ℕ
first_declared = 6

-- SCOPES, each by the number of its parent: scope 0 is its own parent, and each other scope has a parent of a lower number.
pub record AreScopes (scopes : List ℕ) : Type 0 where
  pub outermost : slice_get scopes 0 ≡ Some 0
  pub lower : (k parent : ℕ) → slice_get scopes (k + 1) ≡ Some parent → parent ≤ k

-- the scope that encloses a scope: its parent, and none for scope 0
abbrev pub enclosing : List ℕ → ℕ → Option ℕ
enclosing scopes zero = None
enclosing scopes (suc k) = slice_get scopes (suc k)

-- THE CHAIN of a scope: the scope itself, its parent, and so on up to scope 0. It has no more members than there are scopes.
abbrev pub chain_within : ℕ → List ℕ → Option ℕ → List ℕ
chain_within zero scopes scope = []
chain_within (suc steps) scopes None = []
chain_within (suc steps) scopes (Some scope) = scope ∷ chain_within steps scopes (enclosing scopes scope)

abbrev pub chain : List ℕ → Option ℕ → List ℕ
chain scopes scope = chain_within (length scopes) scopes scope

-- FIELDS, each by its scope and its size, which is the number of its entries
abbrev pub AreFields : List ℕ → List (ℕ × ℕ) → Type 0
AreFields scopes sizes = All (λ field. field.0 < length scopes) sizes

-- the scope and the size of a field, by its index among the declared fields, which is its number less that of the first one
abbrev pub index_of : ℕ → ℕ
index_of field = field - first_declared

abbrev pub scope_at : List (ℕ × ℕ) → ℕ → ℕ
scope_at sizes index = (slice_index_or sizes index (0, 0)).0

abbrev pub size_at : List (ℕ × ℕ) → ℕ → ℕ
size_at sizes index = (slice_index_or sizes index (0, 0)).1

-- THE WORDS of the fields of a scope; of a scope and its ancestors; of its ancestors alone; and the greatest number of words of a
-- scope and its ancestors
abbrev pub own_words : List (ℕ × ℕ) → ℕ → ℕ
own_words sizes scope = sum_by (λ field. if field.0 == scope then field.1 else 0) sizes

abbrev pub words_upto : List ℕ → List (ℕ × ℕ) → ℕ → ℕ
words_upto scopes sizes scope = sum_by (own_words sizes) (chain scopes (Some scope))

abbrev pub words_above : List ℕ → List (ℕ × ℕ) → ℕ → ℕ
words_above scopes sizes scope = sum_by (own_words sizes) (chain scopes (enclosing scopes scope))

abbrev pub greatest_of : List ℕ → ℕ
greatest_of [] = 0
greatest_of (n ∷ ns) = max n (greatest_of ns)

abbrev pub peak_of : List ℕ → List (ℕ × ℕ) → ℕ
peak_of scopes sizes = greatest_of (map (words_upto scopes sizes) (range_with_len 0 (length scopes)))

-- THE FIRST WORD of a field: word 0 belongs to no field, and a field is after those of its scope's ancestors and the earlier ones
-- of its scope.
abbrev pub first_word_of : List ℕ → List (ℕ × ℕ) → ℕ → ℕ
first_word_of scopes sizes field =
    let scope : ℕ = scope_at sizes (index_of field) in
    1 + words_above scopes sizes scope + own_words (take (index_of field) sizes) scope

-- A REGION: the scopes, the fields, and the innermost open scope. The open scopes are its chain.
pub record RegionState : Type 0 where
  pub scopes : List ℕ
  pub sizes : List (ℕ × ℕ)
  pub innermost : Option ℕ

abbrev pub open_scopes : RegionState → List ℕ
open_scopes region = chain region.scopes region.innermost

-- the region that is planned, with no scope open; or the fault, where a scope and its ancestors have more words than allowed
abbrev pub planned : List ℕ → List (ℕ × ℕ) → ℕ → Result RegionState LimitFault
planned scopes sizes limit =
    let found : ℕ = peak_of scopes sizes in
    if nat_lt limit found then Err (record { what = Words; allowed = limit; found = found })
    else Ok (record { scopes = scopes; sizes = sizes; innermost = None })

-- what holds of each region
pub record IsRegion (region : RegionState) : Type 0 where
  pub scopes : AreScopes region.scopes
  pub fields : AreFields region.scopes region.sizes
  pub innermost : (scope : ℕ) → region.innermost ≡ Some scope → scope < length region.scopes

-- OPENING AND CLOSING: a scope may be opened where its parent is the innermost open scope, and scope 0 where none is open.
pub record MayOpen (region : RegionState) (scope : ℕ) : Type 0 where
  pub exists : scope < length region.scopes
  pub inside : region.innermost ≡ enclosing region.scopes scope

abbrev pub opened : RegionState → ℕ → RegionState
opened region scope = record region { innermost = Some scope }

abbrev pub closed : RegionState → ℕ → RegionState
closed region scope = record region { innermost = enclosing region.scopes scope }

-- A LIVE FIELD is a declared one whose scope is open.
pub record IsLive (region : RegionState) (field : ℕ) : Type 0 where
  pub declared : first_declared ≤ field
  pub exists : index_of field < length region.sizes
  pub is_open : Contains (open_scopes region) (scope_at region.sizes (index_of field))

-- the words of a field end where those of another one begin
abbrev pub EndsBefore : RegionState → ℕ → ℕ → Type 0
EndsBefore region field other =
    first_word_of region.scopes region.sizes field + size_at region.sizes (index_of field)
    ≤ first_word_of region.scopes region.sizes other
