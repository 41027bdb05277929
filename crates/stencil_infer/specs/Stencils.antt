-- The stencil of an iteration: which spots it may access, whatever numbers it reads. Inferred stencils are the Liszt paper's (DeVito et
-- al., Supercomputing 2011); what they contain is this project's own.
use Rattle.std.specs.Prelude.{◌≡◌, ◌<◌, ◌⊎◌, ℕ, ◌+◌, ◌==◌, ◌&&◌, ◌||◌, nat_lt, Bool, if◌then◌else◌, Option, Some, None, List, [], ◌∷◌, ◌++◌, length, slice_get, map, Result, Ok, Err}
use Rattle.std.specs.List.{AllPairs, Contains, flat_map, sum_by}
use Rattle.liszt_base.specs.Limits.{visit_limit, entry_limit, kept_limit}
use Rattle.liszt_base.specs.MeshLists.{MeshLists}
use Rattle.liszt_base.specs.declared.accesses.Access.{Access}
use Rattle.liszt_base.specs.declared.accesses.Mode.{Mode}
use Rattle.liszt_base.specs.declared.accesses.Mode.TheVariants.{Read}
use Rattle.liszt_base.specs.declared.accesses.Spot.{Spot}
use Rattle.liszt_base.specs.declared.answers.LimitFault.{LimitFault}
use Rattle.liszt_base.specs.declared.answers.LimitWhat.{LimitWhat}
use Rattle.liszt_base.specs.declared.answers.LimitWhat.TheVariants.{Visits, Entries, Kept}
use Rattle.liszt_base.specs.declared.elements.Elem.{Elem}
use Rattle.liszt_tree.specs.Tree.{Expression, Field, Call, Towards, Neg, Not, Chain, Compare, Links, no_links, link}
use Rattle.liszt_tree.specs.Tree.{Statement, Var, Val, Assign, If, While, For, Body, no_statement, statement, Main}
use Rattle.mesh_topology.specs.Elements.{count, numbers}
use Rattle.topo_operators.specs.Operators.{members, unflipped}
use Rattle.phase_types.specs.Environments.{Environment, Binding, FieldName, binding_of, Comprehension, comprehensions_of}
use Rattle.phase_types.specs.Walk.{mode_by}
use Rattle.kernel_eval.specs.Expressions.{ElementBindings, element_value, elements_after}
use Rattle.kernel_eval.specs.Meaning.{spot_of}
use Rattle.kernel_eval.specs.Preservation.{is_spot}
use Rattle.kernel_eval.specs.States.{Act}

-- the access to a field at an element; at nil there is none
abbrev pub access_at : Mode → Option Binding → Option (Option Elem) → List Access
access_at mode (Some (FieldName number kind)) (Some (Some x)) = record { spot = spot_of number x; mode = mode } ∷ []
access_at mode _ _ = []

-- THE ACCESSES OF AN EXPRESSION under element names bound to elements or nil: a read for each field read, in all subexpressions, both
-- operands of `&&` and `||` among them
abbrev mutual
  pub accesses_of : MeshLists → Environment → ElementBindings → Expression → List Access
  accesses_of mesh environment elements (Field place name arg) =
      accesses_of mesh environment elements arg ++ access_at Read (binding_of environment name) (element_value mesh elements arg)
  accesses_of mesh environment elements (Call place fun arg) = accesses_of mesh environment elements arg
  accesses_of mesh environment elements (Towards place arg to) = accesses_of mesh environment elements arg ++ accesses_of mesh environment elements to
  accesses_of mesh environment elements (Neg place arg) = accesses_of mesh environment elements arg
  accesses_of mesh environment elements (Not place arg) = accesses_of mesh environment elements arg
  accesses_of mesh environment elements (Chain level first links) = accesses_of mesh environment elements first ++ link_accesses mesh environment elements links
  accesses_of mesh environment elements (Compare place rel left right) =
      accesses_of mesh environment elements left ++ accesses_of mesh environment elements right
  accesses_of mesh environment elements _ = []

  pub link_accesses : MeshLists → Environment → ElementBindings → Links → List Access
  link_accesses mesh environment elements no_links = []
  link_accesses mesh environment elements (link sign place arg rest) =
      accesses_of mesh environment elements arg ++ link_accesses mesh environment elements rest

-- the members of a set of an element; of nil there are none
abbrev pub members_at : (Elem → List Elem) → Option (Option Elem) → List Elem
members_at set (Some (Some x)) = set x
members_at set _ = []

-- THE ACCESSES OF A BODY: of both blocks of an `if`; of the body of a `while` once; of the body of a `for` once for each member. An
-- assignment to a field writes or reduces it at its target. Scalars and local numbers are no accesses.
abbrev mutual
  pub statement_accesses : MeshLists → Environment → ElementBindings → Statement → List Access
  statement_accesses mesh environment elements (Var place name at init) = accesses_of mesh environment elements init
  statement_accesses mesh environment elements (Val place name at init) = accesses_of mesh environment elements init
  statement_accesses mesh environment elements (Assign place name (Some target) how value) =
      accesses_of mesh environment elements value ++ accesses_of mesh environment elements target
      ++ access_at (mode_by how) (binding_of environment name) (element_value mesh elements target)
  statement_accesses mesh environment elements (Assign place name None how value) = accesses_of mesh environment elements value
  statement_accesses mesh environment elements (If place test first second has_else) =
      accesses_of mesh environment elements test ++ body_accesses mesh environment elements first ++ body_accesses mesh environment elements second
  statement_accesses mesh environment elements (While place test body) =
      accesses_of mesh environment elements test ++ body_accesses mesh environment elements body
  statement_accesses mesh environment elements (For place name at set set_at arg body) =
      accesses_of mesh environment elements arg
      ++ flat_map (λ member. body_accesses mesh environment ((name, Some member) ∷ elements) body) (members_at (members mesh set) (element_value mesh elements arg))

  pub body_accesses : MeshLists → Environment → ElementBindings → Body → List Access
  body_accesses mesh environment elements no_statement = []
  body_accesses mesh environment elements (statement s rest) =
      statement_accesses mesh environment elements s ++ body_accesses mesh environment (elements_after mesh elements s) rest

-- THE ACCESSES OF AN ITERATION, in the order of the text
abbrev pub bindings_at_start : Comprehension → ℕ → ElementBindings
bindings_at_start c id = (c.name, Some (unflipped c.over id)) ∷ []

abbrev pub iteration_accesses : MeshLists → Comprehension → ℕ → List Access
iteration_accesses mesh c id = body_accesses mesh c.environment (bindings_at_start c id) c.body

-- THE STENCIL of an iteration is the set of its accesses: each is listed once, ascending by field and then by id.
abbrev pub Precedes : Access → Access → Type 0
Precedes a b = (a.spot.field < b.spot.field) ⊎ ((a.spot.field ≡ b.spot.field) × (a.spot.id < b.spot.id))

pub record IsStencil (mesh : MeshLists) (c : Comprehension) (id : ℕ) (accesses : List Access) : Type 0 where
  pub ascending : AllPairs Precedes accesses
  pub has_all : (a : Access) → Contains (iteration_accesses mesh c id) a → Contains accesses a
  pub has_no_other : (a : Access) → Contains accesses a → Contains (iteration_accesses mesh c id) a

-- The stencil can be made of the accesses one by one: each is put in its order if its spot is not yet there.
abbrev pub precedes : Spot → Spot → Bool
precedes spot other = nat_lt spot.field other.field || ((spot.field == other.field) && nat_lt spot.id other.id)

abbrev pub with_access : Access → List Access → List Access
with_access a [] = a ∷ []
with_access a (b ∷ rest) = if precedes a.spot b.spot then a ∷ b ∷ rest else if is_spot a.spot b.spot then b ∷ rest else b ∷ with_access a rest

abbrev pub stencil_of : List Access → List Access
stencil_of [] = []
stencil_of (a ∷ rest) = with_access a (stencil_of rest)

-- an act at a spot and in a mode that a list of accesses contains
abbrev pub LiesIn : List Access → Act → Type 0
LiesIn accesses act = Contains accesses (record { spot = act.spot; mode = act.mode })

-- VISITS: one for each expression, each statement and each member of a set that the accesses are gathered from. The name of the target
-- of an assignment is no expression, and a chain without an operator, which no text has, is its operand.
abbrev mutual
  pub expression_visits : Expression → ℕ
  expression_visits (Field place name arg) = 1 + expression_visits arg
  expression_visits (Call place fun arg) = 1 + expression_visits arg
  expression_visits (Towards place arg to) = 1 + expression_visits arg + expression_visits to
  expression_visits (Neg place arg) = 1 + expression_visits arg
  expression_visits (Not place arg) = 1 + expression_visits arg
  expression_visits (Chain level first no_links) = expression_visits first
  expression_visits (Chain level first (link sign place arg rest)) = 1 + expression_visits first + expression_visits arg + link_visits rest
  expression_visits (Compare place rel left right) = 1 + expression_visits left + expression_visits right
  expression_visits _ = 1

  pub link_visits : Links → ℕ
  link_visits no_links = 0
  link_visits (link sign place arg rest) = expression_visits arg + link_visits rest

abbrev pub target_visits : Option Expression → ℕ
target_visits None = 0
target_visits (Some target) = expression_visits target

abbrev mutual
  pub statement_visits : MeshLists → ElementBindings → Statement → ℕ
  statement_visits mesh elements (Var place name at init) = 1 + expression_visits init
  statement_visits mesh elements (Val place name at init) = 1 + expression_visits init
  statement_visits mesh elements (Assign place name target how value) = 1 + expression_visits value + target_visits target
  statement_visits mesh elements (If place test first second has_else) =
      1 + expression_visits test + body_visits mesh elements first + body_visits mesh elements second
  statement_visits mesh elements (While place test body) = 1 + expression_visits test + body_visits mesh elements body
  statement_visits mesh elements (For place name at set set_at arg body) =
      1 + expression_visits arg
      + sum_by (λ member. 1 + body_visits mesh ((name, Some member) ∷ elements) body) (members_at (members mesh set) (element_value mesh elements arg))

  pub body_visits : MeshLists → ElementBindings → Body → ℕ
  body_visits mesh elements no_statement = 0
  body_visits mesh elements (statement s rest) = statement_visits mesh elements s + body_visits mesh (elements_after mesh elements s) rest

abbrev pub iteration_visits : MeshLists → Comprehension → ℕ → ℕ
iteration_visits mesh c id = body_visits mesh (bindings_at_start c id) c.body

-- the visits of all iterations
abbrev pub visits : MeshLists → Comprehension → ℕ
visits mesh c = sum_by (iteration_visits mesh c) (numbers 0 (count mesh c.over))

-- THE INFERENCE of a comprehension gives the stencil of each iteration, by ascending id, and the visits; or the first limit that is
-- passed, that of the visits or that of the accesses in all stencils.
abbrev pub stencils : MeshLists → Comprehension → List (List Access)
stencils mesh c = map (λ id. stencil_of (iteration_accesses mesh c id)) (numbers 0 (count mesh c.over))

abbrev pub entries : List (List Access) → ℕ
entries lists = sum_by (λ list. length list) lists

pub record StencilLists : Type 0 where
  pub lists : List (List Access)
  pub visits : ℕ

abbrev pub past_limit : LimitWhat → ℕ → LimitFault
past_limit what limit = record { what = what; allowed = limit; found = limit + 1 }

abbrev pub inference : MeshLists → Comprehension → ℕ → Result StencilLists LimitFault
inference mesh c k =
    if nat_lt visit_limit (visits mesh c) then Err (past_limit (Visits k) visit_limit)
    else if nat_lt entry_limit (entries (stencils mesh c)) then Err (past_limit (Entries k) entry_limit)
    else Ok (record { lists = stencils mesh c; visits = visits mesh c })

-- THE STENCILS of a comprehension, one for each iteration
pub record AreStencils (mesh : MeshLists) (c : Comprehension) (lists : List (List Access)) : Type 0 where
  pub one_each : length lists ≡ count mesh c.over
  pub each : (id : ℕ) (stencil : List Access) → slice_get lists id ≡ Some stencil → IsStencil mesh c id stencil

-- the second step, if the first passes no limit
infixl 10 ◌>>=◌
abbrev pub ◌>>=◌ : {A B : Type 0} → Result A LimitFault → (A → Result B LimitFault) → Result B LimitFault
Ok value >>= next = next value
Err fault >>= next = Err fault

-- the number of accesses that are kept, with those of comprehension `k`
abbrev pub kept_after : ℕ → ℕ → StencilLists → Result ℕ LimitFault
kept_after k kept s = if nat_lt kept_limit (kept + entries s.lists) then Err (past_limit (Kept k) kept_limit) else Ok (kept + entries s.lists)

-- the stencils of the comprehensions from the `k`th on, if those of the earlier ones keep `kept` accesses
abbrev pub inferences_from : MeshLists → ℕ → ℕ → List Comprehension → Result (List StencilLists) LimitFault
inferences_from mesh k kept [] = Ok []
inferences_from mesh k kept (c ∷ rest) = do
  s ← inference mesh c k
  kept_now ← kept_after k kept s
  later ← inferences_from mesh (k + 1) kept_now rest
  Ok (s ∷ later)

-- THE INFERENCE OF A PROGRAM gives the stencils of its comprehensions, in the order of the text; or the first limit that is passed: one of
-- a comprehension, and after these that of the accesses that are kept in all stencils up to it.
abbrev pub program_inference : MeshLists → Main → Result (List StencilLists) LimitFault
program_inference mesh program = inferences_from mesh 0 0 (comprehensions_of program)
