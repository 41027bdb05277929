-- Comprehensions of the worked cases. This project's own.
use Rattle.std.specs.Prelude.{ℕ, true, false, Some, List, [], ◌∷◌, codes, unwrap_or}
use Rattle.liszt_base.specs.MeshLists.{MeshLists}
use Rattle.liszt_base.specs.declared.accesses.Access.{Access}
use Rattle.liszt_base.specs.declared.accesses.Mode.{Mode}
use Rattle.liszt_base.specs.declared.elements.Kind.{Kind}
use Rattle.liszt_base.specs.declared.elements.Kind.TheVariants.{Vertex, Edge, Cell}
use Rattle.liszt_base.specs.declared.elements.Op.TheVariants.{Add}
use Rattle.liszt_base.specs.declared.elements.SetName.{SetName}
use Rattle.liszt_base.specs.declared.elements.SetName.TheVariants.{Vertices, Edges, EdgesCcw}
use Rattle.liszt_tree.specs.declared.tree.Fun.TheVariants.{Head, Inside, Outside, Id}
use Rattle.liszt_tree.specs.declared.tree.How.{How}
use Rattle.liszt_tree.specs.declared.tree.How.TheVariants.{Set, Fold}
use Rattle.liszt_tree.specs.declared.tree.Level.TheVariants as level
use Rattle.liszt_tree.specs.declared.tree.Rel.TheVariants.{Same as Equal}
use Rattle.liszt_tree.specs.declared.tree.Sign.TheVariants as sign
use Rattle.liszt_tree.specs.Tree.{nowhere, Expression, Field, Call, Chain, Compare, no_links, link, Statement, Val, Assign, If, While, For, body_of, no_statement}
use Rattle.liszt_tree.specs.Trees.{degrees, name, number}
use Rattle.phase_types.specs.Environments.{FieldName, Environment, built_in_fields, Comprehension, comprehension_of}
use Rattle.stencil_infer.specs.Stencils.{iteration_accesses, iteration_visits}

abbrev pub access : ℕ → ℕ → Mode → Access
access field id mode = record { spot = record { field = field; id = id }; mode = mode }

-- the degree program's comprehension over edges
abbrev pub degree : Comprehension
degree = unwrap_or (comprehension_of degrees 0) (record { environment = []; name = []; over = Cell; body = no_statement })

-- `A` and `B` are fields of vertices, `E` of edges, `C` of cells.
abbrev pub fields : Environment
fields = (codes "A", FieldName 6 Vertex) ∷ (codes "B", FieldName 7 Vertex) ∷ (codes "E", FieldName 8 Edge) ∷ (codes "C", FieldName 9 Cell) ∷ built_in_fields

-- a body over elements named `x`, its accesses and its visits at one of them
abbrev pub over : Kind → List Statement → Comprehension
over kind statements = record { environment = fields; name = codes "x"; over = kind; body = body_of statements }

abbrev pub accesses_at : MeshLists → Kind → List Statement → ℕ → List Access
accesses_at mesh kind statements id = iteration_accesses mesh (over kind statements) id

abbrev pub visits_at : MeshLists → Kind → List Statement → ℕ → ℕ
visits_at mesh kind statements id = iteration_visits mesh (over kind statements) id

-- shorter names for parts of trees
abbrev pub x : Expression
x = name (codes "x")

abbrev pub v : Expression
v = name (codes "v")

abbrev pub reads : List ℕ → Expression → Expression
reads field e = Field nowhere field e

abbrev pub is_zero : Expression → Expression
is_zero e = Compare nowhere Equal e (number 0)

abbrev pub sets : List ℕ → Expression → How → Expression → Statement
sets field target how value = Assign nowhere field (Some target) how value

abbrev pub for_each_of : List ℕ → SetName → Expression → List Statement → Statement
for_each_of text set e statements = For nowhere text nowhere set nowhere e (body_of statements)

abbrev pub if_zero : Expression → List Statement → List Statement → Statement
if_zero e this other = If nowhere (is_zero e) (body_of this) (body_of other) true

-- `if (1 == 0) { A(x) += 1 } else { B(x) = 2 }`
abbrev pub branches : List Statement
branches = if_zero (number 1) (sets (codes "A") x (Fold Add) (number 1) ∷ []) (sets (codes "B") x Set (number 2) ∷ []) ∷ []

-- `while (A(x) == 0) { B(x) += 1 }`
abbrev pub repeats : List Statement
repeats = While nowhere (is_zero (reads (codes "A") x)) (body_of (sets (codes "B") x (Fold Add) (number 1) ∷ [])) ∷ []

-- `if (1 == 0 && A(x) == 0) { }`
abbrev pub stops_early : List Statement
stops_early =
    If nowhere (Chain level.And (is_zero (number 1)) (link sign.And nowhere (is_zero (reads (codes "A") x)) no_links)) no_statement no_statement false ∷ []

-- `C(outside(x)) = C(inside(x)); for (v <- vertices(outside(x))) { A(v) += 1 }`
abbrev pub at_outside : List Statement
at_outside =
    sets (codes "C") (Call nowhere Outside x) Set (reads (codes "C") (Call nowhere Inside x))
    ∷ for_each_of (codes "v") Vertices (Call nowhere Outside x) (sets (codes "A") v (Fold Add) (number 1) ∷ []) ∷ []

-- `A(x) = PosX(x) + Mark(x)`
abbrev pub reads_built_ins : List Statement
reads_built_ins =
    sets (codes "A") x Set (Chain level.Sum (reads (codes "PosX") x) (link sign.Plus nowhere (reads (codes "Mark") x) no_links)) ∷ []

-- `for (v <- edges_ccw(x)) { E(v) += 1 }`
abbrev pub along_cycle : List Statement
along_cycle = for_each_of (codes "v") EdgesCcw x (sets (codes "E") v (Fold Add) (number 1) ∷ []) ∷ []

-- `for (v <- vertices(x)) { for (w <- edges(v)) { } A(v) += 1 } val v = head(x); B(v) = 1`
abbrev pub names_again : List Statement
names_again =
    for_each_of (codes "v") Vertices x (for_each_of (codes "w") Edges v [] ∷ sets (codes "A") v (Fold Add) (number 1) ∷ [])
    ∷ Val nowhere (codes "v") nowhere (Call nowhere Head x)
    ∷ sets (codes "B") v Set (number 1) ∷ []

-- `if (ID(x) == 0) { A(head(x)) = 1 }`
abbrev pub first_edge_sets : List Statement
first_edge_sets = if_zero (Call nowhere Id x) (sets (codes "A") (Call nowhere Head x) Set (number 1) ∷ []) [] ∷ []
