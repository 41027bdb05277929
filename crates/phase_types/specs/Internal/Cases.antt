-- Programs of the worked cases, with the places in their texts at which a fault can be. This project's own.
use Rattle.std.specs.Prelude.{ℕ, true, false, Option, Some, None, List, [], ◌∷◌, codes}
use Rattle.liszt_base.specs.declared.answers.Place.{Place}
use Rattle.liszt_base.specs.declared.answers.ProgramFault.{ProgramFault}
use Rattle.liszt_base.specs.declared.answers.ProgramWhat.{ProgramWhat}
use Rattle.liszt_base.specs.declared.answers.ProgramWhat.TheVariants.{PhaseConflict}
use Rattle.liszt_base.specs.declared.elements.Kind.{Kind}
use Rattle.liszt_base.specs.declared.elements.Kind.TheVariants.{Vertex, Edge, Face, Cell}
use Rattle.liszt_base.specs.declared.elements.Op.TheVariants.{Add, Mul}
use Rattle.liszt_base.specs.declared.elements.SetName.TheVariants.{Vertices, Edges}
use Rattle.liszt_tree.specs.declared.tree.Fun.TheVariants.{Head, Flip}
use Rattle.liszt_tree.specs.declared.tree.How.{How}
use Rattle.liszt_tree.specs.declared.tree.How.TheVariants.{Set, Fold, Less}
use Rattle.liszt_tree.specs.declared.tree.Level.TheVariants as level
use Rattle.liszt_tree.specs.declared.tree.Rel.TheVariants.{Same as Equal, Below}
use Rattle.liszt_tree.specs.declared.tree.Sign.TheVariants as sign
use Rattle.liszt_tree.specs.Tree.{nowhere, Expression, Name, Field, Call, Chain, Compare, no_links, link}
use Rattle.liszt_tree.specs.Tree.{Statement, Var, Val, Assign, If, While, For, Body, body_of, no_statement, statement}
use Rattle.liszt_tree.specs.Tree.{MainItem, MainField, MainVar, MainIf, MainWhile, MainFor, Print, Main, no_item, item}
use Rattle.liszt_tree.specs.Trees.{name, number}

abbrev pub at : ℕ → ℕ → Place
at line col = record { line = line; col = col }

abbrev pub fault : ProgramWhat → ℕ → ℕ → Option ProgramFault
fault what line col = Some (record { what = what; place = at line col; first = None })

abbrev pub conflict_between : Place → Place → Option ProgramFault
conflict_between place first = Some (record { what = PhaseConflict; place = place; first = Some first })

abbrev pub name_at : ℕ → ℕ → List ℕ → Expression
name_at line col text = Name (at line col) text

abbrev pub is_zero : Expression
is_zero = Compare nowhere Equal (number 0) (number 0)

abbrev pub single_statement : Statement → Body
single_statement s = statement s no_statement

abbrev pub single_item : MainItem → Main
single_item i = item i no_item

-- `field A : Cell = 0;` and on the next line `for (c <- cells(mesh)) {`, a body, and `}`
abbrev pub over_cells : Body → Main
over_cells body = item (MainField (at 1 1) (codes "A") (at 1 7) Cell (number 0)) (single_item (MainFor (at 2 1) (codes "c") (at 2 6) Cell body))

-- `A(c) += 1` at a column of that line
abbrev pub adds_to_cell : ℕ → Expression → Statement
adds_to_cell col value = Assign (at 2 col) (codes "A") (Some (name (codes "c"))) (Fold Add) value

abbrev pub cell_value : ℕ → Expression
cell_value col = Field (at 2 col) (codes "A") (name (codes "c"))

-- `A(c) += A(c)`; `A(c) += 1; A(c) *= 2`; `A(c) += 1; A(c) = x`; `A(c) -= 1; A(c) += 1`
abbrev pub adds_itself : Main
adds_itself = over_cells (single_statement (adds_to_cell 26 (cell_value 34)))

abbrev pub adds_and_multiplies : Main
adds_and_multiplies =
    over_cells (statement (adds_to_cell 26 (number 1)) (single_statement (Assign (at 2 37) (codes "A") (Some (name (codes "c"))) (Fold Mul) (number 2))))

abbrev pub adds_and_writes : Main
adds_and_writes =
    over_cells (statement (adds_to_cell 26 (number 1)) (single_statement (Assign (at 2 37) (codes "A") (Some (name (codes "c"))) Set (name_at 2 44 (codes "x")))))

abbrev pub adds_and_takes : Main
adds_and_takes =
    over_cells (statement (adds_to_cell 26 (number 1)) (single_statement (Assign (at 2 37) (codes "A") (Some (name (codes "c"))) Less (number 1))))

-- `print x`; `var a = 1; var a = 2`; `var a = 1 == 1`
abbrev pub unknown_name : Main
unknown_name = single_item (Print (at 1 1) (name_at 1 7 (codes "x")))

abbrev pub name_twice : Main
name_twice = item (MainVar (at 1 1) (codes "a") (at 1 5) (number 1)) (single_item (MainVar (at 1 12) (codes "a") (at 1 16) (number 2)))

abbrev pub truth_as_number : Main
truth_as_number = single_item (MainVar (at 1 1) (codes "a") (at 1 5) (Compare (at 1 11) Equal (number 1) (number 1)))

-- `print 1 + 2 + (0 == 0)`, and `print (0 == 0) + 1 + 2`
abbrev pub third_operand : Main
third_operand =
    single_item (Print (at 1 1) (Chain level.Sum (number 1) (link sign.Plus (at 1 9) (number 2) (link sign.Plus (at 1 13) is_zero no_links))))

abbrev pub first_operand : Main
first_operand =
    single_item (Print (at 1 1) (Chain level.Sum is_zero (link sign.Plus (at 1 16) (number 1) (link sign.Plus (at 1 20) (number 2) no_links))))

-- `var s = 0;` and then `for (c <- cells(mesh)) { s = 1 }`, or `{ s += s }`
abbrev pub scalar_in_body : Statement → Main
scalar_in_body s = item (MainVar (at 1 1) (codes "s") (at 1 5) (number 0)) (single_item (MainFor (at 2 1) (codes "c") (at 2 6) Cell (single_statement s)))

abbrev pub writes_scalar : Main
writes_scalar = scalar_in_body (Assign (at 2 26) (codes "s") None Set (number 1))

abbrev pub adds_scalar_to_itself : Main
adds_scalar_to_itself = scalar_in_body (Assign (at 2 26) (codes "s") None (Fold Add) (name_at 2 31 (codes "s")))

-- `for (v <- vertices(mesh)) { Mark(v) = 1 }`
abbrev pub writes_mark : Main
writes_mark = single_item (MainFor (at 1 1) (codes "v") (at 1 6) Vertex (single_statement (Assign (at 1 29) (codes "Mark") (Some (name_at 1 34 (codes "v"))) Set (number 1))))

-- `for (e <- edges(mesh)) { for (x <- edges(e)) { } }`, and with `vertices(head(x))` in place of `edges(e)`
abbrev pub edges_of_edge : Main
edges_of_edge =
    single_item (MainFor (at 1 1) (codes "e") (at 1 6) Edge (single_statement (For (at 1 26) (codes "x") (at 1 31) Edges (at 1 36) (name_at 1 42 (codes "e")) no_statement)))

abbrev pub unknown_in_set : Main
unknown_in_set =
    single_item (MainFor (at 1 1) (codes "e") (at 1 6) Edge
    (single_statement (For (at 1 26) (codes "x") (at 1 31) Vertices (at 1 36) (Call (at 1 45) Head (name_at 1 50 (codes "x"))) no_statement)))

-- `field F : Vertex = 0;` and on the next line `for (e <- edges(mesh)) { F(e) = y }`
abbrev pub edge_for_vertex : Main
edge_for_vertex =
    item (MainField (at 1 1) (codes "F") (at 1 7) Vertex (number 0))
    (single_item (MainFor (at 2 1) (codes "e") (at 2 6) Edge
    (single_statement (Assign (at 2 26) (codes "F") (Some (name_at 2 28 (codes "e"))) Set (name_at 2 33 (codes "y"))))))

-- Names end with their block: `var i = 0; if (0 == 0) { field B : Edge = 1; var x = 1 } else { field B : Face = 2 }
-- while (i < 2) { var x = 2; for (v <- vertices(mesh)) { while (0 == 0) { var y = 1 } val y = v } } field C : Cell = 3`
abbrev pub blocks : Main
blocks =
    item (MainVar nowhere (codes "i") nowhere (number 0))
    (item (MainIf nowhere is_zero
    (item (MainField nowhere (codes "B") nowhere Edge (number 1)) (single_item (MainVar nowhere (codes "x") nowhere (number 1))))
    (single_item (MainField nowhere (codes "B") nowhere Face (number 2))) true)
    (item (MainWhile nowhere (Compare nowhere Below (name (codes "i")) (number 2))
    (item (MainVar nowhere (codes "x") nowhere (number 2)) (single_item (MainFor nowhere (codes "v") nowhere Vertex
    (statement (While nowhere is_zero (single_statement (Var nowhere (codes "y") nowhere (number 1))))
    (single_statement (Val nowhere (codes "y") nowhere (name (codes "v")))))))))
    (single_item (MainField nowhere (codes "C") nowhere Cell (number 3)))))

-- SHORT PROGRAMS on one line, whose places are columns
abbrev pub column : ℕ → Place
column col = at 1 col

abbrev pub cell_field : List ℕ → MainItem
cell_field text = MainField nowhere text nowhere Cell (number 0)

abbrev pub over_elements : Kind → List Statement → Main
over_elements kind statements = single_item (MainFor nowhere (codes "x") nowhere kind (body_of statements))

abbrev pub x : Expression
x = name (codes "x")

abbrev pub unknown_at : ℕ → Expression
unknown_at col = Name (column col) (codes "u")

abbrev pub reads_field : ℕ → List ℕ → Statement
reads_field col new = Var nowhere new nowhere (Field (column col) (codes "A") x)

abbrev pub assigns : ℕ → List ℕ → How → Expression → Statement
assigns col text how value = Assign (column col) text None how value

abbrev pub assigns_at : ℕ → List ℕ → Expression → How → Expression → Statement
assigns_at col text target how value = Assign (column col) text (Some target) how value

-- `var p = A(x); var q = A(x); A(x) = 1`: the first access is the first read
abbrev pub reads_then_writes : Main
reads_then_writes =
    item (cell_field (codes "A"))
    (over_elements Cell (reads_field 1 (codes "p") ∷ reads_field 2 (codes "q") ∷ assigns_at 3 (codes "A") x Set (number 1) ∷ []))

-- `var p = A(x)`
abbrev pub reads_only : Main
reads_only = item (cell_field (codes "A")) (over_elements Cell (reads_field 1 (codes "p") ∷ []))

-- `m += 1; A(m) = 1`, and `m -= 1; m += 1; for (y <- edges(m)) { }`: a target and a set's argument are walked, with their accesses
abbrev pub scalar_as_target : Main
scalar_as_target =
    item (MainVar nowhere (codes "m") nowhere (number 0)) (item (cell_field (codes "A"))
    (over_elements Cell (assigns 3 (codes "m") (Fold Add) (number 1) ∷ assigns_at 4 (codes "A") (Name (column 5) (codes "m")) Set (number 1) ∷ [])))

abbrev pub scalar_as_argument : Main
scalar_as_argument =
    item (MainVar nowhere (codes "m") nowhere (number 0))
    (over_elements Cell
    (assigns 3 (codes "m") Less (number 1) ∷ assigns 4 (codes "m") (Fold Add) (number 1)
    ∷ For nowhere (codes "y") nowhere Edges (column 8) (Name (column 5) (codes "m")) no_statement ∷ []))

-- `for (x <- edges(x)) { u = 1 }`, within a comprehension whose elements are x: the name before the body
abbrev pub visits_again : Main
visits_again = over_elements Cell (For nowhere (codes "x") (column 7) Edges (column 8) x (single_statement (assigns 9 (codes "u") Set (number 1))) ∷ [])

-- `for (PosX <- cells(mesh)) { u = 1 }`
abbrev pub built_in_as_name : Main
built_in_as_name = single_item (MainFor nowhere (codes "PosX") (column 7) Cell (single_statement (assigns 9 (codes "u") Set (number 1))))

-- `if (0 == 0) { var p = 1 } else { p = 1 }`
abbrev pub name_of_other_block : Main
name_of_other_block =
    over_elements Cell (If nowhere is_zero (single_statement (Var nowhere (codes "p") nowhere (number 1))) (single_statement (assigns 2 (codes "p") Set (number 1))) true ∷ [])

-- `m = u` in a body
abbrev pub writes_scalar_unknown : Main
writes_scalar_unknown =
    item (MainVar nowhere (codes "m") nowhere (number 0)) (over_elements Cell (assigns 3 (codes "m") Set (unknown_at 4) ∷ []))

-- `var PosX = b && b && b`: a chain is at its first operator, and its type is tested before the name
abbrev pub truth_for_built_in : Main
truth_for_built_in =
    single_item (MainVar nowhere (codes "PosX") (column 2) (Chain level.And is_zero (link sign.And (column 7) is_zero (link sign.And (column 8) is_zero no_links))))

-- `if (x == head(x)) { }` and `val y = flip(head(x))`, over edges
abbrev pub edge_and_vertex : Main
edge_and_vertex =
    over_elements Edge (If nowhere (Compare (column 2) Equal x (Call nowhere Head x)) no_statement no_statement false ∷ [])

abbrev pub flipped_vertex : Main
flipped_vertex = over_elements Edge (Val nowhere (codes "y") nowhere (Call (column 3) Flip (Call (column 4) Head x)) ∷ [])
