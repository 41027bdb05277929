-- Programs and meshes of the worked cases, with the places in their texts at which a trap can be. This project's own.
use Rattle.std.specs.Prelude.{ℕ, ◌-◌, ◌^◌, true, false, Option, Some, None, List, [], ◌∷◌, codes, replicate, slice_get, unwrap_or, ℤ, pos, neg_ℤ}
use Rattle.std.specs.Option.{option_map}
use Rattle.liszt_base.specs.MeshLists.{MeshLists}
use Rattle.liszt_base.specs.declared.accesses.Mode.{Mode}
use Rattle.liszt_base.specs.declared.answers.RunEnd.{RunEnd}
use Rattle.liszt_base.specs.declared.answers.RunEnd.TheVariants.{Trap as IsTrap}
use Rattle.liszt_base.specs.declared.answers.TrapKind.{TrapKind}
use Rattle.liszt_base.specs.declared.elements.Kind.{Kind}
use Rattle.liszt_base.specs.declared.elements.Kind.TheVariants.{Vertex, Edge, Face, Cell}
use Rattle.liszt_base.specs.declared.elements.Op.TheVariants.{Add, Min}
use Rattle.liszt_base.specs.declared.elements.SetName.TheVariants.{Vertices, Edges, EdgesCcw}
use Rattle.liszt_tree.specs.declared.tree.Fun.{Fun}
use Rattle.liszt_tree.specs.declared.tree.Fun.TheVariants.{Head, Tail, Inside, Outside, Flip, Valid, Id}
use Rattle.liszt_tree.specs.declared.tree.How.{How}
use Rattle.liszt_tree.specs.declared.tree.How.TheVariants.{Set, Fold, Less}
use Rattle.liszt_tree.specs.declared.tree.Level.TheVariants as level
use Rattle.liszt_tree.specs.declared.tree.Rel.TheVariants.{Same as Equal, Other, Below}
use Rattle.liszt_tree.specs.declared.tree.Sign.TheVariants as sign
use Rattle.liszt_tree.specs.Tree.{nowhere, Expression, Number, Field, Call, Towards, Not, Chain, Compare, no_links, link}
use Rattle.liszt_tree.specs.Tree.{Statement, Var, Val, Assign, If, While, For, Body, body_of, no_statement, statement}
use Rattle.liszt_tree.specs.Tree.{MainItem, MainField, MainVar, MainAssign, MainIf, MainWhile, MainFor, Print, Main, no_item, item}
use Rattle.liszt_tree.specs.Trees.{name, number}
use Rattle.phase_types.specs.Internal.Cases.{at, single_statement as one, single_item as only}
use Rattle.phase_types.specs.Environments.{Comprehension, comprehension_of}
use Rattle.kernel_eval.specs.States.{State, Act}
use Rattle.seq_meaning.specs.Runs.{Progress, empty, phases_of}

-- a trap of the main program; a trap of an element's iteration
abbrev pub traps_in_main : TrapKind → ℕ → ℕ → Option RunEnd
traps_in_main kind line col = Some (IsTrap (record { kind = kind; place = at line col; elem = None }))

abbrev pub traps_at_element : TrapKind → ℕ → ℕ → Kind → ℕ → Option RunEnd
traps_at_element kind line col of_kind id =
    Some (IsTrap (record { kind = kind; place = at line col; elem = Some (record { kind = of_kind; id = id; flipped = false }) }))

-- POINTS WITHOUT CELLS, and a mesh with real coordinates and marks
abbrev pub no_cells : MeshLists
no_cells = record { points = replicate 4 (record { x = pos 0; y = pos 0; z = pos 0; mark = pos 0 }); cells = []; base = 1 }

abbrev pub placed : MeshLists
placed =
    record {
      points = record { x = pos 10; y = neg_ℤ (pos 1); z = pos 500000; mark = pos 7 } ∷ record { x = pos 1000000; y = pos 0; z = pos 0; mark = neg_ℤ (pos 2) }
          ∷ record { x = pos 0; y = pos 1000000; z = pos 0; mark = pos 0 } ∷ record { x = pos 0; y = pos 0; z = pos 1000000; mark = pos 0 } ∷ [];
      cells = record { corners = 0 ∷ 1 ∷ 2 ∷ 3 ∷ []; region = pos 2500000 } ∷ [];
      base = 1;
    }

-- shorter names for parts of trees
abbrev pub declares : List ℕ → Kind → ℤ → MainItem
declares text kind n = MainField nowhere text nowhere kind (Number nowhere n)

abbrev pub over : List ℕ → Kind → Body → MainItem
over text kind body = MainFor nowhere text nowhere kind body

abbrev pub sets : List ℕ → Expression → How → Expression → Statement
sets field target how value = Assign nowhere field (Some target) how value

abbrev pub call : Fun → Expression → Expression
call fun arg = Call nowhere fun arg

abbrev pub sum : Expression → Expression → Expression
sum a b = Chain level.Sum a (link sign.Plus nowhere b no_links)

abbrev pub difference : Expression → Expression → Expression
difference a b = Chain level.Sum a (link sign.Minus nowhere b no_links)

abbrev pub when : Expression → Body → Statement
when test body = If nowhere test body no_statement false

abbrev pub two : Statement → Statement → Body
two s t = statement s (one t)

abbrev pub c : Expression
c = name (codes "c")

abbrev pub e : Expression
e = name (codes "e")

abbrev pub f : Expression
f = name (codes "f")

-- `I(f) = ID(inside(f)); if (valid(outside(f))) { O(f) = ID(outside(f)) }`
abbrev pub sides_of_faces : Main
sides_of_faces =
    item (declares (codes "I") Face (pos 0)) (item (declares (codes "O") Face (neg_ℤ (pos 1)))
    (only (over (codes "f") Face
    (two (sets (codes "I") f Set (call Id (call Inside f)))
    (when (call Valid (call Outside f)) (one (sets (codes "O") f Set (call Id (call Outside f)))))))))

-- `T(head(e)) = 1`
abbrev pub writes_heads : Main
writes_heads = item (declares (codes "T") Vertex (pos 0)) (only (over (codes "e") Edge (one (sets (codes "T") (call Head e) Set (number 1)))))

-- `W(e) = 1; W(flip(e)) = ID(e) + 10`
abbrev pub writes_twice : Main
writes_twice =
    item (declares (codes "W") Edge (pos 0))
    (only (over (codes "e") Edge (two (sets (codes "W") e Set (number 1)) (sets (codes "W") (call Flip e) Set (sum (call Id e) (number 10))))))

-- `N(f) = ID(outside(f))`, with `ID` at 2:33
abbrev pub id_of_nil : Main
id_of_nil = item (declares (codes "N") Face (pos 7)) (only (over (codes "f") Face (one (sets (codes "N") f Set (Call (at 2 33) Id (call Outside f))))))

-- `Deg(head(e)) += 1; Deg(tail(e)) += 1 / ((ID(e) - 5) * (ID(e) - 1))`, with `/` at 2:63
abbrev pub divides_by_ids : Main
divides_by_ids =
    item (declares (codes "Deg") Vertex (pos 0))
    (only (over (codes "e") Edge
    (two (sets (codes "Deg") (call Head e) (Fold Add) (number 1))
    (sets (codes "Deg") (call Tail e) (Fold Add)
    (Chain level.Product (number 1)
    (link sign.Over (at 2 63)
    (Chain level.Product (difference (call Id e) (number 5)) (link sign.Times nowhere (difference (call Id e) (number 1)) no_links)) no_links))))))

-- `for (v <- vertices(c)) { A(v) += 9223372036854775807 }`
abbrev pub adds_greatest : Main
adds_greatest =
    item (declares (codes "A") Vertex (pos 0))
    (only (over (codes "c") Cell
    (one (For nowhere (codes "v") nowhere Vertices nowhere c (one (sets (codes "A") (name (codes "v")) (Fold Add) (Number nowhere (pos (2 ^ 63 - 1)))))))))

-- `var m = 7; for (c <- cells(mesh)) { m min= ID(c) } print m`
abbrev pub least_id : Main
least_id =
    item (MainVar nowhere (codes "m") nowhere (number 7))
    (item (over (codes "c") Cell (one (Assign nowhere (codes "m") None (Fold Min) (call Id c)))) (only (Print nowhere (name (codes "m")))))

-- `var i = 0;` and on the next line `while (i < n) { i += 1 }`, and `print i`
abbrev pub counts_to : ℕ → Main
counts_to n =
    item (MainVar nowhere (codes "i") nowhere (number 0))
    (item (MainWhile (at 2 1) (Compare nowhere Below (name (codes "i")) (number n)) (only (MainAssign nowhere (codes "i") (Fold Add) (number 1))))
    (only (Print nowhere (name (codes "i")))))

-- Each iteration has its own turns: `for (e <- edges(mesh)) { var i = 0; while (i < 2) { i += 1 } W(e) = i }`, within `while (j < 2) { .. j += 1 }`
abbrev pub counts_in_iterations : Main
counts_in_iterations =
    item (declares (codes "W") Edge (pos 0)) (item (MainVar nowhere (codes "j") nowhere (number 0))
    (only (MainWhile nowhere (Compare nowhere Below (name (codes "j")) (number 2))
    (item (over (codes "e") Edge
    (statement (Var nowhere (codes "i") nowhere (number 0))
    (two (While (at 3 1) (Compare nowhere Below (name (codes "i")) (number 2)) (one (Assign nowhere (codes "i") None (Fold Add) (number 1))))
    (sets (codes "W") e Set (name (codes "i"))))))
    (only (MainAssign nowhere (codes "j") (Fold Add) (number 1)))))))

-- `for (d <- edges_ccw(f)) { if (ID(tail(d)) < ID(head(d))) { S(d) += 10 } else { S(d) += 1 } }`
abbrev pub along_cycles : Main
along_cycles =
    item (declares (codes "S") Edge (pos 0))
    (only (over (codes "f") Face
    (one (For nowhere (codes "d") nowhere EdgesCcw nowhere f
    (one (If nowhere (Compare nowhere Below (call Id (call Tail (name (codes "d")))) (call Id (call Head (name (codes "d")))))
    (one (sets (codes "S") (name (codes "d")) (Fold Add) (number 10)))
    (one (sets (codes "S") (name (codes "d")) (Fold Add) (number 1))) true))))))

-- `for (e <- edges(f)) { for (v <- vertices(f)) { if (!valid(towards(e, v))) { K(f) += 1 } } }`
abbrev pub counts_no_ends : Main
counts_no_ends =
    item (declares (codes "K") Face (pos 0))
    (only (over (codes "f") Face
    (one (For nowhere (codes "e") nowhere Edges nowhere f
    (one (For nowhere (codes "v") nowhere Vertices nowhere f
    (one (when (Not nowhere (call Valid (Towards nowhere e (name (codes "v"))))) (one (sets (codes "K") f (Fold Add) (number 1)))))))))))

-- `var a = 9223372036854775807; a += 1; print a; print a - 1`, with the last `-` at 4:9
abbrev pub wraps_and_traps : Main
wraps_and_traps =
    item (MainVar nowhere (codes "a") nowhere (Number nowhere (pos (2 ^ 63 - 1))))
    (item (MainAssign nowhere (codes "a") (Fold Add) (number 1))
    (item (Print nowhere (name (codes "a")))
    (only (Print nowhere (Chain level.Sum (name (codes "a")) (link sign.Minus (at 4 9) (number 1) no_links))))))

-- one step of heat, from `T(c) = ID(c) * 1000`
abbrev pub heat_at : Fun → Expression
heat_at side = Field nowhere (codes "T") (call side f)

abbrev pub flow : Expression
flow = Field nowhere (codes "Q") f

abbrev pub has_outside : Expression
has_outside = call Valid (call Outside f)

abbrev pub heat : Main
heat =
    item (declares (codes "T") Cell (pos 0)) (item (declares (codes "Q") Face (pos 0))
    (item (over (codes "c") Cell (one (sets (codes "T") c Set (Chain level.Product (call Id c) (link sign.Times nowhere (number 1000) no_links)))))
    (item (over (codes "f") Face
    (one (when has_outside
    (one (sets (codes "Q") f Set (Chain level.Product (difference (heat_at Inside) (heat_at Outside)) (link sign.Over nowhere (number 8) no_links)))))))
    (only (over (codes "f") Face
    (one (when has_outside (two (sets (codes "T") (call Inside f) Less flow) (sets (codes "T") (call Outside f) (Fold Add) flow)))))))))

-- `field A : Cell = 1; var i = 0; while (i < 2) { field B : Cell = 2; for (c <- cells(mesh)) { B(c) = A(c) + i } i += 1 } print i`
abbrev pub field_in_scope : Main
field_in_scope =
    item (declares (codes "A") Cell (pos 1)) (item (MainVar nowhere (codes "i") nowhere (number 0))
    (item (MainWhile nowhere (Compare nowhere Below (name (codes "i")) (number 2))
    (item (declares (codes "B") Cell (pos 2))
    (item (over (codes "c") Cell (one (sets (codes "B") c Set (sum (Field nowhere (codes "A") c) (name (codes "i"))))))
    (only (MainAssign nowhere (codes "i") (Fold Add) (number 1))))))
    (only (Print nowhere (name (codes "i"))))))

-- coordinates, marks and regions
abbrev pub reads_built_ins : Main
reads_built_ins =
    item (declares (codes "X") Vertex (pos 0)) (item (declares (codes "R") Cell (pos 0))
    (item (over (codes "v") Vertex
    (one (sets (codes "X") (name (codes "v")) Set (sum (Field nowhere (codes "PosX") (name (codes "v"))) (Field nowhere (codes "Mark") (name (codes "v")))))))
    (only (over (codes "c") Cell (one (sets (codes "R") c Set (Field nowhere (codes "Region") c)))))))

-- LOCALS end with their block: `var n = 0; while (n < 2) { var t = 1; n += 1 } for (v <- vertices(c)) { var t = 1 } val t = c; F(t) = n`
abbrev pub declares_local : List ℕ → ℕ → Statement
declares_local text n = Var nowhere text nowhere (number n)

abbrev pub below : List ℕ → ℕ → Expression
below text n = Compare nowhere Below (name text) (number n)

abbrev pub adds_one : List ℕ → Statement
adds_one text = Assign nowhere text None (Fold Add) (number 1)

abbrev pub locals_end : Main
locals_end =
    item (declares (codes "F") Cell (pos 0)) (only (over (codes "c") Cell (body_of
    (declares_local (codes "n") 0
    ∷ While nowhere (below (codes "n") 2) (two (declares_local (codes "t") 1) (adds_one (codes "n")))
    ∷ For nowhere (codes "v") nowhere Vertices nowhere c (one (declares_local (codes "t") 1))
    ∷ Val nowhere (codes "t") nowhere c
    ∷ sets (codes "F") (name (codes "t")) Set (name (codes "n")) ∷ []))))

-- TURNS of a main loop and of the loops in it: `while (i < 2) { var j = 0; while (j < 2) { j += 1 } i += 1 }`, the loops at 1 and 2
abbrev pub counts : List ℕ → MainItem
counts text = MainAssign nowhere text (Fold Add) (number 1)

abbrev pub nested_loops : Main
nested_loops =
    item (MainVar nowhere (codes "i") nowhere (number 0))
    (only (MainWhile (at 1 1) (below (codes "i") 2)
    (item (MainVar nowhere (codes "j") nowhere (number 0))
    (item (MainWhile (at 2 1) (below (codes "j") 2) (only (counts (codes "j")))) (only (counts (codes "i")))))))

-- `while (i < 3) { for (v <- vertices(mesh)) { var j = 0; while (j < 3) { j += 1; s += 1 } } i += 1; print s }`, the inner loop at 2
abbrev pub loops_of_iterations : Main
loops_of_iterations =
    item (MainVar nowhere (codes "i") nowhere (number 0)) (item (MainVar nowhere (codes "s") nowhere (number 0))
    (only (MainWhile (at 1 1) (below (codes "i") 3)
    (item (over (codes "v") Vertex
    (two (declares_local (codes "j") 0) (While (at 2 1) (below (codes "j") 3) (two (adds_one (codes "j")) (adds_one (codes "s"))))))
    (item (counts (codes "i")) (only (Print nowhere (name (codes "s")))))))))

-- `while (1 / 0 == 0) { }`, with `/` at 5, and `F(outside(f)) = 1 / 0`
abbrev pub zero_divided : Expression
zero_divided = Chain level.Product (number 1) (link sign.Over (at 1 5) (number 0) no_links)

abbrev pub loop_divides : Main
loop_divides = only (MainWhile (at 1 1) (Compare nowhere Equal zero_divided (number 0)) no_item)

abbrev pub divides_for_nil : Main
divides_for_nil = item (declares (codes "F") Cell (pos 0)) (only (over (codes "f") Face (one (sets (codes "F") (call Outside f) Set zero_divided))))

-- `for (v <- vertices(outside(f))) { }`, with the set's word at 3
abbrev pub set_of_nil : Main
set_of_nil = only (over (codes "f") Face (one (For nowhere (codes "v") nowhere Vertices (at 1 3) (call Outside f) no_statement)))

-- `val o = outside(f); if (o == outside(f)) { F(f) += 1 } if (o != inside(f)) { F(flip(f)) += 2 } if (valid(towards(f, o))) { } else { F(f) += 4 }`
abbrev pub compares_nil : Main
compares_nil =
    item (declares (codes "F") Face (pos 0)) (only (over (codes "f") Face (body_of
    (Val nowhere (codes "o") nowhere (call Outside f)
    ∷ when (Compare nowhere Equal (name (codes "o")) (call Outside f)) (one (sets (codes "F") f (Fold Add) (number 1)))
    ∷ when (Compare nowhere Other (name (codes "o")) (call Inside f)) (one (sets (codes "F") (call Flip f) (Fold Add) (number 2)))
    ∷ If nowhere (call Valid (Towards nowhere f (name (codes "o")))) no_statement (one (sets (codes "F") f (Fold Add) (number 4))) true ∷ []))))

-- ACTS: `F(c) -= Region(c) + G(c); m min= ID(c) - 4; m min= 1 / (ID(c) - 1)`, with `/` at 5
abbrev pub acts_and_folds : Main
acts_and_folds =
    item (declares (codes "F") Cell (pos 0)) (item (declares (codes "G") Cell (pos 7)) (item (MainVar nowhere (codes "m") nowhere (number 0))
    (only (over (codes "c") Cell (body_of
    (sets (codes "F") c Less (sum (Field nowhere (codes "Region") c) (Field nowhere (codes "G") c))
    ∷ Assign nowhere (codes "m") None (Fold Min) (difference (call Id c) (number 4))
    ∷ Assign nowhere (codes "m") None (Fold Min)
    (Chain level.Product (number 1) (link sign.Over (at 1 5) (difference (call Id c) (number 1)) no_links)) ∷ []))))))

abbrev pub first_comprehension : Main → Comprehension
first_comprehension program = unwrap_or (comprehension_of program 0) (record { environment = []; name = []; over = Cell; body = no_statement })

abbrev pub first_state : MeshLists → Main → State
first_state mesh program = unwrap_or (option_map (λ phase. phase.1) (slice_get (phases_of mesh program 0) 0)) (empty 0)

abbrev pub an_act : ℕ → ℕ → Mode → ℤ → Act
an_act field id mode value = record { spot = record { field = field; id = id }; mode = mode; value = value }

-- `if` without `else`, with an empty block after `else`, and with a true test
abbrev pub scopes_of_branches : Main
scopes_of_branches =
    item (MainIf nowhere (equals_zero 1) no_item no_item false) (item (MainIf nowhere (equals_zero 1) no_item no_item true)
    (only (MainIf nowhere (equals_zero 0) no_item no_item false)))
  where
    equals_zero : ℕ → Expression
    equals_zero n = Compare nowhere Equal (number n) (number 0)

-- SCALARS end with their scope: `var a = 1; if (0 == 0) { var b = 2; a += b }`
abbrev pub scalars_end : Main
scalars_end =
    item (MainVar nowhere (codes "a") nowhere (number 1))
    (only (MainIf nowhere (Compare nowhere Equal (number 0) (number 0))
    (item (MainVar nowhere (codes "b") nowhere (number 2)) (only (MainAssign nowhere (codes "a") (Fold Add) (name (codes "b"))))) no_item false))

-- a run that has printed `n` numbers
abbrev pub with_prints : ℕ → Progress
with_prints n = record { state = record { fields = []; scalars = []; prints = replicate n (pos 1); turns = 0 }; path = [] }
