-- Programs of the worked cases with their checked programs, which are written out. This project's own.
use Rattle.std.specs.Prelude.{ℕ, pos, true, Some, None, [], ◌∷◌, codes}
use Rattle.liszt_base.specs.declared.accesses.Mode.TheVariants.{Read, Write, Reduce}
use Rattle.liszt_base.specs.declared.elements.Kind.TheVariants.{Vertex, Edge, Face, Cell}
use Rattle.liszt_base.specs.declared.elements.Op.TheVariants.{Add}
use Rattle.liszt_base.specs.declared.elements.SetName.TheVariants.{Edges}
use Rattle.liszt_tree.specs.declared.tree.Fun.TheVariants as function
use Rattle.liszt_tree.specs.declared.tree.How.TheVariants.{Set, Fold, Less}
use Rattle.liszt_tree.specs.declared.tree.Level.TheVariants as level
use Rattle.liszt_tree.specs.declared.tree.Rel.TheVariants.{Below}
use Rattle.liszt_tree.specs.declared.tree.Sign.TheVariants as sign
use Rattle.liszt_tree.specs.Tree.{nowhere, Expression, Field, Call, Neg, Chain, Compare, no_links, link, Var, Val, Assign, While, For, body_of}
use Rattle.liszt_tree.specs.Tree.{MainField, MainVar, MainAssign, MainIf, MainWhile, MainFor, Print, Main, item}
use Rattle.liszt_tree.specs.Trees.{name, number}
use Rattle.resolved_code.specs.declared.accesses.AccessAt.{AccessAt}
use Rattle.resolved_code.specs.declared.accesses.Subject.{Subject}
use Rattle.resolved_code.specs.declared.accesses.Subject.TheVariants.{Field as OfField, Scalar as OfScalar}
use Rattle.liszt_base.specs.declared.accesses.Mode.{Mode}
use Rattle.resolved_code.specs.declared.expressions.Arithmetic.TheVariants as arithmetic
use Rattle.resolved_code.specs.declared.expressions.ElementCode.TheVariants as element
use Rattle.resolved_code.specs.declared.expressions.ElementFun.TheVariants as element_function
use Rattle.resolved_code.specs.declared.expressions.NumberCode.{NumberCode}
use Rattle.resolved_code.specs.declared.expressions.NumberCode.TheVariants as number_code
use Rattle.resolved_code.specs.declared.expressions.TruthCode.TheVariants as truth
use Rattle.resolved_code.specs.declared.items.ItemCode.TheVariants as item_code
use Rattle.resolved_code.specs.declared.statements.StatementCode.{StatementCode}
use Rattle.resolved_code.specs.declared.statements.StatementCode.TheVariants as code
use Rattle.phase_types.specs.declared.state.CheckedProgram.{CheckedProgram}
use Rattle.phase_types.specs.Internal.Cases.{column, single_item}
use Rattle.phase_types.specs.Layouts.{Layout, field_kinds}

abbrev pub constant : ℕ → NumberCode
constant n = number_code.Constant (pos n)

abbrev pub access : Subject → Mode → ℕ → AccessAt
access subject mode col = record { subject = subject; mode = mode; place = column col }

-- `field Deg : Vertex = 0; for (e <- edges(mesh)) { Deg(head(e)) += 1; Deg(tail(e)) += 1 }`: the head for the head, and the tail
-- for the tail; the element of the comprehension has slot 0, and the first access is the one that is kept
abbrev pub ends_counted : Main
ends_counted =
    item (MainField nowhere (codes "Deg") nowhere Vertex (number 0))
    (single_item (MainFor nowhere (codes "e") nowhere Edge (body_of (
    Assign (column 1) (codes "Deg") (Some (Call (column 2) function.Head (name (codes "e")))) (Fold Add) (number 1)
    ∷ Assign (column 3) (codes "Deg") (Some (Call (column 4) function.Tail (name (codes "e")))) (Fold Add) (number 1) ∷ []))))

abbrev pub ends_counted_code : CheckedProgram
ends_counted_code =
    record {
      fields = record { name = codes "Deg"; kind = Vertex; scope = 0 } ∷ [];
      scalars = [];
      scopes = 0 ∷ [];
      comprehensions =
          record {
            over = Edge;
            elements = Edge ∷ [];
            numbers = 0;
            body =
                code.Field (column 1) 6 (Fold Add) (element.Call element_function.Head (element.Slot 0)) (constant 1)
                ∷ code.Field (column 3) 6 (Fold Add) (element.Call element_function.Tail (element.Slot 0)) (constant 1) ∷ [];
            accesses = access (OfField 6) (Reduce Add) 1 ∷ [];
          } ∷ [];
      items = item_code.Field 6 (constant 0) ∷ item_code.For 0 ∷ [];
    }

-- `var n = 2; if (n < 1) { field B : Cell = n; for (c <- cells(mesh)) { B(c) = 1 } } else { field B : Face = 0 }; while (n < 1) { n -= 1 }`:
-- scopes are numbered in the order of the text, and so are the two fields of one name
abbrev pub below_one : Expression
below_one = Compare nowhere Below (name (codes "n")) (number 1)

abbrev pub fields_of_blocks : Main
fields_of_blocks =
    item (MainVar nowhere (codes "n") nowhere (number 2))
    (item (MainIf nowhere below_one
    (item (MainField nowhere (codes "B") nowhere Cell (name (codes "n")))
    (single_item (MainFor nowhere (codes "c") nowhere Cell (body_of (Assign (column 1) (codes "B") (Some (name (codes "c"))) Set (number 1) ∷ [])))))
    (single_item (MainField nowhere (codes "B") nowhere Face (number 0))) true)
    (single_item (MainWhile (column 2) below_one (single_item (MainAssign nowhere (codes "n") Less (number 1))))))

abbrev pub fields_of_blocks_code : CheckedProgram
fields_of_blocks_code =
    record {
      fields = record { name = codes "B"; kind = Cell; scope = 1 } ∷ record { name = codes "B"; kind = Face; scope = 2 } ∷ [];
      scalars = codes "n" ∷ [];
      scopes = 0 ∷ 0 ∷ 0 ∷ 0 ∷ [];
      comprehensions =
          record {
            over = Cell;
            elements = Cell ∷ [];
            numbers = 0;
            body = code.Field (column 1) 6 Set (element.Slot 0) (constant 1) ∷ [];
            accesses = access (OfField 6) Write 1 ∷ [];
          } ∷ [];
      items =
          item_code.Var 0 (constant 2)
          ∷ item_code.If (truth.CompareNumbers Below (number_code.Scalar 0) (constant 1))
          (record { scope = 1; items = item_code.Field 6 (number_code.Scalar 0) ∷ item_code.For 0 ∷ [] })
          (Some (record { scope = 2; items = item_code.Field 7 (constant 0) ∷ [] }))
          ∷ item_code.While (column 2) (truth.CompareNumbers Below (number_code.Scalar 0) (constant 1))
          (record { scope = 3; items = item_code.Assign 0 Less (constant 1) ∷ [] }) ∷ [];
    }

-- `var n = 0; for (e <- edges(mesh)) { } for (f <- faces(mesh)) { var x = Region(inside(f)); for (e <- edges(f)) { val v = head(e); var y = x + 2; n += y }
-- val v = outside(f); while (x < 1) { x = -id(v) } } print n`: each declaration has a slot of its own, also one of a name that an
-- earlier block had, and the comprehension without accesses is number 0
abbrev pub slots_of_blocks : Main
slots_of_blocks =
    item (MainVar nowhere (codes "n") nowhere (number 0))
    (item (MainFor nowhere (codes "e") nowhere Edge (body_of []))
    (item (MainFor nowhere (codes "f") nowhere Face (body_of (
    Var nowhere (codes "x") nowhere (Field (column 1) (codes "Region") (Call (column 2) function.Inside (name (codes "f"))))
    ∷ For nowhere (codes "e") nowhere Edges (column 3) (name (codes "f")) (body_of (
    Val nowhere (codes "v") nowhere (Call (column 4) function.Head (name (codes "e")))
    ∷ Var nowhere (codes "y") nowhere (Chain level.Sum (name (codes "x")) (link sign.Plus (column 5) (number 2) no_links))
    ∷ Assign (column 6) (codes "n") None (Fold Add) (name (codes "y")) ∷ []))
    ∷ Val nowhere (codes "v") nowhere (Call (column 7) function.Outside (name (codes "f")))
    ∷ While (column 8) (Compare nowhere Below (name (codes "x")) (number 1)) (body_of (
    Assign (column 9) (codes "x") None Set (Neg (column 10) (Call (column 11) function.Id (name (codes "v")))) ∷ [])) ∷ [])))
    (single_item (Print (column 12) (name (codes "n"))))))

abbrev pub slots_of_blocks_code : CheckedProgram
slots_of_blocks_code =
    record {
      fields = [];
      scalars = codes "n" ∷ [];
      scopes = 0 ∷ [];
      comprehensions =
          record { over = Edge; elements = Edge ∷ []; numbers = 0; body = []; accesses = [] }
          ∷ record {
            over = Face;
            elements = Face ∷ Edge ∷ Vertex ∷ Cell ∷ [];
            numbers = 2;
            body =
                code.Var 0 (number_code.Field (column 1) 4 (element.Call element_function.Inside (element.Slot 0)))
                ∷ code.For 1 Edges (column 3) (element.Slot 0) (
                code.Val 2 (element.Call element_function.Head (element.Slot 1))
                ∷ code.Var 1 (number_code.Chain (number_code.Local 0) (record { op = arithmetic.Plus; place = column 5; arg = constant 2 } ∷ []))
                ∷ code.Scalar 0 (Fold Add) (number_code.Local 1) ∷ [])
                ∷ code.Val 3 (element.Call element_function.Outside (element.Slot 0))
                ∷ code.While (column 8) (truth.CompareNumbers Below (number_code.Local 0) (constant 1)) (
                code.Local 0 Set (number_code.Neg (column 10) (number_code.Id (column 11) (element.Slot 3))) ∷ []) ∷ [];
            accesses = access (OfField 4) Read 1 ∷ access (OfScalar 0) (Reduce Add) 6 ∷ [];
          } ∷ [];
      items = item_code.Var 0 (constant 0) ∷ item_code.For 0 ∷ item_code.For 1 ∷ item_code.Print (column 12) (number_code.Scalar 0) ∷ [];
    }

-- the layout of the second comprehension, and code that names a local number, a scalar, and a field at an element
abbrev pub slots_layout : Layout
slots_layout = record { elements = Face ∷ Edge ∷ Vertex ∷ Cell ∷ []; numbers = 2; fields = field_kinds []; scalars = 1 }

abbrev pub sets_local : ℕ → StatementCode
sets_local slot = code.Local slot Set (constant 1)

abbrev pub adds_to_scalar : ℕ → StatementCode
adds_to_scalar scalar = code.Scalar scalar (Fold Add) (constant 1)

abbrev pub field_at : ℕ → ℕ → NumberCode
field_at field slot = number_code.Field (column 1) field (element.Slot slot)
