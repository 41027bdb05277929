-- The tree of a program as the definitions see it: the trees of src/tree.rt node
-- by node, with lists of their own, for the types are recursive. The language is
-- this project's own profile, after Liszt (DeVito et al., Supercomputing 2011).
use Rattle.std.specs.Prelude.{◌≡◌, ℕ, ◌+◌, Bool, Option, Some, None, List, [], ◌∷◌, map, ℤ}
use Rattle.std.specs.Option.{option_map}
use Rattle.liszt_base.specs.declared.answers.Place.{Place}
use Rattle.liszt_base.specs.declared.elements.Kind.{Kind}
use Rattle.liszt_base.specs.declared.elements.SetName.{SetName}
use Rattle.liszt_tree.specs.declared.tree.Fun.{Fun}
use Rattle.liszt_tree.specs.declared.tree.How.{How}
use Rattle.liszt_tree.specs.declared.tree.Level.{Level}
use Rattle.liszt_tree.specs.declared.tree.Rel.{Rel}
use Rattle.liszt_tree.specs.declared.tree.Sign.{Sign}
use Rattle.liszt_tree.specs.declared.tree.Expr.{Expr, fold-Expr}
use Rattle.liszt_tree.specs.declared.tree.Expr.TheOpen.{Expr-F, Link-F}
use Rattle.liszt_tree.specs.declared.tree.Stmt.{Stmt, fold-Stmt}
use Rattle.liszt_tree.specs.declared.tree.Stmt.TheOpen.{Stmt-F}
use Rattle.liszt_tree.specs.declared.tree.Item.{Item, fold-Item}
use Rattle.liszt_tree.specs.declared.tree.Item.TheOpen.{Item-F}
use Rattle.liszt_tree.specs.declared.tree.Program.{Program as RustProgram}

-- EXPRESSIONS. A name is a list of bytes. The operands of a chain after
-- the first are its links, each with an operator and the place of the
-- operator. The place of a chain is the place of its first link.
mutual
  pub data Expression : Type 0 where
    Number : Place → ℤ → Expression
    Name : Place → List ℕ → Expression
    Field : Place → List ℕ → Expression → Expression
    Call : Place → Fun → Expression → Expression
    Towards : Place → Expression → Expression → Expression
    Neg : Place → Expression → Expression
    Not : Place → Expression → Expression
    Chain : Level → Expression → Links → Expression
    Compare : Place → Rel → Expression → Expression → Expression

  pub data Links : Type 0 where
    no_links : Links
    link : Sign → Place → Expression → Links → Links

-- STATEMENTS of the body of a comprehension. The first place is that of the first
-- word, the second that of the name, and the third of a `for` that of the word of
-- the set. An `if` has a test, two blocks, and whether `else` was written.
mutual
  pub data Statement : Type 0 where
    Var : Place → List ℕ → Place → Expression → Statement
    Val : Place → List ℕ → Place → Expression → Statement
    Assign : Place → List ℕ → Option Expression → How → Expression → Statement
    If : Place → Expression → Body → Body → Bool → Statement
    While : Place → Expression → Body → Statement
    For : Place → List ℕ → Place → SetName → Place → Expression → Body → Statement

  pub data Body : Type 0 where
    no_statement : Body
    statement : Statement → Body → Body

-- ITEMS of the main program, and programs
mutual
  pub data MainItem : Type 0 where
    MainField : Place → List ℕ → Place → Kind → Expression → MainItem
    MainVar : Place → List ℕ → Place → Expression → MainItem
    MainAssign : Place → List ℕ → How → Expression → MainItem
    MainIf : Place → Expression → Main → Main → Bool → MainItem
    MainWhile : Place → Expression → Main → MainItem
    MainFor : Place → List ℕ → Place → Kind → Body → MainItem
    Print : Place → Expression → MainItem

  pub data Main : Type 0 where
    no_item : Main
    item : MainItem → Main → Main

-- THE RUST TREE, mapped node by node
abbrev pub PlainLink : Type 0
PlainLink = Sign × Place × Expression

abbrev pub links_of : List PlainLink → Links
links_of [] = no_links
links_of (l ∷ more) = link l.0 l.1 l.2 (links_of more)

abbrev pub body_of : List Statement → Body
body_of [] = no_statement
body_of (s ∷ more) = statement s (body_of more)

abbrev pub main_of : List MainItem → Main
main_of [] = no_item
main_of (i ∷ more) = item i (main_of more)

abbrev pub expression_layer : Expr-F Expression PlainLink → Expression
expression_layer (Expr-F.Number place value) = Number place value
expression_layer (Expr-F.Name place name) = Name place name
expression_layer (Expr-F.Field place name arg) = Field place name arg
expression_layer (Expr-F.Call place fun arg) = Call place fun arg
expression_layer (Expr-F.Towards place arg to) = Towards place arg to
expression_layer (Expr-F.Neg place arg) = Neg place arg
expression_layer (Expr-F.Not place arg) = Not place arg
expression_layer (Expr-F.Chain level first rest) = Chain level first (links_of rest)
expression_layer (Expr-F.Compare place rel left right) = Compare place rel left right

abbrev pub link_layer : Link-F Expression PlainLink → PlainLink
link_layer l = (l.op, l.place, l.arg)

abbrev pub expression : Expr → Expression
expression e = fold-Expr Expression PlainLink expression_layer link_layer e

abbrev pub statement_layer : Stmt-F Statement → Statement
statement_layer (Stmt-F.Var place name at init) = Var place name at (expression init)
statement_layer (Stmt-F.Val place name at init) = Val place name at (expression init)
statement_layer (Stmt-F.Assign place name target how value) =
    Assign place name (option_map expression target) how (expression value)
statement_layer (Stmt-F.If place test first second has_else) =
    If place (expression test) (body_of first) (body_of second) has_else
statement_layer (Stmt-F.While place test body) = While place (expression test) (body_of body)
statement_layer (Stmt-F.For place name at set set_at arg body) =
    For place name at set set_at (expression arg) (body_of body)

abbrev pub statement_tree : Stmt → Statement
statement_tree s = fold-Stmt Statement statement_layer s

abbrev pub item_layer : Item-F MainItem → MainItem
item_layer (Item-F.Field place name at kind init) = MainField place name at kind (expression init)
item_layer (Item-F.Var place name at init) = MainVar place name at (expression init)
item_layer (Item-F.Assign place name how value) = MainAssign place name how (expression value)
item_layer (Item-F.If place test first second has_else) =
    MainIf place (expression test) (main_of first) (main_of second) has_else
item_layer (Item-F.While place test body) = MainWhile place (expression test) (main_of body)
item_layer (Item-F.For place name at over body) =
    MainFor place name at over (body_of (map statement_tree body))
item_layer (Item-F.Print place value) = Print place (expression value)

abbrev pub item_tree : Item → MainItem
item_tree i = fold-Item MainItem item_layer i

abbrev pub program_tree : RustProgram → Main
program_tree p = main_of (map item_tree p.items)

-- SAMENESS up to places: two trees are the same where they
-- are equal after each place is replaced by one fixed place.
abbrev pub nowhere : Place
nowhere = record { line = 0; col = 0 }

abbrev mutual
  pub expression_without_places : Expression → Expression
  expression_without_places (Number place value) = Number nowhere value
  expression_without_places (Name place name) = Name nowhere name
  expression_without_places (Field place name arg) =
      Field nowhere name (expression_without_places arg)
  expression_without_places (Call place fun arg) = Call nowhere fun (expression_without_places arg)
  expression_without_places (Towards place arg to) =
      Towards nowhere (expression_without_places arg) (expression_without_places to)
  expression_without_places (Neg place arg) = Neg nowhere (expression_without_places arg)
  expression_without_places (Not place arg) = Not nowhere (expression_without_places arg)
  expression_without_places (Chain level first links) =
      Chain level (expression_without_places first) (links_without_places links)
  expression_without_places (Compare place rel left right) =
      Compare nowhere rel (expression_without_places left) (expression_without_places right)

  pub links_without_places : Links → Links
  links_without_places no_links = no_links
  links_without_places (link sign place arg more) =
      link sign nowhere (expression_without_places arg) (links_without_places more)

abbrev mutual
  pub statement_without_places : Statement → Statement
  statement_without_places (Var place name at init) =
      Var nowhere name nowhere (expression_without_places init)
  statement_without_places (Val place name at init) =
      Val nowhere name nowhere (expression_without_places init)
  statement_without_places (Assign place name target how value) =
      Assign nowhere name (option_map expression_without_places target) how
      (expression_without_places value)
  statement_without_places (If place test first second has_else) =
      If nowhere (expression_without_places test) (body_without_places first)
      (body_without_places second) has_else
  statement_without_places (While place test body) =
      While nowhere (expression_without_places test) (body_without_places body)
  statement_without_places (For place name at set set_at arg body) =
      For nowhere name nowhere set nowhere (expression_without_places arg)
      (body_without_places body)

  pub body_without_places : Body → Body
  body_without_places no_statement = no_statement
  body_without_places (statement s more) =
      statement (statement_without_places s) (body_without_places more)

abbrev mutual
  pub item_without_places : MainItem → MainItem
  item_without_places (MainField place name at kind init) =
      MainField nowhere name nowhere kind (expression_without_places init)
  item_without_places (MainVar place name at init) =
      MainVar nowhere name nowhere (expression_without_places init)
  item_without_places (MainAssign place name how value) =
      MainAssign nowhere name how (expression_without_places value)
  item_without_places (MainIf place test first second has_else) =
      MainIf nowhere (expression_without_places test) (main_without_places first)
      (main_without_places second) has_else
  item_without_places (MainWhile place test body) =
      MainWhile nowhere (expression_without_places test) (main_without_places body)
  item_without_places (MainFor place name at over body) =
      MainFor nowhere name nowhere over (body_without_places body)
  item_without_places (Print place value) = Print nowhere (expression_without_places value)

  pub main_without_places : Main → Main
  main_without_places no_item = no_item
  main_without_places (item i more) = item (item_without_places i) (main_without_places more)

abbrev pub Same : Main → Main → Type 0
Same tree other = main_without_places tree ≡ main_without_places other

-- NODES: each expression, statement and item is one node; a
-- chain is one node in addition to its operands.
abbrev mutual
  pub expression_nodes : Expression → ℕ
  expression_nodes (Number place value) = 1
  expression_nodes (Name place name) = 1
  expression_nodes (Field place name arg) = 1 + expression_nodes arg
  expression_nodes (Call place fun arg) = 1 + expression_nodes arg
  expression_nodes (Towards place arg to) = 1 + expression_nodes arg + expression_nodes to
  expression_nodes (Neg place arg) = 1 + expression_nodes arg
  expression_nodes (Not place arg) = 1 + expression_nodes arg
  expression_nodes (Chain level first links) = 1 + expression_nodes first + links_nodes links
  expression_nodes (Compare place rel left right) =
      1 + expression_nodes left + expression_nodes right

  pub links_nodes : Links → ℕ
  links_nodes no_links = 0
  links_nodes (link sign place arg more) = expression_nodes arg + links_nodes more

abbrev pub target_nodes : Option Expression → ℕ
target_nodes None = 0
target_nodes (Some target) = expression_nodes target

abbrev mutual
  pub statement_nodes : Statement → ℕ
  statement_nodes (Var place name at init) = 1 + expression_nodes init
  statement_nodes (Val place name at init) = 1 + expression_nodes init
  statement_nodes (Assign place name target how value) =
      1 + target_nodes target + expression_nodes value
  statement_nodes (If place test first second has_else) =
      1 + expression_nodes test + body_nodes first + body_nodes second
  statement_nodes (While place test body) = 1 + expression_nodes test + body_nodes body
  statement_nodes (For place name at set set_at arg body) =
      1 + expression_nodes arg + body_nodes body

  pub body_nodes : Body → ℕ
  body_nodes no_statement = 0
  body_nodes (statement s more) = statement_nodes s + body_nodes more

abbrev mutual
  pub item_nodes : MainItem → ℕ
  item_nodes (MainField place name at kind init) = 1 + expression_nodes init
  item_nodes (MainVar place name at init) = 1 + expression_nodes init
  item_nodes (MainAssign place name how value) = 1 + expression_nodes value
  item_nodes (MainIf place test first second has_else) =
      1 + expression_nodes test + main_nodes first + main_nodes second
  item_nodes (MainWhile place test body) = 1 + expression_nodes test + main_nodes body
  item_nodes (MainFor place name at over body) = 1 + body_nodes body
  item_nodes (Print place value) = 1 + expression_nodes value

  pub main_nodes : Main → ℕ
  main_nodes no_item = 0
  main_nodes (item i more) = item_nodes i + main_nodes more
