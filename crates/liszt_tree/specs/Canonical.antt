-- The canonical text of a tree: one statement on each line, two
-- blanks for each open block, brackets only where the levels of
-- operators require them. This project's own profile, after Liszt.
use Rattle.std.specs.Prelude.{ℕ, zero, suc, ◌+◌, nat_le, nat_lt, Bool, true}
use Rattle.std.specs.Prelude.{false, Option, Some, None, List, [], ◌++◌, codes}
use Rattle.std.specs.Fmt.{signed_decimal}
use Rattle.liszt_base.specs.declared.elements.Kind.{Kind}
use Rattle.liszt_base.specs.declared.elements.Kind.TheVariants.{Vertex, Edge, Face, Cell}
use Rattle.liszt_base.specs.declared.elements.Op.TheVariants.{Add, Mul, And as AndBits}
use Rattle.liszt_base.specs.declared.elements.Op.TheVariants.{Or as OrBits, Xor, Min, Max}
use Rattle.liszt_base.specs.declared.elements.SetName.{SetName}
use Rattle.liszt_base.specs.declared.elements.SetName.TheVariants.{Vertices, Edges, Faces}
use Rattle.liszt_base.specs.declared.elements.SetName.TheVariants.{Cells, EdgesCcw}
use Rattle.liszt_tree.specs.declared.tree.Fun.{Fun}
use Rattle.liszt_tree.specs.declared.tree.Fun.TheVariants.{Head, Tail, Inside}
use Rattle.liszt_tree.specs.declared.tree.Fun.TheVariants.{Outside, Flip, Valid, Id}
use Rattle.liszt_tree.specs.declared.tree.How.{How}
use Rattle.liszt_tree.specs.declared.tree.How.TheVariants.{Set, Fold, Less}
use Rattle.liszt_tree.specs.declared.tree.Level.{Level}
use Rattle.liszt_tree.specs.declared.tree.Level.TheVariants as level
use Rattle.liszt_tree.specs.declared.tree.Rel.{Rel}
use Rattle.liszt_tree.specs.declared.tree.Rel.TheVariants.{Same, Other, Below}
use Rattle.liszt_tree.specs.declared.tree.Rel.TheVariants.{AtMost, Above, AtLeast}
use Rattle.liszt_tree.specs.declared.tree.Sign.{Sign}
use Rattle.liszt_tree.specs.declared.tree.Sign.TheVariants as sign
use Rattle.liszt_tree.specs.Tree.{Expression, Number, Name, Field, Call, Towards, Neg}
use Rattle.liszt_tree.specs.Tree.{Not, Chain, Compare, Links, no_links, link, Statement}
use Rattle.liszt_tree.specs.Tree.{Var, Val, Assign, If, While, For, Body, no_statement}
use Rattle.liszt_tree.specs.Tree.{statement, MainItem, MainField, MainVar, MainAssign}
use Rattle.liszt_tree.specs.Tree.{MainIf, MainWhile, MainFor, Print, Main, no_item, item}

-- WORDS of the language
abbrev pub kind_word : Kind → List ℕ
kind_word Vertex = codes "Vertex"
kind_word Edge = codes "Edge"
kind_word Face = codes "Face"
kind_word Cell = codes "Cell"

abbrev pub mesh_set_word : Kind → List ℕ
mesh_set_word Vertex = codes "vertices"
mesh_set_word Edge = codes "edges"
mesh_set_word Face = codes "faces"
mesh_set_word Cell = codes "cells"

abbrev pub set_word : SetName → List ℕ
set_word Vertices = codes "vertices"
set_word Edges = codes "edges"
set_word Faces = codes "faces"
set_word Cells = codes "cells"
set_word EdgesCcw = codes "edges_ccw"

abbrev pub fun_word : Fun → List ℕ
fun_word Head = codes "head"
fun_word Tail = codes "tail"
fun_word Inside = codes "inside"
fun_word Outside = codes "outside"
fun_word Flip = codes "flip"
fun_word Valid = codes "valid"
fun_word Id = codes "ID"

abbrev pub how_text : How → List ℕ
how_text Set = codes "="
how_text Less = codes "-="
how_text (Fold Add) = codes "+="
how_text (Fold Mul) = codes "*="
how_text (Fold AndBits) = codes "&="
how_text (Fold OrBits) = codes "|="
how_text (Fold Xor) = codes "^="
how_text (Fold Min) = codes "min="
how_text (Fold Max) = codes "max="

abbrev pub sign_text : Sign → List ℕ
sign_text sign.Or = codes "||"
sign_text sign.And = codes "&&"
sign_text sign.Plus = codes "+"
sign_text sign.Minus = codes "-"
sign_text sign.Times = codes "*"
sign_text sign.Over = codes "/"
sign_text sign.Rest = codes "%"

abbrev pub rel_text : Rel → List ℕ
rel_text Same = codes "=="
rel_text Other = codes "!="
rel_text Below = codes "<"
rel_text AtMost = codes "<="
rel_text Above = codes ">"
rel_text AtLeast = codes ">="

-- LEVELS, the weakest first
abbrev pub chain_level : Level → ℕ
chain_level level.Or = 1
chain_level level.And = 2
chain_level level.Sum = 4
chain_level level.Product = 5

abbrev pub level_of : Expression → ℕ
level_of (Chain level first links) = chain_level level
level_of (Compare place rel left right) = 3
level_of (Neg place arg) = 6
level_of (Not place arg) = 6
level_of _ = 7

abbrev pub bracketed_text : Bool → List ℕ → List ℕ
bracketed_text false text = text
bracketed_text true text = codes "(" ++ text ++ codes ")"

abbrev pub spaced_text : List ℕ → List ℕ
spaced_text text = codes " " ++ text ++ codes " "

-- EXPRESSIONS. An operand is in brackets exactly where its level is not above that of its chain
-- or comparison; after a prefix operator, exactly where its level is below that of the operator.
abbrev mutual
  pub expression_text : Expression → List ℕ
  expression_text (Number place value) = signed_decimal value
  expression_text (Name place name) = name
  expression_text (Field place name arg) = name ++ codes "(" ++ expression_text arg ++ codes ")"
  expression_text (Call place fun arg) =
      fun_word fun ++ codes "(" ++ expression_text arg ++ codes ")"
  expression_text (Towards place arg to) =
      codes "towards(" ++ expression_text arg ++ codes ", " ++ expression_text to ++ codes ")"
  expression_text (Neg place arg) =
      codes "-" ++ bracketed_text (nat_lt (level_of arg) 6) (expression_text arg)
  expression_text (Not place arg) =
      codes "!" ++ bracketed_text (nat_lt (level_of arg) 6) (expression_text arg)
  expression_text (Chain level first links) =
      bracketed_text (nat_le (level_of first) (chain_level level)) (expression_text first)
      ++ links_text (chain_level level) links
  expression_text (Compare place rel left right) =
      bracketed_text (nat_le (level_of left) 3) (expression_text left) ++ spaced_text (rel_text rel)
      ++ bracketed_text (nat_le (level_of right) 3) (expression_text right)

  pub links_text : ℕ → Links → List ℕ
  links_text level no_links = []
  links_text level (link sign place arg more) =
      spaced_text (sign_text sign)
      ++ bracketed_text (nat_le (level_of arg) level) (expression_text arg)
      ++ links_text level more

-- LINES, at a depth of open blocks
abbrev pub line : ℕ → List ℕ → List ℕ
line zero text = text ++ codes "\n"
line (suc depth) text = codes "  " ++ line depth text

abbrev pub terminated_line : ℕ → List ℕ → List ℕ
terminated_line depth text = line depth (text ++ codes ";")

abbrev pub declaration_text : List ℕ → List ℕ → Expression → List ℕ
declaration_text word name init = word ++ codes " " ++ name ++ codes " = " ++ expression_text init

abbrev pub head_text : List ℕ → Expression → List ℕ
head_text word test = word ++ codes " (" ++ expression_text test ++ codes ") {"

abbrev pub target_text : Option Expression → List ℕ
target_text None = []
target_text (Some target) = codes "(" ++ expression_text target ++ codes ")"

-- An `else`, if one was written, and the text of its block.
abbrev pub else_text : ℕ → Bool → List ℕ → List ℕ
else_text depth true block = line depth (codes "} else {") ++ block
else_text depth false block = []

abbrev mutual
  pub statement_text : ℕ → Statement → List ℕ
  statement_text depth (Var place name at init) =
      terminated_line depth (declaration_text (codes "var") name init)
  statement_text depth (Val place name at init) =
      terminated_line depth (declaration_text (codes "val") name init)
  statement_text depth (Assign place name target how value) =
      terminated_line depth
      (name ++ target_text target ++ spaced_text (how_text how) ++ expression_text value)
  statement_text depth (If place test first second has_else) =
      line depth (head_text (codes "if") test) ++ body_text (depth + 1) first
      ++ else_text depth has_else (body_text (depth + 1) second) ++ line depth (codes "}")
  statement_text depth (While place test body) =
      line depth (head_text (codes "while") test) ++ body_text (depth + 1) body
      ++ line depth (codes "}")
  statement_text depth (For place name at set set_at arg body) =
      line depth (codes "for (" ++ name ++ codes " <- " ++ set_word set ++ codes "("
      ++ expression_text arg ++ codes ")) {") ++ body_text (depth + 1) body
      ++ line depth (codes "}")

  pub body_text : ℕ → Body → List ℕ
  body_text depth no_statement = []
  body_text depth (statement s more) = statement_text depth s ++ body_text depth more

abbrev mutual
  pub item_text : ℕ → MainItem → List ℕ
  item_text depth (MainField place name at kind init) =
      terminated_line depth
      (codes "field " ++ name ++ codes " : " ++ kind_word kind ++ codes " = "
      ++ expression_text init)
  item_text depth (MainVar place name at init) =
      terminated_line depth (declaration_text (codes "var") name init)
  item_text depth (MainAssign place name how value) =
      terminated_line depth (name ++ spaced_text (how_text how) ++ expression_text value)
  item_text depth (MainIf place test first second has_else) =
      line depth (head_text (codes "if") test) ++ main_text (depth + 1) first
      ++ else_text depth has_else (main_text (depth + 1) second) ++ line depth (codes "}")
  item_text depth (MainWhile place test body) =
      line depth (head_text (codes "while") test) ++ main_text (depth + 1) body
      ++ line depth (codes "}")
  item_text depth (MainFor place name at over body) =
      line depth (codes "for (" ++ name ++ codes " <- " ++ mesh_set_word over ++ codes "(mesh)) {")
      ++ body_text (depth + 1) body ++ line depth (codes "}")
  item_text depth (Print place value) =
      terminated_line depth (codes "print " ++ expression_text value)

  pub main_text : ℕ → Main → List ℕ
  main_text depth no_item = []
  main_text depth (item i more) = item_text depth i ++ main_text depth more

-- The canonical text of a program.
abbrev pub canonical : Main → List ℕ
canonical tree = main_text 0 tree
