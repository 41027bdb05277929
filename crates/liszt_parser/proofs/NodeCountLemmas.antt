-- A tree has no more nodes than there are tokens: each node has a token of its own.
use Rattle.std.proofs.Common.{ℕ, ◌+◌, ◌≤◌, Bool, Option, List, length, arith}
use Rattle.liszt_lexer.specs.declared.token.TokenKind.{TokenKind}
use Rattle.liszt_tree.specs.declared.tree.Level.{Level}
use Rattle.liszt_tree.specs.Tree.{Expression, Links, no_links, link, Statement, Body, MainItem, Main, expression_nodes, links_nodes}
use Rattle.liszt_tree.specs.Tree.{target_nodes, statement_nodes, body_nodes, item_nodes, main_nodes}
use Rattle.liszt_parser.specs.Grammar.{Lexeme, Rank, Derives, IsExpression, one_operand, chained, one_sum, compared, no_prefix, negation}
use Rattle.liszt_parser.specs.Grammar.{logical_not, number, name, field, call, towards, in_brackets, IsLinks, no_more_links, linked}
use Rattle.liszt_parser.specs.Grammar.{IsBracketed, bracketed, Closes, by_semicolon, by_brace, by_end, IsDeclared, is_declared, IsTarget}
use Rattle.liszt_parser.specs.Grammar.{no_target, target, IsStatement, var, val, assign, if, while, for, IsBody, no_statements}
use Rattle.liszt_parser.specs.Grammar.{statements, IsBlock, block, IsElse, no_else, else, IsItem, main_field, main_var, main_assign}
use Rattle.liszt_parser.specs.Grammar.{main_if, main_while, main_for, print, IsMain, no_items, items, IsMainBlock, main_block, IsMainElse}
use Rattle.liszt_parser.specs.Grammar.{no_main_else, main_else}

-- a chain's own node has the token of its first operator
abbrev some_link : Links → ℕ
some_link no_links = 0
some_link (link sign place e more) = 1

-- the nodes of an expression, of the links of a chain, and of what is in brackets
mutual
  expression : {rank : Rank} {ts left : List Lexeme} {e : Expression} → IsExpression rank ts e left
      → expression_nodes e + length left ≤ length ts
  expression (one_operand d) = expression d
  expression (chained d more) = omega (arith, expression d, links more)
  expression (one_sum d) = expression d
  expression (compared t d is e) = omega (arith, expression d, expression e)
  expression (no_prefix d) = expression d
  expression (negation t is d) = omega (arith, expression d)
  expression (logical_not t is d) = omega (arith, expression d)
  expression (number t is) = omega arith
  expression (name t is) = omega arith
  expression (field t is d) = omega (arith, brackets d)
  expression (call t is d) = omega (arith, brackets d)
  expression (towards t o m c is opened d comma to close) = omega (arith, expression d, expression to)
  expression (in_brackets d) = omega (arith, brackets d)

  links : {level : Level} {ts left : List Lexeme} {more : Links} → IsLinks level ts more left
      → links_nodes more + some_link more + length left ≤ length ts
  links no_more_links = omega arith
  links (linked t is d more) = omega (arith, expression d, links more)

  brackets : {ts left : List Lexeme} {e : Expression} → IsBracketed ts e left → expression_nodes e + 2 + length left ≤ length ts
  brackets (bracketed o c is d close) = omega (arith, expression d)

-- what closes a statement leaves no more than there was
is_closing : {ts left : List Lexeme} → Closes ts left → length left ≤ length ts
is_closing (by_semicolon t is) = omega arith
is_closing (by_brace t is) = omega arith
is_closing by_end = omega arith

-- a declaration has a node and those of its expression
declaration : {word : TokenKind} {ts left : List Lexeme} {w n : Lexeme} {e : Expression} → IsDeclared word ts w n e left
    → 1 + expression_nodes e + length left ≤ length ts
declaration (is_declared w n s is named set d close) = omega (arith, expression d, is_closing close)

-- a target has the nodes of its expression
targeted : {ts left : List Lexeme} {to : Option Expression} → IsTarget ts to left → target_nodes to + length left ≤ length ts
targeted no_target = omega arith
targeted (target d) = omega (arith, brackets d)

-- the nodes of a statement, a body, a block and what follows an `if`
mutual
  pub a_statement : {ts left : List Lexeme} {s : Statement} → IsStatement ts s left → statement_nodes s + length left ≤ length ts
  a_statement (var d) = declaration d
  a_statement (val d) = declaration d
  a_statement (assign n h is to how d close) = omega (arith, targeted to, expression d, is_closing close)
  a_statement (if w is test first second) = omega (arith, brackets test, a_block first, an_else second)
  a_statement (while w is test body) = omega (arith, brackets test, a_block body)
  a_statement (for w o n a s c is opened named arrow set d close body) = omega (arith, brackets d, a_block body)

  a_body : {ts left : List Lexeme} {body : Body} → IsBody ts body left → body_nodes body + length left ≤ length ts
  a_body no_statements = omega arith
  a_body (statements s more) = omega (arith, a_statement s, a_body more)

  a_block : {ts left : List Lexeme} {body : Body} → IsBlock ts body left → body_nodes body + length left ≤ length ts
  a_block (block o c is body close) = omega (arith, a_body body)

  an_else : {ts left : List Lexeme} {body : Body} {has_else : Bool} → IsElse ts body has_else left
      → body_nodes body + length left ≤ length ts
  an_else no_else = omega arith
  an_else (else w is body) = omega (arith, a_block body)

-- the nodes of an item, the items, a block of them and what follows an `if`
mutual
  pub an_item : {ts left : List Lexeme} {i : MainItem} → IsItem ts i left → item_nodes i + length left ≤ length ts
  an_item (main_field w n d k s is named colon kind set e close) = omega (arith, expression e, is_closing close)
  an_item (main_var d) = declaration d
  an_item (main_assign n h is how d close) = omega (arith, expression d, is_closing close)
  an_item (main_if w is test first second) = omega (arith, brackets test, a_main_block first, a_main_else second)
  an_item (main_while w is test body) = omega (arith, brackets test, a_main_block body)
  an_item (main_for w o n a k p m q c is opened named arrow whole inner mesh close close' body) = omega (arith, a_block body)
  an_item (print w is d close) = omega (arith, expression d, is_closing close)

  a_main : {ts left : List Lexeme} {tree : Main} → IsMain ts tree left → main_nodes tree + length left ≤ length ts
  a_main no_items = omega arith
  a_main (items i more) = omega (arith, an_item i, a_main more)

  a_main_block : {ts left : List Lexeme} {body : Main} → IsMainBlock ts body left → main_nodes body + length left ≤ length ts
  a_main_block (main_block o c is body close) = omega (arith, a_main body)

  a_main_else : {ts left : List Lexeme} {body : Main} {has_else : Bool} → IsMainElse ts body has_else left
      → main_nodes body + length left ≤ length ts
  a_main_else no_main_else = omega arith
  a_main_else (main_else w is body) = omega (arith, a_main_block body)

-- the nodes of a program are within its tokens
pub nodes_within : (ts : List Lexeme) (tree : Main) → Derives ts tree → main_nodes tree ≤ length ts
nodes_within ts tree d = omega (arith, a_main d)
