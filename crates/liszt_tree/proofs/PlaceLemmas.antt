-- The canonical text of a tree does not depend on its places.
use Rattle.std.proofs.Common.{◌≡◌, ℕ, ◌+◌, Option, Some, None, refl, sym, ap, ◌∙◌}
use Rattle.liszt_tree.specs.Canonical.{chain_level, level_of, expression_text, links_text, target_text, statement_text, body_text, item_text, main_text, canonical}
use Rattle.liszt_tree.specs.Tree.{Expression, Number, Name, Field, Call, Towards, Neg, Not, Chain, Compare, Links, no_links, link}
use Rattle.liszt_tree.specs.Tree.{Statement, Var, Val, Assign, If, While, For, Body, no_statement, statement}
use Rattle.liszt_tree.specs.Tree.{MainItem, MainField, MainVar, MainAssign, MainIf, MainWhile, MainFor, Print, Main, no_item, item}
use Rattle.liszt_tree.specs.Tree.{expression_without_places, links_without_places, statement_without_places, body_without_places, item_without_places, main_without_places, Same}
use Rattle.std.specs.Option.{option_map}

-- levels do not
level : (e : Expression) → level_of (expression_without_places e) ≡ level_of e
level (Number place value) = refl
level (Name place name) = refl
level (Field place name arg) = refl
level (Call place fun arg) = refl
level (Towards place arg to) = refl
level (Neg place arg) = refl
level (Not place arg) = refl
level (Chain l first links) = refl
level (Compare place rel left right) = refl

-- expressions and the links of a chain
mutual
  expression : (e : Expression) → expression_text (expression_without_places e) ≡ expression_text e
  expression (Number place value) = refl
  expression (Name place name) = refl
  expression (Field place name arg) = rw (expression arg) refl
  expression (Call place fun arg) = rw (expression arg) refl
  expression (Towards place arg to) = rw (expression arg, expression to) refl
  expression (Neg place arg) = rw (level arg, expression arg) refl
  expression (Not place arg) = rw (level arg, expression arg) refl
  expression (Chain l first more) = rw (level first, expression first, links (chain_level l) more) refl
  expression (Compare place rel left right) = rw (level left, expression left, level right, expression right) refl

  links : (l : ℕ) (more : Links) → links_text l (links_without_places more) ≡ links_text l more
  links l no_links = refl
  links l (link sign place arg more) = rw (level arg, expression arg, links l more) refl

target : (to : Option Expression) → target_text (option_map expression_without_places to) ≡ target_text to
target None = refl
target (Some to) = rw (expression to) refl

-- statements and bodies
mutual
  single_statement : (depth : ℕ) (s : Statement) → statement_text depth (statement_without_places s) ≡ statement_text depth s
  single_statement depth (Var place name at init) = rw (expression init) refl
  single_statement depth (Val place name at init) = rw (expression init) refl
  single_statement depth (Assign place name to how value) = rw (target to, expression value) refl
  single_statement depth (If place test first second has_else) = rw (expression test, body (depth + 1) first, body (depth + 1) second) refl
  single_statement depth (While place test inner) = rw (expression test, body (depth + 1) inner) refl
  single_statement depth (For place name at set set_at arg inner) = rw (expression arg, body (depth + 1) inner) refl

  body : (depth : ℕ) (b : Body) → body_text depth (body_without_places b) ≡ body_text depth b
  body depth no_statement = refl
  body depth (statement s more) = rw (single_statement depth s, body depth more) refl

-- items and programs
mutual
  main_one : (depth : ℕ) (i : MainItem) → item_text depth (item_without_places i) ≡ item_text depth i
  main_one depth (MainField place name at kind init) = rw (expression init) refl
  main_one depth (MainVar place name at init) = rw (expression init) refl
  main_one depth (MainAssign place name how value) = rw (expression value) refl
  main_one depth (MainIf place test first second has_else) = rw (expression test, main (depth + 1) first, main (depth + 1) second) refl
  main_one depth (MainWhile place test inner) = rw (expression test, main (depth + 1) inner) refl
  main_one depth (MainFor place name at over inner) = rw (body (depth + 1) inner) refl
  main_one depth (Print place value) = rw (expression value) refl

  main : (depth : ℕ) (m : Main) → main_text depth (main_without_places m) ≡ main_text depth m
  main depth no_item = refl
  main depth (item i more) = rw (main_one depth i, main depth more) refl

-- so trees that are the same have one text
pub one_text : (tree other : Main) → Same tree other → canonical tree ≡ canonical other
one_text tree other same = sym (main 0 tree) ∙ ap canonical same ∙ main 0 other

pub without_places : (tree : Main) → canonical (main_without_places tree) ≡ canonical tree
without_places tree = main 0 tree
