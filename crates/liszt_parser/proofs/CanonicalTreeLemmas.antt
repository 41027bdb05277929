-- Tokens that are the words of a tree derive that tree, up to places.
use Rattle.std.proofs.Common.{◌≡◌, ℕ, zero, suc, ◌<◌, ◌⊎◌, inl, inr, nat_le, nat_lt, Bool, true, false, Option, Some, None, List, []}
use Rattle.std.proofs.Common.{◌∷◌, codes, refl, sym, ap, subst, ◌∙◌, arith}
use Rattle.std.specs.Fmt.{signed_decimal}
use Rattle.std.specs.Option.{option_map}
use Rattle.std.proofs.Math.Path.{ap₂}
use Rattle.std.proofs.lemmas.Bool.{leb-false, ltb-false}
use Rattle.liszt_base.specs.declared.answers.Place.{Place}
use Rattle.liszt_base.specs.declared.elements.Kind.{Kind}
use Rattle.liszt_base.specs.declared.elements.Kind.TheVariants.{Vertex, Edge, Face, Cell}
use Rattle.liszt_base.specs.declared.elements.Op.TheVariants.{Add, Mul, And as AndBits, Or as OrBits, Xor, Min, Max}
use Rattle.liszt_base.specs.declared.elements.SetName.{SetName}
use Rattle.liszt_base.specs.declared.elements.SetName.TheVariants.{Vertices, Edges, Faces, Cells, EdgesCcw}
use Rattle.liszt_lexer.specs.declared.token.TokenKind.{TokenKind}
use Rattle.liszt_lexer.specs.declared.token.TokenKind.TheVariants.{Name as NameToken, Number as NumberToken}
use Rattle.liszt_lexer.proofs.SpellingLemmas.{Spelling}
use Rattle.liszt_tree.specs.declared.tree.Fun.{Fun}
use Rattle.liszt_tree.specs.declared.tree.Fun.TheVariants.{Head, Tail, Inside, Outside, Flip, Valid, Id}
use Rattle.liszt_tree.specs.declared.tree.How.{How}
use Rattle.liszt_tree.specs.declared.tree.How.TheVariants.{Set, Fold, Less}
use Rattle.liszt_tree.specs.declared.tree.Level.{Level}
use Rattle.liszt_tree.specs.declared.tree.Level.TheVariants.{Or, And, Sum, Product}
use Rattle.liszt_tree.specs.declared.tree.Rel.{Rel}
use Rattle.liszt_tree.specs.declared.tree.Rel.TheVariants.{Same, Other, Below, AtMost, Above, AtLeast}
use Rattle.liszt_tree.specs.Canonical.{kind_word, mesh_set_word, set_word, fun_word, how_text, sign_text, rel_text, chain_level, level_of}
use Rattle.liszt_tree.specs.Tree.{Expression, Number, Name, Field, Call, Towards, Neg, Not, Chain, Compare, Links, no_links, link, Statement, Var, Val, Assign, If, While, For, Body, no_statement, statement, MainItem, MainField, MainVar, MainAssign, MainIf, MainWhile, MainFor, Print, Main, no_item, item, nowhere, expression_without_places, links_without_places, statement_without_places, body_without_places, item_without_places, main_without_places}
use Rattle.liszt_parser.specs.Grammar.{Lexeme, open_bracket, close_bracket, open_brace, close_brace, comma, semicolon, colon, arrow, minus, bang, set_to, field_word, var_word, val_word, if_word, else_word, while_word, for_word, print_word, mesh_word, towards_word, fun_of, kind_of, mesh_set_of, set_of, rel_of, how_of, Rank, chain, comparison, prefix_expression, primary_expression, operand, lowest_rank, IsExpression, one_operand, chained, one_sum, compared, no_prefix, negation, logical_not, number, name, field, call, towards, in_brackets, IsLinks, no_more_links, linked, IsBracketed, bracketed, Closes, by_semicolon, IsDeclared, is_declared, IsTarget, no_target, target, IsStatement, var, val, assign, if, while, for, IsBody, no_statements, statements, IsBlock, block, IsElse, no_else, else, IsItem, main_field, main_var, main_assign, main_if, main_while, main_for, print, IsMain, no_items, items, IsMainBlock, main_block, IsMainElse, no_main_else, main_else}
use Rattle.liszt_parser.proofs.CanonicalTokens.{spelt, fun_token, kind_token, whole_token, set_token, sign_token, rel_token, how_token, bracketed_words, words_in, words_of, links_words, closed_words, declared_words, target_words, ended_words, else_words, statement_words, body_words, item_words, main_words, HasLink, IsWritable, AreWritable, IsWritableTarget, IsElseOf, IsMainElseOf, IsWritableStatement, IsWritableBody, IsWritableItem, IsWritableMain}

-- WORDS AT PLACES are tokens.
abbrev pub placed_word : Place → Spelling → Lexeme
placed_word place w = record { kind = w.kind; place = place; bytes = w.bytes }

abbrev pub later : (ℕ → Place) → ℕ → Place
later at n = at (suc n)

abbrev pub placed : (ℕ → Place) → List Spelling → List Lexeme
placed at [] = []
placed at (w ∷ ws) = placed_word (at 0) w ∷ placed (later at) ws

-- THE TOKENS of functions, kinds, sets and operators denote them.
pub fun_has_value : (fun : Fun) → fun_of (fun_token fun) ≡ Some fun
fun_has_value Head = refl
fun_has_value Tail = refl
fun_has_value Inside = refl
fun_has_value Outside = refl
fun_has_value Flip = refl
fun_has_value Valid = refl
fun_has_value Id = refl

pub kind_has_value : (kind : Kind) → kind_of (kind_token kind) ≡ Some kind
kind_has_value Vertex = refl
kind_has_value Edge = refl
kind_has_value Face = refl
kind_has_value Cell = refl

pub whole_has_value : (kind : Kind) → mesh_set_of (whole_token kind) ≡ Some kind
whole_has_value Vertex = refl
whole_has_value Edge = refl
whole_has_value Face = refl
whole_has_value Cell = refl

pub set_has_value : (set : SetName) → set_of (set_token set) ≡ Some set
set_has_value Vertices = refl
set_has_value Edges = refl
set_has_value Faces = refl
set_has_value Cells = refl
set_has_value EdgesCcw = refl

pub rel_has_value : (rel : Rel) → rel_of (rel_token rel) ≡ Some rel
rel_has_value Same = refl
rel_has_value Other = refl
rel_has_value Below = refl
rel_has_value AtMost = refl
rel_has_value Above = refl
rel_has_value AtLeast = refl

pub how_has_value : (how : How) → how_of (how_token how) ≡ Some how
how_has_value Set = refl
how_has_value Less = refl
how_has_value (Fold Add) = refl
how_has_value (Fold Mul) = refl
how_has_value (Fold AndBits) = refl
how_has_value (Fold OrBits) = refl
how_has_value (Fold Xor) = refl
how_has_value (Fold Min) = refl
how_has_value (Fold Max) = refl

-- RANKS from the loosest on: of a tighter rank is of each looser one.
abbrev rank_at : ℕ → Rank
rank_at zero = chain Or
rank_at (suc zero) = chain And
rank_at (suc (suc zero)) = comparison
rank_at (suc (suc (suc zero))) = chain Sum
rank_at (suc (suc (suc (suc zero)))) = chain Product
rank_at (suc (suc (suc (suc (suc zero))))) = prefix_expression
rank_at (suc (suc (suc (suc (suc (suc n)))))) = primary_expression

looser : (n : ℕ) (ts left : List Lexeme) (e : Expression) → IsExpression (rank_at (suc n)) ts e left → IsExpression (rank_at n) ts e left
looser zero ts left e d = one_operand d
looser (suc zero) ts left e d = one_operand d
looser (suc (suc zero)) ts left e d = one_sum d
looser (suc (suc (suc zero))) ts left e d = one_operand d
looser (suc (suc (suc (suc zero)))) ts left e d = one_operand d
looser (suc (suc (suc (suc (suc zero))))) ts left e d = no_prefix d
looser (suc (suc (suc (suc (suc (suc n)))))) ts left e d = d

up_to : (m n : ℕ) → n < suc m → (n ≡ m) ⊎ (n < m)
up_to m n lt = grind arith

loosened : (m n : ℕ) (ts left : List Lexeme) (e : Expression) → (n ≡ m) ⊎ (n < m) → IsExpression (rank_at m) ts e left
    → IsExpression (rank_at n) ts e left
loosened m n ts left e (inl same) d = subst (λ k. IsExpression (rank_at k) ts e left) (sym same) d
loosened zero n ts left e (inr lt) d = absurd (omega arith)
loosened (suc m) n ts left e (inr lt) d = loosened m n ts left e (up_to m n lt) (looser m ts left e d)

-- what stands alone is of each rank
from_primary : (n : ℕ) (ts left : List Lexeme) (e : Expression) → IsExpression primary_expression ts e left → IsExpression (rank_at n) ts e left
from_primary n ts left e d = loosened (suc (suc (suc (suc (suc (suc n)))))) n ts left e (inr (omega arith)) d

-- a chain is of the ranks below its level, and its operands are of the rank at it
chain_loosened : (level : Level) (n : ℕ) (ts left : List Lexeme) (e : Expression) → n < chain_level level → IsExpression (chain level) ts e left
    → IsExpression (rank_at n) ts e left
chain_loosened Or n ts left e lt d = loosened 0 n ts left e (up_to 0 n lt) d
chain_loosened And n ts left e lt d = loosened 1 n ts left e (up_to 1 n lt) d
chain_loosened Sum n ts left e lt d = loosened 3 n ts left e (up_to 3 n lt) d
chain_loosened Product n ts left e lt d = loosened 4 n ts left e (up_to 4 n lt) d

operand_rank : (level : Level) → rank_at (chain_level level) ≡ operand level
operand_rank Or = refl
operand_rank And = refl
operand_rank Sum = refl
operand_rank Product = refl

some_level : (e : Expression) → 0 < level_of e
some_level (Number place value) = omega arith
some_level (Name place word) = omega arith
some_level (Field place word arg) = omega arith
some_level (Call place fun arg) = omega arith
some_level (Towards place arg to) = omega arith
some_level (Neg place arg) = omega arith
some_level (Not place arg) = omega arith
some_level (Chain Or first links) = omega arith
some_level (Chain And first links) = omega arith
some_level (Chain Sum first links) = omega arith
some_level (Chain Product first links) = omega arith
some_level (Compare place rel left right) = omega arith

-- WHAT IS READ: the tokens begin with those of a tree that is the same up to places, and further words at places are left.
record Reads (ts : List Lexeme) (e : Expression) (ws : List Spelling) : Type 0 where
  tree : Expression
  at : ℕ → Place
  is : (n : ℕ) → n < level_of e → IsExpression (rank_at n) ts tree (placed at ws)
  same : expression_without_places tree ≡ expression_without_places e

record ReadsAt (rank : Rank) (ts : List Lexeme) (e : Expression) (ws : List Spelling) : Type 0 where
  tree : Expression
  at : ℕ → Place
  is : IsExpression rank ts tree (placed at ws)
  same : expression_without_places tree ≡ expression_without_places e

record ReadsBrackets (ts : List Lexeme) (e : Expression) (ws : List Spelling) : Type 0 where
  tree : Expression
  at : ℕ → Place
  is : IsBracketed ts tree (placed at ws)
  same : expression_without_places tree ≡ expression_without_places e

record ReadsLinks (level : Level) (ts : List Lexeme) (links : Links) (ws : List Spelling) : Type 0 where
  tree : Links
  at : ℕ → Place
  is : IsLinks level ts tree (placed at ws)
  same : links_without_places tree ≡ links_without_places links
  some : HasLink links → HasLink tree

-- at each place, whatever follows
abbrev ReadsWords : Expression → Type 0
ReadsWords e = (at : ℕ → Place) (ws : List Spelling) → Reads (placed at (words_of e ws)) e ws

-- of the loosest rank
at_any : {ts : List Lexeme} {e : Expression} {ws : List Spelling} → Reads ts e ws → ReadsAt lowest_rank ts e ws
at_any {e} r = record { tree = r.tree; at = r.at; is = r.is 0 (some_level e); same = r.same }

-- in brackets
brackets : (e : Expression) (at : ℕ → Place) (ws : List Spelling) → ReadsWords e → ReadsBrackets (placed at (bracketed_words (words_of e) ws)) e ws
brackets e at ws read =
    let close : Spelling = spelt close_bracket (codes ")") in
    let r = at_any (read (later at) (close ∷ ws)) in
    record {
      tree = r.tree;
      at = later r.at;
      is = bracketed (placed_word (at 0) (spelt open_bracket (codes "("))) (placed_word (r.at 0) close) refl r.is refl;
      same = r.same;
    }

-- an operand, in brackets where its level asks for them
an_operand : (n : ℕ) (e : Expression) (b : Bool) (at : ℕ → Place) (ws : List Spelling) → (b ≡ false → n < level_of e) → ReadsWords e
    → ReadsAt (rank_at n) (placed at (words_in b (words_of e) ws)) e ws
an_operand n e false at ws fits read =
    let r = read at ws in
    record { tree = r.tree; at = r.at; is = r.is n (fits refl); same = r.same }
an_operand n e true at ws fits read =
    let r = brackets e at ws read in
    record {
      tree = r.tree;
      at = r.at;
      is = from_primary n (placed at (bracketed_words (words_of e) ws)) (placed r.at ws) r.tree (in_brackets r.is);
      same = r.same;
    }

-- what stands alone is read at each rank
read_primary : {ts : List Lexeme} {e : Expression} {ws : List Spelling} (tree : Expression) (at : ℕ → Place) → IsExpression primary_expression ts tree (placed at ws)
    → expression_without_places tree ≡ expression_without_places e → Reads ts e ws
read_primary {ts} {ws} tree at d same =
    record { tree = tree; at = at; is = λ n lt. from_primary n ts (placed at ws) tree d; same = same }

-- what has a prefix operator
read_prefixed : {ts : List Lexeme} {e : Expression} {ws : List Spelling} (tree : Expression) (at : ℕ → Place) → level_of e ≡ 6
    → IsExpression prefix_expression ts tree (placed at ws) → expression_without_places tree ≡ expression_without_places e → Reads ts e ws
read_prefixed {ts} {e} {ws} tree at six d same =
    record {
      tree = tree;
      at = at;
      is = λ n lt. loosened 5 n ts (placed at ws) tree (up_to 5 n (omega (arith, lt, six))) d;
      same = same;
    }

-- chains of an operand and its links
chain_of : (level : Level) (ts mid left : List Lexeme) (first : Expression) (links : Links) → HasLink links
    → IsExpression (operand level) ts first mid → IsLinks level mid links left → IsExpression (chain level) ts (Chain level first links) left
chain_of level ts mid left first no_links some d more = absurd some
chain_of level ts mid left first (link s place e more) some d links = chained d links

-- EXPRESSIONS
mutual
  expression : (e : Expression) → IsWritable e → (at : ℕ → Place) (ws : List Spelling) → Reads (placed at (words_of e ws)) e ws
  expression (Number place value) h at ws =
      read_primary (Number (at 0) value) (later at) (number (placed_word (at 0) (spelt (NumberToken value) (signed_decimal value))) refl) refl
  expression (Name place word) h at ws =
      read_primary (Name (at 0) word) (later at) (name (placed_word (at 0) (spelt NameToken word)) refl) refl
  expression (Field place word arg) h at ws =
      let r = brackets arg (later at) ws (expression arg h.1) in
      read_primary (Field (at 0) word r.tree) r.at (field (placed_word (at 0) (spelt NameToken word)) refl r.is)
      (ap (Field nowhere word) r.same)
  expression (Call place fun arg) h at ws =
      let r = brackets arg (later at) ws (expression arg h) in
      read_primary (Call (at 0) fun r.tree) r.at (call (placed_word (at 0) (spelt (fun_token fun) (fun_word fun))) (fun_has_value fun) r.is)
      (ap (Call nowhere fun) r.same)
  expression (Towards place arg to) h at ws =
      let close : Spelling = spelt close_bracket (codes ")") in
      let mid : Spelling = spelt comma (codes ",") in
      let a = at_any (expression arg h.0 (later (later at)) (mid ∷ words_of to (close ∷ ws))) in
      let b = at_any (expression to h.1 (later a.at) (close ∷ ws)) in
      read_primary (Towards (at 0) a.tree b.tree) (later b.at)
      (towards (placed_word (at 0) (spelt towards_word (codes "towards"))) (placed_word (at 1) (spelt open_bracket (codes "(")))
      (placed_word (a.at 0) mid) (placed_word (b.at 0) close) refl refl a.is refl b.is refl)
      (ap₂ (Towards nowhere) a.same b.same)
  expression (Neg place arg) h at ws =
      let r = an_operand 5 arg (nat_lt (level_of arg) 6) (later at) ws (ltb-false (level_of arg) 6) (expression arg h) in
      read_prefixed (Neg (at 0) r.tree) r.at refl (negation (placed_word (at 0) (spelt minus (codes "-"))) refl r.is) (ap (Neg nowhere) r.same)
  expression (Not place arg) h at ws =
      let r = an_operand 5 arg (nat_lt (level_of arg) 6) (later at) ws (ltb-false (level_of arg) 6) (expression arg h) in
      read_prefixed (Not (at 0) r.tree) r.at refl (logical_not (placed_word (at 0) (spelt bang (codes "!"))) refl r.is) (ap (Not nowhere) r.same)
  expression (Chain level first more) h at ws =
      let n = chain_level level in
      let a = an_operand n first (nat_le (level_of first) n) at (links_words n more ws) (leb-false (level_of first) n) (expression first h.0) in
      let b = links level more h.2 a.at ws in
      let ts = placed at (words_of (Chain level first more) ws) in
      let d : IsExpression (operand level) ts a.tree (placed a.at (links_words n more ws)) =
      subst (λ r. IsExpression r ts a.tree (placed a.at (links_words n more ws))) (operand_rank level) a.is in
      let whole = chain_of level ts (placed a.at (links_words n more ws)) (placed b.at ws) a.tree b.tree (b.some h.1) d b.is in
      record {
        tree = Chain level a.tree b.tree;
        at = b.at;
        is = λ n lt. chain_loosened level n ts (placed b.at ws) (Chain level a.tree b.tree) lt whole;
        same = ap₂ (Chain level) a.same b.same;
      }
  expression (Compare place rel left right) h at ws =
      let operator : Spelling = spelt (rel_token rel) (rel_text rel) in
      let rest = words_in (nat_le (level_of right) 3) (words_of right) ws in
      let a = an_operand 3 left (nat_le (level_of left) 3) at (operator ∷ rest) (leb-false (level_of left) 3) (expression left h.0) in
      let b = an_operand 3 right (nat_le (level_of right) 3) (later a.at) ws (leb-false (level_of right) 3) (expression right h.1) in
      let tree = Compare (a.at 0) rel a.tree b.tree in
      let d = compared (placed_word (a.at 0) operator) a.is (rel_has_value rel) b.is in
      record {
        tree = tree;
        at = b.at;
        is = λ n lt. loosened 2 n (placed at (words_of (Compare place rel left right) ws)) (placed b.at ws) tree (up_to 2 n lt) d;
        same = ap₂ (Compare nowhere rel) a.same b.same;
      }

  links : (level : Level) (more : Links) → AreWritable level more → (at : ℕ → Place) (ws : List Spelling)
      → ReadsLinks level (placed at (links_words (chain_level level) more ws)) more ws
  links level no_links h at ws = record { tree = no_links; at = at; is = no_more_links; same = refl; some = λ some. some }
  links level (link s place arg more) h at ws =
      let n = chain_level level in
      let operator : Spelling = spelt (sign_token s) (sign_text s) in
      let rest = links_words n more ws in
      let a = an_operand n arg (nat_le (level_of arg) n) (later at) rest (leb-false (level_of arg) n) (expression arg h.1) in
      let b = links level more h.2 a.at ws in
      let ts = placed (later at) (words_in (nat_le (level_of arg) n) (words_of arg) rest) in
      let d : IsExpression (operand level) ts a.tree (placed a.at rest) =
      subst (λ r. IsExpression r ts a.tree (placed a.at rest)) (operand_rank level) a.is in
      record {
        tree = link s (at 0) a.tree b.tree;
        at = b.at;
        is = linked (placed_word (at 0) operator) h.0 d b.is;
        same = ap₂ (link s nowhere) a.same b.same;
        some = λ some. tt;
      }

-- an expression and its `;`
record ReadsClosed (ts : List Lexeme) (e : Expression) (ws : List Spelling) : Type 0 where
  tree : Expression
  mid : List Lexeme
  at : ℕ → Place
  is : IsExpression lowest_rank ts tree mid
  close : Closes mid (placed at ws)
  same : expression_without_places tree ≡ expression_without_places e

closed : (e : Expression) → IsWritable e → (at : ℕ → Place) (ws : List Spelling) → ReadsClosed (placed at (closed_words e ws)) e ws
closed e h at ws =
    let end : Spelling = spelt semicolon (codes ";") in
    let r = at_any (expression e h at (end ∷ ws)) in
    record {
      tree = r.tree;
      mid = placed r.at (end ∷ ws);
      at = later r.at;
      is = r.is;
      close = by_semicolon (placed_word (r.at 0) end) refl;
      same = r.same;
    }

-- a declaration
record ReadsDeclared (word : TokenKind) (ts : List Lexeme) (name : List ℕ) (init : Expression) (ws : List Spelling) : Type 0 where
  first : Lexeme
  second : Lexeme
  tree : Expression
  at : ℕ → Place
  is : IsDeclared word ts first second tree (placed at ws)
  named : second.bytes ≡ name
  same : expression_without_places tree ≡ expression_without_places init

a_declaration : (kind : TokenKind) (word called : List ℕ) (init : Expression) → IsWritable init → (at : ℕ → Place) (ws : List Spelling)
    → ReadsDeclared kind (placed at (declared_words kind word called init ws)) called init ws
a_declaration kind word called init h at ws =
    let r = closed init h (later (later (later at))) ws in
    let w = placed_word (at 0) (spelt kind word) in
    let n = placed_word (at 1) (spelt NameToken called) in
    record {
      first = w;
      second = n;
      tree = r.tree;
      at = r.at;
      is = is_declared w n (placed_word (at 2) (spelt set_to (codes "="))) refl refl refl r.is r.close;
      named = refl;
      same = r.same;
    }

-- the target of an assignment
record ReadsTarget (ts : List Lexeme) (to : Option Expression) (ws : List Spelling) : Type 0 where
  tree : Option Expression
  at : ℕ → Place
  is : IsTarget ts tree (placed at ws)
  same : option_map expression_without_places tree ≡ option_map expression_without_places to

a_target : (to : Option Expression) → IsWritableTarget to → (at : ℕ → Place) (ws : List Spelling)
    → ReadsTarget (placed at (target_words to ws)) to ws
a_target None h at ws = record { tree = None; at = at; is = no_target; same = refl }
a_target (Some to) h at ws =
    let r = brackets to at ws (expression to h) in
    record { tree = Some r.tree; at = r.at; is = target r.is; same = ap Some r.same }

-- STATEMENTS and bodies
record ReadsStatement (ts : List Lexeme) (s : Statement) (ws : List Spelling) : Type 0 where
  tree : Statement
  at : ℕ → Place
  is : IsStatement ts tree (placed at ws)
  same : statement_without_places tree ≡ statement_without_places s

record ReadsBody (ts : List Lexeme) (body : Body) (ws : List Spelling) : Type 0 where
  tree : Body
  at : ℕ → Place
  is : IsBody ts tree (placed at ws)
  same : body_without_places tree ≡ body_without_places body

record ReadsBlock (ts : List Lexeme) (body : Body) (ws : List Spelling) : Type 0 where
  tree : Body
  at : ℕ → Place
  is : IsBlock ts tree (placed at ws)
  same : body_without_places tree ≡ body_without_places body

-- a block, up to its `}`
record ReadsElse (ts : List Lexeme) (has_else : Bool) (body : Body) (ws : List Spelling) : Type 0 where
  close : Lexeme
  mid : List Lexeme
  begins : ts ≡ close ∷ mid
  is_closing : close.kind ≡ close_brace
  tree : Body
  at : ℕ → Place
  is : IsElse mid tree has_else (placed at ws)
  same : body_without_places tree ≡ body_without_places body

abbrev ReadsBodies : Body → Type 0
ReadsBodies body = (at : ℕ → Place) (ws : List Spelling) → ReadsBody (placed at (body_words body ws)) body ws

a_block : (body : Body) (at : ℕ → Place) (ws : List Spelling) → ReadsBodies body
    → ReadsBlock (placed at (spelt open_brace (codes "{") ∷ body_words body (ended_words ws))) body ws
a_block body at ws read =
    let r = read (later at) (ended_words ws) in
    record {
      tree = r.tree;
      at = later r.at;
      is = block (placed_word (at 0) (spelt open_brace (codes "{"))) (placed_word (r.at 0) (spelt close_brace (codes "}"))) refl r.is refl;
      same = r.same;
    }

an_else : (has_else : Bool) (body : Body) → IsElseOf has_else body → (at : ℕ → Place) (ws : List Spelling) → ReadsBodies body
    → ReadsElse (placed at (else_words has_else (body_words body) ws)) has_else body ws
an_else false body none at ws read =
    record {
      close = placed_word (at 0) (spelt close_brace (codes "}"));
      mid = placed (later at) ws;
      begins = refl;
      is_closing = refl;
      tree = no_statement;
      at = later at;
      is = no_else;
      same = ap body_without_places (sym none);
    }
an_else true body some at ws read =
    let r = a_block body (later (later at)) ws read in
    record {
      close = placed_word (at 0) (spelt close_brace (codes "}"));
      mid = placed (later at) (spelt else_word (codes "else") ∷ spelt open_brace (codes "{") ∷ body_words body (ended_words ws));
      begins = refl;
      is_closing = refl;
      tree = r.tree;
      at = r.at;
      is = else (placed_word (at 1) (spelt else_word (codes "else"))) refl r.is;
      same = r.same;
    }

-- an `if` of its parts
an_if : (w o : Lexeme) (ts mid mid' left rest : List Lexeme) (test : Expression) (first second : Body) (has_else : Bool) (c : Lexeme)
    → w.kind ≡ if_word
    → IsBracketed ts test (o ∷ mid) → o.kind ≡ open_brace → IsBody mid first mid' → mid' ≡ c ∷ rest → c.kind ≡ close_brace
    → IsElse rest second has_else left → IsStatement (w ∷ ts) (If w.place test first second has_else) left
an_if w o ts mid mid' left rest test first second has_else c is d opened body begins is_closing other =
    if w is d (block o c opened (subst (λ l. IsBody mid first l) begins body) is_closing) other

mutual
  a_statement : (s : Statement) → IsWritableStatement s → (at : ℕ → Place) (ws : List Spelling)
      → ReadsStatement (placed at (statement_words s ws)) s ws
  a_statement (Var place word place' init) h at ws =
      let r = a_declaration var_word (codes "var") word init h.1 at ws in
      record {
        tree = Var r.first.place r.second.bytes r.second.place r.tree;
        at = r.at;
        is = var r.is;
        same = ap₂ (λ n e. Var nowhere n nowhere e) r.named r.same;
      }
  a_statement (Val place word place' init) h at ws =
      let r = a_declaration val_word (codes "val") word init h.1 at ws in
      record {
        tree = Val r.first.place r.second.bytes r.second.place r.tree;
        at = r.at;
        is = val r.is;
        same = ap₂ (λ n e. Val nowhere n nowhere e) r.named r.same;
      }
  a_statement (Assign place word to how value) h at ws =
      let operator : Spelling = spelt (how_token how) (how_text how) in
      let a = a_target to h.1 (later at) (operator ∷ closed_words value ws) in
      let b = closed value h.2 (later a.at) ws in
      record {
        tree = Assign (at 0) word a.tree how b.tree;
        at = b.at;
        is =
            assign (placed_word (at 0) (spelt NameToken word)) (placed_word (a.at 0) operator) refl a.is (how_has_value how) b.is b.close;
        same = ap₂ (λ t e. Assign nowhere word t how e) a.same b.same;
      }
  a_statement (If place test first second has_else) h at ws =
      let open_word : Spelling = spelt open_brace (codes "{") in
      let rest = else_words has_else (body_words second) ws in
      let a = brackets test (later at) (open_word ∷ body_words first rest) (expression test h.0) in
      let b = a_body first h.1 (later a.at) rest in
      let c = an_else has_else second h.3 b.at ws (a_body second h.2) in
      let w = placed_word (at 0) (spelt if_word (codes "if")) in
      record {
        tree = If (at 0) a.tree b.tree c.tree has_else;
        at = c.at;
        is =
            an_if w (placed_word (a.at 0) open_word) (placed (later at) (bracketed_words (words_of test) (open_word ∷ body_words first rest)))
            (placed (later a.at) (body_words first rest)) (placed b.at rest) (placed c.at ws) c.mid a.tree b.tree c.tree has_else c.close refl
            a.is refl b.is c.begins c.is_closing c.is;
        same =
            ap₂ (λ t f. If nowhere t f (body_without_places c.tree) has_else) a.same b.same
            ∙ ap (λ s. If nowhere (expression_without_places test) (body_without_places first) s has_else) c.same;
      }
  a_statement (While place test body) h at ws =
      let open_word : Spelling = spelt open_brace (codes "{") in
      let a = brackets test (later at) (open_word ∷ body_words body (ended_words ws)) (expression test h.0) in
      let b = a_block body a.at ws (a_body body h.1) in
      record {
        tree = While (at 0) a.tree b.tree;
        at = b.at;
        is = while (placed_word (at 0) (spelt while_word (codes "while"))) refl a.is b.is;
        same = ap₂ (While nowhere) a.same b.same;
      }
  a_statement (For place word place' set place'' arg body) h at ws =
      let close : Spelling = spelt close_bracket (codes ")") in
      let open_word : Spelling = spelt open_brace (codes "{") in
      let at5 = later (later (later (later (later at)))) in
      let a = brackets arg at5 (close ∷ open_word ∷ body_words body (ended_words ws)) (expression arg h.1) in
      let b = a_block body (later a.at) ws (a_body body h.2) in
      record {
        tree = For (at 0) word (at 2) set (at 4) a.tree b.tree;
        at = b.at;
        is =
            for (placed_word (at 0) (spelt for_word (codes "for"))) (placed_word (at 1) (spelt open_bracket (codes "(")))
            (placed_word (at 2) (spelt NameToken word)) (placed_word (at 3) (spelt arrow (codes "<-")))
            (placed_word (at 4) (spelt (set_token set) (set_word set))) (placed_word (a.at 0) close)
            refl refl refl refl (set_has_value set) a.is refl b.is;
        same = ap₂ (λ e f. For nowhere word nowhere set nowhere e f) a.same b.same;
      }

  a_body : (body : Body) → IsWritableBody body → (at : ℕ → Place) (ws : List Spelling) → ReadsBody (placed at (body_words body ws)) body ws
  a_body no_statement h at ws = record { tree = no_statement; at = at; is = no_statements; same = refl }
  a_body (statement s more) h at ws =
      let a = a_statement s h.0 at (body_words more ws) in
      let b = a_body more h.1 a.at ws in
      record { tree = statement a.tree b.tree; at = b.at; is = statements a.is b.is; same = ap₂ statement a.same b.same }

-- ITEMS in the same way
record ReadsItem (ts : List Lexeme) (i : MainItem) (ws : List Spelling) : Type 0 where
  tree : MainItem
  at : ℕ → Place
  is : IsItem ts tree (placed at ws)
  same : item_without_places tree ≡ item_without_places i

pub record ReadsMain (ts : List Lexeme) (body : Main) (ws : List Spelling) : Type 0 where
  pub tree : Main
  pub at : ℕ → Place
  pub is : IsMain ts tree (placed at ws)
  pub same : main_without_places tree ≡ main_without_places body

record ReadsMainBlock (ts : List Lexeme) (body : Main) (ws : List Spelling) : Type 0 where
  tree : Main
  at : ℕ → Place
  is : IsMainBlock ts tree (placed at ws)
  same : main_without_places tree ≡ main_without_places body

record ReadsMainElse (ts : List Lexeme) (has_else : Bool) (body : Main) (ws : List Spelling) : Type 0 where
  close : Lexeme
  mid : List Lexeme
  begins : ts ≡ close ∷ mid
  is_closing : close.kind ≡ close_brace
  tree : Main
  at : ℕ → Place
  is : IsMainElse mid tree has_else (placed at ws)
  same : main_without_places tree ≡ main_without_places body

abbrev ReadsMains : Main → Type 0
ReadsMains body = (at : ℕ → Place) (ws : List Spelling) → ReadsMain (placed at (main_words body ws)) body ws

a_main_block : (body : Main) (at : ℕ → Place) (ws : List Spelling) → ReadsMains body
    → ReadsMainBlock (placed at (spelt open_brace (codes "{") ∷ main_words body (ended_words ws))) body ws
a_main_block body at ws read =
    let r = read (later at) (ended_words ws) in
    record {
      tree = r.tree;
      at = later r.at;
      is =
          main_block (placed_word (at 0) (spelt open_brace (codes "{"))) (placed_word (r.at 0) (spelt close_brace (codes "}"))) refl r.is refl;
      same = r.same;
    }

a_main_else : (has_else : Bool) (body : Main) → IsMainElseOf has_else body → (at : ℕ → Place) (ws : List Spelling) → ReadsMains body
    → ReadsMainElse (placed at (else_words has_else (main_words body) ws)) has_else body ws
a_main_else false body none at ws read =
    record {
      close = placed_word (at 0) (spelt close_brace (codes "}"));
      mid = placed (later at) ws;
      begins = refl;
      is_closing = refl;
      tree = no_item;
      at = later at;
      is = no_main_else;
      same = ap main_without_places (sym none);
    }
a_main_else true body some at ws read =
    let r = a_main_block body (later (later at)) ws read in
    record {
      close = placed_word (at 0) (spelt close_brace (codes "}"));
      mid = placed (later at) (spelt else_word (codes "else") ∷ spelt open_brace (codes "{") ∷ main_words body (ended_words ws));
      begins = refl;
      is_closing = refl;
      tree = r.tree;
      at = r.at;
      is = main_else (placed_word (at 1) (spelt else_word (codes "else"))) refl r.is;
      same = r.same;
    }

a_main_if : (w o : Lexeme) (ts mid mid' left rest : List Lexeme) (test : Expression) (first second : Main) (has_else : Bool) (c : Lexeme)
    → w.kind ≡ if_word
    → IsBracketed ts test (o ∷ mid) → o.kind ≡ open_brace → IsMain mid first mid' → mid' ≡ c ∷ rest → c.kind ≡ close_brace
    → IsMainElse rest second has_else left → IsItem (w ∷ ts) (MainIf w.place test first second has_else) left
a_main_if w o ts mid mid' left rest test first second has_else c is d opened body begins is_closing other =
    main_if w is d (main_block o c opened (subst (λ l. IsMain mid first l) begins body) is_closing) other

mutual
  an_item : (i : MainItem) → IsWritableItem i → (at : ℕ → Place) (ws : List Spelling) → ReadsItem (placed at (item_words i ws)) i ws
  an_item (MainField place word place' kind init) h at ws =
      let r = closed init h.1 (later (later (later (later (later at))))) ws in
      record {
        tree = MainField (at 0) word (at 1) kind r.tree;
        at = r.at;
        is =
            main_field (placed_word (at 0) (spelt field_word (codes "field"))) (placed_word (at 1) (spelt NameToken word))
            (placed_word (at 2) (spelt colon (codes ":"))) (placed_word (at 3) (spelt (kind_token kind) (kind_word kind)))
            (placed_word (at 4) (spelt set_to (codes "="))) refl refl refl (kind_has_value kind) refl r.is r.close;
        same = ap (MainField nowhere word nowhere kind) r.same;
      }
  an_item (MainVar place word place' init) h at ws =
      let r = a_declaration var_word (codes "var") word init h.1 at ws in
      record {
        tree = MainVar r.first.place r.second.bytes r.second.place r.tree;
        at = r.at;
        is = main_var r.is;
        same = ap₂ (λ n e. MainVar nowhere n nowhere e) r.named r.same;
      }
  an_item (MainAssign place word how value) h at ws =
      let r = closed value h.1 (later (later at)) ws in
      record {
        tree = MainAssign (at 0) word how r.tree;
        at = r.at;
        is =
            main_assign (placed_word (at 0) (spelt NameToken word)) (placed_word (at 1) (spelt (how_token how) (how_text how))) refl
            (how_has_value how) r.is r.close;
        same = ap (MainAssign nowhere word how) r.same;
      }
  an_item (MainIf place test first second has_else) h at ws =
      let open_word : Spelling = spelt open_brace (codes "{") in
      let rest = else_words has_else (main_words second) ws in
      let a = brackets test (later at) (open_word ∷ main_words first rest) (expression test h.0) in
      let b = a_main first h.1 (later a.at) rest in
      let c = a_main_else has_else second h.3 b.at ws (a_main second h.2) in
      let w = placed_word (at 0) (spelt if_word (codes "if")) in
      record {
        tree = MainIf (at 0) a.tree b.tree c.tree has_else;
        at = c.at;
        is =
            a_main_if w (placed_word (a.at 0) open_word)
            (placed (later at) (bracketed_words (words_of test) (open_word ∷ main_words first rest)))
            (placed (later a.at) (main_words first rest)) (placed b.at rest) (placed c.at ws) c.mid a.tree b.tree c.tree has_else c.close refl
            a.is refl b.is c.begins c.is_closing c.is;
        same =
            ap₂ (λ t f. MainIf nowhere t f (main_without_places c.tree) has_else) a.same b.same
            ∙ ap (λ s. MainIf nowhere (expression_without_places test) (main_without_places first) s has_else) c.same;
      }
  an_item (MainWhile place test body) h at ws =
      let open_word : Spelling = spelt open_brace (codes "{") in
      let a = brackets test (later at) (open_word ∷ main_words body (ended_words ws)) (expression test h.0) in
      let b = a_main_block body a.at ws (a_main body h.1) in
      record {
        tree = MainWhile (at 0) a.tree b.tree;
        at = b.at;
        is = main_while (placed_word (at 0) (spelt while_word (codes "while"))) refl a.is b.is;
        same = ap₂ (MainWhile nowhere) a.same b.same;
      }
  an_item (MainFor place word place' over body) h at ws =
      let b = a_block body (later (later (later (later (later (later (later (later (later at))))))))) ws (a_body body h.1) in
      record {
        tree = MainFor (at 0) word (at 2) over b.tree;
        at = b.at;
        is =
            main_for (placed_word (at 0) (spelt for_word (codes "for"))) (placed_word (at 1) (spelt open_bracket (codes "(")))
            (placed_word (at 2) (spelt NameToken word)) (placed_word (at 3) (spelt arrow (codes "<-")))
            (placed_word (at 4) (spelt (whole_token over) (mesh_set_word over))) (placed_word (at 5) (spelt open_bracket (codes "(")))
            (placed_word (at 6) (spelt mesh_word (codes "mesh"))) (placed_word (at 7) (spelt close_bracket (codes ")")))
            (placed_word (at 8) (spelt close_bracket (codes ")"))) refl refl refl refl (whole_has_value over) refl refl refl refl b.is;
        same = ap (MainFor nowhere word nowhere over) b.same;
      }
  an_item (Print place value) h at ws =
      let r = closed value h (later at) ws in
      record {
        tree = Print (at 0) r.tree;
        at = r.at;
        is = print (placed_word (at 0) (spelt print_word (codes "print"))) refl r.is r.close;
        same = ap (Print nowhere) r.same;
      }

  pub a_main : (tree : Main) → IsWritableMain tree → (at : ℕ → Place) (ws : List Spelling) → ReadsMain (placed at (main_words tree ws)) tree ws
  a_main no_item h at ws = record { tree = no_item; at = at; is = no_items; same = refl }
  a_main (item i more) h at ws =
      let a = an_item i h.0 at (main_words more ws) in
      let b = a_main more h.1 a.at ws in
      record { tree = item a.tree b.tree; at = b.at; is = items a.is b.is; same = ap₂ item a.same b.same }
