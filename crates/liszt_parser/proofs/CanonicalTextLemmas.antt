-- A tree that tokens of a text derive has a canonical text.
use Rattle.std.proofs.Common.{◌≡◌, Bool, Option, Some, ℤ, List, [], ◌∷◌, refl, subst}
use Rattle.std.specs.List.{AllByRecursion}
use Rattle.liszt_lexer.specs.declared.token.TokenKind.{TokenKind}
use Rattle.liszt_lexer.specs.declared.token.TokenKind.TheVariants.{Name as NameToken, Number as NumberToken}
use Rattle.liszt_lexer.proofs.SpellingLemmas.{IsSpelling}
use Rattle.liszt_lexer.proofs.TokenEndLemmas.{IsSmall, number_is_small}
use Rattle.liszt_tree.specs.declared.tree.Level.{Level}
use Rattle.liszt_tree.specs.declared.tree.Level.TheVariants.{Or, And, Sum, Product}
use Rattle.liszt_tree.specs.declared.tree.Sign.{Sign}
use Rattle.liszt_tree.specs.declared.tree.Sign.TheVariants as sign
use Rattle.liszt_tree.specs.Tree.{Expression, Links, Statement, Body, MainItem, Main}
use Rattle.liszt_parser.specs.Grammar.{Lexeme, Rank, sign_of, IsExpression, one_operand, chained, one_sum, compared, no_prefix, negation, logical_not, number, name, field, call, towards, in_brackets, IsLinks, no_more_links, linked, IsBracketed, bracketed, Closes, by_semicolon, by_brace, by_end, IsDeclared, is_declared, IsTarget, no_target, target, IsStatement, var, val, assign, if, while, for, IsBody, no_statements, statements, IsBlock, block, IsElse, no_else, else, IsItem, main_field, main_var, main_assign, main_if, main_while, main_for, print, IsMain, no_items, items, IsMainBlock, main_block, IsMainElse, no_main_else, main_else}
use Rattle.liszt_parser.proofs.TableLemmas.{table_symbol}
use Rattle.liszt_parser.proofs.CanonicalTokens.{sign_token, IsWritable, AreWritable, IsWritableTarget, IsElseOf, IsMainElseOf, IsWritableStatement, IsWritableBody, IsWritableItem, IsWritableMain}

-- tokens whose bytes spell them
abbrev pub AreSpelled : List Lexeme → Type 0
AreSpelled ts = AllByRecursion (λ t. IsSpelling t.kind t.bytes) ts

named : (t : Lexeme) → t.kind ≡ NameToken → IsSpelling t.kind t.bytes → IsSpelling NameToken t.bytes
named t is known = subst (λ k. IsSpelling k t.bytes) is known

small : (t : Lexeme) (n : ℤ) → t.kind ≡ NumberToken n → IsSpelling t.kind t.bytes → IsSmall n
small t n is known = let spelled : IsSpelling (NumberToken n) t.bytes = subst (λ k. IsSpelling k t.bytes) is known in number_is_small t.bytes n spelled.is

-- an operator of a level is the one that its token denotes there
sign_found : (level : Level) (kind : TokenKind) (s : Sign) → sign_of level kind ≡ Some s → sign_of level (sign_token s) ≡ Some s
sign_found Or kind s e = table_symbol (λ kind s. sign_of Or (sign_token s) ≡ Some s) ((15, sign.Or) ∷ []) kind s (refl, tt) e
sign_found And kind s e = table_symbol (λ kind s. sign_of And (sign_token s) ≡ Some s) ((14, sign.And) ∷ []) kind s (refl, tt) e
sign_found Sum kind s e =
    table_symbol (λ kind s. sign_of Sum (sign_token s) ≡ Some s) ((16, sign.Plus) ∷ (17, sign.Minus) ∷ []) kind s (refl, (refl, tt)) e
sign_found Product kind s e =
    table_symbol (λ kind s. sign_of Product (sign_token s) ≡ Some s) ((18, sign.Times) ∷ (19, sign.Over) ∷ (20, sign.Rest) ∷ []) kind s
    (refl, (refl, (refl, tt))) e

-- EXPRESSIONS
mutual
  expression : {rank : Rank} {ts left : List Lexeme} {e : Expression} → IsExpression rank ts e left → AreSpelled ts
      → IsWritable e × AreSpelled left
  expression (one_operand d) known = expression d known
  expression (chained d more) known =
      let a = expression d known in
      let b = links more a.1 in
      ((a.0, tt, b.0), b.1)
  expression (one_sum d) known = expression d known
  expression (compared t d is e) known =
      let a = expression d known in
      let b = expression e a.1.1 in
      ((a.0, b.0), b.1)
  expression (no_prefix d) known = expression d known
  expression (negation t is d) known = expression d known.1
  expression (logical_not t is d) known = expression d known.1
  expression (number {n} t is) known = (small t n is known.0, known.1)
  expression (name t is) known = (named t is known.0, known.1)
  expression (field t is d) known = let a = brackets d known.1 in ((named t is known.0, a.0), a.1)
  expression (call t is d) known = brackets d known.1
  expression (towards t o m c is opened d comma to close) known =
      let a = expression d known.1.1 in
      let b = expression to a.1.1 in
      ((a.0, b.0), b.1.1)
  expression (in_brackets d) known = brackets d known

  links : {level : Level} {ts left : List Lexeme} {more : Links} → IsLinks level ts more left → AreSpelled ts
      → AreWritable level more × AreSpelled left
  links no_more_links known = (tt, known)
  links (linked {level} {s} t is d more) known =
      let a = expression d known.1 in
      let b = links more a.1 in
      ((sign_found level t.kind s is, a.0, b.0), b.1)

  brackets : {ts left : List Lexeme} {e : Expression} → IsBracketed ts e left → AreSpelled ts → IsWritable e × AreSpelled left
  brackets (bracketed o c is d close) known = let a = expression d known.1 in (a.0, a.1.1)

-- what closes a statement leaves spelled tokens
is_closing : {ts left : List Lexeme} → Closes ts left → AreSpelled ts → AreSpelled left
is_closing (by_semicolon t is) known = known.1
is_closing (by_brace t is) known = known
is_closing by_end known = tt

declaration : {word : TokenKind} {ts left : List Lexeme} {w n : Lexeme} {e : Expression} → IsDeclared word ts w n e left → AreSpelled ts
    → (IsSpelling NameToken n.bytes × IsWritable e) × AreSpelled left
declaration (is_declared w n s is called set d close) known =
    let a = expression d known.1.1.1 in
    ((named n called known.1.0, a.0), is_closing close a.1)

targeted : {ts left : List Lexeme} {to : Option Expression} → IsTarget ts to left → AreSpelled ts → IsWritableTarget to × AreSpelled left
targeted no_target known = (tt, known)
targeted (target d) known = brackets d known

-- STATEMENTS, bodies, blocks and what follows an `if`
mutual
  a_statement : {ts left : List Lexeme} {s : Statement} → IsStatement ts s left → AreSpelled ts → IsWritableStatement s × AreSpelled left
  a_statement (var d) known = declaration d known
  a_statement (val d) known = declaration d known
  a_statement (assign n h is to how d close) known =
      let a = targeted to known.1 in
      let b = expression d a.1.1 in
      ((named n is known.0, a.0, b.0), is_closing close b.1)
  a_statement (if w is test first second) known =
      let a = brackets test known.1 in
      let b = a_block first a.1 in
      let c = an_else second b.1 in
      ((a.0, b.0, c.0.0, c.0.1), c.1)
  a_statement (while w is test body) known =
      let a = brackets test known.1 in
      let b = a_block body a.1 in
      ((a.0, b.0), b.1)
  a_statement (for w o n a s c is opened called arrow set d close body) known =
      let e = brackets d known.1.1.1.1.1 in
      let b = a_block body e.1.1 in
      ((named n called known.1.1.0, e.0, b.0), b.1)

  a_body : {ts left : List Lexeme} {body : Body} → IsBody ts body left → AreSpelled ts → IsWritableBody body × AreSpelled left
  a_body no_statements known = (tt, known)
  a_body (statements s more) known =
      let a = a_statement s known in
      let b = a_body more a.1 in
      ((a.0, b.0), b.1)

  a_block : {ts left : List Lexeme} {body : Body} → IsBlock ts body left → AreSpelled ts → IsWritableBody body × AreSpelled left
  a_block (block o c is body close) known = let a = a_body body known.1 in (a.0, a.1.1)

  an_else : {ts left : List Lexeme} {body : Body} {has_else : Bool} → IsElse ts body has_else left → AreSpelled ts
      → (IsWritableBody body × IsElseOf has_else body) × AreSpelled left
  an_else no_else known = ((tt, refl), known)
  an_else (else w is body) known = let a = a_block body known.1 in ((a.0, tt), a.1)

-- ITEMS in the same way
mutual
  an_item : {ts left : List Lexeme} {i : MainItem} → IsItem ts i left → AreSpelled ts → IsWritableItem i × AreSpelled left
  an_item (main_field w n d k s is called colon kind set e close) known =
      let a = expression e known.1.1.1.1.1 in
      ((named n called known.1.0, a.0), is_closing close a.1)
  an_item (main_var d) known = declaration d known
  an_item (main_assign n h is how d close) known =
      let a = expression d known.1.1 in
      ((named n is known.0, a.0), is_closing close a.1)
  an_item (main_if w is test first second) known =
      let a = brackets test known.1 in
      let b = a_main_block first a.1 in
      let c = a_main_else second b.1 in
      ((a.0, b.0, c.0.0, c.0.1), c.1)
  an_item (main_while w is test body) known =
      let a = brackets test known.1 in
      let b = a_main_block body a.1 in
      ((a.0, b.0), b.1)
  an_item (main_for w o n a k p m q c is opened called arrow whole inner mesh close close' body) known =
      let b = a_block body known.1.1.1.1.1.1.1.1.1 in
      ((named n called known.1.1.0, b.0), b.1)
  an_item (print w is d close) known = let a = expression d known.1 in (a.0, is_closing close a.1)

  a_main : {ts left : List Lexeme} {tree : Main} → IsMain ts tree left → AreSpelled ts → IsWritableMain tree × AreSpelled left
  a_main no_items known = (tt, known)
  a_main (items i more) known =
      let a = an_item i known in
      let b = a_main more a.1 in
      ((a.0, b.0), b.1)

  a_main_block : {ts left : List Lexeme} {body : Main} → IsMainBlock ts body left → AreSpelled ts → IsWritableMain body × AreSpelled left
  a_main_block (main_block o c is body close) known = let a = a_main body known.1 in (a.0, a.1.1)

  a_main_else : {ts left : List Lexeme} {body : Main} {has_else : Bool} → IsMainElse ts body has_else left → AreSpelled ts
      → (IsWritableMain body × IsMainElseOf has_else body) × AreSpelled left
  a_main_else no_main_else known = ((tt, refl), known)
  a_main_else (main_else w is body) known = let a = a_main_block body known.1 in ((a.0, tt), a.1)

-- a program
pub is_writable : {ts left : List Lexeme} {tree : Main} → IsMain ts tree left → AreSpelled ts → IsWritableMain tree
is_writable d known = (a_main d known).0
