-- The grammar of the language as a relation between tokens and tree, with a constructor for each production. This project's own
-- profile, after Liszt (DeVito et al., Supercomputing 2011).
use Rattle.std.specs.Prelude.{◌≡◌, ℕ, Bool, true, false, Option, Some, None, List, [], ◌∷◌, map, ℤ, ◌==◌, if◌then◌else◌}
use Rattle.liszt_base.specs.declared.answers.Place.{Place}
use Rattle.liszt_base.specs.declared.elements.Kind.{Kind}
use Rattle.liszt_base.specs.declared.elements.Kind.TheVariants.{Vertex, Edge, Face, Cell}
use Rattle.liszt_base.specs.declared.elements.Op.TheVariants.{Add, Mul, And as AndBits, Or as OrBits, Xor, Min, Max}
use Rattle.liszt_base.specs.declared.elements.SetName.{SetName}
use Rattle.liszt_base.specs.declared.elements.SetName.TheVariants.{Vertices, Edges, Faces, Cells, EdgesCcw}
use Rattle.liszt_lexer.specs.Lexer.{bytes_of}
use Rattle.liszt_lexer.specs.declared.token.Token.{Token}
use Rattle.liszt_lexer.specs.declared.token.TokenKind.{TokenKind}
use Rattle.liszt_lexer.specs.declared.token.TokenKind.TheVariants.{Name as NameToken, Number as NumberToken, Word, Symbol, MinSet, MaxSet}
use Rattle.liszt_tree.specs.declared.tree.Fun.{Fun}
use Rattle.liszt_tree.specs.declared.tree.Fun.TheVariants.{Head, Tail, Inside, Outside, Flip, Valid, Id}
use Rattle.liszt_tree.specs.declared.tree.How.{How}
use Rattle.liszt_tree.specs.declared.tree.How.TheVariants.{Set, Fold, Less}
use Rattle.liszt_tree.specs.declared.tree.Level.{Level}
use Rattle.liszt_tree.specs.declared.tree.Level.TheVariants.{Or, And, Sum, Product}
use Rattle.liszt_tree.specs.declared.tree.Rel.{Rel}
use Rattle.liszt_tree.specs.declared.tree.Rel.TheVariants.{Same, Other, Below, AtMost, Above, AtLeast}
use Rattle.liszt_tree.specs.declared.tree.Sign.{Sign}
use Rattle.liszt_tree.specs.declared.tree.Sign.TheVariants as sign
use Rattle.liszt_tree.specs.Tree.{Expression, Number, Name, Field, Call, Towards, Neg, Not, Chain, Compare, Links, no_links, link, Statement, Var, Val, Assign, If, While, For, Body, no_statement, statement, MainItem, MainField, MainVar, MainAssign, MainIf, MainWhile, MainFor, Print, Main, no_item, item}

-- A token as the grammar sees it: its kind, its place and its bytes.
pub record Lexeme : Type 0 where
  pub kind : TokenKind
  pub place : Place
  pub bytes : List ℕ

abbrev pub lexeme : List ℕ → Token → Lexeme
lexeme text token = record { kind = token.kind; place = token.place; bytes = bytes_of text token }

abbrev pub lexemes : List ℕ → List Token → List Lexeme
lexemes text tokens = map (lexeme text) tokens

-- SYMBOLS AND WORDS, by their indices in the lists of symbols and of reserved words
abbrev pub open_bracket : TokenKind
open_bracket = Symbol 0

abbrev pub close_bracket : TokenKind
close_bracket = Symbol 1

abbrev pub open_brace : TokenKind
open_brace = Symbol 2

abbrev pub close_brace : TokenKind
close_brace = Symbol 3

abbrev pub comma : TokenKind
comma = Symbol 4

abbrev pub semicolon : TokenKind
semicolon = Symbol 5

abbrev pub colon : TokenKind
colon = Symbol 6

abbrev pub arrow : TokenKind
arrow = Symbol 7

abbrev pub minus : TokenKind
minus = Symbol 17

abbrev pub bang : TokenKind
bang = Symbol 21

abbrev pub set_to : TokenKind
set_to = Symbol 22

-- `field var val if else while for print mesh towards`
abbrev pub field_word : TokenKind
field_word = Word 0

abbrev pub var_word : TokenKind
var_word = Word 1

abbrev pub val_word : TokenKind
val_word = Word 2

abbrev pub if_word : TokenKind
if_word = Word 3

abbrev pub else_word : TokenKind
else_word = Word 4

abbrev pub while_word : TokenKind
while_word = Word 5

abbrev pub for_word : TokenKind
for_word = Word 6

abbrev pub print_word : TokenKind
print_word = Word 7

abbrev pub mesh_word : TokenKind
mesh_word = Word 8

abbrev pub towards_word : TokenKind
towards_word = Word 20

-- The value of a word or of a symbol in a table.
abbrev pub lookup : {A : Type 0} → List (ℕ × A) → ℕ → Option A
lookup [] place = None
lookup (entry ∷ entries) place = if entry.0 == place then Some entry.1 else lookup entries place

abbrev pub word_value : {A : Type 0} → List (ℕ × A) → TokenKind → Option A
word_value table (Word place) = lookup table place
word_value table _ = None

abbrev pub symbol_value : {A : Type 0} → List (ℕ × A) → TokenKind → Option A
symbol_value table (Symbol place) = lookup table place
symbol_value table _ = None

-- The functions `head tail inside outside flip valid ID`; the kinds; the sets of a mesh, and those of an element.
abbrev pub fun_of : TokenKind → Option Fun
fun_of = word_value ((15, Head) ∷ (16, Tail) ∷ (17, Inside) ∷ (18, Outside) ∷ (19, Flip) ∷ (26, Valid) ∷ (27, Id) ∷ [])

abbrev pub kind_of : TokenKind → Option Kind
kind_of = word_value ((11, Vertex) ∷ (12, Edge) ∷ (13, Face) ∷ (14, Cell) ∷ [])

abbrev pub mesh_set_of : TokenKind → Option Kind
mesh_set_of = word_value ((21, Vertex) ∷ (22, Edge) ∷ (23, Face) ∷ (24, Cell) ∷ [])

abbrev pub set_of : TokenKind → Option SetName
set_of = word_value ((21, Vertices) ∷ (22, Edges) ∷ (23, Faces) ∷ (24, Cells) ∷ (25, EdgesCcw) ∷ [])

-- The operators of each level of chains, the comparisons and the assignments.
abbrev pub sign_of : Level → TokenKind → Option Sign
sign_of Or = symbol_value ((15, sign.Or) ∷ [])
sign_of And = symbol_value ((14, sign.And) ∷ [])
sign_of Sum = symbol_value ((16, sign.Plus) ∷ (17, sign.Minus) ∷ [])
sign_of Product = symbol_value ((18, sign.Times) ∷ (19, sign.Over) ∷ (20, sign.Rest) ∷ [])

abbrev pub rel_of : TokenKind → Option Rel
rel_of = symbol_value ((8, Same) ∷ (9, Other) ∷ (10, AtMost) ∷ (11, AtLeast) ∷ (12, Below) ∷ (13, Above) ∷ [])

abbrev pub how_of : TokenKind → Option How
how_of MinSet = Some (Fold Min)
how_of MaxSet = Some (Fold Max)
how_of kind =
    symbol_value ((22, Set) ∷ (23, Fold Add) ∷ (24, Less) ∷ (25, Fold Mul) ∷ (26, Fold AndBits) ∷ (27, Fold OrBits) ∷ (28, Fold Xor) ∷ []) kind

-- EXPRESSIONS. The rank of an expression says how tightly it binds, from the chains of `||` to those of `&&`, comparisons, the
-- chains of sums and of products, prefix operators, and primary expressions. The operands of a chain have the next rank.
pub data Rank : Type 0 where
  chain : Level → Rank
  comparison prefix_expression primary_expression : Rank

abbrev pub operand : Level → Rank
operand Or = chain And
operand And = comparison
operand Sum = chain Product
operand Product = prefix_expression

abbrev pub lowest_rank : Rank
lowest_rank = chain Or

-- The tokens start with those of the tree, followed by the remaining tokens.
mutual
  pub data IsExpression : Rank → List Lexeme → Expression → List Lexeme → Type 0 where
    one_operand : {level : Level} {ts left : List Lexeme} {e : Expression} → IsExpression (operand level) ts e left → IsExpression (chain level) ts e left
    chained : {level : Level} {ts mid left : List Lexeme} {first e : Expression} {s : Sign} {place : Place} {more : Links}
        → IsExpression (operand level) ts first mid → IsLinks level mid (link s place e more) left
        → IsExpression (chain level) ts (Chain level first (link s place e more)) left
    one_sum : {ts left : List Lexeme} {e : Expression} → IsExpression (chain Sum) ts e left → IsExpression comparison ts e left
    compared : {ts mid left : List Lexeme} {a b : Expression} {rel : Rel} (t : Lexeme) → IsExpression (chain Sum) ts a (t ∷ mid)
        → rel_of t.kind ≡ Some rel → IsExpression (chain Sum) mid b left → IsExpression comparison ts (Compare t.place rel a b) left
    no_prefix : {ts left : List Lexeme} {e : Expression} → IsExpression primary_expression ts e left → IsExpression prefix_expression ts e left
    negation : {ts left : List Lexeme} {e : Expression} (t : Lexeme) → t.kind ≡ minus → IsExpression prefix_expression ts e left
        → IsExpression prefix_expression (t ∷ ts) (Neg t.place e) left
    logical_not : {ts left : List Lexeme} {e : Expression} (t : Lexeme) → t.kind ≡ bang → IsExpression prefix_expression ts e left
        → IsExpression prefix_expression (t ∷ ts) (Not t.place e) left
    number : {left : List Lexeme} {n : ℤ} (t : Lexeme) → t.kind ≡ NumberToken n → IsExpression primary_expression (t ∷ left) (Number t.place n) left
    name : {left : List Lexeme} (t : Lexeme) → t.kind ≡ NameToken → IsExpression primary_expression (t ∷ left) (Name t.place t.bytes) left
    field : {ts left : List Lexeme} {e : Expression} (t : Lexeme) → t.kind ≡ NameToken → IsBracketed ts e left
        → IsExpression primary_expression (t ∷ ts) (Field t.place t.bytes e) left
    call : {ts left : List Lexeme} {e : Expression} {fun : Fun} (t : Lexeme) → fun_of t.kind ≡ Some fun → IsBracketed ts e left
        → IsExpression primary_expression (t ∷ ts) (Call t.place fun e) left
    towards : {ts mid left : List Lexeme} {e to : Expression} (t o m c : Lexeme) → t.kind ≡ towards_word → o.kind ≡ open_bracket
        → IsExpression lowest_rank ts e (m ∷ mid) → m.kind ≡ comma → IsExpression lowest_rank mid to (c ∷ left) → c.kind ≡ close_bracket
        → IsExpression primary_expression (t ∷ o ∷ ts) (Towards t.place e to) left
    in_brackets : {ts left : List Lexeme} {e : Expression} → IsBracketed ts e left → IsExpression primary_expression ts e left

  pub data IsLinks : Level → List Lexeme → Links → List Lexeme → Type 0 where
    no_more_links : {level : Level} {left : List Lexeme} → IsLinks level left no_links left
    linked : {level : Level} {ts mid left : List Lexeme} {e : Expression} {s : Sign} {more : Links} (t : Lexeme)
        → sign_of level t.kind ≡ Some s → IsExpression (operand level) ts e mid → IsLinks level mid more left
        → IsLinks level (t ∷ ts) (link s t.place e more) left

  pub data IsBracketed : List Lexeme → Expression → List Lexeme → Type 0 where
    bracketed : {ts left : List Lexeme} {e : Expression} (o c : Lexeme) → o.kind ≡ open_bracket → IsExpression lowest_rank ts e (c ∷ left)
        → c.kind ≡ close_bracket → IsBracketed (o ∷ ts) e left

-- The end of a statement: a `;`, or nothing before a `}` or the end.
pub data Closes : List Lexeme → List Lexeme → Type 0 where
  by_semicolon : {left : List Lexeme} (t : Lexeme) → t.kind ≡ semicolon → Closes (t ∷ left) left
  by_brace : {left : List Lexeme} (t : Lexeme) → t.kind ≡ close_brace → Closes (t ∷ left) (t ∷ left)
  by_end : Closes [] []

-- `WORD NAME = expression` and the end of the statement.
pub data IsDeclared (word : TokenKind) : List Lexeme → Lexeme → Lexeme → Expression → List Lexeme → Type 0 where
  is_declared : {ts mid left : List Lexeme} {e : Expression} (w n s : Lexeme) → w.kind ≡ word → n.kind ≡ NameToken → s.kind ≡ set_to
      → IsExpression lowest_rank ts e mid → Closes mid left → IsDeclared word (w ∷ n ∷ s ∷ ts) w n e left

-- The argument of the target of an assignment in a body, which is optional.
pub data IsTarget : List Lexeme → Option Expression → List Lexeme → Type 0 where
  no_target : {left : List Lexeme} → IsTarget left None left
  target : {ts left : List Lexeme} {e : Expression} → IsBracketed ts e left → IsTarget ts (Some e) left

-- STATEMENTS of a body, blocks, and what follows an `if`
mutual
  pub data IsStatement : List Lexeme → Statement → List Lexeme → Type 0 where
    var : {ts left : List Lexeme} {e : Expression} {w n : Lexeme} → IsDeclared var_word ts w n e left
        → IsStatement ts (Var w.place n.bytes n.place e) left
    val : {ts left : List Lexeme} {e : Expression} {w n : Lexeme} → IsDeclared val_word ts w n e left
        → IsStatement ts (Val w.place n.bytes n.place e) left
    assign : {ts ts' mid left : List Lexeme} {to : Option Expression} {e : Expression} {how : How} (n h : Lexeme) → n.kind ≡ NameToken
        → IsTarget ts to (h ∷ ts') → how_of h.kind ≡ Some how → IsExpression lowest_rank ts' e mid → Closes mid left
        → IsStatement (n ∷ ts) (Assign n.place n.bytes to how e) left
    if : {ts mid mid' left : List Lexeme} {e : Expression} {first second : Body} {has_else : Bool} (w : Lexeme) → w.kind ≡ if_word
        → IsBracketed ts e mid → IsBlock mid first mid' → IsElse mid' second has_else left
        → IsStatement (w ∷ ts) (If w.place e first second has_else) left
    while : {ts mid left : List Lexeme} {e : Expression} {body : Body} (w : Lexeme) → w.kind ≡ while_word
        → IsBracketed ts e mid → IsBlock mid body left → IsStatement (w ∷ ts) (While w.place e body) left
    for : {ts mid left : List Lexeme} {e : Expression} {body : Body} {set : SetName} (w o n a s c : Lexeme) → w.kind ≡ for_word
        → o.kind ≡ open_bracket → n.kind ≡ NameToken → a.kind ≡ arrow → set_of s.kind ≡ Some set → IsBracketed ts e (c ∷ mid)
        → c.kind ≡ close_bracket → IsBlock mid body left
        → IsStatement (w ∷ o ∷ n ∷ a ∷ s ∷ ts) (For w.place n.bytes n.place set s.place e body) left

  pub data IsBody : List Lexeme → Body → List Lexeme → Type 0 where
    no_statements : {left : List Lexeme} → IsBody left no_statement left
    statements : {ts mid left : List Lexeme} {s : Statement} {more : Body} → IsStatement ts s mid → IsBody mid more left
        → IsBody ts (statement s more) left

  pub data IsBlock : List Lexeme → Body → List Lexeme → Type 0 where
    block : {ts left : List Lexeme} {body : Body} (o c : Lexeme) → o.kind ≡ open_brace → IsBody ts body (c ∷ left)
        → c.kind ≡ close_brace → IsBlock (o ∷ ts) body left

  pub data IsElse : List Lexeme → Body → Bool → List Lexeme → Type 0 where
    no_else : {left : List Lexeme} → IsElse left no_statement false left
    else : {ts left : List Lexeme} {body : Body} (w : Lexeme) → w.kind ≡ else_word → IsBlock ts body left → IsElse (w ∷ ts) body true left

-- ITEMS of the main program, in the same way
mutual
  pub data IsItem : List Lexeme → MainItem → List Lexeme → Type 0 where
    main_field : {ts mid left : List Lexeme} {e : Expression} {kind : Kind} (w n d k s : Lexeme) → w.kind ≡ field_word
        → n.kind ≡ NameToken → d.kind ≡ colon → kind_of k.kind ≡ Some kind → s.kind ≡ set_to → IsExpression lowest_rank ts e mid → Closes mid left
        → IsItem (w ∷ n ∷ d ∷ k ∷ s ∷ ts) (MainField w.place n.bytes n.place kind e) left
    main_var : {ts left : List Lexeme} {e : Expression} {w n : Lexeme} → IsDeclared var_word ts w n e left
        → IsItem ts (MainVar w.place n.bytes n.place e) left
    main_assign : {ts mid left : List Lexeme} {e : Expression} {how : How} (n h : Lexeme) → n.kind ≡ NameToken
        → how_of h.kind ≡ Some how → IsExpression lowest_rank ts e mid → Closes mid left
        → IsItem (n ∷ h ∷ ts) (MainAssign n.place n.bytes how e) left
    main_if : {ts mid mid' left : List Lexeme} {e : Expression} {first second : Main} {has_else : Bool} (w : Lexeme) → w.kind ≡ if_word
        → IsBracketed ts e mid → IsMainBlock mid first mid' → IsMainElse mid' second has_else left
        → IsItem (w ∷ ts) (MainIf w.place e first second has_else) left
    main_while : {ts mid left : List Lexeme} {e : Expression} {body : Main} (w : Lexeme) → w.kind ≡ while_word
        → IsBracketed ts e mid → IsMainBlock mid body left → IsItem (w ∷ ts) (MainWhile w.place e body) left
    main_for : {ts left : List Lexeme} {body : Body} {kind : Kind} (w o n a k p m q c : Lexeme) → w.kind ≡ for_word
        → o.kind ≡ open_bracket → n.kind ≡ NameToken → a.kind ≡ arrow → mesh_set_of k.kind ≡ Some kind → p.kind ≡ open_bracket
        → m.kind ≡ mesh_word → q.kind ≡ close_bracket → c.kind ≡ close_bracket → IsBlock ts body left
        → IsItem (w ∷ o ∷ n ∷ a ∷ k ∷ p ∷ m ∷ q ∷ c ∷ ts) (MainFor w.place n.bytes n.place kind body) left
    print : {ts mid left : List Lexeme} {e : Expression} (w : Lexeme) → w.kind ≡ print_word → IsExpression lowest_rank ts e mid
        → Closes mid left → IsItem (w ∷ ts) (Print w.place e) left

  pub data IsMain : List Lexeme → Main → List Lexeme → Type 0 where
    no_items : {left : List Lexeme} → IsMain left no_item left
    items : {ts mid left : List Lexeme} {i : MainItem} {more : Main} → IsItem ts i mid → IsMain mid more left → IsMain ts (item i more) left

  pub data IsMainBlock : List Lexeme → Main → List Lexeme → Type 0 where
    main_block : {ts left : List Lexeme} {body : Main} (o c : Lexeme) → o.kind ≡ open_brace → IsMain ts body (c ∷ left)
        → c.kind ≡ close_brace → IsMainBlock (o ∷ ts) body left

  pub data IsMainElse : List Lexeme → Main → Bool → List Lexeme → Type 0 where
    no_main_else : {left : List Lexeme} → IsMainElse left no_item false left
    main_else : {ts left : List Lexeme} {body : Main} (w : Lexeme) → w.kind ≡ else_word → IsMainBlock ts body left
        → IsMainElse (w ∷ ts) body true left

-- A program: items up to the end of the tokens.
abbrev pub Derives : List Lexeme → Main → Type 0
Derives ts tree = IsMain ts tree []
