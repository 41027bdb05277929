-- The tokens of a canonical text, as what they are and their bytes, and which trees have one.
use Rattle.std.proofs.Common.{◌≡◌, ℕ, nat_le, nat_lt, Bool, true, false, Option, Some, None, List, ◌∷◌, codes}
use Rattle.std.specs.Fmt.{signed_decimal}
use Rattle.liszt_base.specs.declared.elements.Kind.{Kind}
use Rattle.liszt_base.specs.declared.elements.Kind.TheVariants.{Vertex, Edge, Face, Cell}
use Rattle.liszt_base.specs.declared.elements.Op.TheVariants.{Add, Mul, And as AndBits, Or as OrBits, Xor, Min, Max}
use Rattle.liszt_base.specs.declared.elements.SetName.{SetName}
use Rattle.liszt_base.specs.declared.elements.SetName.TheVariants.{Vertices, Edges, Faces, Cells, EdgesCcw}
use Rattle.liszt_lexer.specs.declared.token.TokenKind.{TokenKind}
use Rattle.liszt_lexer.specs.declared.token.TokenKind.TheVariants.{Name as NameToken, Number as NumberToken, Word, Symbol, MinSet, MaxSet}
use Rattle.liszt_lexer.proofs.SpellingLemmas.{Spelling, IsSpelling}
use Rattle.liszt_lexer.proofs.TokenEndLemmas.{IsSmall}
use Rattle.liszt_tree.specs.declared.tree.Fun.{Fun}
use Rattle.liszt_tree.specs.declared.tree.Fun.TheVariants.{Head, Tail, Inside, Outside, Flip, Valid, Id}
use Rattle.liszt_tree.specs.declared.tree.How.{How}
use Rattle.liszt_tree.specs.declared.tree.How.TheVariants.{Set, Fold, Less}
use Rattle.liszt_tree.specs.declared.tree.Level.{Level}
use Rattle.liszt_tree.specs.declared.tree.Rel.{Rel}
use Rattle.liszt_tree.specs.declared.tree.Rel.TheVariants.{Same, Other, Below, AtMost, Above, AtLeast}
use Rattle.liszt_tree.specs.declared.tree.Sign.{Sign}
use Rattle.liszt_tree.specs.declared.tree.Sign.TheVariants as sign
use Rattle.liszt_tree.specs.Canonical.{kind_word, mesh_set_word, set_word, fun_word, how_text, sign_text, rel_text, chain_level, level_of}
use Rattle.liszt_tree.specs.Tree.{Expression, Number, Name, Field, Call, Towards, Neg, Not, Chain, Compare, Links, no_links, link, Statement, Var, Val, Assign, If, While, For, Body, no_statement, statement, MainItem, MainField, MainVar, MainAssign, MainIf, MainWhile, MainFor, Print, Main, no_item, item}
use Rattle.liszt_parser.specs.Grammar.{open_bracket, close_bracket, open_brace, close_brace, comma, semicolon, colon, arrow, minus, bang, set_to, field_word, var_word, val_word, if_word, else_word, while_word, for_word, print_word, mesh_word, towards_word, sign_of}

-- WHAT THE TOKENS ARE that denote functions, kinds, sets and operators
abbrev pub fun_token : Fun → TokenKind
fun_token Head = Word 15
fun_token Tail = Word 16
fun_token Inside = Word 17
fun_token Outside = Word 18
fun_token Flip = Word 19
fun_token Valid = Word 26
fun_token Id = Word 27

abbrev pub kind_token : Kind → TokenKind
kind_token Vertex = Word 11
kind_token Edge = Word 12
kind_token Face = Word 13
kind_token Cell = Word 14

abbrev pub whole_token : Kind → TokenKind
whole_token Vertex = Word 21
whole_token Edge = Word 22
whole_token Face = Word 23
whole_token Cell = Word 24

abbrev pub set_token : SetName → TokenKind
set_token Vertices = Word 21
set_token Edges = Word 22
set_token Faces = Word 23
set_token Cells = Word 24
set_token EdgesCcw = Word 25

abbrev pub sign_token : Sign → TokenKind
sign_token sign.Or = Symbol 15
sign_token sign.And = Symbol 14
sign_token sign.Plus = Symbol 16
sign_token sign.Minus = Symbol 17
sign_token sign.Times = Symbol 18
sign_token sign.Over = Symbol 19
sign_token sign.Rest = Symbol 20

abbrev pub rel_token : Rel → TokenKind
rel_token Same = Symbol 8
rel_token Other = Symbol 9
rel_token AtMost = Symbol 10
rel_token AtLeast = Symbol 11
rel_token Below = Symbol 12
rel_token Above = Symbol 13

abbrev pub how_token : How → TokenKind
how_token Set = Symbol 22
how_token Less = Symbol 24
how_token (Fold Add) = Symbol 23
how_token (Fold Mul) = Symbol 25
how_token (Fold AndBits) = Symbol 26
how_token (Fold OrBits) = Symbol 27
how_token (Fold Xor) = Symbol 28
how_token (Fold Min) = MinSet
how_token (Fold Max) = MaxSet

-- WORDS are put before those that follow.
abbrev pub Words : Type 0
Words = List Spelling → List Spelling

abbrev pub spelt : TokenKind → List ℕ → Spelling
spelt kind bytes = record { kind = kind; bytes = bytes }

abbrev pub bracketed_words : Words → Words
bracketed_words words ws = spelt open_bracket (codes "(") ∷ words (spelt close_bracket (codes ")") ∷ ws)

abbrev pub words_in : Bool → Words → Words
words_in false words = words
words_in true words = bracketed_words words

abbrev mutual
  pub words_of : Expression → List Spelling → List Spelling
  words_of (Number place value) ws = spelt (NumberToken value) (signed_decimal value) ∷ ws
  words_of (Name place name) ws = spelt NameToken name ∷ ws
  words_of (Field place name arg) ws = spelt NameToken name ∷ bracketed_words (words_of arg) ws
  words_of (Call place fun arg) ws = spelt (fun_token fun) (fun_word fun) ∷ bracketed_words (words_of arg) ws
  words_of (Towards place arg to) ws =
      spelt towards_word (codes "towards") ∷ spelt open_bracket (codes "(")
      ∷ words_of arg (spelt comma (codes ",") ∷ words_of to (spelt close_bracket (codes ")") ∷ ws))
  words_of (Neg place arg) ws = spelt minus (codes "-") ∷ words_in (nat_lt (level_of arg) 6) (words_of arg) ws
  words_of (Not place arg) ws = spelt bang (codes "!") ∷ words_in (nat_lt (level_of arg) 6) (words_of arg) ws
  words_of (Chain level first links) ws =
      words_in (nat_le (level_of first) (chain_level level)) (words_of first) (links_words (chain_level level) links ws)
  words_of (Compare place rel left right) ws =
      words_in (nat_le (level_of left) 3) (words_of left)
      (spelt (rel_token rel) (rel_text rel) ∷ words_in (nat_le (level_of right) 3) (words_of right) ws)

  pub links_words : ℕ → Links → List Spelling → List Spelling
  links_words level no_links ws = ws
  links_words level (link sign place arg more) ws =
      spelt (sign_token sign) (sign_text sign) ∷ words_in (nat_le (level_of arg) level) (words_of arg) (links_words level more ws)

-- an expression and its `;`
abbrev pub closed_words : Expression → Words
closed_words e ws = words_of e (spelt semicolon (codes ";") ∷ ws)

abbrev pub declared_words : TokenKind → List ℕ → List ℕ → Expression → Words
declared_words kind word name init ws = spelt kind word ∷ spelt NameToken name ∷ spelt set_to (codes "=") ∷ closed_words init ws

abbrev pub headed_words : TokenKind → List ℕ → Expression → Words
headed_words kind word test ws = spelt kind word ∷ bracketed_words (words_of test) (spelt open_brace (codes "{") ∷ ws)

abbrev pub target_words : Option Expression → Words
target_words None ws = ws
target_words (Some target) ws = bracketed_words (words_of target) ws

-- the `}` of a block
abbrev pub ended_words : Words
ended_words ws = spelt close_brace (codes "}") ∷ ws

-- the `}` of the first block of an `if`, and its second where `else` was written
abbrev pub else_words : Bool → Words → Words
else_words true block ws =
    spelt close_brace (codes "}") ∷ spelt else_word (codes "else") ∷ spelt open_brace (codes "{") ∷ block (ended_words ws)
else_words false block ws = ended_words ws

abbrev mutual
  pub statement_words : Statement → List Spelling → List Spelling
  statement_words (Var place name at init) ws = declared_words var_word (codes "var") name init ws
  statement_words (Val place name at init) ws = declared_words val_word (codes "val") name init ws
  statement_words (Assign place name target how value) ws =
      spelt NameToken name ∷ target_words target (spelt (how_token how) (how_text how) ∷ closed_words value ws)
  statement_words (If place test first second has_else) ws =
      headed_words if_word (codes "if") test (body_words first (else_words has_else (body_words second) ws))
  statement_words (While place test body) ws = headed_words while_word (codes "while") test (body_words body (ended_words ws))
  statement_words (For place name at set set_at arg body) ws =
      spelt for_word (codes "for") ∷ spelt open_bracket (codes "(") ∷ spelt NameToken name ∷ spelt arrow (codes "<-")
      ∷ spelt (set_token set) (set_word set)
      ∷ bracketed_words (words_of arg)
      (spelt close_bracket (codes ")") ∷ spelt open_brace (codes "{") ∷ body_words body (ended_words ws))

  pub body_words : Body → List Spelling → List Spelling
  body_words no_statement ws = ws
  body_words (statement s more) ws = statement_words s (body_words more ws)

abbrev mutual
  pub item_words : MainItem → List Spelling → List Spelling
  item_words (MainField place name at kind init) ws =
      spelt field_word (codes "field") ∷ spelt NameToken name ∷ spelt colon (codes ":") ∷ spelt (kind_token kind) (kind_word kind)
      ∷ spelt set_to (codes "=") ∷ closed_words init ws
  item_words (MainVar place name at init) ws = declared_words var_word (codes "var") name init ws
  item_words (MainAssign place name how value) ws = spelt NameToken name ∷ spelt (how_token how) (how_text how) ∷ closed_words value ws
  item_words (MainIf place test first second has_else) ws =
      headed_words if_word (codes "if") test (main_words first (else_words has_else (main_words second) ws))
  item_words (MainWhile place test body) ws = headed_words while_word (codes "while") test (main_words body (ended_words ws))
  item_words (MainFor place name at over body) ws =
      spelt for_word (codes "for") ∷ spelt open_bracket (codes "(") ∷ spelt NameToken name ∷ spelt arrow (codes "<-")
      ∷ spelt (whole_token over) (mesh_set_word over) ∷ spelt open_bracket (codes "(") ∷ spelt mesh_word (codes "mesh")
      ∷ spelt close_bracket (codes ")") ∷ spelt close_bracket (codes ")") ∷ spelt open_brace (codes "{")
      ∷ body_words body (ended_words ws)
  item_words (Print place value) ws = spelt print_word (codes "print") ∷ closed_words value ws

  pub main_words : Main → List Spelling → List Spelling
  main_words no_item ws = ws
  main_words (item i more) ws = item_words i (main_words more ws)

-- TREES THAT HAVE A TEXT: their names are names, their numbers have digits, and their chains have links with operators of their level.
abbrev pub HasLink : Links → Type 0
HasLink no_links = ⊥
HasLink (link sign place arg more) = Unit {0}

abbrev mutual
  pub IsWritable : Expression → Type 0
  IsWritable (Number place value) = IsSmall value
  IsWritable (Name place name) = IsSpelling NameToken name
  IsWritable (Field place name arg) = IsSpelling NameToken name × IsWritable arg
  IsWritable (Call place fun arg) = IsWritable arg
  IsWritable (Towards place arg to) = IsWritable arg × IsWritable to
  IsWritable (Neg place arg) = IsWritable arg
  IsWritable (Not place arg) = IsWritable arg
  IsWritable (Chain level first links) = IsWritable first × HasLink links × AreWritable level links
  IsWritable (Compare place rel left right) = IsWritable left × IsWritable right

  pub AreWritable : Level → Links → Type 0
  AreWritable level no_links = Unit {0}
  AreWritable level (link sign place arg more) =
      (sign_of level (sign_token sign) ≡ Some sign) × IsWritable arg × AreWritable level more

abbrev pub IsWritableTarget : Option Expression → Type 0
IsWritableTarget None = Unit {0}
IsWritableTarget (Some target) = IsWritable target

-- where no `else` was written there is no second block
abbrev pub IsElseOf : Bool → Body → Type 0
IsElseOf true body = Unit {0}
IsElseOf false body = body ≡ no_statement

abbrev pub IsMainElseOf : Bool → Main → Type 0
IsMainElseOf true body = Unit {0}
IsMainElseOf false body = body ≡ no_item

abbrev mutual
  pub IsWritableStatement : Statement → Type 0
  IsWritableStatement (Var place name at init) = IsSpelling NameToken name × IsWritable init
  IsWritableStatement (Val place name at init) = IsSpelling NameToken name × IsWritable init
  IsWritableStatement (Assign place name target how value) = IsSpelling NameToken name × IsWritableTarget target × IsWritable value
  IsWritableStatement (If place test first second has_else) =
      IsWritable test × IsWritableBody first × IsWritableBody second × IsElseOf has_else second
  IsWritableStatement (While place test body) = IsWritable test × IsWritableBody body
  IsWritableStatement (For place name at set set_at arg body) = IsSpelling NameToken name × IsWritable arg × IsWritableBody body

  pub IsWritableBody : Body → Type 0
  IsWritableBody no_statement = Unit {0}
  IsWritableBody (statement s more) = IsWritableStatement s × IsWritableBody more

abbrev mutual
  pub IsWritableItem : MainItem → Type 0
  IsWritableItem (MainField place name at kind init) = IsSpelling NameToken name × IsWritable init
  IsWritableItem (MainVar place name at init) = IsSpelling NameToken name × IsWritable init
  IsWritableItem (MainAssign place name how value) = IsSpelling NameToken name × IsWritable value
  IsWritableItem (MainIf place test first second has_else) =
      IsWritable test × IsWritableMain first × IsWritableMain second × IsMainElseOf has_else second
  IsWritableItem (MainWhile place test body) = IsWritable test × IsWritableMain body
  IsWritableItem (MainFor place name at over body) = IsSpelling NameToken name × IsWritableBody body
  IsWritableItem (Print place value) = IsWritable value

  pub IsWritableMain : Main → Type 0
  IsWritableMain no_item = Unit {0}
  IsWritableMain (item i more) = IsWritableItem i × IsWritableMain more
