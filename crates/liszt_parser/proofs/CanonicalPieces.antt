-- The canonical text of a tree that has one is cut into gaps and its words.
use Rattle.std.proofs.Common.{◌≡◌, ℕ, zero, suc, ◌+◌, nat_le, nat_lt, Bool, true, false, Option, Some, None, List, [], ◌∷◌, ◌++◌, codes, refl, sym, subst, append_assoc}
use Rattle.std.proofs.lemmas.List.{append-nil}
use Rattle.liszt_base.specs.declared.elements.Kind.{Kind}
use Rattle.liszt_base.specs.declared.elements.Kind.TheVariants.{Vertex, Edge, Face, Cell}
use Rattle.liszt_base.specs.declared.elements.Op.TheVariants.{Add, Mul, And as AndBits, Or as OrBits, Xor, Min, Max}
use Rattle.liszt_base.specs.declared.elements.SetName.{SetName}
use Rattle.liszt_base.specs.declared.elements.SetName.TheVariants.{Vertices, Edges, Faces, Cells, EdgesCcw}
use Rattle.liszt_lexer.specs.declared.token.TokenKind.{TokenKind}
use Rattle.liszt_lexer.specs.declared.token.TokenKind.TheVariants.{Name as NameToken, Number as NumberToken}
use Rattle.liszt_lexer.proofs.SpellingLemmas.{Spelling, IsSpelling, Spells, spells_nothing, spells_blank, spells_token, spells_minus, spells_bang, spells_bracket}
use Rattle.liszt_lexer.proofs.TokenEndLemmas.{EndsToken, begins_well, name_begins, number_is_token}
use Rattle.liszt_tree.specs.declared.tree.Fun.{Fun}
use Rattle.liszt_tree.specs.declared.tree.Fun.TheVariants.{Head, Tail, Inside, Outside, Flip, Valid, Id}
use Rattle.liszt_tree.specs.declared.tree.How.{How}
use Rattle.liszt_tree.specs.declared.tree.How.TheVariants.{Set, Fold, Less}
use Rattle.liszt_tree.specs.declared.tree.Level.{Level}
use Rattle.liszt_tree.specs.declared.tree.Rel.{Rel}
use Rattle.liszt_tree.specs.declared.tree.Rel.TheVariants.{Same, Other, Below, AtMost, Above, AtLeast}
use Rattle.liszt_tree.specs.declared.tree.Sign.{Sign}
use Rattle.liszt_tree.specs.declared.tree.Sign.TheVariants as sign
use Rattle.liszt_tree.specs.Canonical.{kind_word, mesh_set_word, set_word, fun_word, how_text, sign_text, rel_text, chain_level, level_of, bracketed_text, spaced_text, expression_text, links_text, line, terminated_line, declaration_text, head_text, target_text, else_text, statement_text, body_text, item_text, main_text, canonical}
use Rattle.liszt_tree.specs.Tree.{Expression, Number, Name, Field, Call, Towards, Neg, Not, Chain, Compare, Links, no_links, link, Statement, Var, Val, Assign, If, While, For, Body, no_statement, statement, MainItem, MainField, MainVar, MainAssign, MainIf, MainWhile, MainFor, Print, Main, no_item, item}
use Rattle.liszt_parser.specs.Grammar.{open_bracket, close_bracket, open_brace, close_brace, comma, semicolon, colon, arrow, minus, bang, set_to, field_word, var_word, val_word, if_word, else_word, while_word, for_word, print_word, mesh_word, towards_word}
use Rattle.liszt_parser.proofs.CanonicalTokens.{Words, spelt, fun_token, kind_token, whole_token, set_token, sign_token, rel_token, how_token, bracketed_words, words_in, words_of, links_words, declared_words, headed_words, target_words, ended_words, else_words, statement_words, body_words, item_words, main_words, IsWritable, AreWritable, IsWritableTarget, IsWritableStatement, IsWritableBody, IsWritableItem, IsWritableMain}

-- THE TEXTS of functions, kinds, sets and operators are these tokens.
fun_is : (fun : Fun) → IsSpelling (fun_token fun) (fun_word fun)
fun_is Head = record { is = refl }
fun_is Tail = record { is = refl }
fun_is Inside = record { is = refl }
fun_is Outside = record { is = refl }
fun_is Flip = record { is = refl }
fun_is Valid = record { is = refl }
fun_is Id = record { is = refl }

fun_begins : (fun : Fun) → begins_well (fun_word fun) ≡ true
fun_begins Head = refl
fun_begins Tail = refl
fun_begins Inside = refl
fun_begins Outside = refl
fun_begins Flip = refl
fun_begins Valid = refl
fun_begins Id = refl

kind_is : (kind : Kind) → IsSpelling (kind_token kind) (kind_word kind)
kind_is Vertex = record { is = refl }
kind_is Edge = record { is = refl }
kind_is Face = record { is = refl }
kind_is Cell = record { is = refl }

whole_is : (kind : Kind) → IsSpelling (whole_token kind) (mesh_set_word kind)
whole_is Vertex = record { is = refl }
whole_is Edge = record { is = refl }
whole_is Face = record { is = refl }
whole_is Cell = record { is = refl }

set_is : (set : SetName) → IsSpelling (set_token set) (set_word set)
set_is Vertices = record { is = refl }
set_is Edges = record { is = refl }
set_is Faces = record { is = refl }
set_is Cells = record { is = refl }
set_is EdgesCcw = record { is = refl }

sign_is : (s : Sign) → IsSpelling (sign_token s) (sign_text s)
sign_is sign.Or = record { is = refl }
sign_is sign.And = record { is = refl }
sign_is sign.Plus = record { is = refl }
sign_is sign.Minus = record { is = refl }
sign_is sign.Times = record { is = refl }
sign_is sign.Over = record { is = refl }
sign_is sign.Rest = record { is = refl }

rel_is : (rel : Rel) → IsSpelling (rel_token rel) (rel_text rel)
rel_is Same = record { is = refl }
rel_is Other = record { is = refl }
rel_is Below = record { is = refl }
rel_is AtMost = record { is = refl }
rel_is Above = record { is = refl }
rel_is AtLeast = record { is = refl }

how_is : (how : How) → IsSpelling (how_token how) (how_text how)
how_is Set = record { is = refl }
how_is Less = record { is = refl }
how_is (Fold Add) = record { is = refl }
how_is (Fold Mul) = record { is = refl }
how_is (Fold AndBits) = record { is = refl }
how_is (Fold OrBits) = record { is = refl }
how_is (Fold Xor) = record { is = refl }
how_is (Fold Min) = record { is = refl }
how_is (Fold Max) = record { is = refl }

-- A TEXT WRITES WORDS where it is cut into them before a byte that ends tokens.
record Writes (text : List ℕ) (words : Words) : Type 0 where
  write : (rest : List ℕ) (ws : List Spelling) → EndsToken rest → Spells rest ws → Spells (text ++ rest) (words ws)

-- a text ends tokens, or what is after it does
abbrev Follows : List ℕ → Type 0
Follows text = (rest : List ℕ) → EndsToken rest → EndsToken (text ++ rest)

-- one token, a blank, and a text with another after it
token : {bytes : List ℕ} (kind : TokenKind) → IsSpelling kind bytes → Writes bytes (λ ws. spelt kind bytes ∷ ws)
token {bytes} kind is = record { write = λ rest ws stops more. spells_token bytes rest kind ws is stops more }

blank : {text : List ℕ} {words : Words} → Writes text words → Writes (32 ∷ text) words
blank {text} {words} h =
    record { write = λ rest ws stops more. spells_blank 32 (text ++ rest) (words ws) refl (h.write rest ws stops more) }

both : {a b : List ℕ} {f g : Words} → Follows b → Writes a f → Writes b g → Writes (a ++ b) (λ ws. f (g ws))
both {a} {b} {f} {g} follows ha hb =
    record {
      write = λ rest ws stops more.
          subst (λ l. Spells l (f (g ws))) (sym (append_assoc a b rest)) (ha.write (b ++ rest) (g ws) (follows rest stops) (hb.write rest ws stops more));
    }

-- a text that does not begin with `=`, with another after it
begins_in : (text rest : List ℕ) → begins_well text ≡ true → begins_well (text ++ rest) ≡ true
begins_in [] rest e = cc
begins_in (b ∷ text) rest e = e

-- `(` before it, and the prefix operators
opened : {text : List ℕ} {words : Words} → begins_well text ≡ true → Writes text words
    → Writes (40 ∷ text) (λ ws. spelt open_bracket (codes "(") ∷ words ws)
opened {text} {words} begins h =
    record {
      write = λ rest ws stops more.
          spells_bracket (text ++ rest) (words ws) (begins_in text rest begins) (h.write rest ws stops more);
    }

negative : {text : List ℕ} {words : Words} → begins_well text ≡ true → Writes text words
    → Writes (45 ∷ text) (λ ws. spelt minus (codes "-") ∷ words ws)
negative {text} {words} begins h =
    record {
      write = λ rest ws stops more.
          spells_minus (text ++ rest) (words ws) (begins_in text rest begins) (h.write rest ws stops more);
    }

logical_not : {text : List ℕ} {words : Words} → begins_well text ≡ true → Writes text words
    → Writes (33 ∷ text) (λ ws. spelt bang (codes "!") ∷ words ws)
logical_not {text} {words} begins h =
    record {
      write = λ rest ws stops more.
          spells_bang (text ++ rest) (words ws) (begins_in text rest begins) (h.write rest ws stops more);
    }

-- `)`, and a text in brackets
closing : Writes (codes ")") (λ ws. spelt close_bracket (codes ")") ∷ ws)
closing = token close_bracket (record { is = refl })

in_brackets : {text : List ℕ} {words : Words} → begins_well text ≡ true → Writes text words
    → Writes (40 ∷ (text ++ codes ")")) (bracketed_words words)
in_brackets {text} begins h = opened (begins_in text (codes ")") begins) (both (λ rest stops. refl) h closing)

in_brackets_if : {text : List ℕ} {words : Words} (b : Bool) → begins_well text ≡ true → Writes text words
    → Writes (bracketed_text b text) (words_in b words)
in_brackets_if true begins h = in_brackets begins h
in_brackets_if false begins h = h

begins_if : (b : Bool) (text : List ℕ) → begins_well text ≡ true → begins_well (bracketed_text b text) ≡ true
begins_if true text e = refl
begins_if false text e = e

-- an operator between blanks, before a text
between : {bytes text : List ℕ} {words : Words} (kind : TokenKind) → IsSpelling kind bytes → Writes text words
    → Writes (spaced_text bytes ++ text) (λ ws. spelt kind bytes ∷ words ws)
between {bytes} {text} {words} kind is h =
    subst (λ (l : List ℕ). Writes (32 ∷ l) (λ ws. spelt kind bytes ∷ words ws)) (sym (append_assoc bytes (codes " ") text))
    (blank (both (λ rest stops. refl) (token kind is) (blank h)))

-- a name and its argument
applied : {bytes text : List ℕ} {words : Words} (kind : TokenKind) → IsSpelling kind bytes → begins_well text ≡ true → Writes text words
    → Writes (bytes ++ codes "(" ++ text ++ codes ")") (λ ws. spelt kind bytes ∷ bracketed_words words ws)
applied kind is begins h = simp append_assoc (both (λ rest stops. refl) (token kind is) (in_brackets begins h))

begins_applied : (bytes text : List ℕ) → begins_well bytes ≡ true → begins_well (bytes ++ codes "(" ++ text ++ codes ")") ≡ true
begins_applied bytes text begins = simp append_assoc (begins_in bytes (40 ∷ (text ++ codes ")")) begins)

-- two operands and the operator between them
operated : {bytes a b : List ℕ} {f g : Words} (kind : TokenKind) → IsSpelling kind bytes → Writes a f → Writes b g
    → Writes (a ++ spaced_text bytes ++ b) (λ ws. f (spelt kind bytes ∷ g ws))
operated {bytes} {a} {b} {f} {g} kind is left right =
    subst (λ (l : List ℕ). Writes l (λ ws. f (spelt kind bytes ∷ g ws))) (sym (append_assoc a (spaced_text bytes) b))
    (both (λ rest stops. refl) left (between kind is right))

-- an operator, its operand and the links after it
one_link : {bytes a b : List ℕ} {f g : Words} (kind : TokenKind) → IsSpelling kind bytes → Follows b → Writes a f → Writes b g
    → Writes (spaced_text bytes ++ a ++ b) (λ ws. spelt kind bytes ∷ f (g ws))
one_link {bytes} {a} {b} {f} {g} kind is follows operand more =
    subst (λ (l : List ℕ). Writes l (λ ws. spelt kind bytes ∷ f (g ws))) (sym (append_assoc (spaced_text bytes) a b))
    (between kind is (both follows operand more))

-- nothing
empty : Writes [] (λ ws. ws)
empty = record { write = λ rest ws stops more. more }

-- `towards` and its arguments
two_arguments : {a b : List ℕ} {f g : Words} → begins_well a ≡ true → Writes a f → Writes b g
    → Writes (codes "towards(" ++ a ++ codes ", " ++ b ++ codes ")")
    (λ ws. spelt towards_word (codes "towards") ∷ spelt open_bracket (codes "(")
    ∷ f (spelt comma (codes ",") ∷ g (spelt close_bracket (codes ")") ∷ ws)))
two_arguments {a} {b} begins first second =
    simp append_assoc (both {a = codes "towards"} (λ rest stops. refl) (token towards_word (record { is = refl }))
    (opened (begins_in a (44 ∷ 32 ∷ (b ++ codes ")")) begins) (both (λ rest stops. refl) first
    (both {a = codes ","} (λ rest stops. refl) (token comma (record { is = refl }))
    (blank (both (λ rest stops. refl) second closing))))))

-- EXPRESSIONS
begins : (e : Expression) → IsWritable e → begins_well (expression_text e) ≡ true
begins (Number place value) h = (number_is_token value h).1
begins (Name place name) h = name_begins name h.is
begins (Field place name arg) h = begins_applied name (expression_text arg) (name_begins name h.0.is)
begins (Call place fun arg) h = begins_applied (fun_word fun) (expression_text arg) (fun_begins fun)
begins (Towards place arg to) h = refl
begins (Neg place arg) h = refl
begins (Not place arg) h = refl
begins (Chain level first links) h =
    begins_in (bracketed_text (nat_le (level_of first) (chain_level level)) (expression_text first)) (links_text (chain_level level) links)
    (begins_if (nat_le (level_of first) (chain_level level)) (expression_text first) (begins first h.0))
begins (Compare place rel left right) h =
    begins_in (bracketed_text (nat_le (level_of left) 3) (expression_text left) ++ spaced_text (rel_text rel))
    (bracketed_text (nat_le (level_of right) 3) (expression_text right))
    (begins_in (bracketed_text (nat_le (level_of left) 3) (expression_text left)) (spaced_text (rel_text rel))
    (begins_if (nat_le (level_of left) 3) (expression_text left) (begins left h.0)))

links_follow : (level : ℕ) (links : Links) → Follows (links_text level links)
links_follow level no_links rest stops = stops
links_follow level (link s place arg more) rest stops = refl

mutual
  expression : (e : Expression) → IsWritable e → Writes (expression_text e) (words_of e)
  expression (Number place value) h = token (NumberToken value) (record { is = (number_is_token value h).0 })
  expression (Name place name) h = token NameToken h
  expression (Field place name arg) h =
      applied NameToken h.0 (begins arg h.1) (expression arg h.1)
  expression (Call place fun arg) h =
      applied (fun_token fun) (fun_is fun) (begins arg h) (expression arg h)
  expression (Towards place arg to) h = two_arguments (begins arg h.0) (expression arg h.0) (expression to h.1)
  expression (Neg place arg) h =
      negative (begins_if (nat_lt (level_of arg) 6) (expression_text arg) (begins arg h))
      (in_brackets_if (nat_lt (level_of arg) 6) (begins arg h) (expression arg h))
  expression (Not place arg) h =
      logical_not (begins_if (nat_lt (level_of arg) 6) (expression_text arg) (begins arg h))
      (in_brackets_if (nat_lt (level_of arg) 6) (begins arg h) (expression arg h))
  expression (Chain level first links) h =
      both (links_follow (chain_level level) links)
      (in_brackets_if (nat_le (level_of first) (chain_level level)) (begins first h.0) (expression first h.0))
      (all_links level (chain_level level) links h.2)
  expression (Compare place rel left right) h =
      operated (rel_token rel) (rel_is rel) (in_brackets_if (nat_le (level_of left) 3) (begins left h.0) (expression left h.0))
      (in_brackets_if (nat_le (level_of right) 3) (begins right h.1) (expression right h.1))

  all_links : (level : Level) (n : ℕ) (links : Links) → AreWritable level links → Writes (links_text n links) (links_words n links)
  all_links level n no_links h = empty
  all_links level n (link s place arg more) h =
      one_link (sign_token s) (sign_is s) (links_follow n more)
      (in_brackets_if (nat_le (level_of arg) n) (begins arg h.1) (expression arg h.1)) (all_links level n more h.2)

-- LINES write words whatever follows.
record WritesLines (text : List ℕ) (words : Words) : Type 0 where
  write : (rest : List ℕ) (ws : List Spelling) → Spells rest ws → Spells (text ++ rest) (words ws)

one_line : {text : List ℕ} {words : Words} (depth : ℕ) → Writes text words → WritesLines (line depth text) words
one_line {text} {words} zero h =
    record {
      write = λ rest ws more.
          subst (λ l. Spells l (words ws)) (sym (append_assoc text (codes "\n") rest))
          (h.write (10 ∷ rest) ws refl (spells_blank 10 rest ws refl more));
    }
one_line {text} {words} (suc depth) h =
    let below = one_line depth h in
    record {
      write = λ rest ws more.
          spells_blank 32 (32 ∷ (line depth text ++ rest)) (words ws) refl
          (spells_blank 32 (line depth text ++ rest) (words ws) refl (below.write rest ws more));
    }

no_lines : WritesLines [] (λ ws. ws)
no_lines = record { write = λ rest ws more. more }

then : {a b : List ℕ} {f g : Words} → WritesLines a f → WritesLines b g → WritesLines (a ++ b) (λ ws. f (g ws))
then {a} {b} {f} {g} ha hb =
    record {
      write = λ rest ws more.
          subst (λ l. Spells l (f (g ws))) (sym (append_assoc a b rest)) (ha.write (b ++ rest) (g ws) (hb.write rest ws more));
    }

-- a line with its `;`
closed : {text : List ℕ} {words : Words} (depth : ℕ) → Writes text words
    → WritesLines (terminated_line depth text) (λ ws. words (spelt semicolon (codes ";") ∷ ws))
closed depth h = one_line depth (both (λ rest stops. refl) h (token semicolon (record { is = refl })))

-- ` = ` and a value, and a declaration_text
set_value : {text : List ℕ} {words : Words} → Writes text words → Writes (codes " = " ++ text) (λ ws. spelt set_to (codes "=") ∷ words ws)
set_value h = blank (both {a = codes "="} (λ rest stops. refl) (token set_to (record { is = refl })) (blank h))

declares : {word name text : List ℕ} {words : Words} (kind : TokenKind) → IsSpelling kind word → IsSpelling NameToken name
    → Writes text words → Writes (word ++ codes " " ++ name ++ codes " = " ++ text)
    (λ ws. spelt kind word ∷ spelt NameToken name ∷ spelt set_to (codes "=") ∷ words ws)
declares kind is named h =
    simp append_assoc (both (λ rest stops. refl) (token kind is) (blank (both (λ rest stops. refl) (token NameToken named) (set_value h))))

a_declaration : (depth : ℕ) (kind : TokenKind) (word name : List ℕ) (init : Expression) → IsSpelling kind word
    → IsSpelling NameToken name × IsWritable init → WritesLines (terminated_line depth (declaration_text word name init)) (declared_words kind word name init)
a_declaration depth kind word name init is h = closed depth (declares kind is h.0 (expression init h.1))

-- ` {`, and a line that begins a block
brace : Writes (codes " {") (λ ws. spelt open_brace (codes "{") ∷ ws)
brace = blank (token open_brace (record { is = refl }))

heads : {word text : List ℕ} {words : Words} (kind : TokenKind) → IsSpelling kind word → begins_well text ≡ true → Writes text words
    → Writes (word ++ codes " (" ++ text ++ codes ") {") (λ ws. spelt kind word ∷ bracketed_words words (spelt open_brace (codes "{") ∷ ws))
heads {text} kind is begins h =
    simp append_assoc (both (λ rest stops. refl) (token kind is) (blank (opened (begins_in text (codes ") {") begins)
    (both (λ rest stops. refl) h (both {a = codes ")"} (λ rest stops. refl) closing brace)))))

a_head : (depth : ℕ) (kind : TokenKind) (word : List ℕ) (test : Expression) → IsSpelling kind word → IsWritable test
    → WritesLines (line depth (head_text word test)) (headed_words kind word test)
a_head depth kind word test is h = one_line depth (heads kind is (begins test h) (expression test h))

-- the line that ends it
an_end : (depth : ℕ) → WritesLines (line depth (codes "}")) ended_words
an_end depth = one_line depth (token close_brace (record { is = refl }))

-- what follows the first block of an `if`
an_else : {block : List ℕ} {words : Words} (depth : ℕ) (has_else : Bool) → WritesLines block words
    → WritesLines (else_text depth has_else block ++ line depth (codes "}")) (else_words has_else words)
an_else depth false h = an_end depth
an_else depth true h =
    then (then (one_line depth (both {a = codes "}"} (λ rest stops. refl) (token close_brace (record { is = refl }))
    (blank (both {a = codes "else"} (λ rest stops. refl) (token else_word (record { is = refl })) brace)))) h) (an_end depth)

-- an `if` of its lines
an_if : {head first block : List ℕ} {f g k : Words} (depth : ℕ) (has_else : Bool) → WritesLines head f → WritesLines first g
    → WritesLines block k
    → WritesLines (head ++ first ++ else_text depth has_else block ++ line depth (codes "}")) (λ ws. f (g (else_words has_else k ws)))
an_if {head} {first} {block} {f} {g} {k} depth has_else hf hg hk =
    subst (λ (l : List ℕ). WritesLines l (λ ws. f (g (else_words has_else k ws))))
    (sym (append_assoc (head ++ first) (else_text depth has_else block) (line depth (codes "}"))))
    (then (then hf hg) (an_else depth has_else hk))

-- a `while` and a `for` of their lines
a_block : {head body end : List ℕ} {f g k : Words} → WritesLines head f → WritesLines body g → WritesLines end k
    → WritesLines (head ++ body ++ end) (λ ws. f (g (k ws)))
a_block hf hg hk = then (then hf hg) hk

-- the head of a `for`, up to what stands in the brackets of the set
for_begins : {name set tail : List ℕ} {words : Words} (kind : TokenKind) → IsSpelling NameToken name → IsSpelling kind set → Follows tail
    → Writes tail words
    → Writes (codes "for (" ++ (name ++ (codes " <- " ++ (set ++ tail)))) (λ ws. spelt for_word (codes "for")
    ∷ spelt open_bracket (codes "(") ∷ spelt NameToken name ∷ spelt arrow (codes "<-") ∷ spelt kind set ∷ words ws)
for_begins {name} {set} {tail} kind named is follows h =
    both {a = codes "for"} (λ rest stops. refl) (token for_word (record { is = refl }))
    (blank (opened (begins_in name (codes " <- " ++ (set ++ tail)) (name_begins name named.is))
    (both (λ rest stops. refl) (token NameToken named)
    (blank (both {a = codes "<-"} (λ rest stops. refl) (token arrow (record { is = refl })) (blank (both follows (token kind is) h)))))))

-- `)) {`
for_ends : Writes (codes ")) {") (λ ws. spelt close_bracket (codes ")") ∷ spelt close_bracket (codes ")") ∷ spelt open_brace (codes "{") ∷ ws)
for_ends = both {a = codes ")"} (λ rest stops. refl) closing (both {a = codes ")"} (λ rest stops. refl) closing brace)

set_loops : {name set text : List ℕ} {words : Words} (kind : TokenKind) → IsSpelling NameToken name → IsSpelling kind set
    → begins_well text ≡ true → Writes text words
    → Writes (codes "for (" ++ name ++ codes " <- " ++ set ++ codes "(" ++ text ++ codes ")) {") (λ ws. spelt for_word (codes "for")
    ∷ spelt open_bracket (codes "(") ∷ spelt NameToken name ∷ spelt arrow (codes "<-") ∷ spelt kind set
    ∷ bracketed_words words (spelt close_bracket (codes ")") ∷ spelt open_brace (codes "{") ∷ ws))
set_loops {text} kind named is begins h =
    simp append_assoc (for_begins kind named is (λ rest stops. refl) (opened (begins_in text (codes ")) {") begins)
    (both (λ rest stops. refl) h for_ends)))

mesh_loops : {name set : List ℕ} (kind : TokenKind) → IsSpelling NameToken name → IsSpelling kind set
    → Writes (codes "for (" ++ name ++ codes " <- " ++ set ++ codes "(mesh)) {") (λ ws. spelt for_word (codes "for")
    ∷ spelt open_bracket (codes "(") ∷ spelt NameToken name ∷ spelt arrow (codes "<-") ∷ spelt kind set
    ∷ spelt open_bracket (codes "(") ∷ spelt mesh_word (codes "mesh")
    ∷ spelt close_bracket (codes ")") ∷ spelt close_bracket (codes ")") ∷ spelt open_brace (codes "{") ∷ ws)
mesh_loops kind named is =
    simp append_assoc (for_begins kind named is (λ rest stops. refl) (opened refl
    (both {a = codes "mesh"} (λ rest stops. refl) (token mesh_word (record { is = refl })) for_ends)))

-- the target of an assignment, before a text that ends tokens
target_follows : (target : Option Expression) (text : List ℕ) → Follows text → Follows (target_text target ++ text)
target_follows None text follows = follows
target_follows (Some target) text follows = λ rest stops. refl

a_target : {text : List ℕ} {words : Words} (target : Option Expression) → IsWritableTarget target → Follows text → Writes text words
    → Writes (target_text target ++ text) (λ ws. target_words target (words ws))
a_target None h follows more = more
a_target (Some target) h follows more = both follows (in_brackets (begins target h) (expression target h)) more

-- a name, what may stand after it, an operator and a value
assigns : {name set text : List ℕ} {words : Words} (target : Option Expression) (kind : TokenKind) → IsSpelling NameToken name
    → IsWritableTarget target → IsSpelling kind set → Writes text words
    → Writes (name ++ target_text target ++ spaced_text set ++ text)
    (λ ws. spelt NameToken name ∷ target_words target (spelt kind set ∷ words ws))
assigns {set} {text} target kind named at is h =
    simp append_assoc (both (target_follows target (32 ∷ (set ++ (32 ∷ text))) (λ rest stops. refl)) (token NameToken named)
    (a_target target at (λ rest stops. refl) (blank (both (λ rest stops. refl) (token kind is) (blank h)))))

-- a field
fields : {name kind text : List ℕ} {words : Words} (k : TokenKind) → IsSpelling NameToken name → IsSpelling k kind → Writes text words
    → Writes (codes "field " ++ name ++ codes " : " ++ kind ++ codes " = " ++ text)
    (λ ws. spelt field_word (codes "field") ∷ spelt NameToken name ∷ spelt colon (codes ":") ∷ spelt k kind
    ∷ spelt set_to (codes "=") ∷ words ws)
fields k named is h =
    simp append_assoc (both {a = codes "field"} (λ rest stops. refl) (token field_word (record { is = refl }))
    (blank (both (λ rest stops. refl) (token NameToken named)
    (blank (both {a = codes ":"} (λ rest stops. refl) (token colon (record { is = refl }))
    (blank (both (λ rest stops. refl) (token k is) (set_value h))))))))

-- STATEMENTS
mutual
  a_statement : (depth : ℕ) (s : Statement) → IsWritableStatement s → WritesLines (statement_text depth s) (statement_words s)
  a_statement depth (Var place name at init) h = a_declaration depth var_word (codes "var") name init (record { is = refl }) h
  a_statement depth (Val place name at init) h = a_declaration depth val_word (codes "val") name init (record { is = refl }) h
  a_statement depth (Assign place name target how value) h =
      closed depth (assigns target (how_token how) h.0 h.1 (how_is how) (expression value h.2))
  a_statement depth (If place test first second has_else) h =
      an_if depth has_else (a_head depth if_word (codes "if") test (record { is = refl }) h.0) (a_body (depth + 1) first h.1)
      (a_body (depth + 1) second h.2)
  a_statement depth (While place test body) h =
      a_block (a_head depth while_word (codes "while") test (record { is = refl }) h.0) (a_body (depth + 1) body h.1) (an_end depth)
  a_statement depth (For place name at set set_at arg body) h =
      a_block (one_line depth (set_loops (set_token set) h.0 (set_is set) (begins arg h.1) (expression arg h.1)))
      (a_body (depth + 1) body h.2) (an_end depth)

  a_body : (depth : ℕ) (body : Body) → IsWritableBody body → WritesLines (body_text depth body) (body_words body)
  a_body depth no_statement h = no_lines
  a_body depth (statement s more) h = then (a_statement depth s h.0) (a_body depth more h.1)

-- ITEMS
mutual
  an_item : (depth : ℕ) (i : MainItem) → IsWritableItem i → WritesLines (item_text depth i) (item_words i)
  an_item depth (MainField place name at kind init) h =
      closed depth (fields (kind_token kind) h.0 (kind_is kind) (expression init h.1))
  an_item depth (MainVar place name at init) h = a_declaration depth var_word (codes "var") name init (record { is = refl }) h
  an_item depth (MainAssign place name how value) h =
      closed depth (operated (how_token how) (how_is how) (token NameToken h.0) (expression value h.1))
  an_item depth (MainIf place test first second has_else) h =
      an_if depth has_else (a_head depth if_word (codes "if") test (record { is = refl }) h.0) (a_main (depth + 1) first h.1)
      (a_main (depth + 1) second h.2)
  an_item depth (MainWhile place test body) h =
      a_block (a_head depth while_word (codes "while") test (record { is = refl }) h.0) (a_main (depth + 1) body h.1) (an_end depth)
  an_item depth (MainFor place name at over body) h =
      a_block (one_line depth (mesh_loops (whole_token over) h.0 (whole_is over))) (a_body (depth + 1) body h.1) (an_end depth)
  an_item depth (Print place value) h =
      closed depth (both {a = codes "print"} (λ rest stops. refl) (token print_word (record { is = refl })) (blank (expression value h)))

  a_main : (depth : ℕ) (tree : Main) → IsWritableMain tree → WritesLines (main_text depth tree) (main_words tree)
  a_main depth no_item h = no_lines
  a_main depth (item i more) h = then (an_item depth i h.0) (a_main depth more h.1)

-- the canonical text
pub canonical_spells : (tree : Main) → IsWritableMain tree → Spells (canonical tree) (main_words tree [])
canonical_spells tree h =
    let lines = a_main 0 tree h in
    subst (λ (l : List ℕ). Spells l (main_words tree [])) (append-nil (canonical tree)) (lines.write [] [] spells_nothing)
