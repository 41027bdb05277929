-- The worked cases of the grammar's faults: the tokens of each text, and why its fault is where it is.
use Rattle.std.proofs.Common.{◌≡◌, ap, ℕ, zero, suc, ℤ, List, [], ◌∷◌, ◌++◌, Option, Some, None, reverse, refl, sym, subst, arith}
use Rattle.std.specs.Prelude.{pos, codes, take, length, nat_lt, true, false, Result, Ok, Err}
use Rattle.liszt_base.specs.declared.answers.ProgramFault.{ProgramFault}
use Rattle.liszt_lexer.specs.Lexer.{tokens_of, end_of}
use Rattle.liszt_lexer.specs.declared.token.Token.{Token}
use Rattle.liszt_lexer.specs.declared.token.TokenKind.{TokenKind}
use Rattle.liszt_lexer.specs.declared.token.TokenKind.TheVariants.{Name as NameToken, Number as NumberToken, Word, Symbol}
use Rattle.liszt_tree.specs.declared.tree.Rel.TheVariants.{Below}
use Rattle.liszt_tree.specs.Tree.{Number, Name, Compare, no_item}
use Rattle.liszt_parser.specs.CaseTexts.{HasFault, only_print, syntax_at, deep_at, print_in_for, mesh_in_for, no_semicolon, two_prints, minus_bracket, plain_set, two_below, opened, nested, brace_in}
use Rattle.liszt_parser.specs.Grammar.{Lexeme, lexemes, rel_of, compared, one_sum, one_operand, no_prefix, negation, number, name, in_brackets, IsBracketed, bracketed, by_brace, by_end, for, no_statements, statements, block, main_assign, main_if, main_for, print, no_items, items, main_block, no_main_else}
use Rattle.liszt_parser.specs.ParseFault.{IsProgramPrefix, IsProgram, IsParseFault}
use Rattle.liszt_parser.proofs.Faults.{up, sum_up, shallow, syntax_is, syntax_at_end, nothing_after_print, deep_is, begins_by, one_item, nested_program, print_in_body, mesh_in_body, word_in_if, word_after_print, nested_after_print, compared_twice, brace_starts}

-- TOKENS of the first line: a word or a symbol by its place in the lists, a number, a name, each with its column and bytes
abbrev token : TokenKind → ℕ → List ℕ → Lexeme
token kind col bytes = record { kind = kind; place = record { line = 1; col = col }; bytes = bytes }

abbrev word : ℕ → ℕ → List ℕ → Lexeme
word n = token (Word n)

abbrev symbol : ℕ → ℕ → List ℕ → Lexeme
symbol n = token (Symbol n)

abbrev digits : ℕ → ℕ → List ℕ → Lexeme
digits n = token (NumberToken (pos n))

abbrev letters : ℕ → List ℕ → Lexeme
letters = token NameToken

-- the lexemes of a text, none where a token is a fault
abbrev lexed_of : List ℕ → Result (List Token) ProgramFault → List Lexeme
lexed_of text (Ok tokens) = lexemes text tokens
lexed_of text (Err fault) = []

-- the fault of lexemes, of which there are some, is that of the text that has them
by_tokens : (text : List ℕ) (ts : List Lexeme) (fault : Option ProgramFault) → lexed_of text (tokens_of text) ≡ ts
    → IsParseFault ts (end_of text) fault → nat_lt 0 (length ts) ≡ true → HasFault text fault
by_tokens text ts fault e h some = go (tokens_of text) refl e where
  go : (r : Result (List Token) ProgramFault) → tokens_of text ≡ r → lexed_of text r ≡ ts → HasFault text fault
  go (Ok tokens) is e = (tokens, is, subst (λ ts. IsParseFault ts (end_of text) fault) (sym e) h)
  go (Err other) is e = let none : nat_lt 0 (length ts) ≡ false = ap (λ l. nat_lt 0 (length l)) (sym e) in cc

-- `for (c <- cells(mesh)) {` and what follows
abbrev for_cells : List Lexeme → List Lexeme
for_cells ts =
    word 6 1 (codes "for") ∷ symbol 0 5 (codes "(") ∷ letters 6 (codes "c") ∷ symbol 7 8 (codes "<-") ∷ word 24 11 (codes "cells")
    ∷ symbol 0 16 (codes "(") ∷ word 8 17 (codes "mesh") ∷ symbol 1 21 (codes ")") ∷ symbol 1 22 (codes ")") ∷ symbol 2 24 (codes "{") ∷ ts

-- THE EMPTY TEXT
pub no_text : HasFault [] None
no_text = ([], refl, ((no_item, no_items), λ place k l. absurd (omega arith)))

-- `print` IN A LOOP
abbrev print_tokens : List Lexeme
print_tokens = for_cells (word 7 26 (codes "print") ∷ digits 1 32 (codes "1") ∷ symbol 3 34 (codes "}") ∷ [])

print_before : IsProgramPrefix (take 10 print_tokens)
print_before =
    begins_by (for_cells []) (symbol 3 0 [] ∷ [])
    (one_item (main_for _ _ _ _ _ _ _ _ _ refl refl refl refl refl refl refl refl refl (block _ _ refl no_statements refl)))

print_not : IsProgramPrefix (take 11 print_tokens) → ⊥
print_not b = print_in_body _ _ _ _ _ _ _ _ _ _ _ b.0 b.1 refl refl b.2

pub print_fault : HasFault print_in_for (syntax_at 1 26)
print_fault =
    by_tokens print_in_for print_tokens (syntax_at 1 26) refl
    (syntax_is print_tokens (end_of print_in_for) 10 _ (omega arith) print_before print_not refl refl) refl

-- THE WHOLE MESH IN A LOOP
abbrev for_vertices : List Lexeme → List Lexeme
for_vertices ts =
    for_cells (word 6 26 (codes "for") ∷ symbol 0 30 (codes "(") ∷ letters 31 (codes "v") ∷ symbol 7 33 (codes "<-")
    ∷ word 21 36 (codes "vertices") ∷ symbol 0 44 (codes "(") ∷ ts)

abbrev mesh_tokens : List Lexeme
mesh_tokens =
    for_vertices (word 8 45 (codes "mesh") ∷ symbol 1 49 (codes ")") ∷ symbol 1 50 (codes ")") ∷ symbol 2 52 (codes "{")
    ∷ symbol 3 54 (codes "}") ∷ symbol 3 56 (codes "}") ∷ [])

mesh_before : IsProgramPrefix (take 16 mesh_tokens)
mesh_before =
    begins_by (for_vertices []) (letters 45 [] ∷ symbol 1 49 [] ∷ symbol 1 50 [] ∷ symbol 2 52 [] ∷ symbol 3 54 [] ∷ symbol 3 56 [] ∷ [])
    (one_item (main_for _ _ _ _ _ _ _ _ _ refl refl refl refl refl refl refl refl refl (block _ _ refl (statements
    (for _ _ _ _ _ _ refl refl refl refl refl (bracketed _ _ refl (up (name _ refl)) refl) refl (block _ _ refl no_statements refl))
    no_statements) refl)))

mesh_not : IsProgramPrefix (take 17 mesh_tokens) → ⊥
mesh_not b = mesh_in_body _ _ _ _ _ _ _ _ _ _ _ _ _ _ _ _ _ b.0 b.1 refl refl refl b.2

pub mesh_fault : HasFault mesh_in_for (syntax_at 1 45)
mesh_fault =
    by_tokens mesh_in_for mesh_tokens (syntax_at 1 45) refl
    (syntax_is mesh_tokens (end_of mesh_in_for) 16 _ (omega arith) mesh_before mesh_not refl refl) refl

-- NO SEMICOLON BEFORE `else`
abbrev if_tokens : List Lexeme
if_tokens =
    word 3 1 (codes "if") ∷ symbol 0 4 (codes "(") ∷ letters 5 (codes "a") ∷ symbol 12 7 (codes "<") ∷ digits 1 9 (codes "1")
    ∷ symbol 1 10 (codes ")") ∷ symbol 2 12 (codes "{") ∷ letters 14 (codes "b") ∷ symbol 22 16 (codes "=") ∷ digits 1 18 (codes "1")
    ∷ word 4 20 (codes "else") ∷ symbol 2 25 (codes "{") ∷ symbol 3 27 (codes "}") ∷ symbol 3 29 (codes "}") ∷ []

below_test : (o a l b c : Lexeme) (ts : List Lexeme) (n : ℤ) → o.kind ≡ Symbol 0 → a.kind ≡ NameToken → l.kind ≡ Symbol 12
    → b.kind ≡ NumberToken n → c.kind ≡ Symbol 1
    → IsBracketed (o ∷ a ∷ l ∷ b ∷ c ∷ ts) (Compare l.place Below (Name a.place a.bytes) (Number b.place n)) ts
below_test o a l b c ts n ho ha hl hb hc =
    bracketed o c ho (one_operand (one_operand (compared l (sum_up (name a ha)) (below l.kind hl) (sum_up (number b hb))))) hc
  where
    below : (kind : TokenKind) → kind ≡ Symbol 12 → rel_of kind ≡ Some Below
    below kind e = ap rel_of e

if_before : IsProgramPrefix (take 10 if_tokens)
if_before =
    begins_by (take 10 if_tokens) (symbol 3 20 [] ∷ [])
    (one_item (main_if _ refl (below_test _ _ _ _ _ _ (pos 1) refl refl refl refl refl) (main_block _ _ refl
    (items (main_assign _ _ refl refl (up (number _ refl)) (by_brace _ refl)) no_items) refl) no_main_else))

if_not : IsProgramPrefix (take 11 if_tokens) → ⊥
if_not b = word_in_if _ _ _ _ _ _ _ b.0 _ (pos 1) 4 b.1 refl refl refl refl (below_test _ _ _ _ _ _ (pos 1) refl refl refl refl refl) b.2

pub if_fault : HasFault no_semicolon (syntax_at 1 20)
if_fault =
    by_tokens no_semicolon if_tokens (syntax_at 1 20) refl
    (syntax_is if_tokens (end_of no_semicolon) 10 _ (omega arith) if_before if_not refl refl) refl

-- TWO PRINTS
abbrev prints_tokens : List Lexeme
prints_tokens = word 7 1 (codes "print") ∷ digits 1 7 (codes "1") ∷ word 7 9 (codes "print") ∷ digits 2 15 (codes "2") ∷ []

prints_before : IsProgramPrefix (take 2 prints_tokens)
prints_before = begins_by (take 2 prints_tokens) [] (one_item (print _ refl (up (number _ refl)) by_end))

prints_not : IsProgramPrefix (take 3 prints_tokens) → ⊥
prints_not b = word_after_print _ _ _ b.0 (pos 1) 7 b.1 refl refl refl b.2

pub prints_fault : HasFault two_prints (syntax_at 1 9)
prints_fault =
    by_tokens two_prints prints_tokens (syntax_at 1 9) refl
    (syntax_is prints_tokens (end_of two_prints) 2 _ (omega arith) prints_before prints_not refl refl) refl

-- NOTHING AFTER `print`
abbrev primary_tokens : List Lexeme
primary_tokens = word 7 1 (codes "print") ∷ []

primary_before : IsProgramPrefix primary_tokens
primary_before = begins_by primary_tokens (digits 1 0 [] ∷ []) (one_item (print _ refl (up (number _ refl)) by_end))

pub primary_fault : HasFault only_print (syntax_at 1 6)
primary_fault =
    by_tokens only_print primary_tokens (syntax_at 1 6) refl
    (syntax_at_end primary_tokens (end_of only_print) _ primary_before (λ p. nothing_after_print _ p.0 refl p.1) refl refl) refl

-- NO FAULT
abbrev minus_tokens : List Lexeme
minus_tokens =
    word 7 1 (codes "print") ∷ symbol 17 7 (codes "-") ∷ symbol 0 8 (codes "(") ∷ letters 9 (codes "a") ∷ symbol 1 10 (codes ")") ∷ []

minus_program : IsProgram minus_tokens
minus_program =
    one_item (print _ refl (one_operand (one_operand (one_sum (one_operand (one_operand
    (negation _ refl (no_prefix (in_brackets (bracketed _ _ refl (up (name _ refl)) refl))))))))) by_end)

pub minus_fault : HasFault minus_bracket None
minus_fault = by_tokens minus_bracket minus_tokens None refl (minus_program, shallow minus_tokens 5 refl) refl

abbrev set_tokens : List Lexeme
set_tokens = letters 1 (codes "x") ∷ symbol 22 3 (codes "=") ∷ letters 5 (codes "y") ∷ []

set_program : IsProgram set_tokens
set_program = one_item (main_assign _ _ refl refl (up (name _ refl)) by_end)

pub set_fault : HasFault plain_set None
set_fault = by_tokens plain_set set_tokens None refl (set_program, shallow set_tokens 3 refl) refl

-- A COMPARISON COMPARED
abbrev below_tokens : List Lexeme
below_tokens =
    word 7 1 (codes "print") ∷ letters 7 (codes "a") ∷ symbol 12 9 (codes "<") ∷ letters 11 (codes "b") ∷ symbol 12 13 (codes "<")
    ∷ letters 15 (codes "c") ∷ []

below_before : IsProgramPrefix (take 4 below_tokens)
below_before =
    begins_by (take 4 below_tokens) []
    (one_item (print _ refl
    (one_operand (one_operand (compared {rel = Below} _ (sum_up (name _ refl)) refl (sum_up (name _ refl))))) by_end))

below_not : IsProgramPrefix (take 5 below_tokens) → ⊥
below_not b = compared_twice _ _ _ _ _ b.0 Below Below b.1 refl refl refl refl refl b.2

pub below_fault : HasFault two_below (syntax_at 1 13)
below_fault =
    by_tokens two_below below_tokens (syntax_at 1 13) refl
    (syntax_is below_tokens (end_of two_below) 4 _ (omega arith) below_before below_not refl refl) refl

-- MANY BRACKETS
-- n brackets from a column on; `print` and the opening ones
abbrev brackets : ℕ → List ℕ → ℕ → ℕ → List Lexeme
brackets n bytes zero col = []
brackets n bytes (suc count) col = symbol n col bytes ∷ brackets n bytes count (suc col)

abbrev openings : ℕ → List Lexeme
openings count = brackets 0 (codes "(") count 7

abbrev closings : ℕ → ℕ → List Lexeme
closings = brackets 1 (codes ")")

abbrev opened_tokens : ℕ → List Lexeme
opened_tokens count = word 7 1 (codes "print") ∷ openings count

abbrev one_at : ℕ → Lexeme
one_at col = digits 1 col (codes "1")

-- n opening brackets begin a program
opened_begin : (count : ℕ) → IsProgram (opened_tokens count ++ (one_at 0 ∷ closings count 0)) → IsProgramPrefix (opened_tokens count)
opened_begin count p = begins_by (opened_tokens count) (one_at 0 ∷ closings count 0) p

deep_begins : IsProgramPrefix (take 66 (opened_tokens 65))
deep_begins = opened_begin 65 (nested_program _ (one_at 0) (pos 1) (reverse (openings 65)) (closings 65 0) refl refl refl refl refl)

pub deep_fault : HasFault (opened 65) (deep_at 1 71)
deep_fault =
    by_tokens (opened 65) (opened_tokens 65) (deep_at 1 71) refl
    (deep_is (opened_tokens 65) (end_of (opened 65)) 65 _ (omega arith) refl refl deep_begins refl) refl

-- 64 brackets are not too deep
abbrev nested_tokens : List Lexeme
nested_tokens = opened_tokens 64 ++ (one_at 71 ∷ closings 64 72)

nested_is : IsProgram nested_tokens
nested_is = nested_program _ (one_at 71) (pos 1) (reverse (openings 64)) (closings 64 72) refl refl refl refl refl

pub nested_fault : HasFault (nested 64) None
nested_fault = by_tokens (nested 64) nested_tokens None refl (nested_is, shallow nested_tokens 130 refl) refl

-- and where Syntax stands on the token that is too deep, it is Syntax
abbrev brace_tokens : List Lexeme
brace_tokens = opened_tokens 64 ++ (symbol 2 71 (codes "{") ∷ [])

brace_before : IsProgramPrefix (take 65 brace_tokens)
brace_before = opened_begin 64 (nested_program _ (one_at 0) (pos 1) (reverse (openings 64)) (closings 64 0) refl refl refl refl refl)

brace_not : IsProgramPrefix (take 66 brace_tokens) → ⊥
brace_not b = nested_after_print _ (symbol 2 71 (codes "{")) (openings 64) b.0 b.1 refl refl brace_starts b.2

pub brace_fault : HasFault (brace_in 64) (syntax_at 1 71)
brace_fault =
    by_tokens (brace_in 64) brace_tokens (syntax_at 1 71) refl
    (syntax_is brace_tokens (end_of (brace_in 64)) 65 _ (omega arith) brace_before brace_not refl refl) refl
