-- What a token begins or continues with, by its kind: its sort, and its strength as an operator.
use Rattle.std.proofs.Common.{◌≡◌, ℕ, ◌==◌, ℤ, false, List, Some, sym, ap, ◌∙◌, arith}
use Rattle.std.proofs.lemmas.Bool.Decides.{nat_tests}
use Rattle.liszt_lexer.specs.declared.token.TokenKind.{TokenKind}
use Rattle.liszt_lexer.specs.declared.token.TokenKind.TheVariants.{Name as NameToken, Number as NumberToken, Symbol}
use Rattle.liszt_tree.specs.declared.tree.Fun.{Fun}
use Rattle.liszt_tree.specs.declared.tree.Level.{Level}
use Rattle.liszt_tree.specs.declared.tree.Level.TheVariants.{Or, And, Sum, Product}
use Rattle.liszt_tree.specs.declared.tree.Rel.{Rel}
use Rattle.liszt_tree.specs.declared.tree.Sign.{Sign}
use Rattle.liszt_parser.specs.Grammar.{Lexeme, lowest_rank, fun_of, sign_of, rel_of, open_bracket, close_bracket, close_brace, comma, minus, bang, field_word, var_word, val_word, if_word, else_word, while_word, for_word, print_word, towards_word, Closes, by_semicolon, by_brace, by_end}
use Rattle.liszt_parser.specs.Internal.Sorts.{Sort, Stops, a_bang, a_call, a_field, a_for, a_minus, a_name, a_number, a_print, a_towards, a_val, a_var, a_while, an_else, an_end, an_if, an_open, another, level_strength, sort_by, sort_of, sort_or, strength, strength_or}

-- the sort of each kind of token that begins a production
pub sort_number : {kind : TokenKind} {n : ℤ} → kind ≡ NumberToken n → sort_of kind ≡ a_number n
unfolding sort_of sort_by sort_or
sort_number e = ap sort_of e

pub sort_name : {kind : TokenKind} → kind ≡ NameToken → sort_of kind ≡ a_name
unfolding sort_of sort_by sort_or
sort_name e = ap sort_of e

pub sort_call : (kind : TokenKind) {fun : Fun} → fun_of kind ≡ Some fun → sort_of kind ≡ a_call fun
unfolding sort_of sort_by sort_or
sort_call kind e = ap (λ o. sort_by o kind) e

pub sort_towards : {kind : TokenKind} → kind ≡ towards_word → sort_of kind ≡ a_towards
unfolding sort_of sort_by sort_or
sort_towards e = ap sort_of e

pub sort_open : {kind : TokenKind} → kind ≡ open_bracket → sort_of kind ≡ an_open
unfolding sort_of sort_by sort_or
sort_open e = ap sort_of e

pub sort_minus : {kind : TokenKind} → kind ≡ minus → sort_of kind ≡ a_minus
unfolding sort_of sort_by sort_or
sort_minus e = ap sort_of e

pub sort_bang : {kind : TokenKind} → kind ≡ bang → sort_of kind ≡ a_bang
unfolding sort_of sort_by sort_or
sort_bang e = ap sort_of e

pub sort_field : {kind : TokenKind} → kind ≡ field_word → sort_of kind ≡ a_field
unfolding sort_of sort_by sort_or
sort_field e = ap sort_of e

pub sort_var : {kind : TokenKind} → kind ≡ var_word → sort_of kind ≡ a_var
unfolding sort_of sort_by sort_or
sort_var e = ap sort_of e

pub sort_val : {kind : TokenKind} → kind ≡ val_word → sort_of kind ≡ a_val
unfolding sort_of sort_by sort_or
sort_val e = ap sort_of e

pub sort_if : {kind : TokenKind} → kind ≡ if_word → sort_of kind ≡ an_if
unfolding sort_of sort_by sort_or
sort_if e = ap sort_of e

pub sort_else : {kind : TokenKind} → kind ≡ else_word → sort_of kind ≡ an_else
unfolding sort_of sort_by sort_or
sort_else e = ap sort_of e

pub sort_while : {kind : TokenKind} → kind ≡ while_word → sort_of kind ≡ a_while
unfolding sort_of sort_by sort_or
sort_while e = ap sort_of e

pub sort_for : {kind : TokenKind} → kind ≡ for_word → sort_of kind ≡ a_for
unfolding sort_of sort_by sort_or
sort_for e = ap sort_of e

pub sort_print : {kind : TokenKind} → kind ≡ print_word → sort_of kind ≡ a_print
unfolding sort_of sort_by sort_or
sort_print e = ap sort_of e

pub sort_end : {kind : TokenKind} → kind ≡ close_brace → sort_of kind ≡ an_end
unfolding sort_of sort_by sort_or
sort_end e = ap sort_of e

-- a number for each sort, and that two sorts of different numbers are not both the first token's
abbrev pub code : Sort → ℕ
code (a_number n) = 0
code (a_call fun) = 1
code a_name = 2
code a_towards = 3
code an_open = 4
code a_minus = 5
code a_bang = 6
code a_field = 7
code a_var = 8
code a_val = 9
code an_if = 10
code an_else = 11
code a_while = 12
code a_for = 13
code a_print = 14
code an_end = 15
code another = 16

pub clash : {A : Type 0} {s : Sort} (a b : Sort) → s ≡ a → s ≡ b → (code a == code b) ≡ false → A
clash a b is is' differ = let same : code a ≡ code b = ap code (sym is ∙ is') in absurd (grind (arith, nat_tests))

-- an operator of a level has its strength, a comparison 3
pub sign_strength : (level : Level) (kind : TokenKind) (s : Sign) → sign_of level kind ≡ Some s → strength kind ≡ level_strength level
unfolding strength strength_or
sign_strength Or (Symbol place) s e = grind (arith, nat_tests)
sign_strength And (Symbol place) s e = grind (arith, nat_tests)
sign_strength Sum (Symbol place) s e = grind (arith, nat_tests)
sign_strength Product (Symbol place) s e = grind (arith, nat_tests)
sign_strength Or _ s e = cc
sign_strength And _ s e = cc
sign_strength Sum _ s e = cc
sign_strength Product _ s e = cc

pub rel_strength : (kind : TokenKind) (rel : Rel) → rel_of kind ≡ Some rel → strength kind ≡ 3
unfolding strength strength_or
rel_strength (Symbol place) rel e = grind (arith, nat_tests)
rel_strength _ rel e = cc

-- an opening bracket is strongest; a closing one and a comma have no strength
pub open_strength : {kind : TokenKind} → kind ≡ open_bracket → strength kind ≡ 9
unfolding strength strength_or
open_strength e = ap strength e

pub close_strength : {kind : TokenKind} → kind ≡ close_bracket → strength kind ≡ 0
unfolding strength strength_or
close_strength e = ap strength e

pub comma_strength : {kind : TokenKind} → kind ≡ comma → strength kind ≡ 0
unfolding strength strength_or
comma_strength e = ap strength e

-- what closes a statement continues with no expression
pub closes_stops : {mid left : List Lexeme} → Closes mid left → Stops lowest_rank mid
unfolding strength strength_or
closes_stops (by_semicolon t h) = let zero_is : strength t.kind ≡ 0 = ap strength h in omega arith
closes_stops (by_brace t h) = let zero_is : strength t.kind ≡ 0 = ap strength h in omega arith
closes_stops by_end = omega arith
