-- The texts of the worked cases of the grammar's faults. This project's own.
use Rattle.std.specs.Prelude.{◌≡◌, ℕ, Option, Some, Ok, List, [], ◌∷◌, ◌++◌, codes, replicate}
use Rattle.liszt_base.specs.declared.answers.ProgramFault.{ProgramFault}
use Rattle.liszt_base.specs.declared.answers.ProgramWhat.{ProgramWhat}
use Rattle.liszt_base.specs.declared.answers.ProgramWhat.TheVariants.{Syntax, Deep}
use Rattle.liszt_lexer.specs.Lexer.{tokens_of, end_of}
use Rattle.liszt_lexer.specs.declared.token.Token.{Token}
use Rattle.liszt_parser.specs.Grammar.{lexemes}
use Rattle.liszt_parser.specs.ParseFault.{fault_at, IsParseFault}

-- The text has tokens, and this is their fault, if any.
abbrev pub HasFault : List ℕ → Option ProgramFault → Type 0
HasFault text fault = (tokens : List Token) × (tokens_of text ≡ Ok tokens) × IsParseFault (lexemes text tokens) (end_of text) fault

-- A fault at a line and a column.
abbrev pub at_place : ProgramWhat → ℕ → ℕ → Option ProgramFault
at_place what line col = Some (fault_at what (record { line = line; col = col }))

abbrev pub syntax_at : ℕ → ℕ → Option ProgramFault
syntax_at = at_place Syntax

abbrev pub deep_at : ℕ → ℕ → Option ProgramFault
deep_at = at_place Deep

-- THE TEXTS
abbrev pub print_in_for : List ℕ
print_in_for = codes "for (c <- cells(mesh)) { print 1 }"

abbrev pub mesh_in_for : List ℕ
mesh_in_for = codes "for (c <- cells(mesh)) { for (v <- vertices(mesh)) { } }"

abbrev pub no_semicolon : List ℕ
no_semicolon = codes "if (a < 1) { b = 1 else { } }"

abbrev pub two_prints : List ℕ
two_prints = codes "print 1 print 2"

abbrev pub minus_bracket : List ℕ
minus_bracket = codes "print -(a)"

abbrev pub plain_set : List ℕ
plain_set = codes "x = y"

abbrev pub two_below : List ℕ
two_below = codes "print a < b < c"

abbrev pub only_print : List ℕ
only_print = codes "print"

-- `print` and n opening brackets.
abbrev pub opened : ℕ → List ℕ
opened n = codes "print " ++ replicate n 40

-- The same, followed by `1` and n closing brackets.
abbrev pub nested : ℕ → List ℕ
nested n = opened n ++ 49 ∷ replicate n 41

-- `print`, n opening brackets and `{`.
abbrev pub brace_in : ℕ → List ℕ
brace_in n = opened n ++ 123 ∷ []
