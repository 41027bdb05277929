-- The tokens that a parser reads, as the grammar sees them. Private functions' contracts cite it.
use Rattle.std.specs.Prelude.{List}
use Rattle.liszt_lexer.specs.declared.token.Token.{Token}
use Rattle.liszt_parser.specs.Grammar.{Lexeme, lexeme, lexemes}
use Rattle.liszt_parser.specs.declared.source.Source.{Source}

abbrev pub source_lexemes : Source → List Lexeme
source_lexemes source = lexemes source.text.now source.tokens.now

abbrev pub source_lexeme : Source → Token → Lexeme
source_lexeme source = lexeme source.text.now

-- A token and its value.
abbrev pub source_choice : {A : Type 0} → Source → Token × A → Lexeme × A
source_choice source x = (lexeme source.text.now x.0, x.1)
