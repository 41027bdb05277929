-- Tokens without places, and texts of one token, for worked cases. This project's own.
use Rattle.std.specs.Prelude.{ℕ, Option, Some, None, List, [], ◌∷◌, map, Result, Ok, unwrap_or}
use Rattle.std.specs.Option.{option_and_then}
use Rattle.liszt_base.specs.declared.answers.ProgramFault.{ProgramFault}
use Rattle.liszt_lexer.specs.Lexer.{kinds_of}
use Rattle.liszt_lexer.specs.declared.token.TokenKind.{TokenKind}
use Rattle.liszt_lexer.specs.declared.token.TokenKind.TheVariants.{Name}
use Rattle.liszt_parser.specs.Grammar.{Lexeme}
use Rattle.liszt_tree.specs.Tree.{nowhere}

abbrev pub placeless : TokenKind → Lexeme
placeless kind = record { kind = kind; place = nowhere; bytes = [] }

abbrev pub tokens : List TokenKind → List Lexeme
tokens kinds = map placeless kinds

-- The token of a text that is one token, and its value.
abbrev pub only_token : Result (List TokenKind) ProgramFault → Option TokenKind
only_token (Ok (kind ∷ [])) = Some kind
only_token _ = None

abbrev pub token_of : List ℕ → Option TokenKind
token_of text = only_token (kinds_of text)

abbrev pub value_of_text : {A : Type 0} → (TokenKind → Option A) → List ℕ → Option A
value_of_text find text = option_and_then find (token_of text)

-- A token by its text.
abbrev pub lexeme_of : List ℕ → Lexeme
lexeme_of text = record { kind = unwrap_or (token_of text) Name; place = nowhere; bytes = text }
