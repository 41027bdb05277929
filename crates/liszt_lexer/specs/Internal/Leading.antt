-- The longest piece at the start of a text, as the code computes it. Private
-- functions' contracts cite it; `tokens_of` is the definition of what is promised.
use Rattle.std.specs.Prelude.{◌≡◌, ℕ, ◌≤◌, ◌^◌, ◌||◌, not, nat_lt, if◌then◌else◌}
use Rattle.std.specs.Prelude.{Bool, Option, Some, None, is_some, unwrap_or, List}
use Rattle.std.specs.Prelude.{[], ◌∷◌, length, take, codes, pos}
use Rattle.std.specs.Char.{is_ascii_digit}
use Rattle.std.specs.List.{position}
use Rattle.std.specs.Str.{bytes_eq}
use Rattle.std.specs.Str.Parse.{digits_value}
use Rattle.liszt_base.specs.Limits.{name_limit}
use Rattle.liszt_base.specs.declared.answers.ProgramWhat.TheVariants.{BadByte, LongName, LongNumber}
use Rattle.liszt_lexer.specs.declared.leading.FoundPiece.{FoundPiece}
use Rattle.liszt_lexer.specs.declared.leading.FoundPiece.TheVariants.{Gap as FoundGap}
use Rattle.liszt_lexer.specs.declared.leading.FoundPiece.TheVariants.{Token as FoundToken}
use Rattle.liszt_lexer.specs.declared.leading.FoundPiece.TheVariants.{Fault as FoundFault}
use Rattle.liszt_lexer.specs.declared.token.TokenKind.{TokenKind}
use Rattle.liszt_lexer.specs.declared.token.TokenKind.TheVariants.{Name, Number, Word}
use Rattle.liszt_lexer.specs.declared.token.TokenKind.TheVariants.{Symbol, MinSet, MaxSet}
use Rattle.liszt_lexer.specs.Lexer.{Piece, Gap, Token, Fault, is_letter}
use Rattle.liszt_lexer.specs.Lexer.{is_line_feed, longest_size, piece}
use Rattle.liszt_lexer.specs.Words.{reserved_words, symbols}

-- The code's piece as a piece of the definitions.
abbrev pub piece_of : FoundPiece → Piece
piece_of FoundGap = Gap
piece_of (FoundToken kind) = Token kind
piece_of (FoundFault what) = Fault what

-- The longest piece at the start of a text is this one, of
-- this size; one bad byte where no piece starts there.
pub record IsLeadingPiece (text : List ℕ) (size : ℕ) (is : Piece) : Type 0 where
  pub size_is : unwrap_or (longest_size text) 1 ≡ size
  pub some : 1 ≤ size
  pub within : size ≤ length text
  pub piece_is : unwrap_or (piece (take size text)) (Fault BadByte) ≡ is

-- The bytes of a name after the first, and those of a comment.
abbrev pub is_in_name : ℕ → Bool
is_in_name b = is_letter b || is_ascii_digit b

abbrev pub is_in_comment : ℕ → Bool
is_in_comment b = not (is_line_feed b)

-- A number, or LongNumber.
abbrev pub number_piece : List ℕ → FoundPiece
number_piece digits =
    if nat_lt (digits_value 10 digits) (2 ^ 63)
    then FoundToken (Number (pos (digits_value 10 digits))) else FoundFault LongNumber

-- A reserved word, a name, or LongName.
abbrev pub word_piece_at : Option ℕ → ℕ → FoundPiece
word_piece_at (Some place) size = FoundToken (Word place)
word_piece_at None size = if nat_lt name_limit size then FoundFault LongName else FoundToken Name

abbrev pub word_piece : List ℕ → FoundPiece
word_piece bytes = word_piece_at (position (bytes_eq bytes) reserved_words) (length bytes)

-- `min=` and `max=`.
abbrev pub set_kind : List ℕ → Option TokenKind
set_kind bytes =
    if bytes_eq bytes (codes "min=") then Some MinSet
    else if bytes_eq bytes (codes "max=") then Some MaxSet else None

-- A symbol, or BadByte. A symbol has two bytes where the first two are a symbol, otherwise one.
abbrev pub symbol_piece_at : Option ℕ → FoundPiece
symbol_piece_at (Some place) = FoundToken (Symbol place)
symbol_piece_at None = FoundFault BadByte

abbrev pub symbol_piece : List ℕ → FoundPiece
symbol_piece bytes = symbol_piece_at (position (bytes_eq bytes) symbols)

abbrev pub symbol_size : List ℕ → ℕ
symbol_size (a ∷ b ∷ bytes) = if is_some (position (bytes_eq (a ∷ b ∷ [])) symbols) then 2 else 1
symbol_size _ = 1
