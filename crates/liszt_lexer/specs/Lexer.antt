-- The tokens of a program's text by the longest match, or the first
-- fault in byte order. This project's own profile after Liszt.
use Rattle.std.specs.Prelude.{◌≡◌, ℕ, zero, suc, ◌+◌, ◌-◌, ◌^◌, ◌<◌, ◌≤◌, ◌==◌, ◌&&◌, ◌||◌}
use Rattle.std.specs.Prelude.{◌⊎◌, not, nat_lt, nat_le, if◌then◌else◌, Bool, true, false}
use Rattle.std.specs.Prelude.{Option, Some, None, is_some, unwrap_or, List, [], ◌∷◌, ◌++◌}
use Rattle.std.specs.Prelude.{length, map, take, drop, codes, pos, Result, Ok, Err}
use Rattle.std.specs.Char.{is_ascii_digit}
use Rattle.std.specs.List.{list_any, list_all, find, position, count_by}
use Rattle.std.specs.List.{after_last, cons_option, enumerate_from}
use Rattle.std.specs.Option.{option_or, option_map}
use Rattle.std.specs.Result.{result_map_both}
use Rattle.std.specs.Str.{bytes_eq}
use Rattle.std.specs.Str.Parse.{digits_value}
use Rattle.liszt_base.specs.Limits.{name_limit, token_limit}
use Rattle.liszt_base.specs.declared.answers.Place.{Place}
use Rattle.liszt_base.specs.declared.answers.ProgramFault.{ProgramFault}
use Rattle.liszt_base.specs.declared.answers.ProgramWhat.{ProgramWhat}
use Rattle.liszt_base.specs.declared.answers.ProgramWhat.TheVariants.{BadByte, LongNumber}
use Rattle.liszt_base.specs.declared.answers.ProgramWhat.TheVariants.{LongName, Big}
use Rattle.liszt_lexer.specs.declared.token.Token.{Token as TokenOf}
use Rattle.liszt_lexer.specs.declared.token.TokenKind.{TokenKind}
use Rattle.liszt_lexer.specs.declared.token.TokenKind.TheVariants.{Name, Number, Word}
use Rattle.liszt_lexer.specs.declared.token.TokenKind.TheVariants.{Symbol, MinSet, MaxSet}
use Rattle.liszt_lexer.specs.Words.{reserved_words, symbols}

-- PIECES. A text is cut into pieces: tokens, and between them
-- gaps, which are blanks and comments. A piece can be a fault.
pub data Piece : Type 0 where
  Gap : Piece
  Token : TokenKind → Piece
  Fault : ProgramWhat → Piece

abbrev pub is_line_feed : ℕ → Bool
is_line_feed b = b == 10

abbrev pub is_blank : ℕ → Bool
is_blank b = (b == 32) || (b == 9) || (b == 13) || (b == 10)

abbrev pub is_letter : ℕ → Bool
is_letter b = (nat_le 65 b && nat_le b 90) || (nat_le 97 b && nat_le b 122) || (b == 95)

-- A blank; a comment: `//` and bytes other than LF.
abbrev pub gap : List ℕ → Option Piece
gap (b ∷ []) = if is_blank b then Some Gap else None
gap (b ∷ c ∷ bytes) =
    if (b == 47) && (c == 47) && not (list_any is_line_feed bytes) then Some Gap else None
gap [] = None

-- `min=` and `max=`; a reserved word; a symbol.
abbrev pub set_token : List ℕ → Option Piece
set_token bytes =
    if bytes_eq bytes (codes "min=") then Some (Token MinSet)
    else if bytes_eq bytes (codes "max=") then Some (Token MaxSet) else None

abbrev pub word_token : List ℕ → Option Piece
word_token bytes =
    option_map (λ place. Token (Word place)) (position (bytes_eq bytes) reserved_words)

abbrev pub symbol_token : List ℕ → Option Piece
symbol_token bytes = option_map (λ place. Token (Symbol place)) (position (bytes_eq bytes) symbols)

-- A number is digits of a value up to 2^63 - 1; a greater value is a fault. A name is a letter
-- or `_` followed by letters, digits and `_`, at most 64 bytes; a longer one is a fault.
abbrev pub number_token : List ℕ → Option Piece
number_token bytes =
    if nat_lt 0 (length bytes) && list_all is_ascii_digit bytes
    then Some (if nat_lt (digits_value 10 bytes) (2 ^ 63)
    then Token (Number (pos (digits_value 10 bytes))) else Fault LongNumber)
    else None

abbrev pub name_token : List ℕ → Option Piece
name_token [] = None
name_token (b ∷ bytes) =
    if is_letter b && list_all (λ c. is_letter c || is_ascii_digit c) bytes
    then Some (if nat_lt (length bytes) name_limit then Token Name else Fault LongName)
    else None

-- The piece that the bytes are, if they are one piece.
abbrev pub piece : List ℕ → Option Piece
piece bytes =
    option_or (gap bytes) (option_or (set_token bytes) (option_or (word_token bytes)
    (option_or (symbol_token bytes) (option_or (number_token bytes) (name_token bytes)))))

-- THE LONGEST PIECE at the start of a text, as the number
-- of its bytes; none where no piece starts there.
abbrev pub down_from : ℕ → List ℕ
down_from zero = []
down_from (suc n) = suc n ∷ down_from n

abbrev pub longest_size : List ℕ → Option ℕ
longest_size bytes = find (λ n. is_some (piece (take n bytes))) (down_from (length bytes))

-- The pieces of a text: the longest piece at the start of the text, or its
-- first byte where no piece starts there, and then the pieces of the rest.
-- The number counts the bytes that still belong to the previous piece.
abbrev pub pieces_after : ℕ → List ℕ → List (List ℕ)
pieces_after inside [] = []
pieces_after (suc inside) (b ∷ bytes) = pieces_after inside bytes
pieces_after zero (b ∷ bytes) =
    let size : ℕ = unwrap_or (longest_size (b ∷ bytes)) 1 in
    take size (b ∷ bytes) ∷ pieces_after (size - 1) bytes

abbrev pub pieces : List ℕ → List (List ℕ)
pieces text = pieces_after 0 text

-- PLACES: the place after these bytes. Lines and the bytes
-- of a line are counted from 1. Only LF ends a line.
abbrev pub place_after : List ℕ → Place
place_after front =
    record {
      line = count_by is_line_feed front + 1;
      col = length (after_last is_line_feed front) + 1;
    }

-- TOKENS. Each piece other than a gap is a token or a
-- fault. A byte at which no piece starts is BadByte.
abbrev pub fault_after : List ℕ → ProgramWhat → ProgramFault
fault_after front what = record { what = what; place = place_after front; first = None }

abbrev pub token_after : List ℕ → List ℕ → TokenKind → TokenOf
token_after front bytes kind =
    record {
      kind = kind;
      place = place_after front;
      start = length front;
      end = length front + length bytes;
    }

abbrev pub Finding : Type 0
Finding = Result TokenOf ProgramFault

abbrev pub finding : List ℕ → List ℕ → Option Piece → Option Finding
finding front bytes None = Some (Err (fault_after front BadByte))
finding front bytes (Some Gap) = None
finding front bytes (Some (Token kind)) = Some (Ok (token_after front bytes kind))
finding front bytes (Some (Fault what)) = Some (Err (fault_after front what))

abbrev pub findings_after : List ℕ → List (List ℕ) → List Finding
findings_after front [] = []
findings_after front (bytes ∷ more) =
    cons_option (finding front bytes (piece bytes)) (findings_after (front ++ bytes) more)

-- A token past the limit is Big, at its place.
abbrev pub with_limit_at : ℕ → Finding → Finding
with_limit_at number (Ok token) =
    if nat_lt number token_limit then Ok token
    else Err (record { what = Big; place = token.place; first = None })
with_limit_at number (Err fault) = Err fault

abbrev pub with_limit : ℕ × Finding → Finding
with_limit numbered = with_limit_at numbered.0 numbered.1

-- The tokens, or the first fault among them.
abbrev pub prepend : TokenOf → Result (List TokenOf) ProgramFault
    → Result (List TokenOf) ProgramFault
prepend token (Ok tokens) = Ok (token ∷ tokens)
prepend token (Err fault) = Err fault

abbrev pub tokens_or_first_fault : List Finding → Result (List TokenOf) ProgramFault
tokens_or_first_fault [] = Ok []
tokens_or_first_fault (Ok token ∷ more) = prepend token (tokens_or_first_fault more)
tokens_or_first_fault (Err fault ∷ more) = Err fault

abbrev pub tokens_of : List ℕ → Result (List TokenOf) ProgramFault
tokens_of text =
    tokens_or_first_fault (map with_limit (enumerate_from 0 (findings_after [] (pieces text))))

-- The place of the end of a text.
abbrev pub end_of : List ℕ → Place
end_of text = place_after text

-- The kinds of the tokens.
abbrev pub kinds_of : List ℕ → Result (List TokenKind) ProgramFault
kinds_of text = result_map_both (map (λ token. token.kind)) (λ fault. fault) (tokens_of text)

-- LAWS speak of a place before another one, a token before
-- another one, and the bytes that spell a token.
abbrev pub IsBefore : Place → Place → Type 0
IsBefore place other =
    (place.line < other.line) ⊎ ((place.line ≡ other.line) × (place.col < other.col))

abbrev pub LiesBefore : TokenOf → TokenOf → Type 0
LiesBefore token other = (token.end ≤ other.start) × IsBefore token.place other.place

-- The bytes of a token.
abbrev pub bytes_of : List ℕ → TokenOf → List ℕ
bytes_of text token = take (token.end - token.start) (drop token.start text)

abbrev pub IsSpelledIn : List ℕ → TokenOf → Type 0
IsSpelledIn text token =
    (token.start < token.end) × (token.end ≤ length text)
    × (token.place ≡ place_after (take token.start text))
    × (piece (bytes_of text token) ≡ Some (Token token.kind))

-- Each piece has the size of the longest piece at the start
-- of the remaining text, or 1 where no piece starts there.
abbrev pub AreLongest : List ℕ → List (List ℕ) → Type 0
AreLongest text [] = text ≡ []
AreLongest text (bytes ∷ more) =
    (length bytes ≡ unwrap_or (longest_size text) 1) × (bytes ≡ take (length bytes) text)
    × AreLongest (drop (length bytes) text) more

abbrev pub is_no_gap : Option Piece → Bool
is_no_gap (Some Gap) = false
is_no_gap _ = true
