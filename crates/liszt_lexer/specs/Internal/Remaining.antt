-- A text read up to a cursor, and the result of the remaining text. Private
-- functions' contracts cite it; `tokens_of` is the definition of what is promised.
use Rattle.std.specs.Prelude.{◌≡◌, ℕ, ◌+◌, ◌≤◌, if◌then◌else◌, Option, Some}
use Rattle.std.specs.Prelude.{None, Result, Ok, Err, List, [], ◌∷◌, ◌++◌}
use Rattle.std.specs.Prelude.{length, map, take, drop}
use Rattle.std.specs.List.{enumerate_from}
use Rattle.liszt_base.specs.declared.answers.Place.{Place}
use Rattle.liszt_base.specs.declared.answers.ProgramFault.{ProgramFault}
use Rattle.liszt_base.specs.declared.answers.Refused.{Refused}
use Rattle.liszt_base.specs.declared.answers.Refused.TheVariants.{Fault as Faulty, NoMemory}
use Rattle.liszt_lexer.specs.declared.cursor.Cursor.{Cursor}
use Rattle.liszt_lexer.specs.declared.token.Token.{Token as TokenOf}
use Rattle.liszt_lexer.specs.Lexer.{Piece, Gap, Token, Fault, Finding, is_line_feed, place_after}
use Rattle.liszt_lexer.specs.Lexer.{with_limit, with_limit_at, tokens_or_first_fault}
use Rattle.liszt_lexer.specs.Lexer.{findings_after, pieces}

-- The place after one more byte.
abbrev pub place_after_byte : Place → ℕ → Place
place_after_byte place b =
    if is_line_feed b then record { line = place.line + 1; col = 1 }
    else record { line = place.line; col = place.col + 1 }

-- The cursor is in the text, at the place after the bytes that have been read.
pub record IsAt (text : List ℕ) (cursor : Cursor) : Type 0 where
  pub within : cursor.passed ≤ length text
  pub place_is : cursor.place ≡ place_after (take cursor.passed text)

-- The finding for a piece at the cursor: a token, a fault, or none.
abbrev pub finding_at : Cursor → ℕ → Piece → Option Finding
finding_at cursor size Gap = None
finding_at cursor size (Token kind) =
    Some (Ok
    (record {
      kind = kind;
      place = cursor.place;
      start = cursor.passed;
      end = cursor.passed + size;
    }))
finding_at cursor size (Fault what) =
    Some (Err (record { what = what; place = cursor.place; first = None }))

-- The tokens so far with a finding appended; a token past the limit is a fault.
abbrev pub append_finding : List TokenOf → Finding → Result (List TokenOf) ProgramFault
append_finding tokens (Ok token) = Ok (tokens ++ token ∷ [])
append_finding tokens (Err fault) = Err fault

abbrev pub append_optional : List TokenOf → Option Finding → Result (List TokenOf) ProgramFault
append_optional tokens None = Ok tokens
append_optional tokens (Some finding) =
    append_finding tokens (with_limit_at (length tokens) finding)

-- The answer of a call that appends to a list of tokens: the list
-- is the expected one, or the fault is, or memory was refused.
abbrev pub Appends : {A : Type 0} → Result (List TokenOf) ProgramFault
    → Result A (Refused ProgramFault) → List TokenOf → Type 0
Appends expected (Ok done) tokens = expected ≡ Ok tokens
Appends expected (Err (Faulty fault)) tokens = expected ≡ Err fault
Appends expected (Err NoMemory) tokens = Unit {0}

-- The result of the text: the tokens so far, followed by those of the remaining text.
abbrev pub prepend_all : List TokenOf → Result (List TokenOf) ProgramFault
    → Result (List TokenOf) ProgramFault
prepend_all tokens (Ok more) = Ok (tokens ++ more)
prepend_all tokens (Err fault) = Err fault

unfoldable pub remaining_result : List ℕ → ℕ → List TokenOf → Result (List TokenOf) ProgramFault
remaining_result text passed tokens =
    prepend_all tokens
    (tokens_or_first_fault
    (map with_limit (enumerate_from (length tokens)
    (findings_after (take passed text) (pieces (drop passed text))))))
