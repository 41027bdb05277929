-- Tokens and faults as the worked cases write them. This project's own.
use Rattle.std.specs.Prelude.{ℕ, List, None, Result, Err}
use Rattle.liszt_base.specs.declared.answers.ProgramFault.{ProgramFault}
use Rattle.liszt_base.specs.declared.answers.ProgramWhat.{ProgramWhat}
use Rattle.liszt_lexer.specs.declared.token.Token.{Token as TokenOf}
use Rattle.liszt_lexer.specs.declared.token.TokenKind.{TokenKind}

-- A token by its kind, its line and column, and the indices
-- of its first byte and of the byte after its last.
abbrev pub token_at : TokenKind → ℕ → ℕ → ℕ → ℕ → TokenOf
token_at kind line col start end =
    record { kind = kind; place = record { line = line; col = col }; start = start; end = end }

-- A fault by its kind, its line and column.
abbrev pub refusal_at : ProgramWhat → ℕ → ℕ → Result (List TokenOf) ProgramFault
refusal_at what line col =
    Err (record { what = what; place = record { line = line; col = col }; first = None })
