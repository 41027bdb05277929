-- Tokens in a text. Private functions' contracts cite it.
use Rattle.std.specs.Prelude.{ℕ, ◌≤◌, List, length}
use Rattle.liszt_lexer.specs.declared.token.Token.{Token}

-- The bytes of the token are in the text.
abbrev pub IsInText : List ℕ → Token → Type 0
IsInText text token = (token.start ≤ token.end) × (token.end ≤ length text)
