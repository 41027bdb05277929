-- The depth of a program at a token. This project's own profile, after Liszt.
use Rattle.std.specs.Prelude.{ℕ, ◌+◌, ◌-◌, ◌==◌, ◌&&◌, ◌||◌, not, if◌then◌else◌, Bool, true, false, Option, Some, None, List, [], ◌∷◌}
use Rattle.std.specs.List.{count_by}
use Rattle.liszt_lexer.specs.declared.token.TokenKind.{TokenKind}
use Rattle.liszt_lexer.specs.declared.token.TokenKind.TheVariants.{Name as NameToken, Number as NumberToken, Word, Symbol}
use Rattle.liszt_parser.specs.Grammar.{Lexeme}

abbrev pub is_symbol : ℕ → Lexeme → Bool
is_symbol place t = is_it t.kind where
  is_it : TokenKind → Bool
  is_it (Symbol n) = n == place
  is_it _ = false

-- `(` and `)`; `(` or `{`, and `)` or `}`; `-` and `!`.
abbrev pub is_open_bracket : Lexeme → Bool
is_open_bracket = is_symbol 0

abbrev pub is_close_bracket : Lexeme → Bool
is_close_bracket = is_symbol 1

abbrev pub is_opening : Lexeme → Bool
is_opening t = is_open_bracket t || is_symbol 2 t

abbrev pub is_closing : Lexeme → Bool
is_closing t = is_close_bracket t || is_symbol 3 t

abbrev pub is_minus : Lexeme → Bool
is_minus = is_symbol 17

abbrev pub is_bang : Lexeme → Bool
is_bang = is_symbol 21

-- The tokens close n open brackets.
abbrev pub closes_bracket : ℕ → List Lexeme → Bool
closes_bracket nested [] = false
closes_bracket nested (t ∷ ts) =
    (is_close_bracket t && (nested == 1))
    || closes_bracket (if is_open_bracket t then nested + 1 else if is_close_bracket t then nested - 1 else nested) ts

-- The tokens after a prefix operator contain its whole operand: further prefix operators, and then a number, a name, or an
-- expression that ends with a closing bracket.
abbrev pub completes_operand : TokenKind → List Lexeme → Bool
completes_operand (NumberToken n) ts = true
completes_operand NameToken (t ∷ ts) = if is_open_bracket t then closes_bracket 1 ts else true
completes_operand NameToken [] = true
completes_operand (Symbol place) ts = (place == 0) && closes_bracket 1 ts
completes_operand (Word place) (t ∷ ts) = is_open_bracket t && closes_bracket 1 ts
completes_operand _ _ = false

abbrev pub holds_operand : List Lexeme → Bool
holds_operand [] = false
holds_operand (t ∷ ts) = if is_minus t || is_bang t then holds_operand ts else completes_operand t.kind ts

-- A `-` is a prefix operator where it is not after an operand. A `!` always is.
abbrev pub is_operand_end : Option Lexeme → Bool
is_operand_end None = false
is_operand_end (Some t) = is_end t.kind where
  is_end : TokenKind → Bool
  is_end (NumberToken n) = true
  is_end NameToken = true
  is_end (Symbol place) = place == 1
  is_end _ = false

abbrev pub is_prefix : Option Lexeme → Lexeme → Bool
is_prefix before t = is_bang t || (is_minus t && not (is_operand_end before))

-- The number of prefix operators whose operand is not complete, after a previous token or at the start.
abbrev pub pending_prefixes : Option Lexeme → List Lexeme → ℕ
pending_prefixes before [] = 0
pending_prefixes before (t ∷ ts) = (if is_prefix before t && not (holds_operand ts) then 1 else 0) + pending_prefixes (Some t) ts

-- The depth at the last of these tokens: the number of brackets and braces that are open after it, plus the number of prefix
-- operators whose operand is not complete.
abbrev pub depth : List Lexeme → ℕ
depth ts = (count_by is_opening ts - count_by is_closing ts) + pending_prefixes None ts
