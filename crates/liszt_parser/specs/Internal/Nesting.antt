-- The depth of a prefix of the tokens, updated token by token. Private functions' contracts cite it; `depth` is the definition of
-- what is promised.
use Rattle.std.specs.Prelude.{◌≡◌, ℕ, ◌+◌, ◌<◌, if◌then◌else◌, Bool, false, Option, Some, None, List, [], ◌∷◌, ◌++◌, length, take}
use Rattle.std.specs.List.{count_by}
use Rattle.liszt_base.specs.Limits.{depth_limit}
use Rattle.liszt_lexer.specs.declared.token.TokenKind.TheVariants.{Name as NameToken, Word}
use Rattle.liszt_parser.specs.declared.operand.Nesting.{Nesting}
use Rattle.liszt_parser.specs.declared.operand.Operand.{Operand}
use Rattle.liszt_parser.specs.declared.operand.Operand.TheVariants.{Awaited, Named, Worded, Inside, Never}
use Rattle.liszt_parser.specs.Depth.{is_opening, is_closing, holds_operand, completes_operand, closes_bracket, pending_prefixes, is_operand_end, depth}
use Rattle.liszt_parser.specs.Grammar.{Lexeme}
use Rattle.liszt_parser.specs.ParseFault.{IsShallow}

-- The tokens that follow complete the operand.
abbrev pub ends_by : Operand → List Lexeme → Bool
ends_by Awaited ts = holds_operand ts
ends_by Named ts = completes_operand NameToken ts
ends_by Worded ts = completes_operand (Word 0) ts
ends_by (Inside nested) ts = closes_bracket nested ts
ends_by Never ts = false

-- The number of operands that the tokens that follow do not complete.
abbrev pub waiting_operands : List Operand → List Lexeme → ℕ
waiting_operands [] ts = 0
waiting_operands (o ∷ os) ts = (if ends_by o ts then 0 else 1) + waiting_operands os ts

-- The counts are those of the tokens: the brackets and braces opened and closed, the last token, and the operands, whatever tokens
-- follow.
pub record IsNesting (front : List Lexeme) (nesting : Nesting) : Type 0 where
  pub opened : nesting.opened ≡ count_by is_opening front
  pub closed : nesting.closed ≡ count_by is_closing front
  pub last : Option Lexeme
  pub after : nesting.after_operand ≡ is_operand_end last
  pub waits : (more : List Lexeme) → pending_prefixes None (front ++ more) ≡ waiting_operands nesting.operands.items more + pending_prefixes last more

-- The first token that is deeper than the limit, or none.
abbrev pub IsFirstDeep : List Lexeme → Option ℕ → Type 0
IsFirstDeep ts None = IsShallow ts (length ts)
IsFirstDeep ts (Some place) = IsShallow ts place × (place < length ts) × (depth_limit < depth (take (place + 1) ts))

-- The tokens before this index are counted, and none of them is deeper than the limit.
pub record IsCounted (ts : List Lexeme) (place : ℕ) (nesting : Nesting) : Type 0 where
  pub counts : IsNesting (take place ts) nesting
  pub shallow : IsShallow ts place
