-- The operand of a prefix operator, token by token: its state after the next token, or none where it is complete. Private
-- functions' contracts cite it.
use Rattle.std.specs.Prelude.{ℕ, ◌+◌, ◌-◌, ◌==◌, ◌&&◌, ◌||◌, if◌then◌else◌, Bool, true, false, Option, Some, None, List, [], ◌∷◌, ◌++◌}
use Rattle.std.specs.List.{filter_map}
use Rattle.liszt_lexer.specs.declared.token.TokenKind.{TokenKind}
use Rattle.liszt_lexer.specs.declared.token.TokenKind.TheVariants.{Name as NameToken, Number as NumberToken, Word, Symbol}
use Rattle.liszt_parser.specs.declared.operand.Operand.{Operand}
use Rattle.liszt_parser.specs.declared.operand.Operand.TheVariants.{Awaited, Named, Worded, Inside, Never}

abbrev pub is_symbol_kind : ℕ → TokenKind → Bool
is_symbol_kind place (Symbol n) = n == place
is_symbol_kind place _ = false

abbrev pub kind_ends_operand : TokenKind → Bool
kind_ends_operand (NumberToken n) = true
kind_ends_operand NameToken = true
kind_ends_operand (Symbol place) = place == 1
kind_ends_operand _ = false

-- The number of brackets that are open in the operand.
abbrev pub nested_brackets : Operand → ℕ
nested_brackets (Inside nested) = nested
nested_brackets _ = 0

abbrev pub is_named : Operand → Bool
is_named Named = true
is_named _ = false

abbrev pub operand_start : TokenKind → Option Operand
operand_start (NumberToken n) = None
operand_start NameToken = Some Named
operand_start (Word place) = Some Worded
operand_start (Symbol place) = Some (if place == 0 then Inside 1 else if (place == 17) || (place == 21) then Awaited else Never)
operand_start _ = Some Never

abbrev pub operand_step : Operand → TokenKind → Option Operand
operand_step Awaited kind = operand_start kind
operand_step Named kind = if is_symbol_kind 0 kind then Some (Inside 1) else None
operand_step Worded kind = Some (if is_symbol_kind 0 kind then Inside 1 else Never)
operand_step (Inside nested) kind =
    if is_symbol_kind 1 kind && (nested == 1) then None
    else Some (Inside (if is_symbol_kind 0 kind then nested + 1 else if is_symbol_kind 1 kind then nested - 1 else nested))
operand_step Never kind = Some Never

-- The operands after one more token: the incomplete ones, and a new one after a prefix operator.
abbrev pub operands_step : Bool → List Operand → TokenKind → List Operand
operands_step prefix os kind = filter_map (λ o. operand_step o kind) os ++ (if prefix then Awaited ∷ [] else [])
