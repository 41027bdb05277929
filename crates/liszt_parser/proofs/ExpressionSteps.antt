-- The steps of the parsers of expressions: the laws of what is left to read at each.
use Rattle.std.proofs.Common.{ℕ, List, drop}
use Rattle.liszt_base.specs.declared.answers.Refused.{Refused}
use Rattle.liszt_lexer.specs.declared.token.TokenKind.TheVariants.{Name as NameToken}
use Rattle.liszt_tree.specs.Tree.{Expression}
use Rattle.liszt_parser.specs.Grammar.{Lexeme, Rank, lowest_rank, prefix_expression, open_bracket, close_bracket, comma, minus, bang, towards_word, fun_of}
use Rattle.liszt_parser.specs.Internal.Reading.{Reader, IsRead, Fails, token, token_with_value, ◌then◌}
use Rattle.liszt_parser.specs.Internal.Productions.{expressions, brackets, arguments, number_of}
use Rattle.liszt_parser.proofs.Readers.{Lawful, Behind, Loose, then_lawful, then_read}
use Rattle.liszt_parser.proofs.TokenReaders.{first_fails, second_fails, token_lawful, free}
use Rattle.liszt_parser.proofs.ExpressionReaders.{expressions_lawful, brackets_lawful}
use Rattle.liszt_parser.proofs.ExpressionProductions.{close_after, comma_after, arguments_lawful, fun_lawful, number_lawful}
use Rattle.liszt_parser.proofs.StepLemmas.{Part, part_lawful, token_part}

pub brackets_part : Part brackets
brackets_part = record { law = brackets_lawful; free = free }

pub fun_part : Part (token_with_value fun_of)
fun_part = record { law = fun_lawful; free = free }

pub number_part : Part (token_with_value number_of)
number_part = record { law = number_lawful; free = free }

-- an expression and what is after it
pub rank_fails : {B : Type 0} {rank : Rank} {s : Reader B} → Behind (expressions rank) s → Lawful s → (ts : List Lexeme) (at : ℕ) (refused : Refused ℕ)
    → Fails (expressions rank) ts at refused → Fails (expressions rank then s) ts at refused
rank_fails b law ts at refused h = first_fails law b ts at refused h

pub rank_then : {B : Type 0} {rank : Rank} {s : Reader B} → Behind (expressions rank) s → (ts : List Lexeme) (at mid : ℕ) (e : Expression)
    (refused : Refused ℕ) → IsRead (expressions rank) (drop at ts) e (drop mid ts) → Fails s ts mid refused
    → Fails (expressions rank then s) ts at refused
unfolding Loose
rank_then {rank = rank} b ts at mid e refused d h = second_fails (expressions_lawful rank) b (λ mid other left x k h. tt) ts at mid e refused d h

-- `expression )`, and `expression , expression )`
pub inner_close : Lawful (expressions lowest_rank then token close_bracket)
inner_close = then_lawful (expressions_lawful lowest_rank) (token_lawful close_bracket) close_after

pub comma_inner : Lawful (token comma then expressions lowest_rank then token close_bracket)
comma_inner = part_lawful (token_part comma) inner_close

pub inner_comma : Lawful (expressions lowest_rank then token comma then expressions lowest_rank then token close_bracket)
inner_comma = then_lawful (expressions_lawful lowest_rank) comma_inner (comma_after (expressions lowest_rank then token close_bracket))

pub open_inner : Lawful (token open_bracket then expressions lowest_rank then token comma then expressions lowest_rank then token close_bracket)
open_inner = part_lawful (token_part open_bracket) inner_comma

pub rank_read : {B : Type 0} {rank : Rank} {s : Reader B} → Behind (expressions rank) s → Lawful s → (ts mid left : List Lexeme) (e : Expression) (x : B)
    → IsRead (expressions rank) ts e mid → IsRead s mid x left → IsRead (expressions rank then s) ts (e, x) left
rank_read {rank = rank} b law ts mid left e x d k = then_read (expressions_lawful rank) law b ts mid left e x d k

-- productions
pub orientation_lawful :
    Lawful (token towards_word then token open_bracket then expressions lowest_rank then token comma then expressions lowest_rank then token close_bracket)
orientation_lawful = part_lawful (token_part towards_word) open_inner

pub negated_lawful : Lawful (token minus then expressions prefix_expression)
negated_lawful = part_lawful (token_part minus) (expressions_lawful prefix_expression)

pub denied_lawful : Lawful (token bang then expressions prefix_expression)
denied_lawful = part_lawful (token_part bang) (expressions_lawful prefix_expression)

pub call_lawful : Lawful (token_with_value fun_of then brackets)
call_lawful = part_lawful fun_part brackets_lawful

pub name_lawful : Lawful (token NameToken then arguments)
name_lawful = part_lawful (token_part NameToken) arguments_lawful
