-- Each list of tokens is read as an expression of a rank, or stuck somewhere: by the number of tokens.
use Rattle.std.proofs.Common.{zero, suc, ℕ, ◌<◌, ◌⊎◌, inl, inr, List, length, arith}
use Rattle.liszt_lexer.specs.declared.token.TokenKind.TheVariants.{Name as NameToken}
use Rattle.liszt_tree.specs.declared.tree.Level.{Level}
use Rattle.liszt_tree.specs.declared.tree.Level.TheVariants.{Or, And, Sum, Product}
use Rattle.liszt_parser.specs.Grammar.{Lexeme, Rank, chain, comparison, prefix_expression, primary_expression, operand, lowest_rank, fun_of, sign_of, rel_of, open_bracket, close_bracket, comma, minus, bang, towards_word}
use Rattle.liszt_parser.specs.Internal.Productions.{expressions, links, brackets, arguments, seconds, number_of}
use Rattle.liszt_parser.specs.Internal.Reading.{Reader, HeadIs, HeadIsNot, Is, HasValue, token, ◌then◌}
use Rattle.liszt_parser.specs.Internal.Sorts.{Stops}
use Rattle.liszt_parser.proofs.ExpressionReaders.{expressions_lawful, links_lawful, brackets_lawful, operand_links, chain_becomes, sign_lawful, further, further_lawful, further_links, further_loose, links_becomes, no_links_read}
use Rattle.liszt_parser.proofs.ExpressionProductions.{rel_lawful, fun_lawful, number_lawful, second_lawful, seconds_lawful, arguments_lawful, close_after, comma_after, sum_seconds, comparison_becomes, negated_becomes, denied_becomes, primary_becomes, bracketed_becomes, names_become, calls_become, brackets_become, numbers_become, towards_become}
use Rattle.liszt_parser.proofs.ExpressionSteps.{inner_close, comma_inner, inner_comma, open_inner, orientation_lawful, negated_lawful, denied_lawful, call_lawful, name_lawful}
use Rattle.liszt_parser.proofs.ReadOrStuck.{ReadOrStuck, known_then, known_token, known_after, known_chosen, known_choice, known_becomes, known_maybe, known_more, decide_is, decide_for}
use Rattle.liszt_parser.proofs.Readers.{Lawful, Loose, Becomes, then_lawful}
use Rattle.liszt_parser.proofs.StepLemmas.{part_lawful, token_part}
use Rattle.liszt_tree.specs.Tree.{Expression, no_links}
use Rattle.liszt_parser.proofs.StrengthLemmas.{chain_stops}
use Rattle.liszt_parser.proofs.TokenReaders.{token_lawful}

-- what is known of all lists of fewer tokens
pub record Knows (n : ℕ) : Type 0 where
  pub expression : (rank : Rank) (ts : List Lexeme) → length ts < n → ReadOrStuck (expressions rank) ts
  pub further_operands : (level : Level) (ts : List Lexeme) → length ts < n → Stops (operand level) ts → ReadOrStuck (links level) ts

-- what stops an expression is decided
decide_stops : (rank : Rank) (left : List Lexeme) → (Stops rank left) ⊎ (Stops rank left → ⊥)
decide_stops rank left = grind arith

known_nothing : (level : Level) (ts : List Lexeme) → Stops (chain level) ts → ReadOrStuck (links level) ts
unfolding ReadOrStuck
known_nothing level ts stop = inl (no_links, ts, no_links_read level ts stop)

pub loose : {B : Type 0} (rank : Rank) (s : Reader B) → Loose (expressions rank) s
unfolding Loose
loose rank s mid other left x d h = tt

-- a production of expressions, whatever is left after it
settled : {B : Type 0} {s : Reader B} {f : B → Expression} {rank : Rank} (ts : List Lexeme) → Becomes (expressions rank) s f ts → Lawful s
    → ((left other : List Lexeme) → s.fits left other) → ReadOrStuck s ts → ReadOrStuck (expressions rank) ts
settled {rank = rank} ts b law fits k =
    known_becomes ts b (expressions_lawful rank) law (λ left other h. fits left other) (λ left h. decide_stops rank left) k

open_to_close : Lawful (token open_bracket then expressions lowest_rank then token close_bracket)
open_to_close = part_lawful (token_part open_bracket) inner_close

known_brackets : (n : ℕ) → Knows n → (ts : List Lexeme) → length ts < suc n → ReadOrStuck brackets ts
known_brackets n k ts lt =
    known_becomes ts (bracketed_becomes ts) brackets_lawful open_to_close (λ left other h. tt) (λ left h. inl tt)
    (known_after open_bracket inner_close ts (λ left less.
    known_then (expressions_lawful lowest_rank) (token_lawful close_bracket) close_after (loose lowest_rank (token close_bracket)) left
    (k.expression lowest_rank left (omega arith)) (λ end le h. known_token close_bracket end)))

known_arguments : (n : ℕ) → Knows n → (ts : List Lexeme) → length ts < suc n → ReadOrStuck arguments ts
known_arguments n k ts lt =
    known_maybe (Is open_bracket) brackets_lawful (λ left other. tt) (decide_is open_bracket) ts tt (λ h. known_brackets n k ts lt)

-- the rest of an orientation, after its word
known_inner : (n : ℕ) → Knows n → (ts : List Lexeme) → length ts < n → ReadOrStuck (expressions lowest_rank then token close_bracket) ts
known_inner n k ts lt =
    known_then (expressions_lawful lowest_rank) (token_lawful close_bracket) close_after (loose lowest_rank (token close_bracket)) ts
    (k.expression lowest_rank ts lt) (λ end le h. known_token close_bracket end)

known_pair : (n : ℕ) → Knows n → (ts : List Lexeme) → length ts < n
    → ReadOrStuck (token open_bracket then expressions lowest_rank then token comma then expressions lowest_rank then token close_bracket) ts
known_pair n k ts lt =
    known_after open_bracket inner_comma ts (λ left less.
    known_then (expressions_lawful lowest_rank) comma_inner (comma_after (expressions lowest_rank then token close_bracket))
    (loose lowest_rank (token comma then expressions lowest_rank then token close_bracket)) left (k.expression lowest_rank left (omega arith)) (λ mid le h.
    known_after comma inner_close mid (λ next fewer. known_inner n k next (omega arith))))

known_primary : (n : ℕ) → Knows n → (ts : List Lexeme) → length ts < suc n → ReadOrStuck (expressions primary_expression) ts
known_primary n k ts lt = by_name (decide_is NameToken ts) where
  by_number : HeadIsNot (Is NameToken) ts → HeadIsNot (Is towards_word) ts → HeadIsNot (Is open_bracket) ts → HeadIsNot (HasValue fun_of) ts
      → ReadOrStuck (expressions primary_expression) ts
  by_number a b c d = settled ts (numbers_become ts a b c d) number_lawful (λ left other. tt) (known_chosen number_of number_lawful ts)

  by_fun : HeadIsNot (Is NameToken) ts → HeadIsNot (Is towards_word) ts → HeadIsNot (Is open_bracket) ts
      → HeadIs (HasValue fun_of) ts ⊎ HeadIsNot (HasValue fun_of) ts → ReadOrStuck (expressions primary_expression) ts
  by_fun a b c (inl h) =
      settled ts (calls_become ts h) call_lawful (λ left other. tt)
      (known_choice fun_of fun_lawful brackets_lawful ts (λ left less. known_brackets n k left (omega arith)))
  by_fun a b c (inr d) = by_number a b c d

  by_open : HeadIsNot (Is NameToken) ts → HeadIsNot (Is towards_word) ts → HeadIs (Is open_bracket) ts ⊎ HeadIsNot (Is open_bracket) ts
      → ReadOrStuck (expressions primary_expression) ts
  by_open a b (inl h) = settled ts (brackets_become ts h) brackets_lawful (λ left other. tt) (known_brackets n k ts lt)
  by_open a b (inr c) = by_fun a b c (decide_for fun_of ts)

  by_towards : HeadIsNot (Is NameToken) ts → HeadIs (Is towards_word) ts ⊎ HeadIsNot (Is towards_word) ts → ReadOrStuck (expressions primary_expression) ts
  by_towards a (inl h) =
      settled ts (towards_become ts h) orientation_lawful (λ left other. tt)
      (known_after towards_word open_inner ts (λ left less. known_pair n k left (omega arith)))
  by_towards a (inr b) = by_open a b (decide_is open_bracket ts)

  by_name : HeadIs (Is NameToken) ts ⊎ HeadIsNot (Is NameToken) ts → ReadOrStuck (expressions primary_expression) ts
  by_name (inl h) =
      settled ts (names_become ts h) name_lawful (λ left other. tt)
      (known_after NameToken arguments_lawful ts (λ left less. known_arguments n k left (omega arith)))
  by_name (inr a) = by_towards a (decide_is towards_word ts)

known_prefixed : (n : ℕ) → Knows n → (ts : List Lexeme) → length ts < suc n → ReadOrStuck (expressions prefix_expression) ts
known_prefixed n k ts lt = by_minus (decide_is minus ts) where
  by_bang : HeadIsNot (Is minus) ts → HeadIs (Is bang) ts ⊎ HeadIsNot (Is bang) ts → ReadOrStuck (expressions prefix_expression) ts
  by_bang a (inl h) =
      settled ts (denied_becomes ts h) denied_lawful (λ left other. tt)
      (known_after bang (expressions_lawful prefix_expression) ts (λ left less. k.expression prefix_expression left (omega arith)))
  by_bang a (inr b) = settled ts (primary_becomes ts a b) (expressions_lawful primary_expression) (λ left other. tt) (known_primary n k ts lt)

  by_minus : HeadIs (Is minus) ts ⊎ HeadIsNot (Is minus) ts → ReadOrStuck (expressions prefix_expression) ts
  by_minus (inl h) =
      settled ts (negated_becomes ts h) negated_lawful (λ left other. tt)
      (known_after minus (expressions_lawful prefix_expression) ts (λ left less. k.expression prefix_expression left (omega arith)))
  by_minus (inr a) = by_bang a (decide_is bang ts)

-- the further operands of a chain
further_laws : (level : Level) → Lawful (further level then links level)
further_laws level = then_lawful (further_lawful level) (links_lawful level) (further_links level)

known_links : (n : ℕ) → Knows n → (level : Level) (ts : List Lexeme) → length ts < suc n → Stops (operand level) ts → ReadOrStuck (links level) ts
known_links n k level ts lt stop = go (decide_for (sign_of level) ts) where
  go : HeadIs (HasValue (sign_of level)) ts ⊎ HeadIsNot (HasValue (sign_of level)) ts → ReadOrStuck (links level) ts
  go (inl h) =
      known_becomes ts (links_becomes level ts h) (links_lawful level) (further_laws level) (λ left other h. tt)
      (λ left h. inl h)
      (known_more (sign_of level) (sign_lawful level) (expressions_lawful (operand level)) (links_lawful level) (further_links level) (further_loose level) ts
      (λ left less. k.expression (operand level) left (omega arith)) (λ left less stop. k.further_operands level left (omega arith) stop))
  go (inr h) = known_nothing level ts (chain_stops level ts stop h)

chain_laws : (level : Level) → Lawful (expressions (operand level) then links level)
chain_laws level = then_lawful (expressions_lawful (operand level)) (links_lawful level) (operand_links level)

known_chain : (n : ℕ) → Knows n → (level : Level) (ts : List Lexeme) → length ts < suc n → ReadOrStuck (expressions (operand level)) ts
    → ReadOrStuck (expressions (chain level)) ts
known_chain n k level ts lt first =
    settled ts (chain_becomes level ts) (chain_laws level) (λ left other. tt)
    (known_then (expressions_lawful (operand level)) (links_lawful level) (operand_links level) (loose (operand level) (links level)) ts first
    (λ left le stop. known_links n k level left (omega arith) stop))

comparison_laws : Lawful (expressions (chain Sum) then seconds)
comparison_laws = then_lawful (expressions_lawful (chain Sum)) seconds_lawful sum_seconds

known_comparison : (n : ℕ) → Knows n → (ts : List Lexeme) → length ts < suc n → ReadOrStuck (expressions (chain Sum)) ts → ReadOrStuck (expressions comparison) ts
known_comparison n k ts lt first =
    settled ts (comparison_becomes ts) comparison_laws (λ left other. tt)
    (known_then (expressions_lawful (chain Sum)) seconds_lawful sum_seconds (loose (chain Sum) seconds) ts first
    (λ left le stop. known_maybe (HasValue rel_of) second_lawful (λ left other. tt) (decide_for rel_of) left stop
    (λ h. known_choice rel_of rel_lawful (expressions_lawful (chain Sum)) left (λ next less. k.expression (chain Sum) next (omega arith)))))

known_product : (n : ℕ) → Knows n → (ts : List Lexeme) → length ts < suc n → ReadOrStuck (expressions (chain Product)) ts
known_product n k ts lt = known_chain n k Product ts lt (known_prefixed n k ts lt)

known_sum : (n : ℕ) → Knows n → (ts : List Lexeme) → length ts < suc n → ReadOrStuck (expressions (chain Sum)) ts
known_sum n k ts lt = known_chain n k Sum ts lt (known_product n k ts lt)

known_and : (n : ℕ) → Knows n → (ts : List Lexeme) → length ts < suc n → ReadOrStuck (expressions (chain And)) ts
known_and n k ts lt = known_chain n k And ts lt (known_comparison n k ts lt (known_sum n k ts lt))

known_rank : (n : ℕ) → Knows n → (rank : Rank) (ts : List Lexeme) → length ts < suc n → ReadOrStuck (expressions rank) ts
known_rank n k primary_expression ts lt = known_primary n k ts lt
known_rank n k prefix_expression ts lt = known_prefixed n k ts lt
known_rank n k (chain Product) ts lt = known_product n k ts lt
known_rank n k (chain Sum) ts lt = known_sum n k ts lt
known_rank n k comparison ts lt = known_comparison n k ts lt (known_sum n k ts lt)
known_rank n k (chain And) ts lt = known_and n k ts lt
known_rank n k (chain Or) ts lt = known_chain n k Or ts lt (known_and n k ts lt)

pub knows : (n : ℕ) → Knows n
knows zero = record { expression = λ rank ts lt. absurd (omega (arith, lt)); further_operands = λ level ts lt h. absurd (omega (arith, lt)) }
knows (suc n) = record { expression = known_rank n (knows n); further_operands = known_links n (knows n) }

pub known_expression : (rank : Rank) (ts : List Lexeme) → ReadOrStuck (expressions rank) ts
known_expression rank ts = (knows (suc (length ts))).expression rank ts (omega arith)

pub known_brackets_of : (ts : List Lexeme) → ReadOrStuck brackets ts
known_brackets_of ts = known_brackets (length ts) (knows (length ts)) ts (omega arith)

pub known_arguments_of : (ts : List Lexeme) → ReadOrStuck arguments ts
known_arguments_of ts = known_arguments (length ts) (knows (length ts)) ts (omega arith)
