-- Each list of tokens is read as a statement, and as a body, or stuck somewhere: by the number of tokens.
use Rattle.std.proofs.Common.{◌≡◌, zero, suc, ℕ, ◌<◌, ◌≤◌, ◌⊎◌, inl, inr, List, [], ◌∷◌, length, refl, ap, ◌∙◌, arith}
use Rattle.liszt_lexer.specs.declared.token.TokenKind.{TokenKind}
use Rattle.liszt_lexer.specs.declared.token.TokenKind.TheVariants.{Name as NameToken}
use Rattle.liszt_tree.specs.Tree.{Statement, Var, Val, Assign, If, While, For, no_statement, statement_nodes}
use Rattle.liszt_parser.specs.Grammar.{Lexeme, lowest_rank, how_of, set_of, open_bracket, close_bracket, open_brace, close_brace, semicolon, arrow, set_to, var_word, val_word, if_word, else_word, while_word, for_word}
use Rattle.liszt_parser.specs.Internal.Productions.{expressions, arguments, brackets, closings, closed_expression, closed_tree, declaration, declaration_parts, elses, statements, bodies, blocks, EndFits}
use Rattle.liszt_parser.specs.Internal.Reading.{Reader, IsRead, HeadIs, HeadIsNot, Is, token, token_with_value, ◌then◌}
use Rattle.liszt_parser.specs.Internal.Sorts.{Ends, NoElse, an_end, an_else}
use Rattle.liszt_parser.proofs.ClosingLemmas.{semicolon_read, end_read, nothing_closes}
use Rattle.liszt_parser.proofs.NodeCountLemmas.{a_statement}
use Rattle.liszt_parser.proofs.HeadLemmas.{no_else, head_sorted, not_ends}
use Rattle.liszt_parser.proofs.ReadOrStuck.{ReadOrStuck, known_from, known_then, known_mapped, known_token, known_after, known_choice, known_becomes, known_maybe, decide_kind, decide_is}
use Rattle.liszt_parser.proofs.ReadOrStuckExpressions.{loose, known_expression, known_brackets_of, known_arguments_of}
use Rattle.liszt_parser.proofs.Readers.{Lawful, Loose, Becomes, free_after, free_loose, then_lawful, mapped_lawful}
use Rattle.liszt_parser.proofs.ExpressionReaders.{expressions_lawful, brackets_lawful}
use Rattle.liszt_parser.proofs.ExpressionProductions.{arguments_lawful}
use Rattle.liszt_parser.proofs.ExpressionSteps.{brackets_part}
use Rattle.liszt_parser.proofs.Sorts.{sort_end, sort_else, clash}
use Rattle.liszt_parser.proofs.StepLemmas.{part_lawful, token_part}
use Rattle.liszt_parser.proofs.StatementReaders.{closings_lawful, closings_after, closed_lawful, how_lawful, set_lawful, set_part, statements_lawful, bodies_lawful, blocks_lawful, statement_bodies, statement_loose, no_statements_read, bodies_become, close_bodies, close_loose, inner_brace, block_becomes, set_closed, name_set, declared_lawful, how_closed, argument_how, argument_closed, assignment_lawful, else_lawful, elses_lawful, block_elses}
use Rattle.liszt_parser.proofs.StatementProductions.{var_becomes, val_becomes, assign_becomes, if_becomes, while_becomes, for_becomes}
use Rattle.liszt_parser.proofs.TokenReaders.{free, token_lawful}

-- WHAT CLOSES, and an expression before it
known_closings : (ts : List Lexeme) → ReadOrStuck closings ts
unfolding ReadOrStuck
known_closings [] = inl (tt, [], end_read [] refl)
known_closings (t ∷ ts) = go (decide_kind t.kind semicolon) where
  ends : (t.kind ≡ semicolon → ⊥) → (t.kind ≡ close_brace) ⊎ (t.kind ≡ close_brace → ⊥) → ReadOrStuck closings (t ∷ ts)
  ends n (inl e) = inl (tt, t ∷ ts, end_read (t ∷ ts) (sort_end e))
  ends n (inr m) = inr (t ∷ ts, nothing_closes t (t ∷ ts) ts refl n m)

  go : (t.kind ≡ semicolon) ⊎ (t.kind ≡ semicolon → ⊥) → ReadOrStuck closings (t ∷ ts)
  go (inl e) = inl (tt, ts, semicolon_read t (t ∷ ts) ts refl e)
  go (inr n) = ends n (decide_kind t.kind close_brace)

pub known_closed : (ts : List Lexeme) → ReadOrStuck closed_expression ts
known_closed ts =
    known_mapped (expressions lowest_rank then closings) closed_tree ts
    (known_then (expressions_lawful lowest_rank) closings_lawful closings_after (loose lowest_rank closings) ts (known_expression lowest_rank ts) (λ left le h. known_closings left))

pub known_declared : (word : TokenKind) (ts : List Lexeme) → ReadOrStuck (declaration word) ts
known_declared word ts =
    known_mapped (token word then token NameToken then token set_to then closed_expression) declaration_parts ts
    (known_after word name_set ts (λ left less. known_after NameToken set_closed left (λ mid fewer. known_after set_to closed_lawful mid (λ next least. known_closed next))))

-- WHERE A LIST OF STATEMENTS ENDS, and where no `else` follows
pub decide_ends : (ts : List Lexeme) → Ends ts ⊎ (Ends ts → ⊥)
decide_ends [] = inl refl
decide_ends (t ∷ ts) = go (decide_kind t.kind close_brace) where
  go : (t.kind ≡ close_brace) ⊎ (t.kind ≡ close_brace → ⊥) → Ends (t ∷ ts) ⊎ (Ends (t ∷ ts) → ⊥)
  go (inl e) = inl (sort_end e)
  go (inr n) = inr (not_ends t ts n)

pub decide_else : (ts : List Lexeme) → NoElse ts ⊎ (NoElse ts → ⊥)
decide_else ts = go (decide_is else_word ts) where
  go : HeadIs (Is else_word) ts ⊎ HeadIsNot (Is else_word) ts → NoElse ts ⊎ (NoElse ts → ⊥)
  go (inl h) = inr (λ none. none (head_sorted else_word ts h ∙ sort_else refl))
  go (inr n) = inl (no_else ts n)

pub else_fits : (left other : List Lexeme) → (NoElse left → ⊥) → EndFits left other
else_fits left other n ends = absurd (n (λ e. clash an_end an_else ends e refl))

-- a statement takes a token
some_node : (s : Statement) → 1 ≤ statement_nodes s
some_node (Var p n a e) = omega arith
some_node (Val p n a e) = omega arith
some_node (Assign p n t h e) = omega arith
some_node (If p e f s b) = omega arith
some_node (While p e b) = omega arith
some_node (For p n a s q e b) = omega arith

statement_shorter : {ts left : List Lexeme} {s : Statement} → IsRead statements ts s left → length left < length ts
statement_shorter {left = left} {s} d =
    let nodes = a_statement (d.reads_on left (λ e. e)) in
    let parts = ap length d.parts in
    omega (arith, nodes, parts, some_node s)

-- what is known of all lists of fewer tokens
pub record KnowsBodies (n : ℕ) : Type 0 where
  pub one : (ts : List Lexeme) → length ts < n → ReadOrStuck statements ts
  pub all : (ts : List Lexeme) → length ts < n → ReadOrStuck bodies ts

-- a production of statements
settled : {B : Type 0} {s : Reader B} {f : B → Statement} (ts : List Lexeme) → Becomes statements s f ts → Lawful s
    → ((left other : List Lexeme) → (NoElse left → ⊥) → s.fits left other) → ReadOrStuck s ts → ReadOrStuck statements ts
settled ts b law fits k = known_becomes ts b statements_lawful law fits (λ left h. decide_else left) k

brace_to_brace : Lawful (token open_brace then bodies then token close_brace)
brace_to_brace = part_lawful (token_part open_brace) inner_brace

known_block : (n : ℕ) → KnowsBodies n → (ts : List Lexeme) → length ts < suc n → ReadOrStuck blocks ts
known_block n k ts lt =
    known_becomes ts (block_becomes ts) blocks_lawful brace_to_brace (λ left other h. tt) (λ left h. inl tt)
    (known_after open_brace inner_brace ts (λ left less.
    known_then bodies_lawful (token_lawful close_brace) close_bodies close_loose left (k.all left (omega arith)) (λ end le h. known_token close_brace end)))

known_elses : (n : ℕ) → KnowsBodies n → (ts : List Lexeme) → length ts < suc n → ReadOrStuck elses ts
known_elses n k ts lt =
    known_maybe (Is else_word) (mapped_lawful (λ x. x.1) else_lawful) (λ left other. tt) (decide_is else_word) ts tt
    (λ h. known_mapped (token else_word then blocks) (λ x. x.1) ts (known_after else_word blocks_lawful ts (λ left less. known_block n k left (omega arith))))

-- brackets and a block after them
pub known_headed : {B : Type 0} {s : Reader B} → Lawful s → (m : ℕ) (ts : List Lexeme) → length ts < m
    → ((left : List Lexeme) → length left < m → ReadOrStuck s left) → ReadOrStuck (brackets then s) ts
known_headed {s = s} law m ts lt k =
    known_then brackets_lawful law (free_after free) (free_loose brackets s free) ts (known_brackets_of ts) (λ left le h. k left (omega arith))

if_lawful : Lawful (token if_word then brackets then blocks then elses)
if_lawful = part_lawful (token_part if_word) (part_lawful brackets_part block_elses)

while_lawful : Lawful (token while_word then brackets then blocks)
while_lawful = part_lawful (token_part while_word) (part_lawful brackets_part blocks_lawful)

known_if : (n : ℕ) → KnowsBodies n → (ts : List Lexeme) → length ts < suc n → HeadIs (Is if_word) ts → ReadOrStuck statements ts
known_if n k ts lt h =
    settled ts (if_becomes ts h) if_lawful (λ left other none. tt)
    (known_after if_word (part_lawful brackets_part block_elses) ts (λ left less.
    known_headed block_elses n left (omega arith) (λ mid fewer.
    known_then blocks_lawful elses_lawful (free_after free) (free_loose blocks elses free) mid (known_block n k mid (omega arith))
    (λ next le stop. known_elses n k next (omega arith)))))

known_while : (n : ℕ) → KnowsBodies n → (ts : List Lexeme) → length ts < suc n → HeadIs (Is while_word) ts → ReadOrStuck statements ts
known_while n k ts lt h =
    settled ts (while_becomes ts h) while_lawful (λ left other none. tt)
    (known_after while_word (part_lawful brackets_part blocks_lawful) ts (λ left less.
    known_headed blocks_lawful n left (omega arith) (λ mid fewer. known_block n k mid (omega arith))))

-- the parts of a loop over a set, the last first
close_block : Lawful (token close_bracket then blocks)
close_block = part_lawful (token_part close_bracket) blocks_lawful

over_block : Lawful (brackets then token close_bracket then blocks)
over_block = part_lawful brackets_part close_block

set_over : Lawful (token_with_value set_of then brackets then token close_bracket then blocks)
set_over = part_lawful set_part over_block

arrow_over : Lawful (token arrow then token_with_value set_of then brackets then token close_bracket then blocks)
arrow_over = part_lawful (token_part arrow) set_over

name_over : Lawful (token NameToken then token arrow then token_with_value set_of then brackets then token close_bracket then blocks)
name_over = part_lawful (token_part NameToken) arrow_over

open_over : Lawful (token open_bracket then token NameToken then token arrow then token_with_value set_of then brackets then token close_bracket then blocks)
open_over = part_lawful (token_part open_bracket) name_over

for_lawful : Lawful (token for_word then token open_bracket then token NameToken then token arrow then token_with_value set_of then brackets then token close_bracket then blocks)
for_lawful = part_lawful (token_part for_word) open_over

known_for : (n : ℕ) → KnowsBodies n → (ts : List Lexeme) → length ts < suc n → HeadIs (Is for_word) ts → ReadOrStuck statements ts
known_for n k ts lt h =
    settled ts (for_becomes ts h) for_lawful (λ left other none. tt)
    (known_after for_word open_over ts (λ a fewer.
    known_after open_bracket name_over a (λ b fewer'.
    known_after NameToken arrow_over b (λ c less.
    known_after arrow set_over c (λ d less'.
    known_choice set_of set_lawful over_block d (λ e least.
    known_headed close_block n e (omega arith) (λ f least'.
    known_after close_bracket blocks_lawful f (λ g last. known_block n k g (omega arith)))))))))

argument_loose : Loose arguments (token_with_value how_of then closed_expression)
unfolding Loose
argument_loose mid other left x d h = tt

known_assign : (ts : List Lexeme) → HeadIsNot (Is var_word) ts → HeadIsNot (Is val_word) ts → HeadIsNot (Is if_word) ts → HeadIsNot (Is while_word) ts
    → HeadIsNot (Is for_word) ts → ReadOrStuck statements ts
known_assign ts a b c d e =
    settled ts (assign_becomes ts a b c d e) assignment_lawful (λ left other none. else_fits left other none)
    (known_after NameToken argument_closed ts (λ left less.
    known_then arguments_lawful how_closed argument_how argument_loose left (known_arguments_of left)
    (λ mid le stop. known_choice how_of how_lawful closed_lawful mid (λ next fewer. known_closed next))))

known_statement : (n : ℕ) → KnowsBodies n → (ts : List Lexeme) → length ts < suc n → ReadOrStuck statements ts
known_statement n k ts lt = by_var (decide_is var_word ts) where
  by_for : HeadIsNot (Is var_word) ts → HeadIsNot (Is val_word) ts → HeadIsNot (Is if_word) ts → HeadIsNot (Is while_word) ts
      → HeadIs (Is for_word) ts ⊎ HeadIsNot (Is for_word) ts → ReadOrStuck statements ts
  by_for a b c d (inl h) = known_for n k ts lt h
  by_for a b c d (inr e) = known_assign ts a b c d e

  by_while : HeadIsNot (Is var_word) ts → HeadIsNot (Is val_word) ts → HeadIsNot (Is if_word) ts → HeadIs (Is while_word) ts ⊎ HeadIsNot (Is while_word) ts
      → ReadOrStuck statements ts
  by_while a b c (inl h) = known_while n k ts lt h
  by_while a b c (inr d) = by_for a b c d (decide_is for_word ts)

  by_if : HeadIsNot (Is var_word) ts → HeadIsNot (Is val_word) ts → HeadIs (Is if_word) ts ⊎ HeadIsNot (Is if_word) ts → ReadOrStuck statements ts
  by_if a b (inl h) = known_if n k ts lt h
  by_if a b (inr c) = by_while a b c (decide_is while_word ts)

  by_val : HeadIsNot (Is var_word) ts → HeadIs (Is val_word) ts ⊎ HeadIsNot (Is val_word) ts → ReadOrStuck statements ts
  by_val a (inl h) = settled ts (val_becomes ts h) (mapped_lawful declaration_parts (declared_lawful val_word)) (λ left other none. else_fits left other none) (known_declared val_word ts)
  by_val a (inr b) = by_if a b (decide_is if_word ts)

  by_var : HeadIs (Is var_word) ts ⊎ HeadIsNot (Is var_word) ts → ReadOrStuck statements ts
  by_var (inl h) = settled ts (var_becomes ts h) (mapped_lawful declaration_parts (declared_lawful var_word)) (λ left other none. else_fits left other none) (known_declared var_word ts)
  by_var (inr a) = by_val a (decide_is val_word ts)

statement_and_more : Lawful (statements then bodies)
statement_and_more = then_lawful statements_lawful bodies_lawful statement_bodies

known_body : (n : ℕ) → KnowsBodies n → (ts : List Lexeme) → length ts < suc n → ReadOrStuck bodies ts
unfolding ReadOrStuck
known_body n k ts lt = go (decide_ends ts) where
  go : Ends ts ⊎ (Ends ts → ⊥) → ReadOrStuck bodies ts
  go (inl e) = inl (no_statement, ts, no_statements_read ts e)
  go (inr more) =
      known_becomes ts (bodies_become ts more) bodies_lawful statement_and_more (λ left other not ends. absurd (not ends)) (λ left h. inl h)
      (known_from statements_lawful bodies_lawful statement_bodies statement_loose ts (known_statement n k ts lt)
      (λ x left d. k.all left (let less = statement_shorter d in omega (arith, less))))

knows_bodies : (n : ℕ) → KnowsBodies n
knows_bodies zero = record { one = λ ts lt. absurd (omega (arith, lt)); all = λ ts lt. absurd (omega (arith, lt)) }
knows_bodies (suc n) = record { one = known_statement n (knows_bodies n); all = known_body n (knows_bodies n) }

pub known_block_of : (ts : List Lexeme) → ReadOrStuck blocks ts
known_block_of ts = known_block (length ts) (knows_bodies (length ts)) ts (omega arith)
