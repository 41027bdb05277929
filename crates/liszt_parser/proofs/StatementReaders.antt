-- The laws of the readers of statements, bodies and blocks, and of what they are made of.
use Rattle.std.proofs.Common.{◌≡◌, ℕ, Option, Some, None, List, [], ◌∷◌, ◌++◌, drop, refl, sym, ap, subst}
use Rattle.std.specs.Prelude.{⊤}
use Rattle.liszt_base.specs.declared.answers.Refused.{Refused}
use Rattle.liszt_base.specs.declared.elements.SetName.TheVariants.{Vertices}
use Rattle.liszt_lexer.specs.declared.token.TokenKind.{TokenKind}
use Rattle.liszt_lexer.specs.declared.token.TokenKind.TheVariants.{Name as NameToken, Word, Symbol}
use Rattle.liszt_tree.specs.declared.tree.How.{How}
use Rattle.liszt_tree.specs.declared.tree.How.TheVariants.{Set}
use Rattle.liszt_tree.specs.Tree.{Expression, Statement, Assign, Body, no_statement, statement}
use Rattle.liszt_parser.specs.Grammar.{Lexeme, lowest_rank, how_of, set_of, open_bracket, close_bracket, open_brace, close_brace, semicolon, arrow, set_to, if_word, else_word, while_word, for_word, by_semicolon, no_target, IsStatement, assign, IsBody, no_statements, statements as statements_of, IsBlock, block}
use Rattle.liszt_parser.specs.Internal.Reading.{SameHead, IsRead, Fails, HeadIs, Is, token, token_with_value, ◌then◌, mapped_reader}
use Rattle.liszt_parser.specs.Internal.Sorts.{Ends}
use Rattle.liszt_parser.specs.Internal.Productions.{expressions, brackets, arguments, closings, statements, bodies, blocks, closed_expression, closed_tree, elses}
use Rattle.liszt_parser.proofs.Sorts.{closes_stops, sort_end}
use Rattle.liszt_parser.proofs.OneStatement.{one_closing, one_statement, one_body, one_block, body_no_else}
use Rattle.liszt_parser.proofs.Readers.{Lawful, Behind, Loose, Becomes, same_back, then_lawful, then_read, mapped_lawful}
use Rattle.liszt_parser.proofs.TokenReaders.{first_fails, second_fails, free, of_kind, token_lawful, chosen_lawful, token_after, maybe_lawful, IsProgramPrefix}
use Rattle.liszt_parser.proofs.StepLemmas.{Part, part_lawful, token_part}
use Rattle.liszt_parser.proofs.ExpressionReaders.{expressions_lawful, one_number, number_tree, number_read}
use Rattle.liszt_parser.proofs.ExpressionProductions.{arguments_lawful}
use Rattle.liszt_parser.proofs.ExpressionSteps.{brackets_part}
use Rattle.liszt_parser.proofs.HeadLemmas.{ends_same, no_else_same}

-- WHAT CLOSES, and an expression before it
pub closings_lawful : Lawful closings
closings_lawful =
    record {
      one = λ ts left left' e e' d stop d' stop'. (refl, one_closing d d');
      by_head = λ left other h stop. tt;
      fits_head = λ left other h ends. ends_same left other h ends;
      tokens = of_kind semicolon ∷ [];
      some = tt;
      reads_some = λ left. by_semicolon _ refl;
    }

pub closings_after : Behind (expressions lowest_rank) closings
closings_after = record { stops = λ mid left x d stop. closes_stops d; fits = λ mid other x d h. tt }

pub closed_parts_lawful : Lawful (expressions lowest_rank then closings)
closed_parts_lawful = then_lawful (expressions_lawful lowest_rank) closings_lawful closings_after

pub closed_lawful : Lawful closed_expression
closed_lawful = mapped_lawful closed_tree closed_parts_lawful

pub how_lawful : Lawful (token_with_value how_of)
how_lawful = chosen_lawful how_of (Symbol 22) Set refl

pub how_part : Part (token_with_value how_of)
how_part = record { law = how_lawful; free = free }

pub set_lawful : Lawful (token_with_value set_of)
set_lawful = chosen_lawful set_of (Word 21) Vertices refl

pub set_part : Part (token_with_value set_of)
set_part = record { law = set_lawful; free = free }

-- STATEMENTS. One of them is an assignment of a number.
pub statements_lawful : Lawful statements
statements_lawful =
    record {
      one = λ ts left left' e e' d stop d' stop'. one_statement d stop e' left' d' stop';
      by_head = no_else_same;
      fits_head = λ left other h ends. ends_same left other h ends;
      tokens = of_kind NameToken ∷ of_kind set_to ∷ (one_number ++ of_kind semicolon ∷ []);
      some = Assign (of_kind NameToken).place [] None Set number_tree;
      reads_some = λ left. assign (of_kind NameToken) (of_kind set_to) refl no_target refl (number_read lowest_rank (of_kind semicolon ∷ left)) (by_semicolon (of_kind semicolon) refl);
    }

pub bodies_lawful : Lawful bodies
bodies_lawful =
    record {
      one = λ ts left left' e e' d stop d' stop'. one_body d stop e' left' d' stop';
      by_head = ends_same;
      fits_head = λ left other h ends. ends_same left other h ends;
      tokens = [];
      some = no_statement;
      reads_some = λ left. no_statements;
    }

pub blocks_lawful : Lawful blocks
blocks_lawful =
    record {
      one = λ ts left left' e e' d stop d' stop'. one_block d e' left' d';
      by_head = λ left other h stop. tt;
      fits_head = λ left other h. tt;
      tokens = of_kind open_brace ∷ of_kind close_brace ∷ [];
      some = no_statement;
      reads_some = λ left. block (of_kind open_brace) (of_kind close_brace) refl no_statements refl;
    }

pub blocks_part : Part blocks
blocks_part = record { law = blocks_lawful; free = free }

-- a statement before others
pub statement_bodies : Behind statements bodies
statement_bodies = record { stops = λ mid left x d stop. body_no_else d stop; fits = λ mid other x d h. h }

pub statement_loose : Loose statements bodies
unfolding Loose
statement_loose mid other left x d h = λ ends. absurd (h no_statement mid no_statements ends)

pub no_statements_read : (ts : List Lexeme) → Ends ts → IsRead bodies ts no_statement ts
no_statements_read ts ends = record { front = []; parts = refl; reads_on = λ other h. no_statements; stops = ends }

pub bodies_become : (ts : List Lexeme) → (Ends ts → ⊥) → Becomes bodies (statements then bodies) (λ x. statement x.0 x.1) ts
bodies_become ts n = record { into = λ us left x d. statements_of d.1 d.2; out = out; fits = λ left other h. h }
  where
    out : (other left : List Lexeme) (e : Body) → SameHead ts other → IsBody other e left → Ends left
        → (x : Statement × Body) × ((mid : List Lexeme) × IsStatement other x.0 mid × IsBody mid x.1 left) × Ends left × (e ≡ statement x.0 x.1)
    out other left e h no_statements stop = absurd (n (ends_same other ts (same_back ts other h) stop))
    out other left e h (statements_of {mid} {s} {more} d k) stop = ((s, more), (mid, d, k), stop, refl)

-- BLOCKS
pub close_bodies : Behind bodies (token close_brace)
close_bodies = token_after close_brace (λ t left h. sort_end h)

pub close_loose : Loose bodies (token close_brace)
unfolding Loose
close_loose mid other left x d h = λ ends. subst Ends (sym d.0) (sort_end d.1)

pub inner_brace : Lawful (bodies then token close_brace)
inner_brace = then_lawful bodies_lawful (token_lawful close_brace) close_bodies

pub block_becomes : (ts : List Lexeme) → Becomes blocks (token open_brace then bodies then token close_brace) (λ x. x.1.0) ts
block_becomes ts = record { into = λ us left x d. into us left d.0 d.2.0 x.0 x.1.1 x.1.0 d.1 d.2.1 d.2.2; out = λ other left e h d stop. out other left e d; fits = λ left other h. tt }
  where
    into : (us left mid mid' : List Lexeme) (o c : Lexeme) (b : Body) → (us ≡ o ∷ mid) × (o.kind ≡ open_brace) → IsBody mid b mid'
        → (mid' ≡ c ∷ left) × (c.kind ≡ close_brace) → IsBlock us b left
    into us left mid mid' o c b h d h' = subst (λ m. IsBlock m b left) (sym h.0) (block o c h.1 (subst (IsBody mid b) h'.0 d) h'.1)

    out : (other left : List Lexeme) (e : Body) → IsBlock other e left
        → (x : Lexeme × (Body × Lexeme)) × ((mid : List Lexeme) × ((other ≡ x.0 ∷ mid) × (x.0.kind ≡ open_brace))
        × ((mid' : List Lexeme) × IsBody mid x.1.0 mid' × ((mid' ≡ x.1.1 ∷ left) × (x.1.1.kind ≡ close_brace)))) × ⊤ × (e ≡ x.1.0)
    out other left e (block {ts = us} o c h d h') = ((o, (e, c)), (us, (refl, h), (c ∷ left, d, (refl, h'))), tt, refl)

-- WHAT IS LEFT to read at each step
pub set_closed : Lawful (token set_to then closed_expression)
set_closed = part_lawful (token_part set_to) closed_lawful

pub name_set : Lawful (token NameToken then token set_to then closed_expression)
name_set = part_lawful (token_part NameToken) set_closed

pub declared_lawful : (word : TokenKind) → Lawful (token word then token NameToken then token set_to then closed_expression)
declared_lawful word = part_lawful (token_part word) name_set

pub how_closed : Lawful (token_with_value how_of then closed_expression)
how_closed = part_lawful how_part closed_lawful

pub argument_how : Behind arguments (token_with_value how_of then closed_expression)
argument_how = record { stops = λ mid left x d stop. (λ h. open_no_how mid x.0.0 d.0 x.0.1 d.1.0 d.1.1 h, tt); fits = λ mid other x d h. tt }
  where
    no_how : (kind : TokenKind) → kind ≡ Symbol 0 → how_of kind ≡ None
    no_how kind h = ap how_of h

    open_no_how : (mid : List Lexeme) (t : Lexeme) (left : List Lexeme) (how : How) → mid ≡ t ∷ left → how_of t.kind ≡ Some how
        → HeadIs (Is (Symbol 0)) mid → ⊥
    open_no_how mid t left how e h first = let is = no_how t.kind (subst (HeadIs (Is (Symbol 0))) e first) in cc

pub argument_closed : Lawful (arguments then token_with_value how_of then closed_expression)
argument_closed = then_lawful arguments_lawful how_closed argument_how

pub assignment_lawful : Lawful (token NameToken then arguments then token_with_value how_of then closed_expression)
assignment_lawful = part_lawful (token_part NameToken) argument_closed

else_first : IsProgramPrefix (Is else_word) (mapped_reader (λ x. x.1) (token else_word then blocks))
unfolding IsProgramPrefix
else_first ts left x d = subst (HeadIs (Is else_word)) (sym d.1.1.0) d.1.1.1

pub else_lawful : Lawful (token else_word then blocks)
else_lawful = part_lawful (token_part else_word) blocks_lawful

pub elses_lawful : Lawful elses
elses_lawful = maybe_lawful (Is else_word) (mapped_lawful (λ x. x.1) else_lawful) else_first

pub block_elses : Lawful (blocks then elses)
block_elses = part_lawful blocks_part elses_lawful

-- the steps after a target, and after the body of a block
pub argument_fails : (ts : List Lexeme) (at : ℕ) (refused : Refused ℕ) → Fails arguments ts at refused
    → Fails (arguments then token_with_value how_of then closed_expression) ts at refused
argument_fails ts at refused h = first_fails how_closed argument_how ts at refused h

pub argument_then : (ts : List Lexeme) (at mid : ℕ) (e : Option Expression) (refused : Refused ℕ) → IsRead arguments (drop at ts) e (drop mid ts)
    → Fails (token_with_value how_of then closed_expression) ts mid refused → Fails (arguments then token_with_value how_of then closed_expression) ts at refused
unfolding Loose
argument_then ts at mid e refused d h = second_fails arguments_lawful argument_how (λ mid other left x k n. tt) ts at mid e refused d h

pub argument_read : Lawful (token_with_value how_of then closed_expression) → (ts mid left : List Lexeme) (e : Option Expression) (x : (Lexeme × How) × Expression)
    → IsRead arguments ts e mid → IsRead (token_with_value how_of then closed_expression) mid x left → IsRead (arguments then token_with_value how_of then closed_expression) ts (e, x) left
argument_read law ts mid left e x d k = then_read arguments_lawful law argument_how ts mid left e x d k

pub body_fails : (ts : List Lexeme) (at : ℕ) (refused : Refused ℕ) → Fails bodies ts at refused → Fails (bodies then token close_brace) ts at refused
body_fails ts at refused h = first_fails (token_lawful close_brace) close_bodies ts at refused h

pub body_then : (ts : List Lexeme) (at mid : ℕ) (e : Body) (refused : Refused ℕ) → IsRead bodies (drop at ts) e (drop mid ts)
    → Fails (token close_brace) ts mid refused → Fails (bodies then token close_brace) ts at refused
body_then ts at mid e refused d h = second_fails bodies_lawful close_bodies close_loose ts at mid e refused d h

pub body_read : Lawful (token close_brace) → (ts mid left : List Lexeme) (e : Body) (x : Lexeme) → IsRead bodies ts e mid
    → IsRead (token close_brace) mid x left → IsRead (bodies then token close_brace) ts (e, x) left
body_read law ts mid left e x d k = then_read bodies_lawful law close_bodies ts mid left e x d k

-- what is left of branches and loops
pub block_law : Lawful (brackets then blocks)
block_law = part_lawful brackets_part blocks_lawful

pub test_block_elses : Lawful (brackets then blocks then elses)
test_block_elses = part_lawful brackets_part block_elses

pub branch_lawful : Lawful (token if_word then brackets then blocks then elses)
branch_lawful = part_lawful (token_part if_word) test_block_elses

pub repetition_lawful : Lawful (token while_word then brackets then blocks)
repetition_lawful = part_lawful (token_part while_word) block_law

pub close_block : Lawful (token close_bracket then blocks)
close_block = part_lawful (token_part close_bracket) blocks_lawful

pub argument_block : Lawful (brackets then token close_bracket then blocks)
argument_block = part_lawful brackets_part close_block

pub set_argument : Lawful (token_with_value set_of then brackets then token close_bracket then blocks)
set_argument = part_lawful set_part argument_block

pub arrow_set : Lawful (token arrow then token_with_value set_of then brackets then token close_bracket then blocks)
arrow_set = part_lawful (token_part arrow) set_argument

pub name_arrow : Lawful (token NameToken then token arrow then token_with_value set_of then brackets then token close_bracket then blocks)
name_arrow = part_lawful (token_part NameToken) arrow_set

pub open_name :
    Lawful (token open_bracket then token NameToken then token arrow then token_with_value set_of then brackets then token close_bracket then blocks)
open_name = part_lawful (token_part open_bracket) name_arrow

pub loop_lawful :
    Lawful (token for_word then token open_bracket then token NameToken then token arrow then token_with_value set_of then brackets
    then token close_bracket then blocks)
loop_lawful = part_lawful (token_part for_word) open_name
