-- The laws of the readers of items and of their lists, and of what is left to read at each step.
use Rattle.std.proofs.Common.{◌≡◌, ℕ, List, [], ◌∷◌, ◌++◌, drop, refl, sym, subst}
use Rattle.std.specs.Prelude.{⊤}
use Rattle.liszt_base.specs.declared.answers.Refused.{Refused}
use Rattle.liszt_base.specs.declared.elements.Kind.TheVariants.{Vertex}
use Rattle.liszt_lexer.specs.declared.token.TokenKind.TheVariants.{Name as NameToken, Word}
use Rattle.liszt_tree.specs.declared.tree.How.TheVariants.{Set}
use Rattle.liszt_tree.specs.Tree.{MainItem, MainAssign, Main, no_item, item}
use Rattle.liszt_parser.specs.Grammar.{Lexeme, lowest_rank, how_of, kind_of, mesh_set_of, open_bracket, close_bracket, open_brace, close_brace, semicolon, colon, arrow, set_to, field_word, if_word, else_word, while_word, for_word, print_word, mesh_word, by_semicolon, IsItem, main_assign, IsMain, no_items, items, IsMainBlock, main_block}
use Rattle.liszt_parser.specs.Internal.Reading.{SameHead, IsRead, Fails, HeadIs, Is, token, token_with_value, ◌then◌, mapped_reader}
use Rattle.liszt_parser.specs.Internal.Sorts.{Ends}
use Rattle.liszt_parser.specs.Internal.Productions.{brackets, blocks, closed_expression, main_items, mains, main_blocks, main_elses}
use Rattle.liszt_parser.proofs.Sorts.{sort_end}
use Rattle.liszt_parser.proofs.OneTree.{one_item, one_main, one_main_block, main_no_else}
use Rattle.liszt_parser.proofs.Readers.{Lawful, Behind, Loose, Becomes, same_back, then_lawful, then_read, mapped_lawful}
use Rattle.liszt_parser.proofs.TokenReaders.{first_fails, second_fails, free, of_kind, token_lawful, chosen_lawful, token_after, maybe_lawful, IsProgramPrefix}
use Rattle.liszt_parser.proofs.StepLemmas.{Part, part_lawful, token_part}
use Rattle.liszt_parser.proofs.ExpressionReaders.{one_number, number_tree, number_read}
use Rattle.liszt_parser.proofs.ExpressionSteps.{brackets_part}
use Rattle.liszt_parser.proofs.HeadLemmas.{ends_same, no_else_same}
use Rattle.liszt_parser.proofs.StatementReaders.{closed_lawful, how_closed, set_closed, blocks_lawful}

pub kind_lawful : Lawful (token_with_value kind_of)
kind_lawful = chosen_lawful kind_of (Word 11) Vertex refl

pub kind_part : Part (token_with_value kind_of)
kind_part = record { law = kind_lawful; free = free }

pub whole_lawful : Lawful (token_with_value mesh_set_of)
whole_lawful = chosen_lawful mesh_set_of (Word 21) Vertex refl

pub whole_part : Part (token_with_value mesh_set_of)
whole_part = record { law = whole_lawful; free = free }

-- ITEMS. One of them is an assignment of a number.
pub items_lawful : Lawful main_items
items_lawful =
    record {
      one = λ ts left left' e e' d stop d' stop'. one_item d stop e' left' d' stop';
      by_head = no_else_same;
      fits_head = λ left other h ends. ends_same left other h ends;
      tokens = of_kind NameToken ∷ of_kind set_to ∷ (one_number ++ of_kind semicolon ∷ []);
      some = MainAssign (of_kind NameToken).place [] Set number_tree;
      reads_some = λ left.
          main_assign (of_kind NameToken) (of_kind set_to) refl refl (number_read lowest_rank (of_kind semicolon ∷ left)) (by_semicolon (of_kind semicolon) refl);
    }

pub mains_lawful : Lawful mains
mains_lawful =
    record {
      one = λ ts left left' e e' d stop d' stop'. one_main d stop e' left' d' stop';
      by_head = ends_same;
      fits_head = λ left other h ends. ends_same left other h ends;
      tokens = [];
      some = no_item;
      reads_some = λ left. no_items;
    }

pub main_blocks_lawful : Lawful main_blocks
main_blocks_lawful =
    record {
      one = λ ts left left' e e' d stop d' stop'. one_main_block d e' left' d';
      by_head = λ left other h stop. tt;
      fits_head = λ left other h. tt;
      tokens = of_kind open_brace ∷ of_kind close_brace ∷ [];
      some = no_item;
      reads_some = λ left. main_block (of_kind open_brace) (of_kind close_brace) refl no_items refl;
    }

pub main_blocks_part : Part main_blocks
main_blocks_part = record { law = main_blocks_lawful; free = free }

-- an item before others
pub item_mains : Behind main_items mains
item_mains = record { stops = λ mid left x d stop. main_no_else d stop; fits = λ mid other x d h. h }

pub item_loose : Loose main_items mains
unfolding Loose
item_loose mid other left x d h = λ ends. absurd (h no_item mid no_items ends)

pub no_items_read : (ts : List Lexeme) → Ends ts → IsRead mains ts no_item ts
no_items_read ts ends = record { front = []; parts = refl; reads_on = λ other h. no_items; stops = ends }

pub mains_become : (ts : List Lexeme) → (Ends ts → ⊥) → Becomes mains (main_items then mains) (λ x. item x.0 x.1) ts
mains_become ts n = record { into = λ us left x d. items d.1 d.2; out = out; fits = λ left other h. h }
  where
    out : (other left : List Lexeme) (e : Main) → SameHead ts other → IsMain other e left → Ends left
        → (x : MainItem × Main) × ((mid : List Lexeme) × IsItem other x.0 mid × IsMain mid x.1 left) × Ends left × (e ≡ item x.0 x.1)
    out other left e h no_items stop = absurd (n (ends_same other ts (same_back ts other h) stop))
    out other left e h (items {mid} {i} {more} d k) stop = ((i, more), (mid, d, k), stop, refl)

-- BLOCKS
pub close_mains : Behind mains (token close_brace)
close_mains = token_after close_brace (λ t left h. sort_end h)

pub close_loose : Loose mains (token close_brace)
unfolding Loose
close_loose mid other left x d h = λ ends. subst Ends (sym d.0) (sort_end d.1)

pub inner_main : Lawful (mains then token close_brace)
inner_main = then_lawful mains_lawful (token_lawful close_brace) close_mains

pub main_block_becomes : (ts : List Lexeme) → Becomes main_blocks (token open_brace then mains then token close_brace) (λ x. x.1.0) ts
main_block_becomes ts =
    record {
      into = λ us left x d. into us left d.0 d.2.0 x.0 x.1.1 x.1.0 d.1 d.2.1 d.2.2;
      out = λ other left e h d stop. out other left e d;
      fits = λ left other h. tt;
    }
  where
    into : (us left mid mid' : List Lexeme) (o c : Lexeme) (b : Main) → (us ≡ o ∷ mid) × (o.kind ≡ open_brace) → IsMain mid b mid'
        → (mid' ≡ c ∷ left) × (c.kind ≡ close_brace) → IsMainBlock us b left
    into us left mid mid' o c b h d h' = subst (λ m. IsMainBlock m b left) (sym h.0) (main_block o c h.1 (subst (IsMain mid b) h'.0 d) h'.1)

    out : (other left : List Lexeme) (e : Main) → IsMainBlock other e left
        → (x : Lexeme × (Main × Lexeme)) × ((mid : List Lexeme) × ((other ≡ x.0 ∷ mid) × (x.0.kind ≡ open_brace))
        × ((mid' : List Lexeme) × IsMain mid x.1.0 mid' × ((mid' ≡ x.1.1 ∷ left) × (x.1.1.kind ≡ close_brace)))) × ⊤ × (e ≡ x.1.0)
    out other left e (main_block {ts = us} o c h d h') = ((o, (e, c)), (us, (refl, h), (c ∷ left, d, (refl, h'))), tt, refl)

-- the steps after the items of a block
pub main_fails : (ts : List Lexeme) (at : ℕ) (refused : Refused ℕ) → Fails mains ts at refused → Fails (mains then token close_brace) ts at refused
main_fails ts at refused h = first_fails (token_lawful close_brace) close_mains ts at refused h

pub main_then : (ts : List Lexeme) (at mid : ℕ) (e : Main) (refused : Refused ℕ) → IsRead mains (drop at ts) e (drop mid ts)
    → Fails (token close_brace) ts mid refused → Fails (mains then token close_brace) ts at refused
main_then ts at mid e refused d h = second_fails mains_lawful close_mains close_loose ts at mid e refused d h

pub main_read : Lawful (token close_brace) → (ts mid left : List Lexeme) (e : Main) (x : Lexeme) → IsRead mains ts e mid
    → IsRead (token close_brace) mid x left → IsRead (mains then token close_brace) ts (e, x) left
main_read law ts mid left e x d k = then_read mains_lawful law close_mains ts mid left e x d k

-- WHAT IS LEFT to read at each step
pub kind_set : Lawful (token_with_value kind_of then token set_to then closed_expression)
kind_set = part_lawful kind_part set_closed

pub colon_kind : Lawful (token colon then token_with_value kind_of then token set_to then closed_expression)
colon_kind = part_lawful (token_part colon) kind_set

pub name_colon : Lawful (token NameToken then token colon then token_with_value kind_of then token set_to then closed_expression)
name_colon = part_lawful (token_part NameToken) colon_kind

pub field_lawful : Lawful (token field_word then token NameToken then token colon then token_with_value kind_of then token set_to then closed_expression)
field_lawful = part_lawful (token_part field_word) name_colon

pub main_assignment_lawful : Lawful (token NameToken then token_with_value how_of then closed_expression)
main_assignment_lawful = part_lawful (token_part NameToken) how_closed

pub print_lawful : Lawful (token print_word then closed_expression)
print_lawful = part_lawful (token_part print_word) closed_lawful

pub main_else_lawful : Lawful (token else_word then main_blocks)
main_else_lawful = part_lawful (token_part else_word) main_blocks_lawful

else_first : IsProgramPrefix (Is else_word) (mapped_reader (λ x. x.1) (token else_word then main_blocks))
unfolding IsProgramPrefix
else_first ts left x d = subst (HeadIs (Is else_word)) (sym d.1.1.0) d.1.1.1

pub main_elses_lawful : Lawful main_elses
main_elses_lawful = maybe_lawful (Is else_word) (mapped_lawful (λ x. x.1) main_else_lawful) else_first

pub main_block_elses : Lawful (main_blocks then main_elses)
main_block_elses = part_lawful main_blocks_part main_elses_lawful

pub main_test_block : Lawful (brackets then main_blocks then main_elses)
main_test_block = part_lawful brackets_part main_block_elses

pub main_branch_lawful : Lawful (token if_word then brackets then main_blocks then main_elses)
main_branch_lawful = part_lawful (token_part if_word) main_test_block

pub main_block_law : Lawful (brackets then main_blocks)
main_block_law = part_lawful brackets_part main_blocks_lawful

pub main_repetition_lawful : Lawful (token while_word then brackets then main_blocks)
main_repetition_lawful = part_lawful (token_part while_word) main_block_law

pub close_body : Lawful (token close_bracket then blocks)
close_body = part_lawful (token_part close_bracket) blocks_lawful

pub close_close : Lawful (token close_bracket then token close_bracket then blocks)
close_close = part_lawful (token_part close_bracket) close_body

pub mesh_close : Lawful (token mesh_word then token close_bracket then token close_bracket then blocks)
mesh_close = part_lawful (token_part mesh_word) close_close

pub open_mesh : Lawful (token open_bracket then token mesh_word then token close_bracket then token close_bracket then blocks)
open_mesh = part_lawful (token_part open_bracket) mesh_close

pub whole_open :
    Lawful (token_with_value mesh_set_of then token open_bracket then token mesh_word then token close_bracket then token close_bracket then blocks)
whole_open = part_lawful whole_part open_mesh

pub arrow_whole :
    Lawful (token arrow then token_with_value mesh_set_of then token open_bracket then token mesh_word then token close_bracket
    then token close_bracket then blocks)
arrow_whole = part_lawful (token_part arrow) whole_open

pub name_arrow :
    Lawful (token NameToken then token arrow then token_with_value mesh_set_of then token open_bracket then token mesh_word
    then token close_bracket then token close_bracket then blocks)
name_arrow = part_lawful (token_part NameToken) arrow_whole

pub open_name :
    Lawful (token open_bracket then token NameToken then token arrow then token_with_value mesh_set_of then token open_bracket
    then token mesh_word then token close_bracket then token close_bracket then blocks)
open_name = part_lawful (token_part open_bracket) name_arrow

pub comprehension_lawful :
    Lawful (token for_word then token open_bracket then token NameToken then token arrow then token_with_value mesh_set_of then token open_bracket
    then token mesh_word then token close_bracket then token close_bracket then blocks)
comprehension_lawful = part_lawful (token_part for_word) open_name
