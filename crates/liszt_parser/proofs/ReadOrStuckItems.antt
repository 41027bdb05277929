-- Each list of tokens is read as an item, and as items, or stuck somewhere: by the number of tokens.
use Rattle.std.proofs.Common.{zero, suc, ℕ, ◌<◌, ◌≤◌, ◌⊎◌, inl, inr, List, length, ap, arith}
use Rattle.liszt_lexer.specs.declared.token.TokenKind.TheVariants.{Name as NameToken}
use Rattle.liszt_tree.specs.Tree.{MainItem, MainField, MainVar, MainAssign, MainIf, MainWhile, MainFor, Print, no_item, item_nodes}
use Rattle.liszt_parser.specs.Grammar.{Lexeme, how_of, kind_of, mesh_set_of, open_bracket, close_bracket, open_brace, close_brace, colon, arrow, set_to, field_word, var_word, if_word, else_word, while_word, for_word, print_word, mesh_word}
use Rattle.liszt_parser.specs.Internal.Productions.{declaration_parts, main_items, mains, main_blocks, main_elses}
use Rattle.liszt_parser.specs.Internal.Reading.{Reader, IsRead, HeadIs, HeadIsNot, Is, token, ◌then◌}
use Rattle.liszt_parser.specs.Internal.Sorts.{Ends, NoElse}
use Rattle.liszt_parser.proofs.NodeCountLemmas.{an_item}
use Rattle.liszt_parser.proofs.ItemReaders.{kind_lawful, whole_lawful, items_lawful, mains_lawful, main_blocks_lawful, item_mains, item_loose, no_items_read, mains_become, close_mains, close_loose, inner_main, main_block_becomes, kind_set, colon_kind, name_colon, field_lawful, main_assignment_lawful, print_lawful, main_else_lawful, main_elses_lawful, main_block_elses, main_test_block, main_branch_lawful, main_block_law, main_repetition_lawful, close_body, close_close, mesh_close, open_mesh, whole_open, arrow_whole, name_arrow, open_name, comprehension_lawful}
use Rattle.liszt_parser.proofs.ItemProductions.{field_becomes, main_var_becomes, main_assign_becomes, main_if_becomes, main_while_becomes, main_for_becomes, print_becomes}
use Rattle.liszt_parser.proofs.ReadOrStuck.{ReadOrStuck, known_from, known_then, known_mapped, known_token, known_after, known_choice, known_becomes, known_maybe, decide_is}
use Rattle.liszt_parser.proofs.ReadOrStuckStatements.{known_closed, known_declared, known_block_of, known_headed, decide_ends, decide_else, else_fits}
use Rattle.liszt_parser.proofs.Readers.{Lawful, Becomes, free_after, free_loose, then_lawful, mapped_lawful}
use Rattle.liszt_parser.proofs.StatementReaders.{set_closed, how_closed, how_lawful, closed_lawful, declared_lawful, blocks_lawful}
use Rattle.liszt_parser.proofs.StepLemmas.{part_lawful, token_part}
use Rattle.liszt_parser.proofs.TokenReaders.{free, token_lawful}

-- an item takes a token
some_node : (i : MainItem) → 1 ≤ item_nodes i
some_node (MainField p n a k e) = omega arith
some_node (MainVar p n a e) = omega arith
some_node (MainAssign p n h e) = omega arith
some_node (MainIf p e f s b) = omega arith
some_node (MainWhile p e b) = omega arith
some_node (MainFor p n a k b) = omega arith
some_node (Print p e) = omega arith

item_shorter : {ts left : List Lexeme} {i : MainItem} → IsRead main_items ts i left → length left < length ts
item_shorter {left = left} {i} d =
    let nodes = an_item (d.reads_on left (λ e. e)) in
    let parts = ap length d.parts in
    omega (arith, nodes, parts, some_node i)

-- what is known of all lists of fewer tokens
record KnowsMains (n : ℕ) : Type 0 where
  all : (ts : List Lexeme) → length ts < n → ReadOrStuck mains ts

-- a production of items
settled : {B : Type 0} {s : Reader B} {f : B → MainItem} (ts : List Lexeme) → Becomes main_items s f ts → Lawful s
    → ((left other : List Lexeme) → (NoElse left → ⊥) → s.fits left other) → ReadOrStuck s ts → ReadOrStuck main_items ts
settled ts b law fits k = known_becomes ts b items_lawful law fits (λ left h. decide_else left) k

brace_to_brace : Lawful (token open_brace then mains then token close_brace)
brace_to_brace = part_lawful (token_part open_brace) inner_main

known_main_block : (n : ℕ) → KnowsMains n → (ts : List Lexeme) → length ts < suc n → ReadOrStuck main_blocks ts
known_main_block n k ts lt =
    known_becomes ts (main_block_becomes ts) main_blocks_lawful brace_to_brace (λ left other h. tt) (λ left h. inl tt)
    (known_after open_brace inner_main ts (λ left less.
    known_then mains_lawful (token_lawful close_brace) close_mains close_loose left (k.all left (omega arith)) (λ end le h. known_token close_brace end)))

known_main_elses : (n : ℕ) → KnowsMains n → (ts : List Lexeme) → length ts < suc n → ReadOrStuck main_elses ts
known_main_elses n k ts lt =
    known_maybe (Is else_word) (mapped_lawful (λ x. x.1) main_else_lawful) (λ left other. tt) (decide_is else_word) ts tt
    (λ h. known_mapped (token else_word then main_blocks) (λ x. x.1) ts (known_after else_word main_blocks_lawful ts (λ left less. known_main_block n k left (omega arith))))

known_if : (n : ℕ) → KnowsMains n → (ts : List Lexeme) → length ts < suc n → HeadIs (Is if_word) ts → ReadOrStuck main_items ts
known_if n k ts lt h =
    settled ts (main_if_becomes ts h) main_branch_lawful (λ left other none. tt)
    (known_after if_word main_test_block ts (λ left less.
    known_headed main_block_elses n left (omega arith) (λ mid fewer.
    known_then main_blocks_lawful main_elses_lawful (free_after free) (free_loose main_blocks main_elses free) mid (known_main_block n k mid (omega arith))
    (λ next le stop. known_main_elses n k next (omega arith)))))

known_while : (n : ℕ) → KnowsMains n → (ts : List Lexeme) → length ts < suc n → HeadIs (Is while_word) ts → ReadOrStuck main_items ts
known_while n k ts lt h =
    settled ts (main_while_becomes ts h) main_repetition_lawful (λ left other none. tt)
    (known_after while_word main_block_law ts (λ left less.
    known_headed main_blocks_lawful n left (omega arith) (λ mid fewer. known_main_block n k mid (omega arith))))

known_for : (ts : List Lexeme) → HeadIs (Is for_word) ts → ReadOrStuck main_items ts
known_for ts h =
    settled ts (main_for_becomes ts h) comprehension_lawful (λ left other none. tt)
    (known_after for_word open_name ts (λ a la. known_after open_bracket name_arrow a (λ b lb.
    known_after NameToken arrow_whole b (λ c lc. known_after arrow whole_open c (λ d ld.
    known_choice mesh_set_of whole_lawful open_mesh d (λ e le. known_after open_bracket mesh_close e (λ f lf.
    known_after mesh_word close_close f (λ g lg. known_after close_bracket close_body g (λ h lh.
    known_after close_bracket blocks_lawful h (λ i li. known_block_of i))))))))))

known_field : (ts : List Lexeme) → HeadIs (Is field_word) ts → ReadOrStuck main_items ts
known_field ts h =
    settled ts (field_becomes ts h) field_lawful (λ left other none. else_fits left other none)
    (known_after field_word name_colon ts (λ a la. known_after NameToken colon_kind a (λ b lb. known_after colon kind_set b (λ c lc.
    known_choice kind_of kind_lawful set_closed c (λ d ld. known_after set_to closed_lawful d (λ e le. known_closed e))))))

known_item : (n : ℕ) → KnowsMains n → (ts : List Lexeme) → length ts < suc n → ReadOrStuck main_items ts
known_item n k ts lt = by_field (decide_is field_word ts) where
  by_print : HeadIsNot (Is field_word) ts → HeadIsNot (Is var_word) ts → HeadIsNot (Is if_word) ts → HeadIsNot (Is while_word) ts → HeadIsNot (Is for_word) ts
      → HeadIs (Is print_word) ts ⊎ HeadIsNot (Is print_word) ts → ReadOrStuck main_items ts
  by_print a b c d e (inl h) =
      settled ts (print_becomes ts h) print_lawful (λ left other none. else_fits left other none)
      (known_after print_word closed_lawful ts (λ left less. known_closed left))
  by_print a b c d e (inr f) =
      settled ts (main_assign_becomes ts a b c d e f) main_assignment_lawful (λ left other none. else_fits left other none)
      (known_after NameToken how_closed ts (λ left less. known_choice how_of how_lawful closed_lawful left (λ next fewer. known_closed next)))

  by_for : HeadIsNot (Is field_word) ts → HeadIsNot (Is var_word) ts → HeadIsNot (Is if_word) ts → HeadIsNot (Is while_word) ts
      → HeadIs (Is for_word) ts ⊎ HeadIsNot (Is for_word) ts → ReadOrStuck main_items ts
  by_for a b c d (inl h) = known_for ts h
  by_for a b c d (inr e) = by_print a b c d e (decide_is print_word ts)

  by_while : HeadIsNot (Is field_word) ts → HeadIsNot (Is var_word) ts → HeadIsNot (Is if_word) ts → HeadIs (Is while_word) ts ⊎ HeadIsNot (Is while_word) ts
      → ReadOrStuck main_items ts
  by_while a b c (inl h) = known_while n k ts lt h
  by_while a b c (inr d) = by_for a b c d (decide_is for_word ts)

  by_if : HeadIsNot (Is field_word) ts → HeadIsNot (Is var_word) ts → HeadIs (Is if_word) ts ⊎ HeadIsNot (Is if_word) ts → ReadOrStuck main_items ts
  by_if a b (inl h) = known_if n k ts lt h
  by_if a b (inr c) = by_while a b c (decide_is while_word ts)

  by_var : HeadIsNot (Is field_word) ts → HeadIs (Is var_word) ts ⊎ HeadIsNot (Is var_word) ts → ReadOrStuck main_items ts
  by_var a (inl h) =
      settled ts (main_var_becomes ts h) (mapped_lawful declaration_parts (declared_lawful var_word)) (λ left other none. else_fits left other none)
      (known_declared var_word ts)
  by_var a (inr b) = by_if a b (decide_is if_word ts)

  by_field : HeadIs (Is field_word) ts ⊎ HeadIsNot (Is field_word) ts → ReadOrStuck main_items ts
  by_field (inl h) = known_field ts h
  by_field (inr a) = by_var a (decide_is var_word ts)

item_and_more : Lawful (main_items then mains)
item_and_more = then_lawful items_lawful mains_lawful item_mains

known_main : (n : ℕ) → KnowsMains n → (ts : List Lexeme) → length ts < suc n → ReadOrStuck mains ts
unfolding ReadOrStuck
known_main n k ts lt = go (decide_ends ts) where
  go : Ends ts ⊎ (Ends ts → ⊥) → ReadOrStuck mains ts
  go (inl e) = inl (no_item, ts, no_items_read ts e)
  go (inr more) =
      known_becomes ts (mains_become ts more) mains_lawful item_and_more (λ left other not ends. absurd (not ends)) (λ left h. inl h)
      (known_from items_lawful mains_lawful item_mains item_loose ts (known_item n k ts lt)
      (λ x left d. k.all left (let less = item_shorter d in omega (arith, less))))

knows_mains : (n : ℕ) → KnowsMains n
knows_mains zero = record { all = λ ts lt. absurd (omega (arith, lt)) }
knows_mains (suc n) = record { all = known_main n (knows_mains n) }

pub known_mains : (ts : List Lexeme) → ReadOrStuck mains ts
known_mains ts = (knows_mains (suc (length ts))).all ts (omega arith)
