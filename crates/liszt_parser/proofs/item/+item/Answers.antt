use Rattle.std.proofs.Common.{refl, subst, arith, rules, Some, None, drop, map}
use Rattle.std.specs.Option.{option_map}
use Rattle.liszt_tree.specs.Tree.{expression, item_tree, main_of, no_item}
use Rattle.liszt_tree.specs.declared.tree.Item.{the_lemmas}
use Rattle.liszt_parser.specs.Internal.Sources.{source_lexemes, source_lexeme}
use Rattle.liszt_parser.specs.Internal.Reading.{IsRead, Is, token, ◌then◌, mapped_reader}
use Rattle.liszt_parser.specs.Grammar.{open_brace, close_brace, var_word, if_word, else_word, while_word}
use Rattle.liszt_parser.specs.Internal.Productions.{declaration_parts, mains, main_blocks, main_elses, fields_tree, main_variables_tree, main_assignments_tree, main_branches, main_branches_tree, main_repetitions, main_repetitions_tree, comprehensions_tree, prints_tree}
use Rattle.liszt_parser.proofs.Readers.{mapped_read, mapped_lawful}
use Rattle.liszt_parser.proofs.TokenReaders.{becomes_fails, token_lawful, fails_by, first_fails, maybe_stuck, maybe_twice, something_read}
use Rattle.liszt_parser.proofs.HeadLemmas.{no_else, not_else}
use Rattle.liszt_parser.proofs.ExpressionProductions.{through}
use Rattle.liszt_parser.proofs.ExpressionSteps.{brackets_part}
use Rattle.liszt_parser.proofs.OneStatement.{ends_no_else}
use Rattle.liszt_parser.proofs.StatementReaders.{declared_lawful}
use Rattle.liszt_parser.proofs.StepLemmas.{leaves, map_fails, part_fails, part_then, part_read, token_part, gives, settles}
use Rattle.liszt_parser.proofs.LoopLemmas.{one_more, fails_so_far, main_pushed, main_all}
use Rattle.liszt_tree.specs.Tree.{Main}
use Rattle.liszt_parser.specs.Grammar.{Lexeme}
use Rattle.liszt_parser.proofs.ItemReaders.{items_lawful, mains_lawful, main_blocks_lawful, main_blocks_part, item_mains, item_loose, no_items_read, mains_become, main_block_becomes, inner_main, main_fails, main_then, main_read, field_lawful, main_assignment_lawful, print_lawful, main_else_lawful, main_elses_lawful, main_block_elses, main_test_block, main_branch_lawful, main_block_law, main_repetition_lawful, comprehension_lawful}
use Rattle.liszt_parser.proofs.ItemProductions.{field_becomes, main_var_becomes, main_assign_becomes, main_if_becomes, main_while_becomes, main_for_becomes, print_becomes}
use Rattle.liszt_parser.proofs.item.+item.Goals as goal

pub conditional-returns-in_err-word : goal.conditional-returns-in_err-word
conditional-returns-in_err-word t c =
    let ts = source_lexemes c.args.source.now in let refused = c.in_err-word.field-0.0 in
    leaves 1 main_branches item_tree ts c.args.at c.from_residual.result refused c.from_residual.ensures.1
    (map_fails main_branches_tree main_branch_lawful ts c.args.at refused
    (part_fails (token_part if_word) main_test_block ts c.args.at refused c.in_err-word.ensures.outcome))

pub conditional-returns-in_err-test : goal.conditional-returns-in_err-test
conditional-returns-in_err-test t c =
    let s = c.args.source.now in let ts = source_lexemes s in let refused = c.in_err-test.field-0.0 in
    leaves 1 main_branches item_tree ts c.args.at c.from_residual-in_err-test.result refused c.from_residual-in_err-test.ensures.1
    (map_fails main_branches_tree main_branch_lawful ts c.args.at refused
    (part_then (token_part if_word) main_test_block ts c.args.at c.in_ok-word.at (source_lexeme s c.in_ok-word.word) refused c.in_ok-word.ensures.outcome.2
    (part_fails brackets_part main_block_elses ts c.in_ok-word.at refused c.in_err-test.ensures)))

pub conditional-returns-in_err-yes : goal.conditional-returns-in_err-yes
conditional-returns-in_err-yes t c =
    let s = c.args.source.now in let ts = source_lexemes s in let refused = c.in_err-yes.field-0.0 in
    leaves 1 main_branches item_tree ts c.args.at c.from_residual-in_err-yes.result refused c.from_residual-in_err-yes.ensures.1
    (map_fails main_branches_tree main_branch_lawful ts c.args.at refused
    (part_then (token_part if_word) main_test_block ts c.args.at c.in_ok-word.at (source_lexeme s c.in_ok-word.word) refused c.in_ok-word.ensures.outcome.2
    (part_then brackets_part main_block_elses ts c.in_ok-word.at c.in_ok-test.at (expression c.in_ok-test.test) refused c.in_ok-test.ensures.2
    (part_fails main_blocks_part main_elses_lawful ts c.in_ok-test.at refused c.in_err-yes.ensures))))

pub conditional-returns-in_err-no : goal.conditional-returns-in_err-no
conditional-returns-in_err-no t c =
    let s = c.args.source.now in let ts = source_lexemes s in let refused = c.in_err-no.field-0.0 in
    leaves 1 main_branches item_tree ts c.args.at c.from_residual-in_err-no.result refused c.from_residual-in_err-no.ensures.1
    (map_fails main_branches_tree main_branch_lawful ts c.args.at refused
    (part_then (token_part if_word) main_test_block ts c.args.at c.in_ok-word.at (source_lexeme s c.in_ok-word.word) refused c.in_ok-word.ensures.outcome.2
    (part_then brackets_part main_block_elses ts c.in_ok-word.at c.in_ok-test.at (expression c.in_ok-test.test) refused c.in_ok-test.ensures.2
    (part_then main_blocks_part main_elses_lawful ts c.in_ok-test.at c.in_ok-yes.at (main_of (map item_tree c.in_ok-yes.yes)) refused c.in_ok-yes.ensures.2
    c.in_err-no.ensures))))

pub conditional-returns-in-None : goal.conditional-returns-in-None
conditional-returns-in-None t c =
    let s = c.args.source.now in let ts = source_lexemes s in
    let read : IsRead main_elses (drop c.in_ok-yes.at ts) None (drop c.in_ok-no.at ts) = subst (λ o. IsRead main_elses (drop c.in_ok-yes.at ts) (option_map (λ b. main_of (map item_tree b)) o) (drop c.in_ok-no.at ts)) c.in-None.is c.in_ok-no.ensures.2 in (
      omega (arith, c.in_ok-word.ensures.outcome.0, c.in_ok-test.ensures.0, c.in_ok-yes.ensures.0, c.in_ok-no.ensures.0),
      c.in_ok-no.ensures.1,
      mapped_read main_branches_tree (drop c.args.at ts) (drop c.in_ok-no.at ts) (source_lexeme s c.in_ok-word.word, (expression c.in_ok-test.test, ((main_of (map item_tree c.in_ok-yes.yes)), None))) _ (search (rules, the_lemmas))
          (part_read (token_part if_word) main_test_block (drop c.args.at ts) (drop c.in_ok-word.at ts) (drop c.in_ok-no.at ts) (source_lexeme s c.in_ok-word.word) (expression c.in_ok-test.test, ((main_of (map item_tree c.in_ok-yes.yes)), None)) c.in_ok-word.ensures.outcome.2
          (part_read brackets_part main_block_elses (drop c.in_ok-word.at ts) (drop c.in_ok-test.at ts) (drop c.in_ok-no.at ts) (expression c.in_ok-test.test) ((main_of (map item_tree c.in_ok-yes.yes)), None) c.in_ok-test.ensures.2
          (part_read main_blocks_part main_elses_lawful (drop c.in_ok-test.at ts) (drop c.in_ok-yes.at ts) (drop c.in_ok-no.at ts) (main_of (map item_tree c.in_ok-yes.yes)) None c.in_ok-yes.ensures.2 read))),
    )

pub conditional-returns-in-Some : goal.conditional-returns-in-Some
conditional-returns-in-Some t c =
    let s = c.args.source.now in let ts = source_lexemes s in
    let read : IsRead main_elses (drop c.in_ok-yes.at ts) (Some (main_of (map item_tree c.in-Some.no))) (drop c.in_ok-no.at ts) = subst (λ o. IsRead main_elses (drop c.in_ok-yes.at ts) (option_map (λ b. main_of (map item_tree b)) o) (drop c.in_ok-no.at ts)) c.in-Some.is c.in_ok-no.ensures.2 in (
      omega (arith, c.in_ok-word.ensures.outcome.0, c.in_ok-test.ensures.0, c.in_ok-yes.ensures.0, c.in_ok-no.ensures.0),
      c.in_ok-no.ensures.1,
      mapped_read main_branches_tree (drop c.args.at ts) (drop c.in_ok-no.at ts) (source_lexeme s c.in_ok-word.word, (expression c.in_ok-test.test, ((main_of (map item_tree c.in_ok-yes.yes)), (Some (main_of (map item_tree c.in-Some.no)))))) _ (search (rules, the_lemmas))
          (part_read (token_part if_word) main_test_block (drop c.args.at ts) (drop c.in_ok-word.at ts) (drop c.in_ok-no.at ts) (source_lexeme s c.in_ok-word.word) (expression c.in_ok-test.test, ((main_of (map item_tree c.in_ok-yes.yes)), (Some (main_of (map item_tree c.in-Some.no))))) c.in_ok-word.ensures.outcome.2
          (part_read brackets_part main_block_elses (drop c.in_ok-word.at ts) (drop c.in_ok-test.at ts) (drop c.in_ok-no.at ts) (expression c.in_ok-test.test) ((main_of (map item_tree c.in_ok-yes.yes)), (Some (main_of (map item_tree c.in-Some.no)))) c.in_ok-test.ensures.2
          (part_read main_blocks_part main_elses_lawful (drop c.in_ok-test.at ts) (drop c.in_ok-yes.at ts) (drop c.in_ok-no.at ts) (main_of (map item_tree c.in_ok-yes.yes)) (Some (main_of (map item_tree c.in-Some.no))) c.in_ok-yes.ensures.2 read))),
    )

pub else_block-returns-in_err-at : goal.else_block-returns-in_err-at
else_block-returns-in_err-at t c =
    let ts = source_lexemes c.args.source.now in let refused = c.in_err-at.field-0.0 in
    leaves 0 main_elses (option_map (λ b. main_of (map item_tree b))) ts c.args.at c.from_residual.result refused c.from_residual.ensures.1
    (fails_by main_elses (mapped_reader (λ x. x.1) (token else_word then main_blocks)) ts c.args.at c.args.at
    (λ place d. maybe_stuck (Is else_word) (drop c.args.at ts) (drop place ts) c.if-not-is.ensures d) refused
    (map_fails (λ (x : Lexeme × Main). x.1) main_else_lawful ts c.args.at refused
    (part_fails (token_part else_word) main_blocks_lawful ts c.args.at refused c.in_err-at.ensures.outcome)))

pub else_block-returns-in_err-body : goal.else_block-returns-in_err-body
else_block-returns-in_err-body t c =
    let s = c.args.source.now in let ts = source_lexemes s in let refused = c.in_err-body.field-0.0 in
    leaves 0 main_elses (option_map (λ b. main_of (map item_tree b))) ts c.args.at c.from_residual-in_err-body.result refused c.from_residual-in_err-body.ensures.1
    (fails_by main_elses (mapped_reader (λ x. x.1) (token else_word then main_blocks)) ts c.args.at c.args.at
    (λ place d. maybe_stuck (Is else_word) (drop c.args.at ts) (drop place ts) c.if-not-is.ensures d) refused
    (map_fails (λ (x : Lexeme × Main). x.1) main_else_lawful ts c.args.at refused
    (part_then (token_part else_word) main_blocks_lawful ts c.args.at c.in_ok-at.at (source_lexeme s c.in_ok-at.field-0-0) refused c.in_ok-at.ensures.outcome.2 c.in_err-body.ensures)))

pub else_block-returns-then-is : goal.else_block-returns-then-is
else_block-returns-then-is t c =
    let s = c.args.source.now in
    let ts = source_lexemes s in (
      c.in_ok-body.ensures.1,
      maybe_twice (Is else_word) (drop c.args.at ts) (drop c.in_ok-body.end ts) (main_of (map item_tree c.in_ok-body.body)) (mapped_lawful (λ (x : Lexeme × Main). x.1) main_else_lawful) c.if-not-is.ensures
          (λ other. tt) (mapped_read (λ (x : Lexeme × Main). x.1) (drop c.args.at ts) (drop c.in_ok-body.end ts) (source_lexeme s c.in_ok-at.field-0-0, main_of (map item_tree c.in_ok-body.body)) _ refl
          (part_read (token_part else_word) main_blocks_lawful (drop c.args.at ts) (drop c.in_ok-at.at ts) (drop c.in_ok-body.end ts) (source_lexeme s c.in_ok-at.field-0-0) (main_of (map item_tree c.in_ok-body.body)) c.in_ok-at.ensures.outcome.2 c.in_ok-body.ensures.2)) c.if-is.ensures,
    )

pub else_block-returns : goal.else_block-returns
else_block-returns t c =
    let s = c.args.source.now in
    let ts = source_lexemes s in (
      omega (arith, c.in_ok-at.ensures.outcome.0, c.in_ok-body.ensures.0),
      c.in_ok-body.ensures.1,
      something_read (Is else_word) (drop c.args.at ts) (drop c.in_ok-body.end ts) (main_of (map item_tree c.in_ok-body.body)) (mapped_read (λ (x : Lexeme × Main). x.1) (drop c.args.at ts) (drop c.in_ok-body.end ts) (source_lexeme s c.in_ok-at.field-0-0, main_of (map item_tree c.in_ok-body.body)) _ refl
          (part_read (token_part else_word) main_blocks_lawful (drop c.args.at ts) (drop c.in_ok-at.at ts) (drop c.in_ok-body.end ts) (source_lexeme s c.in_ok-at.field-0-0) (main_of (map item_tree c.in_ok-body.body)) c.in_ok-at.ensures.outcome.2 c.in_ok-body.ensures.2)) c.if-is.ensures,
    )

pub repetition-returns-in_err-word : goal.repetition-returns-in_err-word
repetition-returns-in_err-word t c =
    let ts = source_lexemes c.args.source.now in let refused = c.in_err-word.field-0.0 in
    leaves 1 main_repetitions item_tree ts c.args.at c.from_residual.result refused c.from_residual.ensures.1
    (map_fails main_repetitions_tree main_repetition_lawful ts c.args.at refused
    (part_fails (token_part while_word) main_block_law ts c.args.at refused c.in_err-word.ensures.outcome))

pub repetition-returns-in_err-test : goal.repetition-returns-in_err-test
repetition-returns-in_err-test t c =
    let s = c.args.source.now in let ts = source_lexemes s in let refused = c.in_err-test.field-0.0 in
    leaves 1 main_repetitions item_tree ts c.args.at c.from_residual-in_err-test.result refused c.from_residual-in_err-test.ensures.1
    (map_fails main_repetitions_tree main_repetition_lawful ts c.args.at refused
    (part_then (token_part while_word) main_block_law ts c.args.at c.in_ok-word.at (source_lexeme s c.in_ok-word.word) refused c.in_ok-word.ensures.outcome.2
    (part_fails brackets_part main_blocks_lawful ts c.in_ok-word.at refused c.in_err-test.ensures)))

pub repetition-returns-in_err-body : goal.repetition-returns-in_err-body
repetition-returns-in_err-body t c =
    let s = c.args.source.now in let ts = source_lexemes s in let refused = c.in_err-body.field-0.0 in
    leaves 1 main_repetitions item_tree ts c.args.at c.from_residual-in_err-body.result refused c.from_residual-in_err-body.ensures.1
    (map_fails main_repetitions_tree main_repetition_lawful ts c.args.at refused
    (part_then (token_part while_word) main_block_law ts c.args.at c.in_ok-word.at (source_lexeme s c.in_ok-word.word) refused c.in_ok-word.ensures.outcome.2
    (part_then brackets_part main_blocks_lawful ts c.in_ok-word.at c.in_ok-test.at (expression c.in_ok-test.test) refused c.in_ok-test.ensures.2
    c.in_err-body.ensures)))

pub repetition-returns : goal.repetition-returns
repetition-returns t c =
    let s = c.args.source.now in
    let ts = source_lexemes s in (
      omega (arith, c.in_ok-word.ensures.outcome.0, c.in_ok-test.ensures.0, c.in_ok-body.ensures.0),
      c.in_ok-body.ensures.1,
      mapped_read main_repetitions_tree (drop c.args.at ts) (drop c.in_ok-body.at ts) ((source_lexeme s c.in_ok-word.word), ((expression c.in_ok-test.test), (main_of (map item_tree c.in_ok-body.body)))) _ (search (rules, the_lemmas))
          (part_read (token_part while_word) main_block_law (drop c.args.at ts) (drop c.in_ok-word.at ts) (drop c.in_ok-body.at ts) (source_lexeme s c.in_ok-word.word) ((expression c.in_ok-test.test), (main_of (map item_tree c.in_ok-body.body))) c.in_ok-word.ensures.outcome.2
          (part_read brackets_part main_blocks_lawful (drop c.in_ok-word.at ts) (drop c.in_ok-test.at ts) (drop c.in_ok-body.at ts) (expression c.in_ok-test.test) (main_of (map item_tree c.in_ok-body.body)) c.in_ok-test.ensures.2
          c.in_ok-body.ensures.2)),
    )

pub items-returns-in_err-i : goal.items-returns-in_err-i
items-returns-in_err-i t c =
    let ts = source_lexemes c.args.source.now in
    let here = c.loop-items.here in
    let refused = c.in_err-i.field-0.0 in
    leaves 0 mains (λ b. main_of (map item_tree b)) ts c.args.at c.from_residual.result refused c.from_residual.ensures.1
    (fails_so_far ts c.args.at here refused c.loop-items.invariant.so_far
    (becomes_fails ts here refused (mains_become (drop here ts) c.loop-items-test.ensures) (first_fails mains_lawful item_mains ts here refused c.in_err-i.ensures)))

pub items-loop-items-preserved : goal.items-loop-items-preserved
items-loop-items-preserved t c =
    let ts = source_lexemes c.args.source.now in
    let here = c.loop-items.here in
    let end = c.in_ok-i.end in
    record {
      after = omega (arith, c.loop-items.invariant.after, c.in_ok-i.ensures.0);
      within = c.in_ok-i.ensures.1;
      so_far =
          one_more items_lawful mains_lawful item_mains item_loose (drop c.args.at ts) (drop here ts) (drop end ts)
          (item_tree c.in_ok-i.i) _ _
          (λ more. main_pushed _ c.loop-items.items c.push.new.items c.in_ok-i.i more c.in_ok-push.ensures)
          (mains_become (drop here ts) c.loop-items-test.ensures) c.in_ok-i.ensures.2 c.loop-items.invariant.so_far;
    }

pub items-returns : goal.items-returns
items-returns t c =
    let ts = source_lexemes c.args.source.now in
    let here = drop c.loop-items.here ts in
    let inv = c.loop-items.invariant in (
      omega (arith, inv.after),
      inv.within,
      subst (λ e. IsRead mains (drop c.args.at ts) e here) (main_all _)
          (inv.so_far.reads no_item here (no_items_read here c.loop-items-test.ensures)),
    )

pub main_block-returns-in_err-at : goal.main_block-returns-in_err-at
main_block-returns-in_err-at t c =
    let ts = source_lexemes c.args.source.now in let refused = c.in_err-at.field-0.0 in
    leaves 1 main_blocks (λ b. main_of (map item_tree b)) ts c.args.at c.from_residual.result refused c.from_residual.ensures.1
    (becomes_fails ts c.args.at refused (main_block_becomes (drop c.args.at ts))
    (part_fails (token_part open_brace) inner_main ts c.args.at refused c.in_err-at.ensures.outcome))

pub main_block-returns-in_err-items : goal.main_block-returns-in_err-items
main_block-returns-in_err-items t c =
    let s = c.args.source.now in let ts = source_lexemes s in let refused = c.in_err-items.field-0.0 in
    leaves 1 main_blocks (λ b. main_of (map item_tree b)) ts c.args.at c.from_residual-in_err-items.result refused c.from_residual-in_err-items.ensures.1
    (becomes_fails ts c.args.at refused (main_block_becomes (drop c.args.at ts))
    (part_then (token_part open_brace) inner_main ts c.args.at c.in_ok-at.at (source_lexeme s c.in_ok-at.field-0-0) refused c.in_ok-at.ensures.outcome.2
    (main_fails ts c.in_ok-at.at refused c.in_err-items.ensures)))

pub main_block-returns-in_err-at-2 : goal.main_block-returns-in_err-at-2
main_block-returns-in_err-at-2 t c =
    let s = c.args.source.now in let ts = source_lexemes s in let refused = c.in_err-at-2.field-0.0 in
    leaves 1 main_blocks (λ b. main_of (map item_tree b)) ts c.args.at c.from_residual-in_err-at-2.result refused c.from_residual-in_err-at-2.ensures.1
    (becomes_fails ts c.args.at refused (main_block_becomes (drop c.args.at ts))
    (part_then (token_part open_brace) inner_main ts c.args.at c.in_ok-at.at (source_lexeme s c.in_ok-at.field-0-0) refused c.in_ok-at.ensures.outcome.2
    (main_then ts c.in_ok-at.at c.in_ok-items.at (main_of (map item_tree c.in_ok-items.items)) refused c.in_ok-items.ensures.2
    c.in_err-at-2.ensures.outcome)))

pub main_block-returns : goal.main_block-returns
main_block-returns t c =
    let s = c.args.source.now in
    let ts = source_lexemes s in (
      omega (arith, c.in_ok-at.ensures.outcome.0, c.in_ok-items.ensures.0, c.in_ok-at-2.ensures.outcome.0),
      c.in_ok-at-2.ensures.outcome.1,
      gives _ (drop c.args.at ts) (drop c.in_ok-at-2.at ts) ((source_lexeme s c.in_ok-at.field-0-0), ((main_of (map item_tree c.in_ok-items.items)), (source_lexeme s c.in_ok-at-2.field-0-0))) refl (main_block_becomes (drop c.args.at ts)) tt
          (part_read (token_part open_brace) inner_main (drop c.args.at ts) (drop c.in_ok-at.at ts) (drop c.in_ok-at-2.at ts) (source_lexeme s c.in_ok-at.field-0-0) ((main_of (map item_tree c.in_ok-items.items)), (source_lexeme s c.in_ok-at-2.field-0-0)) c.in_ok-at.ensures.outcome.2
          (main_read (token_lawful close_brace) (drop c.in_ok-at.at ts) (drop c.in_ok-items.at ts) (drop c.in_ok-at-2.at ts) (main_of (map item_tree c.in_ok-items.items)) (source_lexeme s c.in_ok-at-2.field-0-0) c.in_ok-items.ensures.2
          c.in_ok-at-2.ensures.outcome.2)),
    )

pub item-returns : goal.item-returns
item-returns t c =
    let ts = source_lexemes c.args.source.now in
    (c.in_ok-i.ensures.0, c.in_ok-i.ensures.1, c.in_ok-i.ensures.2 (no_else (drop c.in_ok-i.end ts) c.if-is.ensures))

pub item-returns-then-is : goal.item-returns-then-is
item-returns-then-is t c =
    let ts = source_lexemes c.args.source.now in
    (c.in_ok-i.ensures.1, c.in_ok-i.ensures.3 (λ stop. not_else (drop c.in_ok-i.end ts) stop c.if-is.ensures))

pub item_by_token-returns-then-is : goal.item_by_token-returns-then-is
item_by_token-returns-then-is t c =
    let ts = source_lexemes c.args.source.now in
    settles item_tree item_tree (λ e. refl) items_lawful (mapped_lawful fields_tree field_lawful) (λ left other none ends. absurd (none (ends_no_else left ends))) ts c.args.at c.field.result
    (through (drop c.args.at ts) (field_becomes (drop c.args.at ts) c.if-is.ensures)) c.field.ensures

pub item_by_token-returns-then-is-2 : goal.item_by_token-returns-then-is-2
item_by_token-returns-then-is-2 t c =
    let ts = source_lexemes c.args.source.now in
    settles item_tree item_tree (λ e. refl) items_lawful (mapped_lawful main_variables_tree (mapped_lawful declaration_parts (declared_lawful var_word))) (λ left other none ends. absurd (none (ends_no_else left ends))) ts c.args.at c.variable.result
    (through (drop c.args.at ts) (main_var_becomes (drop c.args.at ts) c.if-is-2.ensures)) c.variable.ensures

pub item_by_token-returns-then-is-3 : goal.item_by_token-returns-then-is-3
item_by_token-returns-then-is-3 t c =
    let ts = source_lexemes c.args.source.now in
    settles item_tree item_tree (λ e. refl) items_lawful (mapped_lawful main_branches_tree main_branch_lawful) (λ left other none. tt) ts c.args.at c.conditional.result
    (through (drop c.args.at ts) (main_if_becomes (drop c.args.at ts) c.if-is-3.ensures)) c.conditional.ensures

pub item_by_token-returns-then-is-4 : goal.item_by_token-returns-then-is-4
item_by_token-returns-then-is-4 t c =
    let ts = source_lexemes c.args.source.now in
    settles item_tree item_tree (λ e. refl) items_lawful (mapped_lawful main_repetitions_tree main_repetition_lawful) (λ left other none. tt) ts c.args.at c.repetition.result
    (through (drop c.args.at ts) (main_while_becomes (drop c.args.at ts) c.if-is-4.ensures)) c.repetition.ensures

pub item_by_token-returns-then-is-5 : goal.item_by_token-returns-then-is-5
item_by_token-returns-then-is-5 t c =
    let ts = source_lexemes c.args.source.now in
    settles item_tree item_tree (λ e. refl) items_lawful (mapped_lawful comprehensions_tree comprehension_lawful) (λ left other none. tt) ts c.args.at c.comprehension.result
    (through (drop c.args.at ts) (main_for_becomes (drop c.args.at ts) c.if-is-5.ensures)) c.comprehension.ensures

pub item_by_token-returns-then-is-6 : goal.item_by_token-returns-then-is-6
item_by_token-returns-then-is-6 t c =
    let ts = source_lexemes c.args.source.now in
    settles item_tree item_tree (λ e. refl) items_lawful (mapped_lawful prints_tree print_lawful) (λ left other none ends. absurd (none (ends_no_else left ends))) ts c.args.at c.output.result
    (through (drop c.args.at ts) (print_becomes (drop c.args.at ts) c.if-is-6.ensures)) c.output.ensures

pub item_by_token-returns : goal.item_by_token-returns
item_by_token-returns t c =
    let ts = source_lexemes c.args.source.now in
    settles item_tree item_tree (λ e. refl) items_lawful (mapped_lawful main_assignments_tree main_assignment_lawful) (λ left other none ends. absurd (none (ends_no_else left ends))) ts c.args.at c.assignment.result
    (through (drop c.args.at ts) (main_assign_becomes (drop c.args.at ts) c.if-is.ensures c.if-is-2.ensures c.if-is-3.ensures c.if-is-4.ensures c.if-is-5.ensures c.if-is-6.ensures)) c.assignment.ensures
