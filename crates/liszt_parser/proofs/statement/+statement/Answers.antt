use Rattle.std.proofs.Common.{refl, subst, arith, rules, Some, None, drop, map}
use Rattle.std.specs.Option.{option_map}
use Rattle.liszt_base.specs.declared.answers.Refused.TheVariants.{Fault}
use Rattle.liszt_lexer.specs.declared.token.TokenKind.TheVariants.{Name as NameToken}
use Rattle.liszt_tree.specs.Tree.{expression, statement_tree, body_of, no_statement}
use Rattle.liszt_tree.specs.declared.tree.Stmt.{the_lemmas}
use Rattle.liszt_parser.specs.Internal.Sources.{source_lexemes, source_lexeme}
use Rattle.liszt_parser.specs.Internal.Reading.{IsRead, Is, token, ◌then◌, mapped_reader}
use Rattle.liszt_parser.specs.Grammar.{set_of, open_bracket, close_bracket, open_brace, close_brace, arrow, var_word, val_word, if_word, else_word, while_word, for_word}
use Rattle.liszt_parser.specs.Internal.Productions.{declaration_parts, variables_tree, constants_tree, assignments_tree, branches, branches_tree, repetitions, repetitions_tree, set_loops, set_loops_tree, elses, bodies, blocks}
use Rattle.liszt_parser.proofs.Readers.{mapped_read, mapped_lawful}
use Rattle.liszt_parser.proofs.TokenReaders.{becomes_fails, token_lawful, fails_by, first_fails, maybe_stuck, maybe_twice, something_read}
use Rattle.liszt_parser.proofs.HeadLemmas.{no_else, not_else}
use Rattle.liszt_parser.proofs.ExpressionProductions.{through}
use Rattle.liszt_parser.proofs.ExpressionSteps.{brackets_part}
use Rattle.liszt_parser.proofs.OneStatement.{ends_no_else}
use Rattle.liszt_parser.proofs.StatementReaders.{set_lawful, set_part, declared_lawful, assignment_lawful, blocks_lawful, blocks_part, else_lawful, elses_lawful, block_elses, test_block_elses, branch_lawful, block_law, repetition_lawful, close_block, argument_block, set_argument, arrow_set, name_arrow, open_name, loop_lawful, statements_lawful, bodies_lawful, statement_bodies, statement_loose, no_statements_read, bodies_become, block_becomes, inner_brace, body_fails, body_then, body_read}
use Rattle.liszt_parser.proofs.StatementProductions.{var_becomes, val_becomes, assign_becomes, if_becomes, while_becomes, for_becomes}
use Rattle.liszt_parser.proofs.SourceLemmas.{choice_read, choice_fails}
use Rattle.liszt_parser.proofs.StepLemmas.{leaves, map_fails, part_fails, part_then, part_read, token_part, gives, settles}
use Rattle.liszt_parser.proofs.LoopLemmas.{one_more, fails_so_far, body_pushed, body_all}
use Rattle.liszt_tree.specs.Tree.{Body}
use Rattle.liszt_parser.specs.Grammar.{Lexeme}
use Rattle.liszt_parser.proofs.statement.+statement.Goals as goal

pub conditional-returns-in_err-word : goal.conditional-returns-in_err-word
conditional-returns-in_err-word t c =
    let ts = source_lexemes c.args.source.now in let refused = c.in_err-word.field-0.0 in
    leaves 1 branches statement_tree ts c.args.at c.from_residual.result refused c.from_residual.ensures.1
    (map_fails branches_tree branch_lawful ts c.args.at refused
    (part_fails (token_part if_word) test_block_elses ts c.args.at refused c.in_err-word.ensures.outcome))

pub conditional-returns-in_err-test : goal.conditional-returns-in_err-test
conditional-returns-in_err-test t c =
    let s = c.args.source.now in let ts = source_lexemes s in let refused = c.in_err-test.field-0.0 in
    leaves 1 branches statement_tree ts c.args.at c.from_residual-in_err-test.result refused c.from_residual-in_err-test.ensures.1
    (map_fails branches_tree branch_lawful ts c.args.at refused
    (part_then (token_part if_word) test_block_elses ts c.args.at c.in_ok-word.at (source_lexeme s c.in_ok-word.word) refused c.in_ok-word.ensures.outcome.2
    (part_fails brackets_part block_elses ts c.in_ok-word.at refused c.in_err-test.ensures)))

pub conditional-returns-in_err-yes : goal.conditional-returns-in_err-yes
conditional-returns-in_err-yes t c =
    let s = c.args.source.now in let ts = source_lexemes s in let refused = c.in_err-yes.field-0.0 in
    leaves 1 branches statement_tree ts c.args.at c.from_residual-in_err-yes.result refused c.from_residual-in_err-yes.ensures.1
    (map_fails branches_tree branch_lawful ts c.args.at refused
    (part_then (token_part if_word) test_block_elses ts c.args.at c.in_ok-word.at (source_lexeme s c.in_ok-word.word) refused c.in_ok-word.ensures.outcome.2
    (part_then brackets_part block_elses ts c.in_ok-word.at c.in_ok-test.at (expression c.in_ok-test.test) refused c.in_ok-test.ensures.2
    (part_fails blocks_part elses_lawful ts c.in_ok-test.at refused c.in_err-yes.ensures))))

pub conditional-returns-in_err-no : goal.conditional-returns-in_err-no
conditional-returns-in_err-no t c =
    let s = c.args.source.now in let ts = source_lexemes s in let refused = c.in_err-no.field-0.0 in
    leaves 1 branches statement_tree ts c.args.at c.from_residual-in_err-no.result refused c.from_residual-in_err-no.ensures.1
    (map_fails branches_tree branch_lawful ts c.args.at refused
    (part_then (token_part if_word) test_block_elses ts c.args.at c.in_ok-word.at (source_lexeme s c.in_ok-word.word) refused c.in_ok-word.ensures.outcome.2
    (part_then brackets_part block_elses ts c.in_ok-word.at c.in_ok-test.at (expression c.in_ok-test.test) refused c.in_ok-test.ensures.2
    (part_then blocks_part elses_lawful ts c.in_ok-test.at c.in_ok-yes.at (body_of (map statement_tree c.in_ok-yes.yes)) refused c.in_ok-yes.ensures.2
    c.in_err-no.ensures))))

pub conditional-returns-in-None : goal.conditional-returns-in-None
conditional-returns-in-None t c =
    let s = c.args.source.now in let ts = source_lexemes s in
    let read : IsRead elses (drop c.in_ok-yes.at ts) None (drop c.in_ok-no.at ts) = subst (λ o. IsRead elses (drop c.in_ok-yes.at ts) (option_map (λ b. body_of (map statement_tree b)) o) (drop c.in_ok-no.at ts)) c.in-None.is c.in_ok-no.ensures.2 in (
      omega (arith, c.in_ok-word.ensures.outcome.0, c.in_ok-test.ensures.0, c.in_ok-yes.ensures.0, c.in_ok-no.ensures.0),
      c.in_ok-no.ensures.1,
      mapped_read branches_tree (drop c.args.at ts) (drop c.in_ok-no.at ts) (source_lexeme s c.in_ok-word.word, (expression c.in_ok-test.test, ((body_of (map statement_tree c.in_ok-yes.yes)), None))) _ (search (rules, the_lemmas))
          (part_read (token_part if_word) test_block_elses (drop c.args.at ts) (drop c.in_ok-word.at ts) (drop c.in_ok-no.at ts) (source_lexeme s c.in_ok-word.word) (expression c.in_ok-test.test, ((body_of (map statement_tree c.in_ok-yes.yes)), None)) c.in_ok-word.ensures.outcome.2
          (part_read brackets_part block_elses (drop c.in_ok-word.at ts) (drop c.in_ok-test.at ts) (drop c.in_ok-no.at ts) (expression c.in_ok-test.test) ((body_of (map statement_tree c.in_ok-yes.yes)), None) c.in_ok-test.ensures.2
          (part_read blocks_part elses_lawful (drop c.in_ok-test.at ts) (drop c.in_ok-yes.at ts) (drop c.in_ok-no.at ts) (body_of (map statement_tree c.in_ok-yes.yes)) None c.in_ok-yes.ensures.2 read))),
    )

pub conditional-returns-in-Some : goal.conditional-returns-in-Some
conditional-returns-in-Some t c =
    let s = c.args.source.now in let ts = source_lexemes s in
    let read : IsRead elses (drop c.in_ok-yes.at ts) (Some (body_of (map statement_tree c.in-Some.no))) (drop c.in_ok-no.at ts) = subst (λ o. IsRead elses (drop c.in_ok-yes.at ts) (option_map (λ b. body_of (map statement_tree b)) o) (drop c.in_ok-no.at ts)) c.in-Some.is c.in_ok-no.ensures.2 in (
      omega (arith, c.in_ok-word.ensures.outcome.0, c.in_ok-test.ensures.0, c.in_ok-yes.ensures.0, c.in_ok-no.ensures.0),
      c.in_ok-no.ensures.1,
      mapped_read branches_tree (drop c.args.at ts) (drop c.in_ok-no.at ts) (source_lexeme s c.in_ok-word.word, (expression c.in_ok-test.test, ((body_of (map statement_tree c.in_ok-yes.yes)), (Some (body_of (map statement_tree c.in-Some.no)))))) _ (search (rules, the_lemmas))
          (part_read (token_part if_word) test_block_elses (drop c.args.at ts) (drop c.in_ok-word.at ts) (drop c.in_ok-no.at ts) (source_lexeme s c.in_ok-word.word) (expression c.in_ok-test.test, ((body_of (map statement_tree c.in_ok-yes.yes)), (Some (body_of (map statement_tree c.in-Some.no))))) c.in_ok-word.ensures.outcome.2
          (part_read brackets_part block_elses (drop c.in_ok-word.at ts) (drop c.in_ok-test.at ts) (drop c.in_ok-no.at ts) (expression c.in_ok-test.test) ((body_of (map statement_tree c.in_ok-yes.yes)), (Some (body_of (map statement_tree c.in-Some.no)))) c.in_ok-test.ensures.2
          (part_read blocks_part elses_lawful (drop c.in_ok-test.at ts) (drop c.in_ok-yes.at ts) (drop c.in_ok-no.at ts) (body_of (map statement_tree c.in_ok-yes.yes)) (Some (body_of (map statement_tree c.in-Some.no))) c.in_ok-yes.ensures.2 read))),
    )

pub else_block-returns-in_err-at : goal.else_block-returns-in_err-at
else_block-returns-in_err-at t c =
    let ts = source_lexemes c.args.source.now in let refused = c.in_err-at.field-0.0 in
    leaves 0 elses (option_map (λ b. body_of (map statement_tree b))) ts c.args.at c.from_residual.result refused c.from_residual.ensures.1
    (fails_by elses (mapped_reader (λ x. x.1) (token else_word then blocks)) ts c.args.at c.args.at
    (λ place d. maybe_stuck (Is else_word) (drop c.args.at ts) (drop place ts) c.if-not-is.ensures d) refused
    (map_fails (λ (x : Lexeme × Body). x.1) else_lawful ts c.args.at refused
    (part_fails (token_part else_word) blocks_lawful ts c.args.at refused c.in_err-at.ensures.outcome)))

pub else_block-returns-in_err-body : goal.else_block-returns-in_err-body
else_block-returns-in_err-body t c =
    let s = c.args.source.now in let ts = source_lexemes s in let refused = c.in_err-body.field-0.0 in
    leaves 0 elses (option_map (λ b. body_of (map statement_tree b))) ts c.args.at c.from_residual-in_err-body.result refused c.from_residual-in_err-body.ensures.1
    (fails_by elses (mapped_reader (λ x. x.1) (token else_word then blocks)) ts c.args.at c.args.at
    (λ place d. maybe_stuck (Is else_word) (drop c.args.at ts) (drop place ts) c.if-not-is.ensures d) refused
    (map_fails (λ (x : Lexeme × Body). x.1) else_lawful ts c.args.at refused
    (part_then (token_part else_word) blocks_lawful ts c.args.at c.in_ok-at.at (source_lexeme s c.in_ok-at.field-0-0) refused c.in_ok-at.ensures.outcome.2 c.in_err-body.ensures)))

pub else_block-returns-then-is : goal.else_block-returns-then-is
else_block-returns-then-is t c =
    let s = c.args.source.now in
    let ts = source_lexemes s in (
      c.in_ok-body.ensures.1,
      maybe_twice (Is else_word) (drop c.args.at ts) (drop c.in_ok-body.end ts) (body_of (map statement_tree c.in_ok-body.body)) (mapped_lawful (λ (x : Lexeme × Body). x.1) else_lawful) c.if-not-is.ensures
          (λ other. tt) (mapped_read (λ (x : Lexeme × Body). x.1) (drop c.args.at ts) (drop c.in_ok-body.end ts) (source_lexeme s c.in_ok-at.field-0-0, body_of (map statement_tree c.in_ok-body.body)) _ refl
          (part_read (token_part else_word) blocks_lawful (drop c.args.at ts) (drop c.in_ok-at.at ts) (drop c.in_ok-body.end ts) (source_lexeme s c.in_ok-at.field-0-0) (body_of (map statement_tree c.in_ok-body.body)) c.in_ok-at.ensures.outcome.2 c.in_ok-body.ensures.2)) c.if-is.ensures,
    )

pub else_block-returns : goal.else_block-returns
else_block-returns t c =
    let s = c.args.source.now in
    let ts = source_lexemes s in (
      omega (arith, c.in_ok-at.ensures.outcome.0, c.in_ok-body.ensures.0),
      c.in_ok-body.ensures.1,
      something_read (Is else_word) (drop c.args.at ts) (drop c.in_ok-body.end ts) (body_of (map statement_tree c.in_ok-body.body)) (mapped_read (λ (x : Lexeme × Body). x.1) (drop c.args.at ts) (drop c.in_ok-body.end ts) (source_lexeme s c.in_ok-at.field-0-0, body_of (map statement_tree c.in_ok-body.body)) _ refl
          (part_read (token_part else_word) blocks_lawful (drop c.args.at ts) (drop c.in_ok-at.at ts) (drop c.in_ok-body.end ts) (source_lexeme s c.in_ok-at.field-0-0) (body_of (map statement_tree c.in_ok-body.body)) c.in_ok-at.ensures.outcome.2 c.in_ok-body.ensures.2)) c.if-is.ensures,
    )

pub repetition-returns-in_err-word : goal.repetition-returns-in_err-word
repetition-returns-in_err-word t c =
    let ts = source_lexemes c.args.source.now in let refused = c.in_err-word.field-0.0 in
    leaves 1 repetitions statement_tree ts c.args.at c.from_residual.result refused c.from_residual.ensures.1
    (map_fails repetitions_tree repetition_lawful ts c.args.at refused
    (part_fails (token_part while_word) block_law ts c.args.at refused c.in_err-word.ensures.outcome))

pub repetition-returns-in_err-test : goal.repetition-returns-in_err-test
repetition-returns-in_err-test t c =
    let s = c.args.source.now in let ts = source_lexemes s in let refused = c.in_err-test.field-0.0 in
    leaves 1 repetitions statement_tree ts c.args.at c.from_residual-in_err-test.result refused c.from_residual-in_err-test.ensures.1
    (map_fails repetitions_tree repetition_lawful ts c.args.at refused
    (part_then (token_part while_word) block_law ts c.args.at c.in_ok-word.at (source_lexeme s c.in_ok-word.word) refused c.in_ok-word.ensures.outcome.2
    (part_fails brackets_part blocks_lawful ts c.in_ok-word.at refused c.in_err-test.ensures)))

pub repetition-returns-in_err-body : goal.repetition-returns-in_err-body
repetition-returns-in_err-body t c =
    let s = c.args.source.now in let ts = source_lexemes s in let refused = c.in_err-body.field-0.0 in
    leaves 1 repetitions statement_tree ts c.args.at c.from_residual-in_err-body.result refused c.from_residual-in_err-body.ensures.1
    (map_fails repetitions_tree repetition_lawful ts c.args.at refused
    (part_then (token_part while_word) block_law ts c.args.at c.in_ok-word.at (source_lexeme s c.in_ok-word.word) refused c.in_ok-word.ensures.outcome.2
    (part_then brackets_part blocks_lawful ts c.in_ok-word.at c.in_ok-test.at (expression c.in_ok-test.test) refused c.in_ok-test.ensures.2
    c.in_err-body.ensures)))

pub repetition-returns : goal.repetition-returns
repetition-returns t c =
    let s = c.args.source.now in
    let ts = source_lexemes s in (
      omega (arith, c.in_ok-word.ensures.outcome.0, c.in_ok-test.ensures.0, c.in_ok-body.ensures.0),
      c.in_ok-body.ensures.1,
      mapped_read repetitions_tree (drop c.args.at ts) (drop c.in_ok-body.at ts) ((source_lexeme s c.in_ok-word.word), ((expression c.in_ok-test.test), (body_of (map statement_tree c.in_ok-body.body)))) _ (search (rules, the_lemmas))
          (part_read (token_part while_word) block_law (drop c.args.at ts) (drop c.in_ok-word.at ts) (drop c.in_ok-body.at ts) (source_lexeme s c.in_ok-word.word) ((expression c.in_ok-test.test), (body_of (map statement_tree c.in_ok-body.body))) c.in_ok-word.ensures.outcome.2
          (part_read brackets_part blocks_lawful (drop c.in_ok-word.at ts) (drop c.in_ok-test.at ts) (drop c.in_ok-body.at ts) (expression c.in_ok-test.test) (body_of (map statement_tree c.in_ok-body.body)) c.in_ok-test.ensures.2
          c.in_ok-body.ensures.2)),
    )

pub body-returns-in_err-s : goal.body-returns-in_err-s
body-returns-in_err-s t c =
    let ts = source_lexemes c.args.source.now in
    let here = c.loop-body.here in
    let refused = c.in_err-s.field-0.0 in
    leaves 0 bodies (λ b. body_of (map statement_tree b)) ts c.args.at c.from_residual.result refused c.from_residual.ensures.1
    (fails_so_far ts c.args.at here refused c.loop-body.invariant.so_far
    (becomes_fails ts here refused (bodies_become (drop here ts) c.loop-body-test.ensures)
    (first_fails bodies_lawful statement_bodies ts here refused c.in_err-s.ensures)))

pub body-loop-body-preserved : goal.body-loop-body-preserved
body-loop-body-preserved t c =
    let ts = source_lexemes c.args.source.now in
    let here = c.loop-body.here in
    let end = c.in_ok-s.end in
    record {
      after = omega (arith, c.loop-body.invariant.after, c.in_ok-s.ensures.0);
      within = c.in_ok-s.ensures.1;
      so_far =
          one_more statements_lawful bodies_lawful statement_bodies statement_loose (drop c.args.at ts) (drop here ts) (drop end ts)
          (statement_tree c.in_ok-s.s) _ _
          (λ more. body_pushed _ c.loop-body.body c.push.new.items c.in_ok-s.s more c.in_ok-push.ensures)
          (bodies_become (drop here ts) c.loop-body-test.ensures) c.in_ok-s.ensures.2 c.loop-body.invariant.so_far;
    }

pub body-returns : goal.body-returns
body-returns t c =
    let ts = source_lexemes c.args.source.now in
    let here = drop c.loop-body.here ts in
    let inv = c.loop-body.invariant in (
      omega (arith, inv.after),
      inv.within,
      subst (λ e. IsRead bodies (drop c.args.at ts) e here) (body_all _)
          (inv.so_far.reads no_statement here (no_statements_read here c.loop-body-test.ensures)),
    )

pub block-returns-in_err-at : goal.block-returns-in_err-at
block-returns-in_err-at t c =
    let ts = source_lexemes c.args.source.now in let refused = c.in_err-at.field-0.0 in
    leaves 1 blocks (λ b. body_of (map statement_tree b)) ts c.args.at c.from_residual.result refused c.from_residual.ensures.1
    (becomes_fails ts c.args.at refused (block_becomes (drop c.args.at ts))
    (part_fails (token_part open_brace) inner_brace ts c.args.at refused c.in_err-at.ensures.outcome))

pub block-returns-in_err-body : goal.block-returns-in_err-body
block-returns-in_err-body t c =
    let s = c.args.source.now in let ts = source_lexemes s in let refused = c.in_err-body.field-0.0 in
    leaves 1 blocks (λ b. body_of (map statement_tree b)) ts c.args.at c.from_residual-in_err-body.result refused c.from_residual-in_err-body.ensures.1
    (becomes_fails ts c.args.at refused (block_becomes (drop c.args.at ts))
    (part_then (token_part open_brace) inner_brace ts c.args.at c.in_ok-at.at (source_lexeme s c.in_ok-at.field-0-0) refused c.in_ok-at.ensures.outcome.2
    (body_fails ts c.in_ok-at.at refused c.in_err-body.ensures)))

pub block-returns-in_err-at-2 : goal.block-returns-in_err-at-2
block-returns-in_err-at-2 t c =
    let s = c.args.source.now in let ts = source_lexemes s in let refused = c.in_err-at-2.field-0.0 in
    leaves 1 blocks (λ b. body_of (map statement_tree b)) ts c.args.at c.from_residual-in_err-at-2.result refused c.from_residual-in_err-at-2.ensures.1
    (becomes_fails ts c.args.at refused (block_becomes (drop c.args.at ts))
    (part_then (token_part open_brace) inner_brace ts c.args.at c.in_ok-at.at (source_lexeme s c.in_ok-at.field-0-0) refused c.in_ok-at.ensures.outcome.2
    (body_then ts c.in_ok-at.at c.in_ok-body.at (body_of (map statement_tree c.in_ok-body.body)) refused c.in_ok-body.ensures.2
    c.in_err-at-2.ensures.outcome)))

pub block-returns : goal.block-returns
block-returns t c =
    let s = c.args.source.now in
    let ts = source_lexemes s in (
      omega (arith, c.in_ok-at.ensures.outcome.0, c.in_ok-body.ensures.0, c.in_ok-at-2.ensures.outcome.0),
      c.in_ok-at-2.ensures.outcome.1,
      gives _ (drop c.args.at ts) (drop c.in_ok-at-2.at ts) ((source_lexeme s c.in_ok-at.field-0-0), ((body_of (map statement_tree c.in_ok-body.body)), (source_lexeme s c.in_ok-at-2.field-0-0))) refl (block_becomes (drop c.args.at ts)) tt
          (part_read (token_part open_brace) inner_brace (drop c.args.at ts) (drop c.in_ok-at.at ts) (drop c.in_ok-at-2.at ts) (source_lexeme s c.in_ok-at.field-0-0) ((body_of (map statement_tree c.in_ok-body.body)), (source_lexeme s c.in_ok-at-2.field-0-0)) c.in_ok-at.ensures.outcome.2
          (body_read (token_lawful close_brace) (drop c.in_ok-at.at ts) (drop c.in_ok-body.at ts) (drop c.in_ok-at-2.at ts) (body_of (map statement_tree c.in_ok-body.body)) (source_lexeme s c.in_ok-at-2.field-0-0) c.in_ok-body.ensures.2
          c.in_ok-at-2.ensures.outcome.2)),
    )

pub statement-returns : goal.statement-returns
statement-returns t c =
    let ts = source_lexemes c.args.source.now in
    (c.in_ok-s.ensures.0, c.in_ok-s.ensures.1, c.in_ok-s.ensures.2 (no_else (drop c.in_ok-s.end ts) c.if-is.ensures))

pub statement-returns-then-is : goal.statement-returns-then-is
statement-returns-then-is t c =
    let ts = source_lexemes c.args.source.now in
    (c.in_ok-s.ensures.1, c.in_ok-s.ensures.3 (λ stop. not_else (drop c.in_ok-s.end ts) stop c.if-is.ensures))

pub statement_by_token-returns-then-is : goal.statement_by_token-returns-then-is
statement_by_token-returns-then-is t c =
    let ts = source_lexemes c.args.source.now in
    settles statement_tree statement_tree (λ e. refl) statements_lawful (mapped_lawful variables_tree (mapped_lawful declaration_parts (declared_lawful var_word))) (λ left other none ends. absurd (none (ends_no_else left ends))) ts c.args.at c.variable.result
    (through (drop c.args.at ts) (var_becomes (drop c.args.at ts) c.if-is.ensures)) c.variable.ensures

pub statement_by_token-returns-then-is-2 : goal.statement_by_token-returns-then-is-2
statement_by_token-returns-then-is-2 t c =
    let ts = source_lexemes c.args.source.now in
    settles statement_tree statement_tree (λ e. refl) statements_lawful (mapped_lawful constants_tree (mapped_lawful declaration_parts (declared_lawful val_word))) (λ left other none ends. absurd (none (ends_no_else left ends))) ts c.args.at c.constant.result
    (through (drop c.args.at ts) (val_becomes (drop c.args.at ts) c.if-is-2.ensures)) c.constant.ensures

pub statement_by_token-returns-then-is-3 : goal.statement_by_token-returns-then-is-3
statement_by_token-returns-then-is-3 t c =
    let ts = source_lexemes c.args.source.now in
    settles statement_tree statement_tree (λ e. refl) statements_lawful (mapped_lawful branches_tree branch_lawful) (λ left other none. tt) ts c.args.at c.conditional.result
    (through (drop c.args.at ts) (if_becomes (drop c.args.at ts) c.if-is-3.ensures)) c.conditional.ensures

pub statement_by_token-returns-then-is-4 : goal.statement_by_token-returns-then-is-4
statement_by_token-returns-then-is-4 t c =
    let ts = source_lexemes c.args.source.now in
    settles statement_tree statement_tree (λ e. refl) statements_lawful (mapped_lawful repetitions_tree repetition_lawful) (λ left other none. tt) ts c.args.at c.repetition.result
    (through (drop c.args.at ts) (while_becomes (drop c.args.at ts) c.if-is-4.ensures)) c.repetition.ensures

pub statement_by_token-returns-then-is-5 : goal.statement_by_token-returns-then-is-5
statement_by_token-returns-then-is-5 t c =
    let ts = source_lexemes c.args.source.now in
    settles statement_tree statement_tree (λ e. refl) statements_lawful (mapped_lawful set_loops_tree loop_lawful) (λ left other none. tt) ts c.args.at c.set_loop.result
    (through (drop c.args.at ts) (for_becomes (drop c.args.at ts) c.if-is-5.ensures)) c.set_loop.ensures

pub statement_by_token-returns : goal.statement_by_token-returns
statement_by_token-returns t c =
    let ts = source_lexemes c.args.source.now in
    settles statement_tree statement_tree (λ e. refl) statements_lawful (mapped_lawful assignments_tree assignment_lawful) (λ left other none ends. absurd (none (ends_no_else left ends))) ts c.args.at c.assignment.result
    (through (drop c.args.at ts) (assign_becomes (drop c.args.at ts) c.if-is.ensures c.if-is-2.ensures c.if-is-3.ensures c.if-is-4.ensures c.if-is-5.ensures)) c.assignment.ensures

pub set_loop-returns-in_err-word : goal.set_loop-returns-in_err-word
set_loop-returns-in_err-word t c =
    let ts = source_lexemes c.args.source.now in let refused = c.in_err-word.field-0.0 in
    leaves 1 set_loops statement_tree ts c.args.at c.from_residual.result refused c.from_residual.ensures.1
    (map_fails set_loops_tree loop_lawful ts c.args.at refused
    (part_fails (token_part for_word) open_name ts c.args.at refused c.in_err-word.ensures.outcome))

pub set_loop-returns-in_err-at : goal.set_loop-returns-in_err-at
set_loop-returns-in_err-at t c =
    let s = c.args.source.now in let ts = source_lexemes s in let refused = c.in_err-at.field-0.0 in
    leaves 1 set_loops statement_tree ts c.args.at c.from_residual-in_err-at.result refused c.from_residual-in_err-at.ensures.1
    (map_fails set_loops_tree loop_lawful ts c.args.at refused
    (part_then (token_part for_word) open_name ts c.args.at c.in_ok-word.at (source_lexeme s c.in_ok-word.word) refused c.in_ok-word.ensures.outcome.2
    (part_fails (token_part open_bracket) name_arrow ts c.in_ok-word.at refused c.in_err-at.ensures.outcome)))

pub set_loop-returns-in_err-name : goal.set_loop-returns-in_err-name
set_loop-returns-in_err-name t c =
    let s = c.args.source.now in let ts = source_lexemes s in let refused = c.in_err-name.field-0.0 in
    leaves 1 set_loops statement_tree ts c.args.at c.from_residual-in_err-name.result refused c.from_residual-in_err-name.ensures.1
    (map_fails set_loops_tree loop_lawful ts c.args.at refused
    (part_then (token_part for_word) open_name ts c.args.at c.in_ok-word.at (source_lexeme s c.in_ok-word.word) refused c.in_ok-word.ensures.outcome.2
    (part_then (token_part open_bracket) name_arrow ts c.in_ok-word.at c.in_ok-at.at (source_lexeme s c.in_ok-at.field-0-0) refused c.in_ok-at.ensures.outcome.2
    (part_fails (token_part NameToken) arrow_set ts c.in_ok-at.at refused c.in_err-name.ensures.outcome))))

pub set_loop-returns-in_err-at-2 : goal.set_loop-returns-in_err-at-2
set_loop-returns-in_err-at-2 t c =
    let s = c.args.source.now in let ts = source_lexemes s in let refused = c.in_err-at-2.field-0.0 in
    leaves 1 set_loops statement_tree ts c.args.at c.from_residual-in_err-at-2.result refused c.from_residual-in_err-at-2.ensures.1
    (map_fails set_loops_tree loop_lawful ts c.args.at refused
    (part_then (token_part for_word) open_name ts c.args.at c.in_ok-word.at (source_lexeme s c.in_ok-word.word) refused c.in_ok-word.ensures.outcome.2
    (part_then (token_part open_bracket) name_arrow ts c.in_ok-word.at c.in_ok-at.at (source_lexeme s c.in_ok-at.field-0-0) refused c.in_ok-at.ensures.outcome.2
    (part_then (token_part NameToken) arrow_set ts c.in_ok-at.at c.in_ok-name.at (source_lexeme s c.in_ok-name.name) refused c.in_ok-name.ensures.outcome.2
    (part_fails (token_part arrow) set_argument ts c.in_ok-name.at refused c.in_err-at-2.ensures.outcome)))))

pub set_loop-returns-in_default : goal.set_loop-returns-in_default
set_loop-returns-in_default t c =
    let s = c.args.source.now in let ts = source_lexemes s in
    let refused = (Fault c.in_ok-at-2.at) in
    map_fails set_loops_tree loop_lawful ts c.args.at refused
    (part_then (token_part for_word) open_name ts c.args.at c.in_ok-word.at (source_lexeme s c.in_ok-word.word) refused c.in_ok-word.ensures.outcome.2
    (part_then (token_part open_bracket) name_arrow ts c.in_ok-word.at c.in_ok-at.at (source_lexeme s c.in_ok-at.field-0-0) refused c.in_ok-at.ensures.outcome.2
    (part_then (token_part NameToken) arrow_set ts c.in_ok-at.at c.in_ok-name.at (source_lexeme s c.in_ok-name.name) refused c.in_ok-name.ensures.outcome.2
    (part_then (token_part arrow) set_argument ts c.in_ok-name.at c.in_ok-at-2.at (source_lexeme s c.in_ok-at-2.field-0-0) refused c.in_ok-at-2.ensures.outcome.2
    (part_fails set_part argument_block ts c.in_ok-at-2.at refused (choice_fails set_of ts (source_lexeme s) c.in_ok-at-2.at set_lawful c.in_default.ensures c.in_ok-at-2.ensures.outcome.1))))))

pub set_loop-returns-in_err-arg : goal.set_loop-returns-in_err-arg
set_loop-returns-in_err-arg t c =
    let s = c.args.source.now in let ts = source_lexemes s in let refused = c.in_err-arg.field-0.0 in
    leaves 1 set_loops statement_tree ts c.args.at c.from_residual-in_err-arg.result refused c.from_residual-in_err-arg.ensures.1
    (map_fails set_loops_tree loop_lawful ts c.args.at refused
    (part_then (token_part for_word) open_name ts c.args.at c.in_ok-word.at (source_lexeme s c.in_ok-word.word) refused c.in_ok-word.ensures.outcome.2
    (part_then (token_part open_bracket) name_arrow ts c.in_ok-word.at c.in_ok-at.at (source_lexeme s c.in_ok-at.field-0-0) refused c.in_ok-at.ensures.outcome.2
    (part_then (token_part NameToken) arrow_set ts c.in_ok-at.at c.in_ok-name.at (source_lexeme s c.in_ok-name.name) refused c.in_ok-name.ensures.outcome.2
    (part_then (token_part arrow) set_argument ts c.in_ok-name.at c.in_ok-at-2.at (source_lexeme s c.in_ok-at-2.field-0-0) refused c.in_ok-at-2.ensures.outcome.2
    (part_then set_part argument_block ts c.in_ok-at-2.at c.in-Some.at (source_lexeme s c.in-Some.of, c.in-Some.set) refused (choice_read set_of ts (source_lexeme s) c.in_ok-at-2.at ((c.in-Some.of, c.in-Some.set), c.in-Some.at) c.in-Some.ensures)
    (part_fails brackets_part close_block ts c.in-Some.at refused c.in_err-arg.ensures)))))))

pub set_loop-returns-in_err-at-3 : goal.set_loop-returns-in_err-at-3
set_loop-returns-in_err-at-3 t c =
    let s = c.args.source.now in let ts = source_lexemes s in let refused = c.in_err-at-3.field-0.0 in
    leaves 1 set_loops statement_tree ts c.args.at c.from_residual-in_err-at-3.result refused c.from_residual-in_err-at-3.ensures.1
    (map_fails set_loops_tree loop_lawful ts c.args.at refused
    (part_then (token_part for_word) open_name ts c.args.at c.in_ok-word.at (source_lexeme s c.in_ok-word.word) refused c.in_ok-word.ensures.outcome.2
    (part_then (token_part open_bracket) name_arrow ts c.in_ok-word.at c.in_ok-at.at (source_lexeme s c.in_ok-at.field-0-0) refused c.in_ok-at.ensures.outcome.2
    (part_then (token_part NameToken) arrow_set ts c.in_ok-at.at c.in_ok-name.at (source_lexeme s c.in_ok-name.name) refused c.in_ok-name.ensures.outcome.2
    (part_then (token_part arrow) set_argument ts c.in_ok-name.at c.in_ok-at-2.at (source_lexeme s c.in_ok-at-2.field-0-0) refused c.in_ok-at-2.ensures.outcome.2
    (part_then set_part argument_block ts c.in_ok-at-2.at c.in-Some.at (source_lexeme s c.in-Some.of, c.in-Some.set) refused (choice_read set_of ts (source_lexeme s) c.in_ok-at-2.at ((c.in-Some.of, c.in-Some.set), c.in-Some.at) c.in-Some.ensures)
    (part_then brackets_part close_block ts c.in-Some.at c.in_ok-arg.at (expression c.in_ok-arg.arg) refused c.in_ok-arg.ensures.2
    (part_fails (token_part close_bracket) blocks_lawful ts c.in_ok-arg.at refused c.in_err-at-3.ensures.outcome))))))))

pub set_loop-returns-in_err-body : goal.set_loop-returns-in_err-body
set_loop-returns-in_err-body t c =
    let s = c.args.source.now in let ts = source_lexemes s in let refused = c.in_err-body.field-0.0 in
    leaves 1 set_loops statement_tree ts c.args.at c.from_residual-in_err-body.result refused c.from_residual-in_err-body.ensures.1
    (map_fails set_loops_tree loop_lawful ts c.args.at refused
    (part_then (token_part for_word) open_name ts c.args.at c.in_ok-word.at (source_lexeme s c.in_ok-word.word) refused c.in_ok-word.ensures.outcome.2
    (part_then (token_part open_bracket) name_arrow ts c.in_ok-word.at c.in_ok-at.at (source_lexeme s c.in_ok-at.field-0-0) refused c.in_ok-at.ensures.outcome.2
    (part_then (token_part NameToken) arrow_set ts c.in_ok-at.at c.in_ok-name.at (source_lexeme s c.in_ok-name.name) refused c.in_ok-name.ensures.outcome.2
    (part_then (token_part arrow) set_argument ts c.in_ok-name.at c.in_ok-at-2.at (source_lexeme s c.in_ok-at-2.field-0-0) refused c.in_ok-at-2.ensures.outcome.2
    (part_then set_part argument_block ts c.in_ok-at-2.at c.in-Some.at (source_lexeme s c.in-Some.of, c.in-Some.set) refused (choice_read set_of ts (source_lexeme s) c.in_ok-at-2.at ((c.in-Some.of, c.in-Some.set), c.in-Some.at) c.in-Some.ensures)
    (part_then brackets_part close_block ts c.in-Some.at c.in_ok-arg.at (expression c.in_ok-arg.arg) refused c.in_ok-arg.ensures.2
    (part_then (token_part close_bracket) blocks_lawful ts c.in_ok-arg.at c.in_ok-at-3.at (source_lexeme s c.in_ok-at-3.field-0-0) refused c.in_ok-at-3.ensures.outcome.2
    c.in_err-body.ensures))))))))

pub set_loop-returns : goal.set_loop-returns
set_loop-returns t c =
    let s = c.args.source.now in
    let ts = source_lexemes s in (
      omega (arith, c.in_ok-word.ensures.outcome.0, c.in_ok-at.ensures.outcome.0, c.in_ok-name.ensures.outcome.0, c.in_ok-at-2.ensures.outcome.0, c.in-Some.ensures.1, c.in_ok-arg.ensures.0, c.in_ok-at-3.ensures.outcome.0, c.in_ok-body.ensures.0),
      c.in_ok-body.ensures.1,
      mapped_read set_loops_tree (drop c.args.at ts) (drop c.in_ok-body.end ts) ((source_lexeme s c.in_ok-word.word), ((source_lexeme s c.in_ok-at.field-0-0), ((source_lexeme s c.in_ok-name.name), ((source_lexeme s c.in_ok-at-2.field-0-0), ((source_lexeme s c.in-Some.of, c.in-Some.set), ((expression c.in_ok-arg.arg), ((source_lexeme s c.in_ok-at-3.field-0-0), (body_of (map statement_tree c.in_ok-body.body))))))))) _ (search (rules, the_lemmas))
          (part_read (token_part for_word) open_name (drop c.args.at ts) (drop c.in_ok-word.at ts) (drop c.in_ok-body.end ts) (source_lexeme s c.in_ok-word.word) ((source_lexeme s c.in_ok-at.field-0-0), ((source_lexeme s c.in_ok-name.name), ((source_lexeme s c.in_ok-at-2.field-0-0), ((source_lexeme s c.in-Some.of, c.in-Some.set), ((expression c.in_ok-arg.arg), ((source_lexeme s c.in_ok-at-3.field-0-0), (body_of (map statement_tree c.in_ok-body.body)))))))) c.in_ok-word.ensures.outcome.2
          (part_read (token_part open_bracket) name_arrow (drop c.in_ok-word.at ts) (drop c.in_ok-at.at ts) (drop c.in_ok-body.end ts) (source_lexeme s c.in_ok-at.field-0-0) ((source_lexeme s c.in_ok-name.name), ((source_lexeme s c.in_ok-at-2.field-0-0), ((source_lexeme s c.in-Some.of, c.in-Some.set), ((expression c.in_ok-arg.arg), ((source_lexeme s c.in_ok-at-3.field-0-0), (body_of (map statement_tree c.in_ok-body.body))))))) c.in_ok-at.ensures.outcome.2
          (part_read (token_part NameToken) arrow_set (drop c.in_ok-at.at ts) (drop c.in_ok-name.at ts) (drop c.in_ok-body.end ts) (source_lexeme s c.in_ok-name.name) ((source_lexeme s c.in_ok-at-2.field-0-0), ((source_lexeme s c.in-Some.of, c.in-Some.set), ((expression c.in_ok-arg.arg), ((source_lexeme s c.in_ok-at-3.field-0-0), (body_of (map statement_tree c.in_ok-body.body)))))) c.in_ok-name.ensures.outcome.2
          (part_read (token_part arrow) set_argument (drop c.in_ok-name.at ts) (drop c.in_ok-at-2.at ts) (drop c.in_ok-body.end ts) (source_lexeme s c.in_ok-at-2.field-0-0) ((source_lexeme s c.in-Some.of, c.in-Some.set), ((expression c.in_ok-arg.arg), ((source_lexeme s c.in_ok-at-3.field-0-0), (body_of (map statement_tree c.in_ok-body.body))))) c.in_ok-at-2.ensures.outcome.2
          (part_read set_part argument_block (drop c.in_ok-at-2.at ts) (drop c.in-Some.at ts) (drop c.in_ok-body.end ts) (source_lexeme s c.in-Some.of, c.in-Some.set) ((expression c.in_ok-arg.arg), ((source_lexeme s c.in_ok-at-3.field-0-0), (body_of (map statement_tree c.in_ok-body.body)))) (choice_read set_of ts (source_lexeme s) c.in_ok-at-2.at ((c.in-Some.of, c.in-Some.set), c.in-Some.at) c.in-Some.ensures)
          (part_read brackets_part close_block (drop c.in-Some.at ts) (drop c.in_ok-arg.at ts) (drop c.in_ok-body.end ts) (expression c.in_ok-arg.arg) ((source_lexeme s c.in_ok-at-3.field-0-0), (body_of (map statement_tree c.in_ok-body.body))) c.in_ok-arg.ensures.2
          (part_read (token_part close_bracket) blocks_lawful (drop c.in_ok-arg.at ts) (drop c.in_ok-at-3.at ts) (drop c.in_ok-body.end ts) (source_lexeme s c.in_ok-at-3.field-0-0) (body_of (map statement_tree c.in_ok-body.body)) c.in_ok-at-3.ensures.outcome.2
          c.in_ok-body.ensures.2))))))),
    )
