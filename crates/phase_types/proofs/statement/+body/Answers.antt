use Rattle.std.proofs.Common.{◌≡◌, ◌+◌, [], rules, sym, subst, map, Err, ap, ◌∙◌, drop}
use Rattle.liszt_base.specs.Gives.{Gives}
use Rattle.liszt_tree.specs.Tree.{expression, statement_tree, body_of, If, While, For}
use Rattle.liszt_tree.specs.declared.tree.Stmt.{the_lemmas}
use Rattle.phase_types.specs.Internal.Results.{with_names, choice_code, repetition_code, members_code}
use Rattle.phase_types.specs.Resolve.{resolved_statement, resolved_body, with_accesses}
use Rattle.phase_types.proofs.LoopLemmas.{statements_after, statement_done, names_remain, names_handed_on, first_stops, chooses, repeats, visits}
use Rattle.phase_types.proofs.statement.+body.Goals as goal

pub resolve_statement-resolve_body-requires : goal.resolve_statement-resolve_body-requires
resolve_statement-resolve_body-requires t c = (search (rules, the_lemmas), tt)

pub resolve_statement-resolve_choice-requires : goal.resolve_statement-resolve_choice-requires
resolve_statement-resolve_choice-requires t c = (search (rules, the_lemmas), tt)

pub resolve_statement-resolve_repetition-requires : goal.resolve_statement-resolve_repetition-requires
resolve_statement-resolve_repetition-requires t c = (search (rules, the_lemmas), tt)

pub resolve_statement-returns-in_err-first-in-If : goal.resolve_statement-returns-in_err-first-in-If
resolve_statement-returns-in_err-first-in-If t c =
    let i = c.in-If in
    let is : statement_tree c.args.s.now ≡ If i.place (expression i.test) (body_of (map statement_tree i.yes)) (body_of (map statement_tree i.no)) i.has_else = search (rules, the_lemmas) in
    subst (λ s. Gives (resolved_statement c.args.names.now c.args.frame.now s) (with_names c.from_residual-in_err-first-in-If.result c.resolve_body.new.names c.resolve_body.new.frame)) (sym is)
    (names_handed_on _ c.from_residual-in_err-first-in-If.result c.resolve_body.new.names c.resolve_body.new.frame c.in_err-first-in-If.field-0.0 c.from_residual-in_err-first-in-If.ensures.1
    (first_stops c.args.names.now c.args.frame.now i.place (expression i.test) (body_of (map statement_tree i.yes)) (body_of (map statement_tree i.no)) i.has_else c.in_ok-test-in-If.test
    c.resolve_condition.new.accesses c.in_err-first-in-If.field-0.0 c.in_ok-test-in-If.ensures
    (subst (λ body. Gives (resolved_body c.args.names.now (with_accesses c.resolve_condition.new.accesses c.args.frame.now) [] (body_of (map statement_tree body))) (Err c.in_err-first-in-If.field-0.0))
    c.as_slice-in-If.ensures c.in_err-first-in-If.ensures.gives)))

pub resolve_statement-returns-in_ok-first-in-If : goal.resolve_statement-returns-in_ok-first-in-If
resolve_statement-returns-in_ok-first-in-If t c =
    let i = c.in-If in
    let is : statement_tree c.args.s.now ≡ If i.place (expression i.test) (body_of (map statement_tree i.yes)) (body_of (map statement_tree i.no)) i.has_else = search (rules, the_lemmas) in
    let answer : _ = with_names c.resolve_choice.result c.resolve_choice.new.names c.resolve_choice.new.frame in
    subst (λ s. Gives (resolved_statement c.args.names.now c.args.frame.now s) answer) (sym is)
    (chooses c.args.names.now c.args.frame.now i.place (expression i.test) (body_of (map statement_tree i.yes)) (body_of (map statement_tree i.no)) i.has_else c.in_ok-test-in-If.test
    c.resolve_condition.new.accesses c.in_ok-first-in-If.first c.resolve_body.new.frame answer c.in_ok-test-in-If.ensures
    (ap (λ body. resolved_body c.args.names.now (with_accesses c.resolve_condition.new.accesses c.args.frame.now) [] (body_of (map statement_tree body))) (sym c.as_slice-in-If.ensures) ∙ c.in_ok-first-in-If.ensures.gives)
    (subst (λ names. Gives (choice_code names c.resolve_body.new.frame c.in_ok-test-in-If.test c.in_ok-first-in-If.first (body_of (map statement_tree i.no))) answer) c.in_ok-first-in-If.ensures.names
    (subst (λ body. Gives (choice_code c.resolve_body.new.names c.resolve_body.new.frame c.in_ok-test-in-If.test c.in_ok-first-in-If.first (body_of (map statement_tree body))) answer)
    c.as_slice-in-If-2.ensures c.resolve_choice.ensures)))

pub resolve_statement-returns-in_ok-test-in-While : goal.resolve_statement-returns-in_ok-test-in-While
resolve_statement-returns-in_ok-test-in-While t c =
    let i = c.in-While in
    let is : statement_tree c.args.s.now ≡ While i.place (expression i.test) (body_of (map statement_tree i.body)) = search (rules, the_lemmas) in
    subst (λ s. Gives (resolved_statement c.args.names.now c.args.frame.now s) (with_names c.resolve_repetition.result c.resolve_repetition.new.names c.resolve_repetition.new.frame)) (sym is)
    (repeats c.args.names.now c.args.frame.now i.place (expression i.test) (body_of (map statement_tree i.body)) c.in_ok-test-in-While.test c.resolve_truth.new.accesses
    (with_names c.resolve_repetition.result c.resolve_repetition.new.names c.resolve_repetition.new.frame) c.in_ok-test-in-While.ensures
    (subst (λ body. Gives (repetition_code c.args.names.now (with_accesses c.resolve_truth.new.accesses c.args.frame.now) i.place c.in_ok-test-in-While.test (body_of (map statement_tree body)))
    (with_names c.resolve_repetition.result c.resolve_repetition.new.names c.resolve_repetition.new.frame)) c.as_slice-in-While.ensures c.resolve_repetition.ensures))

pub resolve_statement-returns-in_ok-arg-in-For : goal.resolve_statement-returns-in_ok-arg-in-For
resolve_statement-returns-in_ok-arg-in-For t c =
    let i = c.in-For in
    let is : statement_tree c.args.s.now ≡ For i.place i.name i.at i.set i.set_at (expression i.arg) (body_of (map statement_tree i.body)) = search (rules, the_lemmas) in
    let answer : _ = with_names c.resolve_members.result c.resolve_members.new.names c.resolve_members.new.frame in
    subst (λ s. Gives (resolved_statement c.args.names.now c.args.frame.now s) answer) (sym is)
    (visits c.args.names.now c.args.frame.now i.place i.name i.at i.set i.set_at (expression i.arg) (body_of (map statement_tree i.body)) c.in_ok-operand-in-For.operand c.resolve_expression.new.accesses
    c.in_ok-arg-in-For.arg answer c.in_ok-operand-in-For.ensures c.in_ok-arg-in-For.ensures
    (subst (λ body. Gives (members_code c.args.names.now (with_accesses c.resolve_expression.new.accesses c.args.frame.now) i.name i.at i.set i.set_at c.in_ok-arg-in-For.arg
    (body_of (map statement_tree body))) answer) c.as_slice-body.ensures c.resolve_members.ensures))

pub resolve_body-loop-s-preserved : goal.resolve_body-loop-s-preserved
resolve_body-loop-s-preserved t c = (
  ap (λ done. statements_after c.resolve_statement.new.names c.resolve_statement.new.frame done (drop (c.loop-s.s-index + 1) c.args.body.now)) c.in_ok-push.ensures
      ∙ statement_done c.loop-s.names c.loop-s.frame c.loop-s.done c.args.body.now c.loop-s.s-index c.s-item.result (search rules) c.s-item.is c.loop-s.invariant.0 c.in_ok-code.code
      c.resolve_statement.new.names c.resolve_statement.new.frame c.in_ok-code.ensures,
  names_remain c.args.names.now c.loop-s.names c.loop-s.frame (statement_tree c.s-item.result) c.in_ok-code.code c.resolve_statement.new.names c.resolve_statement.new.frame c.loop-s.invariant.1
      c.in_ok-code.ensures,
)
