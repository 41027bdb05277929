use Rattle.std.proofs.Common.{rules, arith, refl, sym, ap, ◌∙◌, subst, ◌≡◌, ◌-◌, suc, get_or, pos, Some, ◌∷◌}
use Rattle.std.proofs.lemmas.Int.{to_z-of_z}
use Rattle.std.proofs.lemmas.Result.{err_from_is_err_and}
use mir.Val.{SFits}
use mir.Syntax.{w64}
use Rattle.liszt_base.specs.declared.answers.TrapKind.TheVariants.{Spent}
use Rattle.resolved_code.specs.declared.statements.StatementCode.{the_lemmas as code_lemmas}
use Rattle.code_eval.specs.Executions.{CanRun, pure, if_then_else, trap, ◌>>=◌}
use Rattle.code_eval.specs.Meaning.{assign_field, body_execution, element_execution, number_execution, statement_execution, truth_execution, visit_set}
use Rattle.code_eval.proofs.ChainLemmas.{at_item}
use Rattle.code_eval.proofs.LayerLemmas.{var_is, val_is, assign_local_is, assign_scalar_is, assign_field_is, if_is, while_is, for_is}
use Rattle.code_eval.proofs.LeadingLemmas.{at_once, changed, inside, then, given_value, stop_handed_on, can_first, can_then}
use Rattle.code_eval.proofs.LoopLemmas.{at_first, is_tested, ended, test_stopped, out_of_turns, turn_taken, again}
use Rattle.code_eval.proofs.OperandLemmas.{element_can, element_given, set_can, set_operand_is, set_is}
use Rattle.code_eval.proofs.statements.+statement.Goals as goal

pub run_statement-number-requires : goal.run_statement-number-requires
run_statement-number-requires g t c = can_first _ (subst (λ p. CanRun p c.args.a.now (g.W.Words.store c.args.w.now)) (ap (statement_execution c.args.m.now) c.in-Var.is ∙ var_is c.args.m.now c.in-Var.slot c.in-Var.init) c.requires)

pub run_statement-returns-in_err-n-in-Var : goal.run_statement-returns-in_err-n-in-Var
run_statement-returns-in_err-n-in-Var g t c =
    rw (c.in-Var.is, var_is c.args.m.now c.in-Var.slot c.in-Var.init) (stop_handed_on _ _ c.from_residual.result c.from_residual.ensures.1 c.in_err-n-in-Var.ensures)

pub run_statement-number-requires-in-Local : goal.run_statement-number-requires-in-Local
run_statement-number-requires-in-Local g t c = can_first _ (subst (λ p. CanRun p c.args.a.now (g.W.Words.store c.args.w.now)) (ap (statement_execution c.args.m.now) c.in-Local.is ∙ assign_local_is c.args.m.now c.in-Local.slot c.in-Local.how c.in-Local.value) c.requires)

pub run_statement-returns-in_err-n-in-Local : goal.run_statement-returns-in_err-n-in-Local
run_statement-returns-in_err-n-in-Local g t c =
    rw (c.in-Local.is, assign_local_is c.args.m.now c.in-Local.slot c.in-Local.how c.in-Local.value) (stop_handed_on _ _ c.from_residual-in_err-n-in-Local.result c.from_residual-in_err-n-in-Local.ensures.1 c.in_err-n-in-Local.ensures)

pub run_statement-number-requires-in-Scalar : goal.run_statement-number-requires-in-Scalar
run_statement-number-requires-in-Scalar g t c = can_first _ (subst (λ p. CanRun p c.args.a.now (g.W.Words.store c.args.w.now)) (ap (statement_execution c.args.m.now) c.in-Scalar.is ∙ assign_scalar_is c.args.m.now c.in-Scalar.scalar c.in-Scalar.how c.in-Scalar.value) c.requires)

pub run_statement-returns-in_err-n-in-Scalar : goal.run_statement-returns-in_err-n-in-Scalar
run_statement-returns-in_err-n-in-Scalar g t c =
    rw (c.in-Scalar.is, assign_scalar_is c.args.m.now c.in-Scalar.scalar c.in-Scalar.how c.in-Scalar.value) (stop_handed_on _ _ c.from_residual-in_err-n-in-Scalar.result c.from_residual-in_err-n-in-Scalar.ensures.1 c.in_err-n-in-Scalar.ensures)

pub run_statement-number-requires-in-Field : goal.run_statement-number-requires-in-Field
run_statement-number-requires-in-Field g t c = can_first _ (subst (λ p. CanRun p c.args.a.now (g.W.Words.store c.args.w.now)) (ap (statement_execution c.args.m.now) c.in-Field.is ∙ assign_field_is c.args.m.now c.in-Field.place c.in-Field.field c.in-Field.how c.in-Field.target c.in-Field.value) c.requires)

pub run_statement-returns-in_err-n-in-Field : goal.run_statement-returns-in_err-n-in-Field
run_statement-returns-in_err-n-in-Field g t c =
    rw (c.in-Field.is, assign_field_is c.args.m.now c.in-Field.place c.in-Field.field c.in-Field.how c.in-Field.target c.in-Field.value) (stop_handed_on _ _ c.from_residual-in_err-n-in-Field.result c.from_residual-in_err-n-in-Field.ensures.1 c.in_err-n-in-Field.ensures)

pub run_statement-returns-in_ok-n-in-Var : goal.run_statement-returns-in_ok-n-in-Var
run_statement-returns-in_ok-n-in-Var g t c =
    let n : SFits w64 c.in_ok-n-in-Var.n = search rules in
    let set = rw (to_z-of_z w64 c.in_ok-n-in-Var.n n) at c.set_number.ensures in
    let a = c.number.new.a in
    rw (c.in-Var.is, var_is c.args.m.now c.in-Var.slot c.in-Var.init) (then (given_value _ c.in_ok-n-in-Var.ensures) (changed (omega arith) (λ view. ap (λ ns. pure (tt {0}) view (record a { numbers = ns })) (sym set))))

pub run_statement-element-x-requires : goal.run_statement-element-x-requires
run_statement-element-x-requires g t c = element_can c.args.m.now c.in-Val.init c.as_slice.ensures (can_first _ (subst (λ p. CanRun p c.args.a.now (g.W.Words.store c.args.w.now)) (ap (statement_execution c.args.m.now) c.in-Val.is ∙ val_is c.args.m.now c.in-Val.slot c.in-Val.init) c.requires))

pub run_statement-returns-in-Val : goal.run_statement-returns-in-Val
run_statement-returns-in-Val g t c =
    let a = c.args.a.now in
    rw (c.in-Val.is, val_is c.args.m.now c.in-Val.slot c.in-Val.init)
    (then (given_value _ (element_given c.args.m.now c.in-Val.init c.as_slice.ensures c.element-x.ensures)) (changed (omega arith) (λ view. ap (λ xs. pure (tt {0}) view (record a { elements = xs })) (sym c.set_element.ensures))))

pub run_statement-returns-in_ok-n-in-Local : goal.run_statement-returns-in_ok-n-in-Local
run_statement-returns-in_ok-n-in-Local g t c =
    let a = c.number-in-Local.new.a in
    let n : SFits w64 c.in_ok-n-in-Local.n = search rules in
    let old_fits : SFits w64 c.number_at-old.result = search rules in
    let new_fits : SFits w64 c.assigned.result = search rules in
    let old : c.number_at-old.result ≡ get_or a.numbers c.in-Local.slot (pos 0) = search rules in
    let value = rw (to_z-of_z w64 c.in_ok-n-in-Local.n n, to_z-of_z w64 c.number_at-old.result old_fits, old) at c.assigned.ensures in
    let set = rw (to_z-of_z w64 c.assigned.result new_fits, value) at c.set_number-in-Local.ensures in
    rw (c.in-Local.is, assign_local_is c.args.m.now c.in-Local.slot c.in-Local.how c.in-Local.value) (then (given_value _ c.in_ok-n-in-Local.ensures) (changed (omega arith) (λ view. ap (λ ns. pure (tt {0}) view (record a { numbers = ns })) (sym set))))

pub run_statement-returns-in_ok-n-in-Scalar : goal.run_statement-returns-in_ok-n-in-Scalar
run_statement-returns-in_ok-n-in-Scalar g t c =
    let a = c.number-in-Scalar.new.a in
    let n : SFits w64 c.in_ok-n-in-Scalar.n = search rules in
    let old_fits : SFits w64 c.number_at-old-in-Scalar.result = search rules in
    let new_fits : SFits w64 c.assigned-in-Scalar.result = search rules in
    let old : c.number_at-old-in-Scalar.result ≡ get_or a.partials c.in-Scalar.scalar (pos 0) = search rules in
    let value = rw (to_z-of_z w64 c.in_ok-n-in-Scalar.n n, to_z-of_z w64 c.number_at-old-in-Scalar.result old_fits, old) at c.assigned-in-Scalar.ensures in
    let set = rw (to_z-of_z w64 c.assigned-in-Scalar.result new_fits, value) at c.set_number-in-Scalar.ensures in
    rw (c.in-Scalar.is, assign_scalar_is c.args.m.now c.in-Scalar.scalar c.in-Scalar.how c.in-Scalar.value) (then (given_value _ c.in_ok-n-in-Scalar.ensures) (changed (omega arith) (λ view. ap (λ ns. pure (tt {0}) view (record a { partials = ns })) (sym set))))

pub run_statement-element-x-requires-in-Field : goal.run_statement-element-x-requires-in-Field
run_statement-element-x-requires-in-Field g t c =
    let can : CanRun (number_execution c.args.m.now c.in-Field.value >>= λ n. element_execution c.args.m.now c.in-Field.target >>= λ x. assign_field c.in-Field.place c.in-Field.field c.in-Field.how n x) c.args.a.now (g.W.Words.store c.args.w.now) =
    subst (λ p. CanRun p c.args.a.now (g.W.Words.store c.args.w.now)) (ap (statement_execution c.args.m.now) c.in-Field.is ∙ assign_field_is c.args.m.now c.in-Field.place c.in-Field.field c.in-Field.how c.in-Field.target c.in-Field.value) c.requires in
    element_can c.args.m.now c.in-Field.target c.as_slice-in-Field.ensures (can_first _ (can_then can (given_value _ c.in_ok-n-in-Field.ensures)))

pub run_statement-write-requires : goal.run_statement-write-requires
run_statement-write-requires g t c =
    let n : SFits w64 c.in_ok-n-in-Field.n = search rules in
    let can : CanRun (number_execution c.args.m.now c.in-Field.value >>= λ n. element_execution c.args.m.now c.in-Field.target >>= λ x. assign_field c.in-Field.place c.in-Field.field c.in-Field.how n x) c.args.a.now (g.W.Words.store c.args.w.now) =
    subst (λ p. CanRun p c.args.a.now (g.W.Words.store c.args.w.now)) (ap (statement_execution c.args.m.now) c.in-Field.is ∙ assign_field_is c.args.m.now c.in-Field.place c.in-Field.field c.in-Field.how c.in-Field.target c.in-Field.value) c.requires in
    rw (to_z-of_z w64 c.in_ok-n-in-Field.n n) (can_then (can_then can (given_value _ c.in_ok-n-in-Field.ensures)) (given_value _ (element_given c.args.m.now c.in-Field.target c.as_slice-in-Field.ensures c.element-x-in-Field.ensures)))

pub run_statement-returns-in_ok-n-in-Field : goal.run_statement-returns-in_ok-n-in-Field
run_statement-returns-in_ok-n-in-Field g t c =
    let n : SFits w64 c.in_ok-n-in-Field.n = search rules in
    let written = rw (to_z-of_z w64 c.in_ok-n-in-Field.n n) at c.write.ensures in
    rw (c.in-Field.is, assign_field_is c.args.m.now c.in-Field.place c.in-Field.field c.in-Field.how c.in-Field.target c.in-Field.value)
    (then (given_value _ c.in_ok-n-in-Field.ensures) (then (given_value _ (element_given c.args.m.now c.in-Field.target c.as_slice-in-Field.ensures c.element-x-in-Field.ensures)) written))

pub run_statement-truth-requires : goal.run_statement-truth-requires
run_statement-truth-requires g t c = can_first _ (subst (λ p. CanRun p c.args.a.now (g.W.Words.store c.args.w.now)) (ap (statement_execution c.args.m.now) c.in-If.is ∙ if_is c.args.m.now c.in-If.test c.in-If.first c.in-If.second) c.requires)

pub run_statement-returns-in_err-is_true-in-If : goal.run_statement-returns-in_err-is_true-in-If
run_statement-returns-in_err-is_true-in-If g t c =
    rw (c.in-If.is, if_is c.args.m.now c.in-If.test c.in-If.first c.in-If.second) (stop_handed_on _ _ c.from_residual-in_err-is_true-in-If.result c.from_residual-in_err-is_true-in-If.ensures.1 c.in_err-is_true-in-If.ensures)

pub run_statement-run_body-requires : goal.run_statement-run_body-requires
run_statement-run_body-requires g t c κs within =
    let can : CanRun (truth_execution c.args.m.now c.in-If.test >>= λ b. if_then_else b (body_execution c.args.m.now c.in-If.first) (body_execution c.args.m.now c.in-If.second)) c.args.a.now (g.W.Words.store c.args.w.now) =
    subst (λ p. CanRun p c.args.a.now (g.W.Words.store c.args.w.now)) (ap (statement_execution c.args.m.now) c.in-If.is ∙ if_is c.args.m.now c.in-If.test c.in-If.first c.in-If.second) c.requires in
    let test = rw c.if-is_true.true at c.in_ok-is_true-in-If.ensures in
    (search (rules, code_lemmas), (search rules, rw c.as_slice-then-is_true.ensures (can_then can (given_value _ test))))

pub run_statement-returns-then-is_true : goal.run_statement-returns-then-is_true
run_statement-returns-then-is_true g t c =
    let test = rw c.if-is_true.true at c.in_ok-is_true-in-If.ensures in
    rw (c.in-If.is, if_is c.args.m.now c.in-If.test c.in-If.first c.in-If.second) (then (given_value _ test) (rw c.as_slice-then-is_true.ensures at c.run_body.ensures))

pub run_statement-run_body-requires-else-is_true : goal.run_statement-run_body-requires-else-is_true
run_statement-run_body-requires-else-is_true g t c κs within =
    let can : CanRun (truth_execution c.args.m.now c.in-If.test >>= λ b. if_then_else b (body_execution c.args.m.now c.in-If.first) (body_execution c.args.m.now c.in-If.second)) c.args.a.now (g.W.Words.store c.args.w.now) =
    subst (λ p. CanRun p c.args.a.now (g.W.Words.store c.args.w.now)) (ap (statement_execution c.args.m.now) c.in-If.is ∙ if_is c.args.m.now c.in-If.test c.in-If.first c.in-If.second) c.requires in
    let test = rw c.if-is_true.false at c.in_ok-is_true-in-If.ensures in
    (search (rules, code_lemmas), (search rules, rw c.as_slice-else-is_true.ensures (can_then can (given_value _ test))))

pub run_statement-returns-else-is_true : goal.run_statement-returns-else-is_true
run_statement-returns-else-is_true g t c =
    let test = rw c.if-is_true.false at c.in_ok-is_true-in-If.ensures in
    rw (c.in-If.is, if_is c.args.m.now c.in-If.test c.in-If.first c.in-If.second) (then (given_value _ test) (rw c.as_slice-else-is_true.ensures at c.run_body-else-is_true.ensures))

pub run_statement-run_loop-requires : goal.run_statement-run_loop-requires
run_statement-run_loop-requires g t c κs within =
    let can = subst (λ p. CanRun p c.args.a.now (g.W.Words.store c.args.w.now)) (ap (statement_execution c.args.m.now) c.in-While.is ∙ while_is c.args.m.now c.in-While.place c.in-While.test c.in-While.body) c.requires in
    (search (rules, code_lemmas), (search rules, rw c.as_slice-in-While.ensures can))

pub run_statement-returns-in-While : goal.run_statement-returns-in-While
run_statement-returns-in-While g t c =
    rw (c.in-While.is, while_is c.args.m.now c.in-While.place c.in-While.test c.in-While.body) (rw c.as_slice-in-While.ensures at c.run_loop.ensures)

pub run_statement-element-requires : goal.run_statement-element-requires
run_statement-element-requires g t c = element_can c.args.m.now c.in-For.arg c.as_slice-in-For.ensures (can_first _ (subst (λ p. CanRun p c.args.a.now (g.W.Words.store c.args.w.now)) (ap (statement_execution c.args.m.now) c.in-For.is ∙ for_is c.args.m.now c.in-For.slot c.in-For.set c.in-For.place c.in-For.arg c.in-For.body) c.requires))

pub run_statement-visit-requires : goal.run_statement-visit-requires
run_statement-visit-requires g t c κs within =
    let can : CanRun (element_execution c.args.m.now c.in-For.arg >>= λ x. visit_set c.args.m.now c.in-For.slot c.in-For.set c.in-For.place (body_execution c.args.m.now c.in-For.body) x) c.args.a.now (g.W.Words.store c.args.w.now) =
    subst (λ p. CanRun p c.args.a.now (g.W.Words.store c.args.w.now)) (ap (statement_execution c.args.m.now) c.in-For.is ∙ for_is c.args.m.now c.in-For.slot c.in-For.set c.in-For.place c.in-For.arg c.in-For.body) c.requires in
    let element = c.element.ensures ∙ ap Some c.in-Some.is in
    (search (rules, code_lemmas), (search rules, rw c.as_slice-in-Some.ensures (can_then can (given_value _ (element_given c.args.m.now c.in-For.arg c.as_slice-in-For.ensures element)))))

pub run_statement-returns-in-None : goal.run_statement-returns-in-None
run_statement-returns-in-None g t c =
    let element = c.element.ensures ∙ ap Some c.in-None.is in
    rw (c.in-For.is, for_is c.args.m.now c.in-For.slot c.in-For.set c.in-For.place c.in-For.arg c.in-For.body, c.stop.ensures) (then (given_value _ (element_given c.args.m.now c.in-For.arg c.as_slice-in-For.ensures element)) (changed (omega arith) (λ view. refl)))

pub run_statement-returns-in-Some : goal.run_statement-returns-in-Some
run_statement-returns-in-Some g t c =
    let element = c.element.ensures ∙ ap Some c.in-Some.is in
    rw (c.in-For.is, for_is c.args.m.now c.in-For.slot c.in-For.set c.in-For.place c.in-For.arg c.in-For.body) (then (given_value _ (element_given c.args.m.now c.in-For.arg c.as_slice-in-For.ensures element)) (rw c.as_slice-in-Some.ensures at c.visit.ensures))

pub run_body-loop-s-init : goal.run_body-loop-s-init
run_body-loop-s-init g t c = at_once (λ view. refl)

pub run_body-run_statement-requires : goal.run_body-run_statement-requires
run_body-run_statement-requires g t c κs within =
    let here = at_item (λ xs. body_execution c.args.m.now xs) c.args.body.now c.loop-s.s-index c.s-item.result c.loop-s-test.true c.s-item.is c.loop-s.invariant in
    (search (rules, code_lemmas), (search rules, can_first _ (can_then c.requires here)))

pub run_body-returns-in_err-run_statement : goal.run_body-returns-in_err-run_statement
run_body-returns-in_err-run_statement g t c =
    let here = at_item (λ xs. body_execution c.args.m.now xs) c.args.body.now c.loop-s.s-index c.s-item.result c.loop-s-test.true c.s-item.is c.loop-s.invariant in
    then here (stop_handed_on _ _ c.from_residual.result c.from_residual.ensures.1 c.in_err-run_statement.ensures)

pub run_body-loop-s-preserved : goal.run_body-loop-s-preserved
run_body-loop-s-preserved g t c =
    let here = at_item (λ xs. body_execution c.args.m.now xs) c.args.body.now c.loop-s.s-index c.s-item.result c.loop-s-test.true c.s-item.is c.loop-s.invariant in
    then here (given_value _ c.in_ok-run_statement.ensures)

pub run_loop-loop-is_true-init : goal.run_loop-loop-is_true-init
run_loop-loop-is_true-init g t c = at_first (trap Spent c.args.place) (truth_execution c.args.m.now c.args.test.now) (body_execution c.args.m.now c.args.body.now)

pub run_loop-truth-requires : goal.run_loop-truth-requires
run_loop-truth-requires g t c = can_first _ (can_then c.requires (is_tested (trap Spent c.args.place) (truth_execution c.args.m.now c.args.test.now) (body_execution c.args.m.now c.args.body.now) c.loop-is_true.invariant))

pub run_loop-returns-in_err-is_true : goal.run_loop-returns-in_err-is_true
run_loop-returns-in_err-is_true g t c =
    rw (err_from_is_err_and c.from_residual.result c.from_residual.ensures.1).1 (test_stopped (trap Spent c.args.place) (truth_execution c.args.m.now c.args.test.now) (body_execution c.args.m.now c.args.body.now) c.loop-is_true.invariant c.in_err-is_true.ensures)

pub run_loop-returns-then-not-is_true : goal.run_loop-returns-then-not-is_true
run_loop-returns-then-not-is_true g t c =
    ended (trap Spent c.args.place) (truth_execution c.args.m.now c.args.test.now) (body_execution c.args.m.now c.args.body.now) c.loop-is_true.invariant (rw c.if-not-is_true.true at c.in_ok-is_true.ensures)

pub run_loop-returns-then-a-eq0 : goal.run_loop-returns-then-a-eq0
run_loop-returns-then-a-eq0 g t c =
    let test = rw c.if-not-is_true.false at c.in_ok-is_true.ensures in
    let none : c.truth.new.a.turns ≡ 0 = search rules in
    out_of_turns (trap Spent c.args.place) (truth_execution c.args.m.now c.args.test.now) (body_execution c.args.m.now c.args.body.now) c.loop-is_true.invariant test none (rw c.stop.ensures (changed (omega arith) (λ view. refl)))

pub run_loop-run_body-requires : goal.run_loop-run_body-requires
run_loop-run_body-requires g t c κs within =
    let test = rw c.if-not-is_true.false at c.in_ok-is_true.ensures in
    let some : c.truth.new.a.turns ≡ suc (c.truth.new.a.turns - 1) = omega (arith, c.if-a-eq0.false) in
    let taken = turn_taken (trap Spent c.args.place) (truth_execution c.args.m.now c.args.test.now) (body_execution c.args.m.now c.args.body.now) (c.truth.new.a.turns - 1) c.loop-is_true.invariant test some in
    (search (rules, code_lemmas), (search rules, can_first _ (can_then c.requires taken.so_far)))

pub run_loop-loop-is_true-preserved : goal.run_loop-loop-is_true-preserved
run_loop-loop-is_true-preserved g t c =
    let test = rw c.if-not-is_true.false at c.in_ok-is_true.ensures in
    let some : c.truth.new.a.turns ≡ suc (c.truth.new.a.turns - 1) = omega (arith, c.if-a-eq0.false) in
    let taken = turn_taken (trap Spent c.args.place) (truth_execution c.args.m.now c.args.test.now) (body_execution c.args.m.now c.args.body.now) (c.truth.new.a.turns - 1) c.loop-is_true.invariant test some in
    again (trap Spent c.args.place) (truth_execution c.args.m.now c.args.test.now) (body_execution c.args.m.now c.args.body.now) taken c.in_ok-run_body.ensures

pub run_loop-returns-in_err-run_body : goal.run_loop-returns-in_err-run_body
run_loop-returns-in_err-run_body g t c =
    let test = rw c.if-not-is_true.false at c.in_ok-is_true.ensures in
    let some : c.truth.new.a.turns ≡ suc (c.truth.new.a.turns - 1) = omega (arith, c.if-a-eq0.false) in
    let taken = turn_taken (trap Spent c.args.place) (truth_execution c.args.m.now c.args.test.now) (body_execution c.args.m.now c.args.body.now) (c.truth.new.a.turns - 1) c.loop-is_true.invariant test some in
    then taken.so_far (stop_handed_on _ _ c.from_residual-in_err-run_body.result c.from_residual-in_err-run_body.ensures.1 c.in_err-run_body.ensures)

pub visit-members-xs-requires : goal.visit-members-xs-requires
visit-members-xs-requires g t c = set_operand_is c.args.m.now c.args.set c.args.x (set_can c.args.m.now c.args.slot (body_execution c.args.m.now c.args.body.now) c.args.set c.args.x c.requires)

pub visit-loop-member-init : goal.visit-loop-member-init
visit-loop-member-init g t c =
    rw (set_is c.args.m.now c.args.slot (body_execution c.args.m.now c.args.body.now) c.args.set c.args.x c.requires, c.members-xs.ensures) (at_once (λ view. refl))

pub visit-run_body-requires : goal.visit-run_body-requires
visit-run_body-requires g t c κs within =
    let a = c.loop-member.a in
    let more : c.loop-member.xs ≡ c.in-Some.member ∷ c.next.new.self = search rules in
    let here = rw more at c.loop-member.invariant in
    let at_body = then here (inside _ (given_value _ (changed (omega arith) (λ view. ap (λ xs. pure (tt {0}) view (record a { elements = xs })) (sym c.set_element.ensures))))) in
    (search (rules, code_lemmas), (search rules, can_first _ (can_then c.requires at_body)))

pub visit-loop-member-preserved : goal.visit-loop-member-preserved
visit-loop-member-preserved g t c =
    let a = c.loop-member.a in
    let more : c.loop-member.xs ≡ c.in-Some.member ∷ c.next.new.self = search rules in
    let here = rw more at c.loop-member.invariant in
    let at_body = then here (inside _ (given_value _ (changed (omega arith) (λ view. ap (λ xs. pure (tt {0}) view (record a { elements = xs })) (sym c.set_element.ensures))))) in
    then at_body (given_value _ c.in_ok-run_body.ensures)

pub visit-returns-in_err-run_body : goal.visit-returns-in_err-run_body
visit-returns-in_err-run_body g t c =
    let a = c.loop-member.a in
    let more : c.loop-member.xs ≡ c.in-Some.member ∷ c.next.new.self = search rules in
    let here = rw more at c.loop-member.invariant in
    let at_body = then here (inside _ (given_value _ (changed (omega arith) (λ view. ap (λ xs. pure (tt {0}) view (record a { elements = xs })) (sym c.set_element.ensures))))) in
    then at_body (stop_handed_on _ _ c.from_residual.result c.from_residual.ensures.1 c.in_err-run_body.ensures)
