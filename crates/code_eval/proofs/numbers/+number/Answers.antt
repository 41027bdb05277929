use Rattle.std.proofs.Common.{rules, refl, sym, ap, ◌∙◌, subst, ◌≡◌, get_or, pos, Err, map, neg_ℤ}
use Rattle.std.proofs.lemmas.Int.{to_z-of_z}
use mir.Val.{to_z, of_z, SFits}
use mir.Syntax.{w64}
use Rattle.resolved_code.specs.declared.expressions.NumberCode.{the_lemmas as code_lemmas}
use Rattle.code_eval.specs.Arithmetic.{in_range}
use Rattle.code_eval.specs.Executions.{CanRun, LeadsTo, answered, pure, stop_in, ◌>>=◌}
use Rattle.code_eval.specs.Meaning.{element_execution, field_read, number_execution, number_operand, number_or_trap, number_rest, operator_result}
use Rattle.code_eval.specs.Stops.{Trapped}
use Rattle.code_eval.proofs.ChainLemmas.{at_item}
use Rattle.code_eval.proofs.LayerLemmas.{constant_is, local_is, scalar_is, field_is, id_is, neg_is, chain_is}
use Rattle.code_eval.proofs.LeadingLemmas.{at_once, then, given_value, stopped, stop_handed_on, can_first, can_then, number_given}
use Rattle.code_eval.proofs.OperandLemmas.{element_can, element_given}
use Rattle.code_eval.proofs.numbers.+number.Goals as goal

pub number-returns-in-Constant : goal.number-returns-in-Constant
number-returns-in-Constant g t c =
    let fits : SFits w64 c.in-Constant.value = search rules in
    rw (c.in-Constant.is, constant_is c.args.m.now c.in-Constant.value) (number_given fits (at_once (λ view. refl)))

pub number-returns-in-Local : goal.number-returns-in-Local
number-returns-in-Local g t c =
    let fits : SFits w64 c.number_at.result = search rules in
    let value : c.number_at.result ≡ get_or c.args.a.now.numbers c.in-Local.slot (pos 0) = search rules in
    rw (c.in-Local.is, local_is c.args.m.now c.in-Local.slot) (number_given fits (at_once (λ view. rw value refl)))

pub number-returns-in-Scalar : goal.number-returns-in-Scalar
number-returns-in-Scalar g t c =
    let fits : SFits w64 c.number_at-in-Scalar.result = search rules in
    let value : c.number_at-in-Scalar.result ≡ get_or c.args.a.now.scalars c.in-Scalar.scalar (pos 0) = search rules in
    rw (c.in-Scalar.is, scalar_is c.args.m.now c.in-Scalar.scalar) (number_given fits (at_once (λ view. rw value refl)))

pub number-element-x-requires : goal.number-element-x-requires
number-element-x-requires g t c = element_can c.args.m.now c.in-Field.arg c.as_slice-in-Field.ensures (can_first _ (subst (λ p. CanRun p c.args.a.now (g.W.Words.store c.args.w.now)) (ap (number_execution c.args.m.now) c.in-Field.is ∙ field_is c.args.m.now c.in-Field.place c.in-Field.field c.in-Field.arg) c.requires))

pub number-read_field-requires : goal.number-read_field-requires
number-read_field-requires g t c =
    let can : CanRun (element_execution c.args.m.now c.in-Field.arg >>= λ x. field_read c.args.m.now c.in-Field.place c.in-Field.field x) c.args.a.now (g.W.Words.store c.args.w.now) =
    subst (λ p. CanRun p c.args.a.now (g.W.Words.store c.args.w.now)) (ap (number_execution c.args.m.now) c.in-Field.is ∙ field_is c.args.m.now c.in-Field.place c.in-Field.field c.in-Field.arg) c.requires in
    can_then can (given_value _ (element_given c.args.m.now c.in-Field.arg c.as_slice-in-Field.ensures c.element-x.ensures))

pub number-returns-in-Field : goal.number-returns-in-Field
number-returns-in-Field g t c =
    rw (c.in-Field.is, field_is c.args.m.now c.in-Field.place c.in-Field.field c.in-Field.arg)
    (then (given_value _ (element_given c.args.m.now c.in-Field.arg c.as_slice-in-Field.ensures c.element-x.ensures)) c.read_field.ensures)

pub number-element-x-requires-in-Id : goal.number-element-x-requires-in-Id
number-element-x-requires-in-Id g t c = element_can c.args.m.now c.in-Id.arg c.as_slice-in-Id.ensures (can_first _ (subst (λ p. CanRun p c.args.a.now (g.W.Words.store c.args.w.now)) (ap (number_execution c.args.m.now) c.in-Id.is ∙ id_is c.args.m.now c.in-Id.place c.in-Id.arg) c.requires))

pub number-returns-in-Id : goal.number-returns-in-Id
number-returns-in-Id g t c =
    rw (c.in-Id.is, id_is c.args.m.now c.in-Id.place c.in-Id.arg)
    (then (given_value _ (element_given c.args.m.now c.in-Id.arg c.as_slice-in-Id.ensures c.element-x-in-Id.ensures)) (c.id_at.ensures _))

pub number-number-requires : goal.number-number-requires
number-number-requires g t c κs within =
    let can : CanRun (number_execution c.args.m.now c.get.result.now) c.args.a.now (g.W.Words.store c.args.w.now) =
    rw c.get.ensures (can_first _ (subst (λ p. CanRun p c.args.a.now (g.W.Words.store c.args.w.now)) (ap (number_execution c.args.m.now) c.in-Neg.is ∙ neg_is c.args.m.now c.in-Neg.place c.in-Neg.arg) c.requires)) in
    (search (rules, code_lemmas), (search rules, can))

pub number-returns-in_err-n-in-Neg : goal.number-returns-in_err-n-in-Neg
number-returns-in_err-n-in-Neg g t c =
    rw (c.in-Neg.is, neg_is c.args.m.now c.in-Neg.place c.in-Neg.arg, sym c.get.ensures) (stop_handed_on _ _ c.from_residual.result c.from_residual.ensures.1 c.in_err-n-in-Neg.ensures)

pub number-returns-in_ok-n-in-Neg : goal.number-returns-in_ok-n-in-Neg
number-returns-in_ok-n-in-Neg g t c =
    let fits : SFits w64 c.in_ok-n-in-Neg.n = search rules in
    let negation : c.negate.result ≡ in_range (neg_ℤ c.in_ok-n-in-Neg.n) = rw (to_z-of_z w64 c.in_ok-n-in-Neg.n fits) at c.negate.ensures in
    let result = subst (λ r. LeadsTo (number_or_trap c.in-Neg.place r) c.number.new.a (g.W.Words.store c.number.new.w) (answered (stop_in c.number_or_trap.result c.number_or_trap.new.a)) c.number_or_trap.new.a (g.W.Words.store c.number.new.w)) negation (c.number_or_trap.ensures (g.W.Words.store c.number.new.w)) in
    rw (c.in-Neg.is, neg_is c.args.m.now c.in-Neg.place c.in-Neg.arg, sym c.get.ensures) (then (given_value _ c.in_ok-n-in-Neg.ensures) result)

pub number-number-requires-in-Chain : goal.number-number-requires-in-Chain
number-number-requires-in-Chain g t c κs within =
    let can : CanRun (number_execution c.args.m.now c.get-in-Chain.result.now) c.args.a.now (g.W.Words.store c.args.w.now) =
    rw c.get-in-Chain.ensures (can_first _ (subst (λ p. CanRun p c.args.a.now (g.W.Words.store c.args.w.now)) (ap (number_execution c.args.m.now) c.in-Chain.is ∙ chain_is c.args.m.now c.in-Chain.first c.in-Chain.rest) c.requires)) in
    (search (rules, code_lemmas), (search rules, can))

pub number-returns-in_err-n-in-Chain : goal.number-returns-in_err-n-in-Chain
number-returns-in_err-n-in-Chain g t c =
    rw (c.in-Chain.is, chain_is c.args.m.now c.in-Chain.first c.in-Chain.rest, sym c.get-in-Chain.ensures) (stop_handed_on _ _ c.from_residual-in_err-n-in-Chain.result c.from_residual-in_err-n-in-Chain.ensures.1 c.in_err-n-in-Chain.ensures)

pub number-chain-requires : goal.number-chain-requires
number-chain-requires g t c κs within =
    let fits : SFits w64 c.in_ok-n-in-Chain.n = search rules in
    let can : CanRun (number_execution c.args.m.now c.get-in-Chain.result.now >>= λ n. number_rest n (map (number_operand c.args.m.now) c.in-Chain.rest)) c.args.a.now (g.W.Words.store c.args.w.now) =
    rw c.get-in-Chain.ensures (subst (λ p. CanRun p c.args.a.now (g.W.Words.store c.args.w.now)) (ap (number_execution c.args.m.now) c.in-Chain.is ∙ chain_is c.args.m.now c.in-Chain.first c.in-Chain.rest) c.requires) in
    (search (rules, code_lemmas), (search rules, rw (to_z-of_z w64 c.in_ok-n-in-Chain.n fits, c.as_slice-in-Chain.ensures) (can_then can (given_value _ c.in_ok-n-in-Chain.ensures))))

pub number-returns-in_ok-n-in-Chain : goal.number-returns-in_ok-n-in-Chain
number-returns-in_ok-n-in-Chain g t c =
    let fits : SFits w64 c.in_ok-n-in-Chain.n = search rules in
    rw (c.in-Chain.is, chain_is c.args.m.now c.in-Chain.first c.in-Chain.rest, sym c.get-in-Chain.ensures)
    (then (given_value _ c.in_ok-n-in-Chain.ensures) (rw (sym c.as_slice-in-Chain.ensures) (rw (to_z-of_z w64 c.in_ok-n-in-Chain.n fits) at c.chain.ensures)))

pub chain-number-requires : goal.chain-number-requires
chain-number-requires g t c κs within =
    let whole : to_z w64 (of_z w64 c.args.first) ≡ c.args.first = to_z-of_z w64 c.args.first c.ranges.first in
    let so_far = rw whole at c.loop-link.invariant in
    let here = at_item (λ xs. number_rest (to_z w64 c.loop-link.n-bits) (map (number_operand c.args.m.now) xs)) c.args.rest.now c.loop-link.link-index c.link-item.result c.loop-link-test.true c.link-item.is so_far in
    (search (rules, code_lemmas), (search rules, can_first _ (can_first _ (can_then c.requires here))))

pub chain-loop-link-init : goal.chain-loop-link-init
chain-loop-link-init g t c = at_once (λ view. refl)

pub chain-returns-in_err-k : goal.chain-returns-in_err-k
chain-returns-in_err-k g t c =
    let whole : to_z w64 (of_z w64 c.args.first) ≡ c.args.first = to_z-of_z w64 c.args.first c.ranges.first in
    let so_far = rw whole at c.loop-link.invariant in
    let here = at_item (λ xs. number_rest (to_z w64 c.loop-link.n-bits) (map (number_operand c.args.m.now) xs)) c.args.rest.now c.loop-link.link-index c.link-item.result c.loop-link-test.true c.link-item.is so_far in
    then here (stop_handed_on _ _ c.from_residual.result c.from_residual.ensures.1 (stopped _ c.in_err-k.ensures))

pub chain-returns-in_err-n : goal.chain-returns-in_err-n
chain-returns-in_err-n g t c =
    let whole : to_z w64 (of_z w64 c.args.first) ≡ c.args.first = to_z-of_z w64 c.args.first c.ranges.first in
    let so_far = rw whole at c.loop-link.invariant in
    let here = at_item (λ xs. number_rest (to_z w64 c.loop-link.n-bits) (map (number_operand c.args.m.now) xs)) c.args.rest.now c.loop-link.link-index c.link-item.result c.loop-link-test.true c.link-item.is so_far in
    let k : SFits w64 c.in_ok-k.k = search rules in
    let result : LeadsTo (operator_result c.link-item.result.op c.link-item.result.place (to_z w64 c.loop-link.n-bits) c.in_ok-k.k) c.number.new.a (g.W.Words.store c.number.new.w) (answered (Err (Trapped c.number_or_trap.new.a.trap))) c.number_or_trap.new.a (g.W.Words.store c.number.new.w) =
    subst (λ k. LeadsTo (operator_result c.link-item.result.op c.link-item.result.place (to_z w64 c.loop-link.n-bits) k) c.number.new.a (g.W.Words.store c.number.new.w) (answered (Err (Trapped c.number_or_trap.new.a.trap))) c.number_or_trap.new.a (g.W.Words.store c.number.new.w)) (to_z-of_z w64 c.in_ok-k.k k) (subst (λ r. LeadsTo (number_or_trap c.link-item.result.place r) c.number.new.a (g.W.Words.store c.number.new.w) (answered (Err (Trapped c.number_or_trap.new.a.trap))) c.number_or_trap.new.a (g.W.Words.store c.number.new.w)) c.operate.ensures (c.in_err-n.ensures (g.W.Words.store c.number.new.w))) in
    then here (stop_handed_on _ _ c.from_residual-in_err-n.result c.from_residual-in_err-n.ensures.1 (then (given_value _ c.in_ok-k.ensures) result))

pub chain-loop-link-preserved : goal.chain-loop-link-preserved
chain-loop-link-preserved g t c =
    let here = at_item (λ xs. number_rest (to_z w64 c.loop-link.n-bits) (map (number_operand c.args.m.now) xs)) c.args.rest.now c.loop-link.link-index c.link-item.result c.loop-link-test.true c.link-item.is c.loop-link.invariant in
    let k : SFits w64 c.in_ok-k.k = search rules in
    let result : LeadsTo (operator_result c.link-item.result.op c.link-item.result.place (to_z w64 c.loop-link.n-bits) c.in_ok-k.k) c.number.new.a (g.W.Words.store c.number.new.w) (pure c.in_ok-n.n) c.number_or_trap.new.a (g.W.Words.store c.number.new.w) =
    subst (λ k. LeadsTo (operator_result c.link-item.result.op c.link-item.result.place (to_z w64 c.loop-link.n-bits) k) c.number.new.a (g.W.Words.store c.number.new.w) (pure c.in_ok-n.n) c.number_or_trap.new.a (g.W.Words.store c.number.new.w)) (to_z-of_z w64 c.in_ok-k.k k) (subst (λ r. LeadsTo (number_or_trap c.link-item.result.place r) c.number.new.a (g.W.Words.store c.number.new.w) (pure c.in_ok-n.n) c.number_or_trap.new.a (g.W.Words.store c.number.new.w)) c.operate.ensures (c.in_ok-n.ensures (g.W.Words.store c.number.new.w))) in
    let n : SFits w64 c.in_ok-n.n = search rules in
    rw (to_z-of_z w64 c.in_ok-n.n n) (then here (given_value _ (then (given_value _ c.in_ok-k.ensures) result)))
