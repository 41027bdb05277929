use Rattle.std.proofs.Common.{rules, refl, sym, ap, ◌∙◌, subst, ◌≡◌, map}
use Rattle.std.proofs.lemmas.Int.{to_z-of_z}
use mir.Val.{SFits}
use mir.Syntax.{w64}
use Rattle.resolved_code.specs.declared.expressions.TruthCode.{the_lemmas as code_lemmas}
use Rattle.std.specs.Prelude.{Bool, true, false, Option, not}
use Rattle.std.proofs.Math.Bool.{beq}
use Rattle.liszt_base.specs.declared.elements.Elem.{Elem}
use Rattle.topo_operators.specs.Operators.{same}
use Rattle.code_eval.specs.Arithmetic.{holds}
use Rattle.code_eval.specs.Executions.{CanRun, pure, if_then_else, ◌>>=◌}
use Rattle.code_eval.specs.Meaning.{element_execution, number_execution, truth_execution, truth_operand, truth_rest, is_as_required}
use Rattle.code_eval.proofs.ChainLemmas.{at_item}
use Rattle.code_eval.proofs.LayerLemmas.{valid_is, not_is, truth_chain_is, compare_numbers_is, compare_elements_is}
use Rattle.code_eval.proofs.LeadingLemmas.{at_once, then, given_value, stop_handed_on, can_first, can_then}
use Rattle.code_eval.proofs.OperandLemmas.{element_can, element_given}
use Rattle.code_eval.proofs.truths.+truth.Goals as goal

is_true : (b : Bool) → b ≡ beq b true
is_true true = refl
is_true false = refl

is_false : (b : Bool) → not b ≡ beq b false
is_false true = refl
is_false false = refl

required : (is_equal : Bool) (x y : Option Elem) {b : Bool} → b ≡ same x y → is_as_required is_equal (same x y) ≡ beq b is_equal
required true x y e = rw e (is_true (same x y))
required false x y e = rw e (is_false (same x y))

pub truth-element-requires : goal.truth-element-requires
truth-element-requires g t c = element_can c.args.m.now c.in-Valid.arg c.as_slice.ensures (can_first _ (subst (λ p. CanRun p c.args.a.now (g.W.Words.store c.args.w.now)) (ap (truth_execution c.args.m.now) c.in-Valid.is ∙ valid_is c.args.m.now c.in-Valid.arg) c.requires))

pub truth-returns-in-Valid : goal.truth-returns-in-Valid
truth-returns-in-Valid g t c =
    rw (c.in-Valid.is, valid_is c.args.m.now c.in-Valid.arg)
    (then (given_value _ (element_given c.args.m.now c.in-Valid.arg c.as_slice.ensures c.element.ensures)) (at_once (λ view. ap (λ b. pure b view c.args.a.now) (sym c.valid.ensures))))

pub truth-truth-requires : goal.truth-truth-requires
truth-truth-requires g t c κs within =
    let can : CanRun (truth_execution c.args.m.now c.get.result.now) c.args.a.now (g.W.Words.store c.args.w.now) =
    rw c.get.ensures (can_first _ (subst (λ p. CanRun p c.args.a.now (g.W.Words.store c.args.w.now)) (ap (truth_execution c.args.m.now) c.in-Not.is ∙ not_is c.args.m.now c.in-Not.arg) c.requires)) in
    (search (rules, code_lemmas), (search rules, can))

pub truth-returns-in_err-b-in-Not : goal.truth-returns-in_err-b-in-Not
truth-returns-in_err-b-in-Not g t c =
    rw (c.in-Not.is, not_is c.args.m.now c.in-Not.arg, sym c.get.ensures) (stop_handed_on _ _ c.from_residual.result c.from_residual.ensures.1 c.in_err-b-in-Not.ensures)

pub truth-returns-in_ok-b-in-Not : goal.truth-returns-in_ok-b-in-Not
truth-returns-in_ok-b-in-Not g t c =
    rw (c.in-Not.is, not_is c.args.m.now c.in-Not.arg, sym c.get.ensures) (then (given_value _ c.in_ok-b-in-Not.ensures) (at_once (λ view. refl)))

pub truth-truth-requires-in-Chain : goal.truth-truth-requires-in-Chain
truth-truth-requires-in-Chain g t c κs within =
    let can : CanRun (truth_execution c.args.m.now c.get-in-Chain.result.now) c.args.a.now (g.W.Words.store c.args.w.now) =
    rw c.get-in-Chain.ensures (can_first _ (subst (λ p. CanRun p c.args.a.now (g.W.Words.store c.args.w.now)) (ap (truth_execution c.args.m.now) c.in-Chain.is ∙ truth_chain_is c.args.m.now c.in-Chain.first c.in-Chain.rest) c.requires)) in
    (search (rules, code_lemmas), (search rules, can))

pub truth-returns-in_err-b-in-Chain : goal.truth-returns-in_err-b-in-Chain
truth-returns-in_err-b-in-Chain g t c =
    rw (c.in-Chain.is, truth_chain_is c.args.m.now c.in-Chain.first c.in-Chain.rest, sym c.get-in-Chain.ensures) (stop_handed_on _ _ c.from_residual-in_err-b-in-Chain.result c.from_residual-in_err-b-in-Chain.ensures.1 c.in_err-b-in-Chain.ensures)

pub truth-chain-requires : goal.truth-chain-requires
truth-chain-requires g t c κs within =
    let can : CanRun (truth_execution c.args.m.now c.get-in-Chain.result.now >>= λ b. truth_rest b (map (truth_operand c.args.m.now) c.in-Chain.rest)) c.args.a.now (g.W.Words.store c.args.w.now) =
    rw c.get-in-Chain.ensures (subst (λ p. CanRun p c.args.a.now (g.W.Words.store c.args.w.now)) (ap (truth_execution c.args.m.now) c.in-Chain.is ∙ truth_chain_is c.args.m.now c.in-Chain.first c.in-Chain.rest) c.requires) in
    (search (rules, code_lemmas), (search rules, rw c.as_slice-in-Chain.ensures (can_then can (given_value _ c.in_ok-b-in-Chain.ensures))))

pub truth-returns-in_ok-b-in-Chain : goal.truth-returns-in_ok-b-in-Chain
truth-returns-in_ok-b-in-Chain g t c =
    rw (c.in-Chain.is, truth_chain_is c.args.m.now c.in-Chain.first c.in-Chain.rest, sym c.get-in-Chain.ensures)
    (then (given_value _ c.in_ok-b-in-Chain.ensures) (rw (sym c.as_slice-in-Chain.ensures) c.chain.ensures))

pub truth-number-requires : goal.truth-number-requires
truth-number-requires g t c = can_first _ (subst (λ p. CanRun p c.args.a.now (g.W.Words.store c.args.w.now)) (ap (truth_execution c.args.m.now) c.in-CompareNumbers.is ∙ compare_numbers_is c.args.m.now c.in-CompareNumbers.rel c.in-CompareNumbers.left c.in-CompareNumbers.right) c.requires)

pub truth-returns-in_err-n-in-CompareNumbers : goal.truth-returns-in_err-n-in-CompareNumbers
truth-returns-in_err-n-in-CompareNumbers g t c =
    rw (c.in-CompareNumbers.is, compare_numbers_is c.args.m.now c.in-CompareNumbers.rel c.in-CompareNumbers.left c.in-CompareNumbers.right) (stop_handed_on _ _ c.from_residual-in_err-n-in-CompareNumbers.result c.from_residual-in_err-n-in-CompareNumbers.ensures.1 c.in_err-n-in-CompareNumbers.ensures)

pub truth-number-requires-in-CompareNumbers : goal.truth-number-requires-in-CompareNumbers
truth-number-requires-in-CompareNumbers g t c =
    let can : CanRun (number_execution c.args.m.now c.in-CompareNumbers.left >>= λ a. number_execution c.args.m.now c.in-CompareNumbers.right >>= λ b. pure (holds c.in-CompareNumbers.rel a b)) c.args.a.now (g.W.Words.store c.args.w.now) =
    subst (λ p. CanRun p c.args.a.now (g.W.Words.store c.args.w.now)) (ap (truth_execution c.args.m.now) c.in-CompareNumbers.is ∙ compare_numbers_is c.args.m.now c.in-CompareNumbers.rel c.in-CompareNumbers.left c.in-CompareNumbers.right) c.requires in
    can_first _ (can_then can (given_value _ c.in_ok-n-in-CompareNumbers.ensures))

pub truth-returns-in_err-k-in-CompareNumbers : goal.truth-returns-in_err-k-in-CompareNumbers
truth-returns-in_err-k-in-CompareNumbers g t c =
    rw (c.in-CompareNumbers.is, compare_numbers_is c.args.m.now c.in-CompareNumbers.rel c.in-CompareNumbers.left c.in-CompareNumbers.right)
    (then (given_value _ c.in_ok-n-in-CompareNumbers.ensures)
    (stop_handed_on _ _ c.from_residual-in_err-k-in-CompareNumbers.result c.from_residual-in_err-k-in-CompareNumbers.ensures.1 c.in_err-k-in-CompareNumbers.ensures))

pub truth-returns-in_ok-k-in-CompareNumbers : goal.truth-returns-in_ok-k-in-CompareNumbers
truth-returns-in_ok-k-in-CompareNumbers g t c =
    let n : SFits w64 c.in_ok-n-in-CompareNumbers.n = search rules in
    let k : SFits w64 c.in_ok-k-in-CompareNumbers.k = search rules in
    let value = rw (to_z-of_z w64 c.in_ok-n-in-CompareNumbers.n n, to_z-of_z w64 c.in_ok-k-in-CompareNumbers.k k) at c.compare.ensures in
    rw (c.in-CompareNumbers.is, compare_numbers_is c.args.m.now c.in-CompareNumbers.rel c.in-CompareNumbers.left c.in-CompareNumbers.right)
    (then (given_value _ c.in_ok-n-in-CompareNumbers.ensures) (then (given_value _ c.in_ok-k-in-CompareNumbers.ensures)
    (at_once (λ view. ap (λ b. pure b view c.number-in-CompareNumbers.new.a) (sym value)))))

pub truth-element-x-requires : goal.truth-element-x-requires
truth-element-x-requires g t c = element_can c.args.m.now c.in-CompareElements.left c.as_slice-in-CompareElements.ensures (can_first _ (subst (λ p. CanRun p c.args.a.now (g.W.Words.store c.args.w.now)) (ap (truth_execution c.args.m.now) c.in-CompareElements.is ∙ compare_elements_is c.args.m.now c.in-CompareElements.is_equal c.in-CompareElements.left c.in-CompareElements.right) c.requires))

pub truth-element-y-requires : goal.truth-element-y-requires
truth-element-y-requires g t c =
    let can : CanRun (element_execution c.args.m.now c.in-CompareElements.left >>= λ x. element_execution c.args.m.now c.in-CompareElements.right >>= λ y. pure (is_as_required c.in-CompareElements.is_equal (same x y))) c.args.a.now (g.W.Words.store c.args.w.now) =
    subst (λ p. CanRun p c.args.a.now (g.W.Words.store c.args.w.now)) (ap (truth_execution c.args.m.now) c.in-CompareElements.is ∙ compare_elements_is c.args.m.now c.in-CompareElements.is_equal c.in-CompareElements.left c.in-CompareElements.right) c.requires in
    element_can c.args.m.now c.in-CompareElements.right c.as_slice-in-CompareElements-2.ensures
    (can_first _ (can_then can (given_value _ (element_given c.args.m.now c.in-CompareElements.left c.as_slice-in-CompareElements.ensures c.element-x.ensures))))

pub truth-returns-in-CompareElements : goal.truth-returns-in-CompareElements
truth-returns-in-CompareElements g t c =
    rw (c.in-CompareElements.is, compare_elements_is c.args.m.now c.in-CompareElements.is_equal c.in-CompareElements.left c.in-CompareElements.right)
    (then (given_value _ (element_given c.args.m.now c.in-CompareElements.left c.as_slice-in-CompareElements.ensures c.element-x.ensures))
    (then (given_value _ (element_given c.args.m.now c.in-CompareElements.right c.as_slice-in-CompareElements-2.ensures c.element-y.ensures))
    (at_once (λ view. ap (λ b. pure b view c.args.a.now) (required c.in-CompareElements.is_equal c.element-x.result c.element-y.result c.same.ensures)))))

pub chain-loop-link-init : goal.chain-loop-link-init
chain-loop-link-init g t c = at_once (λ view. refl)

pub chain-connected-requires : goal.chain-connected-requires
chain-connected-requires g t c κs within =
    let here = at_item (λ xs. truth_rest c.loop-link.b (map (truth_operand c.args.m.now) xs)) c.args.rest.now c.loop-link.link-index c.link-item.result c.loop-link-test.true c.link-item.is c.loop-link.invariant in
    (search (rules, code_lemmas), (search rules, can_first _ (can_then c.requires here)))

pub chain-returns-in_err-b : goal.chain-returns-in_err-b
chain-returns-in_err-b g t c =
    let here = at_item (λ xs. truth_rest c.loop-link.b (map (truth_operand c.args.m.now) xs)) c.args.rest.now c.loop-link.link-index c.link-item.result c.loop-link-test.true c.link-item.is c.loop-link.invariant in
    then here (stop_handed_on _ _ c.from_residual.result c.from_residual.ensures.1 c.in_err-b.ensures)

pub chain-loop-link-preserved : goal.chain-loop-link-preserved
chain-loop-link-preserved g t c =
    let here = at_item (λ xs. truth_rest c.loop-link.b (map (truth_operand c.args.m.now) xs)) c.args.rest.now c.loop-link.link-index c.link-item.result c.loop-link-test.true c.link-item.is c.loop-link.invariant in
    then here (given_value _ c.in_ok-b.ensures)

pub connected-truth-requires : goal.connected-truth-requires
connected-truth-requires g t c κs within = (
  search (rules, code_lemmas),
  (
    search rules,
    subst (λ d. CanRun (if_then_else d (pure c.args.b) (truth_execution c.args.m.now c.args.link.now.arg)) c.args.a.now (g.W.Words.store c.args.w.now))
        (sym c.is_decided.ensures ∙ c.if-is_decided.false) c.requires,
  ),
)

pub connected-returns-then-is_decided : goal.connected-returns-then-is_decided
connected-returns-then-is_decided g t c = rw (sym c.is_decided.ensures ∙ c.if-is_decided.true) (at_once (λ view. refl))

pub connected-returns-else-is_decided : goal.connected-returns-else-is_decided
connected-returns-else-is_decided g t c = rw (sym c.is_decided.ensures ∙ c.if-is_decided.false) c.truth.ensures
