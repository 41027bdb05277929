use Rattle.std.proofs.Common.{[], ◌∷◌, ◌++◌, ap, sym, ◌∙◌}
use Rattle.liszt_parser.proofs.NestingLemmas.{keeps, drops}
use Rattle.liszt_parser.proofs.operand.step_each.Goals.{in-Some+in_ok-push, in_default}
use Rattle.liszt_parser.proofs.operand.step_each.Goals as goal

pub loop-operand-preserved : goal.loop-operand-preserved
loop-operand-preserved c =
    elim c.match-step.branch [
      | in-Some+in_ok-push w ↦
          ap (λ v. v.items) w.next-is ∙ w.in_ok-push.ensures.items ∙ ap (λ l. l ++ w.in-Some.operand ∷ []) c.loop-operand.invariant
          ∙ sym (keeps _ _ _ _ _ c.loop-operand-test.true (sym c.step.ensures ∙ w.in-Some.is))
      | in_default w ↦
          ap (λ v. v.items) w.next-is ∙ c.loop-operand.invariant ∙ sym (drops _ _ _ _ c.loop-operand-test.true (sym c.step.ensures ∙ w.in_default.is))
    ]
