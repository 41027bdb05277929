use Rattle.std.proofs.Common.{arith, ◌+◌, ◌≡◌, ap, ◌∙◌}
use Rattle.std.specs.Prelude.{not}
use Rattle.std.specs.List.{count_by}
use Rattle.liszt_parser.specs.Depth.{depth}
use Rattle.liszt_parser.specs.Internal.Operands.{is_named}
use Rattle.liszt_parser.proofs.NestingLemmas.{depth_is, deep_by}
use Rattle.liszt_parser.proofs.operand.Nesting.is_too_deep.Goals as goal

pub returns-else-brackets-gt-DEPTH_LIMIT : goal.returns-else-brackets-gt-DEPTH_LIMIT
returns-else-brackets-gt-DEPTH_LIMIT c = λ front n.
    let is = depth_is front n.last _ n.waits in
    let waits = c.count_waiting.ensures ∙ ap (count_by (λ o. not (is_named o))) c.as_slice.ensures.value in
    let sum : depth front ≡ c.saturating_sub-brackets.result + c.count_waiting.result =
    omega (arith, is, waits, n.opened, n.closed, c.saturating_sub-brackets.ensures) in
    deep_by c.saturating_sub-brackets.result c.count_waiting.result (depth front) (omega (arith, c.if-brackets-gt-DEPTH_LIMIT.false)) sum
