use Rattle.std.proofs.Common.{◌≡◌, take}
use Rattle.std.specs.List.{filter_map}
use Rattle.liszt_parser.specs.Internal.Operands.{operand_step}
use Rattle.liszt_parser.proofs.operand.step_each.Given as goal

abbrev pub invariant-loop-operand : goal.invariant-loop-operand
invariant-loop-operand l = l.next.items ≡ filter_map (λ o. operand_step o l.kind) (take l.operand-index l.operands)
