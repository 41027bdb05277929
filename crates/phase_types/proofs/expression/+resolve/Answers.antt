use Rattle.std.proofs.Common.{rules}
use Rattle.phase_types.proofs.LoopLemmas.{operand_stops, handed_on}
use Rattle.phase_types.proofs.expression.+resolve.Goals as goal

pub resolve_links-returns-in_err-operand : goal.resolve_links-returns-in_err-operand
resolve_links-returns-in_err-operand t c =
    handed_on _ c.from_residual.result c.resolve_expression.new.accesses c.in_err-operand.field-0.0 c.from_residual.ensures.1
    (operand_stops c.args.names.now c.loop-link.accesses c.loop-link.done c.args.links.now c.loop-link.link-index c.link-item.result (search rules) c.link-item.is c.loop-link.invariant c.in_err-operand.field-0.0 c.in_err-operand.ensures)
