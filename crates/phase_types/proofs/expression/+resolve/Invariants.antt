use Rattle.std.proofs.Common.{◌≡◌, drop}
use Rattle.phase_types.proofs.LoopLemmas.{links_after}
use Rattle.phase_types.proofs.expression.+resolve.Given as goal

abbrev pub invariant-resolve_links-loop-link : goal.invariant-resolve_links-loop-link
invariant-resolve_links-loop-link l = links_after l.names l.accesses l.done (drop l.link-index l.links) ≡ links_after l.fn.names l.fn.accesses l.fn.chain l.fn.links
