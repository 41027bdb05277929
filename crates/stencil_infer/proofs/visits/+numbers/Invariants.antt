use Rattle.std.proofs.Common.{◌≡◌, ◌≤◌, map, min, drop}
use Rattle.stencil_infer.specs.Internal.CodeAccesses.{total, visits_of_number_link}
use Rattle.stencil_infer.proofs.VisitLemmas.{counted, greatest}
use Rattle.stencil_infer.proofs.visits.+numbers.Given as goal

abbrev pub invariant-number_link_visits-loop-link : goal.invariant-number_link_visits-loop-link
invariant-number_link_visits-loop-link l =
    record {
      counted : counted visits_of_number_link l.visits (drop l.link-index l.links) ≡ min (total (map visits_of_number_link l.fn.links)) greatest;
      few : l.visits ≤ greatest;
    }
