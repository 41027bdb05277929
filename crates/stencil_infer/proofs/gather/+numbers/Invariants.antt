use Rattle.std.proofs.Common.{map, drop}
use Rattle.stencil_infer.specs.Internal.CodeAccesses.{joined, number_link_accesses}
use Rattle.stencil_infer.proofs.GatherLemmas.{Leads}
use Rattle.stencil_infer.proofs.gather.+numbers.Given as goal

abbrev pub invariant-gather_number_links-loop-link : goal.invariant-gather_number_links-loop-link
invariant-gather_number_links-loop-link l =
    record {
      adds : Leads (joined (map (number_link_accesses l.m l.slots) (drop l.link-index l.links)))
          (joined (map (number_link_accesses l.fn.m l.fn.slots) l.fn.links)) l.set l.fn.set;
    }
