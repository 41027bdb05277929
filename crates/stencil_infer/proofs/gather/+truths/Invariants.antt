use Rattle.std.proofs.Common.{map, drop}
use Rattle.stencil_infer.specs.Internal.CodeAccesses.{joined, truth_link_accesses}
use Rattle.stencil_infer.proofs.GatherLemmas.{Leads}
use Rattle.stencil_infer.proofs.gather.+truths.Given as goal

abbrev pub invariant-gather_truth_links-loop-link : goal.invariant-gather_truth_links-loop-link
invariant-gather_truth_links-loop-link l =
    record {
      adds : Leads (joined (map (truth_link_accesses l.m l.slots) (drop l.link-index l.links)))
          (joined (map (truth_link_accesses l.fn.m l.fn.slots) l.fn.links)) l.set l.fn.set;
    }
