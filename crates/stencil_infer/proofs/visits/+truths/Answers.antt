use Rattle.std.proofs.Common.{map, min, sym, ap, ◌∙◌, arith}
use Rattle.stencil_infer.specs.Internal.CodeAccesses.{total, truth_visits, visits_of_truth_link}
use Rattle.stencil_infer.proofs.CodeClauseLemmas.{visits_truth_chain, visits_truth_link_is}
use Rattle.stencil_infer.proofs.VisitLemmas.{greatest, start_counted, one_counted, all_counted, chain_counted}
use Rattle.stencil_infer.proofs.visits.+truths.Goals as goal

pub truth_link_visits-loop-link-init : goal.truth_link_visits-loop-link-init
truth_link_visits-loop-link-init t c = record { counted = start_counted visits_of_truth_link c.args.links.now; few = omega arith }

pub truth_link_visits-loop-link-preserved : goal.truth_link_visits-loop-link-preserved
truth_link_visits-loop-link-preserved t c = record {
  counted = one_counted visits_of_truth_link c.args.links.now c.loop-link.link-index c.link-item.result c.loop-link-test.true c.link-item.is c.loop-link.visits
      c.truth_visits.result c.saturating_add-visits.result (min (total (map visits_of_truth_link c.args.links.now)) greatest)
      (c.truth_visits.ensures ∙ ap (λ n. min n greatest) (sym (visits_truth_link_is c.link-item.result))) c.saturating_add-visits.ensures c.loop-link.invariant.counted;
  few = omega (arith, c.saturating_add-visits.ensures);
}

pub truth_link_visits-returns : goal.truth_link_visits-returns
truth_link_visits-returns t c =
    all_counted visits_of_truth_link c.args.links.now c.loop-link.link-index c.loop-link.visits (min (total (map visits_of_truth_link c.args.links.now)) greatest)
    c.loop-link-test.false c.loop-link.invariant.few c.loop-link.invariant.counted

pub truth_visits-returns-in-Chain : goal.truth_visits-returns-in-Chain
truth_visits-returns-in-Chain t c =
    chain_counted (truth_visits c.in-Chain.first) (total (map visits_of_truth_link c.in-Chain.rest)) (truth_visits c.args.code.now) c.truth_visits-in-Chain.result
    c.truth_link_visits.result c.saturating_add-in-Chain.result c.saturating_add-in-Chain-2.result
    (ap truth_visits c.in-Chain.is ∙ visits_truth_chain c.in-Chain.first c.in-Chain.rest)
    (c.truth_visits-in-Chain.ensures ∙ ap (λ code. min (truth_visits code) greatest) c.get-in-Chain.ensures)
    (c.truth_link_visits.ensures ∙ ap (λ links. min (total (map visits_of_truth_link links)) greatest) c.as_slice.ensures)
    c.saturating_add-in-Chain.ensures c.saturating_add-in-Chain-2.ensures
