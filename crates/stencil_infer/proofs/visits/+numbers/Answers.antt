use Rattle.std.proofs.Common.{map, min, sym, ap, ◌∙◌, arith}
use Rattle.stencil_infer.specs.Internal.CodeAccesses.{total, number_visits, visits_of_number_link}
use Rattle.stencil_infer.proofs.CodeClauseLemmas.{visits_number_chain, visits_number_link_is}
use Rattle.stencil_infer.proofs.VisitLemmas.{greatest, start_counted, one_counted, all_counted, chain_counted}
use Rattle.stencil_infer.proofs.visits.+numbers.Goals as goal

pub number_link_visits-loop-link-init : goal.number_link_visits-loop-link-init
number_link_visits-loop-link-init t c = record { counted = start_counted visits_of_number_link c.args.links.now; few = omega arith }

pub number_link_visits-loop-link-preserved : goal.number_link_visits-loop-link-preserved
number_link_visits-loop-link-preserved t c = record {
  counted = one_counted visits_of_number_link c.args.links.now c.loop-link.link-index c.link-item.result c.loop-link-test.true c.link-item.is c.loop-link.visits
      c.number_visits.result c.saturating_add-visits.result (min (total (map visits_of_number_link c.args.links.now)) greatest)
      (c.number_visits.ensures ∙ ap (λ n. min n greatest) (sym (visits_number_link_is c.link-item.result))) c.saturating_add-visits.ensures c.loop-link.invariant.counted;
  few = omega (arith, c.saturating_add-visits.ensures);
}

pub number_link_visits-returns : goal.number_link_visits-returns
number_link_visits-returns t c =
    all_counted visits_of_number_link c.args.links.now c.loop-link.link-index c.loop-link.visits (min (total (map visits_of_number_link c.args.links.now)) greatest)
    c.loop-link-test.false c.loop-link.invariant.few c.loop-link.invariant.counted

pub number_visits-returns-in-Chain : goal.number_visits-returns-in-Chain
number_visits-returns-in-Chain t c =
    chain_counted (number_visits c.in-Chain.first) (total (map visits_of_number_link c.in-Chain.rest)) (number_visits c.args.code.now) c.number_visits-in-Chain.result
    c.number_link_visits.result c.saturating_add-in-Chain.result c.saturating_add-in-Chain-2.result
    (ap number_visits c.in-Chain.is ∙ visits_number_chain c.in-Chain.first c.in-Chain.rest)
    (c.number_visits-in-Chain.ensures ∙ ap (λ code. min (number_visits code) greatest) c.get-in-Chain.ensures)
    (c.number_link_visits.ensures ∙ ap (λ links. min (total (map visits_of_number_link links)) greatest) c.as_slice.ensures)
    c.saturating_add-in-Chain.ensures c.saturating_add-in-Chain-2.ensures
