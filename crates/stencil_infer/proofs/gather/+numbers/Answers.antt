use Rattle.std.proofs.Common.{rules, ◌++◌, map, sym, ap, subst, ◌∙◌}
use Rattle.resolved_code.specs.declared.expressions.NumberCode.{the_lemmas}
use Rattle.stencil_infer.specs.Internal.AccessSets.{Adds}
use Rattle.stencil_infer.specs.Internal.CodeAccesses.{joined, fits_of_number_link, number_accesses, number_link_accesses}
use Rattle.stencil_infer.proofs.CodeClauseLemmas.{number_chain, number_link_is}
use Rattle.stencil_infer.proofs.CountLemmas.{fit_of_each}
use Rattle.stencil_infer.proofs.FitClauseLemmas.{fits_number_link}
use Rattle.stencil_infer.proofs.GatherLemmas.{leads_start, link_step, link_end, two_adds}
use Rattle.stencil_infer.proofs.gather.+numbers.Goals as goal

pub gather_number-returns-in_ok-gather_number-in-Chain : goal.gather_number-returns-in_ok-gather_number-in-Chain
gather_number-returns-in_ok-gather_number-in-Chain t c =
    let first = number_accesses c.args.m.now c.args.slots.now c.get-in-Chain.result.now in
    let rest = joined (map (number_link_accesses c.args.m.now c.args.slots.now) c.as_slice.result.now) in
    two_adds first rest (number_accesses c.args.m.now c.args.slots.now c.args.code.now) c.args.set.now c.gather_number-in-Chain.new.set c.gather_number_links.new.set
    c.gather_number_links.result
    (ap (number_accesses c.args.m.now c.args.slots.now) c.in-Chain.is ∙ number_chain c.args.m.now c.args.slots.now c.in-Chain.first c.in-Chain.rest
    ∙ ap (λ code. number_accesses c.args.m.now c.args.slots.now code ++ joined (map (number_link_accesses c.args.m.now c.args.slots.now) c.in-Chain.rest)) (sym c.get-in-Chain.ensures)
    ∙ ap (λ links. first ++ joined (map (number_link_accesses c.args.m.now c.args.slots.now) links)) (sym c.as_slice.ensures))
    c.in_ok-gather_number-in-Chain.ensures c.gather_number_links.ensures

pub gather_number_links-loop-link-init : goal.gather_number_links-loop-link-init
gather_number_links-loop-link-init t c = record { adds = leads_start (joined (map (number_link_accesses c.args.m.now c.args.slots.now) c.args.links.now)) c.args.set.now }

pub gather_number_links-gather_number-requires : goal.gather_number_links-gather_number-requires
gather_number_links-gather_number-requires t c = (
  search (rules, the_lemmas),
  (
    c.requires.slots,
    sym (fits_number_link c.args.kinds.now c.link-item.result)
        ∙ fit_of_each (fits_of_number_link c.args.kinds.now) c.args.links.now c.loop-link.link-index c.link-item.result c.requires.code c.loop-link-test.true c.link-item.is,
  ),
)

pub gather_number_links-loop-link-preserved : goal.gather_number_links-loop-link-preserved
gather_number_links-loop-link-preserved t c = record {
  adds = link_step (number_link_accesses c.args.m.now c.args.slots.now) c.args.links.now c.loop-link.link-index c.link-item.result
      (joined (map (number_link_accesses c.args.m.now c.args.slots.now) c.args.links.now)) c.loop-link.set c.gather_number.new.set c.args.set.now c.loop-link-test.true c.link-item.is
      c.loop-link.invariant.adds
      (subst (λ accesses. Adds accesses c.loop-link.set c.gather_number.new.set) (sym (number_link_is c.args.m.now c.args.slots.now c.link-item.result)) c.in_ok-gather_number.ensures);
}

pub gather_number_links-returns : goal.gather_number_links-returns
gather_number_links-returns t c =
    link_end (number_link_accesses c.args.m.now c.args.slots.now) c.args.links.now c.loop-link.link-index
    (joined (map (number_link_accesses c.args.m.now c.args.slots.now) c.args.links.now)) c.loop-link.set c.args.set.now c.loop-link-test.false c.loop-link.invariant.adds
