use Rattle.std.proofs.Common.{rules, ◌++◌, map, sym, ap, subst, ◌∙◌}
use Rattle.resolved_code.specs.declared.expressions.TruthCode.{the_lemmas}
use Rattle.stencil_infer.specs.Internal.AccessSets.{Adds}
use Rattle.stencil_infer.specs.Internal.CodeAccesses.{joined, fits_of_truth_link, number_accesses, truth_accesses, truth_link_accesses}
use Rattle.stencil_infer.proofs.CodeClauseLemmas.{truth_chain, truth_link_is, truth_comparenumbers}
use Rattle.stencil_infer.proofs.CountLemmas.{fit_of_each}
use Rattle.stencil_infer.proofs.FitClauseLemmas.{fits_truth_link}
use Rattle.stencil_infer.proofs.GatherLemmas.{leads_start, link_step, link_end, two_adds}
use Rattle.stencil_infer.proofs.gather.+truths.Goals as goal

pub gather_truth-returns-in_ok-gather_truth-in-Chain : goal.gather_truth-returns-in_ok-gather_truth-in-Chain
gather_truth-returns-in_ok-gather_truth-in-Chain t c =
    let first = truth_accesses c.args.m.now c.args.slots.now c.get-in-Chain.result.now in
    let rest = joined (map (truth_link_accesses c.args.m.now c.args.slots.now) c.as_slice.result.now) in
    two_adds first rest (truth_accesses c.args.m.now c.args.slots.now c.args.code.now) c.args.set.now c.gather_truth-in-Chain.new.set c.gather_truth_links.new.set
    c.gather_truth_links.result
    (ap (truth_accesses c.args.m.now c.args.slots.now) c.in-Chain.is ∙ truth_chain c.args.m.now c.args.slots.now c.in-Chain.first c.in-Chain.rest
    ∙ ap (λ code. truth_accesses c.args.m.now c.args.slots.now code ++ joined (map (truth_link_accesses c.args.m.now c.args.slots.now) c.in-Chain.rest)) (sym c.get-in-Chain.ensures)
    ∙ ap (λ links. first ++ joined (map (truth_link_accesses c.args.m.now c.args.slots.now) links)) (sym c.as_slice.ensures))
    c.in_ok-gather_truth-in-Chain.ensures c.gather_truth_links.ensures

pub gather_truth-returns-in_ok-gather_number-in-CompareNumbers : goal.gather_truth-returns-in_ok-gather_number-in-CompareNumbers
gather_truth-returns-in_ok-gather_number-in-CompareNumbers t c =
    two_adds (number_accesses c.args.m.now c.args.slots.now c.in-CompareNumbers.left) (number_accesses c.args.m.now c.args.slots.now c.in-CompareNumbers.right)
    (truth_accesses c.args.m.now c.args.slots.now c.args.code.now) c.args.set.now c.gather_number.new.set c.gather_number-in-CompareNumbers.new.set
    c.gather_number-in-CompareNumbers.result
    (ap (truth_accesses c.args.m.now c.args.slots.now) c.in-CompareNumbers.is
    ∙ truth_comparenumbers c.args.m.now c.args.slots.now c.in-CompareNumbers.rel c.in-CompareNumbers.left c.in-CompareNumbers.right)
    c.in_ok-gather_number-in-CompareNumbers.ensures c.gather_number-in-CompareNumbers.ensures

pub gather_truth_links-loop-link-init : goal.gather_truth_links-loop-link-init
gather_truth_links-loop-link-init t c = record { adds = leads_start (joined (map (truth_link_accesses c.args.m.now c.args.slots.now) c.args.links.now)) c.args.set.now }

pub gather_truth_links-gather_truth-requires : goal.gather_truth_links-gather_truth-requires
gather_truth_links-gather_truth-requires t c = (
  search (rules, the_lemmas),
  (
    c.requires.slots,
    sym (fits_truth_link c.args.kinds.now c.link-item.result)
        ∙ fit_of_each (fits_of_truth_link c.args.kinds.now) c.args.links.now c.loop-link.link-index c.link-item.result c.requires.code c.loop-link-test.true c.link-item.is,
  ),
)

pub gather_truth_links-loop-link-preserved : goal.gather_truth_links-loop-link-preserved
gather_truth_links-loop-link-preserved t c = record {
  adds = link_step (truth_link_accesses c.args.m.now c.args.slots.now) c.args.links.now c.loop-link.link-index c.link-item.result
      (joined (map (truth_link_accesses c.args.m.now c.args.slots.now) c.args.links.now)) c.loop-link.set c.gather_truth.new.set c.args.set.now c.loop-link-test.true c.link-item.is
      c.loop-link.invariant.adds
      (subst (λ accesses. Adds accesses c.loop-link.set c.gather_truth.new.set) (sym (truth_link_is c.args.m.now c.args.slots.now c.link-item.result)) c.in_ok-gather_truth.ensures);
}

pub gather_truth_links-returns : goal.gather_truth_links-returns
gather_truth_links-returns t c =
    link_end (truth_link_accesses c.args.m.now c.args.slots.now) c.args.links.now c.loop-link.link-index
    (joined (map (truth_link_accesses c.args.m.now c.args.slots.now) c.args.links.now)) c.loop-link.set c.args.set.now c.loop-link-test.false c.loop-link.invariant.adds
