use Rattle.std.proofs.Common.{rules, ◌≡◌, ◌+◌, ◌*◌, ◌<◌, ap, ap₂, ◌∙◌, sym, subst, arith, map}
use Rattle.std.specs.List.{range_with_len}
use Rattle.ghost_links.specs.Layouts.{first_of}
use Rattle.ghost_links.proofs.LayoutLemmas.{first_of_ascends, first_of_more, firsts_more}
use Rattle.ghost_links.proofs.layout.LinkLayout.new.Goals as goal

pub overflow_cast-next : goal.overflow_cast-next
overflow_cast-next c =
    let lt : c.loop-link.link < c.args.ranks * c.args.ranks = search rules in
    let up = first_of_ascends c.args.ranks c.args.sizes.now c.loop-link.link (c.args.ranks * c.args.ranks) (omega arith) in
    let is = c.loop-link.invariant.0 in
    let few = c.requires.few_words in omega arith

pub overflow_add-next : goal.overflow_add-next
overflow_add-next c =
    let lt : c.loop-link.link < c.args.ranks * c.args.ranks = search rules in
    let up = first_of_ascends c.args.ranks c.args.sizes.now (c.loop-link.link + 1) (c.args.ranks * c.args.ranks) (omega arith) in
    let more = first_of_more c.args.ranks c.args.sizes.now c.loop-link.link in
    let is = c.loop-link.invariant.0 in
    let room = c.room_of-next.ensures in
    let few = c.requires.few_words in omega arith

pub loop-link-preserved : goal.loop-link-preserved
loop-link-preserved c = (
  ap₂ (λ a b. a + b) c.loop-link.invariant.0 c.room_of-next.ensures ∙ sym (first_of_more c.args.ranks c.args.sizes.now c.loop-link.link),
  firsts_more c.args.ranks c.args.sizes.now c.loop-link.link c.loop-link.next c.loop-link.firsts c.push.new.self
      c.loop-link.invariant.0 c.loop-link.invariant.1 c.in_ok-push.ensures.ok,
)

pub returns : goal.returns
returns c =
    let end : c.loop-link.link ≡ c.args.ranks * c.args.ranks = search rules in
    ap (λ l. record { ranks = c.args.ranks; firsts = l })
    (subst (λ n. c.push-2.new.self ≡ map (first_of c.args.ranks c.args.sizes.now) (range_with_len 0 (n + 1))) end
    (firsts_more c.args.ranks c.args.sizes.now c.loop-link.link c.loop-link.next c.loop-link.firsts c.push-2.new.self
    c.loop-link.invariant.0 c.loop-link.invariant.1 c.in_ok-push-2.ensures.ok))
