use Rattle.std.proofs.Common.{◌+◌, [], rules, min, refl, sym, ap, subst, ◌∙◌, arith}
use Rattle.std.specs.Prelude.{Some}
use Rattle.std.specs.List.{AllByRecursion}
use Rattle.liszt_base.specs.Kinds.{kind_of as kind_of_set}
use Rattle.topo_operators.specs.Operands.{IsNilOrElement}
use Rattle.resolved_code.specs.declared.statements.StatementCode.{the_lemmas}
use Rattle.stencil_infer.specs.Internal.CodeAccesses.{FitsSlot, code_fits, code_walk, members_walk, statement_fits, statement_walk, truth_visits}
use Rattle.stencil_infer.proofs.CodeClauseLemmas.{walk_if, walk_while}
use Rattle.stencil_infer.proofs.CountLemmas.{body_ends, body_step, counts_cap, counts_end, counts_start, fit_of_each, fit_set, for_fits, if_visits, members_end, members_fit, members_step, slot_there, val_fit, val_within, while_visits}
use Rattle.stencil_infer.proofs.count.+count.Goals as goal

pub count_body-loop-code-init : goal.count_body-loop-code-init
count_body-loop-code-init t c = record {
  counts = counts_start c.args.cap c.args.visits c.args.slots.now (code_walk c.args.m.now c.args.codes.now);
  few = c.requires.few;
  fit = c.requires.slots;
}

pub count_body-count_statement-counted-requires : goal.count_body-count_statement-counted-requires
count_body-count_statement-counted-requires t c = (
  search (rules, the_lemmas),
  (
    c.loop-code.invariant.fit,
    (
      fit_of_each (statement_fits c.args.kinds.now) c.args.codes.now c.loop-code.code-index c.code-item.result c.requires.code c.loop-code-test.true c.code-item.is,
      c.loop-code.invariant.few,
    ),
  ),
)

pub count_body-loop-code-preserved : goal.count_body-loop-code-preserved
count_body-loop-code-preserved t c = record {
  counts = body_step c.args.m.now c.args.codes.now c.loop-code.code-index c.code-item.result c.args.cap c.loop-code.counted c.count_statement-counted.result c.loop-code.slots
      c.count_statement-counted.new.slots _ _ c.loop-code-test.true c.code-item.is c.loop-code.invariant.counts c.count_statement-counted.ensures.visits
      c.count_statement-counted.ensures.slots;
  few = omega (arith, c.count_statement-counted.ensures.visits);
  fit = c.count_statement-counted.ensures.fit;
}

pub count_body-returns-clause-visits : goal.count_body-returns-clause-visits
count_body-returns-clause-visits t c =
    counts_end c.args.cap c.loop-code.counted c.loop-code.slots (code_walk c.args.m.now []) _ _
    (body_ends c.args.m.now c.args.codes.now c.loop-code.code-index c.args.cap c.loop-code.counted c.loop-code.slots _ _ c.loop-code-test.false c.loop-code.invariant.counts) refl
    c.loop-code.invariant.few

pub count_body-returns-clause-slots : goal.count_body-returns-clause-slots
count_body-returns-clause-slots t c = λ l.
    let ends = body_ends c.args.m.now c.args.codes.now c.loop-code.code-index c.args.cap c.loop-code.counted c.loop-code.slots _ _ c.loop-code-test.false c.loop-code.invariant.counts in
    ends.slots_are (omega (arith, l, c.loop-code.invariant.few, ends.visits_are))

pub count_body-returns-clause-fit : goal.count_body-returns-clause-fit
count_body-returns-clause-fit t c = c.loop-code.invariant.fit

pub count_members-loop-counted-init : goal.count_members-loop-counted-init
count_members-loop-counted-init t c = record {
  counts = counts_start c.args.cap c.args.visits c.args.slots.now (members_walk c.args.slot (code_walk c.args.m.now c.args.body.now) c.args.over);
  few = c.requires.few;
  fit = c.requires.slots;
  each = c.requires.each;
}

pub count_members-returns-in_default-clause-visits : goal.count_members-returns-in_default-clause-visits
count_members-returns-in_default-clause-visits t c =
    counts_end c.args.cap c.loop-counted.counted c.loop-counted.slots (members_walk c.args.slot (code_walk c.args.m.now c.args.body.now) []) _ _
    (members_end c.args.m.now c.args.body.now c.args.slot c.loop-counted.over c.args.cap c.loop-counted.counted c.loop-counted.slots _ _ c.in_default.ensures.steps.0
    c.loop-counted.invariant.counts) refl c.loop-counted.invariant.few

pub count_members-returns-in_default-clause-slots : goal.count_members-returns-in_default-clause-slots
count_members-returns-in_default-clause-slots t c = λ l.
    let ends = members_end c.args.m.now c.args.body.now c.args.slot c.loop-counted.over c.args.cap c.loop-counted.counted c.loop-counted.slots _ _ c.in_default.ensures.steps.0
    c.loop-counted.invariant.counts in
    ends.slots_are (omega (arith, l, c.loop-counted.invariant.few, ends.visits_are))

pub count_members-returns-in_default-clause-fit : goal.count_members-returns-in_default-clause-fit
count_members-returns-in_default-clause-fit t c = c.loop-counted.invariant.fit

pub count_members-count_body-counted-requires : goal.count_members-count_body-counted-requires
count_members-count_body-counted-requires t c = (
  search (rules, the_lemmas),
  (
    fit_set c.args.m.now c.args.kinds.now c.loop-counted.slots c.args.slot (Some c.in-Some.member) c.requires.slot c.loop-counted.invariant.fit
        (subst (AllByRecursion (FitsSlot c.args.m.now c.args.kinds.now c.args.slot)) c.in-Some.ensures.steps c.loop-counted.invariant.each).0,
    (c.requires.code, omega (arith, c.loop-counted-test.true)),
  ),
)

pub count_members-loop-counted-preserved : goal.count_members-loop-counted-preserved
count_members-loop-counted-preserved t c = record {
  counts = members_step c.args.m.now c.args.body.now c.args.slot c.in-Some.member c.loop-counted.over c.next.new.self c.args.cap c.loop-counted.counted
      c.count_body-counted.result c.loop-counted.slots c.count_body-counted.new.slots _ _ c.in-Some.ensures.steps c.loop-counted.invariant.counts
      c.count_body-counted.ensures.visits c.count_body-counted.ensures.slots;
  few = omega (arith, c.count_body-counted.ensures.visits);
  fit = c.count_body-counted.ensures.fit;
  each = (subst (AllByRecursion (FitsSlot c.args.m.now c.args.kinds.now c.args.slot)) c.in-Some.ensures.steps c.loop-counted.invariant.each).1;
}

pub count_members-returns-clause-visits : goal.count_members-returns-clause-visits
count_members-returns-clause-visits t c =
    counts_cap c.args.cap c.loop-counted.counted c.loop-counted.slots (members_walk c.args.slot (code_walk c.args.m.now c.args.body.now) c.loop-counted.over) _ _
    c.loop-counted.invariant.counts c.loop-counted-test.false c.loop-counted.invariant.few

pub count_members-returns-clause-fit : goal.count_members-returns-clause-fit
count_members-returns-clause-fit t c = c.loop-counted.invariant.fit

pub count_statement-bounds-slots-slot : goal.count_statement-bounds-slots-slot
count_statement-bounds-slots-slot t c =
    omega (arith, c.requires.slots.long, val_within c.args.m.now c.args.kinds.now c.args.slots.now c.in-Val.slot c.in-Val.init c.args.code.now c.in-Val.is c.requires.code)

pub count_statement-count_members-requires : goal.count_statement-count_members-requires
count_statement-count_members-requires t c =
    let f = for_fits c.args.m.now c.args.kinds.now c.args.slots.now c.in-For.slot c.in-For.set c.in-For.place c.in-For.arg c.in-For.body c.args.code.now c.in-For.is c.requires.code in (
      search (rules, the_lemmas),
      (
        c.requires.slots,
        (
          ap (code_fits c.args.kinds.now) c.as_slice-in-For.ensures ∙ f.body_fits,
          (
            omega (arith, c.add-counted.ensures),
            (
              slot_there c.args.m.now c.args.kinds.now c.args.slots.now c.in-For.slot (kind_of_set c.in-For.set) f.slot_is,
              members_fit c.args.m.now c.args.kinds.now c.args.slots.now c.in-For.slot c.in-For.set f.kind c.in-Some.x c.members-over.result c.fits_together.ensures f.slot_is f.can
                  (subst (IsNilOrElement c.args.m.now f.kind) c.in-Some.is (c.element.ensures.kind f.kind f.arg_is)) c.members-over.ensures,
            ),
          ),
        ),
      ),
    )

pub count_statement-returns-in-Val-clause-fit : goal.count_statement-returns-in-Val-clause-fit
count_statement-returns-in-Val-clause-fit t c =
    val_fit c.args.m.now c.args.kinds.now c.args.slots.now c.in-Val.slot c.in-Val.init c.in-Val.init c.args.code.now c.element-x.result c.in-Val.is refl c.requires.code
    c.requires.slots c.element-x.ensures.kind

pub count_statement-returns-in-If-clause-visits : goal.count_statement-returns-in-If-clause-visits
count_statement-returns-in-If-clause-visits t c =
    if_visits c.args.cap c.args.visits (truth_visits c.in-If.test) (code_walk c.args.m.now c.in-If.first c.args.slots.now).visits
    (code_walk c.args.m.now c.in-If.second (code_walk c.args.m.now c.in-If.first c.args.slots.now).slots).visits
    (code_walk c.args.m.now c.in-If.second c.count_body-counted.new.slots).visits c.truth_visits.result c.add-tested.result c.count_body-counted.result c.count_body.result
    (omega (arith, c.ranges.cap.fits)) c.truth_visits.ensures
    (c.add-tested.ensures ∙ ap (λ n. min (c.args.visits + n) c.args.cap) c.saturating_add-in-If.ensures)
    (c.count_body-counted.ensures.visits ∙ ap (λ codes. min (c.add-tested.result + (code_walk c.args.m.now codes c.args.slots.now).visits) c.args.cap) c.as_slice.ensures)
    (λ l. ap (λ slots. (code_walk c.args.m.now c.in-If.second slots).visits)
    (c.count_body-counted.ensures.slots l ∙ ap (λ codes. (code_walk c.args.m.now codes c.args.slots.now).slots) c.as_slice.ensures))
    (c.count_body.ensures.visits ∙ ap (λ codes. min (c.count_body-counted.result + (code_walk c.args.m.now codes c.count_body-counted.new.slots).visits) c.args.cap) c.as_slice-in-If.ensures)
    ∙ sym (ap (λ code. min (c.args.visits + (statement_walk c.args.m.now code c.args.slots.now).visits) c.args.cap) c.in-If.is
    ∙ ap (λ walk. min (c.args.visits + walk.visits) c.args.cap) (walk_if c.args.m.now c.args.slots.now c.in-If.test c.in-If.first c.in-If.second))

pub count_statement-returns-in-If-clause-slots : goal.count_statement-returns-in-If-clause-slots
count_statement-returns-in-If-clause-slots t c = λ l.
    c.count_body.ensures.slots l ∙ ap (λ codes. (code_walk c.args.m.now codes c.count_body-counted.new.slots).slots) c.as_slice-in-If.ensures
    ∙ ap (λ slots. (code_walk c.args.m.now c.in-If.second slots).slots)
    (c.count_body-counted.ensures.slots (omega (arith, l, c.count_body.ensures.visits, c.count_body-counted.ensures.visits))
    ∙ ap (λ codes. (code_walk c.args.m.now codes c.args.slots.now).slots) c.as_slice.ensures)
    ∙ sym (ap (λ code. (statement_walk c.args.m.now code c.args.slots.now).slots) c.in-If.is
    ∙ ap (λ walk. walk.slots) (walk_if c.args.m.now c.args.slots.now c.in-If.test c.in-If.first c.in-If.second))

pub count_statement-returns-in-While-clause-visits : goal.count_statement-returns-in-While-clause-visits
count_statement-returns-in-While-clause-visits t c =
    while_visits c.args.cap c.args.visits (truth_visits c.in-While.test) (code_walk c.args.m.now c.in-While.body c.args.slots.now).visits c.truth_visits-in-While.result
    c.add-tested-in-While.result c.count_body-in-While.result (omega (arith, c.ranges.cap.fits)) c.truth_visits-in-While.ensures
    (c.add-tested-in-While.ensures ∙ ap (λ n. min (c.args.visits + n) c.args.cap) c.saturating_add-in-While.ensures)
    (c.count_body-in-While.ensures.visits
    ∙ ap (λ codes. min (c.add-tested-in-While.result + (code_walk c.args.m.now codes c.args.slots.now).visits) c.args.cap) c.as_slice-in-While.ensures)
    ∙ sym (ap (λ code. min (c.args.visits + (statement_walk c.args.m.now code c.args.slots.now).visits) c.args.cap) c.in-While.is
    ∙ ap (λ walk. min (c.args.visits + walk.visits) c.args.cap) (walk_while c.args.m.now c.args.slots.now c.in-While.place c.in-While.test c.in-While.body))
