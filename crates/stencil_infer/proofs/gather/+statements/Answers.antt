use Rattle.std.proofs.Common.{rules, Some, refl, ap, subst, ◌∙◌, arith}
use Rattle.std.specs.List.{AllByRecursion}
use Rattle.liszt_base.specs.Kinds.{kind_of as kind_of_set}
use Rattle.topo_operators.specs.Operands.{IsNilOrElement}
use Rattle.resolved_code.specs.declared.statements.StatementCode.{the_lemmas}
use Rattle.stencil_infer.specs.Internal.CodeAccesses.{FitsSlot, code_fits, code_walk, members_walk, statement_fits}
use Rattle.stencil_infer.proofs.CountLemmas.{fit_of_each, fit_set, for_fits, members_fit, slot_there, val_fit, val_within}
use Rattle.stencil_infer.proofs.GatherLemmas.{body_step, body_end, member_step, member_end, second_fits, field_gathered, if_gathered, while_gathered, for_gathered}
use Rattle.stencil_infer.proofs.gather.+statements.Goals as goal

pub gather_body-gather_statement-requires : goal.gather_body-gather_statement-requires
gather_body-gather_statement-requires t c = (
  search (rules, the_lemmas),
  (
    c.loop-code.invariant.fit,
    fit_of_each (statement_fits c.args.kinds.now) c.args.codes.now c.loop-code.code-index c.code-item.result c.requires.code c.loop-code-test.true c.code-item.is,
  ),
)

pub gather_body-loop-code-preserved : goal.gather_body-loop-code-preserved
gather_body-loop-code-preserved t c = record {
  gathers = body_step c.args.m.now c.args.codes.now c.loop-code.code-index c.code-item.result c.loop-code.slots c.gather_statement.new.slots
      (code_walk c.args.m.now c.args.codes.now c.args.slots.now) c.loop-code.set c.gather_statement.new.set c.args.set.now c.loop-code-test.true c.code-item.is
      c.loop-code.invariant.gathers c.in_ok-gather_statement.ensures.gathered;
  fit = c.in_ok-gather_statement.ensures.fit;
}

pub gather_body-returns-clause-gathered : goal.gather_body-returns-clause-gathered
gather_body-returns-clause-gathered t c =
    body_end c.args.m.now c.args.codes.now c.loop-code.code-index c.loop-code.slots (code_walk c.args.m.now c.args.codes.now c.args.slots.now) c.loop-code.set c.args.set.now
    c.loop-code-test.false c.loop-code.invariant.gathers

pub gather_members-gather_body-requires : goal.gather_members-gather_body-requires
gather_members-gather_body-requires t c = (
  search (rules, the_lemmas),
  (
    fit_set c.args.m.now c.args.kinds.now c.loop-member.slots c.args.slot (Some c.in-Some.member) c.requires.slot c.loop-member.invariant.fit
        (subst (AllByRecursion (FitsSlot c.args.m.now c.args.kinds.now c.args.slot)) c.in-Some.ensures.steps c.loop-member.invariant.each).0,
    c.requires.code,
  ),
)

pub gather_members-loop-member-preserved : goal.gather_members-loop-member-preserved
gather_members-loop-member-preserved t c = record {
  gathers = member_step c.args.m.now c.args.body.now c.args.slot c.in-Some.member c.loop-member.over c.next.new.self c.loop-member.slots c.gather_body.new.slots
      (members_walk c.args.slot (code_walk c.args.m.now c.args.body.now) c.args.over c.args.slots.now) c.loop-member.set c.gather_body.new.set c.args.set.now
      c.in-Some.ensures.steps c.loop-member.invariant.gathers c.in_ok-gather_body.ensures.gathered;
  fit = c.in_ok-gather_body.ensures.fit;
  each = (subst (AllByRecursion (FitsSlot c.args.m.now c.args.kinds.now c.args.slot)) c.in-Some.ensures.steps c.loop-member.invariant.each).1;
}

pub gather_members-returns-clause-gathered : goal.gather_members-returns-clause-gathered
gather_members-returns-clause-gathered t c =
    member_end c.args.m.now c.args.body.now c.args.slot c.loop-member.over c.loop-member.slots
    (members_walk c.args.slot (code_walk c.args.m.now c.args.body.now) c.args.over c.args.slots.now) c.loop-member.set c.args.set.now c.in_default.ensures.steps.0
    c.loop-member.invariant.gathers

pub gather_statement-bounds-slots-slot : goal.gather_statement-bounds-slots-slot
gather_statement-bounds-slots-slot t c =
    omega (arith, c.requires.slots.long, val_within c.args.m.now c.args.kinds.now c.args.slots.now c.in-Val.slot c.in-Val.init c.args.code.now c.in-Val.is c.requires.code)

pub gather_statement-gather_body-requires-in-If : goal.gather_statement-gather_body-requires-in-If
gather_statement-gather_body-requires-in-If t c = (
  search (rules, the_lemmas),
  (
    c.in_ok-gather_body-in-If.ensures.fit,
    second_fits c.args.kinds.now c.in-If.test c.in-If.first c.in-If.second c.as_slice-in-If.result.now c.args.code.now c.in-If.is c.as_slice-in-If.ensures c.requires.code,
  ),
)

pub gather_statement-gather_members-requires : goal.gather_statement-gather_members-requires
gather_statement-gather_members-requires t c =
    let f = for_fits c.args.m.now c.args.kinds.now c.args.slots.now c.in-For.slot c.in-For.name c.in-For.place c.in-For.arg c.in-For.body c.args.code.now c.in-For.is c.requires.code in (
      search (rules, the_lemmas),
      (
        c.requires.slots,
        (
          ap (code_fits c.args.kinds.now) c.as_slice-in-For.ensures ∙ f.body_fits,
          (
            slot_there c.args.m.now c.args.kinds.now c.args.slots.now c.in-For.slot (kind_of_set c.in-For.name) f.slot_is,
            members_fit c.args.m.now c.args.kinds.now c.args.slots.now c.in-For.slot c.in-For.name f.kind c.in-Some.x c.members-over.result c.fits_together.ensures f.slot_is f.can
                (subst (IsNilOrElement c.args.m.now f.kind) c.in-Some.is (c.element.ensures.kind f.kind f.arg_is)) c.members-over.ensures,
          ),
        ),
      ),
    )

pub gather_statement-returns-in-Val-clause-fit : goal.gather_statement-returns-in-Val-clause-fit
gather_statement-returns-in-Val-clause-fit t c =
    val_fit c.args.m.now c.args.kinds.now c.args.slots.now c.in-Val.slot c.in-Val.init c.in-Val.init c.args.code.now c.element-x.result c.in-Val.is refl c.requires.code
    c.requires.slots c.element-x.ensures.kind

pub gather_statement-returns-in_ok-gather_number-in-Field-clause-gathered : goal.gather_statement-returns-in_ok-gather_number-in-Field-clause-gathered
gather_statement-returns-in_ok-gather_number-in-Field-clause-gathered t c =
    field_gathered c.args.m.now c.args.slots.now c.in-Field.place c.in-Field.field c.in-Field.how c.in-Field.target c.in-Field.value c.args.code.now c.mode_by.result
    c.element-x-in-Field.result c.args.set.now c.gather_number-in-Field.new.set c.add_at.new.self c.add_at.result c.in-Field.is c.mode_by.ensures
    c.element-x-in-Field.ensures.element c.in_ok-gather_number-in-Field.ensures c.add_at.ensures

pub gather_statement-returns-in_ok-gather_body-in-If-clause-gathered : goal.gather_statement-returns-in_ok-gather_body-in-If-clause-gathered
gather_statement-returns-in_ok-gather_body-in-If-clause-gathered t c =
    if_gathered c.args.m.now c.args.slots.now c.in-If.test c.in-If.first c.in-If.second c.as_slice.result.now c.as_slice-in-If.result.now c.args.code.now
    c.gather_body.new.slots c.gather_body-in-If.new.slots c.args.set.now c.gather_truth.new.set c.gather_body.new.set c.gather_body-in-If.new.set c.gather_body-in-If.result
    c.in-If.is c.as_slice.ensures c.as_slice-in-If.ensures c.in_ok-gather_truth-in-If.ensures c.in_ok-gather_body-in-If.ensures.gathered c.gather_body-in-If.ensures.gathered

pub gather_statement-returns-in_ok-gather_truth-in-While-clause-gathered : goal.gather_statement-returns-in_ok-gather_truth-in-While-clause-gathered
gather_statement-returns-in_ok-gather_truth-in-While-clause-gathered t c =
    while_gathered c.args.m.now c.args.slots.now c.in-While.place c.in-While.test c.in-While.body c.as_slice-in-While.result.now c.args.code.now c.gather_body-in-While.new.slots
    c.args.set.now c.gather_truth-in-While.new.set c.gather_body-in-While.new.set c.gather_body-in-While.result c.in-While.is c.as_slice-in-While.ensures
    c.in_ok-gather_truth-in-While.ensures c.gather_body-in-While.ensures.gathered

pub gather_statement-returns-in-Some-clause-gathered : goal.gather_statement-returns-in-Some-clause-gathered
gather_statement-returns-in-Some-clause-gathered t c =
    for_gathered c.args.m.now c.args.slots.now c.in-For.slot c.in-For.name c.in-For.place c.in-For.arg c.in-For.body c.as_slice-in-For.result.now c.args.code.now c.in-Some.x
    c.element.result c.members-over.result c.gather_members.new.slots c.args.set.now c.gather_members.new.set c.gather_members.result c.in-For.is c.as_slice-in-For.ensures
    c.element.ensures.element c.in-Some.is c.members-over.ensures c.gather_members.ensures.gathered
