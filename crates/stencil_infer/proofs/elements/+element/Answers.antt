use Rattle.std.proofs.Common.{ap, ◌∙◌}
use Rattle.resolved_code.specs.declared.expressions.ElementCode.TheVariants as element
use Rattle.resolved_code.specs.declared.expressions.ElementFun.TheVariants.{Head, Tail, Inside, Outside}
use Rattle.stencil_infer.proofs.ElementKindLemmas.{call_fits, slot_element, slot_kind, slot_within, towards_kinds, towards_operands}
use Rattle.stencil_infer.proofs.elements.+element.Goals as goal

pub bounds-slots-slot : goal.bounds-slots-slot
bounds-slots-slot t c = slot_within c.args.m.now c.args.kinds.now c.args.slots.now c.in-Slot.slot c.args.code.now c.in-Slot.is c.requires.kind c.requires.slots

pub towards-requires : goal.towards-requires
towards-requires t c =
    towards_operands c.args.m.now c.args.kinds.now c.args.code.now c.in-Towards.arg c.in-Towards.to c.get-in-Towards.result.now c.get-in-Towards-2.result.now
    c.element-x-in-Towards.result c.element-y.result c.in-Towards.is c.get-in-Towards.ensures c.get-in-Towards-2.ensures c.requires.kind
    c.element-x-in-Towards.ensures.kind c.element-y.ensures.kind

pub returns-in-Slot-clause-element : goal.returns-in-Slot-clause-element
returns-in-Slot-clause-element t c =
    slot_element c.args.m.now c.args.kinds.now c.args.slots.now c.in-Slot.slot c.args.code.now c.in-Slot.is c.requires.kind c.requires.slots

pub returns-in-Slot-clause-kind : goal.returns-in-Slot-clause-kind
returns-in-Slot-clause-kind t c =
    slot_kind c.args.m.now c.args.kinds.now c.args.slots.now c.in-Slot.slot c.args.code.now c.in-Slot.is c.requires.kind c.requires.slots

pub returns-in-Head-clause-kind : goal.returns-in-Head-clause-kind
returns-in-Head-clause-kind t c =
    call_fits c.args.m.now c.args.kinds.now Head c.args.code.now c.in-Call.arg c.get.result.now c.element-x.result c.head.result
    (c.in-Call.is ∙ ap (λ fun. element.Call fun c.in-Call.arg) c.in-Head.is) c.get.ensures c.element-x.ensures.kind c.head.ensures

pub returns-in-Tail-clause-kind : goal.returns-in-Tail-clause-kind
returns-in-Tail-clause-kind t c =
    call_fits c.args.m.now c.args.kinds.now Tail c.args.code.now c.in-Call.arg c.get.result.now c.element-x.result c.tail.result
    (c.in-Call.is ∙ ap (λ fun. element.Call fun c.in-Call.arg) c.in-Tail.is) c.get.ensures c.element-x.ensures.kind c.tail.ensures

pub returns-in-Inside-clause-kind : goal.returns-in-Inside-clause-kind
returns-in-Inside-clause-kind t c =
    call_fits c.args.m.now c.args.kinds.now Inside c.args.code.now c.in-Call.arg c.get.result.now c.element-x.result c.inside.result
    (c.in-Call.is ∙ ap (λ fun. element.Call fun c.in-Call.arg) c.in-Inside.is) c.get.ensures c.element-x.ensures.kind c.inside.ensures

pub returns-in-Outside-clause-kind : goal.returns-in-Outside-clause-kind
returns-in-Outside-clause-kind t c =
    call_fits c.args.m.now c.args.kinds.now Outside c.args.code.now c.in-Call.arg c.get.result.now c.element-x.result c.outside.result
    (c.in-Call.is ∙ ap (λ fun. element.Call fun c.in-Call.arg) c.in-Outside.is) c.get.ensures c.element-x.ensures.kind c.outside.ensures

pub returns-in-Towards-clause-kind : goal.returns-in-Towards-clause-kind
returns-in-Towards-clause-kind t c =
    towards_kinds c.args.m.now c.args.kinds.now c.args.code.now c.in-Towards.arg c.in-Towards.to c.get-in-Towards.result.now c.element-x-in-Towards.result c.element-y.result
    c.towards.result c.in-Towards.is c.get-in-Towards.ensures c.element-x-in-Towards.ensures.kind c.towards.ensures
