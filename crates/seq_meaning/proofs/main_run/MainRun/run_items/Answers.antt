use Rattle.std.proofs.Common.{◌≡◌, suc, arith, ap, ◌∙◌, get_or, false}
use Rattle.std.specs.Prelude.{None, Ok}
use Rattle.seq_meaning.specs.MainRuns.{Frame}
use Rattle.seq_meaning.proofs.MainBlockLemmas.{advances_then, end_here, can_do}
use Rattle.seq_meaning.proofs.MainStepLemmas.{item_got, got_item}
use Rattle.seq_meaning.proofs.main_run.MainRun.run_items.Goals as goal

pub returns-then-frame-items-clause-advanced : goal.returns-then-frame-items-clause-advanced
returns-then-frame-items-clause-advanced c = λ w outside p remaining s.
    let h = c.loop-frame.invariant.3 w outside p remaining s in
    advances_then h c.loop-frame.self None (end_here h.stands c.loop-frame.invariant.1 c.frame-frame.result c.frame-frame.ensures c.if-frame-items.true)

pub run_item-requires : goal.run_item-requires
run_item-requires c =
    can_do c.loop-frame.invariant.0 c.loop-frame.invariant.1 c.frame-frame.result c.next_of-next.result c.index-items-frame.result c.frame-frame.ensures c.next_of-next.ensures
    (item_got c.args.items.now c.frame-frame.result.index c.index-items-frame.result c.if-frame-items.false c.index-items-frame.is)

pub loop-frame-smaller : goal.loop-frame-smaller
loop-frame-smaller c =
    let before : get_or c.loop-frame.self.frames c.args.level (record { index = 0; after_else = false }) ≡ c.frame-frame.result = got_item c.loop-frame.self.frames c.args.level c.frame-frame.result _ c.frame-frame.ensures in
    let after : get_or c.run_item.new.self.frames c.args.level (record { index = 0; after_else = false }) ≡ c.next_of-next.result = got_item c.run_item.new.self.frames c.args.level c.next_of-next.result _ (c.run_item.ensures.at_next (c.in-Ok-None.is ∙ ap Ok c.in-Ok-None.field-0-is)) in
    let next : c.next_of-next.result.index ≡ suc c.frame-frame.result.index = ap (λ (frame : Frame). frame.index) c.next_of-next.ensures in
    omega (arith, ap (λ (frame : Frame). frame.index) before, ap (λ (frame : Frame). frame.index) after, next, c.if-frame-items.false)
