use Rattle.std.proofs.Common.{sym}
use Rattle.seq_meaning.specs.MainRuns.{deepest, nested}
use Rattle.seq_meaning.specs.RemainingEvents.{event_count, events_in}
use Rattle.seq_meaning.proofs.EventCountLemmas.{events_of_item}
use Rattle.seq_meaning.proofs.NestingLemmas.{item_nested, some_below}
use Rattle.seq_meaning.proofs.main_run.block_of.Goals as goal

pub returns-clause-deeper : goal.returns-clause-deeper
returns-clause-deeper c = some_below c.inner_block.result (λ inner. deepest inner.0.now.items) (nested c.in_ok-at.field-0.now) (deepest c.args.items.now) c.inner_block.ensures.deeper
    (item_nested c.args.items.now c.args.frame.index c.in_ok-at.field-0.now (sym c.in_ok-at.ensures))

pub returns-clause-fewer : goal.returns-clause-fewer
returns-clause-fewer c = some_below c.inner_block.result (λ inner. events_in inner.0.now.items) (event_count c.in_ok-at.field-0.now) (events_in c.args.items.now) c.inner_block.ensures.fewer
    (events_of_item c.args.items.now c.args.frame.index c.in_ok-at.field-0.now (sym c.in_ok-at.ensures))
