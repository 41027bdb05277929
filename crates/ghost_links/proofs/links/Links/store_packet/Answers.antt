use Rattle.std.proofs.Common.{◌+◌}
use Rattle.ghost_links.specs.Ends.{sending_end}
use Rattle.ghost_links.proofs.StageLemmas.{first_put, more_puts, put_after_puts, word_after_puts}
use Rattle.ghost_links.proofs.links.Links.store_packet.Goals as goal

pub loop-i-init : goal.loop-i-init
loop-i-init c = first_put (sending_end c.args.link) c.args.s.now c.store_data.new.s c.requires.end c.store_data.ensures

pub store_data-requires-in-loop-i-clause-end : goal.store_data-requires-in-loop-i-clause-end
store_data-requires-in-loop-i-clause-end c =
    put_after_puts (sending_end c.args.link) (c.loop-i.i + 1) c.args.s.now c.loop-i.s c.requires.end c.loop-i.invariant

pub store_data-requires-in-loop-i-clause-word : goal.store_data-requires-in-loop-i-clause-word
store_data-requires-in-loop-i-clause-word c =
    word_after_puts c.args.link (sending_end c.args.link) c.loop-i.i c.get.result c.args.p.now.words c.args.s.now c.loop-i.s
    c.requires.end c.requires.packet c.loop-i.invariant c.get.ensures

pub loop-i-preserved : goal.loop-i-preserved
loop-i-preserved c =
    more_puts (sending_end c.args.link) (c.loop-i.i + 1) c.args.s.now c.loop-i.s c.store_data-in-loop-i.new.s
    c.loop-i.invariant c.store_data-in-loop-i.ensures
