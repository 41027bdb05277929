use Rattle.ghost_links.proofs.SeatLemmas.{set_script_at}
use Rattle.ghost_links.proofs.links.Links.set_script_as.Goals as goal

pub load-requires : goal.load-requires
load-requires g c =
    set_script_at c.self.inside.table.shared.key c.self.inside.layout c.args.seat.table_id c.self.inside.table.shared.table_id c.args.self.now c.args.seat.id c.args.seat.me
    g.A.SetPackets.layout g.A.SetPackets.packets (g.S.Script.packets c.args.script.now)
    c.self.invariant c.self.view_is c.requires.table c.requires.opening c.requires.fits c.requires.layout c.requires.packets
