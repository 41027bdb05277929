use Rattle.std.proofs.Common.{◌<◌, rules}
use Rattle.std.proofs.Math.Seq.{take-set-lt}
use Rattle.ghost_links.proofs.packet.Packet.set.Goals as goal

pub returns : goal.returns
returns c =
    let inside : c.args.i < c.self.inside.used = search rules in
    let same = take-set-lt c.self.inside.used c.self.inside.buffer.items c.args.i c.args.v inside in search (rules, same)
