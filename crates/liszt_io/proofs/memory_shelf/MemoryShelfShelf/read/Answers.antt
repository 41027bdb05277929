use Rattle.std.proofs.Common.{◌<◌, length, rules}
use Rattle.liszt_io.proofs.memory_shelf.MemoryShelfShelf.read.Goals as goal

pub offset_bounds-as_slice-open : goal.offset_bounds-as_slice-open
offset_bounds-as_slice-open c =
    let lt : c.in-Some.open.index < length c.as_slice.result.now = rw c.as_slice.ensures (c.args.self.now.sound c.in-Some.open c.in-Some.is).file_at.inside in
    search rules

pub bounds-as_slice-open : goal.bounds-as_slice-open
bounds-as_slice-open c = rw c.as_slice.ensures (c.args.self.now.sound c.in-Some.open c.in-Some.is).file_at.inside
