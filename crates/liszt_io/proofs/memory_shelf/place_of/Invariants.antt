use Rattle.std.proofs.Common.{◌≡◌, drop}
use Rattle.liszt_io.specs.Shelves.{file}
use Rattle.liszt_io.specs.FileLists.{files_of}
use Rattle.liszt_io.proofs.memory_shelf.place_of.Given as goal

abbrev pub invariant-loop-index : goal.invariant-loop-index
invariant-loop-index l = file (files_of (drop l.index l.files)) l.name ≡ file (files_of l.files) l.name
