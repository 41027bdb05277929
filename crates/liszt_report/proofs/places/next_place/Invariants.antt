use Rattle.std.proofs.Common.{◌≡◌, drop}
use Rattle.liszt_report.specs.Internal.Places.{next_place}
use Rattle.liszt_report.proofs.places.next_place.Given as goal

abbrev pub invariant-loop-index : goal.invariant-loop-index
invariant-loop-index l =
    next_place l.fn.fields l.fn.from l.fn.end l.fn.accesses ≡ next_place l.fn.fields l.fn.from l.least (drop l.index l.fn.accesses)
