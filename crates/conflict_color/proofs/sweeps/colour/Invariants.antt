use Rattle.std.proofs.Common.{◌-◌}
use Rattle.conflict_color.specs.Colours.{number_of_colours}
use Rattle.conflict_color.specs.Internal.LeastColours.{colours_of}
use Rattle.conflict_color.proofs.AllSweepLemmas.{IsColoured}
use Rattle.conflict_color.proofs.sweeps.colour.Given as goal

abbrev pub invariant-loop-alloc : goal.invariant-loop-alloc
invariant-loop-alloc l =
    IsColoured l.touched l.colour l.colours.items l.batches l.first_free.items l.remaining.items

abbrev pub decreases-loop-alloc : goal.decreases-loop-alloc
decreases-loop-alloc l = number_of_colours (colours_of l.touched) - l.colour
