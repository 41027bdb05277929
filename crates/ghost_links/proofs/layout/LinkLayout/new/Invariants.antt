use Rattle.std.proofs.Common.{◌≡◌, map}
use Rattle.std.specs.List.{range_with_len}
use Rattle.ghost_links.specs.Layouts.{first_of}
use Rattle.ghost_links.proofs.layout.LinkLayout.new.Given as goal

abbrev pub invariant-loop-link : goal.invariant-loop-link
invariant-loop-link l =
    (l.next ≡ first_of l.ranks l.sizes l.link) × (l.firsts ≡ map (first_of l.ranks l.sizes) (range_with_len 0 l.link))
