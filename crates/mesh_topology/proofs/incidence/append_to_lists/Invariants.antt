use Rattle.std.proofs.Common.{◌≡◌, ◌∷◌, ◌++◌, [], take}
use Rattle.mesh_topology.specs.Internal.Incidence.{AreChangedAt}
use Rattle.mesh_topology.proofs.incidence.append_to_lists.Given as goal

abbrev pub invariant-loop-y : goal.invariant-loop-y
invariant-loop-y l =
    AreChangedAt [] (λ list. list ++ l.id ∷ []) (take l.y-index l.row) l.initial.lists.lists l.lists.lists × (l.lists.capacities ≡ l.initial.lists.capacities)
