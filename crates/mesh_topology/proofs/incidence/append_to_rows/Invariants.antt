use Rattle.std.proofs.Common.{◌∷◌, ◌++◌, [], take}
use Rattle.mesh_topology.specs.Internal.Incidence.{AreChangedAt}
use Rattle.mesh_topology.proofs.incidence.append_to_rows.Given as goal

abbrev pub invariant-loop-y : goal.invariant-loop-y
invariant-loop-y g l = AreChangedAt [] (λ row. row ++ l.id ∷ []) (take l.y-index l.list) l.initial.rows l.rows
