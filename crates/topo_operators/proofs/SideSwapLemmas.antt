-- The inside of a flipped face is the outside of the face.
use Rattle.std.proofs.Common.{◌≡◌, Bool, true, false, Option, Some, None, refl}
use Rattle.liszt_base.specs.MeshLists.{MeshLists}
use Rattle.liszt_base.specs.declared.elements.Elem.{Elem}
use Rattle.topo_operators.specs.Operators.{flip, inside, outside}

pub sides_swap : (mesh : MeshLists) (x : Option Elem) → inside mesh (flip x) ≡ outside mesh x
sides_swap mesh None = refl
sides_swap mesh (Some x) = go x.flipped where
  go : (flipped : Bool) → inside mesh (flip (Some (record { kind = x.kind; id = x.id; flipped = flipped }))) ≡ outside mesh (Some (record { kind = x.kind; id = x.id; flipped = flipped }))
  go true = refl
  go false = refl
