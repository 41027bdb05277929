-- Where a built-in field has a value.
use Rattle.std.proofs.Common.{◌≡◌, ◌≢◌, ◌<◌, ℕ, zero, suc, true, List, [], ◌∷◌, length, refl, arith, ne_eqb}
use Rattle.std.specs.Option.{option_and_then}
use Rattle.std.specs.Prelude.{Option, Some, None, is_some, slice_get}
use Rattle.liszt_base.specs.MeshLists.{MeshLists}
use Rattle.liszt_base.specs.declared.accesses.Spot.{Spot}
use Rattle.liszt_base.specs.declared.elements.Kind.TheVariants.{Vertex}
use Rattle.mesh_topology.specs.Elements.{count}
use Rattle.mesh_topology.proofs.NearLemmas.{vertex_count}
use Rattle.code_eval.specs.Arithmetic.{built_in_value}

within : {A : Type 0} (xs : List A) (i : ℕ) → is_some (slice_get xs i) ≡ true → i < length xs
within [] i e = absurd cc
within (x ∷ xs) zero e = omega arith
within (x ∷ xs) (suc i) e = omega (arith, within xs i e)

some_first : {A B : Type 0} (f : A → Option B) (o : Option A) → is_some (option_and_then f o) ≡ true → is_some o ≡ true
some_first f (Some a) e = refl
some_first f None e = absurd cc

pub point_in_range : (mesh : MeshLists) (spot : Spot) → spot.field ≢ 4 → is_some (built_in_value mesh spot) ≡ true → spot.id < count mesh Vertex
point_in_range mesh spot other e =
    let some = some_first _ (slice_get mesh.points spot.id) (rw (ne_eqb spot.field 4 other) at e) in
    omega (arith, within mesh.points spot.id some, vertex_count mesh)
