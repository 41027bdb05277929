-- The tables of corners are those of the definitions.
use Rattle.std.proofs.Common.{◌≡◌, ℕ, ◌+◌, ◌<◌, arith, List, length, flat_map, refl, sym, subst}
use Rattle.std.specs.List.{AllZip}
use Rattle.liszt_base.specs.MeshLists.{MeshLists}
use Rattle.liszt_base.specs.declared.elements.Kind.{Kind}
use Rattle.liszt_base.specs.declared.mesh.RawCell.{RawCell}
use Rattle.mesh_topology.specs.Internal.Combinations.{combinations, first_corner, AreStarts, AreSortedCorners, IsIndexed, IsSmallTable, IsTableOf}
use Rattle.mesh_topology.specs.Elements.{elements, count, corners, HasCorners}
use Rattle.mesh_topology.specs.Internal.Tables.{IsSmallMesh}
use Rattle.mesh_topology.proofs.RankLemmas.{ordered}
use Rattle.mesh_topology.proofs.MemberLemmas.{member_at}
use Rattle.mesh_topology.proofs.NearLemmas.{are_rows, corner_set_is, table_is}

-- the table of the combinations of the rows of all cells
pub elements_are : (mesh : MeshLists) → IsSmallMesh mesh → (kind : Kind) (size : ℕ) → HasCorners kind size → (cells : List RawCell) (rows read table : List (List ℕ))
    → cells ≡ mesh.cells → AllZip AreSortedCorners cells rows → read ≡ rows → IsTableOf (flat_map (combinations size) read) table → table ≡ elements mesh kind
elements_are mesh small kind size h cells rows read table same all e t =
    let are = are_rows mesh small.is_mesh rows (subst (λ cs. AllZip AreSortedCorners cs rows) same all) in
    table_is mesh small.is_mesh rows are kind size h table (subst (λ rs. IsTableOf (flat_map (combinations size) rs) table) e t)

-- it is small and ordered
pub small_table : (mesh : MeshLists) → IsSmallMesh mesh → (kind : Kind) (size : ℕ) → HasCorners kind size → (table : List (List ℕ)) → table ≡ elements mesh kind → IsSmallTable table
small_table mesh small kind size h table e =
    let all : IsSmallTable (elements mesh kind) = record { few = small.fits kind; ordered = ordered mesh kind size h } in
    subst (λ t. IsSmallTable t) (sym e) all

-- it is searched by the starts of its sets
pub indexed : (mesh : MeshLists) → IsSmallMesh mesh → (kind : Kind) (size : ℕ) → HasCorners kind size → 0 < size → (made used : List (List ℕ)) (starts read : List ℕ) (n : ℕ)
    → made ≡ elements mesh kind → used ≡ elements mesh kind → AreStarts made (n + 1) starts → read ≡ starts → n ≡ length mesh.points → IsIndexed used read
indexed mesh small kind size h some made used starts read n e f are g m = subst (λ t. IsIndexed t read) (sym f) (subst (λ s. IsIndexed (elements mesh kind) s) (sym g) all) where
  so : AreStarts (elements mesh kind) (n + 1) starts
  so = subst (λ t. AreStarts t (n + 1) starts) e are

  firsts : (id : ℕ) → id < count mesh kind → first_corner (corners mesh kind id) + 1 < length starts
  firsts id l =
      let r = corner_set_is mesh kind size h id l in
      let b = r.below (first_corner (corners mesh kind id)) (member_at (corners mesh kind id) 0 0 (omega (arith, r.size_is))) in
      omega (arith, so.length_is)

  all : IsIndexed (elements mesh kind) starts
  all = record {
    small = small_table mesh small kind size h (elements mesh kind) refl;
    starts_are = subst (λ k. AreStarts (elements mesh kind) k starts) (sym so.length_is) so;
    firsts = firsts;
  }
