-- The accesses of an iteration are those of its body by global names, so in a typed comprehension each has the one mode of its field.
use Rattle.std.proofs.Common.{◌≡◌, ◌⊎◌, ℕ, List, [], ◌∷◌, ◌++◌, refl, ap, inl, inr}
use Rattle.std.specs.Prelude.{Option, Some, None}
use Rattle.std.specs.List.{AllByRecursion}
use Rattle.liszt_base.specs.MeshLists.{MeshLists}
use Rattle.liszt_base.specs.declared.accesses.Access.{Access}
use Rattle.liszt_base.specs.declared.accesses.Mode.{Mode}
use Rattle.liszt_base.specs.declared.accesses.Mode.TheVariants.{Read}
use Rattle.liszt_base.specs.declared.elements.Elem.{Elem}
use Rattle.liszt_tree.specs.Tree.{Expression, Number, Name, Field, Call, Towards, Neg, Not, Chain, Compare, Links, no_links, link}
use Rattle.liszt_tree.specs.Tree.{Statement, Var, Val, Assign, If, While, For, Body, no_statement, statement}
use Rattle.mesh_topology.proofs.MemberLemmas.{Member, member_parted, member_flattened}
use Rattle.topo_operators.specs.Operators.{members}
use Rattle.phase_types.specs.Environments.{Environment, Binding, FieldName, binding_of, Comprehension}
use Rattle.phase_types.specs.Typed.{ComprehensionFits}
use Rattle.phase_types.specs.Walk.{OfField, mode_by, mode_in}
use Rattle.kernel_eval.specs.Expressions.{ElementBindings, element_value, elements_after}
use Rattle.kernel_eval.proofs.AccessLemmas.{touched_in_mode}
use Rattle.kernel_eval.proofs.TraversalLemmas.{TouchesField, Touches, LinksTouch, StatementTouches, BodyTouches}
use Rattle.stencil_infer.specs.Stencils.{access_at, accesses_of, link_accesses, members_at, statement_accesses, body_accesses, bindings_at_start, iteration_accesses}

module _ (mesh : MeshLists) (environment : Environment) (a : Access) where
  at_field : (mode : Mode) (global : Option Binding) (value : Option (Option Elem)) → Member a (access_at mode global value) → TouchesField global mode (OfField a.spot.field, a.mode)
  at_field mode (Some (FieldName number kind)) (Some (Some x)) (inl is) = ap (λ a. (OfField a.spot.field, a.mode)) is
  at_field mode (Some (FieldName number kind)) (Some (Some x)) (inr m) = absurd m
  at_field mode (Some (FieldName number kind)) (Some None) m = absurd m
  at_field mode (Some (FieldName number kind)) None m = absurd m
  at_field mode _ _ m = absurd m

  parted : {X Y : Type 0} (xs ys : List Access) → (Member a xs → X) → (Member a ys → Y) → Member a (xs ++ ys) → X ⊎ Y
  parted {X} {Y} xs ys f g m = go (member_parted xs ys a m) where
    go : Member a xs ⊎ Member a ys → X ⊎ Y
    go (inl m) = inl (f m)
    go (inr m) = inr (g m)

  mutual
    touches : (elements : ElementBindings) (e : Expression) → Member a (accesses_of mesh environment elements e) → Touches environment (OfField a.spot.field, a.mode) e
    touches elements (Number place n) m = absurd m
    touches elements (Name place name) m = absurd m
    touches elements (Field place name arg) m =
        parted (accesses_of mesh environment elements arg) _ (touches elements arg) (at_field Read (binding_of environment name) (element_value mesh elements arg)) m
    touches elements (Call place fun arg) m = touches elements arg m
    touches elements (Towards place arg to) m = parted (accesses_of mesh environment elements arg) _ (touches elements arg) (touches elements to) m
    touches elements (Neg place arg) m = touches elements arg m
    touches elements (Not place arg) m = touches elements arg m
    touches elements (Chain level first links) m = parted (accesses_of mesh environment elements first) _ (touches elements first) (links_touch elements links) m
    touches elements (Compare place rel left right) m = parted (accesses_of mesh environment elements left) _ (touches elements left) (touches elements right) m

    links_touch : (elements : ElementBindings) (links : Links) → Member a (link_accesses mesh environment elements links) → LinksTouch environment (OfField a.spot.field, a.mode) links
    links_touch elements no_links m = absurd m
    links_touch elements (link sign place arg rest) m = parted (accesses_of mesh environment elements arg) _ (touches elements arg) (links_touch elements rest) m

  -- the target of an assignment comes after its value and before its access
  assigned : {X Y Z : Type 0} → (X ⊎ Y) ⊎ Z → (Y ⊎ Z) ⊎ X
  assigned (inl (inl x)) = inr x
  assigned (inl (inr y)) = inl (inl y)
  assigned (inr z) = inl (inr z)

  mutual
    statement_touches : (elements : ElementBindings) (s : Statement) → Member a (statement_accesses mesh environment elements s)
        → StatementTouches environment (OfField a.spot.field, a.mode) s
    statement_touches elements (Var place name at init) m = touches elements init m
    statement_touches elements (Val place name at init) m = touches elements init m
    statement_touches elements (Assign place name (Some target) how value) m =
        assigned (parted (accesses_of mesh environment elements value ++ accesses_of mesh environment elements target) _
        (parted (accesses_of mesh environment elements value) _ (touches elements value) (touches elements target))
        (at_field (mode_by how) (binding_of environment name) (element_value mesh elements target)) m)
    statement_touches elements (Assign place name None how value) m = inr (touches elements value m)
    statement_touches elements (If place test first second has_else) m =
        parted (accesses_of mesh environment elements test ++ body_accesses mesh environment elements first) _
        (parted (accesses_of mesh environment elements test) _ (touches elements test) (body_touches elements first)) (body_touches elements second) m
    statement_touches elements (While place test body) m = parted (accesses_of mesh environment elements test) _ (touches elements test) (body_touches elements body) m
    statement_touches elements (For place name at set set_at arg body) m =
        parted (accesses_of mesh environment elements arg) _ (touches elements arg)
        (λ m. let r = member_flattened (λ member. body_accesses mesh environment ((name, Some member) ∷ elements) body) (members_at (members mesh set) (element_value mesh elements arg)) a m in
        body_touches ((name, Some r.0) ∷ elements) body r.2) m

    body_touches : (elements : ElementBindings) (body : Body) → Member a (body_accesses mesh environment elements body) → BodyTouches environment (OfField a.spot.field, a.mode) body
    body_touches elements no_statement m = absurd m
    body_touches elements (statement s rest) m =
        parted (statement_accesses mesh environment elements s) _ (statement_touches elements s) (body_touches (elements_after mesh elements s) rest) m

pub access_in_mode : (mesh : MeshLists) (c : Comprehension) (id : ℕ) → ComprehensionFits c → (a : Access) → Member a (iteration_accesses mesh c id)
    → mode_in c (OfField a.spot.field) ≡ Some a.mode
access_in_mode mesh c id fits a m =
    touched_in_mode c fits (OfField a.spot.field, a.mode) (body_touches mesh c.environment a (bindings_at_start c id) c.body m)

all_of : {A : Type 0} (Holds : A → Type 0) (xs : List A) → ((x : A) → Member x xs → Holds x) → AllByRecursion Holds xs
all_of Holds [] h = tt
all_of Holds (x ∷ xs) h = (h x (inl refl), all_of Holds xs (λ y m. h y (inr m)))

pub accesses_in_mode : (mesh : MeshLists) (c : Comprehension) (id : ℕ) → ComprehensionFits c
    → AllByRecursion (λ a. mode_in c (OfField a.spot.field) ≡ Some a.mode) (iteration_accesses mesh c id)
accesses_in_mode mesh c id fits =
    all_of (λ a. mode_in c (OfField a.spot.field) ≡ Some a.mode) (iteration_accesses mesh c id) (access_in_mode mesh c id fits)
