-- A property of computations holds of every meaning if it holds of each single step and of sequences, blocks and loops: one induction over
-- expressions, statements and bodies. Of the steps that access a field or assign a scalar it must hold only for the accesses of the body.
use Rattle.std.proofs.Common.{◌≡◌, ◌⊎◌, ℕ, List, [], ◌∷◌, Bool, true, false, refl, inl, inr}
use Rattle.std.specs.Prelude.{Option, Some, None, ℤ, ◌&&◌, int_le, pos, int_div, int_rem, ◌+ℤ◌, ◌-ℤ◌, ◌*ℤ◌, neg_ℤ}
use Rattle.liszt_base.specs.MeshLists.{MeshLists}
use Rattle.liszt_base.specs.declared.accesses.Mode.{Mode}
use Rattle.liszt_base.specs.declared.accesses.Mode.TheVariants.{Read}
use Rattle.liszt_base.specs.declared.accesses.Spot.{Spot}
use Rattle.liszt_base.specs.declared.answers.Place.{Place}
use Rattle.liszt_base.specs.declared.answers.TrapKind.{TrapKind}
use Rattle.liszt_base.specs.declared.answers.TrapKind.TheVariants.{Overflow, ZeroDivide, NilElement, Spent}
use Rattle.liszt_base.specs.declared.elements.Elem.{Elem}
use Rattle.liszt_tree.specs.declared.tree.Fun.{Fun}
use Rattle.liszt_tree.specs.declared.tree.Fun.TheVariants.{Head, Tail, Inside, Outside, Flip, Valid, Id}
use Rattle.liszt_tree.specs.declared.tree.How.{How}
use Rattle.liszt_tree.specs.declared.tree.Rel.{Rel}
use Rattle.liszt_tree.specs.declared.tree.Rel.TheVariants.{Same, Other}
use Rattle.liszt_tree.specs.declared.tree.Sign.{Sign}
use Rattle.liszt_tree.specs.declared.tree.Sign.TheVariants.{Or, And, Plus, Minus, Times, Over, Rest}
use Rattle.liszt_tree.specs.Tree.{Expression, Number, Name, Field, Call, Towards, Neg, Not, Chain, Compare, Links, no_links, link}
use Rattle.liszt_tree.specs.Tree.{Statement, Var, Val, Assign, If, While, For, Body, no_statement, statement}
use Rattle.topo_operators.specs.Operators.{head, tail, inside, outside, flip, towards, valid, members}
use Rattle.phase_types.specs.Environments.{Environment, Binding, FieldName, ScalarName, binding_of}
use Rattle.phase_types.specs.Walk.{Subject, OfField, OfScalar, mode_by}
use Rattle.kernel_eval.specs.Outcomes.{Stop, NoMeaning, Outcome, Done, pure, halt, modify, and_then, if_then_else, for_each, loop}
use Rattle.kernel_eval.specs.States.{EvaluationState, value_in, with_local, with_element, local_bound_to, element_bound_to}
use Rattle.kernel_eval.specs.Meaning.{Value, NumberValue, TruthValue, ElementValue, number_of, truth_of, element_of, checked_number, checked_division, operator_result, is_decided, negation, complement, comparison_result, holds, id_result, call_result, name_read, read_spot, field_read, spot_of, spot_value, is_in_range, meaning, links_meaning, number_in, truth_in, element_in, assign_spot, assign_field, assign_name, in_block, evaluation_turns, for_each_member, statement_meaning, body_meaning, trap}

-- THE ACCESSES OF A BODY by global names: the fields that it reads or assigns, and the scalars that it assigns
abbrev pub Access : Type 0
Access = Subject × Mode

abbrev pub TouchesField : Option Binding → Mode → Access → Type 0
TouchesField (Some (FieldName number kind)) mode a = (OfField number, mode) ≡ a
TouchesField _ mode a = ⊥

abbrev pub TouchesScalar : Option Binding → Mode → Access → Type 0
TouchesScalar (Some (ScalarName number)) mode a = (OfScalar number, mode) ≡ a
TouchesScalar _ mode a = ⊥

abbrev mutual
  pub Touches : Environment → Access → Expression → Type 0
  Touches environment a (Field place name arg) = Touches environment a arg ⊎ TouchesField (binding_of environment name) Read a
  Touches environment a (Call place fun arg) = Touches environment a arg
  Touches environment a (Towards place arg to) = Touches environment a arg ⊎ Touches environment a to
  Touches environment a (Neg place arg) = Touches environment a arg
  Touches environment a (Not place arg) = Touches environment a arg
  Touches environment a (Chain level first links) = Touches environment a first ⊎ LinksTouch environment a links
  Touches environment a (Compare place rel left right) = Touches environment a left ⊎ Touches environment a right
  Touches environment a _ = ⊥

  pub LinksTouch : Environment → Access → Links → Type 0
  LinksTouch environment a no_links = ⊥
  LinksTouch environment a (link sign place arg rest) = Touches environment a arg ⊎ LinksTouch environment a rest

abbrev mutual
  pub StatementTouches : Environment → Access → Statement → Type 0
  StatementTouches environment a (Var place name at init) = Touches environment a init
  StatementTouches environment a (Val place name at init) = Touches environment a init
  StatementTouches environment a (Assign place name (Some target) how set_to) =
      (Touches environment a target ⊎ TouchesField (binding_of environment name) (mode_by how) a) ⊎ Touches environment a set_to
  StatementTouches environment a (Assign place name None how set_to) = TouchesScalar (binding_of environment name) (mode_by how) a ⊎ Touches environment a set_to
  StatementTouches environment a (If place test first second has_else) = (Touches environment a test ⊎ BodyTouches environment a first) ⊎ BodyTouches environment a second
  StatementTouches environment a (While place test body) = Touches environment a test ⊎ BodyTouches environment a body
  StatementTouches environment a (For place name at set set_at arg body) = Touches environment a arg ⊎ BodyTouches environment a body

  pub BodyTouches : Environment → Access → Body → Type 0
  BodyTouches environment a no_statement = ⊥
  BodyTouches environment a (statement s rest) = StatementTouches environment a s ⊎ BodyTouches environment a rest

abbrev pub Computes : Type 0 → Type 0
Computes A = EvaluationState → Outcome EvaluationState A

-- P admits all of the accesses
abbrev pub Only : (Access → Type 0) → (Access → Type 0) → Type 0
Only P Touched = (a : Access) → Touched a → P a

-- A PROPERTY K of computations that sequences have if their parts have it, and that the single steps of expressions have, a read of a field
-- if P admits the access
pub record IsTraversedByExpressions (P : Access → Type 0) (K : (A : Type 0) → Computes A → Type 0) : Type 1 where
  pub values : {A : Type 0} (a : A) → K A (pure a)
  pub halts : {A : Type 0} (stop : Stop) → K A (halt stop)
  pub traps : {A : Type 0} (kind : TrapKind) (place : Place) → K A (trap kind place)
  pub then_of : {A B : Type 0} {first : Computes A} {next : A → Computes B} → K A first → ((a : A) → K B (next a)) → K B (and_then first next)
  pub name_of : (name : List ℕ) (global : Option Binding) → K Value (λ m. name_read (local_bound_to m name) (element_bound_to m name) global m)
  pub read_of : (mesh : MeshLists) (spot : Spot) → P (OfField spot.field, Read) → K Value (λ m. read_spot spot (spot_value mesh m.state spot) m)

-- that blocks and loops have too if their parts have it, and the single steps of statements, an assignment if P admits the access
pub record IsTraversed (P : Access → Type 0) (K : (A : Type 0) → Computes A → Type 0) : Type 1 where
  pub expressions : IsTraversedByExpressions P K
  pub local_of : (name : List ℕ) (n : ℤ) → K Done (modify (with_local name n))
  pub element : (name : List ℕ) (x : Option Elem) → K Done (modify (with_element name x))
  pub spot_set : (spot : Spot) (how : How) (n : ℤ) → P (OfField spot.field, mode_by how)
      → K Done (λ m. assign_spot spot how n (value_in m.state.fields spot) m)
  pub name_set : (name : List ℕ) (how : How) (n : ℤ) (global : Option Binding) → ((a : Access) → TouchesScalar global (mode_by how) a → P a)
      → K Done (λ m. assign_name name how n (local_bound_to m name) global m)
  pub block : {body : Computes Done} → K Done body → K Done (in_block body)
  pub loops : (place : Place) {test : Computes Bool} {body : Computes Done} → K Bool test → K Done body
      → K Done (loop evaluation_turns (trap Spent place) test body)

module _ {P : Access → Type 0} {K : (A : Type 0) → Computes A → Type 0} (k : IsTraversedByExpressions P K) where
  pub choice : {A : Type 0} {this other : Computes A} (b : Bool) → K A this → K A other → K A (if_then_else b this other)
  choice true f g = f
  choice false f g = g

  -- single steps of expressions
  pub number_of_any : (v : Value) → K ℤ (number_of v)
  number_of_any (NumberValue n) = k.values n
  number_of_any _ = k.halts NoMeaning

  pub truth_of_any : (v : Value) → K Bool (truth_of v)
  truth_of_any (TruthValue b) = k.values b
  truth_of_any _ = k.halts NoMeaning

  pub element_of_any : (v : Value) → K (Option Elem) (element_of v)
  element_of_any (ElementValue x) = k.values x
  element_of_any _ = k.halts NoMeaning

  number_checked : (place : Place) (n : ℤ) → K Value (checked_number place n)
  number_checked place n = choice {this = pure (NumberValue n)} {other = trap Overflow place} (is_in_range n) (k.values (NumberValue n)) (k.traps Overflow place)

  division_checked : (place : Place) (b : ℤ) {by : Computes Value} → K Value by → K Value (checked_division place b by)
  division_checked place b h = choice {this = trap ZeroDivide place} (int_le b (pos 0) && int_le (pos 0) b) (k.traps ZeroDivide place) h

  pub operator_of : (sign : Sign) (place : Place) (v w : Value) → K Value (operator_result sign place v w)
  operator_of Or place (TruthValue a) (TruthValue b) = k.values _
  operator_of And place (TruthValue a) (TruthValue b) = k.values _
  operator_of Plus place (NumberValue a) (NumberValue b) = number_checked place (a +ℤ b)
  operator_of Minus place (NumberValue a) (NumberValue b) = number_checked place (a -ℤ b)
  operator_of Times place (NumberValue a) (NumberValue b) = number_checked place (a *ℤ b)
  operator_of Over place (NumberValue a) (NumberValue b) = division_checked place b (number_checked place (int_div a b))
  operator_of Rest place (NumberValue a) (NumberValue b) = division_checked place b (k.values (NumberValue (int_rem a b)))
  operator_of _ place _ _ = k.halts NoMeaning

  pub negation_of : (place : Place) (v : Value) → K Value (negation place v)
  negation_of place (NumberValue n) = number_checked place (neg_ℤ n)
  negation_of place _ = k.halts NoMeaning

  pub complement_of : (v : Value) → K Value (complement v)
  complement_of (TruthValue b) = k.values _
  complement_of _ = k.halts NoMeaning

  pub comparison_of : (rel : Rel) (v w : Value) → K Value (comparison_result rel v w)
  comparison_of rel (NumberValue a) (NumberValue b) = k.values (TruthValue (holds rel a b))
  comparison_of Same (ElementValue x) (ElementValue y) = k.values _
  comparison_of Other (ElementValue x) (ElementValue y) = k.values _
  comparison_of rel _ _ = k.halts NoMeaning

  id_of : (place : Place) (x : Option Elem) → K Value (id_result place x)
  id_of place (Some x) = k.values _
  id_of place None = k.traps NilElement place

  pub call_of : (mesh : MeshLists) (place : Place) (fun : Fun) (x : Option Elem) → K Value (call_result mesh place fun x)
  call_of mesh place Head x = k.values (ElementValue (head mesh x))
  call_of mesh place Tail x = k.values (ElementValue (tail mesh x))
  call_of mesh place Inside x = k.values (ElementValue (inside mesh x))
  call_of mesh place Outside x = k.values (ElementValue (outside mesh x))
  call_of mesh place Flip x = k.values (ElementValue (flip x))
  call_of mesh place Valid x = k.values (TruthValue (valid x))
  call_of mesh place Id x = id_of place x

  field_of : (mesh : MeshLists) (place : Place) (global : Option Binding) (x : Option Elem) → Only P (TouchesField global Read) → K Value (field_read mesh place global x)
  field_of mesh place (Some (FieldName number kind)) (Some x) h = k.read_of mesh (spot_of number x) (h _ refl)
  field_of mesh place (Some (FieldName number kind)) None h = k.traps NilElement place
  field_of mesh place _ x h = k.halts NoMeaning

  -- expressions
  mutual
    pub over_meaning : (mesh : MeshLists) (environment : Environment) (e : Expression) → Only P (λ a. Touches environment a e) → K Value (meaning mesh environment e)
    over_meaning mesh environment (Number place n) h = k.values (NumberValue n)
    over_meaning mesh environment (Name place name) h = k.name_of name (binding_of environment name)
    over_meaning mesh environment (Field place name arg) h =
        k.then_of (over_meaning mesh environment arg (λ a t. h a (inl t)))
        (λ v. k.then_of (element_of_any v) (λ x. field_of mesh place (binding_of environment name) x (λ a t. h a (inr t))))
    over_meaning mesh environment (Call place fun arg) h =
        k.then_of (over_meaning mesh environment arg h) (λ v. k.then_of (element_of_any v) (λ x. call_of mesh place fun x))
    over_meaning mesh environment (Towards place arg to) h =
        k.then_of (over_meaning mesh environment arg (λ a t. h a (inl t))) (λ v. k.then_of (element_of_any v)
        (λ x. k.then_of (over_meaning mesh environment to (λ a t. h a (inr t)))
        (λ w. k.then_of (element_of_any w) (λ y. k.values (ElementValue (towards mesh x y))))))
    over_meaning mesh environment (Neg place arg) h = k.then_of (over_meaning mesh environment arg h) (λ v. negation_of place v)
    over_meaning mesh environment (Not place arg) h = k.then_of (over_meaning mesh environment arg h) (λ v. complement_of v)
    over_meaning mesh environment (Chain level first links) h =
        k.then_of (over_meaning mesh environment first (λ a t. h a (inl t))) (λ v. over_links mesh environment v links (λ a t. h a (inr t)))
    over_meaning mesh environment (Compare place rel left right) h =
        k.then_of (over_meaning mesh environment left (λ a t. h a (inl t)))
        (λ v. k.then_of (over_meaning mesh environment right (λ a t. h a (inr t))) (λ w. comparison_of rel v w))

    over_links : (mesh : MeshLists) (environment : Environment) (v : Value) (links : Links) → Only P (λ a. LinksTouch environment a links)
        → K Value (links_meaning mesh environment v links)
    over_links mesh environment v no_links h = k.values v
    over_links mesh environment v (link sign place arg rest) h =
        k.then_of (choice (is_decided sign v) (k.values v)
        (k.then_of (over_meaning mesh environment arg (λ a t. h a (inl t))) (λ w. operator_of sign place v w)))
        (λ u. over_links mesh environment u rest (λ a t. h a (inr t)))

  pub over_number : (mesh : MeshLists) (environment : Environment) (e : Expression) → Only P (λ a. Touches environment a e) → K ℤ (number_in mesh environment e)
  over_number mesh environment e h = k.then_of (over_meaning mesh environment e h) (λ v. number_of_any v)

  pub over_truth : (mesh : MeshLists) (environment : Environment) (e : Expression) → Only P (λ a. Touches environment a e) → K Bool (truth_in mesh environment e)
  over_truth mesh environment e h = k.then_of (over_meaning mesh environment e h) (λ v. truth_of_any v)

  pub over_element : (mesh : MeshLists) (environment : Environment) (e : Expression) → Only P (λ a. Touches environment a e) → K (Option Elem) (element_in mesh environment e)
  over_element mesh environment e h = k.then_of (over_meaning mesh environment e h) (λ v. element_of_any v)

module _ {P : Access → Type 0} {K : (A : Type 0) → Computes A → Type 0} (k : IsTraversed P K) where
  skips : K Done (λ m. pure (tt {0}) m)
  skips = k.expressions.values (tt {0})

  each : {X : Type 0} {computation : X → Computes Done} → ((x : X) → K Done (computation x)) → (xs : List X) → K Done (for_each computation xs)
  each h [] = skips
  each h (x ∷ xs) = k.expressions.then_of (h x) (λ done. each h xs)

  -- single steps of statements
  field_set : (place : Place) (how : How) (global : Option Binding) (n : ℤ) (x : Option Elem)
      → Only P (TouchesField global (mode_by how)) → K Done (assign_field place how global n x)
  field_set place how (Some (FieldName number kind)) n (Some x) h = k.spot_set (spot_of number x) how n (h _ refl)
  field_set place how (Some (FieldName number kind)) n None h = k.expressions.traps NilElement place
  field_set place how _ n x h = k.expressions.halts NoMeaning

  over_members : (mesh : MeshLists) (place : Place) {body : Option Elem → Computes Done} → ((x : Option Elem) → K Done (body x))
      → (set : Elem → List Elem) (x : Option Elem) → K Done (for_each_member mesh place body set x)
  over_members mesh place h set (Some x) = each (λ member. k.block (h (Some member))) (set x)
  over_members mesh place h set None = k.expressions.traps NilElement place

  -- statements and bodies
  mutual
    pub over_statement : (mesh : MeshLists) (environment : Environment) (s : Statement) → Only P (λ a. StatementTouches environment a s)
        → K Done (statement_meaning mesh environment s)
    over_statement mesh environment (Var place name at init) h = k.expressions.then_of (over_number k.expressions mesh environment init h) (λ n. k.local_of name n)
    over_statement mesh environment (Val place name at init) h = k.expressions.then_of (over_element k.expressions mesh environment init h) (λ x. k.element name x)
    over_statement mesh environment (Assign place name (Some target) how set_to) h =
        k.expressions.then_of (over_number k.expressions mesh environment set_to (λ a t. h a (inr t)))
        (λ n. k.expressions.then_of (over_element k.expressions mesh environment target (λ a t. h a (inl (inl t))))
        (λ x. field_set place how (binding_of environment name) n x (λ a t. h a (inl (inr t)))))
    over_statement mesh environment (Assign place name None how set_to) h =
        k.expressions.then_of (over_number k.expressions mesh environment set_to (λ a t. h a (inr t))) (λ n. k.name_set name how n (binding_of environment name) (λ a t. h a (inl t)))
    over_statement mesh environment (If place test first second has_else) h =
        k.expressions.then_of (over_truth k.expressions mesh environment test (λ a t. h a (inl (inl t))))
        (λ b. choice k.expressions b (k.block (over_body mesh environment first (λ a t. h a (inl (inr t)))))
        (k.block (over_body mesh environment second (λ a t. h a (inr t)))))
    over_statement mesh environment (While place test body) h =
        k.loops place (over_truth k.expressions mesh environment test (λ a t. h a (inl t))) (k.block (over_body mesh environment body (λ a t. h a (inr t))))
    over_statement mesh environment (For place name at set set_at arg body) h =
        k.expressions.then_of (over_element k.expressions mesh environment arg (λ a t. h a (inl t))) (λ x. over_members mesh set_at
        (λ member. k.expressions.then_of (k.element name member) (λ done. over_body mesh environment body (λ a t. h a (inr t)))) (members mesh set) x)

    pub over_body : (mesh : MeshLists) (environment : Environment) (body : Body) → Only P (λ a. BodyTouches environment a body) → K Done (body_meaning mesh environment body)
    over_body mesh environment no_statement h = skips
    over_body mesh environment (statement s rest) h =
        k.expressions.then_of (over_statement mesh environment s (λ a t. h a (inl t))) (λ done. over_body mesh environment rest (λ a t. h a (inr t)))
