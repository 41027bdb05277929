-- Each act of a body is one of its accesses: one induction over expressions, statements and bodies, from any state with the bindings.
use Rattle.std.proofs.Common.{◌≡◌, ℕ, List, [], ◌∷◌, ◌++◌, refl, sym, ap, subst, ◌∙◌, inl}
use Rattle.std.specs.Prelude.{Option, Some, None, ℤ, Result, Ok, Err}
use Rattle.std.specs.List.{AllByRecursion, Contains, flat_map}
use Rattle.liszt_base.specs.MeshLists.{MeshLists}
use Rattle.liszt_base.specs.declared.accesses.Access.{Access}
use Rattle.liszt_base.specs.declared.accesses.Mode.TheVariants.{Read}
use Rattle.liszt_base.specs.declared.accesses.Spot.{Spot}
use Rattle.liszt_base.specs.declared.answers.Place.{Place}
use Rattle.liszt_base.specs.declared.elements.Elem.{Elem}
use Rattle.liszt_tree.specs.declared.tree.How.{How}
use Rattle.liszt_tree.specs.declared.tree.How.TheVariants.{Set, Fold, Less}
use Rattle.liszt_tree.specs.Tree.{Expression, Number, Name, Field, Call, Towards, Neg, Not, Chain, Compare, Links, no_links, link}
use Rattle.liszt_tree.specs.Tree.{Statement, Var, Val, Assign, If, While, For, Body, no_statement, statement}
use Rattle.mesh_topology.proofs.MemberLemmas.{Member, member_left, member_right, contained_member}
use Rattle.topo_operators.specs.Operators.{towards, members}
use Rattle.phase_types.specs.Environments.{Environment, Binding, FieldName, ScalarName, binding_of, Comprehension}
use Rattle.phase_types.specs.Walk.{mode_by}
use Rattle.kernel_eval.specs.Expressions.{ElementBindings, element_value, with_binding, elements_after}
use Rattle.kernel_eval.specs.Iterations.{iteration_start, acts}
use Rattle.kernel_eval.specs.Meaning.{Value, NumberValue, TruthValue, ElementValue, element_of, is_decided, read_spot, field_read, spot_of, spot_value, meaning, links_meaning, number_in, truth_in, element_in, assign_spot, assign_field, assign_scalar, assign_name, in_block, evaluation_turns, for_each_member, statement_meaning, body_meaning}
use Rattle.kernel_eval.specs.Outcomes.{Stop, continue_with, and_then, modify}
use Rattle.kernel_eval.specs.Preservation.{Preserves}
use Rattle.kernel_eval.specs.States.{State, Act, EvaluationState, value_in, scalar_value, local_bound_to, with_local, with_element, after_block}
use Rattle.kernel_eval.proofs.ActModeLemmas.{all_and_one}
use Rattle.kernel_eval.proofs.ComputationLemmas.{keeps_then}
use Rattle.kernel_eval.proofs.ConditionLemmas.{kept_by_expressions}
use Rattle.kernel_eval.proofs.ElementExpressionLemmas.{IsElementOf, gives_element}
use Rattle.kernel_eval.proofs.PreservationLemmas.{leads, element_keeps, keeps_body}
use Rattle.kernel_eval.proofs.ShapeLemmas.{KeepsShape, shapes_kept, block_shape_preserved}
use Rattle.kernel_eval.proofs.TraversalLemmas.{Computes, IsTraversedByExpressions, number_of_any, truth_of_any, element_of_any, operator_of, negation_of, complement_of, comparison_of, call_of, choice}
use Rattle.kernel_eval.proofs.TripleLemmas.{Meets, Triple, KeptBy, triple_then, triple_if, triple_loop, triple_for_each}
use Rattle.stencil_infer.specs.Stencils.{access_at, accesses_of, link_accesses, members_at, statement_accesses, body_accesses, iteration_accesses, bindings_at_start, IsStencil, LiesIn}

module _ (mesh : MeshLists) (environment : Environment) (Admitted : Access → Type 0) where
  abbrev IsAdmitted : Act → Type 0
  IsAdmitted act = Admitted (record { spot = act.spot; mode = act.mode })

  abbrev AllAdmitted : List Access → Type 0
  AllAdmitted accesses = (a : Access) → Member a accesses → Admitted a

  on_left : (xs ys : List Access) → AllAdmitted (xs ++ ys) → AllAdmitted xs
  on_left xs ys h a m = h a (member_left xs ys a m)

  on_right : (xs ys : List Access) → AllAdmitted (xs ++ ys) → AllAdmitted ys
  on_right xs ys h a m = h a (member_right xs ys a m)

  -- the acts so far are admitted; and the bindings are these
  abbrev Lies : EvaluationState → Type 0
  Lies m = AllByRecursion IsAdmitted m.acts

  abbrev At : ElementBindings → EvaluationState → Type 0
  At elements m = (m.elements ≡ elements) × Lies m

  -- EXPRESSIONS
  module _ (elements : ElementBindings) where
    abbrev Keeps : {A : Type 0} → Computes A → Type 0
    Keeps computation = KeptBy Lies (At elements) computation

    steps : IsTraversedByExpressions (λ a. ⊥) (λ A computation. Keeps computation)
    steps = kept_by_expressions (At elements) Lies (λ m h. h.1) (λ a. ⊥) (λ spot n m p h. absurd p)

    -- a value that is an element is that of the bindings
    abbrev Known : Expression → Value → Type 0
    Known e (ElementValue x) = element_value mesh elements e ≡ Some x
    Known e _ = Unit {0}

    abbrev KnownAt : Expression → Value → EvaluationState → Type 0
    KnownAt e v m = Known e v × At elements m

    known : (e : Expression) → Keeps (meaning mesh environment e) → Triple (At elements) (meaning mesh environment e) (KnownAt e) Lies
    known e t = record {
      meets = λ m h. go m h (meaning mesh environment e m).after (meaning mesh environment e m).answer (gives_element mesh environment e m) (t.meets m h);
    } where
      go : (m : EvaluationState) → At elements m → (s : EvaluationState) (answer : Result Value Stop) → IsElementOf mesh environment m.elements e m s answer
          → Meets (λ v. At elements) Lies s answer → Meets (KnownAt e) Lies s answer
      go m h s (Ok (ElementValue x)) is t = (ap (λ elements. element_value mesh elements e) (sym h.0) ∙ is.0, t)
      go m h s (Ok (NumberValue n)) is t = (tt, t)
      go m h s (Ok (TruthValue b)) is t = (tt, t)
      go m h s (Err stop) is t = t

    -- field reads
    read_at : (spot : Spot) (value : Option ℤ) → Admitted (record { spot = spot; mode = Read }) → (m : EvaluationState) → At elements m
        → Meets (λ v. At elements) Lies (read_spot spot value m).after (read_spot spot value m).answer
    read_at spot (Some n) s m h = (h.0, all_and_one IsAdmitted m.acts _ h.1 s)
    read_at spot None s m h = h.1

    field_at : (place : Place) (global : Option Binding) (x : Option Elem) → AllAdmitted (access_at Read global (Some x)) → Keeps (field_read mesh place global x)
    field_at place (Some (FieldName number kind)) (Some x) s =
        record { meets = λ m h. read_at (spot_of number x) (spot_value mesh m.state (spot_of number x)) (s _ (inl refl)) m h }
    field_at place (Some (FieldName number kind)) None s = record { meets = λ m h. h.1 }
    field_at place _ x s = record { meets = λ m h. h.1 }

    field_value : (place : Place) (global : Option Binding) (arg : Expression) (v : Value) → AllAdmitted (access_at Read global (element_value mesh elements arg))
        → Triple (KnownAt arg v) (and_then (element_of v) (λ x. field_read mesh place global x)) (λ v. At elements) Lies
    field_value place global arg (ElementValue x) s =
        record { meets = λ m h. (field_at place global x (subst (λ value. AllAdmitted (access_at Read global value)) h.0 s)).meets m h.1 }
    field_value place global arg (NumberValue n) s = record { meets = λ m h. h.1.1 }
    field_value place global arg (TruthValue b) s = record { meets = λ m h. h.1.1 }

    mutual
      expression_lies : (e : Expression) → AllAdmitted (accesses_of mesh environment elements e) → Keeps (meaning mesh environment e)
      expression_lies (Number place n) s = steps.values (NumberValue n)
      expression_lies (Name place name) s = steps.name_of name (binding_of environment name)
      expression_lies (Field place name arg) s =
          let reads : List Access = access_at Read (binding_of environment name) (element_value mesh elements arg) in
          triple_then (known arg (expression_lies arg (on_left (accesses_of mesh environment elements arg) reads s)))
          (λ v. field_value place (binding_of environment name) arg v (on_right (accesses_of mesh environment elements arg) reads s))
      expression_lies (Call place fun arg) s = steps.then_of (expression_lies arg s) (λ v. steps.then_of (element_of_any steps v) (λ x. call_of steps mesh place fun x))
      expression_lies (Towards place arg to) s =
          steps.then_of (expression_lies arg (on_left _ (accesses_of mesh environment elements to) s)) (λ v. steps.then_of (element_of_any steps v)
          (λ x. steps.then_of (expression_lies to (on_right (accesses_of mesh environment elements arg) _ s))
          (λ w. steps.then_of (element_of_any steps w) (λ y. steps.values (ElementValue (towards mesh x y))))))
      expression_lies (Neg place arg) s = steps.then_of (expression_lies arg s) (λ v. negation_of steps place v)
      expression_lies (Not place arg) s = steps.then_of (expression_lies arg s) (λ v. complement_of steps v)
      expression_lies (Chain level first links) s =
          steps.then_of (expression_lies first (on_left _ (link_accesses mesh environment elements links) s))
          (λ v. links_lie v links (on_right (accesses_of mesh environment elements first) _ s))
      expression_lies (Compare place rel left right) s =
          steps.then_of (expression_lies left (on_left _ (accesses_of mesh environment elements right) s))
          (λ v. steps.then_of (expression_lies right (on_right (accesses_of mesh environment elements left) _ s)) (λ w. comparison_of steps rel v w))

      links_lie : (v : Value) (links : Links) → AllAdmitted (link_accesses mesh environment elements links) → Keeps (links_meaning mesh environment v links)
      links_lie v no_links s = steps.values v
      links_lie v (link sign place arg rest) s =
          steps.then_of (choice steps (is_decided sign v) (steps.values v)
          (steps.then_of (expression_lies arg (on_left _ (link_accesses mesh environment elements rest) s)) (λ w. operator_of steps sign place v w)))
          (λ u. links_lie u rest (on_right (accesses_of mesh environment elements arg) _ s))

    number_lies : (e : Expression) → AllAdmitted (accesses_of mesh environment elements e) → Keeps (number_in mesh environment e)
    number_lies e s = steps.then_of (expression_lies e s) (λ v. number_of_any steps v)

    truth_lies : (e : Expression) → AllAdmitted (accesses_of mesh environment elements e) → Keeps (truth_in mesh environment e)
    truth_lies e s = steps.then_of (expression_lies e s) (λ v. truth_of_any steps v)

    abbrev Gave : Expression → Option Elem → EvaluationState → Type 0
    Gave e x m = (element_value mesh elements e ≡ Some x) × At elements m

    given : (e : Expression) (v : Value) → Triple (KnownAt e v) (element_of v) (Gave e) Lies
    given e (ElementValue x) = record { meets = λ m h. h }
    given e (NumberValue n) = record { meets = λ m h. h.1.1 }
    given e (TruthValue b) = record { meets = λ m h. h.1.1 }

    element_lies : (e : Expression) → AllAdmitted (accesses_of mesh environment elements e) → Triple (At elements) (element_in mesh environment e) (Gave e) Lies
    element_lies e s = triple_then (known e (expression_lies e s)) (λ v. given e v)

    -- ASSIGNMENTS
    spot_at : (spot : Spot) (how : How) (n : ℤ) (value : Option ℤ) → Admitted (record { spot = spot; mode = mode_by how }) → (m : EvaluationState) → At elements m
        → Meets (λ done. At elements) Lies (assign_spot spot how n value m).after (assign_spot spot how n value m).answer
    spot_at spot how n (Some old) s m h = (h.0, all_and_one IsAdmitted m.acts _ h.1 s)
    spot_at spot how n None s m h = h.1

    target_at : (place : Place) (how : How) (global : Option Binding) (n : ℤ) (x : Option Elem) → AllAdmitted (access_at (mode_by how) global (Some x))
        → Keeps (assign_field place how global n x)
    target_at place how (Some (FieldName number kind)) n (Some x) s =
        record { meets = λ m h. spot_at (spot_of number x) how n (value_in m.state.fields (spot_of number x)) (s _ (inl refl)) m h }
    target_at place how (Some (FieldName number kind)) n None s = record { meets = λ m h. h.1 }
    target_at place how _ n x s = record { meets = λ m h. h.1 }

    target_step : (place : Place) (how : How) (global : Option Binding) (n : ℤ) (target : Expression) (x : Option Elem)
        → AllAdmitted (access_at (mode_by how) global (element_value mesh elements target))
        → Triple (Gave target x) (assign_field place how global n x) (λ done. At elements) Lies
    target_step place how global n target x s =
        record { meets = λ m h. (target_at place how global n x (subst (λ value. AllAdmitted (access_at (mode_by how) global value)) h.0 s)).meets m h.1 }

    scalar_at : (how : How) (n : ℤ) (scalar : ℕ) (value : Option ℤ) (m : EvaluationState) → At elements m
        → Meets (λ done. At elements) Lies (assign_scalar how n scalar value m).after (assign_scalar how n scalar value m).answer
    scalar_at Set n scalar (Some old) m h = h
    scalar_at (Fold op) n scalar (Some old) m h = h
    scalar_at Less n scalar (Some old) m h = h
    scalar_at how n scalar None m h = h.1

    name_at : (name : List ℕ) (how : How) (n : ℤ) (value : Option ℤ) (global : Option Binding) (m : EvaluationState) → At elements m
        → Meets (λ done. At elements) Lies (assign_name name how n value global m).after (assign_name name how n value global m).answer
    name_at name how n (Some old) global m h = h
    name_at name how n None (Some (ScalarName number)) m h = scalar_at how n number (scalar_value m.state number) m h
    name_at name how n None _ m h = h.1

    name_step : (name : List ℕ) (how : How) (n : ℤ) (global : Option Binding) → Keeps (λ m. assign_name name how n (local_bound_to m name) global m)
    name_step name how n global = record { meets = λ m h. name_at name how n (local_bound_to m name) global m h }

    local_step : (name : List ℕ) (n : ℤ) → Keeps (modify (with_local name n))
    local_step name n = record { meets = λ m h. h }

    bind_step : (name : List ℕ) (x : Option Elem) → Triple (At elements) (modify (with_element name x)) (λ done. At ((name, x) ∷ elements)) Lies
    bind_step name x = record { meets = λ m h. (ap (λ bound. (name, x) ∷ bound) h.0, h.1) }

    val_step : (name : List ℕ) (init : Expression) (x : Option Elem)
        → Triple (Gave init x) (modify (with_element name x)) (λ done. At (with_binding name (element_value mesh elements init) elements)) Lies
    val_step name init x = record {
      meets = λ m h. (ap (λ bound. (name, x) ∷ bound) h.1.0 ∙ sym (ap (λ value. with_binding name value elements) h.0), h.1.1);
    }

    -- BLOCKS
    block_lies : {body : Computes (Unit {0})} → Preserves KeepsShape body → Triple (At elements) body (λ done. Lies) Lies → Keeps (in_block body)
    block_lies {body = body} k t = record { meets = λ m h. go m h (body m).after (body m).answer (k.preserved m) (t.meets m h) } where
      go : (before : EvaluationState) → At elements before → (s : EvaluationState) (answer : Result (Unit {0}) Stop) → KeepsShape before s → Meets (λ done. Lies) Lies s answer
          → Meets (λ done. At elements) Lies (continue_with (λ done. modify (after_block before)) s answer).after (continue_with (λ done. modify (after_block before)) s answer).answer
      go before h s (Ok done) r t = ((block_shape_preserved before s r).elements ∙ h.0, t)
      go before h s (Err stop) r t = t

    -- the members of a set, each in a block of its own
    members_lie : (place : Place) (set : Elem → List Elem) (body : Option Elem → Computes (Unit {0})) (accesses : Elem → List Access)
        → ((member : Elem) → AllAdmitted (accesses member) → Keeps (in_block (body (Some member)))) → (x : Option Elem)
        → AllAdmitted (flat_map accesses (members_at set (Some x))) → Keeps (for_each_member mesh place body set x)
    members_lie place set body accesses h None s = record { meets = λ m h. h.1 }
    members_lie place set body accesses h (Some x) s = triple_for_each h (set x) (each (set x) s) where
      each : (xs : List Elem) → AllAdmitted (flat_map accesses xs) → AllByRecursion (λ member. AllAdmitted (accesses member)) xs
      each [] s = tt
      each (y ∷ ys) s = (on_left (accesses y) (flat_map accesses ys) s, each ys (on_right (accesses y) (flat_map accesses ys) s))

    members_step : (place : Place) (set : Elem → List Elem) (body : Option Elem → Computes (Unit {0})) (accesses : Elem → List Access)
        → ((member : Elem) → AllAdmitted (accesses member) → Keeps (in_block (body (Some member)))) → (arg : Expression) (x : Option Elem)
        → AllAdmitted (flat_map accesses (members_at set (element_value mesh elements arg)))
        → Triple (Gave arg x) (for_each_member mesh place body set x) (λ done. At elements) Lies
    members_step place set body accesses h arg x s = record {
      meets = λ m g. (members_lie place set body accesses h x (subst (λ value. AllAdmitted (flat_map accesses (members_at set value))) g.0 s)).meets m g.1;
    }

  -- STATEMENTS and bodies
  body_shape : (body : Body) → Preserves KeepsShape (body_meaning mesh environment body)
  body_shape body = keeps_body shapes_kept mesh environment body (λ a t. tt)

  member_shape : (name : List ℕ) (body : Body) (x : Option Elem) → Preserves KeepsShape (and_then (modify (with_element name x)) (λ done. body_meaning mesh environment body))
  member_shape name body x = keeps_then (leads shapes_kept) (element_keeps shapes_kept name x) (λ done. body_shape body)

  mutual
    statement_lies : (elements : ElementBindings) (s : Statement) → AllAdmitted (statement_accesses mesh environment elements s)
        → Triple (At elements) (statement_meaning mesh environment s) (λ done. At (elements_after mesh elements s)) Lies
    statement_lies elements (Var place name at init) s = triple_then (number_lies elements init s) (λ n. local_step elements name n)
    statement_lies elements (Val place name at init) s = triple_then (element_lies elements init s) (λ x. val_step elements name init x)
    statement_lies elements (Assign place name (Some target) how value) s =
        let first : List Access = accesses_of mesh environment elements value in
        let second : List Access = accesses_of mesh environment elements target in
        let third : List Access = access_at (mode_by how) (binding_of environment name) (element_value mesh elements target) in
        triple_then (number_lies elements value (on_left first second (on_left (first ++ second) third s)))
        (λ n. triple_then (element_lies elements target (on_right first second (on_left (first ++ second) third s)))
        (λ x. target_step elements place how (binding_of environment name) n target x (on_right (first ++ second) third s)))
    statement_lies elements (Assign place name None how value) s =
        triple_then (number_lies elements value s) (λ n. name_step elements name how n (binding_of environment name))
    statement_lies elements (If place test first second has_else) s =
        let tested : List Access = accesses_of mesh environment elements test in
        let this : List Access = body_accesses mesh environment elements first in
        let other : List Access = body_accesses mesh environment elements second in
        triple_then (truth_lies elements test (on_left tested this (on_left (tested ++ this) other s)))
        (λ b. triple_if b (block_lies elements (body_shape first) (body_lies elements first (on_right tested this (on_left (tested ++ this) other s))))
        (block_lies elements (body_shape second) (body_lies elements second (on_right (tested ++ this) other s))))
    statement_lies elements (While place test body) s =
        let tested : List Access = accesses_of mesh environment elements test in
        let repeated : List Access = body_accesses mesh environment elements body in
        triple_loop evaluation_turns (λ n m h. h) (record { meets = λ m h. h.1 }) (truth_lies elements test (on_left tested repeated s))
        (block_lies elements (body_shape body) (body_lies elements body (on_right tested repeated s)))
    statement_lies elements (For place name at set set_at arg body) s =
        let each : Elem → List Access = λ member. body_accesses mesh environment ((name, Some member) ∷ elements) body in
        let all : List Access = flat_map each (members_at (members mesh set) (element_value mesh elements arg)) in
        triple_then (element_lies elements arg (on_left (accesses_of mesh environment elements arg) all s))
        (λ x. members_step elements set_at (members mesh set) (λ member. and_then (modify (with_element name member)) (λ done. body_meaning mesh environment body)) each
        (λ member g. block_lies elements (member_shape name body (Some member))
        (triple_then (bind_step elements name (Some member)) (λ done. body_lies ((name, Some member) ∷ elements) body g)))
        arg x (on_right (accesses_of mesh environment elements arg) all s))

    body_lies : (elements : ElementBindings) (body : Body) → AllAdmitted (body_accesses mesh environment elements body)
        → Triple (At elements) (body_meaning mesh environment body) (λ done. Lies) Lies
    body_lies elements no_statement s = record { meets = λ m h. h.1 }
    body_lies elements (statement first rest) s =
        let now : List Access = statement_accesses mesh environment elements first in
        let later : List Access = body_accesses mesh environment (elements_after mesh elements first) rest in
        triple_then (statement_lies elements first (on_left now later s)) (λ done. body_lies (elements_after mesh elements first) rest (on_right now later s))

-- AN ITERATION
always : (Condition : EvaluationState → Type 0) (after : EvaluationState) (answer : Result (Unit {0}) Stop) → Meets (λ done. Condition) Condition after answer → Condition after
always Condition after (Ok done) h = h
always Condition after (Err stop) h = h

pub acts_in_accesses : (mesh : MeshLists) (c : Comprehension) (turns : ℕ) (s : State) (id : ℕ) → AllByRecursion (LiesIn (iteration_accesses mesh c id)) (acts mesh c turns s id)
acts_in_accesses mesh c turns s id =
    always (λ m. AllByRecursion (LiesIn (iteration_accesses mesh c id)) m.acts)
    (body_meaning mesh c.environment c.body (iteration_start c turns s id)).after (body_meaning mesh c.environment c.body (iteration_start c turns s id)).answer
    ((body_lies mesh c.environment (Contains (iteration_accesses mesh c id)) (bindings_at_start c id) c.body
    (λ a m. contained_member (iteration_accesses mesh c id) a m)).meets (iteration_start c turns s id) (refl, tt))

all_lie : (accesses stencil : List Access) → ((a : Access) → Contains accesses a → Contains stencil a) → (made : List Act) → AllByRecursion (LiesIn accesses) made
    → AllByRecursion (LiesIn stencil) made
all_lie accesses stencil h [] all = tt
all_lie accesses stencil h (act ∷ made) all = (h _ all.0, all_lie accesses stencil h made all.1)

pub acts_in_stencil : (mesh : MeshLists) (c : Comprehension) (turns : ℕ) (s : State) (id : ℕ) (stencil : List Access) → IsStencil mesh c id stencil
    → AllByRecursion (LiesIn stencil) (acts mesh c turns s id)
acts_in_stencil mesh c turns s id stencil is =
    all_lie (iteration_accesses mesh c id) stencil is.has_all (acts mesh c turns s id) (acts_in_accesses mesh c turns s id)
