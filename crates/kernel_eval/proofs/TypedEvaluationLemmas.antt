-- A typed expression, statement or body ends, done or by a trap, from a state that fits its environment.
use Rattle.std.proofs.Common.{◌≡◌, ◌≢◌, ◌<◌, ℕ, zero, suc, Bool, true, false, List, [], ◌∷◌, refl, subst, inl, inr, arith, ne_eqb}
use Rattle.std.proofs.lemmas.Bool.{cases_Bool, lt-ltb}
use Rattle.std.proofs.lemmas.List.{length-map}
use Rattle.std.proofs.lemmas.Slice.Eq.{bytes_eq-Decides}
use Rattle.std.specs.Prelude.{Option, Some, None, is_some, length, slice_get, cond, ◌&&◌, ◌||◌, not, ℤ, Result, Ok, Err, ◌+ℤ◌, ◌-ℤ◌, ◌*ℤ◌, neg_ℤ, int_le, int_div, int_rem, pos}
use Rattle.std.specs.List.{AllByRecursion}
use Rattle.std.specs.Option.{option_map, option_and_then}
use Rattle.std.specs.Str.{bytes_eq}
use Rattle.liszt_base.specs.Corners.{IsMesh}
use Rattle.liszt_base.specs.Kinds.{has_set, kind_of}
use Rattle.liszt_base.specs.MeshLists.{MeshLists}
use Rattle.liszt_base.specs.declared.answers.Place.{Place}
use Rattle.liszt_base.specs.declared.answers.TrapKind.{TrapKind}
use Rattle.liszt_base.specs.declared.answers.TrapKind.TheVariants.{Overflow, ZeroDivide, NilElement, Spent}
use Rattle.liszt_base.specs.declared.elements.Elem.{Elem}
use Rattle.liszt_base.specs.declared.elements.Kind.{Kind}
use Rattle.liszt_base.specs.declared.elements.Kind.TheVariants.{Vertex, Edge, Face, Cell}
use Rattle.liszt_base.specs.declared.elements.SetName.{SetName}
use Rattle.liszt_tree.specs.declared.tree.Fun.{Fun}
use Rattle.liszt_tree.specs.declared.tree.Fun.TheVariants.{Head, Tail, Inside, Outside, Flip, Valid, Id}
use Rattle.liszt_tree.specs.declared.tree.How.{How}
use Rattle.liszt_tree.specs.declared.tree.Rel.{Rel}
use Rattle.liszt_tree.specs.declared.tree.Rel.TheVariants.{Same, Other}
use Rattle.liszt_tree.specs.declared.tree.Sign.{Sign}
use Rattle.liszt_tree.specs.declared.tree.Sign.TheVariants.{Or, And, Plus, Minus, Times, Over, Rest}
use Rattle.liszt_tree.specs.Tree.{Expression, Links, Statement, Body}
use Rattle.mesh_topology.specs.Elements.{corner_lists, count}
use Rattle.mesh_topology.proofs.NearLemmas.{vertex_count}
use Rattle.topo_operators.specs.Operands.{IsElement, IsNilOrElement, IsSetOperand}
use Rattle.topo_operators.specs.Operators.{head, tail, inside, outside, flip, valid, same, towards, members, unflipped, reversed, points_to, tail_of, head_of, inside_of, outside_of}
use Rattle.topo_operators.proofs.ResultLemmas.{nil_or_result, end_of, side_of, members_of}
use Rattle.phase_types.specs.Environments.{Environment, Binding, FieldName, ScalarName, LocalName, ElementName, binding_of, is_built_in, Comprehension}
use Rattle.phase_types.specs.Typed.{IsNew, StatementFits, FitsVar, FitsVal, FitsField, FitsScalar, FitsLocal, FitsIf, FitsWhile, FitsFor, BodyFits, FitsNothing, FitsThen, ComprehensionFits}
use Rattle.phase_types.specs.Types.{ValueType, NumberType, TruthType, ElementType, call_type, operand_type, is_sameness, HasType, IsNumber, IsScalar, IsLocal, IsElement as IsElementName, IsField, IsCall, IsTowards, IsNeg, IsNot, IsChain, AreNumbers, AreElements, FollowsType, NoLinks, OneLink}
use Rattle.kernel_eval.specs.Fits.{IsBuiltIn, IsLive, EntryFits, StateFits}
use Rattle.kernel_eval.specs.Iterations.{iteration_start, iteration, end_of as run_end, iteration_end}
use Rattle.kernel_eval.specs.Preservation.{Preserves, field_values}
use Rattle.kernel_eval.specs.Meaning.{Value, NumberValue, TruthValue, ElementValue, number_of, truth_of, element_of, checked_number, checked_division, operator_result, is_decided, negation, complement, comparison_result, holds, id_result, call_result, field_read, spot_of, spot_value, is_in_range, meaning, links_meaning, number_in, truth_in, element_in, assigned_value, assign_field, assign_name, in_block, evaluation_turns, for_each_member, statement_meaning, body_meaning, trap}
use Rattle.kernel_eval.specs.Outcomes.{Stop, Trapped, NoMeaning, Outcome, Computation, pure, continue_with, and_then, if_then_else, for_each, skip, modify, take_turn, loop_within, loop}
use Rattle.kernel_eval.specs.States.{State, value_in, scalar_value, EvaluationState, with_local, with_element, after_block, local_bound_to, element_bound_to}
use Rattle.kernel_eval.proofs.ComputationLemmas.{keeps_then}
use Rattle.kernel_eval.proofs.PreservationLemmas.{leads, element_keeps, keeps_body}
use Rattle.kernel_eval.proofs.ShapeLemmas.{still_fits, same_locals, HasShape, like_itself, same_names, local_assigned, spot_set, reduced, with_turns, KeepsShape, block_shape_preserved, shapes_kept}

-- COMPUTATIONS END: from a state with F, with a value and a state afterwards, or by a trap
abbrev pub EndsIn : {S A : Type 0} → (A → Type 0) → (S → Type 0) → S → Result A Stop → Type 0
EndsIn V G after (Ok a) = V a × G after
EndsIn V G after (Err (Trapped trap)) = Unit {0}
EndsIn V G after (Err NoMeaning) = ⊥

abbrev pub OutcomeEnds : {S A : Type 0} → (A → Type 0) → (S → Type 0) → Outcome S A → Type 0
OutcomeEnds V G outcome = EndsIn V G outcome.after outcome.answer

pub record Ends {S A : Type 0} (F : S → Type 0) (V : A → Type 0) (G : S → Type 0) (computation : S → Outcome S A) : Type 0 where
  pub ends : (s : S) → F s → OutcomeEnds V G (computation s)

ends_continue : {S A B : Type 0} {V : A → Type 0} {W : B → Type 0} {G H : S → Type 0} {next : A → S → Outcome S B}
    → ((a : A) → V a → Ends G W H (next a)) → (s : S) (answer : Result A Stop) → EndsIn V G s answer
    → OutcomeEnds W H (continue_with next s answer)
ends_continue h s (Ok a) e = (h a e.0).ends s e.1
ends_continue h s (Err (Trapped trap)) e = tt
ends_continue h s (Err NoMeaning) e = e

pub ends_then : {S A B : Type 0} {V : A → Type 0} {W : B → Type 0} {F G H : S → Type 0} {first : S → Outcome S A} {next : A → S → Outcome S B}
    → Ends F V G first → ((a : A) → V a → Ends G W H (next a)) → Ends F W H (and_then first next)
ends_then {V = V} {W = W} {G = G} {H = H} {first = first} {next = next} f h =
    record { ends = λ s e. ends_continue {V = V} {W = W} {G = G} {H = H} {next = next} h (first s).after (first s).answer (f.ends s e) }

pub ends_if : {S A : Type 0} {V : A → Type 0} {F G : S → Type 0} {this other : S → Outcome S A} (b : Bool)
    → Ends F V G this → Ends F V G other → Ends F V G (if_then_else b this other)
ends_if true f g = f
ends_if false f g = g

pub ends_by_trap : {A : Type 0} {V : A → Type 0} {F G : EvaluationState → Type 0} (kind : TrapKind) (place : Place) → Ends F V G (trap kind place)
ends_by_trap kind place = record { ends = λ m e. tt }

-- VALUES of a type
data ValueFits (mesh : MeshLists) : ValueType → Value → Type 0 where
  NumberFits : (n : ℤ) → ValueFits mesh NumberType (NumberValue n)
  TruthFits : (b : Bool) → ValueFits mesh TruthType (TruthValue b)
  ElementFits : {kind : Kind} (x : Option Elem) → IsNilOrElement mesh kind x → ValueFits mesh (ElementType kind) (ElementValue x)

-- THE DENOTATION OF A NAME in an evaluation state, by its binding in the body and in the main program
abbrev NameFits : MeshLists → Option Binding → Bool → Option (Option Elem) → Option Binding → Type 0
NameFits mesh global is_local element (Some LocalName) = is_local ≡ true
NameFits mesh global is_local element (Some (ElementName kind)) = (is_local ≡ false) × (x : Option Elem) × (element ≡ Some x) × IsNilOrElement mesh kind x
NameFits mesh global is_local element (Some (ScalarName number)) = (is_local ≡ false) × (element ≡ None) × (global ≡ Some (ScalarName number))
NameFits mesh global is_local element (Some (FieldName number kind)) = (is_local ≡ false) × (global ≡ Some (FieldName number kind))
NameFits mesh global is_local element None = is_local ≡ false

pub record EvaluationFits (mesh : MeshLists) (globals environment : Environment) (m : EvaluationState) : Type 0 where
  pub state_fits : StateFits mesh globals m.state
  pub name_fits : (name : List ℕ) → NameFits mesh (binding_of globals name) (is_some (local_bound_to m name)) (element_bound_to m name) (binding_of environment name)

-- the values of fields, scalars and local numbers
some_is : {A : Type 0} (o : Option A) → is_some o ≡ true → (a : A) × (o ≡ Some a)
some_is None e = absurd cc
some_is (Some a) e = (a, refl)

none_is : {A : Type 0} (o : Option A) → is_some o ≡ false → o ≡ None
none_is None e = refl
none_is (Some a) e = absurd cc

got : {A : Type 0} (xs : List A) (i : ℕ) → i < length xs → (x : A) × (slice_get xs i ≡ Some x)
got [] i l = absurd (omega (arith, l))
got (x ∷ xs) zero l = (x, refl)
got (x ∷ xs) (suc i) l = got xs i (omega (arith, l))

module _ (mesh : MeshLists) (globals : Environment) where
  -- fields
  below_six : (number : ℕ) (kind : Kind) → IsBuiltIn number kind → is_built_in number ≡ true
  below_six number kind (inl is) = lt-ltb number 6 (omega (arith, is.0))
  below_six number kind (inr is) = lt-ltb number 6 (omega (arith, is.0))

  live_if_own : (s : State) (number : ℕ) (kind : Kind) → EntryFits mesh s (FieldName number kind) → is_built_in number ≡ false → IsLive mesh s number kind
  live_if_own s number kind (inr live) own = live
  live_if_own s number kind (inl is) own = let built = below_six number kind is in absurd cc

  live_value : (s : State) (number : ℕ) (kind : Kind) (x : Elem) → IsLive mesh s number kind → x.id < count mesh kind
      → (n : ℤ) × (value_in s.fields (spot_of number x) ≡ Some n)
  live_value s number kind x live l = go (field_values s number) live.1 where
    go : (values : Option (List ℤ)) → option_map (λ values. length values) values ≡ Some (count mesh kind)
        → (n : ℤ) × (option_and_then (λ values. slice_get values x.id) values ≡ Some n)
    go None e = absurd cc
    go (Some values) e = let long : length values ≡ count mesh kind = cc in got values x.id (omega (arith, long, l))

  spot_value_is : (s : State) (number : ℕ) (kind : Kind) (x : Elem) → EntryFits mesh s (FieldName number kind) → x.id < count mesh kind
      → (n : ℤ) × (spot_value mesh s (spot_of number x) ≡ Some n)
  spot_value_is s number kind x (inr live) l = rw live.0 (live_value s number kind x live l)
  spot_value_is s number kind x (inl (inl is)) l =
      let other : number ≢ 4 = omega (arith, is.0) in
      let l' : x.id < count mesh Vertex = subst (λ kind. x.id < count mesh kind) is.1 l in
      let p = got mesh.points x.id (omega (arith, vertex_count mesh, l')) in
      rw (below_six number kind (inl is), ne_eqb number 4 other, p.1) (got (p.0.x ∷ p.0.y ∷ p.0.z ∷ p.0.mark ∷ []) number is.0)
  spot_value_is s number kind x (inl (inr is)) l =
      let l' : x.id < count mesh Cell = subst (λ kind. x.id < count mesh kind) is.1 l in
      let cell = got mesh.cells x.id (omega (arith, length-map mesh.cells (λ cell. cell.corners), l')) in
      rw (is.0, cell.1) (cell.0.region, refl)

  module _ (environment : Environment) where
    abbrev pub Fits : EvaluationState → Type 0
    Fits m = EvaluationFits mesh globals environment m

    fits_at : {here : Option Binding} {m : EvaluationState} → Fits m → (name : List ℕ) → binding_of environment name ≡ here
        → NameFits mesh (binding_of globals name) (is_some (local_bound_to m name)) (element_bound_to m name) here
    fits_at {m = m} f name is = subst (λ here. NameFits mesh (binding_of globals name) (is_some (local_bound_to m name)) (element_bound_to m name) here) is (f.name_fits name)

    fits_like : (m after : EvaluationState) → HasShape m after → Fits m → Fits after
    fits_like m after r f = record {
      state_fits = still_fits r.like f.state_fits;
      name_fits = λ name. rw (same_locals m after r name, r.elements) (f.name_fits name);
    }

    -- EXPRESSIONS
    abbrev EndsWithType : ValueType → Computation EvaluationState Value → Type 0
    EndsWithType type computation = Ends Fits (ValueFits mesh type) Fits computation

    pure_ends : {type : ValueType} {v : Value} → ValueFits mesh type v → EndsWithType type (pure v)
    pure_ends h = record { ends = λ m f. (h, f) }

    number_fits : {v : Value} → ValueFits mesh NumberType v → Ends Fits (λ n. Unit {0}) Fits (number_of v)
    number_fits (NumberFits n) = record { ends = λ m f. (tt, f) }

    truth_fits : {v : Value} → ValueFits mesh TruthType v → Ends Fits (λ b. Unit {0}) Fits (truth_of v)
    truth_fits (TruthFits b) = record { ends = λ m f. (tt, f) }

    element_fits : {kind : Kind} {v : Value} → ValueFits mesh (ElementType kind) v → Ends Fits (IsNilOrElement mesh kind) Fits (element_of v)
    element_fits (ElementFits x of) = record { ends = λ m f. (of, f) }

    checked_number_ends : (place : Place) (n : ℤ) → EndsWithType NumberType (checked_number place n)
    checked_number_ends place n = ends_if {this = pure (NumberValue n)} {other = trap Overflow place} (is_in_range n) (pure_ends (NumberFits n)) (ends_by_trap Overflow place)

    checked_division_ends : (place : Place) (b : ℤ) {by : Computation EvaluationState Value} → EndsWithType NumberType by → EndsWithType NumberType (checked_division place b by)
    checked_division_ends place b h = ends_if {this = trap ZeroDivide place} (int_le b (pos 0) && int_le (pos 0) b) (ends_by_trap ZeroDivide place) h

    operator_result_ends : (sign : Sign) (place : Place) {v w : Value} → ValueFits mesh (operand_type sign) v → ValueFits mesh (operand_type sign) w
        → EndsWithType (operand_type sign) (operator_result sign place v w)
    operator_result_ends Or place (TruthFits a) (TruthFits b) = pure_ends (TruthFits (a || b))
    operator_result_ends And place (TruthFits a) (TruthFits b) = pure_ends (TruthFits (a && b))
    operator_result_ends Plus place (NumberFits a) (NumberFits b) = checked_number_ends place (a +ℤ b)
    operator_result_ends Minus place (NumberFits a) (NumberFits b) = checked_number_ends place (a -ℤ b)
    operator_result_ends Times place (NumberFits a) (NumberFits b) = checked_number_ends place (a *ℤ b)
    operator_result_ends Over place (NumberFits a) (NumberFits b) = checked_division_ends place b (checked_number_ends place (int_div a b))
    operator_result_ends Rest place (NumberFits a) (NumberFits b) = checked_division_ends place b (pure_ends (NumberFits (int_rem a b)))

    operator_result_fits : {type : ValueType} (sign : Sign) (place : Place) → operand_type sign ≡ type → {v w : Value} → ValueFits mesh type v → ValueFits mesh type w
        → EndsWithType type (operator_result sign place v w)
    operator_result_fits sign place is {v} {w} h g =
        subst (λ type. ValueFits mesh type v → ValueFits mesh type w → EndsWithType type (operator_result sign place v w)) is (operator_result_ends sign place) h g

    negation_ends : (place : Place) {v : Value} → ValueFits mesh NumberType v → EndsWithType NumberType (negation place v)
    negation_ends place (NumberFits n) = checked_number_ends place (neg_ℤ n)

    complement_ends : {v : Value} → ValueFits mesh TruthType v → EndsWithType TruthType (complement v)
    complement_ends (TruthFits b) = pure_ends (TruthFits (not b))

    number_comparison_ends : (rel : Rel) {v w : Value} → ValueFits mesh NumberType v → ValueFits mesh NumberType w → EndsWithType TruthType (comparison_result rel v w)
    number_comparison_ends rel (NumberFits a) (NumberFits b) = pure_ends (TruthFits (holds rel a b))

    element_comparison_ends : {kind : Kind} (rel : Rel) → is_sameness rel ≡ true → {v w : Value} → ValueFits mesh (ElementType kind) v → ValueFits mesh (ElementType kind) w
        → EndsWithType TruthType (comparison_result rel v w)
    element_comparison_ends Same is (ElementFits x a) (ElementFits y b) = pure_ends (TruthFits (same x y))
    element_comparison_ends Other is (ElementFits x a) (ElementFits y b) = pure_ends (TruthFits (not (same x y)))
    element_comparison_ends _ is a b = absurd cc

    -- calls
    flipped : (kind : Kind) (x : Option Elem) → IsNilOrElement mesh kind x → IsNilOrElement mesh kind (flip x)
    flipped kind None of = of
    flipped kind (Some x) of = of

    id_ends : (place : Place) (x : Option Elem) → EndsWithType NumberType (id_result place x)
    id_ends place (Some x) = pure_ends (NumberFits (pos x.id))
    id_ends place None = ends_by_trap NilElement place

    abbrev CallEnds : Place → Fun → Option Elem → Option ValueType → Type 0
    CallEnds place fun x (Some type) = EndsWithType type (call_result mesh place fun x)
    CallEnds place fun x None = Unit {0}

    call_ends : (place : Place) (fun : Fun) (kind : Kind) (x : Option Elem) → IsNilOrElement mesh kind x → CallEnds place fun x (call_type fun kind)
    call_ends place Head Edge x of =
        pure_ends (ElementFits (head mesh x) (nil_or_result mesh Edge Vertex (head_of mesh) (λ x. end_of mesh x (cond x.flipped 0 1)) x of))
    call_ends place Tail Edge x of =
        pure_ends (ElementFits (tail mesh x) (nil_or_result mesh Edge Vertex (tail_of mesh) (λ x. end_of mesh x (cond x.flipped 1 0)) x of))
    call_ends place Inside Face x of =
        pure_ends (ElementFits (inside mesh x) (nil_or_result mesh Face Cell (inside_of mesh) (λ x is. side_of mesh x (cond x.flipped 1 0)) x of))
    call_ends place Outside Face x of =
        pure_ends (ElementFits (outside mesh x) (nil_or_result mesh Face Cell (outside_of mesh) (λ x is. side_of mesh x (cond x.flipped 0 1)) x of))
    call_ends place Flip Edge x of = pure_ends (ElementFits (flip x) (flipped Edge x of))
    call_ends place Flip Face x of = pure_ends (ElementFits (flip x) (flipped Face x of))
    call_ends place Valid kind x of = pure_ends (TruthFits (valid x))
    call_ends place Id kind x of = id_ends place x
    call_ends place _ _ x of = tt

    pointed : (kind : Kind) (x to : Option Elem) → IsNilOrElement mesh kind x → IsNilOrElement mesh kind (towards mesh x to)
    pointed kind None to of = tt
    pointed kind (Some x) None of = tt
    pointed kind (Some x) (Some to) of =
        one (same (points_to mesh (unflipped x.kind x.id)) (Some to)) (same (points_to mesh (reversed (unflipped x.kind x.id))) (Some to)) where
          one : (b c : Bool) → IsNilOrElement mesh kind (cond b (Some (unflipped x.kind x.id)) (cond c (Some (reversed (unflipped x.kind x.id))) None))
          one true c = of
          one false true = of
          one false false = tt

    -- fields
    field_read_ends : (place : Place) (number : ℕ) (kind : Kind) (x : Option Elem) (m : EvaluationState) → IsNilOrElement mesh kind x → Fits m
        → EntryFits mesh m.state (FieldName number kind) → OutcomeEnds (ValueFits mesh NumberType) Fits (field_read mesh place (Some (FieldName number kind)) x m)
    field_read_ends place number kind None m of f is = tt
    field_read_ends place number kind (Some x) m of f is =
        let n = spot_value_is m.state number kind x is of.1 in
        rw n.1 (NumberFits n.0, fits_like m _ (same_names m _ (like_itself m.state) refl refl) f)

    field_ends : (place : Place) (name : List ℕ) (number : ℕ) (kind : Kind) (x : Option Elem) → binding_of environment name ≡ Some (FieldName number kind) → IsNilOrElement mesh kind x
        → EndsWithType NumberType (field_read mesh place (binding_of globals name) x)
    field_ends place name number kind x is of = record {
      ends = λ m f.
          let global = (fits_at f name is).1 in
          rw global (field_read_ends place number kind x m of f (f.state_fits.entry_fits name _ global));
    }

    mutual
      means : {e : Expression} {type : ValueType} → HasType environment e type → EndsWithType type (meaning mesh globals e)
      means (IsNumber place n) = pure_ends (NumberFits n)
      means (IsScalar {number = number} place name is) = record {
        ends = λ m f.
            let h = fits_at f name is in
            let n = some_is (scalar_value m.state number) (f.state_fits.entry_fits name _ h.2) in
            rw (none_is _ h.0, h.1, h.2, n.1) (NumberFits n.0, f);
      }
      means (IsLocal place name is) = record {
        ends = λ m f. let n = some_is (local_bound_to m name) (fits_at f name is) in rw n.1 (NumberFits n.0, f);
      }
      means (IsElementName place name is) = record {
        ends = λ m f. let h = fits_at f name is in rw (none_is _ h.0, h.2) (ElementFits h.1 h.3, f);
      }
      means (IsField {number = number} {kind = kind} place name is h) =
          ends_then (means h) (λ v fits. ends_then (element_fits fits) (λ x of. field_ends place name number kind x is of))
      means (IsCall {kind = kind} place fun h is) =
          ends_then (means h) (λ v fits. ends_then (element_fits fits) (λ x of. subst (CallEnds place fun x) is (call_ends place fun kind x of)))
      means (IsTowards {kind = kind} place h to can) =
          ends_then (means h) (λ v fits. ends_then (element_fits fits) (λ x of. ends_then (means to) (λ w fits'.
          ends_then (element_fits fits') (λ y of'. pure_ends (ElementFits (towards mesh x y) (pointed kind x y of))))))
      means (IsNeg place h) = ends_then (means h) (λ v fits. negation_ends place fits)
      means (IsNot place h) = ends_then (means h) (λ v fits. complement_ends fits)
      means (IsChain level h rest) = ends_then (means h) (λ v fits. links_mean fits rest)
      means (AreNumbers place rel h to) = ends_then (means h) (λ v fits. ends_then (means to) (λ w fits'. number_comparison_ends rel fits fits'))
      means (AreElements place rel h to same) = ends_then (means h) (λ v fits. ends_then (means to) (λ w fits'. element_comparison_ends rel same fits fits'))

      links_mean : {v : Value} {type : ValueType} {links : Links} → ValueFits mesh type v → FollowsType environment type links
          → EndsWithType type (links_meaning mesh globals v links)
      links_mean fits (NoLinks type) = pure_ends fits
      links_mean {v = v} fits (OneLink sign place is h rest) =
          ends_then (ends_if (is_decided sign v) (pure_ends fits) (ends_then (means h) (λ w fits'. operator_result_fits sign place is fits fits')))
          (λ u fits'. links_mean fits' rest)

    pub number_ends : {e : Expression} → HasType environment e NumberType → Ends Fits (λ n. Unit {0}) Fits (number_in mesh globals e)
    number_ends h = ends_then (means h) (λ v fits. number_fits fits)

    pub truth_ends : {e : Expression} → HasType environment e TruthType → Ends Fits (λ b. Unit {0}) Fits (truth_in mesh globals e)
    truth_ends h = ends_then (means h) (λ v fits. truth_fits fits)

    element_ends : (kind : Kind) {e : Expression} → HasType environment e (ElementType kind) → Ends Fits (IsNilOrElement mesh kind) Fits (element_in mesh globals e)
    element_ends kind h = ends_then (means h) (λ v fits. element_fits fits)

    -- STATEMENTS
    abbrev EndsInEnvironment : Environment → Computation EvaluationState (Unit {0}) → Type 0
    EndsInEnvironment after_environment computation = Ends Fits (λ done. Unit {0}) (EvaluationFits mesh globals after_environment) computation

    local_ends : (name : List ℕ) (n : ℤ) → EndsInEnvironment ((name, LocalName) ∷ environment) (modify (with_local name n))
    local_ends name n = record {
      ends = λ m f. (
        tt,
        record {
          state_fits = f.state_fits;
          name_fits = λ other. elim (cases_Bool (bytes_eq other name)) [
            | inl is ↦ rw is refl
            | inr is ↦ rw is (f.name_fits other)
          ];
        },
      );
    }

    named_ends : (name : List ℕ) (kind : Kind) (x : Option Elem) → IsNew environment name → IsNilOrElement mesh kind x
        → EndsInEnvironment ((name, ElementName kind) ∷ environment) (modify (with_element name x))
    named_ends name kind x new of = record {
      ends = λ m f. (
        tt,
        record {
          state_fits = f.state_fits;
          name_fits = λ other. elim (cases_Bool (bytes_eq other name)) [
            | inl is ↦ rw (is, (bytes_eq-Decides other name).0 is) (fits_at f name new, x, refl, of)
            | inr is ↦ rw is (f.name_fits other)
          ];
        },
      );
    }

    -- assignments
    spot_set_ends : (place : Place) (how : How) (number : ℕ) (kind : Kind) (n : ℤ) (x : Option Elem) (m : EvaluationState) → IsNilOrElement mesh kind x → Fits m
        → IsLive mesh m.state number kind → OutcomeEnds (λ done. Unit {0}) Fits (assign_field place how (Some (FieldName number kind)) n x m)
    spot_set_ends place how number kind n None m of f live = tt
    spot_set_ends place how number kind n (Some x) m of f live =
        let old = live_value m.state number kind x live of.1 in rw old.1 (tt, fits_like m _ (spot_set (spot_of number x) how n old.0 m) f)

    field_set_ends : (place : Place) (name : List ℕ) (how : How) (number : ℕ) (kind : Kind) (n : ℤ) (x : Option Elem)
        → binding_of environment name ≡ Some (FieldName number kind) → is_built_in number ≡ false → IsNilOrElement mesh kind x
        → EndsInEnvironment environment (assign_field place how (binding_of globals name) n x)
    field_set_ends place name how number kind n x is own of = record {
      ends = λ m f.
          let global = (fits_at f name is).1 in
          rw global (spot_set_ends place how number kind n x m of f (live_if_own m.state number kind (f.state_fits.entry_fits name _ global) own));
    }

    scalar_set_ends : (name : List ℕ) (how : How) (n : ℤ) (number : ℕ) → binding_of environment name ≡ Some (ScalarName number)
        → EndsInEnvironment environment (λ m. assign_name name how n (local_bound_to m name) (binding_of globals name) m)
    scalar_set_ends name how n number is = record {
      ends = λ m f.
          let h = fits_at f name is in
          let old = some_is (scalar_value m.state number) (f.state_fits.entry_fits name _ h.2) in
          rw (none_is _ h.0, h.2, old.1) (tt, fits_like m _ (reduced how n number old.0 m) f);
    }

    local_set_ends : (name : List ℕ) (how : How) (n : ℤ) → binding_of environment name ≡ Some LocalName
        → EndsInEnvironment environment (λ m. assign_name name how n (local_bound_to m name) (binding_of globals name) m)
    local_set_ends name how n is = record {
      ends = λ m f.
          let old = some_is (local_bound_to m name) (fits_at f name is) in
          rw old.1 (tt, fits_like m _ (local_assigned name (assigned_value how old.0 n) m) f);
    }

    -- blocks and loops
    after_block_ends : (before s : EvaluationState) → Fits before → KeepsShape before s → (answer : Result (Unit {0}) Stop)
        → EndsIn (λ done. Unit {0}) (λ m. Unit {0}) s answer → OutcomeEnds (λ done. Unit {0}) Fits (continue_with (λ done. modify (after_block before)) s answer)
    after_block_ends before s f r (Ok done) e = (tt, fits_like before _ (block_shape_preserved before s r) f)
    after_block_ends before s f r (Err (Trapped trap)) e = tt
    after_block_ends before s f r (Err NoMeaning) e = e

    block_ends : {body : Computation EvaluationState (Unit {0})} → Preserves KeepsShape body → Ends Fits (λ done. Unit {0}) (λ m. Unit {0}) body
        → EndsInEnvironment environment (in_block body)
    block_ends {body = body} k h = record { ends = λ m f. after_block_ends m (body m).after f (k.preserved m) (body m).answer (h.ends m f) }

    skip_ends : EndsInEnvironment environment skip
    skip_ends = record { ends = λ m f. (tt, f) }

    take_turn_ends : (place : Place) {body : Computation EvaluationState (Unit {0})} → EndsInEnvironment environment body → (left : ℕ) (m : EvaluationState) → Fits m
        → OutcomeEnds (λ done. Unit {0}) Fits (take_turn evaluation_turns (trap Spent place) body left m)
    take_turn_ends place h zero m f = tt
    take_turn_ends place h (suc n) m f = h.ends _ (fits_like m _ (with_turns n m) f)

    turn_ends : (place : Place) {body : Computation EvaluationState (Unit {0})} → EndsInEnvironment environment body
        → EndsInEnvironment environment (λ m. take_turn evaluation_turns (trap Spent place) body (evaluation_turns.remaining m) m)
    turn_ends place h = record { ends = λ m f. take_turn_ends place h m.state.turns m f }

    within_ends : (place : Place) {test : Computation EvaluationState Bool} {body : Computation EvaluationState (Unit {0})} → Ends Fits (λ b. Unit {0}) Fits test
        → EndsInEnvironment environment body → (bound : ℕ) → EndsInEnvironment environment (loop_within evaluation_turns (trap Spent place) test body bound)
    within_ends place t h zero = ends_then t (λ b any. ends_if b (ends_by_trap Spent place) skip_ends)
    within_ends place t h (suc n) =
        ends_then t (λ b any. ends_if b (ends_then (turn_ends place h) (λ done any. within_ends place t h n)) skip_ends)

    loop_ends : (place : Place) {test : Computation EvaluationState Bool} {body : Computation EvaluationState (Unit {0})} → Ends Fits (λ b. Unit {0}) Fits test
        → EndsInEnvironment environment body → EndsInEnvironment environment (loop evaluation_turns (trap Spent place) test body)
    loop_ends place t h = record { ends = λ m f. (within_ends place t h m.state.turns).ends m f }

    for_each_member_ends : (kind : Kind) {computation : Elem → Computation EvaluationState (Unit {0})} → ((x : Elem) → IsElement mesh kind x → EndsInEnvironment environment (computation x))
        → (xs : List Elem) → AllByRecursion (IsElement mesh kind) xs → EndsInEnvironment environment (for_each computation xs)
    for_each_member_ends kind h [] all = skip_ends
    for_each_member_ends kind h (x ∷ xs) all = ends_then (h x all.0) (λ done any. for_each_member_ends kind h xs all.1)

  module _ (is_mesh : IsMesh (length mesh.points) (corner_lists mesh)) where
    can_visit : (kind : Kind) (set : SetName) (x : Elem) → IsElement mesh kind x → has_set kind set ≡ true → IsSetOperand mesh set x
    can_visit kind set x is has = record { in_range = rw is.0 is.1; kind_has_set = rw is.0 has }

    members_end : (environment : Environment) (place : Place) (kind : Kind) (set : SetName) (body : Option Elem → Computation EvaluationState (Unit {0})) (x : Option Elem) → IsNilOrElement mesh kind x
        → has_set kind set ≡ true → ((member : Elem) → IsElement mesh (kind_of set) member → EndsInEnvironment environment environment (in_block (body (Some member))))
        → EndsInEnvironment environment environment (for_each_member mesh place body (members mesh set) x)
    members_end environment place kind set body None of has h = ends_by_trap NilElement place
    members_end environment place kind set body (Some x) of has h =
        for_each_member_ends environment (kind_of set) h (members mesh set x) (members_of mesh set x is_mesh (can_visit kind set x of has))

    body_keeps : (body : Body) → Preserves KeepsShape (body_meaning mesh globals body)
    body_keeps body = keeps_body shapes_kept mesh globals body (λ a t. tt)

    abbrev on_member : List ℕ → Body → Option Elem → Computation EvaluationState (Unit {0})
    on_member name body member = and_then (modify (with_element name member)) (λ done. body_meaning mesh globals body)

    member_keeps : (name : List ℕ) (body : Body) (member : Option Elem) → Preserves KeepsShape (on_member name body member)
    member_keeps name body member = keeps_then (leads shapes_kept) (element_keeps shapes_kept name member) (λ done. body_keeps body)

    mutual
      statement_ends : {environment after_environment : Environment} {s : Statement} → StatementFits environment s after_environment → EndsInEnvironment environment after_environment (statement_meaning mesh globals s)
      statement_ends {environment = environment} (FitsVar place name at h new) = ends_then (number_ends environment h) (λ n any. local_ends environment name n)
      statement_ends {environment = environment} (FitsVal {kind = kind} place name at h new) = ends_then (element_ends environment kind h) (λ x of. named_ends environment name kind x new of)
      statement_ends {environment = environment} (FitsField {number = number} {kind = kind} place name how is own h value) =
          ends_then (number_ends environment value) (λ n any. ends_then (element_ends environment kind h) (λ x of. field_set_ends environment place name how number kind n x is own of))
      statement_ends {environment = environment} (FitsScalar {number = number} place name how is reduces value) =
          ends_then (number_ends environment value) (λ n any. scalar_set_ends environment name how n number is)
      statement_ends {environment = environment} (FitsLocal place name how is value) = ends_then (number_ends environment value) (λ n any. local_set_ends environment name how n is)
      statement_ends {environment = environment} (FitsIf {first = first} {second = second} place has_else h this other) =
          ends_then (truth_ends environment h) (λ b any. ends_if b (block_ends environment (body_keeps first) (body_ends this)) (block_ends environment (body_keeps second) (body_ends other)))
      statement_ends {environment = environment} (FitsWhile {body = body} place h fits) =
          loop_ends environment place (truth_ends environment h) (block_ends environment (body_keeps body) (body_ends fits))
      statement_ends {environment = environment} (FitsFor {kind = kind} {body = body} place name at set set_at h has new fits) =
          ends_then (element_ends environment kind h) (λ x of. members_end environment set_at kind set (on_member name body) x of has
          (λ member is. block_ends environment (member_keeps name body (Some member))
          (ends_then (named_ends environment name (kind_of set) (Some member) new is) (λ done any. body_ends fits))))

      body_ends : {environment : Environment} {body : Body} → BodyFits environment body → Ends (Fits environment) (λ done. Unit {0}) (λ m. Unit {0}) (body_meaning mesh globals body)
      body_ends (FitsNothing environment) = record { ends = λ m f. (tt, tt) }
      body_ends (FitsThen s rest) = ends_then (statement_ends s) (λ done any. body_ends rest)

-- AN ITERATION
pub is_an_end : {S A : Type 0} (G : S → Type 0) (after : S) (answer : Result A Stop) → EndsIn {A = A} (λ a. Unit {0}) G after answer → is_some (run_end answer) ≡ true
is_an_end G after (Ok a) e = refl
is_an_end G after (Err (Trapped trap)) e = refl
is_an_end G after (Err NoMeaning) e = absurd e

pub at_first : (mesh : MeshLists) (s : State) (global : Option Binding) → ((entry : Binding) → global ≡ Some entry → EntryFits mesh s entry)
    → NameFits mesh global false None global
at_first mesh s None h = refl
at_first mesh s (Some (FieldName number kind)) h = (refl, refl)
at_first mesh s (Some (ScalarName number)) h = (refl, refl, refl)
at_first mesh s (Some LocalName) h = absurd (h LocalName refl)
at_first mesh s (Some (ElementName kind)) h = absurd (h (ElementName kind) refl)

iteration_start_fits : (mesh : MeshLists) (c : Comprehension) (turns : ℕ) (s : State) (id : ℕ) → StateFits mesh c.environment s → id < count mesh c.over
    → EvaluationFits mesh c.environment ((c.name, ElementName c.over) ∷ c.environment) (iteration_start c turns s id)
iteration_start_fits mesh c turns s id h l = record {
  state_fits = still_fits (record { fields = refl; scalars = refl }) h;
  name_fits = λ name. elim (cases_Bool (bytes_eq name c.name)) [
    | inl is ↦ rw is (refl, Some (unflipped c.over id), refl, (refl, l))
    | inr is ↦ rw is (at_first mesh s (binding_of c.environment name) (h.entry_fits name))
  ];
}

pub iteration_ends : (mesh : MeshLists) (c : Comprehension) (turns : ℕ) (s : State) (id : ℕ) → IsMesh (length mesh.points) (corner_lists mesh)
    → ComprehensionFits c → StateFits mesh c.environment s → id < count mesh c.over → is_some (iteration_end mesh c turns s id) ≡ true
iteration_ends mesh c turns s id is_mesh fits h l =
    is_an_end (λ m. Unit {0}) (iteration mesh c turns s id).after (iteration mesh c turns s id).answer
    ((body_ends mesh c.environment is_mesh fits.body_fits).ends (iteration_start c turns s id) (iteration_start_fits mesh c turns s id h l))

pub iteration_fits : (mesh : MeshLists) (c : Comprehension) (turns : ℕ) (s : State) (id : ℕ) → StateFits mesh c.environment s
    → StateFits mesh c.environment (iteration mesh c turns s id).after.state
iteration_fits mesh c turns s id h =
    let preserved = (keeps_body shapes_kept mesh c.environment c.body (λ a t. tt)).preserved (iteration_start c turns s id) in
    still_fits (record { fields = preserved.like.fields; scalars = preserved.like.scalars }) h
