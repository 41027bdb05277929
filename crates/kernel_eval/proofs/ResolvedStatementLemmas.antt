-- The code of statements simulates them.
use Rattle.std.proofs.Common.{◌≡◌, ◌≢◌, ◌<◌, ◌≤◌, ◌+◌, ℕ, Bool, true, false, List, [], ◌∷◌, ◌++◌, length, get_or, refl, sym, ap, ap₂, subst, ◌∙◌, append_assoc, append-nil, arith}
use Rattle.std.proofs.lemmas.Bool.{lt-ltb}
use Rattle.std.proofs.lemmas.List.{length-append}
use Rattle.std.specs.List.{slice_set}
use Rattle.std.specs.Prelude.{Option, Some, None, ℤ, pos, ◌&&◌, if◌then◌else◌, Result, Ok, Err}
use Rattle.liszt_base.specs.Corners.{IsMesh}
use Rattle.liszt_base.specs.Kinds.{is_kind, has_set, kind_of}
use Rattle.liszt_base.specs.Reductions.{fold}
use Rattle.liszt_base.specs.declared.accesses.Mode.{Mode}
use Rattle.liszt_base.specs.declared.accesses.Mode.TheVariants.{Read}
use Rattle.liszt_base.specs.declared.accesses.Spot.{Spot}
use Rattle.liszt_base.specs.declared.answers.Place.{Place}
use Rattle.liszt_base.specs.declared.answers.ProgramFault.{ProgramFault}
use Rattle.liszt_base.specs.declared.answers.ProgramWhat.TheVariants.{TypeMismatch, BuiltinWrite}
use Rattle.liszt_base.specs.declared.answers.TrapKind.TheVariants.{NilElement, Spent}
use Rattle.liszt_base.specs.declared.elements.Elem.{Elem}
use Rattle.liszt_base.specs.declared.elements.Kind.{Kind}
use Rattle.liszt_base.specs.declared.elements.Op.TheVariants.{Add}
use Rattle.liszt_base.specs.declared.elements.SetName.{SetName}
use Rattle.liszt_tree.specs.declared.tree.How.{How}
use Rattle.liszt_tree.specs.declared.tree.How.TheVariants.{Set, Fold, Less}
use Rattle.liszt_tree.specs.Tree.{Expression, Statement, Var, Val, Assign, If, While, For, Body, no_statement, statement}
use Rattle.mesh_topology.specs.Elements.{corner_lists, count}
use Rattle.resolved_code.specs.declared.expressions.ElementCode.{ElementCode}
use Rattle.resolved_code.specs.declared.expressions.NumberCode.{NumberCode}
use Rattle.resolved_code.specs.declared.expressions.TruthCode.{TruthCode}
use Rattle.resolved_code.specs.declared.statements.StatementCode.{StatementCode}
use Rattle.resolved_code.specs.declared.statements.StatementCode.TheVariants as statement_code
use Rattle.topo_operators.specs.Operands.{IsElement, IsNilOrElement, IsSetOperand}
use Rattle.topo_operators.specs.Operators.{members}
use Rattle.topo_operators.proofs.ResultLemmas.{members_of}
use Rattle.phase_types.specs.declared.frame.Frame.{Frame}
use Rattle.phase_types.specs.declared.resolution.Resolution.{Resolution}
use Rattle.phase_types.specs.declared.resolution.Resolution.TheVariants as resolution
use Rattle.phase_types.specs.declared.resolution.TypedCode.{TypedCode}
use Rattle.phase_types.specs.declared.resolution.TypedCode.TheVariants as typed
use Rattle.phase_types.specs.Environments.{Binding, FieldName, ScalarName, binding_of, is_built_in}
use Rattle.phase_types.specs.Resolve.{fails, Names, Accesses, resolution_of, new_name, with_access, number_in as number_of_code, truth_in as truth_of_code, element_in as element_of_code, element_of_kind, element_with_set, resolved_expression, resolved_number, resolved_truth, resolved_element, with_accesses, with_number, with_element, number_name, element_name, resolved_assignment, resolved_field_assignment, resolved_var, resolved_val, resolved_statement, resolved_body}
use Rattle.phase_types.specs.Walk.{OfField, OfScalar, mode_by, place_of}
use Rattle.code_eval.specs.Acts.{Act}
use Rattle.code_eval.specs.Executions as code
use Rattle.code_eval.specs.declared.activation.Activation.{Activation}
use Rattle.code_eval.specs.Executions.{Execution, ◌>>=◌}
use Rattle.code_eval.specs.Meaning as resolved
use Rattle.code_eval.proofs.LayerLemmas.{var_is, val_is, assign_local_is, assign_scalar_is, assign_field_is, if_is, while_is, for_is}
use Rattle.code_eval.specs.Stops.{Stop, Trapped, NoMeaning}
use Rattle.kernel_eval.specs.Iterations.{partials_after, partials_after_fold}
use Rattle.kernel_eval.specs.Meaning.{spot_of, operand, assigned_value, assign_spot, assign_field, assign_scalar, assign_name, in_block, for_each_member, number_in, truth_in, element_in, statement_meaning, body_meaning}
use Rattle.kernel_eval.specs.Outcomes.{Computation, and_then, modify, if_then_else}
use Rattle.kernel_eval.specs.States.{EvaluationState, ScalarFold, value_in, with_value, with_fields, with_state, with_act, with_scalar_value, scalar_value, local_bound_to, element_bound_to, with_local, with_local_value}
use Rattle.kernel_eval.specs.States as state
use Rattle.kernel_eval.proofs.ResolvingLemmas.{IfOk, ok_then, ok_weaken, in_sequence, Within, access_known}
use Rattle.kernel_eval.proofs.ResolvedExpressionLemmas.{IsCode, expression_code, number_alone, truth_alone, element_alone, simulates_given}
use Rattle.kernel_eval.proofs.SimulationLemmas.{Setting, known_mode, NameAgrees, Agrees, IsNested, Extends, extends_itself, extends_then, nested_itself, Matches, Simulates, Same, simulates_then, simulates_if, simulates_trap, simulates_for_each, simulates_loop, simulates_block, AgreesWithMore}
use Rattle.kernel_eval.proofs.SlotLemmas.{SlotsFit, Grows, still_fit, extends_by_one, number_fits, element_fits, number_declared, element_declared, local_assigned, assigned_nested, local_nested, element_nested, other_field, other_scalar}

-- THE FRAME after statements is within that of the whole comprehension.
pub record IsWithinFrame (c : Setting) (frame : Frame) : Type 0 where
  pub accesses : Within c frame.accesses
  pub numbers : frame.numbers ≤ c.numbers
  pub elements : length frame.elements ≤ c.elements

grows_itself : (frame : Frame) → Grows frame frame
grows_itself frame = record { numbers = omega arith; elements = omega arith }

grows_then : {frame mid later : Frame} → Grows frame mid → Grows mid later → Grows frame later
grows_then h g = record { numbers = omega (arith, h.numbers, g.numbers); elements = omega (arith, h.elements, g.elements) }

-- partials after one reduction more
one_more_fold : (partials : List ℤ) (folds : List ScalarFold) (folded : ScalarFold) → partials_after partials (folds ++ folded ∷ []) ≡ partials_after_fold (partials_after partials folds) folded
one_more_fold partials [] folded = refl
one_more_fold partials (first ∷ folds) folded = one_more_fold (partials_after_fold partials first) folds folded

module _ (c : Setting) (mesh_is : IsMesh (length c.mesh.points) (corner_lists c.mesh)) where
  abbrev Statements : Names → Names → Computation EvaluationState (Unit {0}) → Execution (Unit {0}) → Type 0
  Statements names later computation execution = Simulates c Same (Agrees c names) (Agrees c later) names computation execution

  -- OPERANDS
  abbrev NumberSimulates : Names → Expression → NumberCode → Type 0
  NumberSimulates names e x = Simulates c (λ n k. n ≡ k) (Agrees c names) (Agrees c names) names (number_in c.mesh c.globals e) (resolved.number_execution c.mesh x)

  abbrev TruthSimulates : Names → Expression → TruthCode → Type 0
  TruthSimulates names e x = Simulates c (λ b d. b ≡ d) (Agrees c names) (Agrees c names) names (truth_in c.mesh c.globals e) (resolved.truth_execution c.mesh x)

  abbrev ElementSimulates : Names → Kind → Expression → ElementCode → Type 0
  ElementSimulates names kind e x =
      Simulates c (λ y z. (y ≡ z) × IsNilOrElement c.mesh kind z) (Agrees c names) (Agrees c names) names (element_in c.mesh c.globals e) (resolved.element_execution c.mesh x)

  abbrev IsNumberCode : Names → Accesses → Expression → NumberCode × Accesses → Type 0
  IsNumberCode names accesses e r = Within c r.1 → Within c accesses × NumberSimulates names e r.0

  abbrev IsTruthCode : Names → Accesses → Expression → TruthCode × Accesses → Type 0
  IsTruthCode names accesses e r = Within c r.1 → Within c accesses × TruthSimulates names e r.0

  abbrev IsElementCode : Names → Accesses → Expression → (Kind × ElementCode) × Accesses → Type 0
  IsElementCode names accesses e r = Within c r.1 → Within c accesses × ElementSimulates names r.0.0 e r.0.1

  number_code : (names : Names) (accesses : Accesses) (e : Expression)
      → IfOk (IsNumberCode names accesses e) (resolved_number names accesses e)
  number_code names accesses e =
      ok_then (IsCode c names e accesses) (IsNumberCode names accesses e)
      (resolved_expression names accesses e) _ (expression_code c names accesses e) (λ operand h. by operand.0 operand.1 h) where
        by : (operand : TypedCode) (later : Accesses) → IsCode c names e accesses (operand, later)
            → IfOk (IsNumberCode names accesses e)
            (in_sequence (number_of_code (place_of e) operand) (λ value. Ok (value, later)))
        by (typed.Number x) later h = λ w. ((h w).0, number_alone c names (h w).1)
        by _ later h = tt

  truth_code : (names : Names) (accesses : Accesses) (e : Expression)
      → IfOk (IsTruthCode names accesses e) (resolved_truth names accesses e)
  truth_code names accesses e =
      ok_then (IsCode c names e accesses) (IsTruthCode names accesses e)
      (resolved_expression names accesses e) _ (expression_code c names accesses e) (λ operand h. by operand.0 operand.1 h) where
        by : (operand : TypedCode) (later : Accesses) → IsCode c names e accesses (operand, later)
            → IfOk (IsTruthCode names accesses e)
            (in_sequence (truth_of_code (place_of e) operand) (λ value. Ok (value, later)))
        by (typed.Truth x) later h = λ w. ((h w).0, truth_alone c names (h w).1)
        by _ later h = tt

  element_code : (names : Names) (accesses : Accesses) (e : Expression)
      → IfOk (IsElementCode names accesses e) (resolved_element names accesses e)
  element_code names accesses e =
      ok_then (IsCode c names e accesses) (IsElementCode names accesses e)
      (resolved_expression names accesses e) _ (expression_code c names accesses e) (λ operand h. by operand.0 operand.1 h) where
        by : (operand : TypedCode) (later : Accesses) → IsCode c names e accesses (operand, later)
            → IfOk (IsElementCode names accesses e) (in_sequence (element_of_code (place_of e) operand) (λ value. Ok (value, later)))
        by (typed.Element kind x) later h = λ w. ((h w).0, element_alone c names (h w).1)
        by _ later h = tt

  -- THE CODE OF A STATEMENT, with the names and the frame after it
  pub record StatementFollows (names : Names) (frame : Frame) (s : Statement) (made : StatementCode) (later : Names) (after : Frame) : Type 0 where
    pub accesses : Within c frame.accesses
    pub extends : Extends names later
    pub follows : Statements names later (statement_meaning c.mesh c.globals s) (resolved.statement_execution c.mesh made)

  abbrev pub IsStatementCode : Names → Frame → Statement → StatementCode × Names × Frame → Type 0
  IsStatementCode names frame s r =
      Grows frame r.2 × (SlotsFit names frame → SlotsFit r.1 r.2) × (SlotsFit names frame → IsWithinFrame c r.2 → StatementFollows names frame s r.0 r.1 r.2)

  pub record BodyFollows (names : Names) (frame : Frame) (done : List StatementCode) (body : Body) (codes : List StatementCode) (after : Frame) : Type 0 where
    pub accesses : Within c frame.accesses
    pub new : List StatementCode
    pub is : codes ≡ done ++ new
    pub follows : Simulates c Same (Agrees c names) (AgreesWithMore c names) names (body_meaning c.mesh c.globals body) (resolved.body_execution c.mesh new)

  abbrev pub IsBodyCode : Names → Frame → List StatementCode → Body → List StatementCode × Frame → Type 0
  IsBodyCode names frame done body r = Grows frame r.1 × (SlotsFit names frame → IsWithinFrame c r.1 → BodyFollows names frame done body r.0 r.1)

  -- DECLARATIONS
  with_fit : {names : Names} {frame : Frame} (accesses : Accesses) → SlotsFit names frame → SlotsFit names (with_accesses accesses frame)
  with_fit accesses fit = record { numbers = fit.numbers; elements = fit.elements; apart = fit.apart }

  number_step : (names : Names) (frame : Frame) (name : List ℕ) → resolution_of names name ≡ None → SlotsFit names frame → frame.numbers < c.numbers → (n k : ℤ) → n ≡ k
      → Statements names (names ++ number_name name frame ∷ []) (modify (with_local name n)) (code.modify (resolved.with_number frame.numbers k))
  number_step names frame name new fit room n k e = subst (λ k. Statements names (names ++ number_name name frame ∷ []) (modify (with_local name n)) (code.modify (resolved.with_number frame.numbers k))) e record {
    at = λ m a r. (tt, number_declared c names frame name new fit n m a r room, local_nested names name n m new, sym (append-nil m.acts));
  }

  element_step : (names : Names) (frame : Frame) (name : List ℕ) (kind : Kind) → resolution_of names name ≡ None → SlotsFit names frame → length frame.elements < c.elements → (x y : Option Elem) → x ≡ y
      → IsNilOrElement c.mesh kind y → Statements names (names ++ element_name name kind frame ∷ []) (modify (state.with_element name x)) (code.modify (resolved.with_element (length frame.elements) y))
  element_step names frame name kind new fit room x y e of = subst (λ x. Statements names (names ++ element_name name kind frame ∷ []) (modify (state.with_element name x)) (code.modify (resolved.with_element (length frame.elements) y))) (sym e) record {
    at = λ m a r. (tt, element_declared c names frame name new fit kind y of m a r room, element_nested names name y m new, sym (append-nil m.acts));
  }

  abbrev Declared : Type 0
  Declared = ℕ × Names × Frame

  abbrev Made : Type 0
  Made = StatementCode × Names × Frame

  abbrev new_number : Names → Frame → List ℕ → Declared
  new_number names frame name = (frame.numbers, names ++ number_name name frame ∷ [], with_number frame)

  abbrev number_declared_by : Names → Frame → List ℕ → Place → Option Resolution → Result Declared ProgramFault
  number_declared_by names frame name at found = in_sequence (new_name found at) (λ new. Ok (new_number names frame name))

  abbrev new_element : Names → Frame → List ℕ → Kind → Declared
  new_element names frame name kind = (length frame.elements, names ++ element_name name kind frame ∷ [], with_element kind frame)

  abbrev element_declared_by : Names → Frame → List ℕ → Place → Kind → Option Resolution → Result Declared ProgramFault
  element_declared_by names frame name at kind found = in_sequence (new_name found at) (λ new. Ok (new_element names frame name kind))

  abbrev var_made : NumberCode → Declared → Result Made ProgramFault
  var_made value declared = Ok (statement_code.Var declared.0 value, declared.1, declared.2)

  abbrev val_made : ElementCode → Declared → Result Made ProgramFault
  val_made value declared = Ok (statement_code.Val declared.0 value, declared.1, declared.2)

  var_code : (names : Names) (frame : Frame) (place : Place) (name : List ℕ) (at : Place) (init : Expression) → IfOk (IsStatementCode names frame (Var place name at init)) (resolved_var names frame name at init)
  var_code names frame place name at init =
      ok_then (IsNumberCode names frame.accesses init)
      (IsStatementCode names frame (Var place name at init)) (resolved_number names frame.accesses init) _ (number_code names frame.accesses init) (λ value h. by value.0 value.1 (resolution_of names name) refl h) where
        by : (value : NumberCode) (mid : Accesses) (found : Option Resolution) → resolution_of names name ≡ found
            → IsNumberCode names frame.accesses init (value, mid)
            → IfOk (IsStatementCode names frame (Var place name at init))
            (in_sequence (number_declared_by names (with_accesses mid frame) name at found) (var_made value))
        by value mid (Some other) is h = tt
        by value mid None is h = (
          record { numbers = omega arith; elements = omega arith },
          λ fit. number_fits names (with_accesses mid frame) name is (with_fit mid fit) (with_number (with_accesses mid frame)) refl refl,
          λ fit within.
              let fit' : SlotsFit names (with_accesses mid frame) = record { numbers = fit.numbers; elements = fit.elements; apart = fit.apart } in
              let operand = h within.accesses in
              record {
                accesses = operand.0;
                extends = extends_by_one names (number_name name (with_accesses mid frame));
                follows = rw (var_is c.mesh frame.numbers value) (simulates_then {next = λ n. modify (with_local name n)} (extends_itself names) operand.1
                    (λ n k e. number_step names (with_accesses mid frame) name is fit' (omega (arith, within.numbers)) n k e));
              },
        )

  val_code : (names : Names) (frame : Frame) (place : Place) (name : List ℕ) (at : Place) (init : Expression) → IfOk (IsStatementCode names frame (Val place name at init)) (resolved_val names frame name at init)
  val_code names frame place name at init =
      ok_then (IsElementCode names frame.accesses init)
      (IsStatementCode names frame (Val place name at init)) (resolved_element names frame.accesses init) _ (element_code names frame.accesses init) (λ value h. by value.0.0 value.0.1 value.1 (resolution_of names name) refl h) where
        by : (kind : Kind) (value : ElementCode) (mid : Accesses) (found : Option Resolution) → resolution_of names name ≡ found
            → IsElementCode names frame.accesses init ((kind, value), mid)
            → IfOk (IsStatementCode names frame (Val place name at init))
            (in_sequence (element_declared_by names (with_accesses mid frame) name at kind found) (val_made value))
        by kind value mid (Some other) is h = tt
        by kind value mid None is h = (
          record { numbers = omega arith; elements = omega (arith, length-append frame.elements (kind ∷ [])) },
          λ fit. element_fits names (with_accesses mid frame) name kind is (with_fit mid fit) (with_element kind (with_accesses mid frame)) refl refl,
          λ fit within.
              let fit' : SlotsFit names (with_accesses mid frame) = record { numbers = fit.numbers; elements = fit.elements; apart = fit.apart } in
              let operand = h within.accesses in
              let longer : length (frame.elements ++ kind ∷ []) ≡ length frame.elements + 1 = length-append frame.elements (kind ∷ []) in
              record {
                accesses = operand.0;
                extends = extends_by_one names (element_name name kind (with_accesses mid frame));
                follows = rw (val_is c.mesh (length frame.elements) value) (simulates_then {next = λ x. modify (state.with_element name x)} (extends_itself names) operand.1
                    (λ x y e. element_step names (with_accesses mid frame) name kind is fit' (omega (arith, within.elements, longer)) x y e.0 e.1));
              },
        )

  -- ASSIGNMENTS to a local number
  local_matches : (names : Names) (frame : Frame) (name : List ℕ) (how : How) (slot : ℕ) → resolution_of names name ≡ Some (resolution.Number slot) → SlotsFit names frame → frame.numbers ≤ c.numbers
      → (n : ℤ) (m : EvaluationState) (a : Activation) → Agrees c names m a → (local : Option ℤ) → local ≡ Some (get_or a.numbers slot (pos 0)) → (global : Option Binding)
      → Matches c Same (Agrees c names) names m (assign_name name how n local global m).after (resolved.assign_local slot how n c.view a).after (resolved.assign_local slot how n c.view a).acts
      (assign_name name how n local global m).answer (resolved.assign_local slot how n c.view a).answer
  local_matches names frame name how slot here fit room n m a r (Some old) e global =
      let same : old ≡ get_or a.numbers slot (pos 0) = cc e in
      subst (λ old. Matches c Same (Agrees c names) names m (with_local_value name (assigned_value how old n) m) (resolved.with_number slot (assigned_value how (get_or a.numbers slot (pos 0)) n) a) []
      (Ok (tt {0})) (Ok (tt {0}))) (sym same)
      (tt, local_assigned c names frame name slot here fit (assigned_value how (get_or a.numbers slot (pos 0)) n) m a r room, assigned_nested names name (assigned_value how (get_or a.numbers slot (pos 0)) n) m, sym (append-nil m.acts))
  local_matches names frame name how slot here fit room n m a r None e global = absurd cc

  local_step : (names : Names) (frame : Frame) (name : List ℕ) (how : How) (slot : ℕ) → resolution_of names name ≡ Some (resolution.Number slot) → SlotsFit names frame → frame.numbers ≤ c.numbers → (n k : ℤ) → n ≡ k
      → Statements names names (λ m. assign_name name how n (local_bound_to m name) (binding_of c.globals name) m) (resolved.assign_local slot how k)
  local_step names frame name how slot here fit room n k e =
      subst (λ k. Statements names names (λ m. assign_name name how n (local_bound_to m name) (binding_of c.globals name) m) (resolved.assign_local slot how k)) e record {
        at = λ m a r. local_matches names frame name how slot here fit room n m a r (local_bound_to m name)
            (subst (NameAgrees c a name (local_bound_to m name) (element_bound_to m name)) here (r.named name)) (binding_of c.globals name);
      }

  -- assignments to a scalar, which reduce it
  abbrev reduces : How → Bool
  reduces Set = false
  reduces how = true

  other_than_reduced : (scalar other : ℕ) (mode : Mode) → known_mode c (OfScalar scalar) ≡ Some mode → mode ≢ Read → known_mode c (OfScalar other) ≡ Some Read → scalar ≢ other
  other_than_reduced scalar other mode e not f same = not (some_mode mode Read (sym e ∙ ap (λ s. known_mode c (OfScalar s)) same ∙ f)) where
    some_mode : (x y : Mode) → Some x ≡ Some y → x ≡ y
    some_mode x y e = cc

  reduced_agrees : (names : Names) (how : How) (scalar : ℕ) (n old : ℤ) (folded : ScalarFold) (m : EvaluationState) (a : Activation) → known_mode c (OfScalar scalar) ≡ Some (mode_by how) → mode_by how ≢ Read
      → folded.scalar ≡ scalar → fold folded.op (get_or a.partials scalar (pos 0)) folded.value ≡ assigned_value how (get_or a.partials scalar (pos 0)) n → Agrees c names m a
      → Agrees c names (record (with_state (with_scalar_value scalar (assigned_value how old n) m.state) m) { folds = m.folds ++ folded ∷ [] }) (resolved.with_partial scalar (assigned_value how (get_or a.partials scalar (pos 0)) n) a)
  reduced_agrees names how scalar n old folded m a mode not is value r = record {
    elem = r.elem;
    turns = r.turns;
    named = r.named;
    fields = r.fields;
    scalars = λ other v known found. r.scalars other v known (sym (other_scalar scalar other (assigned_value how old n) m.state.scalars (other_than_reduced scalar other (mode_by how) mode not known)) ∙ found);
    partials =
        ap₂ (λ s v. slice_set a.partials s v) (sym is) (sym (ap (λ s. fold folded.op (get_or a.partials s (pos 0)) folded.value) is ∙ value))
        ∙ ap (λ partials. partials_after_fold partials folded) r.partials ∙ sym (one_more_fold c.partials m.folds folded);
    kept = r.kept;
    numbers_room = r.numbers_room;
    elements_room = r.elements_room;
  }

  not_read : (how : How) → mode_by how ≢ Read
  not_read Set e = cc
  not_read (Fold op) e = cc
  not_read Less e = cc

  reduced_nested : (names : Names) (m : EvaluationState) (scalar : ℕ) (value : ℤ) (folds : List ScalarFold) → IsNested names m (record (with_state (with_scalar_value scalar value m.state) m) { folds = folds })
  reduced_nested names m scalar value folds = record { new_locals = []; locals = refl; locals_are_new = tt; new_elements = []; elements = refl; elements_are_new = tt }

  scalar_matches : (names : Names) (how : How) (scalar : ℕ) → reduces how ≡ true → known_mode c (OfScalar scalar) ≡ Some (mode_by how)
      → (n : ℤ) (m : EvaluationState) (a : Activation) → Agrees c names m a → (value : Option ℤ)
      → Matches c Same (Agrees c names) names m (assign_scalar how n scalar value m).after (resolved.assign_scalar scalar how n c.view a).after (resolved.assign_scalar scalar how n c.view a).acts
      (assign_scalar how n scalar value m).answer (resolved.assign_scalar scalar how n c.view a).answer
  scalar_matches names Set scalar is mode n m a r value = absurd cc
  scalar_matches names (Fold op) scalar is mode n m a r (Some old) = (
    tt,
    reduced_agrees names (Fold op) scalar n old (record { scalar = scalar; op = op; value = n }) m a mode (not_read (Fold op)) refl refl r,
    reduced_nested names m scalar (assigned_value (Fold op) old n) (m.folds ++ record { scalar = scalar; op = op; value = n } ∷ []),
    sym (append-nil m.acts),
  )
  scalar_matches names Less scalar is mode n m a r (Some old) = (
    tt,
    reduced_agrees names Less scalar n old (record { scalar = scalar; op = Add; value = operand Less n }) m a mode (not_read Less) refl refl r,
    reduced_nested names m scalar (assigned_value Less old n) (m.folds ++ record { scalar = scalar; op = Add; value = operand Less n } ∷ []),
    sym (append-nil m.acts),
  )
  scalar_matches names (Fold op) scalar is mode n m a r None = tt
  scalar_matches names Less scalar is mode n m a r None = tt

  named_scalar : (names : Names) (name : List ℕ) (how : How) (scalar : ℕ) → reduces how ≡ true → known_mode c (OfScalar scalar) ≡ Some (mode_by how)
      → (n : ℤ) (m : EvaluationState) (a : Activation) → Agrees c names m a → (local : Option ℤ) → local ≡ None → (global : Option Binding) → global ≡ Some (ScalarName scalar)
      → Matches c Same (Agrees c names) names m (assign_name name how n local global m).after (resolved.assign_scalar scalar how n c.view a).after (resolved.assign_scalar scalar how n c.view a).acts
      (assign_name name how n local global m).answer (resolved.assign_scalar scalar how n c.view a).answer
  named_scalar names name how scalar is mode n m a r None e (Some (ScalarName other)) f =
      let same : other ≡ scalar = cc f in
      subst (λ s. Matches c Same (Agrees c names) names m (assign_scalar how n s (scalar_value m.state s) m).after (resolved.assign_scalar scalar how n c.view a).after (resolved.assign_scalar scalar how n c.view a).acts
      (assign_scalar how n s (scalar_value m.state s) m).answer (resolved.assign_scalar scalar how n c.view a).answer) (sym same) (scalar_matches names how scalar is mode n m a r (scalar_value m.state scalar))
  named_scalar names name how scalar is mode n m a r (Some old) e global f = absurd cc
  named_scalar names name how scalar is mode n m a r None e None f = absurd cc
  named_scalar names name how scalar is mode n m a r None e (Some _) f = absurd cc

  scalar_step : (names : Names) (name : List ℕ) (how : How) (scalar : ℕ) → resolution_of names name ≡ Some (resolution.Scalar scalar) → reduces how ≡ true → known_mode c (OfScalar scalar) ≡ Some (mode_by how)
      → (n k : ℤ) → n ≡ k → Statements names names (λ m. assign_name name how n (local_bound_to m name) (binding_of c.globals name) m) (resolved.assign_scalar scalar how k)
  scalar_step names name how scalar here is mode n k e =
      subst (λ k. Statements names names (λ m. assign_name name how n (local_bound_to m name) (binding_of c.globals name) m) (resolved.assign_scalar scalar how k)) e record {
        at = λ m a r.
            let h : (local_bound_to m name ≡ None) × (element_bound_to m name ≡ None) × (binding_of c.globals name ≡ Some (ScalarName scalar)) =
            subst (NameAgrees c a name (local_bound_to m name) (element_bound_to m name)) here (r.named name) in
            named_scalar names name how scalar is mode n m a r (local_bound_to m name) h.0 (binding_of c.globals name) h.2;
      }

  -- assignments to a field
  other_than_written : (field other : ℕ) (mode : Mode) → known_mode c (OfField field) ≡ Some mode → mode ≢ Read → known_mode c (OfField other) ≡ Some Read → field ≢ other
  other_than_written field other mode e not f same = not (some_mode mode Read (sym e ∙ ap (λ s. known_mode c (OfField s)) same ∙ f)) where
    some_mode : (x y : Mode) → Some x ≡ Some y → x ≡ y
    some_mode x y e = cc

  written_agrees : (names : Names) (spot : Spot) (how : How) (n old : ℤ) (m : EvaluationState) (a : Activation) → known_mode c (OfField spot.field) ≡ Some (mode_by how) → Agrees c names m a
      → Agrees c names (with_act (record { spot = spot; mode = mode_by how; value = operand how n }) (with_state (with_fields (with_value spot (assigned_value how old n) m.state.fields) m.state) m)) a
  written_agrees names spot how n old m a mode r = record {
    elem = r.elem;
    turns = r.turns;
    named = r.named;
    fields = λ other value known declared found.
        r.fields other value known declared (sym (other_field spot other (assigned_value how old n) m.state.fields (other_than_written spot.field other.field (mode_by how) mode (not_read how) known)) ∙ found);
    scalars = r.scalars;
    partials = r.partials;
    kept = r.kept;
    numbers_room = r.numbers_room;
    elements_room = r.elements_room;
  }

  written_nested : (names : Names) (m : EvaluationState) (act : Act) (fields : _) → IsNested names m (with_act act (with_state (with_fields fields m.state) m))
  written_nested names m act fields = record { new_locals = []; locals = refl; locals_are_new = tt; new_elements = []; elements = refl; elements_are_new = tt }

  spot_matches : (names : Names) (spot : Spot) (how : How) (n : ℤ) (m : EvaluationState) (a : Activation) → known_mode c (OfField spot.field) ≡ Some (mode_by how) → Agrees c names m a → (value : Option ℤ)
      → Matches c Same (Agrees c names) names m (assign_spot spot how n value m).after a (record { spot = spot; mode = mode_by how; value = operand how n } ∷ []) (assign_spot spot how n value m).answer (Ok (tt {0}))
  spot_matches names spot how n m a mode r (Some old) = (
    tt,
    written_agrees names spot how n old m a mode r,
    written_nested names m (record { spot = spot; mode = mode_by how; value = operand how n }) (with_value spot (assigned_value how old n) m.state.fields),
    refl,
  )
  spot_matches names spot how n m a mode r None = tt

  field_step : (names : Names) (place : Place) (name : List ℕ) (how : How) (field : ℕ) (kind : Kind) → resolution_of names name ≡ Some (resolution.Field field kind) → known_mode c (OfField field) ≡ Some (mode_by how)
      → (n k : ℤ) → n ≡ k → (x y : Option Elem) → x ≡ y → Statements names names (assign_field place how (binding_of c.globals name) n x) (resolved.assign_field place field how k y)
  field_step names place name how field kind here mode n k e x y f =
      subst (λ k. Statements names names (assign_field place how (binding_of c.globals name) n x) (resolved.assign_field place field how k y)) e
      (subst (λ y. Statements names names (assign_field place how (binding_of c.globals name) n x) (resolved.assign_field place field how n y)) f (simulates_given c names (λ m a r.
      let global : binding_of c.globals name ≡ Some (FieldName field kind) = subst (NameAgrees c a name (local_bound_to m name) (element_bound_to m name)) here (r.named name) in
      subst (λ global. Statements names names (assign_field place how global n x) (resolved.assign_field place field how n x)) (sym global) (at x)))) where
        at : (x : Option Elem) → Statements names names (assign_field place how (Some (FieldName field kind)) n x) (resolved.assign_field place field how n x)
        at None = simulates_trap NilElement place
        at (Some x) = record { at = λ m a r. spot_matches names (spot_of field x) how n m a mode r (value_in m.state.fields (spot_of field x)) }

  -- THE CODE OF ASSIGNMENTS
  abbrev Assigned : Type 0
  Assigned = StatementCode × Frame

  abbrev IsAssignment : Names → Frame → Statement → Assigned → Type 0
  IsAssignment names frame s r = Grows frame r.1 × (SlotsFit names frame → IsWithinFrame c r.1 → StatementFollows names frame s r.0 names r.1)

  abbrev with_names : Names → Assigned → Result Made ProgramFault
  with_names names assignment = Ok (assignment.0, names, assignment.1)

  assignment_code : (names : Names) (frame : Frame) (s : Statement) (r : Result Assigned ProgramFault) → IfOk (IsAssignment names frame s) r → IfOk (IsStatementCode names frame s) (in_sequence r (with_names names))
  assignment_code names frame s (Ok r) h = (h.0, still_fit h.0, h.1)
  assignment_code names frame s (Err fault) h = tt

  name_follows : (names : Names) (frame : Frame) (place : Place) (name : List ℕ) (how : How) (value : Expression) (made : StatementCode) (later : Accesses) → Within c frame.accesses → SlotsFit names frame
      → Statements names names (statement_meaning c.mesh c.globals (Assign place name None how value)) (resolved.statement_execution c.mesh made)
      → StatementFollows names frame (Assign place name None how value) made names (with_accesses later frame)
  name_follows names frame place name how value made later w fit f = record {
    accesses = w;
    extends = extends_itself names;
    follows = f;
  }

  abbrev scalar_made : Frame → ℕ → How → NumberCode × Accesses → Result Assigned ProgramFault
  scalar_made frame scalar how operand = Ok (statement_code.Scalar scalar how operand.0, with_accesses operand.1 frame)

  scalar_assignment_code : (names : Names) (frame : Frame) (place : Place) (name : List ℕ) (how : How) (value : Expression) (scalar : ℕ) → resolution_of names name ≡ Some (resolution.Scalar scalar)
      → (later : Accesses) → reduces how ≡ true → (Within c later → Within c frame.accesses × (known_mode c (OfScalar scalar) ≡ Some (mode_by how)))
      → IfOk (IsAssignment names frame (Assign place name None how value)) (in_sequence (resolved_number names later value) (scalar_made frame scalar how))
  scalar_assignment_code names frame place name how value scalar here later is known =
      ok_then (IsNumberCode names later value) (IsAssignment names frame (Assign place name None how value)) (resolved_number names later value) (scalar_made frame scalar how) (number_code names later value)
      (λ operand h. (
        record { numbers = omega arith; elements = omega arith },
        λ fit within.
            let operand_is = h within.accesses in
            let mode = known operand_is.0 in
            name_follows names frame place name how value (statement_code.Scalar scalar how operand.0) operand.1 mode.0 fit
            (rw (assign_scalar_is c.mesh scalar how operand.0) (simulates_then {next = λ n m. assign_name name how n (local_bound_to m name) (binding_of c.globals name) m} (extends_itself names) operand_is.1
            (λ n k e. scalar_step names name how scalar here is mode.1 n k e))),
      ))

  abbrev local_made : Frame → ℕ → How → NumberCode × Accesses → Result Assigned ProgramFault
  local_made frame slot how operand = Ok (statement_code.Local slot how operand.0, with_accesses operand.1 frame)

  name_assignment_code : (names : Names) (frame : Frame) (place : Place) (name : List ℕ) (how : How) (value : Expression) (found : Option Resolution) → resolution_of names name ≡ found
      → IfOk (IsAssignment names frame (Assign place name None how value)) (resolved_assignment names frame place how value found)
  name_assignment_code names frame place name how value None here = tt
  name_assignment_code names frame place name how value (Some (resolution.Field field kind)) here = tt
  name_assignment_code names frame place name how value (Some (resolution.Element slot kind)) here = tt
  name_assignment_code names frame place name how value (Some (resolution.Number slot)) here =
      ok_then (IsNumberCode names frame.accesses value) (IsAssignment names frame (Assign place name None how value)) (resolved_number names frame.accesses value) (local_made frame slot how)
      (number_code names frame.accesses value) (λ operand h. (
        record { numbers = omega arith; elements = omega arith },
        λ fit within.
            let operand_is = h within.accesses in
            name_follows names frame place name how value (statement_code.Local slot how operand.0) operand.1 operand_is.0 fit
            (rw (assign_local_is c.mesh slot how operand.0) (simulates_then {next = λ n m. assign_name name how n (local_bound_to m name) (binding_of c.globals name) m} (extends_itself names) operand_is.1
            (λ n k e. local_step names frame name how slot here fit within.numbers n k e))),
      ))
  name_assignment_code names frame place name Set value (Some (resolution.Scalar scalar)) here = tt
  name_assignment_code names frame place name (Fold op) value (Some (resolution.Scalar scalar)) here =
      ok_then (λ later. Within c later → Within c frame.accesses × (known_mode c (OfScalar scalar) ≡ Some (mode_by (Fold op)))) (IsAssignment names frame (Assign place name None (Fold op) value))
      (with_access frame.accesses (OfScalar scalar) (mode_by (Fold op)) place) (λ later. in_sequence (resolved_number names later value) (scalar_made frame scalar (Fold op)))
      (access_known c frame.accesses (OfScalar scalar) (mode_by (Fold op)) place) (λ later k. scalar_assignment_code names frame place name (Fold op) value scalar here later refl k)
  name_assignment_code names frame place name Less value (Some (resolution.Scalar scalar)) here =
      ok_then (λ later. Within c later → Within c frame.accesses × (known_mode c (OfScalar scalar) ≡ Some (mode_by Less))) (IsAssignment names frame (Assign place name None Less value))
      (with_access frame.accesses (OfScalar scalar) (mode_by Less) place) (λ later. in_sequence (resolved_number names later value) (scalar_made frame scalar Less))
      (access_known c frame.accesses (OfScalar scalar) (mode_by Less) place) (λ later k. scalar_assignment_code names frame place name Less value scalar here later refl k)

  -- to a field at an element
  abbrev field_made : Frame → Place → ℕ → How → ElementCode → NumberCode × Accesses → Result Assigned ProgramFault
  field_made frame place field how target new_value = Ok (statement_code.Field place field how target new_value.0, with_accesses new_value.1 frame)

  field_value_code : (names : Names) (frame : Frame) (place : Place) (name : List ℕ) (target : Expression) (how : How) (value : Expression) (field : ℕ) (kind other : Kind) (x : ElementCode) (later : Accesses)
      → resolution_of names name ≡ Some (resolution.Field field kind)
      → (Within c later → Within c frame.accesses × (known_mode c (OfField field) ≡ Some (mode_by how)) × ElementSimulates names other target x)
      → IfOk (IsAssignment names frame (Assign place name (Some target) how value)) (in_sequence (resolved_number names later value) (field_made frame place field how x))
  field_value_code names frame place name target how value field kind other x later here known =
      ok_then (IsNumberCode names later value) (IsAssignment names frame (Assign place name (Some target) how value)) (resolved_number names later value) (field_made frame place field how x) (number_code names later value)
      (λ operand h. (
        record { numbers = omega arith; elements = omega arith },
        λ fit within.
            let operand_is = h within.accesses in
            let target_is = known operand_is.0 in
            record {
              accesses = target_is.0;
              extends = extends_itself names;
              follows = rw (assign_field_is c.mesh place field how x operand.0)
                  (simulates_then {next = λ n. and_then (element_in c.mesh c.globals target) (λ y. assign_field place how (binding_of c.globals name) n y)} (extends_itself names) operand_is.1 (λ n k e.
                  simulates_then {next = λ y. assign_field place how (binding_of c.globals name) n y} (extends_itself names) target_is.2
                  (λ y z f. field_step names place name how field kind here target_is.1 n k e y z f.0)));
            },
      ))

  abbrev field_access : Names → Frame → Place → ℕ → How → Expression → Accesses → ElementCode → Result Assigned ProgramFault
  field_access names frame place field how value mid x =
      in_sequence (with_access mid (OfField field) (mode_by how) place) (λ later. in_sequence (resolved_number names later value) (field_made frame place field how x))

  field_target_code : (names : Names) (frame : Frame) (place : Place) (name : List ℕ) (target : Expression) (how : How) (value : Expression) (field : ℕ) (kind : Kind)
      → resolution_of names name ≡ Some (resolution.Field field kind) → (operand : TypedCode) (mid : Accesses) → IsCode c names target frame.accesses (operand, mid)
      → IfOk (IsAssignment names frame (Assign place name (Some target) how value)) (in_sequence (element_of_kind kind place operand) (field_access names frame place field how value mid))
  field_target_code names frame place name target how value field kind here (typed.Element other x) mid h = go (is_kind kind other) where
    go : (b : Bool) → IfOk (IsAssignment names frame (Assign place name (Some target) how value))
        (in_sequence (if b then Ok x else fails TypeMismatch place) (field_access names frame place field how value mid))
    go false = tt
    go true =
        ok_then (λ later. Within c later → Within c mid × (known_mode c (OfField field) ≡ Some (mode_by how))) (IsAssignment names frame (Assign place name (Some target) how value))
        (with_access mid (OfField field) (mode_by how) place) (λ later. in_sequence (resolved_number names later value) (field_made frame place field how x))
        (access_known c mid (OfField field) (mode_by how) place) (λ later k.
        field_value_code names frame place name target how value field kind other x later here (λ w. ((h (k w).0).0, (k w).1, element_alone c names (h (k w).0).1)))
  field_target_code names frame place name target how value field kind here _ mid h = tt

  abbrev field_parts : Names → Frame → Place → How → Expression → Expression → ℕ × Kind → Result Assigned ProgramFault
  field_parts names frame place how target value field =
      in_sequence (resolved_expression names frame.accesses target) (λ operand. in_sequence (element_of_kind field.1 place operand.0) (field_access names frame place field.0 how value operand.1))

  field_assignment_code : (names : Names) (frame : Frame) (place : Place) (name : List ℕ) (target : Expression) (how : How) (value : Expression) (found : Option Resolution) → resolution_of names name ≡ found
      → IfOk (IsAssignment names frame (Assign place name (Some target) how value)) (resolved_field_assignment names frame place how target value found)
  field_assignment_code names frame place name target how value (Some (resolution.Field field kind)) here = go (is_built_in field) where
    go : (b : Bool) → IfOk (IsAssignment names frame (Assign place name (Some target) how value))
        (in_sequence (if b then fails BuiltinWrite place else Ok (field, kind)) (field_parts names frame place how target value))
    go true = tt
    go false =
        ok_then (IsCode c names target frame.accesses) (IsAssignment names frame (Assign place name (Some target) how value)) (resolved_expression names frame.accesses target)
        (λ operand. in_sequence (element_of_kind kind place operand.0) (field_access names frame place field how value operand.1)) (expression_code c names frame.accesses target)
        (λ operand h. field_target_code names frame place name target how value field kind here operand.0 operand.1 h)
  field_assignment_code names frame place name target how value None here = tt
  field_assignment_code names frame place name target how value (Some (resolution.Scalar scalar)) here = tt
  field_assignment_code names frame place name target how value (Some (resolution.Number slot)) here = tt
  field_assignment_code names frame place name target how value (Some (resolution.Element slot kind)) here = tt

  -- CONDITIONS AND LOOPS, by the code of their blocks
  abbrev Block : Type 0
  Block = List StatementCode × Frame

  within_earlier : {frame later : Frame} → Within c frame.accesses → Grows frame later → IsWithinFrame c later → IsWithinFrame c frame
  within_earlier w g h = record { accesses = w; numbers = omega (arith, g.numbers, h.numbers); elements = omega (arith, g.elements, h.elements) }

  block_follows : (names : Names) (frame : Frame) (body : Body) (codes : List StatementCode) (after : Frame) → BodyFollows names frame [] body codes after
      → Statements names names (in_block (body_meaning c.mesh c.globals body)) (resolved.body_execution c.mesh codes)
  block_follows names frame body codes after h =
      subst (λ codes. Statements names names (in_block (body_meaning c.mesh c.globals body)) (resolved.body_execution c.mesh codes)) (sym h.is) (simulates_block h.follows)

  if_follows : (names : Names) (frame : Frame) (place : Place) (test : Expression) (first second : Body) (has_else : Bool) (x : TruthCode) (mid : Accesses) (one two : Block)
      → IsTruthCode names frame.accesses test (x, mid) → IsBodyCode names (with_accesses mid frame) [] first one → IsBodyCode names one.1 [] second two
      → IsStatementCode names frame (If place test first second has_else) (statement_code.If x one.0 two.0, names, two.1)
  if_follows names frame place test first second has_else x mid one two h f g = (
    grows_then (record { numbers = f.0.numbers; elements = f.0.elements }) g.0,
    still_fit (grows_then (record { numbers = f.0.numbers; elements = f.0.elements }) g.0),
    λ fit within.
        let fit_one = still_fit f.0 (with_fit mid fit) in
        let second_is = g.1 fit_one within in
        let first_is = f.1 (with_fit mid fit) (within_earlier second_is.accesses g.0 within) in
        let test_is = h first_is.accesses in
        record {
          accesses = test_is.0;
          extends = extends_itself names;
          follows = rw (if_is c.mesh x one.0 two.0) (simulates_then {next = λ b. if_then_else b (in_block (body_meaning c.mesh c.globals first)) (in_block (body_meaning c.mesh c.globals second))} (extends_itself names) test_is.1
              (λ b d e. subst (λ d. Statements names names (if_then_else b (in_block (body_meaning c.mesh c.globals first)) (in_block (body_meaning c.mesh c.globals second)))
              (code.if_then_else d (resolved.body_execution c.mesh one.0) (resolved.body_execution c.mesh two.0))) e
              (simulates_if b (block_follows names (with_accesses mid frame) first one.0 one.1 first_is) (block_follows names one.1 second two.0 two.1 second_is))));
        },
  )

  while_follows : (names : Names) (frame : Frame) (place : Place) (test : Expression) (body : Body) (x : TruthCode) (mid : Accesses) (block : Block)
      → IsTruthCode names frame.accesses test (x, mid) → IsBodyCode names (with_accesses mid frame) [] body block
      → IsStatementCode names frame (While place test body) (statement_code.While place x block.0, names, block.1)
  while_follows names frame place test body x mid block h f = (
    record { numbers = f.0.numbers; elements = f.0.elements },
    still_fit (record { numbers = f.0.numbers; elements = f.0.elements }),
    λ fit within.
        let body_is = f.1 (with_fit mid fit) within in
        let test_is = h body_is.accesses in
        record {
          accesses = test_is.0;
          extends = extends_itself names;
          follows = rw (while_is c.mesh place x block.0) (simulates_loop place Spent test_is.1 (block_follows names (with_accesses mid frame) body block.0 block.1 body_is));
        },
  )

  -- SETS
  weaker : (names : Names) {S T : EvaluationState → Activation → Type 0} → ((m : EvaluationState) (a : Activation) → S m a → T m a) → (before m : EvaluationState) (a : Activation) (acts : List Act)
      (x y : Result (Unit {0}) Stop) → Matches c Same S names before m a acts x y → Matches c Same T names before m a acts x y
  weaker names h before m a acts (Ok x) (Ok y) g = (g.0, h m a g.1, g.2, g.3)
  weaker names h before m a acts (Err (Trapped t)) (Err (Trapped u)) g = g
  weaker names h before m a acts (Err NoMeaning) y g = tt
  weaker names h before m a acts (Ok x) (Err u) g = g
  weaker names h before m a acts (Err (Trapped t)) (Ok y) g = g
  weaker names h before m a acts (Err (Trapped t)) (Err NoMeaning) g = g

  more_from_later : {names later : Names} → Extends names later → (m : EvaluationState) (a : Activation) → AgreesWithMore c later m a → AgreesWithMore c names m a
  more_from_later e m a h = record { later = h.later; extends = extends_then e h.extends; agrees = h.agrees }

  members_are : (kind : Kind) (set : SetName) (x : Elem) → has_set kind set ≡ true → IsElement c.mesh kind x → resolved.set_members c.mesh set x ≡ Some (members c.mesh set x)
  members_are kind set x has of =
      ap (λ b. resolved.given b (members c.mesh set x)) (both_are (lt-ltb x.id (count c.mesh x.kind) (subst (λ kind. x.id < count c.mesh kind) (sym of.0) of.1)) (ap (λ kind. has_set kind set) of.0 ∙ has)) where
        both_are : {a b : Bool} → a ≡ true → b ≡ true → (a && b) ≡ true
        both_are h g = rw (h, g) refl

  set_operand_of : (kind : Kind) (set : SetName) (x : Elem) → has_set kind set ≡ true → IsElement c.mesh kind x → IsSetOperand c.mesh set x
  set_operand_of kind set x has of = record {
    in_range = subst (λ kind. x.id < count c.mesh kind) (sym of.0) of.1;
    kind_has_set = ap (λ kind. has_set kind set) of.0 ∙ has;
  }

  module _ (names : Names) (frame : Frame) (name : List ℕ) (set : SetName) (set_at : Place) (body : Body) (block : Block) (new : resolution_of names name ≡ None) (fit : SlotsFit names frame)
      (room : length frame.elements < c.elements)
      (body_is : BodyFollows (names ++ element_name name (kind_of set) frame ∷ []) (with_element (kind_of set) frame) [] body block.0 block.1) where
    abbrev later_names : Names
    later_names = names ++ element_name name (kind_of set) frame ∷ []

    abbrev member_meaning : Option Elem → Computation EvaluationState (Unit {0})
    member_meaning x = and_then (modify (state.with_element name x)) (λ done. body_meaning c.mesh c.globals body)

    body_code : Simulates c Same (Agrees c later_names) (AgreesWithMore c later_names) later_names (body_meaning c.mesh c.globals body) (resolved.body_execution c.mesh block.0)
    body_code = subst (λ codes. Simulates c Same (Agrees c later_names) (AgreesWithMore c later_names) later_names (body_meaning c.mesh c.globals body) (resolved.body_execution c.mesh codes)) (sym body_is.is) body_is.follows

    member_follows : (x : Elem) → IsElement c.mesh (kind_of set) x
        → Statements names names (in_block (member_meaning (Some x))) (resolved.visit (length frame.elements) (resolved.body_execution c.mesh block.0) x)
    member_follows x of = simulates_block (weakened (simulates_then {next = λ done. body_meaning c.mesh c.globals body} (extends_by_one names (element_name name (kind_of set) frame))
        (element_step names frame name (kind_of set) new fit room (Some x) (Some x) refl of) (λ u v same. body_code))) where
          weakened : Simulates c Same (Agrees c names) (AgreesWithMore c later_names) names (member_meaning (Some x)) (resolved.visit (length frame.elements) (resolved.body_execution c.mesh block.0) x)
              → Simulates c Same (Agrees c names) (AgreesWithMore c names) names (member_meaning (Some x)) (resolved.visit (length frame.elements) (resolved.body_execution c.mesh block.0) x)
          weakened h = record {
            at = λ m a r. weaker names (more_from_later (extends_by_one names (element_name name (kind_of set) frame))) m (member_meaning (Some x) m).after
                (resolved.visit (length frame.elements) (resolved.body_execution c.mesh block.0) x c.view a).after (resolved.visit (length frame.elements) (resolved.body_execution c.mesh block.0) x c.view a).acts
                (member_meaning (Some x) m).answer (resolved.visit (length frame.elements) (resolved.body_execution c.mesh block.0) x c.view a).answer (h.at m a r);
          }

    set_follows : (kind : Kind) → has_set kind set ≡ true → (x : Option Elem) → IsNilOrElement c.mesh kind x
        → Statements names names (for_each_member c.mesh set_at member_meaning (members c.mesh set) x)
        (resolved.visit_set c.mesh (length frame.elements) set set_at (resolved.body_execution c.mesh block.0) x)
    set_follows kind has None of = simulates_trap NilElement set_at
    set_follows kind has (Some x) of =
        subst (λ xs. Statements names names (for_each_member c.mesh set_at member_meaning (members c.mesh set) (Some x)) (resolved.visit_members (length frame.elements) (resolved.body_execution c.mesh block.0) xs))
        (sym (members_are kind set x has of))
        (simulates_for_each {P = IsElement c.mesh (kind_of set)} member_follows (members c.mesh set x) (members_of c.mesh set x mesh_is (set_operand_of kind set x has of)))

    set_step : (kind : Kind) → has_set kind set ≡ true → (x y : Option Elem) → x ≡ y → IsNilOrElement c.mesh kind y
        → Statements names names (for_each_member c.mesh set_at member_meaning (members c.mesh set) x)
        (resolved.visit_set c.mesh (length frame.elements) set set_at (resolved.body_execution c.mesh block.0) y)
    set_step kind has x y e of =
        subst (λ x. Statements names names (for_each_member c.mesh set_at member_meaning (members c.mesh set) x)
        (resolved.visit_set c.mesh (length frame.elements) set set_at (resolved.body_execution c.mesh block.0) y)) (sym e) (set_follows kind has y of)

  for_follows : (names : Names) (frame : Frame) (place : Place) (name : List ℕ) (at : Place) (set : SetName) (set_at : Place) (arg : Expression) (body : Body) (kind : Kind) (x : ElementCode) (mid : Accesses) (block : Block)
      → resolution_of names name ≡ None → has_set kind set ≡ true → IsCode c names arg frame.accesses (typed.Element kind x, mid)
      → IsBodyCode (names ++ element_name name (kind_of set) (with_accesses mid frame) ∷ []) (with_element (kind_of set) (with_accesses mid frame)) [] body block
      → IsStatementCode names frame (For place name at set set_at arg body) (statement_code.For (length frame.elements) set set_at x block.0, names, block.1)
  for_follows names frame place name at set set_at arg body kind x mid block new has h f = (
    record { numbers = f.0.numbers; elements = omega (arith, f.0.elements, length-append frame.elements (kind_of set ∷ [])) },
    still_fit (record { numbers = f.0.numbers; elements = omega (arith, f.0.elements, length-append frame.elements (kind_of set ∷ [])) }),
    λ fit within.
        let longer : length (frame.elements ++ kind_of set ∷ []) ≡ length frame.elements + 1 = length-append frame.elements (kind_of set ∷ []) in
        let fit' : SlotsFit names (with_accesses mid frame) = with_fit mid fit in
        let body_is = f.1 (element_fits names (with_accesses mid frame) name (kind_of set) new fit' (with_element (kind_of set) (with_accesses mid frame)) refl refl) within in
        let arg_is = h body_is.accesses in
        record {
          accesses = arg_is.0;
          extends = extends_itself names;
          follows = rw (for_is c.mesh (length frame.elements) set set_at x block.0)
              (simulates_then {next = λ y. for_each_member c.mesh set_at (λ member. and_then (modify (state.with_element name member)) (λ done. body_meaning c.mesh c.globals body)) (members c.mesh set) y}
              (extends_itself names) (element_alone c names arg_is.1)
              (λ y z e. set_step names (with_accesses mid frame) name set set_at body block new fit' (omega (arith, f.0.elements, within.elements, longer)) body_is kind has y z e.0 e.1));
        },
  )

  abbrev for_made : Names → SetName → Place → ElementCode → ℕ → Block → Result Made ProgramFault
  for_made names set set_at x slot block = Ok (statement_code.For slot set set_at x block.0, names, block.1)

  abbrev for_body : Names → SetName → Place → Body → ElementCode → Declared → Result Made ProgramFault
  for_body names set set_at body x declared = in_sequence (resolved_body declared.1 declared.2 [] body) (for_made names set set_at x declared.0)

  abbrev for_declared : Names → Frame → List ℕ → Place → SetName → Place → Body → Accesses → Option Resolution → ElementCode → Result Made ProgramFault
  for_declared names frame name at set set_at body mid found x =
      in_sequence (element_declared_by names (with_accesses mid frame) name at (kind_of set) found) (for_body names set set_at body x)

  set_operand_code : (names : Names) (frame : Frame) (place : Place) (name : List ℕ) (at : Place) (set : SetName) (set_at : Place) (arg : Expression) (body : Body)
      → ((names : Names) (frame : Frame) → IfOk (IsBodyCode names frame [] body) (resolved_body names frame [] body)) → (operand : TypedCode) (mid : Accesses) → IsCode c names arg frame.accesses (operand, mid)
      → (found : Option Resolution) → resolution_of names name ≡ found → IfOk (IsStatementCode names frame (For place name at set set_at arg body)) (in_sequence (element_with_set set set_at operand) (for_declared names frame name at set set_at body mid found))
  set_operand_code names frame place name at set set_at arg body bodies (typed.Element kind x) mid h found here = go (has_set kind set) refl found here where
    go : (b : Bool) → has_set kind set ≡ b → (found : Option Resolution) → resolution_of names name ≡ found
        → IfOk (IsStatementCode names frame (For place name at set set_at arg body)) (in_sequence (if b then Ok x else fails TypeMismatch set_at) (for_declared names frame name at set set_at body mid found))
    go false has found here = tt
    go true has (Some other) here = tt
    go true has None here =
        ok_then (IsBodyCode (names ++ element_name name (kind_of set) (with_accesses mid frame) ∷ []) (with_element (kind_of set) (with_accesses mid frame)) [] body)
        (IsStatementCode names frame (For place name at set set_at arg body))
        (resolved_body (names ++ element_name name (kind_of set) (with_accesses mid frame) ∷ []) (with_element (kind_of set) (with_accesses mid frame)) [] body)
        (for_made names set set_at x (length frame.elements)) (bodies (names ++ element_name name (kind_of set) (with_accesses mid frame) ∷ []) (with_element (kind_of set) (with_accesses mid frame)))
        (λ block f. for_follows names frame place name at set set_at arg body kind x mid block here has h f)
  set_operand_code names frame place name at set set_at arg body bodies (typed.Number x) mid h found here = tt
  set_operand_code names frame place name at set set_at arg body bodies (typed.Truth x) mid h found here = tt

  -- EVERY FORM of statement, and bodies
  body_then : (names : Names) (frame : Frame) (done : List StatementCode) (s : Statement) (rest : Body) (next : Made) (r : Block) → IsStatementCode names frame s next
      → IsBodyCode next.1 next.2 (done ++ next.0 ∷ []) rest r → IsBodyCode names frame done (statement s rest) r
  body_then names frame done s rest next r h g = (
    grows_then h.0 g.0,
    λ fit within.
        let rest_is = g.1 (h.1 fit) within in
        let first_is = h.2 fit (within_earlier rest_is.accesses g.0 within) in
        record {
          accesses = first_is.accesses;
          new = next.0 ∷ rest_is.new;
          is = rest_is.is ∙ append_assoc done (next.0 ∷ []) rest_is.new;
          follows = simulates_then {next = λ u. body_meaning c.mesh c.globals rest} first_is.extends first_is.follows (λ u v same. more rest_is.new first_is.extends rest_is.follows);
        },
  ) where
    more : (new : List StatementCode) → Extends names next.1
        → Simulates c Same (Agrees c next.1) (AgreesWithMore c next.1) next.1 (body_meaning c.mesh c.globals rest) (resolved.body_execution c.mesh new)
        → Simulates c Same (Agrees c next.1) (AgreesWithMore c names) next.1 (body_meaning c.mesh c.globals rest) (resolved.body_execution c.mesh new)
    more new e k = record {
      at = λ m a r. weaker next.1 (more_from_later e) m (body_meaning c.mesh c.globals rest m).after (resolved.body_execution c.mesh new c.view a).after (resolved.body_execution c.mesh new c.view a).acts
          (body_meaning c.mesh c.globals rest m).answer (resolved.body_execution c.mesh new c.view a).answer (k.at m a r);
    }

  no_more : (names : Names) (frame : Frame) (done : List StatementCode) → IsBodyCode names frame done no_statement (done, frame)
  no_more names frame done = (
    grows_itself frame,
    λ fit within. record {
      accesses = within.accesses;
      new = [];
      is = sym (append-nil done);
      follows = record { at = λ m a r. (tt, record { later = names; extends = extends_itself names; agrees = r }, nested_itself names m, sym (append-nil m.acts)) };
    },
  )

  abbrev if_made : Names → TruthCode → Block → Block → Result Made ProgramFault
  if_made names x one two = Ok (statement_code.If x one.0 two.0, names, two.1)

  abbrev if_second : Names → Body → TruthCode → Block → Result Made ProgramFault
  if_second names second x one = in_sequence (resolved_body names one.1 [] second) (if_made names x one)

  abbrev if_first : Names → Frame → Body → Body → TruthCode × Accesses → Result Made ProgramFault
  if_first names frame first second condition = in_sequence (resolved_body names (with_accesses condition.1 frame) [] first) (if_second names second condition.0)

  abbrev while_made : Names → Place → TruthCode → Block → Result Made ProgramFault
  while_made names place x block = Ok (statement_code.While place x block.0, names, block.1)

  abbrev while_body : Names → Frame → Place → Body → TruthCode × Accesses → Result Made ProgramFault
  while_body names frame place body condition = in_sequence (resolved_body names (with_accesses condition.1 frame) [] body) (while_made names place condition.0)

  abbrev for_operand : Names → Frame → List ℕ → Place → SetName → Place → Body → TypedCode × Accesses → Result Made ProgramFault
  for_operand names frame name at set set_at body operand =
      in_sequence (element_with_set set set_at operand.0) (for_declared names frame name at set set_at body operand.1 (resolution_of names name))

  mutual
    pub statement_code_of : (s : Statement) (names : Names) (frame : Frame) → IfOk (IsStatementCode names frame s) (resolved_statement names frame s)
    statement_code_of (Var place name at init) names frame = var_code names frame place name at init
    statement_code_of (Val place name at init) names frame = val_code names frame place name at init
    statement_code_of (Assign place name (Some target) how value) names frame =
        assignment_code names frame (Assign place name (Some target) how value) (resolved_field_assignment names frame place how target value (resolution_of names name))
        (field_assignment_code names frame place name target how value (resolution_of names name) refl)
    statement_code_of (Assign place name None how value) names frame =
        assignment_code names frame (Assign place name None how value) (resolved_assignment names frame place how value (resolution_of names name))
        (name_assignment_code names frame place name how value (resolution_of names name) refl)
    statement_code_of (If place test first second has_else) names frame =
        ok_then (IsTruthCode names frame.accesses test) (IsStatementCode names frame (If place test first second has_else)) (resolved_truth names frame.accesses test) (if_first names frame first second)
        (truth_code names frame.accesses test) (λ condition h.
        ok_then (IsBodyCode names (with_accesses condition.1 frame) [] first) (IsStatementCode names frame (If place test first second has_else)) (resolved_body names (with_accesses condition.1 frame) [] first)
        (if_second names second condition.0) (body_code_of first names (with_accesses condition.1 frame) []) (λ one f.
        ok_then (IsBodyCode names one.1 [] second) (IsStatementCode names frame (If place test first second has_else)) (resolved_body names one.1 [] second) (if_made names condition.0 one)
        (body_code_of second names one.1 []) (λ two g. if_follows names frame place test first second has_else condition.0 condition.1 one two h f g)))
    statement_code_of (While place test body) names frame =
        ok_then (IsTruthCode names frame.accesses test) (IsStatementCode names frame (While place test body)) (resolved_truth names frame.accesses test) (while_body names frame place body)
        (truth_code names frame.accesses test) (λ condition h.
        ok_then (IsBodyCode names (with_accesses condition.1 frame) [] body) (IsStatementCode names frame (While place test body)) (resolved_body names (with_accesses condition.1 frame) [] body)
        (while_made names place condition.0) (body_code_of body names (with_accesses condition.1 frame) [])
        (λ block f. while_follows names frame place test body condition.0 condition.1 block h f))
    statement_code_of (For place name at set set_at arg body) names frame =
        ok_then (IsCode c names arg frame.accesses) (IsStatementCode names frame (For place name at set set_at arg body)) (resolved_expression names frame.accesses arg) (for_operand names frame name at set set_at body)
        (expression_code c names frame.accesses arg) (λ operand h.
        set_operand_code names frame place name at set set_at arg body (λ names frame. body_code_of body names frame []) operand.0 operand.1 h (resolution_of names name) refl)

    pub body_code_of : (body : Body) (names : Names) (frame : Frame) (done : List StatementCode) → IfOk (IsBodyCode names frame done body) (resolved_body names frame done body)
    body_code_of no_statement names frame done = no_more names frame done
    body_code_of (statement s rest) names frame done =
        ok_then (IsStatementCode names frame s) (IsBodyCode names frame done (statement s rest)) (resolved_statement names frame s) (λ next. resolved_body next.1 next.2 (done ++ next.0 ∷ []) rest)
        (statement_code_of s names frame) (λ next h.
        ok_weaken (IsBodyCode next.1 next.2 (done ++ next.0 ∷ []) rest) (IsBodyCode names frame done (statement s rest)) (resolved_body next.1 next.2 (done ++ next.0 ∷ []) rest)
        (body_code_of rest next.1 next.2 (done ++ next.0 ∷ [])) (λ r g. body_then names frame done s rest next r h g))
