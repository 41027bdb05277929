-- The main program preserves a relation that each of its single changes of the state preserves: one induction over items and blocks.
use Rattle.std.proofs.Common.{◌≡◌, ℕ, suc, ◌≤◌, nat_lt, length, ◌++◌, [], ◌∷◌, refl, arith}
use Rattle.std.specs.Prelude.{Option, Some, None, ℤ, Result, Ok, Err}
use Rattle.liszt_base.specs.MeshLists.{MeshLists}
use Rattle.liszt_base.specs.declared.answers.Place.{Place}
use Rattle.liszt_base.specs.declared.answers.TrapKind.{TrapKind}
use Rattle.liszt_base.specs.declared.answers.TrapKind.TheVariants.{Prints, Spent}
use Rattle.liszt_base.specs.Limits.{print_limit}
use Rattle.liszt_tree.specs.declared.tree.How.{How}
use Rattle.liszt_tree.specs.Tree.{Expression, MainItem, MainField, MainVar, MainAssign, MainIf, MainWhile, MainFor, Print, Main, no_item, item}
use Rattle.mesh_topology.specs.Elements.{count, numbers}
use Rattle.phase_types.specs.Environments.{Environment, Binding, ScalarName, binding_of, Comprehension, Site, next_field, next_scalar, next_scope, next_comprehension, comprehension_at, block_start, has_else_block, after_item}
use Rattle.kernel_eval.specs.Preservation.{Preserves}
use Rattle.kernel_eval.specs.Meaning.{assigned_value, no_meaning, trap, number_in, truth_in}
use Rattle.kernel_eval.specs.Outcomes.{Stop, Outcome, continue_with, and_then}
use Rattle.kernel_eval.specs.States.{State, scalar_value, with_scalar_value, main_evaluation}
use Rattle.kernel_eval.proofs.ComputationLemmas.{IsPreorder, keeps_then, keeps_if, skip_keeps, keeps_loop}
use Rattle.kernel_eval.proofs.PreservationLemmas.{keeps_number_in, keeps_truth_in}
use Rattle.kernel_eval.proofs.ActLemmas.{turns_kept}
use Rattle.seq_meaning.specs.Runs.{Event, FieldDeclared, ScopeOpened, ScopeClosed, ComprehensionReached, Progress, log_event, lift_state, in_program, number_at, truth_at, with_field, with_scalar, modify_state, assign_main_scalar, assign_main_name, print_number, after_scope, in_scope, program_turns, after_iteration, comprehension, restored_outcome, all_or_nothing, item_meaning, main_meaning}
use Rattle.seq_meaning.proofs.IterationLemmas.{for_each_unchanged}

pub record IsStateKept (R : State → State → Type 0) : Type 0 where
  pub same : (s : State) → R s s
  pub later : (a b c : State) → R a b → R b c → R a c
  pub field : (number elements : ℕ) (n : ℤ) (s : State) → R s (with_field number elements n s)
  pub scalar : (number : ℕ) (n : ℤ) (s : State) → R s (with_scalar number n s)
  pub scalar_changed : (number : ℕ) (n : ℤ) (s : State) → R s (with_scalar_value number n s)
  pub print : (n : ℤ) (s : State) → R s (record s { prints = s.prints ++ n ∷ [] })
  pub scope : (before s : State) → R before s → R before (after_scope before s)
  pub turn : (n : ℕ) (s : State) → s.turns ≡ suc n → R s (record s { turns = n })
  pub number : (mesh : MeshLists) (environment : Environment) (e : Expression) (s : State) → R s (number_in mesh environment e (main_evaluation s)).after.state
  pub truth : (mesh : MeshLists) (environment : Environment) (e : Expression) (s : State) → R s (truth_in mesh environment e (main_evaluation s)).after.state
  pub over : (mesh : MeshLists) (c : Comprehension) (turns : ℕ) (s : State) → R s (comprehension mesh c turns s).after

module _ {R : State → State → Type 0} (k : IsStateKept R) where
  abbrev pub OfStates : Progress → Progress → Type 0
  OfStates p after = R p.state after.state

  leads : IsPreorder OfStates
  leads = record { same = λ p. k.same p.state; later = λ a b c r s. k.later a.state b.state c.state r s }

  -- single steps
  log_event_keeps : (event : Event) → Preserves OfStates (log_event event)
  log_event_keeps event = record { preserved = λ p. k.same p.state }

  no_meaning_keeps : {A : Type 0} → Preserves OfStates (in_program (no_meaning {A = A}))
  no_meaning_keeps = record { preserved = λ p. k.same p.state }

  traps_keep : {A : Type 0} (kind : TrapKind) (place : Place) → Preserves OfStates (in_program (trap {A = A} kind place))
  traps_keep kind place = record { preserved = λ p. k.same p.state }

  number_keeps : (mesh : MeshLists) (site : Site) (e : Expression) → Preserves OfStates (number_at mesh site e)
  number_keeps mesh site e = record { preserved = λ p. k.number mesh site.environment e p.state }

  pub truth_keeps : (mesh : MeshLists) (site : Site) (e : Expression) → Preserves OfStates (truth_at mesh site e)
  truth_keeps mesh site e = record { preserved = λ p. k.truth mesh site.environment e p.state }

  scalar_keeps : (how : How) (n : ℤ) (number : ℕ) (value : Option ℤ) → Preserves OfStates (assign_main_scalar how n number value)
  scalar_keeps how n number (Some old) = record { preserved = λ p. k.scalar_changed number (assigned_value how old n) p.state }
  scalar_keeps how n number None = no_meaning_keeps

  name_keeps : (how : How) (n : ℤ) (global : Option Binding) → Preserves OfStates (assign_main_name how n global)
  name_keeps how n (Some (ScalarName number)) = record { preserved = λ p. (scalar_keeps how n number (scalar_value p.state number)).preserved p }
  name_keeps how n _ = no_meaning_keeps

  print_keeps : (n : ℤ) → Preserves OfStates (modify_state (λ s. record s { prints = s.prints ++ n ∷ [] }))
  print_keeps n = record { preserved = λ p. k.print n p.state }

  print_number_keeps : (place : Place) (n : ℤ) → Preserves OfStates (print_number place n)
  print_number_keeps place n = record {
    preserved = λ p. (keeps_if (nat_lt (length p.state.prints) print_limit) (print_keeps n) (traps_keep Prints place)).preserved p;
  }

  declared_keeps : (number elements : ℕ) (n : ℤ) → Preserves OfStates (modify_state (with_field number elements n))
  declared_keeps number elements n = record { preserved = λ p. k.field number elements n p.state }

  variable_keeps : (number : ℕ) (n : ℤ) → Preserves OfStates (modify_state (with_scalar number n))
  variable_keeps number n = record { preserved = λ p. k.scalar number n p.state }

  scope_end : (before after : Progress) → OfStates before after → (answer : Result (Unit {0}) Stop)
      → OfStates before (continue_with (λ done. modify_state (after_scope before.state)) after answer).after
  scope_end before after r (Ok done) = k.scope before.state after.state r
  scope_end before after r (Err stop) = r

  pub scope_keeps : {block : Progress → Outcome Progress (Unit {0})} (number : ℕ) → Preserves OfStates block → Preserves OfStates (in_scope number block)
  scope_keeps {block = block} number h = record {
    preserved = λ p. k.later p.state _ _
        (scope_end p (and_then (log_event (ScopeOpened number)) (λ done. block) p).after ((keeps_then leads (log_event_keeps (ScopeOpened number)) (λ done. h)).preserved p)
        (and_then (log_event (ScopeOpened number)) (λ done. block) p).answer)
        ((keeps_go (ScopeClosed number)) _ _);
  } where
    keeps_go : (event : Event) (s : Progress) (answer : Result (Unit {0}) Stop)
        → OfStates s (continue_with (λ done. log_event event) s answer).after
    keeps_go event s (Ok done) = k.same s.state
    keeps_go event s (Err stop) = k.same s.state

  restored_outcome_keeps : (before after : State) (answer : Result (Unit {0}) Stop) → R before after → R before (restored_outcome before after answer).after
  restored_outcome_keeps before after (Ok done) r = r
  restored_outcome_keeps before after (Err stop) r = k.same before

  comprehension_keeps : (mesh : MeshLists) (c : Comprehension) (turns : ℕ) → Preserves OfStates (lift_state (all_or_nothing (comprehension mesh c turns)))
  comprehension_keeps mesh c turns = record {
    preserved = λ p. restored_outcome_keeps p.state (comprehension mesh c turns p.state).after (comprehension mesh c turns p.state).answer (k.over mesh c turns p.state);
  }

  take_turn_ends : (n : ℕ) (p : Progress) → p.state.turns ≡ suc n → OfStates p (record p { state = record p.state { turns = n } })
  take_turn_ends n p e = k.turn n p.state e

  -- items
  mutual
    item_keeps : (mesh : MeshLists) (turns : ℕ) (site : Site) (i : MainItem) → Preserves OfStates (item_meaning mesh turns site i)
    item_keeps mesh turns site (MainField place name at kind init) =
        keeps_then leads (number_keeps mesh site init) (λ n. keeps_then leads (declared_keeps (next_field site) (count mesh kind) n)
        (λ done. log_event_keeps (FieldDeclared (next_field site) n)))
    item_keeps mesh turns site (MainVar place name at init) = keeps_then leads (number_keeps mesh site init) (λ n. variable_keeps (next_scalar site) n)
    item_keeps mesh turns site (MainAssign place name how value) =
        keeps_then leads (number_keeps mesh site value) (λ n. name_keeps how n (binding_of site.environment name))
    item_keeps mesh turns site (MainIf place test first second has_else) =
        keeps_then leads (truth_keeps mesh site test) (λ b. keeps_if b (scope_keeps (next_scope site) (main_keeps mesh turns (block_start site) first))
        (keeps_if (has_else_block second has_else) (scope_keeps _ (main_keeps mesh turns _ second)) (skip_keeps leads)))
    item_keeps mesh turns site (MainWhile place test body) =
        keeps_loop leads program_turns take_turn_ends (traps_keep Spent place) (truth_keeps mesh site test)
        (scope_keeps (next_scope site) (main_keeps mesh turns (block_start site) body))
    item_keeps mesh turns site (MainFor place name at over body) =
        keeps_then leads (log_event_keeps (ComprehensionReached (next_comprehension site))) (λ done. comprehension_keeps mesh (comprehension_at site name over body) turns)
    item_keeps mesh turns site (Print place value) = keeps_then leads (number_keeps mesh site value) (λ n. print_number_keeps place n)

    pub main_keeps : (mesh : MeshLists) (turns : ℕ) (site : Site) (program : Main) → Preserves OfStates (main_meaning mesh turns site program)
    main_keeps mesh turns site no_item = skip_keeps leads
    main_keeps mesh turns site (item i rest) = keeps_then leads (item_keeps mesh turns site i) (λ done. main_keeps mesh turns (after_item site i) rest)

-- TURNS do not increase
abbrev pub Fewer : State → State → Type 0
Fewer s after = after.turns ≤ s.turns

pub fewer_kept : IsStateKept Fewer
fewer_kept =
    record {
      same = λ s. omega arith;
      later = λ a b c r s. omega (arith, r, s);
      field = λ number elements n s. omega arith;
      scalar = λ number n s. omega arith;
      scalar_changed = λ number n s. omega arith;
      print = λ n s. omega arith;
      scope = λ before s r. r;
      turn = λ n s e. omega (arith, e);
      number = λ mesh environment e s. (keeps_number_in turns_kept mesh environment e (λ a t. tt {0})).preserved (main_evaluation s);
      truth = λ mesh environment e s. (keeps_truth_in turns_kept mesh environment e (λ a t. tt {0})).preserved (main_evaluation s);
      over = λ mesh c turns s. omega (arith, for_each_unchanged (λ s. s.turns) (after_iteration mesh c turns) (λ id s. refl) (numbers 0 (count mesh c.over)) s);
    }
