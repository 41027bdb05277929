-- The meaning of comprehensions and of programs, and the path of a run. This project's own profile after Liszt (DeVito et al.,
-- Supercomputing 2011).
use Rattle.std.specs.Prelude.{ℕ, ◌-◌, nat_lt, Bool, Option, Some, None, List, [], ◌∷◌, ◌++◌, length, drop, reverse, replicate, ℤ, Result, Ok, Err}
use Rattle.std.specs.List.{filter_map}
use Rattle.liszt_base.specs.Limits.{print_limit}
use Rattle.liszt_base.specs.MeshLists.{MeshLists}
use Rattle.liszt_base.specs.declared.answers.Place.{Place}
use Rattle.liszt_base.specs.declared.answers.RunEnd.{RunEnd}
use Rattle.liszt_base.specs.declared.answers.TrapKind.TheVariants.{Spent, Prints}
use Rattle.liszt_tree.specs.declared.tree.How.{How}
use Rattle.liszt_tree.specs.Tree.{Expression, MainItem, MainField, MainVar, MainAssign, MainIf, MainWhile, MainFor, Print, Main, no_item, item}
use Rattle.mesh_topology.specs.Elements.{count, numbers}
use Rattle.phase_types.specs.Environments.{Binding, ScalarName, binding_of, Comprehension, Site, start, next_field, next_scalar, next_comprehension, next_scope, comprehension_at, block_start, after_block, has_else_block, after_item, after_main}
use Rattle.kernel_eval.specs.Outcomes.{Stop, Outcome, Computation, Done, pure, halt, modify, skip, ◌>>=◌, ◌>>◌, if_then_else, for_each, Turns, loop}
use Rattle.kernel_eval.specs.States.{Fields, State, scalar_value, with_scalar_value, EvaluationState, main_evaluation}
use Rattle.kernel_eval.specs.Meaning.{trap, no_meaning, assigned_value, number_in, truth_in}
use Rattle.kernel_eval.specs.Iterations.{iteration, end_of}

-- ITERATIONS of a list of ids, each from the state after the previous one and with turns of its own, up to the first stop; and
-- A COMPREHENSION: its iterations by ascending id
abbrev pub after_iteration : MeshLists → Comprehension → ℕ → ℕ → Computation State Done
after_iteration mesh c turns id s =
    let outcome : Outcome EvaluationState Done = iteration mesh c turns s id in
    record { after = record outcome.after.state { turns = s.turns }; answer = outcome.answer }

abbrev pub iterations : MeshLists → Comprehension → ℕ → List ℕ → Computation State Done
iterations mesh c turns ids = for_each (after_iteration mesh c turns) ids

abbrev pub comprehension : MeshLists → Comprehension → ℕ → Computation State Done
comprehension mesh c turns = iterations mesh c turns (numbers 0 (count mesh c.over))

-- after a stop the state is the one at entry
abbrev pub restored_outcome : {A : Type 0} → State → State → Result A Stop → Outcome State A
restored_outcome before after (Ok value) = pure value after
restored_outcome before after (Err stop) = halt stop before

abbrev pub all_or_nothing : {A : Type 0} → (State → Outcome State A) → State → Outcome State A
all_or_nothing computation s = restored_outcome s (computation s).after (computation s).answer

-- THE PATH of a run: scopes opened and closed, fields declared with their values, comprehensions reached, and the end, each with the state
-- there: after an opening, a declaration or a closing, and before a comprehension
pub data Event : Type 0 where
  ScopeOpened : ℕ → Event
  ScopeClosed : ℕ → Event
  FieldDeclared : ℕ → ℤ → Event
  ComprehensionReached : ℕ → Event
  RunEnded : RunEnd → Event

pub record Entry : Type 0 where
  pub event : Event
  pub state : State

pub record Progress : Type 0 where
  pub state : State
  pub path : List Entry

-- a path before that of a run so far
abbrev pub with_earlier_path : List Entry → Progress → Progress
with_earlier_path path p = record p { path = path ++ p.path }

abbrev pub log_event : Event → Computation Progress Done
log_event event = modify (λ p. record p { path = p.path ++ record { event = event; state = p.state } ∷ [] })

-- a computation on the state; an expression of the main program
abbrev pub lift_state : {A : Type 0} → (State → Outcome State A) → Progress → Outcome Progress A
lift_state computation p = record { after = record p { state = (computation p.state).after }; answer = (computation p.state).answer }

abbrev pub run_in_main : {A : Type 0} → (EvaluationState → Outcome EvaluationState A) → State → Outcome State A
run_in_main computation s = record { after = (computation (main_evaluation s)).after.state; answer = (computation (main_evaluation s)).answer }

abbrev pub in_program : {A : Type 0} → (EvaluationState → Outcome EvaluationState A) → Progress → Outcome Progress A
in_program computation = lift_state (run_in_main computation)

abbrev pub number_at : MeshLists → Site → Expression → Computation Progress ℤ
number_at mesh site e = in_program (number_in mesh site.environment e)

abbrev pub truth_at : MeshLists → Site → Expression → Computation Progress Bool
truth_at mesh site e = in_program (truth_in mesh site.environment e)

-- DECLARATIONS: a field with one value for each of its elements, and a scalar
abbrev pub with_field : ℕ → ℕ → ℤ → State → State
with_field number elements n s = record s { fields = (number, replicate elements n) ∷ s.fields }

abbrev pub with_scalar : ℕ → ℤ → State → State
with_scalar number n s = record s { scalars = (number, n) ∷ s.scalars }

abbrev pub modify_state : (State → State) → Computation Progress Done
modify_state change = lift_state (modify change)

-- assignments to scalars
abbrev pub assign_main_scalar : How → ℤ → ℕ → Option ℤ → Computation Progress Done
assign_main_scalar how n number (Some old) = modify_state (with_scalar_value number (assigned_value how old n))
assign_main_scalar how n number None = in_program no_meaning

abbrev pub assign_main_name : How → ℤ → Option Binding → Computation Progress Done
assign_main_name how n (Some (ScalarName number)) = λ p. assign_main_scalar how n number (scalar_value p.state number) p
assign_main_name how n _ = in_program no_meaning

abbrev pub print_number : Place → ℤ → Computation Progress Done
print_number place n p =
    if_then_else (nat_lt (length p.state.prints) print_limit) (modify_state (λ s. record s { prints = s.prints ++ n ∷ [] })) (in_program (trap Prints place)) p

-- SCOPES: the declarations in a scope end with it
abbrev pub after_scope : State → State → State
after_scope before s =
    record s {
      fields = drop (length s.fields - length before.fields) s.fields;
      scalars = drop (length s.scalars - length before.scalars) s.scalars;
    }

abbrev pub in_scope : ℕ → Computation Progress Done → Computation Progress Done
in_scope number block p =
    (log_event (ScopeOpened number) >> block >> modify_state (after_scope p.state) >> log_event (ScopeClosed number)) p

abbrev pub program_turns : Turns Progress
program_turns = record { remaining = λ p. p.state.turns; set_remaining = λ n p. record p { state = record p.state { turns = n } } }

-- ITEMS and the main program; each iteration of a comprehension has `turns` turns
abbrev mutual
  pub item_meaning : MeshLists → ℕ → Site → MainItem → Computation Progress Done
  item_meaning mesh turns site (MainField place name at kind init) =
      number_at mesh site init >>= λ n.
      modify_state (with_field (next_field site) (count mesh kind) n) >> log_event (FieldDeclared (next_field site) n)
  item_meaning mesh turns site (MainVar place name at init) = number_at mesh site init >>= λ n. modify_state (with_scalar (next_scalar site) n)
  item_meaning mesh turns site (MainAssign place name how value) = number_at mesh site value >>= λ n. assign_main_name how n (binding_of site.environment name)
  item_meaning mesh turns site (MainIf place test first second has_else) =
      let after_first : Site = after_block site (after_main (block_start site) first) in
      truth_at mesh site test >>= λ b. if_then_else b
      (in_scope (next_scope site) (main_meaning mesh turns (block_start site) first))
      (if_then_else (has_else_block second has_else) (in_scope (next_scope after_first) (main_meaning mesh turns (block_start after_first) second)) skip)
  item_meaning mesh turns site (MainWhile place test body) =
      loop program_turns (in_program (trap Spent place)) (truth_at mesh site test)
      (in_scope (next_scope site) (main_meaning mesh turns (block_start site) body))
  item_meaning mesh turns site (MainFor place name at over body) =
      log_event (ComprehensionReached (next_comprehension site)) >> lift_state (all_or_nothing (comprehension mesh (comprehension_at site name over body) turns))
  item_meaning mesh turns site (Print place value) = number_at mesh site value >>= λ n. print_number place n

  pub main_meaning : MeshLists → ℕ → Site → Main → Computation Progress Done
  main_meaning mesh turns site no_item = skip
  main_meaning mesh turns site (item i rest) = item_meaning mesh turns site i >> main_meaning mesh turns (after_item site i) rest

-- A RUN from the empty state, with `turns` turns for the main program and for each iteration. Scope 0 is opened first and never closed.
abbrev pub empty : ℕ → State
empty turns = record { fields = []; scalars = []; prints = []; turns = turns }

abbrev pub run : MeshLists → Main → ℕ → Outcome Progress Done
run mesh program turns = (log_event (ScopeOpened 0) >> main_meaning mesh turns start program) (record { state = empty turns; path = [] })

abbrev pub prints_of : MeshLists → Main → ℕ → List ℤ
prints_of mesh program turns = (run mesh program turns).after.state.prints

abbrev pub run_end : MeshLists → Main → ℕ → Option RunEnd
run_end mesh program turns = end_of (run mesh program turns).answer

-- the fields of the outermost scope in the order of the text, if the run is done
abbrev pub outermost_fields : {A : Type 0} → Result A Stop → State → Option Fields
outermost_fields (Ok value) s = Some (reverse s.fields)
outermost_fields (Err stop) s = None

abbrev pub fields_left : MeshLists → Main → ℕ → Option Fields
fields_left mesh program turns = outermost_fields (run mesh program turns).answer (run mesh program turns).after.state

abbrev pub end_entry : Option RunEnd → State → List Entry
end_entry None s = []
end_entry (Some ending) s = record { event = RunEnded ending; state = s } ∷ []

abbrev pub path_of : MeshLists → Main → ℕ → List Entry
path_of mesh program turns = (run mesh program turns).after.path ++ end_entry (run_end mesh program turns) (run mesh program turns).after.state

-- PHASES: the comprehensions reached, each by its number in the text, with the state before it
abbrev pub phase_at : Entry → Option (ℕ × State)
phase_at entry = of_event entry.event where
  of_event : Event → Option (ℕ × State)
  of_event (ComprehensionReached k) = Some (k, entry.state)
  of_event _ = None

abbrev pub phases_of : MeshLists → Main → ℕ → List (ℕ × State)
phases_of mesh program turns = filter_map phase_at (run mesh program turns).after.path
