-- The main program does not read its path.
use Rattle.std.proofs.Common.{◌≡◌, ℕ, nat_lt, length, List, [], ◌∷◌, ◌++◌, refl}
use Rattle.std.proofs.lemmas.List.{append_assoc}
use Rattle.std.specs.Prelude.{Option, Some, None, ℤ}
use Rattle.liszt_base.specs.MeshLists.{MeshLists}
use Rattle.liszt_base.specs.declared.answers.Place.{Place}
use Rattle.liszt_base.specs.declared.answers.TrapKind.TheVariants.{Prints, Spent}
use Rattle.liszt_base.specs.Limits.{print_limit}
use Rattle.liszt_tree.specs.declared.tree.How.{How}
use Rattle.liszt_tree.specs.Tree.{Expression, MainItem, MainField, MainVar, MainAssign, MainIf, MainWhile, MainFor, Print, Main, no_item, item}
use Rattle.mesh_topology.specs.Elements.{count}
use Rattle.phase_types.specs.Environments.{Binding, ScalarName, binding_of, Site, next_field, next_scalar, next_scope, next_comprehension, comprehension_at, block_start, after_block, has_else_block, after_item, after_main}
use Rattle.kernel_eval.specs.Preservation.{Commutes}
use Rattle.kernel_eval.specs.Meaning.{number_in, truth_in, trap}
use Rattle.kernel_eval.specs.Outcomes.{Outcome}
use Rattle.kernel_eval.specs.States.{State, EvaluationState, scalar_value}
use Rattle.kernel_eval.proofs.CommutationLemmas.{changed, commutes_then, commutes_if, skip_commutes, commutes_loop}
use Rattle.seq_meaning.specs.Runs.{Event, FieldDeclared, ScopeOpened, ScopeClosed, ComprehensionReached, Entry, Progress, with_earlier_path, log_event, lift_state, in_program, number_at, truth_at, with_field, with_scalar, modify_state, assign_main_scalar, assign_main_name, print_number, after_scope, in_scope, program_turns, comprehension, all_or_nothing, item_meaning, main_meaning}

module _ (path : List Entry) where
  abbrev earlier : Progress → Progress
  earlier p = with_earlier_path path p

  pub event_commutes : (event : Event) → Commutes earlier (log_event event)
  event_commutes event = record { commuted = λ p. rw (append_assoc path p.path (record { event = event; state = p.state } ∷ [])) refl }

  pub state_commutes : {A : Type 0} (computation : State → Outcome State A) → Commutes earlier (lift_state computation)
  state_commutes computation = record { commuted = λ p. refl }

  program_commutes : {A : Type 0} (computation : EvaluationState → Outcome EvaluationState A) → Commutes earlier (in_program computation)
  program_commutes computation = record { commuted = λ p. refl }

  number_commutes : (mesh : MeshLists) (site : Site) (e : Expression) → Commutes earlier (number_at mesh site e)
  number_commutes mesh site e = program_commutes (number_in mesh site.environment e)

  truth_commutes : (mesh : MeshLists) (site : Site) (e : Expression) → Commutes earlier (truth_at mesh site e)
  truth_commutes mesh site e = program_commutes (truth_in mesh site.environment e)

  pub change_commutes : (change : State → State) → Commutes earlier (modify_state change)
  change_commutes change = record { commuted = λ p. refl }

  scalar_commutes : (how : How) (n : ℤ) (number : ℕ) (value : Option ℤ) (p : Progress)
      → assign_main_scalar how n number value (earlier p) ≡ changed earlier (assign_main_scalar how n number value p)
  scalar_commutes how n number (Some old) p = refl
  scalar_commutes how n number None p = refl

  name_commutes : (how : How) (n : ℤ) (global : Option Binding) → Commutes earlier (assign_main_name how n global)
  name_commutes how n (Some (ScalarName number)) = record { commuted = λ p. scalar_commutes how n number (scalar_value p.state number) p }
  name_commutes how n _ = record { commuted = λ p. refl }

  print_commutes : (place : Place) (n : ℤ) → Commutes earlier (print_number place n)
  print_commutes place n = record {
    commuted = λ p. (commutes_if {change = earlier} (nat_lt (length p.state.prints) print_limit) (change_commutes (λ s. record s { prints = s.prints ++ n ∷ [] }))
        (program_commutes (trap Prints place))).commuted p;
  }

  scope_commutes : (number : ℕ) {block : Progress → Outcome Progress (Unit {0})} → Commutes earlier block → Commutes earlier (in_scope number block)
  scope_commutes number h = record {
    commuted = λ p. (commutes_then (commutes_then (commutes_then (event_commutes (ScopeOpened number)) (λ done. h)) (λ done. change_commutes (after_scope p.state)))
        (λ done. event_commutes (ScopeClosed number))).commuted p;
  }

  abbrev after_first : Site → Main → Site
  after_first site first = after_block site (after_main (block_start site) first)

  mutual
    item_commutes : (mesh : MeshLists) (turns : ℕ) (site : Site) (i : MainItem) → Commutes earlier (item_meaning mesh turns site i)
    item_commutes mesh turns site (MainField place name at kind init) =
        commutes_then (number_commutes mesh site init) (λ n. commutes_then (change_commutes (with_field (next_field site) (count mesh kind) n))
        (λ done. event_commutes (FieldDeclared (next_field site) n)))
    item_commutes mesh turns site (MainVar place name at init) = commutes_then (number_commutes mesh site init) (λ n. change_commutes (with_scalar (next_scalar site) n))
    item_commutes mesh turns site (MainAssign place name how value) =
        commutes_then (number_commutes mesh site value) (λ n. name_commutes how n (binding_of site.environment name))
    item_commutes mesh turns site (MainIf place test first second has_else) =
        commutes_then (truth_commutes mesh site test) (λ b. commutes_if b (scope_commutes (next_scope site) (main_commutes mesh turns (block_start site) first))
        (commutes_if (has_else_block second has_else) (scope_commutes (next_scope (after_first site first)) (main_commutes mesh turns (block_start (after_first site first)) second)) skip_commutes))
    item_commutes mesh turns site (MainWhile place test body) =
        commutes_loop program_turns (λ p. refl) (λ n p. refl) (program_commutes (trap Spent place)) (truth_commutes mesh site test)
        (scope_commutes (next_scope site) (main_commutes mesh turns (block_start site) body))
    item_commutes mesh turns site (MainFor place name at over body) =
        commutes_then (event_commutes (ComprehensionReached (next_comprehension site)))
        (λ done. state_commutes (all_or_nothing (comprehension mesh (comprehension_at site name over body) turns)))
    item_commutes mesh turns site (Print place value) = commutes_then (number_commutes mesh site value) (λ n. print_commutes place n)

    pub main_commutes : (mesh : MeshLists) (turns : ℕ) (site : Site) (program : Main) → Commutes earlier (main_meaning mesh turns site program)
    main_commutes mesh turns site no_item = skip_commutes
    main_commutes mesh turns site (item i rest) = commutes_then (item_commutes mesh turns site i) (λ done. main_commutes mesh turns (after_item site i) rest)
