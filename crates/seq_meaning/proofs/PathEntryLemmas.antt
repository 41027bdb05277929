-- Each entry of the path of a typed program fits it: at each site the state fits the environment, and the numbers of its fields are below the next one.
use Rattle.std.proofs.Common.{◌≡◌, ℕ, ◌≤◌, nat_lt, length, Bool, true, false, List, [], ◌∷◌, ◌++◌, refl, sym, ap, subst, ◌∙◌, arith}
use Rattle.std.proofs.lemmas.List.{append_assoc}
use Rattle.std.specs.List.{AllByRecursion}
use Rattle.std.specs.Prelude.{Option, Some, None, ℤ, Result, Ok, Err, slice_get, if◌then◌else◌}
use Rattle.liszt_base.specs.MeshLists.{MeshLists}
use Rattle.liszt_base.specs.declared.answers.Place.{Place}
use Rattle.liszt_base.specs.declared.answers.RunEnd.{RunEnd}
use Rattle.liszt_base.specs.declared.answers.RunEnd.TheVariants.{Done as IsDone}
use Rattle.liszt_base.specs.declared.answers.TrapKind.{TrapKind}
use Rattle.liszt_base.specs.declared.answers.TrapKind.TheVariants.{Prints, Spent}
use Rattle.liszt_base.specs.declared.elements.Kind.{Kind}
use Rattle.liszt_base.specs.Limits.{print_limit}
use Rattle.liszt_tree.specs.declared.tree.How.{How}
use Rattle.liszt_tree.specs.Tree.{Expression, MainItem, MainIf, MainWhile, MainFor, Main}
use Rattle.mesh_topology.specs.Elements.{count, numbers}
use Rattle.phase_types.specs.Environments.{Binding, ScalarName, binding_of, ComprehensionPart, ScalarPart, field_part, comprehension_part, comprehensions_in, parts_of, comprehension_of, Comprehension, Site, start, IsPrefix, next_field, next_scalar, next_comprehension, next_scope, with_field as field_site, with_scalar as scalar_site, with_comprehension, comprehension_at, block_start, after_block, has_else_block, after_item, after_main}
use Rattle.phase_types.specs.Typed.{ItemFits, FitsMainField, FitsMainVar, FitsMainAssign, FitsMainIf, FitsMainWhile, FitsMainFor, FitsPrint, MainFits, FitsNoItem, FitsItems, IsTyped}
use Rattle.phase_types.proofs.PartLemmas.{same_parts, next_part, prefix_of_prefix, item_is_prefix, main_is_prefix, part_at}
use Rattle.phase_types.proofs.StepLemmas.{all_of_both}
use Rattle.kernel_eval.specs.Fits.{StateFits}
use Rattle.kernel_eval.specs.Preservation.{Preserves}
use Rattle.kernel_eval.specs.Meaning.{assigned_value, no_meaning, trap}
use Rattle.kernel_eval.specs.Outcomes.{Stop, Trapped, NoMeaning, Outcome, continue_with, if_then_else, skip, loop}
use Rattle.kernel_eval.specs.States.{Fields, State, scalar_value, main_evaluation}
use Rattle.kernel_eval.specs.Iterations.{end_of}
use Rattle.kernel_eval.proofs.ActModeLemmas.{all_and_one}
use Rattle.kernel_eval.proofs.ComputationLemmas.{keeps_if}
use Rattle.kernel_eval.proofs.PreservationLemmas.{keeps_number_in, keeps_truth_in}
use Rattle.kernel_eval.proofs.ShapeLemmas.{shaped, shape, length_of, IsLike, like_itself, still_fits, map_update_shape, shapes_kept}
use Rattle.kernel_eval.proofs.TripleLemmas.{Meets, Triple, KeptBy, triple_then, triple_if, skip_triple, triple_loop}
use Rattle.seq_meaning.specs.Paths.{DescendBelow, DescendingFields, EntryFits}
use Rattle.seq_meaning.specs.Runs.{Event, Progress, ScopeOpened, ScopeClosed, FieldDeclared, ComprehensionReached, log_event, lift_state, in_program, number_at, truth_at, with_field, with_scalar, modify_state, assign_main_scalar, assign_main_name, print_number, after_scope, in_scope, program_turns, comprehension, restored_outcome, all_or_nothing, item_meaning, main_meaning, empty, run, run_end, end_entry, path_of}
use Rattle.seq_meaning.proofs.MainPreservationLemmas.{OfStates, main_keeps}
use Rattle.seq_meaning.proofs.StateShapeLemmas.{Grows, scope_like, over_like, grows_kept}
use Rattle.seq_meaning.proofs.TypedRunLemmas.{IsFresh, more_of, block_fresh, first_fresh, fresh_after, start_fresh, field_number, environment_after_if, field_fits, scalar_fits, start_fits}

-- NUMBERS that descend
below_more : (bound more : ℕ) (fields : Fields) → bound ≤ more → DescendBelow bound fields → DescendBelow more fields
below_more bound more [] l h = tt
below_more bound more (field ∷ fields) l h = (omega (arith, h.0, l), h.1)

descending : (bound : ℕ) (fields : Fields) → DescendBelow bound fields → DescendingFields fields
descending bound [] h = tt
descending bound (field ∷ fields) h = h.1

below_like : (bound : ℕ) (before after : Fields) → shape length_of after ≡ shape length_of before → DescendBelow bound before → DescendBelow bound after
below_like bound [] [] e h = tt
below_like bound (x ∷ before) (y ∷ after) e h =
    let first : shaped length_of y ≡ shaped length_of x = cc in
    let rest : shape length_of after ≡ shape length_of before = cc in
    let same : y.0 ≡ x.0 = ap (λ q. q.0) first in
    (omega (arith, same, h.0), below_like y.0 before after rest (subst (λ n. DescendBelow n before) (sym same) h.1))
below_like bound [] (y ∷ after) e h = absurd cc
below_like bound (x ∷ before) [] e h = absurd cc

-- A PROGRESS FITS at a site; and after a stop
record FitsAtSite (mesh : MeshLists) (program : Main) (site : Site) (p : Progress) : Type 0 where
  pub state_fits : StateFits mesh site.environment p.state
  pub below : DescendBelow (next_field site) p.state.fields
  pub entries : AllByRecursion (EntryFits mesh program) p.path

pub record HasFittingPath (mesh : MeshLists) (program : Main) (p : Progress) : Type 0 where
  pub fields : DescendingFields p.state.fields
  pub entries : AllByRecursion (EntryFits mesh program) p.path

-- a computation that declares nothing and logs no event
record KeepsParts (p after : Progress) : Type 0 where
  pub like : IsLike p.state after.state
  pub path : after.path ≡ p.path

number_keeps : (mesh : MeshLists) (site : Site) (e : Expression) → Preserves KeepsParts (number_at mesh site e)
number_keeps mesh site e = record {
  preserved = λ p. record { like = ((keeps_number_in shapes_kept mesh site.environment e (λ a t. tt)).preserved (main_evaluation p.state)).like; path = refl };
}

truth_keeps : (mesh : MeshLists) (site : Site) (e : Expression) → Preserves KeepsParts (truth_at mesh site e)
truth_keeps mesh site e = record {
  preserved = λ p. record { like = ((keeps_truth_in shapes_kept mesh site.environment e (λ a t. tt)).preserved (main_evaluation p.state)).like; path = refl };
}

traps_keep : {A : Type 0} (kind : TrapKind) (place : Place) → Preserves KeepsParts (in_program (trap {A = A} kind place))
traps_keep kind place = record { preserved = λ p. record { like = like_itself p.state; path = refl } }

no_meaning_keeps : Preserves KeepsParts (in_program (no_meaning {A = Unit {0}}))
no_meaning_keeps = record { preserved = λ p. record { like = like_itself p.state; path = refl } }

scalar_keeps : (how : How) (n : ℤ) (number : ℕ) (value : Option ℤ) → Preserves KeepsParts (assign_main_scalar how n number value)
scalar_keeps how n number (Some old) = record {
  preserved = λ p. record { like = record { fields = refl; scalars = map_update_shape _ (assigned_value how old n) p.state.scalars }; path = refl };
}
scalar_keeps how n number None = no_meaning_keeps

name_keeps : (how : How) (n : ℤ) (global : Option Binding) → Preserves KeepsParts (assign_main_name how n global)
name_keeps how n (Some (ScalarName number)) = record { preserved = λ p. (scalar_keeps how n number (scalar_value p.state number)).preserved p }
name_keeps how n _ = no_meaning_keeps

added_keeps : (n : ℤ) → Preserves KeepsParts (modify_state (λ s. record s { prints = s.prints ++ n ∷ [] }))
added_keeps n = record { preserved = λ p. record { like = record { fields = refl; scalars = refl }; path = refl } }

print_keeps : (place : Place) (n : ℤ) → Preserves KeepsParts (print_number place n)
print_keeps place n = record {
  preserved = λ p. (keeps_if (nat_lt (length p.state.prints) print_limit) (added_keeps n) (traps_keep Prints place)).preserved p;
}

over_keeps : (mesh : MeshLists) (c : Comprehension) (turns : ℕ) → Preserves KeepsParts (lift_state (all_or_nothing (comprehension mesh c turns)))
over_keeps mesh c turns = record {
  preserved = λ p. record {
    like = go p.state (comprehension mesh c turns p.state).after (comprehension mesh c turns p.state).answer (over_like mesh c turns (numbers 0 (count mesh c.over)) p.state);
    path = refl;
  };
} where
  go : (before after : State) (answer : Result (Unit {0}) Stop) → IsLike before after → IsLike before (restored_outcome before after answer).after
  go before after (Ok done) like = like
  go before after (Err stop) like = like_itself before

module _ (mesh : MeshLists) (turns : ℕ) (program : Main) where
  abbrev Fitting : Site → Progress → Type 0
  Fitting site = FitsAtSite mesh program site

  abbrev Stopped : Progress → Type 0
  Stopped = HasFittingPath mesh program

  stopped : (site : Site) (p : Progress) → Fitting site p → Stopped p
  stopped site p r = record { fields = descending (next_field site) p.state.fields r.below; entries = r.entries }

  still_fitting : (site : Site) (p after : Progress) → KeepsParts p after → Fitting site p → Fitting site after
  still_fitting site p after keeps r = record {
    state_fits = still_fits keeps.like r.state_fits;
    below = below_like (next_field site) p.state.fields after.state.fields keeps.like.fields r.below;
    entries = subst (AllByRecursion (EntryFits mesh program)) (sym keeps.path) r.entries;
  }

  kept : {A : Type 0} {computation : Progress → Outcome Progress A} (site : Site) → Preserves KeepsParts computation → KeptBy Stopped (Fitting site) computation
  kept {A = A} {computation = computation} site keeps = record {
    meets = λ p r. go (computation p).after (computation p).answer (still_fitting site p (computation p).after (keeps.preserved p) r);
  } where
    go : (after : Progress) (answer : Result A Stop) → Fitting site after → Meets (λ a. Fitting site) Stopped after answer
    go after (Ok a) r = r
    go after (Err stop) r = stopped site after r

  -- the same environment, with further parts
  fitting_later : (site there : Site) → there.environment ≡ site.environment → IsPrefix site.parts there.parts → (p : Progress) → Fitting site p → Fitting there p
  fitting_later site there same on p r = record {
    state_fits = subst (λ environment. StateFits mesh environment p.state) (sym same) r.state_fits;
    below = below_more (next_field site) (next_field there) p.state.fields (omega (arith, more_of field_part site.parts there.parts on)) r.below;
    entries = r.entries;
  }

  later : {computation : Progress → Outcome Progress (Unit {0})} (site there : Site) → there.environment ≡ site.environment → IsPrefix site.parts there.parts
      → KeptBy Stopped (Fitting site) computation → Triple (Fitting site) computation (λ done. Fitting there) Stopped
  later {computation = computation} site there same on h = record { meets = λ p r. go (computation p).after (computation p).answer (h.meets p r) } where
    go : (after : Progress) (answer : Result (Unit {0}) Stop) → Meets (λ done. Fitting site) Stopped after answer → Meets (λ done. Fitting there) Stopped after answer
    go after (Ok done) r = fitting_later site there same on after r
    go after (Err stop) r = r

  -- EVENTS
  event_meets : (site : Site) (event : Event) → ((p : Progress) → Fitting site p → EntryFits mesh program (record { event = event; state = p.state }))
      → KeptBy Stopped (Fitting site) (log_event event)
  event_meets site event h = record {
    meets = λ p r. record { state_fits = r.state_fits; below = r.below; entries = all_and_one (EntryFits mesh program) p.path _ r.entries (h p r) };
  }

  is_no_phase : (site : Site) (event : Event) → ((k : ℕ) → event ≡ ComprehensionReached k → ⊥) → (p : Progress) → Fitting site p
      → EntryFits mesh program (record { event = event; state = p.state })
  is_no_phase site event other p r = record { fields = (stopped site p r).fields; phase = λ k e. absurd (other k e) }

  opened_meets : (site : Site) (number : ℕ) → KeptBy Stopped (Fitting site) (log_event (ScopeOpened number))
  opened_meets site number = event_meets site (ScopeOpened number) (is_no_phase site (ScopeOpened number) (λ k e. cc))

  closed_meets : (site : Site) (number : ℕ) → KeptBy Stopped (Fitting site) (log_event (ScopeClosed number))
  closed_meets site number = event_meets site (ScopeClosed number) (is_no_phase site (ScopeClosed number) (λ k e. cc))

  field_event_meets : (site : Site) (number : ℕ) (n : ℤ) → KeptBy Stopped (Fitting site) (log_event (FieldDeclared number n))
  field_event_meets site number n = event_meets site (FieldDeclared number n) (is_no_phase site (FieldDeclared number n) (λ k e. cc))

  found : (site : Site) (c : Comprehension) → IsPrefix (with_comprehension c site).parts (parts_of program) → comprehension_of program (next_comprehension site) ≡ Some c
  found site c on =
      ap (λ parts. slice_get (comprehensions_in parts) (next_comprehension site)) (on.appended ∙ append_assoc site.parts (ComprehensionPart c ∷ []) on.rest)
      ∙ part_at comprehension_part site.parts on.rest (ComprehensionPart c) c refl

  reached_meets : (site : Site) (c : Comprehension) → c.environment ≡ site.environment → IsPrefix (with_comprehension c site).parts (parts_of program)
      → KeptBy Stopped (Fitting site) (log_event (ComprehensionReached (next_comprehension site)))
  reached_meets site c same on = event_meets site (ComprehensionReached (next_comprehension site)) (λ p r. record {
    fields = (stopped site p r).fields;
    phase = λ k e.
        let number : next_comprehension site ≡ k = cc in
        (c, subst (λ k. comprehension_of program k ≡ Some c) number (found site c on), subst (λ environment. StateFits mesh environment p.state) (sym same) r.state_fits);
  })

  -- DECLARATIONS
  field_meets : (site : Site) (name : List ℕ) (kind : Kind) (n : ℤ) → IsFresh site
      → Triple (Fitting site) (modify_state (with_field (next_field site) (count mesh kind) n)) (λ done. Fitting (field_site name kind site)) Stopped
  field_meets site name kind n fresh = record {
    meets = λ p r. record {
      state_fits = field_fits mesh site name kind n p.state fresh r.state_fits;
      below = (omega (arith, field_number site name kind), r.below);
      entries = r.entries;
    };
  }

  scalar_meets : (site : Site) (name : List ℕ) (n : ℤ) → IsFresh site
      → Triple (Fitting site) (modify_state (with_scalar (next_scalar site) n)) (λ done. Fitting (scalar_site name site)) Stopped
  scalar_meets site name n fresh = record {
    meets = λ p r. record {
      state_fits = scalar_fits mesh site name n p.state fresh r.state_fits;
      below = below_more (next_field site) (next_field (scalar_site name site)) p.state.fields
          (omega (arith, more_of field_part site.parts (scalar_site name site).parts (next_part site.parts (ScalarPart name)))) r.below;
      entries = r.entries;
    };
  }

  -- SCOPES and loops
  scope_meets : (site inner last : Site) {block : Progress → Outcome Progress (Unit {0})} (number : ℕ) → inner.environment ≡ site.environment → IsPrefix site.parts inner.parts
      → Preserves (OfStates grows_kept) block → Triple (Fitting inner) block (λ done. Fitting last) Stopped → KeptBy Stopped (Fitting site) (in_scope number block)
  scope_meets site inner last {block = block} number same on keeps h = record {
    meets = λ p r. go p r (block (opened p)).after (block (opened p)).answer (keeps.preserved (opened p))
        (h.meets (opened p) (fitting_later site inner same on (opened p) ((opened_meets site number).meets p r)));
  } where
    opened : Progress → Progress
    opened p = (log_event (ScopeOpened number) p).after

    closed : Progress → Outcome Progress (Unit {0}) → Outcome Progress (Unit {0})
    closed p outcome = continue_with (λ done. log_event (ScopeClosed number)) outcome.after outcome.answer

    go : (p : Progress) → Fitting site p → (after : Progress) (answer : Result (Unit {0}) Stop) → Grows p.state after.state
        → Meets (λ done. Fitting last) Stopped after answer
        → Meets (λ done. Fitting site) Stopped (closed p (continue_with (λ done. modify_state (after_scope p.state)) after answer)).after
        (closed p (continue_with (λ done. modify_state (after_scope p.state)) after answer)).answer
    go p r after (Ok done) grows m = (closed_meets site number).meets (record after { state = after_scope p.state after.state }) (record {
      state_fits = still_fits (scope_like p.state after.state grows) r.state_fits;
      below = below_like (next_field site) p.state.fields (after_scope p.state after.state).fields (scope_like p.state after.state grows).fields r.below;
      entries = m.entries;
    })
    go p r after (Err stop) grows m = m

  loop_meets : (site : Site) (place : Place) {test : Progress → Outcome Progress Bool} {body : Progress → Outcome Progress (Unit {0})}
      → KeptBy Stopped (Fitting site) test → KeptBy Stopped (Fitting site) body → KeptBy Stopped (Fitting site) (loop program_turns (in_program (trap Spent place)) test body)
  loop_meets site place h g =
      triple_loop program_turns
      (λ n p r. still_fitting site p (record p { state = record p.state { turns = n } }) (record { like = record { fields = refl; scalars = refl }; path = refl }) r)
      (kept site (traps_keep Spent place)) h g

  -- the parts of the program after an `if`
  first_on : (b : Bool) (this other : Site) → IsPrefix other.parts this.parts → IsPrefix (if b then this else other).parts (parts_of program) → IsPrefix other.parts (parts_of program)
  first_on true this other further on = prefix_of_prefix further on
  first_on false this other further on = on

  else_meets : (b : Bool) (site this other : Site) {block : Progress → Outcome Progress (Unit {0})} → (IsPrefix this.parts (parts_of program) → KeptBy Stopped (Fitting site) block)
      → IsPrefix (if b then this else other).parts (parts_of program) → KeptBy Stopped (Fitting site) (if_then_else b block skip)
  else_meets true site this other h on = h on
  else_meets false site this other h on = skip_triple

  -- ITEMS
  mutual
    item_meets : {site : Site} {i : MainItem} → ItemFits site i → IsFresh site → IsPrefix (after_item site i).parts (parts_of program)
        → Triple (Fitting site) (item_meaning mesh turns site i) (λ done. Fitting (after_item site i)) Stopped
    item_meets {site = site} (FitsMainField {init = init} place name at kind h is) fresh on =
        triple_then (kept site (number_keeps mesh site init)) (λ n. triple_then (field_meets site name kind n fresh)
        (λ done. field_event_meets (field_site name kind site) (next_field site) n))
    item_meets {site = site} (FitsMainVar {init = init} place name at h is) fresh on =
        triple_then (kept site (number_keeps mesh site init)) (λ n. scalar_meets site name n fresh)
    item_meets {site = site} (FitsMainAssign {set_to = set_to} place name how is h) fresh on =
        triple_then (kept site (number_keeps mesh site set_to)) (λ n. kept site (name_keeps how n (binding_of site.environment name)))
    item_meets {site = site} (FitsMainIf {test = test} {first = first} {second = second} place has_else h f g) fresh on =
        let i : MainItem = MainIf place test first second has_else in
        let after_first : Site = after_block site (after_main (block_start site) first) in
        let after_second : Site = after_block site (after_main (block_start after_first) second) in
        let on_first : IsPrefix (after_main (block_start site) first).parts (parts_of program) =
        first_on (has_else_block second has_else) after_second after_first (prefix_of_prefix (next_part after_first.parts _) (main_is_prefix (block_start after_first) second)) on in
        later site (after_item site i) (environment_after_if site place test first second has_else) (item_is_prefix site i)
        (triple_then (kept site (truth_keeps mesh site test)) (λ b. triple_if b
        (scope_meets site (block_start site) (after_main (block_start site) first) (next_scope site) refl (next_part site.parts _)
        (main_keeps grows_kept mesh turns (block_start site) first) (main_meets f (block_fresh site fresh) on_first))
        (else_meets (has_else_block second has_else) site after_second after_first
        (λ on_second. scope_meets site (block_start after_first) (after_main (block_start after_first) second) (next_scope after_first) refl
        (prefix_of_prefix (prefix_of_prefix (next_part site.parts _) (main_is_prefix (block_start site) first)) (next_part after_first.parts _))
        (main_keeps grows_kept mesh turns (block_start after_first) second) (main_meets g (first_fresh site first fresh) on_second)) on)))
    item_meets {site = site} (FitsMainWhile {test = test} {body = body} place h f) fresh on =
        later site (after_item site (MainWhile place test body)) refl (item_is_prefix site (MainWhile place test body))
        (loop_meets site place (kept site (truth_keeps mesh site test))
        (scope_meets site (block_start site) (after_main (block_start site) body) (next_scope site) refl (next_part site.parts _)
        (main_keeps grows_kept mesh turns (block_start site) body) (main_meets f (block_fresh site fresh) on)))
    item_meets {site = site} (FitsMainFor {body = body} place name at over is h) fresh on =
        later site (after_item site (MainFor place name at over body)) refl (item_is_prefix site (MainFor place name at over body))
        (triple_then (reached_meets site (comprehension_at site name over body) refl on)
        (λ done. kept site (over_keeps mesh (comprehension_at site name over body) turns)))
    item_meets {site = site} (FitsPrint {value = value} place h) fresh on =
        triple_then (kept site (number_keeps mesh site value)) (λ n. kept site (print_keeps place n))

    main_meets : {site : Site} {rest : Main} → MainFits site rest → IsFresh site → IsPrefix (after_main site rest).parts (parts_of program)
        → Triple (Fitting site) (main_meaning mesh turns site rest) (λ done. Fitting (after_main site rest)) Stopped
    main_meets (FitsNoItem site) fresh on = skip_triple
    main_meets {site = site} (FitsItems {i = i} {rest = rest} f g) fresh on =
        triple_then (item_meets f fresh (prefix_of_prefix (main_is_prefix (after_item site i) rest) on)) (λ done. main_meets g (fresh_after site i f fresh) on)

  -- A RUN
  run_meets : IsTyped program → Meets (λ done. Fitting (after_main start program)) Stopped (run mesh program turns).after (run mesh program turns).answer
  run_meets typed =
      (triple_then (opened_meets start 0) (λ done. main_meets typed start_fresh (same_parts (parts_of program)))).meets
      (record { state = empty turns; path = [] }) (record { state_fits = start_fits mesh turns; below = tt; entries = tt })

  fitting_path : (after : Progress) (answer : Result (Unit {0}) Stop) → Meets (λ done. Fitting (after_main start program)) Stopped after answer → Stopped after
  fitting_path after (Ok done) m = stopped (after_main start program) after m
  fitting_path after (Err stop) m = m

  pub run_has_fitting_path : IsTyped program → HasFittingPath mesh program (run mesh program turns).after
  run_has_fitting_path typed = fitting_path (run mesh program turns).after (run mesh program turns).answer (run_meets typed)

  end_fits : (ending : Option RunEnd) (p : Progress) → Stopped p → AllByRecursion (EntryFits mesh program) (end_entry ending p.state)
  end_fits None p r = tt
  end_fits (Some ending) p r = (record { fields = r.fields; phase = λ k e. absurd cc }, tt {0})

  pub path_fits : IsTyped program → AllByRecursion (EntryFits mesh program) (path_of mesh program turns)
  path_fits typed =
      all_of_both (EntryFits mesh program) (run mesh program turns).after.path (end_entry (run_end mesh program turns) (run mesh program turns).after.state)
      (run_has_fitting_path typed).entries (end_fits (run_end mesh program turns) (run mesh program turns).after (run_has_fitting_path typed))

  -- a run that is done ends in a state that fits the environment after the program
  done_fits : (after : Progress) (answer : Result (Unit {0}) Stop) → Meets (λ done. Fitting (after_main start program)) Stopped after answer → end_of answer ≡ Some IsDone
      → StateFits mesh (after_main start program).environment after.state
  done_fits after (Ok done) m e = m.state_fits
  done_fits after (Err (Trapped trap)) m e = absurd cc
  done_fits after (Err NoMeaning) m e = absurd cc

  pub last_state_fits : IsTyped program → run_end mesh program turns ≡ Some IsDone → StateFits mesh (after_main start program).environment (run mesh program turns).after.state
  last_state_fits typed e = done_fits (run mesh program turns).after (run mesh program turns).answer (run_meets typed) e
