-- A typed program ends, done or by a trap: from a state that fits the environment at a site, each item results in one that fits the environment after it.
use Rattle.std.proofs.Common.{◌≡◌, ◌⊎◌, ℕ, zero, suc, ◌+◌, ◌<◌, ◌≤◌, ◌==◌, nat_lt, Bool, true, false, List, [], ◌∷◌, ◌++◌, length, refl, sym, ap, subst, ◌∙◌, inl, inr, arith, ne_eqb, eq-eqb}
use Rattle.std.proofs.lemmas.Bool.{cases_Bool, le-ltb}
use Rattle.std.proofs.lemmas.List.{append_assoc, length-append, length-replicate}
use Rattle.std.proofs.lemmas.List.Elements.{filter_map-append}
use Rattle.std.specs.List.{AllByRecursion, filter_map}
use Rattle.std.specs.Prelude.{Option, Some, None, is_some, ℤ, Result, Ok, Err, if◌then◌else◌}
use Rattle.std.specs.Str.{bytes_eq}
use Rattle.liszt_base.specs.Corners.{IsMesh}
use Rattle.liszt_base.specs.MeshLists.{MeshLists}
use Rattle.liszt_base.specs.declared.answers.TrapKind.TheVariants.{Prints, Spent}
use Rattle.liszt_base.specs.declared.answers.Place.{Place}
use Rattle.liszt_base.specs.declared.elements.Kind.{Kind}
use Rattle.liszt_base.specs.Limits.{print_limit}
use Rattle.liszt_tree.specs.declared.tree.How.{How}
use Rattle.liszt_tree.specs.Tree.{Expression, MainItem, MainIf, Main}
use Rattle.mesh_topology.specs.Elements.{corner_lists, count, numbers}
use Rattle.mesh_topology.proofs.MemberLemmas.{Member}
use Rattle.mesh_topology.proofs.NearLemmas.{range_below}
use Rattle.phase_types.specs.Environments.{Environment, Binding, FieldName, ScalarName, LocalName, ElementName, binding_of, Part, FieldPart, ScalarPart, ScopePart, field_part, scalar_part, fields_in, scalars_in, Comprehension, Site, start, IsPrefix, next_field, next_scalar, next_comprehension, next_scope, with_field as field_site, with_scalar as scalar_site, comprehension_at, block_start, after_block, has_else_block, after_item, after_main, built_in_fields}
use Rattle.phase_types.specs.Types.{NumberType, TruthType, HasType}
use Rattle.phase_types.specs.Typed.{ComprehensionFits, ItemFits, FitsMainField, FitsMainVar, FitsMainAssign, FitsMainIf, FitsMainWhile, FitsMainFor, FitsPrint, MainFits, FitsNoItem, FitsItems, IsTyped}
use Rattle.phase_types.proofs.PartLemmas.{item_is_prefix, main_is_prefix}
use Rattle.kernel_eval.specs.Fits.{IsBuiltIn, EntryFits, StateFits}
use Rattle.kernel_eval.specs.Preservation.{Preserves}
use Rattle.kernel_eval.specs.Meaning.{assigned_value, trap}
use Rattle.kernel_eval.specs.Outcomes.{Stop, Trapped, NoMeaning, Outcome, continue_with, for_each, skip, take_turn, loop_within, loop}
use Rattle.kernel_eval.specs.States.{State, EvaluationState, scalar_value, main_evaluation}
use Rattle.kernel_eval.specs.Iterations.{iteration, end_of}
use Rattle.kernel_eval.proofs.TypedEvaluationLemmas.{EndsIn, OutcomeEnds, Ends, ends_then, ends_if, EvaluationFits, at_first, Fits, number_ends, truth_ends, is_an_end, iteration_ends, iteration_fits}
use Rattle.kernel_eval.proofs.ShapeLemmas.{still_fits, map_update_shape}
use Rattle.seq_meaning.specs.Runs.{Event, Progress, ScopeOpened, ScopeClosed, FieldDeclared, ComprehensionReached, log_event, lift_state, in_program, number_at, truth_at, with_field, with_scalar, modify_state, assign_main_scalar, assign_main_name, print_number, after_scope, in_scope, program_turns, after_iteration, comprehension, restored_outcome, all_or_nothing, item_meaning, main_meaning, empty, run, run_end}
use Rattle.seq_meaning.proofs.StateShapeLemmas.{Grows, scope_like, grows_kept}
use Rattle.seq_meaning.proofs.MainPreservationLemmas.{OfStates, main_keeps}

-- THE NEXT NUMBERS are new: those of visible fields and scalars are smaller
pub record IsFresh (site : Site) : Type 0 where
  pub fields : (name : List ℕ) (number : ℕ) (kind : Kind) → binding_of site.environment name ≡ Some (FieldName number kind) → number < next_field site
  pub scalars : (name : List ℕ) (number : ℕ) → binding_of site.environment name ≡ Some (ScalarName number) → number < next_scalar site

pub more_of : {A : Type 0} (sort : Part → Option A) (before after : List Part) → IsPrefix before after → length (filter_map sort before) ≤ length (filter_map sort after)
more_of sort before after on =
    omega (arith, ap (λ parts. length (filter_map sort parts)) on.appended, ap (λ xs. length xs) (filter_map-append sort before on.rest), length-append (filter_map sort before) (filter_map sort on.rest))

-- the same environment, with further parts
fresh_on : (site there : Site) → there.environment ≡ site.environment → IsPrefix site.parts there.parts → IsFresh site → IsFresh there
fresh_on site there same on fresh = record {
  fields = λ name number kind is. omega (arith, fresh.fields name number kind (ap (λ environment. binding_of environment name) (sym same) ∙ is), more_of field_part site.parts there.parts on);
  scalars = λ name number is. omega (arith, fresh.scalars name number (ap (λ environment. binding_of environment name) (sym same) ∙ is), more_of scalar_part site.parts there.parts on);
}

appended_part : (before : List Part) (part : Part) → IsPrefix before (before ++ part ∷ [])
appended_part before part = record { rest = part ∷ []; appended = refl }

prefix_transitive : {a b c : List Part} → IsPrefix a b → IsPrefix b c → IsPrefix a c
prefix_transitive {a = a} r s = record { rest = r.rest ++ s.rest; appended = s.appended ∙ ap (λ parts. parts ++ s.rest) r.appended ∙ append_assoc a r.rest s.rest }

pub block_fresh : (site : Site) → IsFresh site → IsFresh (block_start site)
block_fresh site = fresh_on site (block_start site) refl (appended_part site.parts _)

-- an environment with a further binding
first_or_rest_binding : (environment : Environment) (name other : List ℕ) (entry found : Binding) → binding_of ((name, entry) ∷ environment) other ≡ Some found → (entry ≡ found) ⊎ (binding_of environment other ≡ Some found)
first_or_rest_binding environment name other entry found e = elim (cases_Bool (bytes_eq other name)) as (λ c. (entry ≡ found) ⊎ (binding_of environment other ≡ Some found)) [
  | inl is ↦ inl (let f : Some entry ≡ Some found = rw is at e in cc)
  | inr is ↦ inr (rw is at e)
]

-- at the start there are the built-in fields
abbrev IsLow : Binding → Type 0
IsLow (FieldName number kind) = IsBuiltIn number kind
IsLow (ScalarName number) = ⊥
IsLow LocalName = ⊥
IsLow (ElementName kind) = ⊥

low_ones : (environment : Environment) (name : List ℕ) (entry : Binding) → AllByRecursion (λ pair. IsLow pair.1) environment → binding_of environment name ≡ Some entry → IsLow entry
low_ones [] name entry all e = absurd cc
low_ones (pair ∷ environment) name entry all e = elim (first_or_rest_binding environment pair.0 name pair.1 entry e) as (λ c. IsLow entry) [
  | inl is ↦ subst IsLow is all.0
  | inr old ↦ low_ones environment name entry all.1 old
]

built_in_low : (name : List ℕ) (entry : Binding) → binding_of built_in_fields name ≡ Some entry → IsLow entry
built_in_low name entry e =
    low_ones built_in_fields name entry
    (inl (omega arith, refl), (inl (omega arith, refl), (inl (omega arith, refl), (inl (omega arith, refl), (inr (refl, refl), tt {0}))))) e

pub low_number : (number : ℕ) (kind : Kind) → IsBuiltIn number kind → number < 6
low_number number kind (inl is) = omega (arith, is.0)
low_number number kind (inr is) = omega (arith, is.0)

pub start_fresh : IsFresh start
start_fresh = record {
  fields = λ name number kind e. omega (arith, low_number number kind (built_in_low name (FieldName number kind) e));
  scalars = λ name number e. absurd (built_in_low name (ScalarName number) e);
}

-- after a field and a scalar
pub field_number : (site : Site) (name : List ℕ) (kind : Kind) → next_field (field_site name kind site) ≡ next_field site + 1
field_number site name kind =
    omega (
      arith,
      ap (λ xs. length xs) (filter_map-append field_part site.parts (FieldPart (record { name = name; kind = kind; scope = site.scope }) ∷ [])),
      length-append (fields_in site.parts) (record { name = name; kind = kind; scope = site.scope } ∷ []),
    )

field_fresh : (site : Site) (name : List ℕ) (kind : Kind) → IsFresh site → IsFresh (field_site name kind site)
field_fresh site name kind fresh = record {
  fields = λ other number of is. elim (first_or_rest_binding site.environment name other (FieldName (next_field site) kind) (FieldName number of) is) as (λ c. number < next_field (field_site name kind site)) [
    | inl e ↦ let same : next_field site ≡ number = cc in omega (arith, same, field_number site name kind)
    | inr old ↦ omega (arith, fresh.fields other number of old, field_number site name kind)
  ];
  scalars = λ other number is. elim (first_or_rest_binding site.environment name other (FieldName (next_field site) kind) (ScalarName number) is) as (λ c. number < next_scalar (field_site name kind site)) [
    | inl e ↦ absurd cc
    | inr old ↦ omega (arith, fresh.scalars other number old, more_of scalar_part site.parts (field_site name kind site).parts (appended_part site.parts _))
  ];
}

pub scalar_number : (site : Site) (name : List ℕ) → next_scalar (scalar_site name site) ≡ next_scalar site + 1
scalar_number site name =
    omega (arith, ap (λ xs. length xs) (filter_map-append scalar_part site.parts (ScalarPart name ∷ [])), length-append (scalars_in site.parts) (name ∷ []))

scalar_fresh : (site : Site) (name : List ℕ) → IsFresh site → IsFresh (scalar_site name site)
scalar_fresh site name fresh = record {
  fields = λ other number of is. elim (first_or_rest_binding site.environment name other (ScalarName (next_scalar site)) (FieldName number of) is) as (λ c. number < next_field (scalar_site name site)) [
    | inl e ↦ absurd cc
    | inr old ↦ omega (arith, fresh.fields other number of old, more_of field_part site.parts (scalar_site name site).parts (appended_part site.parts _))
  ];
  scalars = λ other number is. elim (first_or_rest_binding site.environment name other (ScalarName (next_scalar site)) (ScalarName number) is) as (λ c. number < next_scalar (scalar_site name site)) [
    | inl e ↦ let same : next_scalar site ≡ number = cc in omega (arith, same, scalar_number site name)
    | inr old ↦ omega (arith, fresh.scalars other number old, scalar_number site name)
  ];
}

-- after an item the environment has the binding of a declaration, or is the same
pub environment_after_if : (site : Site) (place : Place) (test : Expression) (first second : Main) (has_else : Bool) → (after_item site (MainIf place test first second has_else)).environment ≡ site.environment
environment_after_if site place test first second has_else = go (has_else_block second has_else) _ _ refl refl where
  go : (b : Bool) (this other : Site) → this.environment ≡ site.environment → other.environment ≡ site.environment → (if b then this else other).environment ≡ site.environment
  go true this other e f = e
  go false this other e f = f

pub first_fresh : (site : Site) (first : Main) → IsFresh site → IsFresh (block_start (after_block site (after_main (block_start site) first)))
first_fresh site first fresh =
    fresh_on site (block_start (after_block site (after_main (block_start site) first))) refl
    (prefix_transitive (prefix_transitive (appended_part site.parts (ScopePart site.scope)) (main_is_prefix (block_start site) first)) (appended_part (after_main (block_start site) first).parts _)) fresh

pub fresh_after : (site : Site) (i : MainItem) → ItemFits site i → IsFresh site → IsFresh (after_item site i)
fresh_after site _ (FitsMainField place name at kind h is) fresh = field_fresh site name kind fresh
fresh_after site _ (FitsMainVar place name at h is) fresh = scalar_fresh site name fresh
fresh_after site i (FitsMainAssign place name how is h) fresh = fresh
fresh_after site i (FitsMainIf {test = test} {first = first} {second = second} place has_else h f g) fresh =
    fresh_on site (after_item site i) (environment_after_if site place test first second has_else) (item_is_prefix site i) fresh
fresh_after site i (FitsMainWhile place h f) fresh = fresh_on site (after_item site i) refl (item_is_prefix site i) fresh
fresh_after site i (FitsMainFor place name at over is h) fresh = fresh_on site (after_item site i) refl (item_is_prefix site i) fresh
fresh_after site i (FitsPrint place h) fresh = fresh

-- A STATE THAT FITS fits after a declaration
module _ (mesh : MeshLists) where
  abbrev FitsAt : Site → Progress → Type 0
  FitsAt site p = StateFits mesh site.environment p.state

  abbrev AnyUnit : Unit {0} → Type 0
  AnyUnit done = Unit {0}

  abbrev Any : {A : Type 0} → A → Type 0
  Any a = Unit {0}

  other_key : (number other : ℕ) → number < other → (other == number) ≡ false
  other_key number other l = ne_eqb other number (λ e. absurd (omega (arith, l, e)))

  pub field_fits : (site : Site) (name : List ℕ) (kind : Kind) (n : ℤ) (s : State) → IsFresh site → StateFits mesh site.environment s
      → StateFits mesh (field_site name kind site).environment (with_field (next_field site) (count mesh kind) n s)
  field_fits site name kind n s fresh h = record { entry_fits = λ other entry e. go other entry (first_or_rest_binding site.environment name other (FieldName (next_field site) kind) entry e) } where
    after : State
    after = with_field (next_field site) (count mesh kind) n s

    old_fits : (other : List ℕ) (entry : Binding) → binding_of site.environment other ≡ Some entry → EntryFits mesh s entry → EntryFits mesh after entry
    old_fits other (ScalarName number) e fits = fits
    old_fits other (FieldName number of) e (inl is) = inl is
    old_fits other (FieldName number of) e (inr live) =
        inr (live.0, rw (other_key number (next_field site) (fresh.fields other number of e)) live.1)
    old_fits other LocalName e fits = absurd fits
    old_fits other (ElementName of) e fits = absurd fits

    new_fits : EntryFits mesh after (FieldName (next_field site) kind)
    new_fits = inr (le-ltb (next_field site) 6 (omega arith), rw (eq-eqb (next_field site) (next_field site) refl) (ap Some (length-replicate (count mesh kind) n)))

    go : (other : List ℕ) (entry : Binding) → ((FieldName (next_field site) kind ≡ entry) ⊎ (binding_of site.environment other ≡ Some entry)) → EntryFits mesh after entry
    go other entry (inl is) = subst (EntryFits mesh after) is new_fits
    go other entry (inr old) = old_fits other entry old (h.entry_fits other entry old)

  pub scalar_fits : (site : Site) (name : List ℕ) (n : ℤ) (s : State) → IsFresh site → StateFits mesh site.environment s
      → StateFits mesh (scalar_site name site).environment (with_scalar (next_scalar site) n s)
  scalar_fits site name n s fresh h = record { entry_fits = λ other entry e. go other entry (first_or_rest_binding site.environment name other (ScalarName (next_scalar site)) entry e) } where
    after : State
    after = with_scalar (next_scalar site) n s

    old_fits : (other : List ℕ) (entry : Binding) → binding_of site.environment other ≡ Some entry → EntryFits mesh s entry → EntryFits mesh after entry
    old_fits other (ScalarName number) e fits = rw (other_key number (next_scalar site) (fresh.scalars other number e)) fits
    old_fits other (FieldName number of) e fits = fits
    old_fits other LocalName e fits = absurd fits
    old_fits other (ElementName of) e fits = absurd fits

    go : (other : List ℕ) (entry : Binding) → ((ScalarName (next_scalar site) ≡ entry) ⊎ (binding_of site.environment other ≡ Some entry)) → EntryFits mesh after entry
    go other entry (inl is) = subst (EntryFits mesh after) is (rw (eq-eqb (next_scalar site) (next_scalar site) refl) refl)
    go other entry (inr old) = old_fits other entry old (h.entry_fits other entry old)

  pub start_fits : (turns : ℕ) → StateFits mesh built_in_fields (empty turns)
  start_fits turns = record { entry_fits = λ name entry e. go entry (built_in_low name entry e) } where
    go : (entry : Binding) → IsLow entry → EntryFits mesh (empty turns) entry
    go (FieldName number kind) low = inl low
    go (ScalarName number) low = absurd low
    go LocalName low = absurd low
    go (ElementName kind) low = absurd low

  -- EXPRESSIONS in the main program
  evaluation_fits : (site : Site) (s : State) → StateFits mesh site.environment s → EvaluationFits mesh site.environment site.environment (main_evaluation s)
  evaluation_fits site s h = record { state_fits = h; name_fits = λ name. at_first mesh s (binding_of site.environment name) (h.entry_fits name) }

  in_program_ends : {A : Type 0} {V : A → Type 0} {computation : EvaluationState → Outcome EvaluationState A} (site : Site)
      → Ends (Fits mesh site.environment site.environment) V (Fits mesh site.environment site.environment) computation → Ends (FitsAt site) V (FitsAt site) (in_program computation)
  in_program_ends {A = A} {V = V} {computation = computation} site e =
      record { ends = λ p h. go p (computation (main_evaluation p.state)).after (computation (main_evaluation p.state)).answer (e.ends (main_evaluation p.state) (evaluation_fits site p.state h)) } where
        go : (p : Progress) (after : EvaluationState) (answer : Result A Stop) → EndsIn V (Fits mesh site.environment site.environment) after answer
            → EndsIn V (FitsAt site) (record p { state = after.state }) answer
        go p after (Ok a) e = (e.0, e.1.state_fits)
        go p after (Err (Trapped trap)) e = tt
        go p after (Err NoMeaning) e = e

  number_at_ends : (site : Site) {e : Expression} → HasType site.environment e NumberType → Ends (FitsAt site) Any (FitsAt site) (number_at mesh site e)
  number_at_ends site h = in_program_ends site (number_ends mesh site.environment site.environment h)

  truth_at_ends : (site : Site) {e : Expression} → HasType site.environment e TruthType → Ends (FitsAt site) Any (FitsAt site) (truth_at mesh site e)
  truth_at_ends site h = in_program_ends site (truth_ends mesh site.environment site.environment h)

  -- SINGLE STEPS
  log_event_ends : (site : Site) (event : Event) → Ends (FitsAt site) AnyUnit (FitsAt site) (log_event event)
  log_event_ends site event = record { ends = λ p h. (tt, h) }

  skip_ends : (site : Site) → Ends (FitsAt site) AnyUnit (FitsAt site) (skip {S = Progress})
  skip_ends site = record { ends = λ p h. (tt, h) }

  spent_ends : (site : Site) (place : Place) → Ends (FitsAt site) AnyUnit (FitsAt site) (in_program (trap Spent place))
  spent_ends site place = record { ends = λ p h. tt }

  weaker : {F G H : Progress → Type 0} {computation : Progress → Outcome Progress (Unit {0})} → ((p : Progress) → G p → H p) → Ends F AnyUnit G computation → Ends F AnyUnit H computation
  weaker {F} {G} {H} {computation} f e = record { ends = λ p h. go (computation p).after (computation p).answer (e.ends p h) } where
    go : (after : Progress) (answer : Result (Unit {0}) Stop) → EndsIn AnyUnit G after answer → EndsIn AnyUnit H after answer
    go after (Ok done) e = (tt, f after e.1)
    go after (Err (Trapped trap)) e = tt
    go after (Err NoMeaning) e = e

  declared_ends : (site : Site) (name : List ℕ) (kind : Kind) (n : ℤ) → IsFresh site
      → Ends (FitsAt site) AnyUnit (FitsAt (field_site name kind site)) (modify_state (with_field (next_field site) (count mesh kind) n))
  declared_ends site name kind n fresh = record { ends = λ p h. (tt, field_fits site name kind n p.state fresh h) }

  variable_ends : (site : Site) (name : List ℕ) (n : ℤ) → IsFresh site
      → Ends (FitsAt site) AnyUnit (FitsAt (scalar_site name site)) (modify_state (with_scalar (next_scalar site) n))
  variable_ends site name n fresh = record { ends = λ p h. (tt, scalar_fits site name n p.state fresh h) }

  assigned_ends : (site : Site) (how : How) (n : ℤ) (number : ℕ) (p : Progress) (value : Option ℤ) → FitsAt site p → is_some value ≡ true
      → OutcomeEnds AnyUnit (FitsAt site) (assign_main_scalar how n number value p)
  assigned_ends site how n number p (Some old) h e = (tt, still_fits (record { fields = refl; scalars = map_update_shape _ (assigned_value how old n) p.state.scalars }) h)
  assigned_ends site how n number p None h e = absurd cc

  name_ends : (site : Site) (name : List ℕ) (how : How) (n : ℤ) (number : ℕ) → binding_of site.environment name ≡ Some (ScalarName number)
      → Ends (FitsAt site) AnyUnit (FitsAt site) (assign_main_name how n (binding_of site.environment name))
  name_ends site name how n number is = subst (λ global. Ends (FitsAt site) AnyUnit (FitsAt site) (assign_main_name how n global)) (sym is)
      (record { ends = λ p h. assigned_ends site how n number p (scalar_value p.state number) h (h.entry_fits name (ScalarName number) is) })

  added_ends : (site : Site) (n : ℤ) → Ends (FitsAt site) AnyUnit (FitsAt site) (modify_state (λ s. record s { prints = s.prints ++ n ∷ [] }))
  added_ends site n = record { ends = λ p h. (tt, still_fits (record { fields = refl; scalars = refl }) h) }

  prints_end : (site : Site) (place : Place) → Ends (FitsAt site) AnyUnit (FitsAt site) (in_program (trap Prints place))
  prints_end site place = record { ends = λ p h. tt }

  print_number_ends : (site : Site) (place : Place) (n : ℤ) → Ends (FitsAt site) AnyUnit (FitsAt site) (print_number place n)
  print_number_ends site place n = record {
    ends = λ p h. (ends_if (nat_lt (length p.state.prints) print_limit) (added_ends site n) (prints_end site place)).ends p h;
  }

  -- SCOPES and loops
  scope_ends : (site inner : Site) {block : Progress → Outcome Progress (Unit {0})} (number : ℕ) → inner.environment ≡ site.environment → Preserves (OfStates grows_kept) block
      → Ends (FitsAt inner) AnyUnit Any block → Ends (FitsAt site) AnyUnit (FitsAt site) (in_scope number block)
  scope_ends site inner {block = block} number same keeps e = record {
    ends = λ p h. go p h (block (opened p)).after (block (opened p)).answer (keeps.preserved (opened p))
        (e.ends (opened p) (subst (λ environment. StateFits mesh environment p.state) (sym same) h));
  } where
    opened : Progress → Progress
    opened p = (log_event (ScopeOpened number) p).after

    closed : Progress → Outcome Progress (Unit {0}) → Outcome Progress (Unit {0})
    closed p outcome = continue_with (λ done. log_event (ScopeClosed number)) outcome.after outcome.answer

    go : (p : Progress) → FitsAt site p → (after : Progress) (answer : Result (Unit {0}) Stop) → Grows p.state after.state → EndsIn AnyUnit Any after answer
        → OutcomeEnds AnyUnit (FitsAt site) (closed p (continue_with (λ done. modify_state (after_scope p.state)) after answer))
    go p h after (Ok done) grows e = (tt, still_fits (scope_like p.state after.state grows) h)
    go p h after (Err (Trapped trap)) grows e = tt
    go p h after (Err NoMeaning) grows e = e

  turn_ends : (site : Site) (place : Place) {body : Progress → Outcome Progress (Unit {0})} → Ends (FitsAt site) AnyUnit (FitsAt site) body
      → Ends (FitsAt site) AnyUnit (FitsAt site) (λ p. take_turn program_turns (in_program (trap Spent place)) body p.state.turns p)
  turn_ends site place {body = body} e = record { ends = λ p h. go p.state.turns p h } where
    go : (left : ℕ) (p : Progress) → FitsAt site p → OutcomeEnds AnyUnit (FitsAt site) (take_turn program_turns (in_program (trap Spent place)) body left p)
    go zero p h = tt
    go (suc n) p h = e.ends (record p { state = record p.state { turns = n } }) (still_fits (record { fields = refl; scalars = refl }) h)

  within_ends : (site : Site) (place : Place) {test : Progress → Outcome Progress Bool} {body : Progress → Outcome Progress (Unit {0})}
      → Ends (FitsAt site) Any (FitsAt site) test → Ends (FitsAt site) AnyUnit (FitsAt site) body
      → (bound : ℕ) → Ends (FitsAt site) AnyUnit (FitsAt site) (loop_within program_turns (in_program (trap Spent place)) test body bound)
  within_ends site place t e zero = ends_then t (λ b any. ends_if b (spent_ends site place) (skip_ends site))
  within_ends site place t e (suc n) =
      ends_then t (λ b any. ends_if b (ends_then (turn_ends site place e) (λ done any. within_ends site place t e n)) (skip_ends site))

  loop_ends : (site : Site) (place : Place) {test : Progress → Outcome Progress Bool} {body : Progress → Outcome Progress (Unit {0})}
      → Ends (FitsAt site) Any (FitsAt site) test → Ends (FitsAt site) AnyUnit (FitsAt site) body
      → Ends (FitsAt site) AnyUnit (FitsAt site) (loop program_turns (in_program (trap Spent place)) test body)
  loop_ends site place t e = record { ends = λ p h. (within_ends site place t e p.state.turns).ends p h }

  module _ (turns : ℕ) (is_mesh : IsMesh (length mesh.points) (corner_lists mesh)) where
    -- COMPREHENSIONS
    iteration_comes : (c : Comprehension) → ComprehensionFits c → (id : ℕ) → id < count mesh c.over
        → Ends (StateFits mesh c.environment) AnyUnit (StateFits mesh c.environment) (after_iteration mesh c turns id)
    iteration_comes c fits id l = record {
      ends = λ s h. go (record (iteration mesh c turns s id).after.state { turns = s.turns }) (iteration mesh c turns s id).answer
          (iteration_ends mesh c turns s id is_mesh fits h l) (still_fits (record { fields = refl; scalars = refl }) (iteration_fits mesh c turns s id h));
    } where
      go : (after : State) (answer : Result (Unit {0}) Stop) → is_some (end_of answer) ≡ true → StateFits mesh c.environment after → EndsIn AnyUnit (StateFits mesh c.environment) after answer
      go after (Ok done) e h = (tt, h)
      go after (Err (Trapped trap)) e h = tt
      go after (Err NoMeaning) e h = absurd cc

    for_each_ends : (c : Comprehension) → ComprehensionFits c → (ids : List ℕ) → ((id : ℕ) → Member id ids → id < count mesh c.over)
        → Ends (StateFits mesh c.environment) AnyUnit (StateFits mesh c.environment) (for_each (after_iteration mesh c turns) ids)
    for_each_ends c fits [] below = record { ends = λ s h. (tt, h) }
    for_each_ends c fits (id ∷ ids) below =
        ends_then (iteration_comes c fits id (below id (inl refl))) (λ done any. for_each_ends c fits ids (λ v m. below v (inr m)))

    over_ends : (site : Site) (c : Comprehension) → c.environment ≡ site.environment → ComprehensionFits c
        → Ends (FitsAt site) AnyUnit (FitsAt site) (lift_state (all_or_nothing (comprehension mesh c turns)))
    over_ends site c same fits = record {
      ends = λ p h. go p (comprehension mesh c turns p.state).after (comprehension mesh c turns p.state).answer
          ((for_each_ends c fits (numbers 0 (count mesh c.over)) (range_below (count mesh c.over))).ends p.state (subst (λ environment. StateFits mesh environment p.state) (sym same) h));
    } where
      go : (p : Progress) (after : State) (answer : Result (Unit {0}) Stop) → EndsIn AnyUnit (StateFits mesh c.environment) after answer
          → EndsIn AnyUnit (FitsAt site) (record p { state = (restored_outcome p.state after answer).after }) (restored_outcome p.state after answer).answer
      go p after (Ok done) e = (tt, subst (λ environment. StateFits mesh environment after) same e.1)
      go p after (Err (Trapped trap)) e = tt
      go p after (Err NoMeaning) e = e

    -- ITEMS
    mutual
      item_ends : {site : Site} {i : MainItem} → ItemFits site i → IsFresh site → Ends (FitsAt site) AnyUnit (FitsAt (after_item site i)) (item_meaning mesh turns site i)
      item_ends {site = site} (FitsMainField place name at kind h is) fresh =
          ends_then (number_at_ends site h) (λ n any. ends_then (declared_ends site name kind n fresh) (λ done any. log_event_ends (field_site name kind site) (FieldDeclared (next_field site) n)))
      item_ends {site = site} (FitsMainVar place name at h is) fresh = ends_then (number_at_ends site h) (λ n any. variable_ends site name n fresh)
      item_ends {site = site} (FitsMainAssign {number = number} place name how is h) fresh = ends_then (number_at_ends site h) (λ n any. name_ends site name how n number is)
      item_ends {site = site} (FitsMainIf {test = test} {first = first} {second = second} place has_else h f g) fresh =
          weaker (λ p fits. subst (λ environment. StateFits mesh environment p.state) (sym (environment_after_if site place test first second has_else)) fits)
          (ends_then (truth_at_ends site h) (λ b any. ends_if b
          (scope_ends site (block_start site) (next_scope site) refl (main_keeps grows_kept mesh turns (block_start site) first) (main_ends f (block_fresh site fresh)))
          (ends_if (has_else_block second has_else)
          (scope_ends site (block_start (after_block site (after_main (block_start site) first))) (next_scope (after_block site (after_main (block_start site) first))) refl (main_keeps grows_kept mesh turns _ second) (main_ends g (first_fresh site first fresh)))
          (skip_ends site))))
      item_ends {site = site} (FitsMainWhile {body = body} place h f) fresh =
          loop_ends site place (truth_at_ends site h)
          (scope_ends site (block_start site) (next_scope site) refl (main_keeps grows_kept mesh turns (block_start site) body) (main_ends f (block_fresh site fresh)))
      item_ends {site = site} (FitsMainFor {body = body} place name at over is h) fresh =
          ends_then (log_event_ends site (ComprehensionReached (next_comprehension site))) (λ done any. over_ends site (comprehension_at site name over body) refl h)
      item_ends {site = site} (FitsPrint place h) fresh = ends_then (number_at_ends site h) (λ n any. print_number_ends site place n)

      main_ends : {site : Site} {program : Main} → MainFits site program → IsFresh site → Ends (FitsAt site) AnyUnit Any (main_meaning mesh turns site program)
      main_ends (FitsNoItem site) fresh = record { ends = λ p h. (tt, tt) }
      main_ends {site = site} (FitsItems {i = i} f g) fresh = ends_then (item_ends f fresh) (λ done any. main_ends g (fresh_after site i f fresh))

    pub run_ends : (program : Main) → IsTyped program → is_some (run_end mesh program turns) ≡ true
    run_ends program typed =
        is_an_end Any (run mesh program turns).after (run mesh program turns).answer
        ((ends_then (log_event_ends start (ScopeOpened 0)) (λ done any. main_ends typed start_fresh)).ends (record { state = empty turns; path = [] }) (start_fits turns))
