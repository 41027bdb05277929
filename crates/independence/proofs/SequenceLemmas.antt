-- Iterations one after another, from a state that agrees with the one before all of them.
use Rattle.std.proofs.Common.{◌≡◌, ℕ, zero, suc, ◌<◌, List, [], ◌∷◌, ◌++◌, length, Option, Some, None, Result, Ok, Err, refl, sym, ap, subst, ◌∙◌, arith, if◌then◌else◌}
use Rattle.std.specs.List.{Contains, filter_map, flat_map, fold}
use Rattle.std.specs.Option.{option_map}
use Rattle.std.specs.Prelude.{ℤ}
use Rattle.liszt_base.specs.MeshLists.{MeshLists}
use Rattle.liszt_base.specs.Reductions.{fold as folded, identity_of}
use Rattle.liszt_base.specs.declared.accesses.Mode.TheVariants.{Reduce}
use Rattle.liszt_base.specs.declared.accesses.Spot.{Spot}
use Rattle.liszt_base.specs.declared.answers.RunEnd.{RunEnd}
use Rattle.liszt_base.specs.declared.answers.RunEnd.TheVariants.{Done as IsDone, Trap as IsTrap}
use Rattle.liszt_base.specs.declared.answers.Trap.{Trap}
use Rattle.liszt_base.specs.declared.elements.Op.{Op}
use Rattle.liszt_tree.specs.Tree.{Main}
use Rattle.mesh_topology.specs.Elements.{count}
use Rattle.phase_types.specs.Environments.{Comprehension}
use Rattle.phase_types.specs.Typed.{ComprehensionFits}
use Rattle.phase_types.specs.Walk.{OfScalar, mode_in}
use Rattle.kernel_eval.specs.Iterations.{acts, end_of, iteration, iteration_end, iteration_start, partial}
use Rattle.kernel_eval.specs.Meaning.{body_meaning}
use Rattle.kernel_eval.specs.Outcomes.{Done, Outcome, Stop, Trapped, NoMeaning, continue_with}
use Rattle.kernel_eval.specs.Preservation.{value_after_acts, value_after_act, is_spot}
use Rattle.kernel_eval.specs.States.{Act, State, scalar_value, value_in}
use Rattle.kernel_eval.proofs.ActLemmas.{fields_made}
use Rattle.kernel_eval.proofs.PreservationLemmas.{keeps_body}
use Rattle.kernel_eval.proofs.ValueLemmas.{values_determined}
use Rattle.seq_meaning.specs.Runs.{after_iteration, iterations}
use Rattle.independence.specs.Independence.{AgreeFor, AreDone, AreIterations, CanRunFrom, acts_of, partials_of}
use Rattle.independence.proofs.AgreementLemmas.{agree_itself, agree_then}
use Rattle.independence.proofs.IterationLemmas.{does_the_same, leaves_reads, scalar_folded, still_neutral, typed}

-- ITERATIONS LEAVE what their comprehension reads, also if one of them stops.
pub iterations_agree : (mesh : MeshLists) (c : Comprehension) (turns : ℕ) → ComprehensionFits c → (ids : List ℕ) (s : State) → AgreeFor c s (iterations mesh c turns ids s).after
iterations_agree mesh c turns fits [] s = agree_itself c s
iterations_agree mesh c turns fits (id ∷ ids) s =
    go (iterations_agree mesh c turns fits ids (after_iteration mesh c turns id s).after) (after_iteration mesh c turns id s).answer
  where
    here : AgreeFor c s (after_iteration mesh c turns id s).after
    here = leaves_reads mesh c turns s id fits

    go : AgreeFor c (after_iteration mesh c turns id s).after (iterations mesh c turns ids (after_iteration mesh c turns id s).after).after → (answer : Result Done Stop)
        → AgreeFor c s (continue_with (λ done. iterations mesh c turns ids) (after_iteration mesh c turns id s).after answer).after
    go rest (Ok value) = agree_then here rest
    go rest (Err stop) = here

-- the first of a list
first_in : (id : ℕ) (ids : List ℕ) → Contains (id ∷ ids) id
first_in id ids = (0, omega arith, refl)

later_in : (id : ℕ) (ids : List ℕ) (other : ℕ) → Contains ids other → Contains (id ∷ ids) other
later_in id ids other (k, below, is) = (suc k, omega (arith, below), is)

ended_well : (answer : Result Done Stop) → end_of answer ≡ Some IsDone → answer ≡ Ok tt
ended_well (Ok value) is = refl
ended_well (Err (Trapped trap)) is = absurd cc
ended_well (Err NoMeaning) is = absurd cc

-- the value at a spot after acts, and after more of them
pub more_acts : (spot : Spot) (value : Option ℤ) (first second : List Act) → value_after_acts spot value (first ++ second) ≡ value_after_acts spot (value_after_acts spot value first) second
more_acts spot value [] second = refl
more_acts spot value (act ∷ first) second = more_acts spot (if is_spot spot act.spot then option_map (value_after_act act.mode act.value) value else value) first second

value_after : (mesh : MeshLists) (c : Comprehension) (turns : ℕ) (t : State) (id : ℕ) (spot : Spot)
    → value_in (after_iteration mesh c turns id t).after.fields spot ≡ value_after_acts spot (value_in t.fields spot) (acts mesh c turns t id)
value_after mesh c turns t id spot =
    let made = values_determined (iteration_start c turns t id) (iteration mesh c turns t id).after ((keeps_body fields_made mesh c.environment c.body (λ a t. tt {0})).preserved (iteration_start c turns t id)) in
    made.values_are spot ∙ ap (value_after_acts spot (value_in t.fields spot)) (sym made.acts_are)

module _ (program : Main) (k : ℕ) (c : Comprehension) (mesh : MeshLists) (s : State) (can : CanRunFrom program k c mesh s) (turns : ℕ) where
  fits : ComprehensionFits c
  fits = typed program k c mesh s can

  -- one iteration that is done
  one_done : (id : ℕ) (ids : List ℕ) (t : State) → AgreeFor c s t → id < count mesh c.over → iteration_end mesh c turns s id ≡ Some IsDone
      → iterations mesh c turns (id ∷ ids) t ≡ iterations mesh c turns ids (after_iteration mesh c turns id t).after
  one_done id ids t agree below done =
      let same = does_the_same program k c mesh s can turns t id agree below in
      ap (continue_with (λ done. iterations mesh c turns ids) (after_iteration mesh c turns id t).after)
      (ended_well (iteration mesh c turns t id).answer (same.end ∙ done))

  next_agrees : (id : ℕ) (t : State) → AgreeFor c s t → AgreeFor c s (after_iteration mesh c turns id t).after
  next_agrees id t agree = agree_then agree (leaves_reads mesh c turns t id fits)

  pub all_done : (ids : List ℕ) (t : State) → AgreeFor c s t → AreIterations mesh c ids → AreDone mesh c turns s ids → (iterations mesh c turns ids t).answer ≡ Ok tt
  all_done [] t agree are done = refl
  all_done (id ∷ ids) t agree are done =
      ap (λ (outcome : Outcome State Done). outcome.answer) (one_done id ids t agree (are id (first_in id ids)) (done id (first_in id ids)))
      ∙ all_done ids (after_iteration mesh c turns id t).after (next_agrees id t agree) (λ other h. are other (later_in id ids other h)) (λ other h. done other (later_in id ids other h))

  pub values_done : (ids : List ℕ) (t : State) → AgreeFor c s t → AreIterations mesh c ids → AreDone mesh c turns s ids → (spot : Spot)
      → value_in (iterations mesh c turns ids t).after.fields spot ≡ value_after_acts spot (value_in t.fields spot) (acts_of mesh c turns s ids)
  values_done [] t agree are done spot = refl
  values_done (id ∷ ids) t agree are done spot =
      let below : id < count mesh c.over = are id (first_in id ids) in
      let same = does_the_same program k c mesh s can turns t id agree below in
      ap (λ (outcome : Outcome State Done). value_in outcome.after.fields spot) (one_done id ids t agree below (done id (first_in id ids)))
      ∙ values_done ids (after_iteration mesh c turns id t).after (next_agrees id t agree) (λ other h. are other (later_in id ids other h)) (λ other h. done other (later_in id ids other h)) spot
      ∙ ap (λ value. value_after_acts spot value (acts_of mesh c turns s ids)) (value_after mesh c turns t id spot ∙ ap (value_after_acts spot (value_in t.fields spot)) same.acts)
      ∙ sym (more_acts spot (value_in t.fields spot) (acts mesh c turns s id) (acts_of mesh c turns s ids))

  pub scalars_done : (ids : List ℕ) (t : State) (scalar : ℕ) (op : Op) (old : ℤ) → AgreeFor c s t → AreIterations mesh c ids → AreDone mesh c turns s ids
      → mode_in c (OfScalar scalar) ≡ Some (Reduce op) → scalar_value t scalar ≡ Some old → folded op (identity_of op) old ≡ old
      → scalar_value (iterations mesh c turns ids t).after scalar ≡ Some (fold (folded op) old (partials_of mesh c turns s scalar ids))
  scalars_done [] t scalar op old agree are done mode is neutral = is
  scalars_done (id ∷ ids) t scalar op old agree are done mode is neutral =
      let below : id < count mesh c.over = are id (first_in id ids) in
      let same = does_the_same program k c mesh s can turns t id agree below in
      let step = scalar_folded mesh c turns t id scalar op old fits mode is neutral in
      let partial_is : partial mesh c turns s id scalar ≡ Some step.0 = sym (same.partials scalar) ∙ step.1 in
      ap (λ (outcome : Outcome State Done). scalar_value outcome.after scalar) (one_done id ids t agree below (done id (first_in id ids)))
      ∙ scalars_done ids (after_iteration mesh c turns id t).after scalar op (folded op old step.0) (next_agrees id t agree) (λ other h. are other (later_in id ids other h))
      (λ other h. done other (later_in id ids other h)) mode step.2 (still_neutral op old step.0 neutral)
      ∙ sym (rw partial_is refl)

  -- THE FIRST TRAP
  trap_is : (id : ℕ) (later : List ℕ) (t : State) (trap : Trap) → AgreeFor c s t → id < count mesh c.over → iteration_end mesh c turns s id ≡ Some (IsTrap trap)
      → end_of (iterations mesh c turns (id ∷ later) t).answer ≡ Some (IsTrap trap)
  trap_is id later t trap agree below is =
      let same = does_the_same program k c mesh s can turns t id agree below in
      go (iteration mesh c turns t id).answer (same.end ∙ is)
    where
      go : (answer : Result Done Stop) → end_of answer ≡ Some (IsTrap trap)
          → end_of (continue_with (λ done. iterations mesh c turns later) (after_iteration mesh c turns id t).after answer).answer ≡ Some (IsTrap trap)
      go (Ok value) e = absurd cc
      go (Err stop) e = e

  pub trap_first : (earlier later : List ℕ) (id : ℕ) (t : State) (trap : Trap) → AgreeFor c s t → AreIterations mesh c (earlier ++ id ∷ later) → AreDone mesh c turns s earlier
      → iteration_end mesh c turns s id ≡ Some (IsTrap trap) → end_of (iterations mesh c turns (earlier ++ id ∷ later) t).answer ≡ Some (IsTrap trap)
  trap_first [] later id t trap agree are done is = trap_is id later t trap agree (are id (first_in id later)) is
  trap_first (first ∷ earlier) later id t trap agree are done is =
      ap (λ (outcome : Outcome State Done). end_of outcome.answer) (one_done first (earlier ++ id ∷ later) t agree (are first (first_in first (earlier ++ id ∷ later))) (done first (first_in first earlier)))
      ∙ trap_first earlier later id (after_iteration mesh c turns first t).after trap (next_agrees first t agree) (λ other h. are other (later_in first (earlier ++ id ∷ later) other h))
      (λ other h. done other (later_in first earlier other h)) is
