-- One iteration of a comprehension: its outcome, its acts, its end, and its partial reductions of scalars. This project's own.
use Rattle.std.specs.Prelude.{ℕ, ◌==◌, Option, Some, None, List, [], ◌∷◌, map, get_or, ℤ, pos, Result, Ok, Err}
use Rattle.std.specs.List.{filter, fold, slice_set}
use Rattle.liszt_base.specs.MeshLists.{MeshLists}
use Rattle.liszt_base.specs.Reductions.{fold as folded, fold as folded_value, identity_of}
use Rattle.liszt_base.specs.declared.accesses.Mode.{Mode}
use Rattle.liszt_base.specs.declared.accesses.Mode.TheVariants.{Reduce}
use Rattle.liszt_base.specs.declared.answers.RunEnd.{RunEnd}
use Rattle.liszt_base.specs.declared.answers.RunEnd.TheVariants.{Done as IsDone, Trap as IsTrap}
use Rattle.topo_operators.specs.Operators.{unflipped}
use Rattle.phase_types.specs.Environments.{Comprehension}
use Rattle.phase_types.specs.Walk.{OfScalar, mode_in}
use Rattle.kernel_eval.specs.Outcomes.{Stop, Trapped, NoMeaning, Outcome, Done}
use Rattle.kernel_eval.specs.States.{State, Act, ScalarFold, EvaluationState}
use Rattle.kernel_eval.specs.Meaning.{body_meaning}

-- THE ITERATION of the element `id`, from a state, with a number of turns: the name of the comprehension denotes the element.
abbrev pub iteration_start : Comprehension → ℕ → State → ℕ → EvaluationState
iteration_start c turns s id =
    record {
      state = record s { turns = turns };
      elem = Some (unflipped c.over id);
      elements = (c.name, Some (unflipped c.over id)) ∷ [];
      locals = [];
      acts = [];
      folds = [];
    }

abbrev pub iteration : MeshLists → Comprehension → ℕ → State → ℕ → Outcome EvaluationState Done
iteration mesh c turns s id = body_meaning mesh c.environment c.body (iteration_start c turns s id)

-- the acts of an iteration, in order, up to its end or trap
abbrev pub acts : MeshLists → Comprehension → ℕ → State → ℕ → List Act
acts mesh c turns s id = (iteration mesh c turns s id).after.acts

-- the end of an outcome, or none if it has no meaning
abbrev pub end_of : {A : Type 0} → Result A Stop → Option RunEnd
end_of (Ok value) = Some IsDone
end_of (Err (Trapped trap)) = Some (IsTrap trap)
end_of (Err NoMeaning) = None

abbrev pub iteration_end : MeshLists → Comprehension → ℕ → State → ℕ → Option RunEnd
iteration_end mesh c turns s id = end_of (iteration mesh c turns s id).answer

-- the reductions of a scalar by an iteration, folded from the identity by the operator with which the comprehension reduces the scalar
abbrev pub reduced_value : Option Mode → List ℤ → Option ℤ
reduced_value (Some (Reduce op)) values = Some (fold (folded op) (identity_of op) values)
reduced_value _ values = None

abbrev pub partial : MeshLists → Comprehension → ℕ → State → ℕ → ℕ → Option ℤ
partial mesh c turns s id scalar =
    reduced_value (mode_in c (OfScalar scalar))
    (map (λ f. f.value) (filter (λ f. f.scalar == scalar) (iteration mesh c turns s id).after.folds))

-- PARTIALS by the numbers of scalars, after reductions, each of which folds the partial of its scalar
abbrev pub partials_after_fold : List ℤ → ScalarFold → List ℤ
partials_after_fold partials folded =
    slice_set partials folded.scalar (folded_value folded.op (get_or partials folded.scalar (pos 0)) folded.value)

abbrev pub partials_after : List ℤ → List ScalarFold → List ℤ
partials_after partials [] = partials
partials_after partials (folded ∷ rest) = partials_after (partials_after_fold partials folded) rest
