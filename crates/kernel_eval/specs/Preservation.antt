-- What computations preserve. This project's own.
use Rattle.std.specs.Prelude.{◌≡◌, ℕ, ◌≤◌, ◌==◌, ◌++◌, Bool, if◌then◌else◌, Option, Some, None, List, [], ◌∷◌, ℤ}
use Rattle.std.specs.Option.{option_map}
use Rattle.liszt_base.specs.Reductions.{fold}
use Rattle.liszt_base.specs.declared.accesses.Mode.{Mode}
use Rattle.liszt_base.specs.declared.accesses.Mode.TheVariants.{Read, Write, Reduce}
use Rattle.liszt_base.specs.declared.accesses.Spot.{Spot}
pub use Rattle.code_eval.specs.Acts.{is_spot, value_by as value_after_act}
use Rattle.phase_types.specs.Environments.{Comprehension, lookup}
use Rattle.phase_types.specs.Walk.{OfField, OfScalar, mode_in}
use Rattle.kernel_eval.specs.Outcomes.{Outcome, Computation, Done, ◌>>=◌, ◌>>◌, if_then_else, skip, Turns, take_turn}
use Rattle.kernel_eval.specs.States.{map_update, Fields, value_in, with_value, State, Act, ScalarFold, EvaluationState}

-- the state afterwards is in relation R to the state at entry
pub record Preserves {S A : Type 0} (R : S → S → Type 0) (computation : S → Outcome S A) : Type 0 where
  pub preserved : (s : S) → R s (computation s).after

abbrev pub HasNoMoreTurns : EvaluationState → EvaluationState → Type 0
HasNoMoreTurns m after = after.state.turns ≤ m.state.turns

-- THE FIELDS AFTER ACTS: a write replaces the value of its spot, a reduction folds it, and a read changes nothing.
abbrev pub fields_after_act : Act → Option ℤ → Fields → Fields
fields_after_act act None fields = fields
fields_after_act act (Some old) fields = by_mode act.mode where
  by_mode : Mode → Fields
  by_mode Read = fields
  by_mode Write = with_value act.spot act.value fields
  by_mode (Reduce op) = with_value act.spot (fold op old act.value) fields

abbrev pub fields_after_acts : Fields → List Act → Fields
fields_after_acts fields [] = fields
fields_after_acts fields (act ∷ rest) = fields_after_acts (fields_after_act act (value_in fields act.spot) fields) rest

-- a computation appends acts, and these applied to the fields at entry give the fields afterwards
pub record ActsDetermineFields (m after : EvaluationState) : Type 0 where
  pub new_acts : List Act
  pub acts_are : after.acts ≡ m.acts ++ new_acts
  pub fields_are : after.state.fields ≡ fields_after_acts m.state.fields new_acts

-- THE VALUE AT ONE SPOT AFTER ACTS: those at other spots leave it as it is.
abbrev pub value_after_acts : Spot → Option ℤ → List Act → Option ℤ
value_after_acts spot value [] = value
value_after_acts spot value (act ∷ rest) =
    value_after_acts spot (if is_spot spot act.spot then option_map (value_after_act act.mode act.value) value else value) rest

pub record ActsDetermineValues (m after : EvaluationState) : Type 0 where
  pub new_acts : List Act
  pub acts_are : after.acts ≡ m.acts ++ new_acts
  pub values_are : (spot : Spot) → value_in after.state.fields spot ≡ value_after_acts spot (value_in m.state.fields spot) new_acts

-- THE SCALARS AFTER REDUCTIONS, each of which folds the value of its scalar
abbrev pub scalars_after_fold : ScalarFold → Option ℤ → List (ℕ × ℤ) → List (ℕ × ℤ)
scalars_after_fold folded None scalars = scalars
scalars_after_fold folded (Some old) scalars = map_update (λ other. other == folded.scalar) (fold folded.op old folded.value) scalars

abbrev pub scalars_after : List (ℕ × ℤ) → List ScalarFold → List (ℕ × ℤ)
scalars_after scalars [] = scalars
scalars_after scalars (folded ∷ rest) = scalars_after (scalars_after_fold folded (lookup (λ other. other == folded.scalar) scalars) scalars) rest

-- THE MODE of an act is the one of its field in the comprehension, that of a reduction the one of its scalar. A subject that is read, or
-- not accessed, is unchanged.
abbrev pub HasTheMode : Comprehension → Act → Type 0
HasTheMode c act = mode_in c (OfField act.spot.field) ≡ Some act.mode

abbrev pub FoldsByTheMode : Comprehension → ScalarFold → Type 0
FoldsByTheMode c folded = mode_in c (OfScalar folded.scalar) ≡ Some (Reduce folded.op)

abbrev pub ChangesNothing : Option Mode → Type 0
ChangesNothing None = Unit {0}
ChangesNothing (Some Read) = Unit {0}
ChangesNothing (Some mode) = ⊥

abbrev pub field_values : State → ℕ → Option (List ℤ)
field_values s field = lookup (λ number. number == field) s.fields

-- A CHANGE of the state at entry that a computation does not see: the answer is the same, and the state afterwards has the same change.
pub record Commutes {S A : Type 0} (change : S → S) (computation : S → Outcome S A) : Type 0 where
  pub commuted : (s : S) → computation (change s) ≡ record { after = change (computation s).after; answer = (computation s).answer }

-- further acts and reductions before those of an evaluation state
abbrev pub with_earlier : List Act → List ScalarFold → EvaluationState → EvaluationState
with_earlier acts folds m = record m { acts = acts ++ m.acts; folds = folds ++ m.folds }

-- A LOOP UNFOLDED: its test; if that is true, a turn and the body, and then the loop again
abbrev pub loop_unfolded : {S : Type 0} → Turns S → Computation S Done → Computation S Bool → Computation S Done → Computation S Done
    → Computation S Done
loop_unfolded turns spent test body again =
    test >>= λ is_true. if_then_else is_true ((λ s. take_turn turns spent body (turns.remaining s) s) >> again) skip
