-- Computations preserve that turns do not increase, and that acts determine the fields.
use Rattle.std.proofs.Common.{◌≡◌, ℕ, List, [], ◌∷◌, ◌++◌, refl, sym, ap, ◌∙◌, arith}
use Rattle.std.proofs.lemmas.List.{append-nil, append_assoc}
use Rattle.std.specs.Prelude.{Option, Some, None, ℤ}
use Rattle.liszt_base.specs.declared.accesses.Mode.TheVariants.{Read}
use Rattle.liszt_base.specs.declared.accesses.Spot.{Spot}
use Rattle.liszt_tree.specs.declared.tree.How.{How}
use Rattle.liszt_tree.specs.declared.tree.How.TheVariants.{Set, Fold, Less}
use Rattle.phase_types.specs.Walk.{mode_by}
use Rattle.kernel_eval.specs.Preservation.{HasNoMoreTurns, fields_after_act, fields_after_acts, ActsDetermineFields}
use Rattle.kernel_eval.specs.Meaning.{operand, assigned_value, with_scalar_fold}
use Rattle.kernel_eval.specs.States.{Fields, value_in, with_value, Act, EvaluationState, with_state, with_scalar_value}
use Rattle.kernel_eval.proofs.PreservationLemmas.{IsFilter}

abbrev folded : How → ℤ → ℕ → ℤ → EvaluationState → EvaluationState
folded how n scalar old m = with_scalar_fold how scalar n (with_state (with_scalar_value scalar (assigned_value how old n) m.state) m)

folded_turns : (how : How) (n : ℤ) (scalar : ℕ) (old : ℤ) (m : EvaluationState) → (folded how n scalar old m).state.turns ≡ m.state.turns
folded_turns Set n scalar old m = refl
folded_turns (Fold op) n scalar old m = refl
folded_turns Less n scalar old m = refl

pub turns_kept : IsFilter (λ a. Unit {0}) HasNoMoreTurns
turns_kept =
    record {
      same = λ m. omega arith;
      later = λ a b c r s. omega (arith, r, s);
      local = λ name n m. omega arith;
      local_set = λ name n m. omega arith;
      element = λ name x m. omega arith;
      read = λ spot n m any e. omega arith;
      spot_set = λ spot how n old m any e. omega arith;
      scalar_assignment = λ how n scalar old m any e. omega (arith, folded_turns how n scalar old m);
      block = λ before m r. r;
      turn = λ n m e. omega (arith, e);
    }

-- no act, and one act
no_act : (m after : EvaluationState) → after.acts ≡ m.acts → after.state.fields ≡ m.state.fields → ActsDetermineFields m after
no_act m after e f = record { new_acts = []; acts_are = e ∙ sym (append-nil m.acts); fields_are = f }

folded_acts : (how : How) (n : ℤ) (scalar : ℕ) (old : ℤ) (m : EvaluationState) → ActsDetermineFields m (folded how n scalar old m)
folded_acts Set n scalar old m = no_act m _ refl refl
folded_acts (Fold op) n scalar old m = no_act m _ refl refl
folded_acts Less n scalar old m = no_act m _ refl refl

read_changes_nothing : (spot : Spot) (n : ℤ) (value : Option ℤ) (fields : Fields)
    → fields_after_act (record { spot = spot; mode = Read; value = n }) value fields ≡ fields
read_changes_nothing spot n None fields = refl
read_changes_nothing spot n (Some old) fields = refl

set_is_act : (spot : Spot) (how : How) (n old : ℤ) (fields : Fields)
    → fields_after_act (record { spot = spot; mode = mode_by how; value = operand how n }) (Some old) fields ≡ with_value spot (assigned_value how old n) fields
set_is_act spot Set n old fields = refl
set_is_act spot (Fold op) n old fields = refl
set_is_act spot Less n old fields = refl

after_more : (acts rest : List Act) (fields : Fields) → fields_after_acts fields (acts ++ rest) ≡ fields_after_acts (fields_after_acts fields acts) rest
after_more [] rest fields = refl
after_more (act ∷ acts) rest fields = after_more acts rest (fields_after_act act (value_in fields act.spot) fields)

both : (a b c : EvaluationState) → ActsDetermineFields a b → ActsDetermineFields b c → ActsDetermineFields a c
both a b c r s =
    record {
      new_acts = r.new_acts ++ s.new_acts;
      acts_are = s.acts_are ∙ ap (λ acts. acts ++ s.new_acts) r.acts_are ∙ append_assoc a.acts r.new_acts s.new_acts;
      fields_are = s.fields_are ∙ ap (λ fields. fields_after_acts fields s.new_acts) r.fields_are ∙ sym (after_more r.new_acts s.new_acts a.state.fields);
    }

pub fields_made : IsFilter (λ a. Unit {0}) ActsDetermineFields
fields_made =
    record {
      same = λ m. no_act m m refl refl;
      later = both;
      local = λ name n m. no_act m _ refl refl;
      local_set = λ name n m. no_act m _ refl refl;
      element = λ name x m. no_act m _ refl refl;
      read = λ spot n m any e. record {
        new_acts = record { spot = spot; mode = Read; value = n } ∷ [];
        acts_are = refl;
        fields_are = sym (read_changes_nothing spot n (value_in m.state.fields spot) m.state.fields);
      };
      spot_set = λ spot how n old m any e. record {
        new_acts = record { spot = spot; mode = mode_by how; value = operand how n } ∷ [];
        acts_are = refl;
        fields_are = sym (set_is_act spot how n old m.state.fields)
            ∙ ap (λ value. fields_after_act (record { spot = spot; mode = mode_by how; value = operand how n }) value m.state.fields) (sym e);
      };
      scalar_assignment = λ how n scalar old m any e. folded_acts how n scalar old m;
      block = λ before m r. record { new_acts = r.new_acts; acts_are = r.acts_are; fields_are = r.fields_are };
      turn = λ n m e. no_act m _ refl refl;
    }
