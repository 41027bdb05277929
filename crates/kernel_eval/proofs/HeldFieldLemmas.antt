-- A store that holds the fields of a state admits the acts of an iteration from it, and then holds the fields after the iteration.
use Rattle.std.proofs.Common.{◌≡◌, ℕ, Bool, true, false, List, [], ◌∷◌, ◌++◌, refl, sym, ap, subst, ◌∙◌, inl, inr, arith}
use Rattle.std.proofs.lemmas.Bool.{cases_Bool}
use Rattle.std.proofs.lemmas.Bool.Decides.{nat_tests}
use Rattle.std.specs.List.{AllByRecursion}
use Rattle.std.specs.Option.{option_map}
use Rattle.std.specs.Prelude.{Option, Some, None, is_some, if◌then◌else◌, ℤ}
use Rattle.liszt_base.specs.MeshLists.{MeshLists}
use Rattle.liszt_base.specs.declared.accesses.Mode.{Mode}
use Rattle.liszt_base.specs.declared.accesses.Mode.TheVariants.{Read, Write, Reduce}
use Rattle.liszt_base.specs.declared.accesses.Spot.{Spot}
use Rattle.liszt_tree.specs.declared.tree.How.{How}
use Rattle.liszt_tree.specs.declared.tree.How.TheVariants.{Set, Fold, Less}
use Rattle.phase_types.specs.Environments.{Comprehension, is_built_in}
use Rattle.phase_types.specs.Typed.{ComprehensionFits}
use Rattle.phase_types.specs.Walk.{OfField, mode_by, mode_in}
use Rattle.code_eval.specs.Acts.{Act, is_spot, value_by, value_after_act, value_after}
use Rattle.code_eval.specs.Stores.{StoreView, AdmitsBy, AdmitsAll, Admits, HasActed}
use Rattle.kernel_eval.specs.HeldFields.{HoldsAt, HoldsFields}
use Rattle.kernel_eval.specs.Iterations.{iteration_start, iteration, acts}
use Rattle.kernel_eval.specs.Meaning.{assigned_value, operand, with_scalar_fold}
use Rattle.kernel_eval.specs.Preservation.{HasTheMode, value_after_acts, ActsDetermineValues}
use Rattle.kernel_eval.specs.States.{Fields, value_in, with_value, State, EvaluationState, with_state, with_scalar_value}
use Rattle.kernel_eval.proofs.AccessLemmas.{touched_in_mode}
use Rattle.kernel_eval.proofs.ActLemmas.{fields_made}
use Rattle.kernel_eval.proofs.ActModeLemmas.{all_and_one, iteration_in_modes}
use Rattle.kernel_eval.proofs.AllowedAccessLemmas.{IsAllowed, all_allowed}
use Rattle.kernel_eval.proofs.PreservationLemmas.{IsFilter, keeps_body}
use Rattle.kernel_eval.proofs.TraversalLemmas.{Access}
use Rattle.kernel_eval.proofs.ValueLemmas.{here, set_value, values_determined}

-- WHERE ACTS COME FROM: at declared fields each is at a spot that has a value at the start, and a read reads that value; at built-in fields
-- each is a read.
abbrev ActIsFrom : Fields → Act → Type 0
ActIsFrom fields act =
    (is_built_in act.spot.field ≡ true → act.mode ≡ Read)
    × (is_built_in act.spot.field ≡ false → (value : ℤ) × (value_in fields act.spot ≡ Some value) × (act.mode ≡ Read → value ≡ act.value))

-- the present fields have values where those at the start had, and the same ones where the comprehension reads
record IsFrom (c : Comprehension) (fields now : Fields) (made : List Act) : Type 0 where
  live : (spot : Spot) (value : ℤ) → value_in now spot ≡ Some value → is_some (value_in fields spot) ≡ true
  read : (spot : Spot) → mode_in c (OfField spot.field) ≡ Some Read → value_in now spot ≡ value_in fields spot
  acts_are : AllByRecursion (ActIsFrom fields) made

abbrev KeepsOrigin : Comprehension → Fields → EvaluationState → EvaluationState → Type 0
KeepsOrigin c fields m after = IsFrom c fields m.state.fields m.acts → IsFrom c fields after.state.fields after.acts

abbrev IsFine : Comprehension → Access → Type 0
IsFine c a = (mode_in c a.0 ≡ Some a.1) × IsAllowed a

some_mode : (x y : Mode) → Some x ≡ Some y → x ≡ y
some_mode x y e = cc

assignment_is_no_read : (how : How) → mode_by how ≡ Read → ⊥
assignment_is_no_read Set e = cc
assignment_is_no_read (Fold op) e = cc
assignment_is_no_read Less e = cc

some_value : (value : Option ℤ) → is_some value ≡ true → (n : ℤ) × (value ≡ Some n)
some_value (Some n) h = (n, refl)
some_value None h = absurd cc

module _ (c : Comprehension) (fields : Fields) where
  folded : (how : How) (n : ℤ) (scalar : ℕ) (old : ℤ) (m : EvaluationState)
      → KeepsOrigin c fields m (with_scalar_fold how scalar n (with_state (with_scalar_value scalar (assigned_value how old n) m.state) m))
  folded Set n scalar old m from = from
  folded (Fold op) n scalar old m from = from
  folded Less n scalar old m from = from

  assigned : (spot : Spot) (how : How) (n old : ℤ) (now : Fields) (made : List Act) → IsFine c (OfField spot.field, mode_by how) → value_in now spot ≡ Some old
      → IsFrom c fields now made → (new : ℤ) → IsFrom c fields (with_value spot new now) (made ++ record { spot = spot; mode = mode_by how; value = n } ∷ [])
  assigned spot how n old now made fine e from new = record {
    live = λ other value is. elim (cases_Bool (is_spot other spot)) [
      | inl same ↦ subst (λ spot. is_some (value_in fields spot) ≡ true) (sym (here spot other same)) (from.live spot old e)
      | inr not ↦ from.live other value (sym (elsewhere other not) ∙ is)
    ];
    read = λ other is. elim (cases_Bool (is_spot other spot)) [
      | inl same ↦
          absurd (assignment_is_no_read how (some_mode (mode_by how) Read (sym fine.0 ∙ subst (λ spot. mode_in c (OfField spot.field) ≡ Some Read) (here spot other same) is)))
      | inr not ↦ elsewhere other not ∙ from.read other is
    ];
    acts_are = all_and_one (ActIsFrom fields) made (record { spot = spot; mode = mode_by how; value = n }) from.acts_are
        (fine.1, λ declared. let found = some_value (value_in fields spot) (from.live spot old e) in (found.0, found.1, λ is. absurd (assignment_is_no_read how is)));
  } where
    elsewhere : (other : Spot) → is_spot other spot ≡ false → value_in (with_value spot new now) other ≡ value_in now other
    elsewhere other not = set_value spot other new old now e ∙ ap (λ b. if b then Some new else value_in now other) not

  origin_kept : IsFilter (IsFine c) (KeepsOrigin c fields)
  origin_kept =
      record {
        same = λ m from. from;
        later = λ before m after r s from. s (r from);
        local = λ name n m from. from;
        local_set = λ name n m from. from;
        element = λ name x m from. from;
        read = λ spot n m fine e from. record {
          live = from.live;
          read = from.read;
          acts_are = all_and_one (ActIsFrom fields) m.acts (record { spot = spot; mode = Read; value = n }) from.acts_are
              (λ built_in. refl, λ declared. (n, sym (from.read spot fine.0) ∙ e declared, λ is. refl));
        };
        spot_set = λ spot how n old m fine e from. assigned spot how (operand how n) old m.state.fields m.acts fine e from (assigned_value how old n);
        scalar_assignment = λ how n scalar old m fine e. folded how n scalar old m;
        block = λ before m r. r;
        turn = λ n m e from. from;
      }

at_start : (c : Comprehension) (fields : Fields) → IsFrom c fields fields []
at_start c fields = record { live = λ spot value is. ap is_some is; read = λ spot is. refl; acts_are = tt {0} }

acts_from_start : (mesh : MeshLists) (c : Comprehension) (turns : ℕ) (s : State) (id : ℕ) → ComprehensionFits c → AllByRecursion (ActIsFrom s.fields) (acts mesh c turns s id)
acts_from_start mesh c turns s id fits =
    ((keeps_body (origin_kept c s.fields) mesh c.environment c.body (λ a t. (touched_in_mode c fits a t, all_allowed c fits a t))).preserved (iteration_start c turns s id)
    (at_start c s.fields)).acts_are

-- ADMITTED ACTS
abbrev modes_of : Comprehension → ℕ → Option Mode
modes_of c field = mode_in c (OfField field)

admitted_by : (store : StoreView) (act : Act) (value : ℤ) → HoldsAt store act.spot value → (mode : Mode) → (mode ≡ Read → value ≡ act.value) → AdmitsBy store act mode
admitted_by store act value held Read is = (held.loadable, held.value_is ∙ is refl)
admitted_by store act value held Write is = held.storable
admitted_by store act value held (Reduce op) is = (held.loadable, held.storable)

all_admitted : (c : Comprehension) (s : State) (store : StoreView) → HoldsFields s store → (made : List Act) → AllByRecursion (HasTheMode c) made
    → AllByRecursion (ActIsFrom s.fields) made → AdmitsAll (modes_of c) store made
all_admitted c s store held [] modes from = tt {0}
all_admitted c s store held (act ∷ made) modes from = (
  (modes.0, λ declared. (let found = from.0.1 declared in admitted_by store act found.0 (held.holds act.spot found.0 found.1) act.mode found.2), from.0.0),
  all_admitted c s store held made modes.1 from.1,
)

pub fields_admit : (mesh : MeshLists) (c : Comprehension) (turns : ℕ) (s : State) (id : ℕ) (store : StoreView) → ComprehensionFits c → HoldsFields s store
    → Admits store (acts mesh c turns s id)
fields_admit mesh c turns s id store fits held = record {
  modes = modes_of c;
  all = all_admitted c s store held (acts mesh c turns s id) ((iteration_in_modes mesh c turns s id fits).0 (tt {0})) (acts_from_start mesh c turns s id fits);
}

-- VALUES AFTER ACTS, where there is one and where there is none
same_test : (a b : Spot) → is_spot a b ≡ is_spot b a
same_test a b = grind (arith, nat_tests)

one_value : (change : ℤ → ℤ) (b : Bool) (old : ℤ) → (if b then option_map change (Some old) else Some old) ≡ Some (if b then change old else old)
one_value change true old = refl
one_value change false old = refl

no_value : (change : ℤ → ℤ) (b : Bool) → (if b then option_map change None else None) ≡ None
no_value change true = refl
no_value change false = refl

value_is : (made : List Act) (spot : Spot) (old : ℤ) → value_after_acts spot (Some old) made ≡ Some (value_after made spot old)
value_is [] spot old = refl
value_is (act ∷ made) spot old =
    ap (λ value. value_after_acts spot value made)
    (one_value (value_by act.mode act.value) (is_spot spot act.spot) old
    ∙ ap (λ b. Some (if b then value_by act.mode act.value old else old)) (same_test spot act.spot))
    ∙ value_is made spot (value_after_act act spot old)

none_is : (made : List Act) (spot : Spot) → value_after_acts spot None made ≡ None
none_is [] spot = refl
none_is (act ∷ made) spot = ap (λ value. value_after_acts spot value made) (no_value (value_by act.mode act.value) (is_spot spot act.spot)) ∙ none_is made spot

same_value : (x y : ℤ) → Some x ≡ Some y → x ≡ y
same_value x y e = cc

pub fields_held_after : (mesh : MeshLists) (c : Comprehension) (turns : ℕ) (s : State) (id : ℕ) (store later : StoreView) → HoldsFields s store
    → HasActed (acts mesh c turns s id) store later → HoldsFields (iteration mesh c turns s id).after.state later
fields_held_after mesh c turns s id store later held acted = record { holds = λ spot value is. go spot value (value_in s.fields spot) refl (sym (after spot) ∙ is) } where
  determined : ActsDetermineValues (iteration_start c turns s id) (iteration mesh c turns s id).after
  determined =
      values_determined (iteration_start c turns s id) (iteration mesh c turns s id).after
      ((keeps_body fields_made mesh c.environment c.body (λ a t. tt {0})).preserved (iteration_start c turns s id))

  after : (spot : Spot) → value_in (iteration mesh c turns s id).after.state.fields spot ≡ value_after_acts spot (value_in s.fields spot) (acts mesh c turns s id)
  after spot = determined.values_are spot ∙ ap (value_after_acts spot (value_in s.fields spot)) (sym determined.acts_are)

  none_some : (value : ℤ) → None ≡ Some value → ⊥
  none_some value e = cc

  go : (spot : Spot) (value : ℤ) (old : Option ℤ) → value_in s.fields spot ≡ old → value_after_acts spot (value_in s.fields spot) (acts mesh c turns s id) ≡ Some value
      → HoldsAt later spot value
  go spot value None e is =
      absurd (none_some value (sym (none_is (acts mesh c turns s id) spot) ∙ ap (λ old. value_after_acts spot old (acts mesh c turns s id)) (sym e) ∙ is))
  go spot value (Some old) e is =
      let before : HoldsAt store spot old = held.holds spot old e in
      record {
        value_is = acted.values spot ∙ ap (value_after (acts mesh c turns s id) spot) before.value_is
            ∙ same_value (value_after (acts mesh c turns s id) spot old) value
            (sym (value_is (acts mesh c turns s id) spot old) ∙ ap (λ old. value_after_acts spot old (acts mesh c turns s id)) (sym e) ∙ is);
        loadable = ap (λ (spots : Spot → Bool). spots spot) acted.spots.loadable ∙ before.loadable;
        storable = ap (λ (spots : Spot → Bool). spots spot) acted.spots.storable ∙ before.storable;
      }
