-- States that agree for a comprehension, and an iteration from each of them.
use Rattle.std.proofs.Common.{◌≡◌, ◌≢◌, ℕ, zero, suc, ◌+◌, ◌==◌, ◌<◌, ◌≤◌, ◌⊎◌, inl, inr, List, [], ◌∷◌, map, length, replicate, Option, Some, None, Bool, true, false, refl, sym, ap, subst, ◌∙◌, arith, eq-eqb, eqb-true}
use Rattle.std.proofs.lemmas.Bool.{cases_Bool, eqb-false}
use Rattle.std.proofs.lemmas.List.{get_or-replicate, get_or-set_other, get_or-set_same, length-replicate, length-set}
use Rattle.std.proofs.lemmas.List.FromFn.{get_or-map-range_with_len}
use Rattle.std.specs.List.{AllByRecursion, filter, fold, range_with_len, slice_set, sum_by}
use Rattle.std.specs.Option.{option_and_then, option_map}
use Rattle.std.specs.Prelude.{ℤ, pos, get_or, slice_get, unwrap_or}
use Rattle.liszt_base.specs.MeshLists.{MeshLists}
use Rattle.liszt_base.specs.Reductions.{fold as folded, identity_of}
use Rattle.liszt_base.specs.declared.accesses.Mode.{Mode}
use Rattle.liszt_base.specs.declared.accesses.Mode.TheVariants.{Read, Reduce}
use Rattle.liszt_base.specs.declared.accesses.Spot.{Spot}
use Rattle.liszt_base.specs.declared.elements.Op.{Op}
use Rattle.phase_types.specs.Environments.{Comprehension, Environment, lookup}
use Rattle.phase_types.specs.Walk.{OfField, OfScalar, mode_in}
use Rattle.kernel_eval.specs.Fits.{StateFits}
use Rattle.kernel_eval.specs.CodeIterations.{HasValues}
use Rattle.kernel_eval.specs.Iterations.{partials_after, partials_after_fold, reduced_value}
use Rattle.kernel_eval.specs.Preservation.{FoldsByTheMode}
use Rattle.kernel_eval.specs.States.{State, ScalarFold, scalar_value, value_in}
use Rattle.kernel_eval.proofs.ShapeLemmas.{shape, unit_of, still_fits}
use Rattle.independence.specs.Independence.{AgreeFor}

pub agree_itself : (c : Comprehension) (s : State) → AgreeFor c s s
agree_itself c s = record { fields = refl; scalars = refl; values = λ field mode. refl; scalar_values = λ scalar mode. refl }

pub agree_then : {c : Comprehension} {s t u : State} → AgreeFor c s t → AgreeFor c t u → AgreeFor c s u
agree_then a b =
    record {
      fields = b.fields ∙ a.fields;
      scalars = b.scalars ∙ a.scalars;
      values = λ field mode. b.values field mode ∙ a.values field mode;
      scalar_values = λ scalar mode. b.scalar_values scalar mode ∙ a.scalar_values scalar mode;
    }

-- the same names
units : (scalars : List (ℕ × ℤ)) → shape unit_of scalars ≡ map (λ key. (key, tt)) (map (λ scalar. scalar.0) scalars)
units [] = refl
units (scalar ∷ rest) = ap (λ entries. (scalar.0, tt) ∷ entries) (units rest)

pub agree_fits : {mesh : MeshLists} {environment : Environment} (c : Comprehension) (s t : State) → AgreeFor c s t → StateFits mesh environment s → StateFits mesh environment t
agree_fits c s t a h = still_fits (record { fields = a.fields; scalars = units t.scalars ∙ ap (map (λ key. (key, tt))) a.scalars ∙ sym (units s.scalars) }) h

-- THE VALUES THAT ARE READ, and the scalars by their numbers
abbrev pub values_of : State → Spot → ℤ
values_of s spot = unwrap_or (value_in s.fields spot) (pos 0)

pub own_values : (c : Comprehension) (s : State) → HasValues c s (values_of s)
own_values c s = record { read = λ spot value mode declared is. ap (λ o. unwrap_or o (pos 0)) is }

pub agreed_values : (c : Comprehension) (s t : State) → AgreeFor c s t → HasValues c t (values_of s)
agreed_values c s t a = record {
  read = λ spot value mode declared is.
      ap (λ o. unwrap_or o (pos 0)) (sym (ap (option_and_then (λ values. slice_get values spot.id)) (a.values spot.field mode)) ∙ is);
}

abbrev keys_sum : List (ℕ × ℤ) → ℕ
keys_sum [] = 0
keys_sum (scalar ∷ rest) = scalar.0 + keys_sum rest

key_within : (scalars : List (ℕ × ℤ)) (key : ℕ) (value : ℤ) → lookup (λ other. other == key) scalars ≡ Some value → key ≤ keys_sum scalars
key_within [] key value is = absurd cc
key_within (scalar ∷ rest) key value is = elim (cases_Bool (scalar.0 == key)) [
  | inl h ↦ omega (arith, eqb-true scalar.0 key h)
  | inr h ↦ omega (arith, key_within rest key value (sym (rw h refl) ∙ is))
]

abbrev pub numbered_scalars : State → List ℤ
numbered_scalars s = map (λ scalar. unwrap_or (scalar_value s scalar) (pos 0)) (range_with_len 0 (suc (keys_sum s.scalars)))

pub numbered : (s : State) (scalar : ℕ) (value : ℤ) → scalar_value s scalar ≡ Some value → get_or (numbered_scalars s) scalar (pos 0) ≡ value
numbered s scalar value is =
    let within : scalar ≤ keys_sum s.scalars = key_within s.scalars scalar value is in
    get_or-map-range_with_len (λ number. unwrap_or (scalar_value s number) (pos 0)) 0 (suc (keys_sum s.scalars)) scalar scalar (pos 0) (omega (arith, within)) (omega arith)
    ∙ ap (λ o. unwrap_or o (pos 0)) is

-- THE PARTIAL of a scalar after reductions by the mode of each scalar
abbrev pub operands : ℕ → List ScalarFold → List ℤ
operands scalar folds = map (λ f. f.value) (filter (λ f. f.scalar == scalar) folds)

partial_after : (c : Comprehension) (scalar : ℕ) (op : Op) → mode_in c (OfScalar scalar) ≡ Some (Reduce op) → (partials : List ℤ) (folds : List ScalarFold)
    → AllByRecursion (FoldsByTheMode c) folds → scalar < length partials
    → get_or (partials_after partials folds) scalar (pos 0) ≡ fold (folded op) (get_or partials scalar (pos 0)) (operands scalar folds)
partial_after c scalar op mode partials [] modes below = refl
partial_after c scalar op mode partials (f ∷ rest) modes below = elim (cases_Bool (f.scalar == scalar)) [
  | inl h ↦
      let same : f.scalar ≡ scalar = eqb-true f.scalar scalar h in
      let by : Some (Reduce op) ≡ Some (Reduce f.op) = sym mode ∙ ap (λ n. mode_in c (OfScalar n)) (sym same) ∙ modes.0 in
      let op_is : op ≡ f.op = cc in
      let now : get_or (partials_after_fold partials f) scalar (pos 0) ≡ folded op (get_or partials scalar (pos 0)) f.value =
      ap (λ n. get_or (slice_set partials n (folded f.op (get_or partials n (pos 0)) f.value)) scalar (pos 0)) same
      ∙ get_or-set_same partials scalar (folded f.op (get_or partials scalar (pos 0)) f.value) (pos 0) below
      ∙ ap (λ o. folded o (get_or partials scalar (pos 0)) f.value) (sym op_is) in
      partial_after c scalar op mode (partials_after_fold partials f) rest modes.1 (omega (arith, below, length-set partials f.scalar (folded f.op (get_or partials f.scalar (pos 0)) f.value)))
      ∙ ap (λ value. fold (folded op) value (operands scalar rest)) now
      ∙ sym (rw h refl)
  | inr h ↦
      let other : get_or (partials_after_fold partials f) scalar (pos 0) ≡ get_or partials scalar (pos 0) =
      get_or-set_other partials f.scalar scalar (folded f.op (get_or partials f.scalar (pos 0)) f.value) (pos 0) (λ e. eqb-false f.scalar scalar h (sym e)) in
      partial_after c scalar op mode (partials_after_fold partials f) rest modes.1 (omega (arith, below, length-set partials f.scalar (folded f.op (get_or partials f.scalar (pos 0)) f.value)))
      ∙ ap (λ value. fold (folded op) value (operands scalar rest)) other
      ∙ sym (rw h refl)
]

pub reduced_by_partials : (c : Comprehension) (scalar : ℕ) (op : Op) (folds : List ScalarFold) → mode_in c (OfScalar scalar) ≡ Some (Reduce op) → AllByRecursion (FoldsByTheMode c) folds
    → reduced_value (mode_in c (OfScalar scalar)) (operands scalar folds) ≡ Some (get_or (partials_after (replicate (suc scalar) (identity_of op)) folds) scalar (pos 0))
reduced_by_partials c scalar op folds mode modes =
    let long : length (replicate (suc scalar) (identity_of op)) ≡ suc scalar = length-replicate (suc scalar) (identity_of op) in
    ap (λ m. reduced_value m (operands scalar folds)) mode
    ∙ ap (λ start. Some (fold (folded op) start (operands scalar folds))) (sym (get_or-replicate (suc scalar) scalar (identity_of op) (pos 0) (omega arith)))
    ∙ ap Some (sym (partial_after c scalar op mode (replicate (suc scalar) (identity_of op)) folds modes (omega (arith, long))))
