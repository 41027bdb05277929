-- Lists, scalars and evaluations in the steps of a run of the main program.
use Rattle.std.proofs.Common.{◌≡◌, ◌≢◌, ◌<◌, ◌≤◌, ◌⊎◌, ℕ, zero, suc, ◌==◌, true, false, List, [], ◌∷◌, ◌++◌, length, map, take, drop, get_or, refl, sym, ap, subst, ◌∙◌, inl, inr, arith, eqb-true, eq-eqb, ne_eqb}
use Rattle.std.proofs.lemmas.Bool.{cases_Bool}
use Rattle.std.proofs.lemmas.Option.{slice_get_within}
use Rattle.std.specs.List.{slice_set}
use Rattle.std.specs.Prelude.{Option, Some, None, slice_get, ℤ, Result, Ok, Err, if◌then◌else◌}
use Rattle.liszt_base.specs.MeshLists.{MeshLists}
use Rattle.liszt_base.specs.declared.answers.Trap.{Trap}
use Rattle.liszt_tree.specs.Tree.{Expression}
use Rattle.phase_types.specs.Environments.{Environment, lookup}
use Rattle.kernel_eval.specs.Meaning.{Value, NumberValue, TruthValue, ElementValue, number_of, truth_of, meaning, number_in, truth_in}
use Rattle.kernel_eval.specs.Outcomes.{Stop, Trapped, NoMeaning, Outcome, halt, continue_with, ◌>>=◌, ◌>>◌}
use Rattle.kernel_eval.specs.States.{State, EvaluationState, scalar_value, with_scalar_value, known_scalars, main_evaluation}
use Rattle.kernel_eval.proofs.MainExpressionLemmas.{nothing_changed}
use Rattle.kernel_eval.specs.HeldFields.{HoldsScalars}
use Rattle.kernel_eval.proofs.ReductionLemmas.{updated, not_updated}
use Rattle.seq_meaning.specs.MainCode.{IsAnswerOf}
use Rattle.seq_meaning.specs.MainRuns.{Descends}
use Rattle.seq_meaning.specs.MainValues.{Answer}
use Rattle.seq_meaning.specs.Runs.{Progress, with_scalar}

-- A CHANGED PLACE of a list, and the others
pub set_here : {A : Type 0} (xs : List A) (i : ℕ) (x : A) → i < length xs → slice_get (slice_set xs i x) i ≡ Some x
set_here [] i x l = absurd (omega (arith, l))
set_here (y ∷ xs) zero x l = refl
set_here (y ∷ xs) (suc i) x l = set_here xs i x (omega (arith, l))

pub set_there : {A : Type 0} (xs : List A) (i j : ℕ) (x : A) → (i ≡ j → ⊥) → slice_get (slice_set xs i x) j ≡ slice_get xs j
set_there [] i j x n = refl
set_there (y ∷ xs) zero zero x n = absurd (n refl)
set_there (y ∷ xs) zero (suc j) x n = refl
set_there (y ∷ xs) (suc i) zero x n = refl
set_there (y ∷ xs) (suc i) (suc j) x n = set_there xs i j x (λ e. n (ap suc e))

pub length_set : {A : Type 0} (xs : List A) (i : ℕ) (x : A) → length (slice_set xs i x) ≡ length xs
length_set [] i x = refl
length_set (y ∷ xs) zero x = refl
length_set (y ∷ xs) (suc i) x = ap suc (length_set xs i x)

pub drop_at : {A : Type 0} (xs : List A) (i : ℕ) (x : A) → slice_get xs i ≡ Some x → drop i xs ≡ x ∷ drop (suc i) xs
drop_at [] i x e = absurd cc
drop_at (y ∷ xs) zero x e = let same : y ≡ x = cc in ap (λ y. y ∷ xs) same
drop_at (y ∷ xs) (suc i) x e = drop_at xs i x e

pub drop_past : {A : Type 0} (xs : List A) (i : ℕ) → slice_get xs i ≡ None → drop i xs ≡ []
drop_past [] zero e = refl
drop_past [] (suc i) e = refl
drop_past (y ∷ xs) zero e = absurd cc
drop_past (y ∷ xs) (suc i) e = drop_past xs i e

pub take_more : (xs : List ℤ) (n : ℕ) (x : ℤ) → n < length xs → take (suc n) (slice_set xs n x) ≡ take n xs ++ x ∷ []
take_more [] n x l = absurd (omega (arith, l))
take_more (y ∷ xs) zero x l = refl
take_more (y ∷ xs) (suc n) x l = ap (λ xs. y ∷ xs) (take_more xs n x (omega (arith, l)))

pub length_take : (xs : List ℤ) (n : ℕ) → n ≤ length xs → length (take n xs) ≡ n
length_take xs zero l = refl
length_take [] (suc n) l = absurd (omega (arith, l))
length_take (y ∷ xs) (suc n) l = ap suc (length_take xs n (omega (arith, l)))

-- DESCENDING numbers
pub descends_below : (n m : ℕ) (ns : List ℕ) → n ≤ m → Descends n ns → Descends m ns
descends_below n m [] l h = tt
descends_below n m (k ∷ ns) l h = (omega (arith, l, h.0), h.1)

pub descends_in : (bound : ℕ) (front back : List ℕ) → Descends bound (front ++ back) → Descends bound back
descends_in bound [] back h = h
descends_in bound (n ∷ front) back h = descends_below n bound back (omega (arith, h.0)) (descends_in n front back h.1)

-- SCALARS that are held
abbrev value_of : List (ℕ × ℤ) → ℕ → Option ℤ
value_of entries number = lookup (λ other. other == number) entries

abbrev keys_of : List (ℕ × ℤ) → List ℕ
keys_of entries = map (λ entry. entry.0) entries

first_is : (entry : ℕ × ℤ) (rest : List (ℕ × ℤ)) (number : ℕ) → entry.0 ≡ number → value_of (entry ∷ rest) number ≡ Some entry.1
first_is entry rest number e = rw (eq-eqb entry.0 number e) refl

first_is_not : (entry : ℕ × ℤ) (rest : List (ℕ × ℤ)) (number : ℕ) → (entry.0 ≡ number → ⊥) → value_of (entry ∷ rest) number ≡ value_of rest number
first_is_not entry rest number n = rw (ne_eqb entry.0 number n) refl

known_below : (bound : ℕ) (entries : List (ℕ × ℤ)) (number : ℕ) (value : ℤ) → Descends bound (keys_of entries) → value_of entries number ≡ Some value → number < bound
known_below bound [] number value h e = absurd cc
known_below bound (entry ∷ rest) number value h e = elim (cases_Bool (entry.0 == number)) [
  | inl is ↦ let same : entry.0 ≡ number = eqb-true entry.0 number is in omega (arith, same, h.0)
  | inr is ↦ let l = known_below entry.0 rest number value h.1 (sym (rw is refl) ∙ e) in omega (arith, l, h.0)
]

-- after the first ones are dropped
pub value_in_rest : (bound dropped : ℕ) (entries : List (ℕ × ℤ)) (number : ℕ) (value : ℤ) → Descends bound (keys_of entries) → value_of (drop dropped entries) number ≡ Some value → value_of entries number ≡ Some value
value_in_rest bound zero entries number value h e = e
value_in_rest bound (suc dropped) [] number value h e = e
value_in_rest bound (suc dropped) (entry ∷ rest) number value h e =
    let there : value_of rest number ≡ Some value = value_in_rest entry.0 dropped rest number value h.1 e in
    let l : number < entry.0 = known_below entry.0 rest number value h.1 there in
    first_is_not entry rest number (λ same. absurd (omega (arith, same, l))) ∙ there

pub drop_keys : (dropped : ℕ) (entries : List (ℕ × ℤ)) → keys_of (drop dropped entries) ≡ drop dropped (keys_of entries)
drop_keys zero entries = refl
drop_keys (suc dropped) [] = refl
drop_keys (suc dropped) (entry ∷ rest) = drop_keys dropped rest

pub drop_front : (front back : List ℕ) (n : ℕ) → n ≡ length front → drop n (front ++ back) ≡ back
drop_front front back n e = rw e (go front) where
  go : (front : List ℕ) → drop (length front) (front ++ back) ≡ back
  go [] = refl
  go (x ∷ front) = go front

pub holds_new : (scalars : List ℤ) (s : State) (number : ℕ) (value : ℤ) → number < length scalars → HoldsScalars s scalars → HoldsScalars (with_scalar number value s) (slice_set scalars number value)
holds_new scalars s number value l h = record { holds = λ other v e. go other v e (cases_Bool (number == other)) } where
  go : (other : ℕ) (v : ℤ) → scalar_value (with_scalar number value s) other ≡ Some v → ((number == other) ≡ true) ⊎ ((number == other) ≡ false) → slice_get (slice_set scalars number value) other ≡ Some v
  go other v e (inl is) =
      let same : number ≡ other = eqb-true number other is in
      let found : Some value ≡ Some v = sym (first_is (number, value) s.scalars other same) ∙ e in
      subst (λ other. slice_get (slice_set scalars number value) other ≡ Some v) same (set_here scalars number value l ∙ found)
  go other v e (inr is) =
      let apart : number ≡ other → ⊥ = (λ same. true_or_false (sym (eq-eqb number other same) ∙ is)) in
      set_there scalars number other value apart ∙ h.holds other v (sym (first_is_not (number, value) s.scalars other apart) ∙ e)
    where
      true_or_false : true ≡ false → ⊥
      true_or_false e = absurd cc

pub known_after_assignment : (number : ℕ) (value : ℤ) (s : State) → known_scalars (with_scalar_value number value s) ≡ known_scalars s
known_after_assignment number value s = go s.scalars where
  one : (entry : ℕ × ℤ) → (if entry.0 == number then (entry.0, value) else entry).0 ≡ entry.0
  one entry = elim (cases_Bool (entry.0 == number)) as (λ c. (if entry.0 == number then (entry.0, value) else entry).0 ≡ entry.0) [
    | inl is ↦ rw is refl
    | inr is ↦ rw is refl
  ]

  go : (entries : List (ℕ × ℤ)) → keys_of (map (λ entry. if entry.0 == number then (entry.0, value) else entry) entries) ≡ keys_of entries
  go [] = refl
  go (entry ∷ entries) = ap (λ key. key ∷ keys_of (map (λ entry. if entry.0 == number then (entry.0, value) else entry) entries)) (one entry) ∙ ap (λ keys. entry.0 ∷ keys) (go entries)

-- EVALUATIONS of the main program change nothing.
module _ (mesh : MeshLists) (environment : Environment) (e : Expression) (s : State) where
  abbrev m : EvaluationState
  m = main_evaluation s

  unchanged : (meaning mesh environment e m).after ≡ m
  unchanged = nothing_changed s s refl mesh mesh environment e

  number_after : (after : EvaluationState) (v : Value) → (number_of v after).after ≡ after
  number_after after (NumberValue n) = refl
  number_after after (TruthValue b) = refl
  number_after after (ElementValue x) = refl

  truth_after : (after : EvaluationState) (v : Value) → (truth_of v after).after ≡ after
  truth_after after (NumberValue n) = refl
  truth_after after (TruthValue b) = refl
  truth_after after (ElementValue x) = refl

  pub number_changes_nothing : (number_in mesh environment e m).after ≡ m
  number_changes_nothing = go (meaning mesh environment e m).after (meaning mesh environment e m).answer unchanged where
    go : (after : EvaluationState) (answer : Result Value Stop) → after ≡ m → (continue_with number_of after answer).after ≡ m
    go after (Ok v) is = number_after after v ∙ is
    go after (Err stop) is = is

  pub truth_changes_nothing : (truth_in mesh environment e m).after ≡ m
  truth_changes_nothing = go (meaning mesh environment e m).after (meaning mesh environment e m).answer unchanged where
    go : (after : EvaluationState) (answer : Result Value Stop) → after ≡ m → (continue_with truth_of after answer).after ≡ m
    go after (Ok v) is = truth_after after v ∙ is
    go after (Err stop) is = is

-- AN EVALUATION, and then the rest
pub record IsEvaluated {A : Type 0} (of_code : Answer A) (next : A → Progress → Outcome Progress (Unit {0})) (remaining : Progress → Outcome Progress (Unit {0})) (p : Progress) : Type 0 where
  pub has_meaning : of_code ≢ Err NoMeaning
  pub value : (a : A) → of_code ≡ Ok a → remaining p ≡ next a p
  pub trap : (t : Trap) → of_code ≡ Err (Trapped t) → remaining p ≡ halt (Trapped t) p

abbrev both_after : {A : Type 0} → (A → Progress → Outcome Progress (Unit {0})) → (Progress → Outcome Progress (Unit {0})) → Outcome Progress A → Outcome Progress (Unit {0})
both_after next rest outcome = continue_with (λ done. rest) (continue_with next outcome.after outcome.answer).after (continue_with next outcome.after outcome.answer).answer

pub evaluated : {A : Type 0} (first : Progress → Outcome Progress A) (next : A → Progress → Outcome Progress (Unit {0})) (rest : Progress → Outcome Progress (Unit {0})) (p : Progress)
    (of_tree of_code : Answer A) → first p ≡ record { after = p; answer = of_tree } → IsAnswerOf of_tree of_code → (((first >>= next) >> rest) p).answer ≢ Err NoMeaning
    → IsEvaluated of_code (λ a. next a >> rest) ((first >>= next) >> rest) p
evaluated first next rest p of_tree of_code is (inl none) meaning =
    absurd (meaning (ap (λ outcome. (both_after next rest outcome).answer) (is ∙ ap (λ answer. record { after = p; answer = answer }) none)))
evaluated first next rest p of_tree of_code is (inr same) meaning = record {
  has_meaning = λ none. meaning (ap (λ outcome. (both_after next rest outcome).answer) (is ∙ ap (λ answer. record { after = p; answer = answer }) (same ∙ none)));
  value = λ a e. ap (both_after next rest) (is ∙ ap (λ answer. record { after = p; answer = answer }) (same ∙ e));
  trap = λ t e. ap (both_after next rest) (is ∙ ap (λ answer. record { after = p; answer = answer }) (same ∙ e));
}

-- an assigned scalar
pub holds_assigned : (scalars : List ℤ) (s : State) (number : ℕ) (value old : ℤ) → scalar_value s number ≡ Some old → HoldsScalars s scalars
    → HoldsScalars (with_scalar_value number value s) (slice_set scalars number value)
holds_assigned scalars s number value old is h = record { holds = λ other v e. go other v e (cases_Bool (other == number)) } where
  go : (other : ℕ) (v : ℤ) → scalar_value (with_scalar_value number value s) other ≡ Some v → ((other == number) ≡ true) ⊎ ((other == number) ≡ false)
      → slice_get (slice_set scalars number value) other ≡ Some v
  go other v e (inl same) =
      let same : other ≡ number = eqb-true other number same in
      let found : Some value ≡ Some v = sym (updated number value old s.scalars is) ∙ ap (λ number'. scalar_value (with_scalar_value number value s) number') (sym same) ∙ e in
      subst (λ other. slice_get (slice_set scalars number value) other ≡ Some v) (sym same)
      (set_here scalars number value (slice_get_within scalars number old (h.holds number old is)) ∙ found)
  go other v e (inr not) =
      let apart : other ≡ number → ⊥ = (λ same. true_or_false (sym (eq-eqb other number same) ∙ not)) in
      set_there scalars number other value (λ same. apart (sym same)) ∙ h.holds other v (sym (not_updated number other value apart s.scalars) ∙ e)
    where
      true_or_false : true ≡ false → ⊥
      true_or_false e = absurd cc

-- items of lists by both ways of reading them
pub item_got : {A : Type 0} (xs : List A) (i : ℕ) (x : A) → i < length xs → x ≡ get_or xs i x → slice_get xs i ≡ Some x
item_got [] i x l e = absurd (omega (arith, l))
item_got (y ∷ xs) zero x l e = ap Some (sym e)
item_got (y ∷ xs) (suc i) x l e = item_got xs i x (omega (arith, l)) e

pub got_item : {A : Type 0} (xs : List A) (i : ℕ) (x other : A) → slice_get xs i ≡ Some x → get_or xs i other ≡ x
got_item [] i x other e = absurd cc
got_item (y ∷ xs) zero x other e = cc
got_item (y ∷ xs) (suc i) x other e = got_item xs i x other e
