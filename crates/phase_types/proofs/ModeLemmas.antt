-- The accesses of a comprehension have no conflict if and only if they have one mode.
use Rattle.std.proofs.Common.{◌≡◌, Bool, true, false, not, cond, List, [], ◌∷◌, ◌++◌, refl, sym, ap, subst, ◌∙◌, eqb-true, eq-eqb}
use Rattle.std.specs.List.{AllByRecursion, filter, filter_map, list_any}
use Rattle.std.specs.Option.{option_map}
use Rattle.std.specs.Prelude.{Option, Some, None, ◌||◌}
use Rattle.liszt_base.specs.declared.accesses.Mode.{Mode}
use Rattle.liszt_base.specs.declared.accesses.Mode.TheVariants.{Read, Write, Reduce}
use Rattle.liszt_base.specs.declared.answers.ProgramFault.{ProgramFault}
use Rattle.liszt_base.specs.declared.elements.Op.{Op}
use Rattle.liszt_base.specs.declared.elements.Op.TheVariants.{Add, Mul, And, Or, Xor, Min, Max}
use Rattle.phase_types.specs.Typed.{AgreesWith, HaveOneMode}
use Rattle.phase_types.specs.Walk.{Subject, OfField, OfScalar, is_subject, AccessAt, is_op, is_mode, Step, TestStep, AccessStep, access_of, conflict_place, conflict, faults_in_steps}
use Rattle.phase_types.proofs.StepLemmas.{all_of_both, all_of_first, all_of_second, Passes, AllPass}

-- equality of subjects and of modes
ops_are : (op other : Op) → is_op op other ≡ true → op ≡ other
ops_are Add Add e = refl
ops_are Mul Mul e = refl
ops_are And And e = refl
ops_are Or Or e = refl
ops_are Xor Xor e = refl
ops_are Min Min e = refl
ops_are Max Max e = refl
ops_are _ _ e = absurd cc

same_op : (op : Op) → is_op op op ≡ true
same_op Add = refl
same_op Mul = refl
same_op And = refl
same_op Or = refl
same_op Xor = refl
same_op Min = refl
same_op Max = refl

pub modes_are : (mode other : Mode) → is_mode mode other ≡ true → mode ≡ other
modes_are Read Read e = refl
modes_are Write Write e = refl
modes_are (Reduce op) (Reduce other) e = ap Reduce (ops_are op other e)
modes_are _ _ e = absurd cc

same_mode : (mode : Mode) → is_mode mode mode ≡ true
same_mode Read = refl
same_mode Write = refl
same_mode (Reduce op) = same_op op

pub subjects_are : (subject other : Subject) → is_subject subject other ≡ true → subject ≡ other
subjects_are (OfField number) (OfField other) e = ap OfField (eqb-true number other e)
subjects_are (OfScalar number) (OfScalar other) e = ap OfScalar (eqb-true number other e)
subjects_are _ _ e = absurd cc

same_subject : (subject : Subject) → is_subject subject subject ≡ true
same_subject (OfField number) = eq-eqb number number refl
same_subject (OfScalar number) = eq-eqb number number refl

pub same_subjects : (subject other : Subject) → subject ≡ other → is_subject subject other ≡ true
same_subjects subject other is = subst (λ other. is_subject subject other ≡ true) is (same_subject subject)

turned : (subject other : Subject) → is_subject subject other ≡ true → is_subject other subject ≡ true
turned subject other e = subst (λ other. is_subject other subject ≡ true) (subjects_are subject other e) (same_subject subject)

-- NO CONFLICT with earlier accesses: those to the same field or scalar have the same mode
none_of_both : (a b : Bool) → (a || b) ≡ false → (a ≡ false) × (b ≡ false)
none_of_both false false e = (refl, refl)
none_of_both true b e = absurd cc
none_of_both false true e = absurd cc

both_false : (a b : Bool) → a ≡ false → b ≡ false → (a || b) ≡ false
both_false a b e f = ap (λ a. a || b) e ∙ f

abbrev differs : AccessAt → AccessAt → Bool
differs access earlier = not (is_mode access.mode earlier.mode)

abbrev is_same : AccessAt → AccessAt → Bool
is_same access earlier = is_subject access.subject earlier.subject

none_of_place : (access : AccessAt) (same : List AccessAt) → conflict_place access same ≡ None → list_any (differs access) same ≡ false
none_of_place access [] e = refl
none_of_place access (other ∷ rest) e = go (list_any (differs access) (other ∷ rest)) refl e where
  go : (b : Bool) → list_any (differs access) (other ∷ rest) ≡ b → cond b (Some other.place) None ≡ None → list_any (differs access) (other ∷ rest) ≡ false
  go true is e = absurd cc
  go false is e = is

place_of_none : (access : AccessAt) (same : List AccessAt) → list_any (differs access) same ≡ false → conflict_place access same ≡ None
place_of_none access [] e = refl
place_of_none access (other ∷ rest) e = ap (λ b. cond b (Some other.place) None) e

agreeing : (access earlier : AccessAt) → is_same access earlier ≡ true → differs access earlier ≡ false → AgreesWith earlier access
agreeing access earlier is e = λ same. sym (modes_are access.mode earlier.mode (go (is_mode access.mode earlier.mode) e)) where
  go : (b : Bool) → not b ≡ false → b ≡ true
  go true e = refl
  go false e = absurd cc

-- from the test on the filtered list, and back
all_agree : (access : AccessAt) (earlier : List AccessAt) → list_any (differs access) (filter (is_same access) earlier) ≡ false
    → AllByRecursion (λ other. AgreesWith other access) earlier
all_agree access [] e = tt
all_agree access (other ∷ rest) e = go (is_same access other) refl (all_agree access rest) e where
  others : List AccessAt
  others = filter (is_same access) rest

  go : (b : Bool) → is_same access other ≡ b → (list_any (differs access) others ≡ false → AllByRecursion (λ other. AgreesWith other access) rest)
      → list_any (differs access) (cond b (other ∷ others) others) ≡ false → AgreesWith other access × AllByRecursion (λ other. AgreesWith other access) rest
  go true is again e =
      let both = none_of_both (differs access other) (list_any (differs access) others) e in
      (agreeing access other is both.0, again both.1)
  go false is again e = ((λ same. absurd (cc (is, turned other.subject access.subject same))), again e)

none_differs : (access : AccessAt) (earlier : List AccessAt) → AllByRecursion (λ other. AgreesWith other access) earlier
    → list_any (differs access) (filter (is_same access) earlier) ≡ false
none_differs access [] h = refl
none_differs access (other ∷ rest) h = go (is_same access other) refl (none_differs access rest h.1) where
  others : List AccessAt
  others = filter (is_same access) rest

  go : (b : Bool) → is_same access other ≡ b → list_any (differs access) others ≡ false → list_any (differs access) (cond b (other ∷ others) others) ≡ false
  go true is again =
      both_false (differs access other) (list_any (differs access) others)
      (ap (λ mode. not (is_mode access.mode mode)) (h.0 (turned access.subject other.subject is)) ∙ ap not (same_mode access.mode)) again
  go false is again = again

unmapped : {A B : Type 0} (f : A → B) (found : Option A) → option_map f found ≡ None → found ≡ None
unmapped f None e = refl
unmapped f (Some a) e = absurd cc

no_conflict_agrees : (earlier : List AccessAt) (access : AccessAt) → conflict earlier access ≡ None → AllByRecursion (λ other. AgreesWith other access) earlier
no_conflict_agrees earlier access e =
    all_agree access earlier (none_of_place access (filter (is_same access) earlier) (unmapped _ (conflict_place access (filter (is_same access) earlier)) e))

agreed_no_conflict : (earlier : List AccessAt) (access : AccessAt) → AllByRecursion (λ other. AgreesWith other access) earlier → conflict earlier access ≡ None
agreed_no_conflict earlier access h =
    ap (option_map _) (place_of_none access (filter (is_same access) earlier) (none_differs access earlier h))

-- each access with the earlier ones
abbrev NoConflicts : List AccessAt → List AccessAt → Type 0
NoConflicts earlier [] = Unit {0}
NoConflicts earlier (access ∷ rest) = (conflict earlier access ≡ None) × NoConflicts (earlier ++ access ∷ []) rest

abbrev AllAgree : List AccessAt → List AccessAt → Type 0
AllAgree earlier accesses = AllByRecursion (λ other. AllByRecursion (AgreesWith other) accesses) earlier

none_to_agree : (earlier : List AccessAt) → AllAgree earlier []
none_to_agree [] = tt
none_to_agree (other ∷ rest) = (tt, none_to_agree rest)

agree_cons : (access : AccessAt) (accesses earlier : List AccessAt) → AllByRecursion (λ other. AgreesWith other access) earlier → AllAgree earlier accesses
    → AllAgree earlier (access ∷ accesses)
agree_cons access accesses [] h g = tt
agree_cons access accesses (other ∷ rest) h g = ((h.0, g.0), agree_cons access accesses rest h.1 g.1)

agree_uncons : (access : AccessAt) (accesses earlier : List AccessAt) → AllAgree earlier (access ∷ accesses)
    → AllByRecursion (λ other. AgreesWith other access) earlier × AllAgree earlier accesses
agree_uncons access accesses [] h = (tt, tt)
agree_uncons access accesses (other ∷ rest) h = let others = agree_uncons access accesses rest h.1 in ((h.0.0, others.0), (h.0.1, others.1))

one_mode : (accesses earlier : List AccessAt) → NoConflicts earlier accesses → AllAgree earlier accesses × HaveOneMode accesses
one_mode [] earlier h = (none_to_agree earlier, tt)
one_mode (access ∷ rest) earlier h =
    let others = one_mode rest (earlier ++ access ∷ []) h.1 in (
      agree_cons access rest earlier (no_conflict_agrees earlier access h.0) (all_of_first _ earlier (access ∷ []) others.0),
      ((all_of_second _ earlier (access ∷ []) others.0).0, others.1),
    )

no_conflicts : (accesses earlier : List AccessAt) → AllAgree earlier accesses → HaveOneMode accesses → NoConflicts earlier accesses
no_conflicts [] earlier h g = tt
no_conflicts (access ∷ rest) earlier h g =
    let parts = agree_uncons access rest earlier h in
    (agreed_no_conflict earlier access parts.0, no_conflicts rest (earlier ++ access ∷ []) (all_of_both _ earlier (access ∷ []) parts.1 (g.0, tt)) g.1)

-- THE FAULTS OF STEPS: none if all tests pass and no access is a conflict
abbrev pub IsNone : Option ProgramFault → Type 0
IsNone fault = fault ≡ None

steps_have_no_fault : (steps : List Step) (earlier : List AccessAt) → AllByRecursion Passes steps → NoConflicts earlier (filter_map access_of steps)
    → AllByRecursion IsNone (faults_in_steps earlier steps)
steps_have_no_fault [] earlier h g = tt
steps_have_no_fault (TestStep fault ∷ steps) earlier h g = (h.0, steps_have_no_fault steps earlier h.1 g)
steps_have_no_fault (AccessStep access ∷ steps) earlier h g = (g.0, steps_have_no_fault steps (earlier ++ access ∷ []) h.1 g.1)

steps_without_fault : (steps : List Step) (earlier : List AccessAt) → AllByRecursion IsNone (faults_in_steps earlier steps)
    → AllByRecursion Passes steps × NoConflicts earlier (filter_map access_of steps)
steps_without_fault [] earlier h = (tt, tt)
steps_without_fault (TestStep fault ∷ steps) earlier h = let others = steps_without_fault steps earlier h.1 in ((h.0, others.0), others.1)
steps_without_fault (AccessStep access ∷ steps) earlier h = let others = steps_without_fault steps (earlier ++ access ∷ []) h.1 in ((tt, others.0), (h.0, others.1))

pub typed_steps_have_no_fault : (steps : List Step) → AllPass steps → HaveOneMode (filter_map access_of steps) → AllByRecursion IsNone (faults_in_steps [] steps)
typed_steps_have_no_fault steps h g = steps_have_no_fault steps [] h.all (no_conflicts (filter_map access_of steps) [] tt g)

pub typed_steps_without_fault : (steps : List Step) → AllByRecursion IsNone (faults_in_steps [] steps) → AllPass steps × HaveOneMode (filter_map access_of steps)
typed_steps_without_fault steps h =
    let parts = steps_without_fault steps [] h in
    (record { all = parts.0 }, (one_mode (filter_map access_of steps) [] parts.1).1)
