-- The first accesses to each field and scalar find the conflicts that all accesses have.
use Rattle.std.proofs.Common.{◌≡◌, Bool, true, false, not, cond, List, [], ◌∷◌, ◌++◌, refl, sym, ap, subst, ◌∙◌, append_assoc}
use Rattle.std.proofs.lemmas.List.{append-nil}
use Rattle.std.proofs.lemmas.List.Elements.{filter-append}
use Rattle.std.proofs.lemmas.List.Folds.{list_any-append, find-append}
use Rattle.std.specs.List.{find, filter, filter_map, list_any}
use Rattle.std.specs.Option.{option_map, option_or, option_and_then}
use Rattle.std.specs.Prelude.{Option, Some, None, is_some, ◌||◌, if◌then◌else◌, Result, Ok, Err}
use Rattle.liszt_base.specs.declared.answers.Place.{Place}
use Rattle.liszt_base.specs.declared.answers.ProgramFault.{ProgramFault}
use Rattle.phase_types.specs.Resolve.{◌>>=◌, Accesses, after_first, first_access, conflict_between}
use Rattle.phase_types.specs.Walk.{Subject, is_subject, AccessAt, is_mode, Step, TestStep, AccessStep, access_of, conflict_place, conflict, faults_in_steps, faults_in_main}
use Rattle.phase_types.proofs.ModeLemmas.{modes_are, subjects_are}
use Rattle.phase_types.proofs.WalkLemmas.{walk}

-- THE FIRST FAULT of a list of tests
abbrev pub first_fault : List (Option ProgramFault) → Option ProgramFault
first_fault found = option_and_then (λ fault. fault) (find is_some found)

-- THE CONFLICT of an access with the first one to the same field or scalar
abbrev pub conflict_with : Option AccessAt → AccessAt → Option ProgramFault
conflict_with None access = None
conflict_with (Some first) access = if is_mode access.mode first.mode then None else Some (conflict_between access.place first.place)

-- FIRST ACCESSES of earlier ones: they are those found first, and find the conflicts of a further access
pub record Summarizes (firsts earlier : List AccessAt) : Type 0 where
  pub found : (subject : Subject) → first_access firsts subject ≡ first_access earlier subject
  pub conflicts : (access : AccessAt) → conflict earlier access ≡ conflict_with (first_access earlier access.subject) access

pub no_accesses : Summarizes [] []
no_accesses = record { found = λ subject. refl; conflicts = λ access. refl }

abbrev is_same : AccessAt → AccessAt → Bool
is_same access other = is_subject access.subject other.subject

abbrev differs : AccessAt → AccessAt → Bool
differs access other = not (is_mode access.mode other.mode)

abbrev conflict_at : AccessAt → Option Place → Option ProgramFault
conflict_at access place = option_map (λ first. conflict_between access.place first) place

-- one access alone
alone : (access other : AccessAt) → conflict_at access (conflict_place access (other ∷ [])) ≡ conflict_with (Some other) access
alone access other = go (is_mode access.mode other.mode) where
  go : (b : Bool) → conflict_at access (cond (not b || false) (Some other.place) None) ≡ cond b None (Some (conflict_between access.place other.place))
  go true = refl
  go false = refl

-- the accesses found, by the first of them
no_filtered : (test : AccessAt → Bool) (earlier : List AccessAt) → find test earlier ≡ None → filter test earlier ≡ []
no_filtered test [] e = refl
no_filtered test (other ∷ rest) e = go (test other) e (no_filtered test rest) where
  go : (b : Bool) → cond b (Some other) (find test rest) ≡ None → (find test rest ≡ None → filter test rest ≡ []) → cond b (other ∷ filter test rest) (filter test rest) ≡ []
  go true e again = absurd cc
  go false e again = again e

filtered_from : (test : AccessAt → Bool) (earlier : List AccessAt) (first : AccessAt) → find test earlier ≡ Some first → (rest : List AccessAt) × (filter test earlier ≡ first ∷ rest)
filtered_from test [] first e = absurd cc
filtered_from test (other ∷ more) first e = go (test other) e (filtered_from test more first) where
  go : (b : Bool) → cond b (Some other) (find test more) ≡ Some first → (find test more ≡ Some first → (rest : List AccessAt) × (filter test more ≡ first ∷ rest))
      → (rest : List AccessAt) × (cond b (other ∷ filter test more) (filter test more) ≡ first ∷ rest)
  go true e again = (filter test more, ap (λ x. x ∷ filter test more) (same other first e))
    where
      same : (x y : AccessAt) → Some x ≡ Some y → x ≡ y
      same x y e = cc
  go false e again = again e

-- a further access in the mode of the first one changes nothing
joined : (d y : Bool) (place : Place) (access : AccessAt) → conflict_at access (cond (d || y) (Some place) None) ≡ cond (not d) None (Some (conflict_between access.place place))
    → conflict_at access (cond ((d || y) || d) (Some place) None) ≡ cond (not d) None (Some (conflict_between access.place place))
joined true y place access e = refl
joined false true place access e = e
joined false false place access e = refl

not_not : (b : Bool) → not (not b) ≡ b
not_not true = refl
not_not false = refl

module _ (earlier : List AccessAt) (agree : (access : AccessAt) → conflict earlier access ≡ conflict_with (first_access earlier access.subject) access) (next : AccessAt)
    (fits : conflict_with (first_access earlier next.subject) next ≡ None) where
  same_mode_as : (first : AccessAt) → first_access earlier next.subject ≡ Some first → next.mode ≡ first.mode
  same_mode_as first e = go (is_mode next.mode first.mode) refl (ap (λ found. conflict_with found next) (sym e) ∙ fits) where
    go : (b : Bool) → is_mode next.mode first.mode ≡ b → cond b None (Some (conflict_between next.place first.place)) ≡ None → next.mode ≡ first.mode
    go true is none = modes_are next.mode first.mode is
    go false is none = absurd cc

  -- another field or scalar
  other_subject : (access : AccessAt) → is_same access next ≡ false → conflict (earlier ++ next ∷ []) access ≡ conflict_with (first_access (earlier ++ next ∷ []) access.subject) access
  other_subject access e =
      ap (λ found. conflict_at access (conflict_place access found)) (filter-append (is_same access) earlier (next ∷ []) ∙ ap (λ b. filter (is_same access) earlier ++ cond b (next ∷ []) []) e ∙ append-nil (filter (is_same access) earlier))
      ∙ agree access
      ∙ ap (λ found. conflict_with found access) (sym (find-append (is_same access) earlier (next ∷ []) ∙ ap (λ b. option_or (find (is_same access) earlier) (cond b (Some next) None)) e ∙ or_none (find (is_same access) earlier)))
    where
      or_none : (found : Option AccessAt) → option_or found None ≡ found
      or_none None = refl
      or_none (Some x) = refl

  -- the same field or scalar
  same_subject_as : (access : AccessAt) → is_same access next ≡ true → (found : Option AccessAt) → find (is_same access) earlier ≡ found
      → conflict (earlier ++ next ∷ []) access ≡ conflict_with (first_access (earlier ++ next ∷ []) access.subject) access
  same_subject_as access e None is =
      ap (λ others. conflict_at access (conflict_place access others))
      (filter-append (is_same access) earlier (next ∷ []) ∙ ap (λ b. filter (is_same access) earlier ++ cond b (next ∷ []) []) e ∙ ap (λ xs. xs ++ next ∷ []) (no_filtered (is_same access) earlier is))
      ∙ alone access next
      ∙ ap (λ found. conflict_with found access)
      (sym (find-append (is_same access) earlier (next ∷ []) ∙ ap (λ b. option_or (find (is_same access) earlier) (cond b (Some next) None)) e ∙ ap (λ found. option_or found (Some next)) is))
  same_subject_as access e (Some first) is =
      let rest : _ = filtered_from (is_same access) earlier first is in
      let others : List AccessAt = first ∷ rest.0 in
      let filtered : filter (is_same access) (earlier ++ next ∷ []) ≡ others ++ next ∷ [] =
      filter-append (is_same access) earlier (next ∷ []) ∙ ap (λ b. filter (is_same access) earlier ++ cond b (next ∷ []) []) e ∙ ap (λ xs. xs ++ next ∷ []) rest.1 in
      let found_there : first_access (earlier ++ next ∷ []) access.subject ≡ Some first =
      find-append (is_same access) earlier (next ∷ []) ∙ ap (λ found. option_or found (find (is_same access) (next ∷ []))) is in
      let subject : access.subject ≡ next.subject = subjects_are access.subject next.subject e in
      let mode : next.mode ≡ first.mode = same_mode_as first (ap (first_access earlier) (sym subject) ∙ is) in
      let earlier_conflict : conflict_at access (conflict_place access others) ≡ conflict_with (Some first) access =
      ap (λ xs. conflict_at access (conflict_place access xs)) (sym rest.1) ∙ agree access ∙ ap (λ found. conflict_with found access) is in
      let joint : conflict_at access (cond (list_any (differs access) others || differs access first) (Some first.place) None) ≡ conflict_with (Some first) access =
      joint_of access first rest.0 earlier_conflict in
      ap (λ xs. conflict_at access (conflict_place access xs)) filtered
      ∙ ap (λ b. conflict_at access (cond b (Some first.place) None)) (list_any-append (differs access) others (next ∷ []) ∙ ap (λ b. list_any (differs access) others || b) (or_false (differs access next) ∙ ap (λ m. not (is_mode access.mode m)) mode))
      ∙ joint ∙ ap (λ found. conflict_with found access) (sym found_there)
    where
      or_false : (b : Bool) → (b || false) ≡ b
      or_false true = refl
      or_false false = refl

      joint_of : (access first : AccessAt) (rest : List AccessAt) → conflict_at access (conflict_place access (first ∷ rest)) ≡ conflict_with (Some first) access
          → conflict_at access (cond (list_any (differs access) (first ∷ rest) || differs access first) (Some first.place) None) ≡ conflict_with (Some first) access
      joint_of access first rest h =
          let turned : cond (not (differs access first)) None (Some (conflict_between access.place first.place)) ≡ conflict_with (Some first) access =
          ap (λ b. cond b None (Some (conflict_between access.place first.place))) (not_not (is_mode access.mode first.mode)) in
          joined (differs access first) (list_any (differs access) rest) first.place access (h ∙ sym turned) ∙ turned

  agree_after : (access : AccessAt) → conflict (earlier ++ next ∷ []) access ≡ conflict_with (first_access (earlier ++ next ∷ []) access.subject) access
  agree_after access = go (is_same access next) refl where
    go : (b : Bool) → is_same access next ≡ b → conflict (earlier ++ next ∷ []) access ≡ conflict_with (first_access (earlier ++ next ∷ []) access.subject) access
    go true e = same_subject_as access e (find (is_same access) earlier) refl
    go false e = other_subject access e

-- AFTER AN ACCESS: the first one to its field or scalar, or a further one in the same mode
found_after : (accesses : List AccessAt) (next : AccessAt) (subject : Subject)
    → first_access (accesses ++ next ∷ []) subject ≡ option_or (first_access accesses subject) (first_access (next ∷ []) subject)
found_after accesses next subject = find-append (λ other. is_subject subject other.subject) accesses (next ∷ [])

added : {firsts earlier : List AccessAt} (next : AccessAt) → Summarizes firsts earlier → first_access earlier next.subject ≡ None → Summarizes (firsts ++ next ∷ []) (earlier ++ next ∷ [])
added {firsts = firsts} {earlier = earlier} next h is = record {
  found = λ subject. found_after firsts next subject ∙ ap (λ found. option_or found (first_access (next ∷ []) subject)) (h.found subject) ∙ sym (found_after earlier next subject);
  conflicts = agree_after earlier h.conflicts next (ap (λ found. conflict_with found next) is);
}

repeated : {firsts earlier : List AccessAt} (next first : AccessAt) → Summarizes firsts earlier → first_access earlier next.subject ≡ Some first → is_mode next.mode first.mode ≡ true
    → Summarizes firsts (earlier ++ next ∷ [])
repeated {firsts = firsts} {earlier = earlier} next first h is mode = record {
  found = λ subject. h.found subject ∙ sym (found_after earlier next subject ∙ go subject (first_access earlier subject) refl);
  conflicts = agree_after earlier h.conflicts next (ap (λ found. conflict_with found next) is ∙ ap (λ b. cond b None (Some (conflict_between next.place first.place))) mode);
}
  where
    other : (subject : Subject) (b : Bool) → is_subject subject next.subject ≡ b → first_access earlier subject ≡ None → option_or None (cond b (Some next) None) ≡ first_access earlier subject
    other subject true e none = absurd (let there : first_access earlier subject ≡ Some first = ap (first_access earlier) (subjects_are subject next.subject e) ∙ is in cc)
    other subject false e none = sym none

    go : (subject : Subject) (found : Option AccessAt) → first_access earlier subject ≡ found → option_or (first_access earlier subject) (first_access (next ∷ []) subject) ≡ first_access earlier subject
    go subject (Some x) e = ap (λ found. option_or found (first_access (next ∷ []) subject)) e ∙ sym e
    go subject None e = ap (λ found. option_or found (first_access (next ∷ []) subject)) e ∙ other subject (is_subject subject next.subject) refl e

-- THE WALK of a comprehension has the first fault of its steps, or else the first of its accesses
abbrev pub MatchesFaults : List (Option ProgramFault) → List AccessAt → Result Accesses ProgramFault → Type 0
MatchesFaults faults accesses (Ok (Some firsts)) = (first_fault faults ≡ None) × Summarizes firsts accesses
MatchesFaults faults accesses (Ok None) = ⊥
MatchesFaults faults accesses (Err fault) = first_fault faults ≡ Some fault

pub record WalksSteps (earlier : List AccessAt) (steps : List Step) (walked : Result Accesses ProgramFault) : Type 0 where
  pub same : MatchesFaults (faults_in_steps earlier steps) (earlier ++ filter_map access_of steps) walked

tested : (earlier : List AccessAt) (steps : List Step) (walked : Result Accesses ProgramFault) → WalksSteps earlier steps walked → WalksSteps earlier (TestStep None ∷ steps) walked
tested earlier steps (Ok (Some firsts)) h = record { same = h.same }
tested earlier steps (Ok None) h = record { same = h.same }
tested earlier steps (Err fault) h = record { same = h.same }

passed_over : (earlier : List AccessAt) (next : AccessAt) (steps : List Step) (walked : Result Accesses ProgramFault) → conflict earlier next ≡ None
    → WalksSteps (earlier ++ next ∷ []) steps walked → WalksSteps earlier (AccessStep next ∷ steps) walked
passed_over earlier next steps (Ok (Some firsts)) e h = record {
  same = (
    ap (λ fault. first_fault (fault ∷ faults_in_steps (earlier ++ next ∷ []) steps)) e ∙ h.same.0,
    subst (Summarizes firsts) (append_assoc earlier (next ∷ []) (filter_map access_of steps)) (h.same.1),
  );
}
passed_over earlier next steps (Ok None) e h = absurd (h.same)
passed_over earlier next steps (Err fault) e h = record { same = ap (λ fault. first_fault (fault ∷ faults_in_steps (earlier ++ next ∷ []) steps)) e ∙ h.same }

conflicting : (earlier : List AccessAt) (next : AccessAt) (steps : List Step) (fault : ProgramFault) → conflict earlier next ≡ Some fault → WalksSteps earlier (AccessStep next ∷ steps) (Err fault)
conflicting earlier next steps fault e = record { same = ap (λ fault. first_fault (fault ∷ faults_in_steps (earlier ++ next ∷ []) steps)) e }

pub walks_steps : (steps : List Step) (firsts earlier : List AccessAt) → Summarizes firsts earlier → WalksSteps earlier steps (walk (Some firsts) steps)
walks_steps [] firsts earlier h = record { same = (refl, subst (Summarizes firsts) (sym (append-nil earlier)) h) }
walks_steps (TestStep None ∷ steps) firsts earlier h = tested earlier steps (walk (Some firsts) steps) (walks_steps steps firsts earlier h)
walks_steps (TestStep (Some fault) ∷ steps) firsts earlier h = record { same = refl }
walks_steps (AccessStep next ∷ steps) firsts earlier h =
    go (first_access firsts next.subject) (sym (h.found next.subject)) (λ is. walks_steps steps (firsts ++ next ∷ []) (earlier ++ next ∷ []) (added next h is))
    (λ first is mode. walks_steps steps firsts (earlier ++ next ∷ []) (repeated next first h is mode))
  where
    same_place : (first : AccessAt) (b : Bool) → is_mode next.mode first.mode ≡ b → first_access earlier next.subject ≡ Some first
        → (is_mode next.mode first.mode ≡ true → WalksSteps (earlier ++ next ∷ []) steps (walk (Some firsts) steps))
        → WalksSteps earlier (AccessStep next ∷ steps) ((cond b (Ok (Some firsts)) (Err (conflict_between next.place first.place))) >>= λ later. walk later steps)
    same_place first true e is again =
        passed_over earlier next steps (walk (Some firsts) steps) (h.conflicts next ∙ ap (λ found. conflict_with found next) is ∙ ap (λ b. cond b None (Some (conflict_between next.place first.place))) e) (again e)
    same_place first false e is again =
        conflicting earlier next steps (conflict_between next.place first.place) (h.conflicts next ∙ ap (λ found. conflict_with found next) is ∙ ap (λ b. cond b None (Some (conflict_between next.place first.place))) e)

    go : (found : Option AccessAt) → first_access earlier next.subject ≡ found
        → (first_access earlier next.subject ≡ None → WalksSteps (earlier ++ next ∷ []) steps (walk (Some (firsts ++ next ∷ [])) steps))
        → ((first : AccessAt) → first_access earlier next.subject ≡ Some first → is_mode next.mode first.mode ≡ true → WalksSteps (earlier ++ next ∷ []) steps (walk (Some firsts) steps))
        → WalksSteps earlier (AccessStep next ∷ steps) (after_first firsts next found >>= λ later. walk later steps)
    go None is new old = passed_over earlier next steps (walk (Some (firsts ++ next ∷ [])) steps) (h.conflicts next ∙ ap (λ found. conflict_with found next) is) (new is)
    go (Some first) is new old = same_place first (is_mode next.mode first.mode) refl is (old first is)

-- THE WALK of a part of the main program has the first fault of its steps
abbrev pub by_fault : Option ProgramFault → Result Accesses ProgramFault
by_fault None = Ok None
by_fault (Some fault) = Err fault

pub main_walk : (steps : List Step) → walk None steps ≡ by_fault (first_fault (faults_in_main steps))
main_walk [] = refl
main_walk (TestStep None ∷ steps) = main_walk steps
main_walk (TestStep (Some fault) ∷ steps) = refl
main_walk (AccessStep access ∷ steps) = main_walk steps
