-- Steps of resolving that succeed, and accesses that are among those of the whole comprehension.
use Rattle.std.proofs.Common.{◌≡◌, Bool, true, false, cond, List, [], ◌∷◌, ◌++◌, refl, ap, sym, ◌∙◌}
use Rattle.std.specs.List.{find}
use Rattle.std.specs.Option.{option_map}
use Rattle.std.specs.Prelude.{Option, Some, None, if◌then◌else◌, Result, Ok, Err}
use Rattle.liszt_base.specs.declared.accesses.Mode.{Mode}
use Rattle.liszt_base.specs.declared.answers.Place.{Place}
use Rattle.liszt_base.specs.declared.answers.ProgramFault.{ProgramFault}
use Rattle.resolved_code.specs.Accesses.{is_subject}
use Rattle.resolved_code.specs.declared.accesses.AccessAt.{AccessAt}
use Rattle.phase_types.specs.Resolve.{◌>>=◌, Accesses, first_access, with_access, after_first, conflict_between}
use Rattle.phase_types.specs.Walk.{Subject, is_mode}
use Rattle.phase_types.proofs.ModeLemmas.{modes_are, same_subjects}
use Rattle.kernel_eval.proofs.SimulationLemmas.{Setting, known_mode}

-- STEPS THAT SUCCEED
abbrev pub IfOk : {A : Type 0} → (A → Type 0) → Result A ProgramFault → Type 0
IfOk P (Ok a) = P a
IfOk P (Err fault) = Unit {0}

-- a step and the next one, as definitions write them with an operator
abbrev pub in_sequence : {A B : Type 0} → Result A ProgramFault → (A → Result B ProgramFault) → Result B ProgramFault
in_sequence first next = first >>= next

pub ok_then : {A B : Type 0} (P : A → Type 0) (Q : B → Type 0) (first : Result A ProgramFault) (next : A → Result B ProgramFault) → IfOk P first
    → ((a : A) → P a → IfOk Q (next a)) → IfOk Q (first >>= next)
ok_then P Q (Ok a) next h g = g a h
ok_then P Q (Err fault) next h g = tt

pub ok_weaken : {A : Type 0} (P Q : A → Type 0) (r : Result A ProgramFault) → IfOk P r → ((a : A) → P a → Q a) → IfOk Q r
ok_weaken P Q (Ok a) h g = g a h
ok_weaken P Q (Err fault) h g = tt

pub ok_under : {A : Type 0} (W : Type 0) (P : A → Type 0) (r : Result A ProgramFault) → (W → IfOk P r) → IfOk (λ a. W → P a) r
ok_under W P (Ok a) f = f
ok_under W P (Err fault) f = tt

-- ACCESSES that are among those of the whole comprehension
abbrev pub Within : Setting → Accesses → Type 0
Within c None = ⊥
Within c (Some accesses) = (subject : Subject) (access : AccessAt) → first_access accesses subject ≡ Some access → first_access c.accesses subject ≡ Some access

find_kept : {A : Type 0} (test : A → Bool) (xs : List A) (y x : A) → find test xs ≡ Some x → find test (xs ++ y ∷ []) ≡ Some x
find_kept test [] y x e = absurd cc
find_kept test (z ∷ xs) y x e = go (test z) e (find_kept test xs y x) where
  go : (b : Bool) → cond b (Some z) (find test xs) ≡ Some x → (find test xs ≡ Some x → find test (xs ++ y ∷ []) ≡ Some x)
      → cond b (Some z) (find test (xs ++ y ∷ [])) ≡ Some x
  go true e rest = e
  go false e rest = rest e

find_added : {A : Type 0} (test : A → Bool) (xs : List A) (y : A) → find test xs ≡ None → test y ≡ true → find test (xs ++ y ∷ []) ≡ Some y
find_added test [] y e t = rw t refl
find_added test (z ∷ xs) y e t = go (test z) e (λ e. find_added test xs y e t) where
  go : (b : Bool) → cond b (Some z) (find test xs) ≡ None → (find test xs ≡ None → find test (xs ++ y ∷ []) ≡ Some y)
      → cond b (Some z) (find test (xs ++ y ∷ [])) ≡ Some y
  go true e rest = absurd cc
  go false e rest = rest e

added_known : (c : Setting) (accesses : List AccessAt) (access : AccessAt) → first_access accesses access.subject ≡ None → Within c (Some (accesses ++ access ∷ []))
    → Within c (Some accesses) × (known_mode c access.subject ≡ Some access.mode)
added_known c accesses access none w = (
  λ subject found is. w subject found (find_kept (λ other. is_subject subject other.subject) accesses access found is),
  ap (option_map (λ access. access.mode))
      (w access.subject access (find_added (λ other. is_subject access.subject other.subject) accesses access none (same_subjects access.subject access.subject refl))),
)

again_known : (c : Setting) (accesses : List AccessAt) (access first : AccessAt) → first_access accesses access.subject ≡ Some first → is_mode access.mode first.mode ≡ true
    → Within c (Some accesses) → Within c (Some accesses) × (known_mode c access.subject ≡ Some access.mode)
again_known c accesses access first found same w =
    (w, ap (option_map (λ access. access.mode)) (w access.subject first found) ∙ ap Some (sym (modes_are access.mode first.mode same)))

-- an access that is resolved has the mode of its field or scalar in the whole comprehension
pub access_known : (c : Setting) (accesses : Accesses) (subject : Subject) (mode : Mode) (place : Place)
    → IfOk (λ later. Within c later → Within c accesses × (known_mode c subject ≡ Some mode)) (with_access accesses subject mode place)
access_known c None subject mode place = λ w. absurd w
access_known c (Some accesses) subject mode place = go (first_access accesses subject) refl where
  access : AccessAt
  access = record { subject = subject; mode = mode; place = place }

  go : (found : Option AccessAt) → first_access accesses subject ≡ found
      → IfOk (λ later. Within c later → Within c (Some accesses) × (known_mode c subject ≡ Some mode)) (after_first accesses access found)
  go None is = λ w. added_known c accesses access is w
  go (Some first) is = by (is_mode mode first.mode) refl where
    by : (b : Bool) → is_mode mode first.mode ≡ b
        → IfOk (λ later. Within c later → Within c (Some accesses) × (known_mode c subject ≡ Some mode)) (if b then Ok (Some accesses) else Err (conflict_between place first.place))
    by true same = λ w. again_known c accesses access first is same w
    by false same = tt
