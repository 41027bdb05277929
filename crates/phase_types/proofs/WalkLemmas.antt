-- Resolving walks through the steps of a part: it has their first fault, or else the accesses that they leave.
use Rattle.std.proofs.Common.{◌≡◌, Bool, true, false, List, [], ◌∷◌, ◌++◌, refl, sym, subst, ◌∙◌, append_assoc}
use Rattle.std.specs.Prelude.{Some, None, if◌then◌else◌, Result, Ok, Err}
use Rattle.liszt_base.specs.declared.accesses.Mode.{Mode}
use Rattle.liszt_base.specs.declared.answers.Place.{Place}
use Rattle.liszt_base.specs.declared.answers.ProgramFault.{ProgramFault}
use Rattle.liszt_base.specs.declared.answers.ProgramWhat.{ProgramWhat}
use Rattle.phase_types.specs.Resolve.{◌>>=◌, fails, Accesses, with_access}
use Rattle.phase_types.specs.Walk.{Subject, Step, TestStep, AccessStep, requirement, access_step}

-- THE WALK through steps: the accesses after them, or their first fault
abbrev pub walk : Accesses → List Step → Result Accesses ProgramFault
walk accesses [] = Ok accesses
walk accesses (TestStep None ∷ steps) = walk accesses steps
walk accesses (TestStep (Some fault) ∷ steps) = Err fault
walk accesses (AccessStep access ∷ steps) = with_access accesses access.subject access.mode access.place >>= λ later. walk later steps

pub bind_assoc : {A B C : Type 0} (first : Result A ProgramFault) (next : A → Result B ProgramFault) (last : B → Result C ProgramFault)
    → ((first >>= next) >>= last) ≡ (first >>= λ a. next a >>= last)
bind_assoc (Ok a) next last = refl
bind_assoc (Err fault) next last = refl

pub same_next : {A B : Type 0} (first : Result A ProgramFault) (next other : A → Result B ProgramFault) → ((a : A) → next a ≡ other a) → (first >>= next) ≡ (first >>= other)
same_next (Ok a) next other e = e a
same_next (Err fault) next other e = refl

pub walk_append : (accesses : Accesses) (xs ys : List Step) → walk accesses (xs ++ ys) ≡ (walk accesses xs >>= λ later. walk later ys)
walk_append accesses [] ys = refl
walk_append accesses (TestStep None ∷ xs) ys = walk_append accesses xs ys
walk_append accesses (TestStep (Some fault) ∷ xs) ys = refl
walk_append accesses (AccessStep access ∷ xs) ys =
    same_next (with_access accesses access.subject access.mode access.place) _ _ (λ later. walk_append later xs ys)
    ∙ sym (bind_assoc (with_access accesses access.subject access.mode access.place) (λ later. walk later xs) (λ later. walk later ys))

-- A RESULT of a walk: both have one fault, or the value has the accesses of the walk and a property
abbrev pub Matches : {A : Type 0} → (A → Accesses) → (A → Type 0) → Result Accesses ProgramFault → Result A ProgramFault → Type 0
Matches state P (Ok later) (Ok a) = (state a ≡ later) × P a
Matches state P (Err fault) (Err other) = fault ≡ other
Matches state P _ _ = ⊥

pub record Walks {A : Type 0} (state : A → Accesses) (P : A → Type 0) (walked : Result Accesses ProgramFault) (result : Result A ProgramFault) : Type 0 where
  pub same : Matches state P walked result

pub bound : {A B : Type 0} {s : A → Accesses} {P : A → Type 0} {t : B → Accesses} {Q : B → Type 0} (walked : Result Accesses ProgramFault) (first : Result A ProgramFault)
    (later : Accesses → Result Accesses ProgramFault) (next : A → Result B ProgramFault) → Walks s P walked first → ((a : A) → P a → Walks t Q (later (s a)) (next a))
    → Walks t Q (walked >>= later) (first >>= next)
bound {t = t} {Q = Q} (Ok accesses) (Ok a) later next h g = subst (λ accesses. Walks t Q (later accesses) (next a)) (h.same.0) (g a (h.same.1))
bound (Err fault) (Err other) later next h g = record { same = h.same }
bound (Ok accesses) (Err other) later next h g = absurd (h.same)
bound (Err fault) (Ok a) later next h g = absurd (h.same)

-- two parts, one after the other
pub in_turn : {A B : Type 0} {s : A → Accesses} {P : A → Type 0} {t : B → Accesses} {Q : B → Type 0} (accesses : Accesses) (xs ys : List Step) (first : Result A ProgramFault)
    (next : A → Result B ProgramFault) → Walks s P (walk accesses xs) first → ((a : A) → P a → Walks t Q (walk (s a) ys) (next a)) → Walks t Q (walk accesses (xs ++ ys)) (first >>= next)
in_turn {t = t} {Q = Q} accesses xs ys first next h g =
    subst (λ walked. Walks t Q walked (first >>= next)) (sym (walk_append accesses xs ys))
    (bound (walk accesses xs) first (λ later. walk later ys) next h g)

-- three and more parts, whose steps are in brackets to the left
pub regrouped : {A : Type 0} {s : A → Accesses} {P : A → Type 0} {result : Result A ProgramFault} (accesses : Accesses) (xs ys zs : List Step)
    → Walks s P (walk accesses (xs ++ (ys ++ zs))) result → Walks s P (walk accesses ((xs ++ ys) ++ zs)) result
regrouped {s = s} {P = P} {result = result} accesses xs ys zs h =
    subst (λ steps. Walks s P (walk accesses steps) result) (sym (append_assoc xs ys zs)) h

-- a value made of the last part
pub made : {A B : Type 0} {s : A → Accesses} {P : A → Type 0} {t : B → Accesses} {Q : B → Type 0} {walked : Result Accesses ProgramFault} (result : Result A ProgramFault) (f : A → B)
    → Walks s P walked result → ((a : A) → P a → (t (f a) ≡ s a) × Q (f a)) → Walks t Q walked (result >>= λ a. Ok (f a))
made {walked = Ok later} (Ok a) f h g = let both = g a (h.same.1) in record { same = (both.0 ∙ h.same.0, both.1) }
made {walked = Err fault} (Err other) f h g = record { same = h.same }
made {walked = Ok later} (Err other) f h g = absurd (h.same)
made {walked = Err fault} (Ok a) f h g = absurd (h.same)

-- a part with a weaker property
pub weakened : {A : Type 0} {s : A → Accesses} {P Q : A → Type 0} {walked : Result Accesses ProgramFault} (result : Result A ProgramFault)
    → Walks s P walked result → ((a : A) → P a → Q a) → Walks s Q walked result
weakened {walked = Ok later} (Ok a) h g = record { same = (h.same.0, g a (h.same.1)) }
weakened {walked = Err fault} (Err other) h g = record { same = h.same }
weakened {walked = Ok later} (Err other) h g = absurd (h.same)
weakened {walked = Err fault} (Ok a) h g = absurd (h.same)

-- a test of a boolean
pub chosen : {A : Type 0} (accesses : Accesses) (b : Bool) (what : ProgramWhat) (place : Place) (a : A)
    → Walks (λ a. accesses) (λ a. b ≡ true) (walk accesses (requirement b what place)) (if b then Ok a else fails what place)
chosen accesses true what place a = record { same = (refl, refl) }
chosen accesses false what place a = record { same = refl }

-- an access
abbrev pub IsAny : {A : Type 0} → A → Type 0
IsAny a = Unit {0}

pub accessed : (accesses : Accesses) (subject : Subject) (mode : Mode) (place : Place)
    → Walks (λ later. later) IsAny (walk accesses (access_step subject mode place)) (with_access accesses subject mode place)
accessed accesses subject mode place = go (with_access accesses subject mode place) where
  go : (result : Result Accesses ProgramFault) → Walks (λ later. later) IsAny (result >>= λ later. Ok later) result
  go (Ok later) = record { same = (refl, tt) }
  go (Err fault) = record { same = refl }
