-- The accesses of a typed body by its global names are among the steps of its walk.
use Rattle.std.proofs.Common.{◌≡◌, ◌⊎◌, ℕ, List, [], ◌∷◌, ◌++◌, refl, sym, ap, subst, ◌∙◌, inl, inr}
use Rattle.std.proofs.lemmas.Bool.{cases_Bool}
use Rattle.std.proofs.lemmas.Slice.Eq.{bytes_eq-Decides}
use Rattle.std.specs.Prelude.{Option, Some}
use Rattle.std.specs.List.{find, filter_map, AllByRecursion}
use Rattle.std.specs.Option.{option_map}
use Rattle.std.specs.Str.{bytes_eq}
use Rattle.liszt_base.specs.declared.accesses.Mode.{Mode}
use Rattle.liszt_base.specs.declared.answers.Place.{Place}
use Rattle.liszt_base.specs.declared.elements.Kind.{Kind}
use Rattle.liszt_tree.specs.declared.tree.How.{How}
use Rattle.liszt_tree.specs.declared.tree.How.TheVariants.{Set}
use Rattle.liszt_tree.specs.Tree.{Expression, Links, Statement, Body}
use Rattle.phase_types.specs.Environments.{Environment, Binding, FieldName, ScalarName, LocalName, ElementName, binding_of, Comprehension}
use Rattle.phase_types.specs.Types.{ValueType, HasType, IsField, IsCall, IsTowards, IsNeg, IsNot, IsChain, AreNumbers, AreElements, FollowsType, NoLinks, OneLink}
use Rattle.phase_types.specs.Typed.{IsReduction, StatementFits, FitsVar, FitsVal, FitsField, FitsScalar, FitsLocal, FitsIf, FitsWhile, FitsFor, BodyFits, FitsNothing, FitsThen, AgreesWith, HaveOneMode, ComprehensionFits}
use Rattle.phase_types.specs.Walk.{OfField, is_subject, AccessAt, Step, TestStep, AccessStep, mode_by, access_step, steps_of, link_steps, with_val, environment_after, scalar_steps, statement_steps, body_steps, access_of, mode_in}
use Rattle.phase_types.proofs.ModeLemmas.{subjects_are, same_subjects}
use Rattle.phase_types.proofs.TypeLemmas.{computed}
use Rattle.kernel_eval.proofs.TraversalLemmas.{Access, TouchesField, TouchesScalar, Touches, LinksTouch, StatementTouches, BodyTouches}

-- an access that is one of the steps
data Seen (a : Access) : List Step → Type 0 where
  SeenNow : (access : AccessAt) (steps : List Step) → (access.subject, access.mode) ≡ a → Seen a (AccessStep access ∷ steps)
  SeenLater : {steps : List Step} (step : Step) → Seen a steps → Seen a (step ∷ steps)

left : {a : Access} {X : Type 0} {xs : List Step} (ys : List Step) → (X → Seen a xs) → X → Seen a (xs ++ ys)
left {a = a} ys f t = go (f t) where
  go : {xs : List Step} → Seen a xs → Seen a (xs ++ ys)
  go (SeenNow access steps is) = SeenNow access (steps ++ ys) is
  go (SeenLater step h) = SeenLater step (go h)

right : {a : Access} {Y : Type 0} (xs : List Step) {ys : List Step} → (Y → Seen a ys) → Y → Seen a (xs ++ ys)
right [] f t = f t
right (x ∷ xs) f t = SeenLater x (right xs f t)

both : {a : Access} {X Y : Type 0} {xs ys : List Step} → (X → Seen a xs) → (Y → Seen a ys) → X ⊎ Y → Seen a (xs ++ ys)
both f g (inl t) = left _ f t
both f g (inr t) = right _ g t

-- NAMES: the binding of a name in a body, and its binding `globals` before the body. A field or a scalar is bound in both, and the name of
-- a local number was no scalar.
abbrev pub AgreesAt : Option Binding → Option Binding → Type 0
AgreesAt (Some (ElementName kind)) global = Unit {0}
AgreesAt (Some LocalName) global = (mode : Mode) (a : Access) → TouchesScalar global mode a → ⊥
AgreesAt here global = global ≡ here

pub record Agree (globals environment : Environment) : Type 0 where
  pub agrees : (name : List ℕ) → AgreesAt (binding_of environment name) (binding_of globals name)

pub agrees_with_itself : (global : Option Binding) → AgreesAt global global
agrees_with_itself (Some (ElementName kind)) = tt {0}
agrees_with_itself (Some LocalName) = λ mode a t. t
agrees_with_itself _ = refl

pub agree_at : {globals environment : Environment} {here : Option Binding} → Agree globals environment → (name : List ℕ) → binding_of environment name ≡ here
    → AgreesAt here (binding_of globals name)
agree_at {globals = globals} g name is = subst (λ here. AgreesAt here (binding_of globals name)) is (g.agrees name)

agree_more : {globals environment : Environment} → Agree globals environment → (name : List ℕ) (entry : Binding) → AgreesAt (Some entry) (binding_of globals name)
    → Agree globals ((name, entry) ∷ environment)
agree_more g name entry h = record {
  agrees = λ other. elim (cases_Bool (bytes_eq other name)) [
    | inl is ↦ rw (is, (bytes_eq-Decides other name).0 is) h
    | inr is ↦ rw is (g.agrees other)
  ];
}

pub agree_element : {globals environment : Environment} → Agree globals environment → (name : List ℕ) (kind : Kind) → Agree globals ((name, ElementName kind) ∷ environment)
agree_element g name kind = agree_more g name (ElementName kind) (tt {0})

pub after_environment : {globals environment after_environment : Environment} {s : Statement} → Agree globals environment → StatementFits environment s after_environment
    → Agree globals after_environment × (after_environment ≡ environment_after environment s)
after_environment g (FitsVar place name at h new) = (agree_more g name LocalName (λ mode a t. rw (agree_at g name new) at t), refl)
after_environment {environment = environment} g (FitsVal {kind = kind} place name at h new) =
    (agree_element g name kind, ap (λ type. with_val name type environment) (sym (computed h)))
after_environment g _ = (g, refl)

module _ {globals : Environment} {a : Access} where
  seen_field : {environment : Environment} {number : ℕ} {kind : Kind} {mode : Mode} → Agree globals environment → (place : Place) (name : List ℕ)
      → binding_of environment name ≡ Some (FieldName number kind) → TouchesField (binding_of globals name) mode a → Seen a (access_step (OfField number) mode place)
  seen_field g place name is t = SeenNow _ [] (rw (agree_at g name is) at t)

  seen_scalar : {environment : Environment} {number : ℕ} → Agree globals environment → (place : Place) (how : How) (name : List ℕ) → IsReduction how
      → binding_of environment name ≡ Some (ScalarName number) → TouchesScalar (binding_of globals name) (mode_by how) a → Seen a (scalar_steps place how number)
  seen_scalar g place Set name reduces is t = absurd reduces
  seen_scalar g place how name reduces is t = SeenNow _ [] (rw (agree_at g name is) at t)

  mutual
    seen : {environment : Environment} {e : Expression} {type : ValueType} → Agree globals environment → HasType environment e type → Touches globals a e → Seen a (steps_of environment e)
    seen g (IsField place name is h) = rw is (both (left _ (seen g h)) (seen_field g place name is))
    seen g (IsCall place fun h is) = left _ (seen g h)
    seen g (IsTowards place h to can) = left _ (both (seen g h) (seen g to))
    seen g (IsNeg place h) = left _ (seen g h)
    seen g (IsNot place h) = left _ (seen g h)
    seen g (IsChain level h rest) = both (seen g h) (seen_after g _ rest)
    seen g (AreNumbers place rel h to) = left _ (both (seen g h) (seen g to))
    seen g (AreElements place rel h to same) = left _ (both (seen g h) (seen g to))
    seen g _ = λ t. absurd t

    seen_after : {environment : Environment} {type : ValueType} {links : Links} → Agree globals environment → (found : Option ValueType) → FollowsType environment type links
        → LinksTouch globals a links → Seen a (link_steps environment found links)
    seen_after g found (NoLinks type) = λ t. absurd t
    seen_after g found (OneLink sign place is h rest) = both (left _ (seen g h)) (seen_after g _ rest)

  mutual
    seen_statement : {environment after_environment : Environment} {s : Statement} → Agree globals environment → StatementFits environment s after_environment → StatementTouches globals a s
        → Seen a (statement_steps environment s)
    seen_statement g (FitsVar place name at h new) = left _ (left _ (seen g h))
    seen_statement g (FitsVal place name at h new) = left _ (left _ (seen g h))
    seen_statement g (FitsField place name how is own h value) =
        rw is (both (both (left _ (right _ (seen g h))) (seen_field g place name is)) (left _ (seen g value)))
    seen_statement g (FitsScalar place name how is reduces value) = rw is (both (seen_scalar g place how name reduces is) (left _ (seen g value)))
    seen_statement g (FitsLocal place name how is value) =
        rw is (both {xs = []} (λ t. absurd (agree_at g name is (mode_by how) _ t)) (left _ (seen g value)))
    seen_statement g (FitsIf place has_else h first second) = both (both (left _ (seen g h)) (seen_body g first)) (seen_body g second)
    seen_statement g (FitsWhile place h body) = both (left _ (seen g h)) (seen_body g body)
    seen_statement g (FitsFor place name at set set_at h has new body) = both (left _ (left _ (seen g h))) (seen_body (agree_element g name _) body)

    seen_body : {environment : Environment} {body : Body} → Agree globals environment → BodyFits environment body → BodyTouches globals a body → Seen a (body_steps environment body)
    seen_body g (FitsNothing environment) = λ t. absurd t
    seen_body g (FitsThen s rest) = both (seen_statement g s) (λ t. rw (← (after_environment g s).1) (seen_body (after_environment g s).0 rest t))

-- ONE MODE: an access among the steps has the mode of the first access.
later_mode : {a : Access} {steps : List Step} (access : AccessAt) → access.subject ≡ a.0 → AllByRecursion (AgreesWith access) (filter_map access_of steps)
    → Seen a steps → access.mode ≡ a.1
later_mode access is all (SeenNow other steps now) = all.0 (same_subjects access.subject other.subject (is ∙ ap (λ a. a.0) (sym now))) ∙ ap (λ a. a.1) now
later_mode access is all (SeenLater (TestStep fault) h) = later_mode access is all h
later_mode access is all (SeenLater (AccessStep other) h) = later_mode access is all.1 h

seen_mode : {a : Access} {steps : List Step} → HaveOneMode (filter_map access_of steps) → Seen a steps
    → option_map (λ access. access.mode) (find (λ access. is_subject a.0 access.subject) (filter_map access_of steps)) ≡ Some a.1
seen_mode {a = a} one (SeenNow access steps now) = rw (same_subjects a.0 access.subject (ap (λ a. a.0) (sym now))) (ap (λ a. Some a.1) now)
seen_mode one (SeenLater (TestStep fault) h) = seen_mode one h
seen_mode {a = a} one (SeenLater (AccessStep access) h) = elim (cases_Bool (is_subject a.0 access.subject)) [
  | inl is ↦ rw is (ap Some (later_mode access (sym (subjects_are a.0 access.subject is)) one.0 h))
  | inr is ↦ rw is (seen_mode one.1 h)
]

-- the accesses of the body of a comprehension have the one mode
pub touched_in_mode : (c : Comprehension) → ComprehensionFits c → (a : Access) → BodyTouches c.environment a c.body → mode_in c a.0 ≡ Some a.1
touched_in_mode c fits a t =
    seen_mode fits.one_mode (seen_body (agree_element (record { agrees = λ name. agrees_with_itself (binding_of c.environment name) }) c.name c.over) fits.body_fits t)
