-- The tests of the walk pass if and only if expressions, statements and bodies are typed.
use Rattle.std.proofs.Common.{◌≡◌, ℕ, Bool, true, false, not, List, [], ◌∷◌, ◌++◌, refl, sym, ap, subst, ◌∙◌}
use Rattle.std.specs.List.{AllByRecursion}
use Rattle.std.specs.Prelude.{Option, Some, None, is_some}
use Rattle.liszt_base.specs.Kinds.{has_set, kind_of}
use Rattle.liszt_base.specs.declared.accesses.Mode.{Mode}
use Rattle.liszt_base.specs.declared.answers.Place.{Place}
use Rattle.liszt_base.specs.declared.answers.ProgramWhat.{ProgramWhat}
use Rattle.liszt_base.specs.declared.elements.Kind.{Kind}
use Rattle.liszt_base.specs.declared.elements.SetName.{SetName}
use Rattle.liszt_tree.specs.declared.tree.How.{How}
use Rattle.liszt_tree.specs.declared.tree.How.TheVariants.{Set, Fold, Less}
use Rattle.liszt_tree.specs.Tree.{Expression, Number, Name, Field, Call, Towards, Neg, Not, Chain, Compare, Links, no_links, link}
use Rattle.liszt_tree.specs.Tree.{Statement, Var, Val, Assign, If, While, For, Body, no_statement, statement}
use Rattle.phase_types.specs.Environments.{Environment, Binding, FieldName, ScalarName, LocalName, ElementName, binding_of, is_built_in}
use Rattle.phase_types.specs.Types.{ValueType, NumberType, TruthType, ElementType, HasType, IsNumber, IsScalar, IsLocal, IsElement, IsField, IsCall, IsTowards, IsNeg, IsNot, IsChain, AreNumbers, AreElements, FollowsType, NoLinks, OneLink, field_type, operator_type, type_of, type_after_links}
use Rattle.phase_types.specs.Walk.{Step, TestStep, AccessStep, failure, requirement, access_step, place_of, has_type, has_members, name_steps, field_steps, type_requirement, steps_of, link_steps, typed_steps, name_requirement, with_val, environment_after, val_steps, field_target_steps, scalar_steps, name_target_steps, mode_by, statement_steps, body_steps}
use Rattle.phase_types.specs.Typed.{IsNew, IsReduction, StatementFits, FitsVar, FitsVal, FitsField, FitsScalar, FitsLocal, FitsIf, FitsWhile, FitsFor, BodyFits, FitsNothing, FitsThen}
use Rattle.phase_types.proofs.TypeLemmas.{same_type, types_are, operator_fits, computed, typed}

-- all of a list in two parts
pub all_of_both : {A : Type 0} (P : A → Type 0) (xs ys : List A) → AllByRecursion P xs → AllByRecursion P ys → AllByRecursion P (xs ++ ys)
all_of_both P [] ys h g = g
all_of_both P (x ∷ xs) ys h g = (h.0, all_of_both P xs ys h.1 g)

pub all_of_first : {A : Type 0} (P : A → Type 0) (xs ys : List A) → AllByRecursion P (xs ++ ys) → AllByRecursion P xs
all_of_first P [] ys h = tt
all_of_first P (x ∷ xs) ys h = (h.0, all_of_first P xs ys h.1)

pub all_of_second : {A : Type 0} (P : A → Type 0) (xs ys : List A) → AllByRecursion P (xs ++ ys) → AllByRecursion P ys
all_of_second P [] ys h = h
all_of_second P (x ∷ xs) ys h = all_of_second P xs ys h.1

-- STEPS THAT PASS: no test fails
abbrev pub Passes : Step → Type 0
Passes (TestStep fault) = fault ≡ None
Passes (AccessStep access) = Unit {0}

pub record AllPass (steps : List Step) : Type 0 where
  pub all : AllByRecursion Passes steps

none_pass : AllPass []
none_pass = record { all = tt }

pub then : {xs ys : List Step} → AllPass xs → AllPass ys → AllPass (xs ++ ys)
then {xs = xs} {ys = ys} h g = record { all = all_of_both Passes xs ys h.all g.all }

pub first_of_both : (xs ys : List Step) → AllPass (xs ++ ys) → AllPass xs
first_of_both xs ys h = record { all = all_of_first Passes xs ys h.all }

pub second_of_both : (xs ys : List Step) → AllPass (xs ++ ys) → AllPass ys
second_of_both xs ys h = record { all = all_of_second Passes xs ys h.all }

needs_pass : {b : Bool} (what : ProgramWhat) (place : Place) → b ≡ true → AllPass (requirement b what place)
needs_pass what place e = subst (λ b. AllPass (requirement b what place)) (sym e) (record { all = (refl, tt) })

pub required : (b : Bool) (what : ProgramWhat) (place : Place) → AllPass (requirement b what place) → b ≡ true
required true what place h = refl
required false what place h = absurd (cc (h.all.0))

pub failed : {A : Type 0} (what : ProgramWhat) (place : Place) → AllPass (failure what place) → A
failed what place h = absurd (cc (h.all.0))

use_passes : {subject : _} {mode : Mode} {place : Place} → AllPass (access_step subject mode place)
use_passes = record { all = (tt, tt) }

fits_pass : (found : Option ValueType) (place : Place) {type : ValueType} → found ≡ Some type → AllPass (type_requirement found place)
fits_pass found place e = subst (λ found. AllPass (type_requirement found place)) (sym e) (record { all = (refl, tt) })

fitting : (found : Option ValueType) (place : Place) → AllPass (type_requirement found place) → (type : ValueType) × (found ≡ Some type)
fitting (Some type) place h = (type, refl)
fitting None place h = absurd (cc (h.all.0))

has_its_type : {found : Option ValueType} (type : ValueType) → found ≡ Some type → has_type type found ≡ true
has_its_type type e = ap (has_type type) e ∙ same_type type

type_had : (type : ValueType) (found : Option ValueType) → has_type type found ≡ true → found ≡ Some type
type_had type (Some other) e = ap Some (sym (types_are type other e))
type_had type None e = absurd cc

-- EXPRESSIONS that are typed pass
field_passes : (environment : Environment) (place : Place) (arg : Expression) (global : Option Binding) {number : ℕ} {kind : Kind} → global ≡ Some (FieldName number kind)
    → type_of environment arg ≡ Some (ElementType kind) → AllPass (steps_of environment arg) → AllPass (field_steps place global (type_of environment arg) (steps_of environment arg))
field_passes environment place arg global {kind = kind} is e h =
    subst (λ global. AllPass (field_steps place global (type_of environment arg) (steps_of environment arg))) (sym is)
    (then (then h (needs_pass _ place (has_its_type (ElementType kind) e))) use_passes)

mutual
  pub passes : {environment : Environment} {e : Expression} {type : ValueType} → HasType environment e type → AllPass (steps_of environment e)
  passes (IsNumber place value) = none_pass
  passes (IsScalar place name is) = subst (λ global. AllPass (name_steps place global)) (sym is) use_passes
  passes (IsLocal place name is) = subst (λ global. AllPass (name_steps place global)) (sym is) none_pass
  passes (IsElement place name is) = subst (λ global. AllPass (name_steps place global)) (sym is) none_pass
  passes {environment = environment} (IsField {arg = arg} place name is h) = field_passes environment place arg (binding_of environment name) is (computed h) (passes h)
  passes (IsCall place fun h is) = then (passes h) (fits_pass _ place (computed (IsCall place fun h is)))
  passes (IsTowards place h g can) = then (then (passes h) (passes g)) (fits_pass _ place (computed (IsTowards place h g can)))
  passes (IsNeg place h) = then (passes h) (fits_pass _ place (computed (IsNeg place h)))
  passes (IsNot place h) = then (passes h) (fits_pass _ place (computed (IsNot place h)))
  passes {environment = environment} (IsChain {links = links} level h rest) =
      then (passes h) (subst (λ type. AllPass (link_steps environment type links)) (sym (computed h)) (links_pass rest))
  passes (AreNumbers place rel h g) = then (then (passes h) (passes g)) (fits_pass _ place (computed (AreNumbers place rel h g)))
  passes (AreElements place rel h g same) = then (then (passes h) (passes g)) (fits_pass _ place (computed (AreElements place rel h g same)))

  links_pass : {environment : Environment} {type : ValueType} {links : Links} → FollowsType environment type links → AllPass (link_steps environment (Some type) links)
  links_pass (NoLinks type) = none_pass
  links_pass {environment = environment} (OneLink {type = type} {arg = arg} {rest = links} sign place is h rest) =
      then (then (passes h) (fits_pass _ place (operator_fits sign type (type_of environment arg) is (computed h))))
      (subst (λ type. AllPass (link_steps environment type links)) (sym (operator_fits sign type (type_of environment arg) is (computed h))) (links_pass rest))

-- EXPRESSIONS that pass have a type
name_passed : (place : Place) (global : Option Binding) → AllPass (name_steps place global) → (type : ValueType) × (Rattle.phase_types.specs.Types.name_type global ≡ Some type)
name_passed place (Some (ScalarName number)) h = (NumberType, refl)
name_passed place (Some LocalName) h = (NumberType, refl)
name_passed place (Some (ElementName kind)) h = (ElementType kind, refl)
name_passed place (Some (FieldName number kind)) h = failed _ place h
name_passed place None h = failed _ place h

field_passed : (environment : Environment) (place : Place) (arg : Expression) (global : Option Binding)
    → AllPass (field_steps place global (type_of environment arg) (steps_of environment arg)) → (type : ValueType) × (field_type global (type_of environment arg) ≡ Some type)
field_passed environment place arg (Some (FieldName number kind)) h =
    let had : type_of environment arg ≡ Some (ElementType kind) = type_had _ _ (required (has_type (ElementType kind) (type_of environment arg)) _ place
    (second_of_both (steps_of environment arg) _ (first_of_both _ (access_step _ _ place) h))) in
    (NumberType, ap (field_type (Some (FieldName number kind))) had ∙ field_is kind)
  where
    field_is : (kind : Kind) → field_type (Some (FieldName number kind)) (Some (ElementType kind)) ≡ Some NumberType
    field_is kind = ap (λ b. Rattle.std.specs.Option.option_and_then (λ type. Some NumberType) (Rattle.std.specs.Prelude.cond b (Some (ElementType kind)) None)) (same_type (ElementType kind))
field_passed environment place arg (Some (ScalarName number)) h = failed _ place h
field_passed environment place arg (Some LocalName) h = failed _ place h
field_passed environment place arg (Some (ElementName kind)) h = failed _ place h
field_passed environment place arg None h = failed _ place h

mutual
  passed : (environment : Environment) (e : Expression) → AllPass (steps_of environment e) → (type : ValueType) × (type_of environment e ≡ Some type)
  passed environment (Number place value) h = (NumberType, refl)
  passed environment (Name place name) h = name_passed place (binding_of environment name) h
  passed environment (Field place name arg) h = field_passed environment place arg (binding_of environment name) h
  passed environment (Call place fun arg) h = fitting _ place (second_of_both (steps_of environment arg) _ h)
  passed environment (Towards place arg to) h = fitting _ place (second_of_both (steps_of environment arg ++ steps_of environment to) _ h)
  passed environment (Neg place arg) h = fitting _ place (second_of_both (steps_of environment arg) _ h)
  passed environment (Not place arg) h = fitting _ place (second_of_both (steps_of environment arg) _ h)
  passed environment (Chain level first links) h =
      let one = passed environment first (first_of_both (steps_of environment first) (link_steps environment (type_of environment first) links) h) in
      links_passed environment links (type_of environment first) one.0 one.1 (second_of_both (steps_of environment first) (link_steps environment (type_of environment first) links) h)
  passed environment (Compare place rel left right) h = fitting _ place (second_of_both (steps_of environment left ++ steps_of environment right) _ h)

  links_passed : (environment : Environment) (links : Links) (type : Option ValueType) (found : ValueType) → type ≡ Some found
      → AllPass (link_steps environment type links) → (last : ValueType) × (type_after_links environment type links ≡ Some last)
  links_passed environment no_links type found e h = (found, e)
  links_passed environment (link sign place arg rest) type found e h =
      let front = first_of_both (steps_of environment arg ++ type_requirement (operator_type sign type (type_of environment arg)) place)
      (link_steps environment (operator_type sign type (type_of environment arg)) rest) h in
      let one = fitting (operator_type sign type (type_of environment arg)) place (second_of_both (steps_of environment arg) _ front) in
      links_passed environment rest (operator_type sign type (type_of environment arg)) one.0 one.1
      (second_of_both (steps_of environment arg ++ type_requirement (operator_type sign type (type_of environment arg)) place) _ h)

-- an expression that must have a type, and a new name
pub typed_pass : {environment : Environment} {e : Expression} {type : ValueType} → HasType environment e type → AllPass (typed_steps environment type e)
typed_pass {e = e} {type = type} h = then (passes h) (needs_pass _ (place_of e) (has_its_type type (computed h)))

pub pass_typed : (environment : Environment) (type : ValueType) (e : Expression) → AllPass (typed_steps environment type e) → HasType environment e type
pass_typed environment type e h =
    typed environment e type (type_had type _ (required (has_type type (type_of environment e)) _ (place_of e) (second_of_both (steps_of environment e) _ h)))

pub new_pass : (environment : Environment) (name : List ℕ) (at : Place) → IsNew environment name → AllPass (name_requirement environment name at)
new_pass environment name at e = needs_pass _ at (ap (λ entry. not (is_some entry)) e)

pub pass_new : (environment : Environment) (name : List ℕ) (at : Place) → AllPass (name_requirement environment name at) → IsNew environment name
pass_new environment name at h = go (binding_of environment name) (required _ _ at h) where
  go : (entry : Option Binding) → not (is_some entry) ≡ true → entry ≡ None
  go None e = refl
  go (Some entry) e = absurd cc

-- STATEMENTS
reduction_passes : (place : Place) (how : How) (number : ℕ) → IsReduction how → AllPass (scalar_steps place how number)
reduction_passes place (Fold op) number h = use_passes
reduction_passes place Less number h = use_passes
reduction_passes place Set number h = absurd h

passed_reduction : (place : Place) (how : How) (number : ℕ) → AllPass (scalar_steps place how number) → IsReduction how
passed_reduction place (Fold op) number h = tt
passed_reduction place Less number h = tt
passed_reduction place Set number h = failed _ place h

val_passes : (found : Option ValueType) (place : Place) {kind : Kind} → found ≡ Some (ElementType kind) → AllPass (val_steps found place)
val_passes found place e = subst (λ found. AllPass (val_steps found place)) (sym e) none_pass

element_passed : (found : Option ValueType) (place : Place) → AllPass (val_steps found place) → (kind : Kind) × (found ≡ Some (ElementType kind))
element_passed (Some (ElementType kind)) place h = (kind, refl)
element_passed (Some NumberType) place h = failed _ place h
element_passed (Some TruthType) place h = failed _ place h
element_passed None place h = failed _ place h

members_had : (set : SetName) (found : Option ValueType) → has_members set found ≡ true → (kind : Kind) × (found ≡ Some (ElementType kind)) × (has_set kind set ≡ true)
members_had set (Some (ElementType kind)) e = (kind, refl, e)
members_had set (Some NumberType) e = absurd cc
members_had set (Some TruthType) e = absurd cc
members_had set None e = absurd cc

pub environment_after_is : {environment after_environment : Environment} {s : Statement} → StatementFits environment s after_environment → after_environment ≡ environment_after environment s
environment_after_is (FitsVar place name at h is) = refl
environment_after_is {environment = environment} (FitsVal place name at h is) = ap (λ found. with_val name found environment) (sym (computed h))
environment_after_is (FitsField place name how is free h g) = refl
environment_after_is (FitsScalar place name how is r h) = refl
environment_after_is (FitsLocal place name how is h) = refl
environment_after_is (FitsIf place has_else h f g) = refl
environment_after_is (FitsWhile place h f) = refl
environment_after_is (FitsFor place name at set set_at h has is f) = refl

mutual
  pub statement_passes : {environment after_environment : Environment} {s : Statement} → StatementFits environment s after_environment → AllPass (statement_steps environment s)
  statement_passes {environment = environment} (FitsVar place name at h is) = then (typed_pass h) (new_pass environment name at is)
  statement_passes {environment = environment} (FitsVal {init = init} place name at h is) =
      then (then (passes h) (val_passes _ (place_of init) (computed h))) (new_pass environment name at is)
  statement_passes {environment = environment} (FitsField {kind = kind} {target = target} {set_to = set_to} place name how is free h g) =
      subst (λ global. AllPass (field_target_steps place how global (type_of environment target) (steps_of environment target) (typed_steps environment NumberType set_to))) (sym is)
      (then (then (then (then (needs_pass _ place (ap not free)) (passes h)) (needs_pass _ place (has_its_type (ElementType kind) (computed h)))) use_passes)
      (typed_pass g))
  statement_passes {environment = environment} (FitsScalar {number = number} {set_to = set_to} place name how is r h) =
      subst (λ global. AllPass (name_target_steps place how global (typed_steps environment NumberType set_to))) (sym is)
      (then (reduction_passes place how number r) (typed_pass h))
  statement_passes {environment = environment} (FitsLocal {set_to = set_to} place name how is h) =
      subst (λ global. AllPass (name_target_steps place how global (typed_steps environment NumberType set_to))) (sym is) (typed_pass h)
  statement_passes (FitsIf place has_else h f g) = then (then (typed_pass h) (body_passes f)) (body_passes g)
  statement_passes (FitsWhile place h f) = then (typed_pass h) (body_passes f)
  statement_passes {environment = environment} (FitsFor place name at set set_at h has is f) =
      then (then (then (passes h) (needs_pass _ set_at (ap (has_members set) (computed h) ∙ has))) (new_pass environment name at is)) (body_passes f)

  pub body_passes : {environment : Environment} {body : Body} → BodyFits environment body → AllPass (body_steps environment body)
  body_passes (FitsNothing environment) = none_pass
  body_passes (FitsThen {rest = rest} f g) =
      then (statement_passes f) (subst (λ environment. AllPass (body_steps environment rest)) (environment_after_is f) (body_passes g))

-- STATEMENTS that pass are typed: an assignment to F(x), and to a name
target_passed : (environment : Environment) (place : Place) (name : List ℕ) (how : How) (target set_to : Expression) (global : Option Binding) → binding_of environment name ≡ global
    → AllPass (field_target_steps place how global (type_of environment target) (steps_of environment target) (typed_steps environment NumberType set_to))
    → StatementFits environment (Assign place name (Some target) how set_to) environment
target_passed environment place name how target set_to (Some (FieldName number kind)) is h =
    let upto = first_of_both _ (access_step _ (mode_by how) place) (first_of_both _ (typed_steps environment NumberType set_to) h) in
    let free = required (not (is_built_in number)) _ place (first_of_both _ (steps_of environment target) (first_of_both _ (requirement _ _ place) upto)) in
    let had = type_had (ElementType kind) _ (required (has_type (ElementType kind) (type_of environment target)) _ place (second_of_both _ (requirement _ _ place) upto)) in
    FitsField place name how is (Rattle.std.proofs.lemmas.Bool.not-true (is_built_in number) free) (typed environment target (ElementType kind) had)
    (pass_typed environment NumberType set_to (second_of_both _ (typed_steps environment NumberType set_to) h))
target_passed environment place name how target set_to (Some (ScalarName number)) is h = failed _ place h
target_passed environment place name how target set_to (Some LocalName) is h = failed _ place h
target_passed environment place name how target set_to (Some (ElementName kind)) is h = failed _ place h
target_passed environment place name how target set_to None is h = failed _ place h

plain_passed : (environment : Environment) (place : Place) (name : List ℕ) (how : How) (set_to : Expression) (global : Option Binding) → binding_of environment name ≡ global
    → AllPass (name_target_steps place how global (typed_steps environment NumberType set_to)) → StatementFits environment (Assign place name None how set_to) environment
plain_passed environment place name how set_to (Some (ScalarName number)) is h =
    FitsScalar place name how is (passed_reduction place how number (first_of_both (scalar_steps place how number) _ h))
    (pass_typed environment NumberType set_to (second_of_both (scalar_steps place how number) _ h))
plain_passed environment place name how set_to (Some LocalName) is h = FitsLocal place name how is (pass_typed environment NumberType set_to h)
plain_passed environment place name how set_to (Some (FieldName number kind)) is h = failed _ place h
plain_passed environment place name how set_to (Some (ElementName kind)) is h = failed _ place h
plain_passed environment place name how set_to None is h = failed _ place h

val_passed : (environment : Environment) (place : Place) (name : List ℕ) (at : Place) (init : Expression) (kind : Kind) → type_of environment init ≡ Some (ElementType kind)
    → IsNew environment name → StatementFits environment (Val place name at init) (environment_after environment (Val place name at init))
val_passed environment place name at init kind e is =
    subst (λ found. StatementFits environment (Val place name at init) (with_val name found environment)) (sym e)
    (FitsVal place name at (typed environment init (ElementType kind) e) is)

mutual
  pub passed_statement : (environment : Environment) (s : Statement) → AllPass (statement_steps environment s) → StatementFits environment s (environment_after environment s)
  passed_statement environment (Var place name at init) h =
      FitsVar place name at (pass_typed environment NumberType init (first_of_both (typed_steps environment NumberType init) (name_requirement environment name at) h))
      (pass_new environment name at (second_of_both (typed_steps environment NumberType init) (name_requirement environment name at) h))
  passed_statement environment (Val place name at init) h =
      let front = first_of_both (steps_of environment init ++ val_steps (type_of environment init) (place_of init)) (name_requirement environment name at) h in
      let kind = element_passed (type_of environment init) (place_of init) (second_of_both (steps_of environment init) _ front) in
      val_passed environment place name at init kind.0 kind.1
      (pass_new environment name at (second_of_both (steps_of environment init ++ val_steps (type_of environment init) (place_of init)) _ h))
  passed_statement environment (Assign place name (Some target) how set_to) h = target_passed environment place name how target set_to (binding_of environment name) refl h
  passed_statement environment (Assign place name None how set_to) h = plain_passed environment place name how set_to (binding_of environment name) refl h
  passed_statement environment (If place test first second has_else) h =
      let front = first_of_both (typed_steps environment TruthType test ++ body_steps environment first) (body_steps environment second) h in
      FitsIf place has_else (pass_typed environment TruthType test (first_of_both (typed_steps environment TruthType test) (body_steps environment first) front))
      (passed_body environment first (second_of_both (typed_steps environment TruthType test) (body_steps environment first) front))
      (passed_body environment second (second_of_both (typed_steps environment TruthType test ++ body_steps environment first) (body_steps environment second) h))
  passed_statement environment (While place test body) h =
      FitsWhile place (pass_typed environment TruthType test (first_of_both (typed_steps environment TruthType test) (body_steps environment body) h))
      (passed_body environment body (second_of_both (typed_steps environment TruthType test) (body_steps environment body) h))
  passed_statement environment (For place name at set set_at arg body) h =
      let inner : Environment = (name, ElementName (kind_of set)) ∷ environment in
      let front = first_of_both ((steps_of environment arg ++ requirement (has_members set (type_of environment arg)) _ set_at) ++ name_requirement environment name at) (body_steps inner body) h in
      let early = first_of_both (steps_of environment arg ++ requirement (has_members set (type_of environment arg)) _ set_at) (name_requirement environment name at) front in
      let had = members_had set (type_of environment arg) (required _ _ set_at (second_of_both (steps_of environment arg) _ early)) in
      FitsFor place name at set set_at (typed environment arg (ElementType had.0) had.1) had.2
      (pass_new environment name at (second_of_both (steps_of environment arg ++ requirement (has_members set (type_of environment arg)) _ set_at) (name_requirement environment name at) front))
      (passed_body inner body (second_of_both ((steps_of environment arg ++ requirement (has_members set (type_of environment arg)) _ set_at) ++ name_requirement environment name at) (body_steps inner body) h))

  pub passed_body : (environment : Environment) (body : Body) → AllPass (body_steps environment body) → BodyFits environment body
  passed_body environment no_statement h = FitsNothing environment
  passed_body environment (statement s rest) h =
      FitsThen (passed_statement environment s (first_of_both (statement_steps environment s) (body_steps (environment_after environment s) rest) h))
      (passed_body (environment_after environment s) rest (second_of_both (statement_steps environment s) (body_steps (environment_after environment s) rest) h))
