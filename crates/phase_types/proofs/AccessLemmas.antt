-- What a typed comprehension accesses: fields and scalars that its names denote, a built-in field to read it alone, and no scalar to write it.
use Rattle.std.proofs.Common.{◌≡◌, ◌<◌, ℕ, zero, suc, Bool, true, false, not, cond, List, [], ◌∷◌, ◌++◌, length, refl, sym, subst, ◌∙◌, inl, inr, arith}
use Rattle.std.specs.List.{AllByRecursion, find, filter_map}
use Rattle.std.specs.Option.{option_map, option_and_then}
use Rattle.std.specs.Prelude.{Option, Some, None, slice_get, Ok}
use Rattle.liszt_base.specs.Kinds.{kind_of}
use Rattle.liszt_base.specs.declared.accesses.Mode.{Mode}
use Rattle.liszt_base.specs.declared.accesses.Mode.TheVariants.{Read, Write, Reduce}
use Rattle.liszt_base.specs.declared.answers.Place.{Place}
use Rattle.liszt_base.specs.declared.answers.ProgramWhat.{ProgramWhat}
use Rattle.liszt_base.specs.declared.answers.ProgramWhat.TheVariants.{TypeMismatch, BuiltinWrite}
use Rattle.liszt_tree.specs.declared.tree.How.{How}
use Rattle.liszt_tree.specs.declared.tree.How.TheVariants.{Set, Fold, Less}
use Rattle.liszt_tree.specs.Tree.{Expression, Number, Name, Field, Call, Towards, Neg, Not, Chain, Compare, Links, no_links, link}
use Rattle.liszt_tree.specs.Tree.{Statement, Var, Val, Assign, If, While, For, Body, no_statement, statement, Main}
use Rattle.phase_types.specs.Checked.{CheckedProgram, checked_program, checked_mode}
use Rattle.phase_types.specs.CheckedParts.{MayHaveMode, IsSubjectOf, HasModesInRange, HasAllowedModes}
use Rattle.phase_types.specs.Environments.{Environment, Binding, FieldName, ScalarName, LocalName, ElementName, binding_of, built_in_fields, is_built_in, Comprehension, Part, fields_in, scalars_in, comprehension_of, parts_of, DenotesPart}
use Rattle.phase_types.specs.Typed.{ComprehensionFits}
use Rattle.phase_types.specs.Types.{ValueType, NumberType, TruthType, ElementType, type_of, operator_type}
use Rattle.phase_types.specs.Walk.{Subject, OfField, OfScalar, is_subject, AccessAt, mode_by, Step, TestStep, AccessStep, access_of, requirement, failure, access_step, place_of, has_type, has_members, name_steps, field_steps, steps_of, link_steps, typed_steps, name_requirement, with_val, environment_after, val_steps, field_target_steps, scalar_steps, name_target_steps, statement_steps, body_steps, steps_in, accesses_of, mode_in}
use Rattle.phase_types.proofs.BindingLemmas.{first_or_rest}
use Rattle.phase_types.proofs.CheckedLemmas.{checked_parts, checked_is_typed}
use Rattle.phase_types.proofs.ComprehensionLemmas.{Stands, comprehension_stands}
use Rattle.phase_types.proofs.ModeLemmas.{subjects_are}
use Rattle.phase_types.proofs.StepLemmas.{all_of_both, AllPass, first_of_both, second_of_both, required, body_passes}

-- BINDINGS of fields and scalars of which a fact holds
abbrev pub BindingHas : (Subject → Type 0) → Binding → Type 0
BindingHas Has (FieldName number kind) = Has (OfField number)
BindingHas Has (ScalarName number) = Has (OfScalar number)
BindingHas Has _ = Unit {0}

pub record Binds (Has : Subject → Type 0) (environment : Environment) : Type 0 where
  pub each : (name : List ℕ) (binding : Binding) → binding_of environment name ≡ Some binding → BindingHas Has binding

binds_more : {Has : Subject → Type 0} {environment : Environment} → Binds Has environment → (name : List ℕ) (first : Binding) → BindingHas Has first → Binds Has ((name, first) ∷ environment)
binds_more {Has = Has} {environment = environment} b name first h = record {
  each = λ other binding e. elim (first_or_rest environment name other first binding e) as (λ c. BindingHas Has binding) [
    | inl is ↦ subst (BindingHas Has) is.1 h
    | inr old ↦ b.each other binding old
  ];
}

-- STEPS whose accesses are to such fields and scalars, in modes that they may have
abbrev pub IsAllowed : (Subject → Type 0) → AccessAt → Type 0
IsAllowed Has access = Has access.subject × MayHaveMode access.subject access.mode

abbrev pub IsAllowedStep : (Subject → Type 0) → Step → Type 0
IsAllowedStep Has (TestStep fault) = Unit {0}
IsAllowedStep Has (AccessStep access) = IsAllowed Has access

pub record AllAllowed (Has : Subject → Type 0) (steps : List Step) : Type 0 where
  pub all : AllByRecursion (IsAllowedStep Has) steps

no_step : {Has : Subject → Type 0} → AllAllowed Has []
no_step = record { all = tt }

joint : {Has : Subject → Type 0} {xs ys : List Step} → AllAllowed Has xs → AllAllowed Has ys → AllAllowed Has (xs ++ ys)
joint {Has = Has} {xs = xs} {ys = ys} h g = record { all = all_of_both (IsAllowedStep Has) xs ys h.all g.all }

failing : {Has : Subject → Type 0} (what : ProgramWhat) (place : Place) → AllAllowed Has (failure what place)
failing what place = record { all = (tt, tt) }

needed : {Has : Subject → Type 0} (b : Bool) (what : ProgramWhat) (place : Place) → AllAllowed Has (requirement b what place)
needed true what place = record { all = (tt, tt) }
needed false what place = record { all = (tt, tt) }

one_access : {Has : Subject → Type 0} (subject : Subject) (mode : Mode) (place : Place) → Has subject → MayHaveMode subject mode → AllAllowed Has (access_step subject mode place)
one_access subject mode place h may = record { all = ((h, may), tt) }

read_is_no_write : Read ≡ Write → ⊥
read_is_no_write e = absurd cc

-- expressions
name_allowed : {Has : Subject → Type 0} (place : Place) (found : Option Binding) → ((binding : Binding) → found ≡ Some binding → BindingHas Has binding) → AllAllowed Has (name_steps place found)
name_allowed place None h = failing _ place
name_allowed place (Some (FieldName number kind)) h = failing _ place
name_allowed place (Some (ScalarName number)) h = one_access (OfScalar number) Read place (h (ScalarName number) refl) read_is_no_write
name_allowed place (Some LocalName) h = no_step
name_allowed place (Some (ElementName kind)) h = no_step

field_allowed : {Has : Subject → Type 0} (place : Place) (found : Option Binding) (type : Option ValueType) (arg : List Step) → ((binding : Binding) → found ≡ Some binding → BindingHas Has binding)
    → AllAllowed Has arg → AllAllowed Has (field_steps place found type arg)
field_allowed place None type arg h a = failing _ place
field_allowed place (Some (FieldName number kind)) type arg h a =
    joint (joint a (needed (has_type (ElementType kind) type) TypeMismatch place)) (one_access (OfField number) Read place (h (FieldName number kind) refl) (λ e. refl))
field_allowed place (Some (ScalarName number)) type arg h a = failing _ place
field_allowed place (Some LocalName) type arg h a = failing _ place
field_allowed place (Some (ElementName kind)) type arg h a = failing _ place

mutual
  expression_allowed : {Has : Subject → Type 0} {environment : Environment} → Binds Has environment → (e : Expression) → AllAllowed Has (steps_of environment e)
  expression_allowed b (Number place value) = no_step
  expression_allowed {environment = environment} b (Name place name) = name_allowed place (binding_of environment name) (b.each name)
  expression_allowed {environment = environment} b (Field place name arg) =
      field_allowed place (binding_of environment name) (type_of environment arg) (steps_of environment arg) (b.each name) (expression_allowed b arg)
  expression_allowed b (Call place fun arg) = joint (expression_allowed b arg) (needed _ TypeMismatch place)
  expression_allowed b (Towards place arg to) = joint (joint (expression_allowed b arg) (expression_allowed b to)) (needed _ TypeMismatch place)
  expression_allowed b (Neg place arg) = joint (expression_allowed b arg) (needed _ TypeMismatch place)
  expression_allowed b (Not place arg) = joint (expression_allowed b arg) (needed _ TypeMismatch place)
  expression_allowed {environment = environment} b (Chain level first links) = joint (expression_allowed b first) (links_allowed b (type_of environment first) links)
  expression_allowed b (Compare place rel left right) = joint (joint (expression_allowed b left) (expression_allowed b right)) (needed _ TypeMismatch place)

  links_allowed : {Has : Subject → Type 0} {environment : Environment} → Binds Has environment → (type : Option ValueType) (links : Links) → AllAllowed Has (link_steps environment type links)
  links_allowed b type no_links = no_step
  links_allowed {environment = environment} b type (link sign place arg rest) =
      joint (joint (expression_allowed b arg) (needed _ TypeMismatch place)) (links_allowed b (operator_type sign type (type_of environment arg)) rest)

typed_allowed : {Has : Subject → Type 0} {environment : Environment} → Binds Has environment → (type : ValueType) (e : Expression) → AllAllowed Has (typed_steps environment type e)
typed_allowed b type e = joint (expression_allowed b e) (needed _ TypeMismatch (place_of e))

-- statements whose tests pass
not_built_in : (number : ℕ) (mode : Mode) → not (is_built_in number) ≡ true → is_built_in number ≡ true → mode ≡ Read
not_built_in number mode e f = absurd (go (is_built_in number) e f) where
  go : (b : Bool) → not b ≡ true → b ≡ true → ⊥
  go true e f = absurd cc
  go false e f = absurd cc

field_target_allowed : {Has : Subject → Type 0} (place : Place) (how : How) (found : Option Binding) (type : Option ValueType) (target value : List Step)
    → ((binding : Binding) → found ≡ Some binding → BindingHas Has binding) → AllAllowed Has target → AllAllowed Has value → AllPass (field_target_steps place how found type target value)
    → AllAllowed Has (field_target_steps place how found type target value)
field_target_allowed place how None type target value h t v p = failing _ place
field_target_allowed place how (Some (FieldName number kind)) type target value h t v p =
    let new : List Step = requirement (not (is_built_in number)) BuiltinWrite place in
    let kinds : List Step = requirement (has_type (ElementType kind) type) TypeMismatch place in
    let access : List Step = access_step (OfField number) (mode_by how) place in
    let first : AllPass new = first_of_both new target (first_of_both (new ++ target) kinds (first_of_both ((new ++ target) ++ kinds) access (first_of_both (((new ++ target) ++ kinds) ++ access) value p))) in
    joint (joint (joint (joint (needed (not (is_built_in number)) BuiltinWrite place) t) (needed (has_type (ElementType kind) type) TypeMismatch place))
    (one_access (OfField number) (mode_by how) place (h (FieldName number kind) refl) (not_built_in number (mode_by how) (required _ BuiltinWrite place first)))) v
field_target_allowed place how (Some (ScalarName number)) type target value h t v p = failing _ place
field_target_allowed place how (Some LocalName) type target value h t v p = failing _ place
field_target_allowed place how (Some (ElementName kind)) type target value h t v p = failing _ place

reduction_is_no_write : (op : _) → Reduce op ≡ Write → ⊥
reduction_is_no_write op e = absurd cc

scalar_allowed : {Has : Subject → Type 0} (place : Place) (how : How) (number : ℕ) → Has (OfScalar number) → AllAllowed Has (scalar_steps place how number)
scalar_allowed place Set number h = failing _ place
scalar_allowed place (Fold op) number h = one_access (OfScalar number) (mode_by (Fold op)) place h (reduction_is_no_write op)
scalar_allowed place Less number h = one_access (OfScalar number) (mode_by Less) place h (reduction_is_no_write _)

name_target_allowed : {Has : Subject → Type 0} (place : Place) (how : How) (found : Option Binding) (value : List Step) → ((binding : Binding) → found ≡ Some binding → BindingHas Has binding)
    → AllAllowed Has value → AllAllowed Has (name_target_steps place how found value)
name_target_allowed place how None value h v = failing _ place
name_target_allowed place how (Some (ScalarName number)) value h v = joint (scalar_allowed place how number (h (ScalarName number) refl)) v
name_target_allowed place how (Some LocalName) value h v = v
name_target_allowed place how (Some (FieldName number kind)) value h v = failing _ place
name_target_allowed place how (Some (ElementName kind)) value h v = failing _ place

val_allowed : {Has : Subject → Type 0} (type : Option ValueType) (place : Place) → AllAllowed Has (val_steps type place)
val_allowed (Some (ElementType kind)) place = no_step
val_allowed (Some NumberType) place = failing _ place
val_allowed (Some TruthType) place = failing _ place
val_allowed None place = failing _ place

val_binds : {Has : Subject → Type 0} {environment : Environment} → Binds Has environment → (name : List ℕ) (type : Option ValueType) → Binds Has (with_val name type environment)
val_binds b name (Some (ElementType kind)) = binds_more b name (ElementName kind) tt
val_binds b name (Some NumberType) = b
val_binds b name (Some TruthType) = b
val_binds b name None = b

binds_after : {Has : Subject → Type 0} {environment : Environment} → Binds Has environment → (s : Statement) → Binds Has (environment_after environment s)
binds_after b (Var place name at init) = binds_more b name LocalName tt
binds_after {environment = environment} b (Val place name at init) = val_binds b name (type_of environment init)
binds_after b (Assign place name target how value) = b
binds_after b (If place test first second has_else) = b
binds_after b (While place test body) = b
binds_after b (For place name at set set_at arg body) = b

mutual
  statement_allowed : {Has : Subject → Type 0} {environment : Environment} → Binds Has environment → (s : Statement) → AllPass (statement_steps environment s)
      → AllAllowed Has (statement_steps environment s)
  statement_allowed b (Var place name at init) p = joint (typed_allowed b NumberType init) (needed _ _ at)
  statement_allowed {environment = environment} b (Val place name at init) p =
      joint (joint (expression_allowed b init) (val_allowed (type_of environment init) (place_of init))) (needed _ _ at)
  statement_allowed {environment = environment} b (Assign place name (Some target) how value) p =
      field_target_allowed place how (binding_of environment name) (type_of environment target) (steps_of environment target) (typed_steps environment NumberType value) (b.each name)
      (expression_allowed b target) (typed_allowed b NumberType value) p
  statement_allowed {environment = environment} b (Assign place name None how value) p =
      name_target_allowed place how (binding_of environment name) (typed_steps environment NumberType value) (b.each name) (typed_allowed b NumberType value)
  statement_allowed {environment = environment} b (If place test first second has_else) p =
      let steps : List Step = typed_steps environment TruthType test in
      let one : List Step = body_steps environment first in
      let two : List Step = body_steps environment second in
      joint (joint (typed_allowed b TruthType test) (body_allowed b first (second_of_both steps one (first_of_both (steps ++ one) two p)))) (body_allowed b second (second_of_both (steps ++ one) two p))
  statement_allowed {environment = environment} b (While place test body) p =
      joint (typed_allowed b TruthType test) (body_allowed b body (second_of_both (typed_steps environment TruthType test) (body_steps environment body) p))
  statement_allowed {environment = environment} b (For place name at set set_at arg body) p =
      let inner : Environment = (name, ElementName (kind_of set)) ∷ environment in
      let has : List Step = requirement (has_members set (type_of environment arg)) TypeMismatch set_at in
      joint (joint (joint (expression_allowed b arg) (needed (has_members set (type_of environment arg)) TypeMismatch set_at)) (needed _ _ at))
      (body_allowed (binds_more b name (ElementName (kind_of set)) tt) body (second_of_both ((steps_of environment arg ++ has) ++ name_requirement environment name at) (body_steps inner body) p))

  body_allowed : {Has : Subject → Type 0} {environment : Environment} → Binds Has environment → (body : Body) → AllPass (body_steps environment body) → AllAllowed Has (body_steps environment body)
  body_allowed b no_statement p = no_step
  body_allowed {environment = environment} b (statement s rest) p =
      joint (statement_allowed b s (first_of_both (statement_steps environment s) (body_steps (environment_after environment s) rest) p))
      (body_allowed (binds_after b s) rest (second_of_both (statement_steps environment s) (body_steps (environment_after environment s) rest) p))

-- THE ACCESSES of a comprehension, and the first one to a field or a scalar
accesses_allowed : (Has : Subject → Type 0) (steps : List Step) → AllByRecursion (IsAllowedStep Has) steps → AllByRecursion (IsAllowed Has) (filter_map access_of steps)
accesses_allowed Has [] h = tt
accesses_allowed Has (TestStep fault ∷ steps) h = accesses_allowed Has steps h.1
accesses_allowed Has (AccessStep access ∷ steps) h = (h.0, accesses_allowed Has steps h.1)

abbrev mode_found : Option AccessAt → Option Mode
mode_found found = option_map (λ access. access.mode) found

first_allowed : (Has : Subject → Type 0) (subject : Subject) (mode : Mode) (accesses : List AccessAt) → AllByRecursion (IsAllowed Has) accesses
    → mode_found (find (λ access. is_subject subject access.subject) accesses) ≡ Some mode → Has subject × MayHaveMode subject mode
first_allowed Has subject mode [] h e = absurd cc
first_allowed Has subject mode (access ∷ rest) h e = go (is_subject subject access.subject) refl (first_allowed Has subject mode rest h.1) e where
  same_mode : (x y : Mode) → Some x ≡ Some y → x ≡ y
  same_mode x y e = cc

  go : (b : Bool) → is_subject subject access.subject ≡ b → (mode_found (find (λ access. is_subject subject access.subject) rest) ≡ Some mode → Has subject × MayHaveMode subject mode)
      → mode_found (cond b (Some access) (find (λ access. is_subject subject access.subject) rest)) ≡ Some mode → Has subject × MayHaveMode subject mode
  go true is again e =
      subst (λ subject. Has subject × MayHaveMode subject mode) (sym (subjects_are subject access.subject is))
      (subst (λ mode. Has access.subject × MayHaveMode access.subject mode) (same_mode access.mode mode e) h.0)
  go false is again e = again e

mode_allowed : (Has : Subject → Type 0) (c : Comprehension) (subject : Subject) (mode : Mode) → Binds Has c.environment → ComprehensionFits c → mode_in c subject ≡ Some mode
    → Has subject × MayHaveMode subject mode
mode_allowed Has c subject mode b fits e =
    first_allowed Has subject mode (accesses_of c)
    (accesses_allowed Has (steps_in c) (body_allowed (binds_more b c.name (ElementName c.over) tt) c.body (body_passes fits.body_fits)).all) e

-- FIELDS AND SCALARS of a program are those that names denote
pub get_within : {A : Type 0} (xs : List A) (n : ℕ) (x : A) → slice_get xs n ≡ Some x → n < length xs
get_within [] n x e = absurd cc
get_within (y ∷ xs) zero x e = omega arith
get_within (y ∷ xs) (suc n) x e = let h : n < length xs = get_within xs n x e in omega (arith, h)

abbrev IsBuiltIn : Binding → Type 0
IsBuiltIn (FieldName number kind) = number < 5
IsBuiltIn _ = Unit {0}

pub binds_all : (P : Binding → Type 0) (environment : Environment) (name : List ℕ) (binding : Binding) → AllByRecursion (λ entry. P entry.1) environment
    → binding_of environment name ≡ Some binding → P binding
binds_all P [] name binding all e = absurd cc
binds_all P (entry ∷ environment) name binding all e = elim (first_or_rest environment entry.0 name entry.1 binding e) as (λ c. P binding) [
  | inl is ↦ subst P is.1 all.0
  | inr old ↦ binds_all P environment name binding all.1 old
]

built_in : (name : List ℕ) (binding : Binding) → binding_of built_in_fields name ≡ Some binding → IsBuiltIn binding
built_in name binding e =
    let a : 0 < 5 = omega arith in let b : 1 < 5 = omega arith in let c : 2 < 5 = omega arith in let d : 3 < 5 = omega arith in let f : 4 < 5 = omega arith in
    binds_all IsBuiltIn built_in_fields name binding (a, (b, (c, (d, (f, tt {0}))))) e

abbrev pub HasPart : List Part → Subject → Type 0
HasPart parts subject = IsSubjectOf (length (fields_in parts)) (length (scalars_in parts)) subject

denoted_part : (parts : List Part) (name : List ℕ) (binding : Binding) → DenotesPart parts name binding → BindingHas (HasPart parts) binding
denoted_part parts name (FieldName number kind) (inl is) = inl (built_in name (FieldName number kind) is)
denoted_part parts name (FieldName number kind) (inr d) = inr (d.index, d.number_is, get_within (fields_in parts) d.index _ d.at_index)
denoted_part parts name (ScalarName number) e = get_within (scalars_in parts) number name e
denoted_part parts name LocalName h = tt
denoted_part parts name (ElementName kind) h = tt

stands_binds : (parts : List Part) (c : Comprehension) → Stands parts c → Binds (HasPart parts) c.environment
stands_binds parts c s = record { each = λ name binding e. denoted_part parts name binding (s.denotes name binding e) }

-- THE MODES of a checked program
module _ (program : Main) (checked : CheckedProgram) (is : checked_program program ≡ Ok checked) where
  tree_mode : (k : ℕ) (subject : Subject) → checked_mode checked k subject ≡ option_and_then (λ c. mode_in c subject) (comprehension_of program k)
  tree_mode k (OfField number) = (checked_parts program checked is).modes k number
  tree_mode k (OfScalar number) = (checked_parts program checked is).scalar_modes k number

  both : (k : ℕ) (subject : Subject) (mode : Mode) → checked_mode checked k subject ≡ Some mode → HasPart (parts_of program) subject × MayHaveMode subject mode
  both k subject mode e = go (comprehension_of program k) refl (sym (tree_mode k subject) ∙ e) where
    go : (found : Option Comprehension) → comprehension_of program k ≡ found → option_and_then (λ c. mode_in c subject) found ≡ Some mode
        → HasPart (parts_of program) subject × MayHaveMode subject mode
    go None there e = absurd cc
    go (Some c) there e =
        let s : Stands (parts_of program) c = comprehension_stands program (checked_is_typed program checked is) k c there in
        mode_allowed (HasPart (parts_of program)) c subject mode (stands_binds (parts_of program) c s) s.fits e

  pub modes_in_range : HasModesInRange checked
  modes_in_range k subject mode e =
      let parts = checked_parts program checked is in
      subst (λ fields. IsSubjectOf (length fields) (length checked.scalars) subject) (sym parts.fields)
      (subst (λ scalars. IsSubjectOf (length (fields_in (parts_of program))) (length scalars) subject) (sym parts.scalars) ((both k subject mode e).0))

  pub modes_allowed : HasAllowedModes checked
  modes_allowed k subject mode e = (both k subject mode e).1
