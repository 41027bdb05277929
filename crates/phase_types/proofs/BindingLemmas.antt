-- A name's binding has the number of the part that declares it, and keeps it.
use Rattle.std.proofs.Common.{◌≡◌, ◌⊎◌, ℕ, zero, suc, Bool, true, false, List, [], ◌∷◌, ◌++◌, length, refl, sym, ap, subst, ◌∙◌, inl, inr}
use Rattle.std.proofs.lemmas.Bool.{cases_Bool}
use Rattle.std.proofs.lemmas.List.Elements.{filter_map-append}
use Rattle.std.proofs.lemmas.Slice.Eq.{bytes_eq-Decides}
use Rattle.std.specs.List.{AllByRecursion, filter_map}
use Rattle.std.specs.Prelude.{Option, Some, None, slice_get, if◌then◌else◌}
use Rattle.std.specs.Str.{bytes_eq}
use Rattle.liszt_base.specs.declared.elements.Kind.{Kind}
use Rattle.liszt_base.specs.declared.answers.Place.{Place}
use Rattle.liszt_tree.specs.Tree.{Expression, MainItem, MainField, MainVar, MainAssign, MainIf, MainWhile, MainFor, Print, Main, no_item, item}
use Rattle.phase_types.specs.Environments.{Environment, Binding, FieldName, ScalarName, LocalName, ElementName, binding_of, built_in_fields, Part, field_part, scalar_part, fields_in, Site, start, next_field, next_scalar, with_field, with_scalar, block_start, has_else_block, after_item, after_main, IsPrefix, DenotesPart, BindsParts}
use Rattle.phase_types.specs.Typed.{ItemFits, FitsMainField, FitsMainVar, FitsMainAssign, FitsMainIf, FitsMainWhile, FitsMainFor, FitsPrint, MainFits, FitsNoItem, FitsItems}
use Rattle.phase_types.proofs.PartLemmas.{item_is_prefix, next_part, part_at}

-- PARTS keep their numbers where further ones are appended
get_append : {A : Type 0} (xs ys : List A) (n : ℕ) (x : A) → slice_get xs n ≡ Some x → slice_get (xs ++ ys) n ≡ Some x
get_append [] ys n x e = absurd cc
get_append (y ∷ xs) ys zero x e = e
get_append (y ∷ xs) ys (suc n) x e = get_append xs ys n x e

sort_append : {A : Type 0} (sort : Part → Option A) (parts rest : List Part) (n : ℕ) (x : A) → slice_get (filter_map sort parts) n ≡ Some x
    → slice_get (filter_map sort (parts ++ rest)) n ≡ Some x
sort_append sort parts rest n x e =
    ap (λ xs. slice_get xs n) (filter_map-append sort parts rest) ∙ get_append (filter_map sort parts) (filter_map sort rest) n x e

pub denotes_later : (parts rest : List Part) (name : List ℕ) (binding : Binding) → DenotesPart parts name binding → DenotesPart (parts ++ rest) name binding
denotes_later parts rest name (FieldName number kind) (inl built_in) = inl built_in
denotes_later parts rest name (FieldName number kind) (inr declared) = inr (record {
  index = declared.index;
  scope = declared.scope;
  number_is = declared.number_is;
  at_index = sort_append field_part parts rest declared.index _ declared.at_index;
})
denotes_later parts rest name (ScalarName number) e = sort_append scalar_part parts rest number name e
denotes_later parts rest name LocalName h = absurd h
denotes_later parts rest name (ElementName kind) h = absurd h

-- the same environment, with further parts
pub binds_later : (site later : Site) → later.environment ≡ site.environment → IsPrefix site.parts later.parts → BindsParts site → BindsParts later
binds_later site later same on h = record {
  denotes = λ name binding e. subst (λ parts. DenotesPart parts name binding) (sym on.appended)
      (denotes_later site.parts on.rest name binding (h.denotes name binding (ap (λ environment. binding_of environment name) (sym same) ∙ e)));
}

pub equal_bytes : (xs ys : List ℕ) → bytes_eq xs ys ≡ true → xs ≡ ys
equal_bytes xs ys e = (bytes_eq-Decides xs ys).0 e

-- THE FIRST BINDING of an environment is that of its name, and the others are those of the rest
pub first_or_rest : (environment : Environment) (name other : List ℕ) (first binding : Binding) → binding_of ((name, first) ∷ environment) other ≡ Some binding
    → ((name ≡ other) × (first ≡ binding)) ⊎ (binding_of environment other ≡ Some binding)
first_or_rest environment name other first binding e = elim (cases_Bool (bytes_eq other name)) as (λ c. ((name ≡ other) × (first ≡ binding)) ⊎ (binding_of environment other ≡ Some binding)) [
  | inl is ↦ inl (sym (equal_bytes other name is), (let f : Some first ≡ Some binding = rw is at e in cc))
  | inr is ↦ inr (rw is at e)
]

field_binds : (name : List ℕ) (kind : Kind) (site : Site) → BindsParts site → BindsParts (with_field name kind site)
field_binds name kind site h = record {
  denotes = λ other binding e. elim (first_or_rest site.environment name other (FieldName (next_field site) kind) binding e) as (λ c. DenotesPart (with_field name kind site).parts other binding) [
    | inl is ↦ subst (λ binding. DenotesPart (with_field name kind site).parts other binding) is.1 (subst (λ other. DenotesPart (with_field name kind site).parts other (FieldName (next_field site) kind)) is.0
        (inr (record { index = length (fields_in site.parts); scope = site.scope; number_is = refl; at_index = part_at field_part site.parts [] _ _ refl })))
    | inr old ↦ denotes_later site.parts _ other binding (h.denotes other binding old)
  ];
}

scalar_binds : (name : List ℕ) (site : Site) → BindsParts site → BindsParts (with_scalar name site)
scalar_binds name site h = record {
  denotes = λ other binding e. elim (first_or_rest site.environment name other (ScalarName (next_scalar site)) binding e) as (λ c. DenotesPart (with_scalar name site).parts other binding) [
    | inl is ↦ subst (λ binding. DenotesPart (with_scalar name site).parts other binding) is.1 (subst (λ other. DenotesPart (with_scalar name site).parts other (ScalarName (next_scalar site))) is.0
        (part_at scalar_part site.parts [] _ _ refl))
    | inr old ↦ denotes_later site.parts _ other binding (h.denotes other binding old)
  ];
}

-- AT THE START the built-in fields are bound
abbrev IsFieldBinding : Binding → Type 0
IsFieldBinding (FieldName number kind) = Unit {0}
IsFieldBinding _ = ⊥

binds_fields : (environment : Environment) (name : List ℕ) (binding : Binding) → AllByRecursion (λ entry. IsFieldBinding entry.1) environment
    → binding_of environment name ≡ Some binding → IsFieldBinding binding
binds_fields [] name binding all e = absurd cc
binds_fields (entry ∷ environment) name binding all e = elim (first_or_rest environment entry.0 name entry.1 binding e) as (λ c. IsFieldBinding binding) [
  | inl is ↦ subst IsFieldBinding is.1 all.0
  | inr old ↦ binds_fields environment name binding all.1 old
]

is_field : (name : List ℕ) (binding : Binding) → binding_of built_in_fields name ≡ Some binding → IsFieldBinding binding
is_field name binding e = binds_fields built_in_fields name binding (tt {0}, (tt {0}, (tt {0}, (tt {0}, (tt {0}, tt {0}))))) e

start_binding : (name : List ℕ) (binding : Binding) → binding_of built_in_fields name ≡ Some binding → DenotesPart start.parts name binding
start_binding name (FieldName number kind) e = inl e
start_binding name (ScalarName number) e = absurd (is_field name (ScalarName number) e)
start_binding name LocalName e = absurd (is_field name LocalName e)
start_binding name (ElementName kind) e = absurd (is_field name (ElementName kind) e)

pub start_binds : BindsParts start
start_binds = record { denotes = start_binding }

-- AFTER AN ITEM the environment has a further binding or is the same
if_environment : (site : Site) (place : Place) (test : Expression) (first second : Main) (has_else : Bool)
    → (after_item site (MainIf place test first second has_else)).environment ≡ site.environment
if_environment site place test first second has_else = go (has_else_block second has_else) _ _ refl refl where
  go : (b : Bool) (this other : Site) → this.environment ≡ site.environment → other.environment ≡ site.environment → (if b then this else other).environment ≡ site.environment
  go true this other e f = e
  go false this other e f = f

pub item_binds : (site : Site) (i : MainItem) → BindsParts site → BindsParts (after_item site i)
item_binds site (MainField place name at kind init) h = field_binds name kind site h
item_binds site (MainVar place name at init) h = scalar_binds name site h
item_binds site (MainAssign place name how value) h = h
item_binds site (MainIf place test first second has_else) h =
    let i : MainItem = MainIf place test first second has_else in
    binds_later site (after_item site i) (if_environment site place test first second has_else) (item_is_prefix site i) h
item_binds site (MainWhile place test body) h =
    let i : MainItem = MainWhile place test body in
    binds_later site (after_item site i) refl (item_is_prefix site i) h
item_binds site (MainFor place name at over body) h =
    let i : MainItem = MainFor place name at over body in
    binds_later site (after_item site i) refl (item_is_prefix site i) h
item_binds site (Print place value) h = h

pub main_binds : (site : Site) (program : Main) → BindsParts site → BindsParts (after_main site program)
main_binds site no_item h = h
main_binds site (item i rest) h = main_binds (after_item site i) rest (item_binds site i h)

pub block_binds : (site : Site) → BindsParts site → BindsParts (block_start site)
block_binds site h = binds_later site (block_start site) refl (next_part site.parts _) h

-- A TYPED ITEM keeps the bindings of all names
rest_binding : (environment : Environment) (name other : List ℕ) (first binding : Binding) → binding_of environment name ≡ None
    → binding_of environment other ≡ Some binding → binding_of ((name, first) ∷ environment) other ≡ Some binding
rest_binding environment name other first binding new e = elim (cases_Bool (bytes_eq other name)) as (λ c. binding_of ((name, first) ∷ environment) other ≡ Some binding) [
  | inl is ↦ absurd (let same : other ≡ name = equal_bytes other name is in let none : binding_of environment other ≡ None = ap (λ n. binding_of environment n) same ∙ new in cc)
  | inr is ↦ rw is e
]

pub item_keeps : (site : Site) (i : MainItem) (name : List ℕ) (binding : Binding) → ItemFits site i → binding_of site.environment name ≡ Some binding
    → binding_of (after_item site i).environment name ≡ Some binding
item_keeps site _ other binding (FitsMainField place name at kind h is) e = rest_binding site.environment name other (FieldName (next_field site) kind) binding is e
item_keeps site _ other binding (FitsMainVar place name at h is) e = rest_binding site.environment name other (ScalarName (next_scalar site)) binding is e
item_keeps site i other binding (FitsMainAssign place name how is h) e = e
item_keeps site i other binding (FitsMainIf {test = test} {first = first} {second = second} place has_else h f g) e =
    ap (λ environment. binding_of environment other) (if_environment site place test first second has_else) ∙ e
item_keeps site i other binding (FitsMainWhile place h f) e = e
item_keeps site i other binding (FitsMainFor place name at over is h) e = e
item_keeps site i other binding (FitsPrint place h) e = e

pub main_keeps : (site : Site) (program : Main) (name : List ℕ) (binding : Binding) → MainFits site program → binding_of site.environment name ≡ Some binding
    → binding_of (after_main site program).environment name ≡ Some binding
main_keeps site _ name binding (FitsNoItem _) e = e
main_keeps site _ name binding (FitsItems {i = i} {rest = rest} h g) e = main_keeps (after_item site i) rest name binding g (item_keeps site i name binding h e)
