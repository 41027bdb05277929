-- The fields of the outermost scope are bound to their numbers after a typed program: blocks declare none, and no name is declared twice.
use Rattle.std.proofs.Common.{◌≡◌, ◌⊎◌, ℕ, zero, suc, ◌+◌, ◌≤◌, length, Bool, true, false, List, [], ◌∷◌, ◌++◌, refl, sym, ap, subst, ◌∙◌, inl, inr, arith}
use Rattle.std.proofs.lemmas.List.{append-nil}
use Rattle.std.proofs.lemmas.List.Elements.{filter_map-append}
use Rattle.std.proofs.lemmas.Slice.Eq.{bytes_eq-Decides}
use Rattle.std.specs.List.{cons_option}
use Rattle.std.specs.Prelude.{Some, None, slice_get, if◌then◌else◌}
use Rattle.std.specs.Str.{bytes_eq}
use Rattle.liszt_base.specs.MeshLists.{MeshLists}
use Rattle.liszt_base.specs.declared.answers.RunEnd.TheVariants.{Done as IsDone}
use Rattle.liszt_base.specs.declared.elements.Kind.{Kind}
use Rattle.liszt_tree.specs.Tree.{MainItem, MainField, MainVar, MainAssign, MainIf, MainWhile, MainFor, Print, Main, no_item, item}
use Rattle.phase_types.specs.declared.info.FieldInfo.{FieldInfo}
use Rattle.phase_types.specs.Environments.{Environment, FieldName, binding_of, first_declared, Part, FieldPart, ScalarPart, ScopePart, ComprehensionPart, field_part, scope_part, fields_in, fields_of, Site, start, next_field, next_scope, with_field, comprehension_at, block_start, after_block, has_else_block, after_item, after_main, IsPrefix}
use Rattle.phase_types.specs.Typed.{ItemFits, MainFits, FitsNoItem, FitsItems, IsTyped}
use Rattle.phase_types.proofs.BindingLemmas.{item_keeps}
use Rattle.phase_types.proofs.PartLemmas.{next_part, prefix_of_prefix, item_is_prefix, main_is_prefix}
use Rattle.kernel_eval.specs.Fits.{IsLive, EntryFits}
use Rattle.kernel_eval.specs.States.{State}
use Rattle.seq_meaning.specs.Runs.{run, run_end}
use Rattle.seq_meaning.proofs.PathEntryLemmas.{last_state_fits}
use Rattle.seq_meaning.proofs.TypedRunLemmas.{low_number, more_of}

-- THE OUTERMOST FIELDS among the parts of a program are bound to their numbers
record BindsOutermost (environment : Environment) (parts : List Part) : Type 0 where
  pub bound : (index : ℕ) (info : FieldInfo) → slice_get (fields_in parts) index ≡ Some info → info.scope ≡ 0
      → binding_of environment info.name ≡ Some (FieldName (first_declared + index) info.kind)

-- a further part
earlier_or_last : {A : Type 0} (xs : List A) (x y : A) (n : ℕ) → slice_get (xs ++ x ∷ []) n ≡ Some y → (slice_get xs n ≡ Some y) ⊎ ((n ≡ length xs) × (x ≡ y))
earlier_or_last [] x y zero e = inr (refl, cc)
earlier_or_last [] x y (suc n) e = absurd cc
earlier_or_last (z ∷ xs) x y zero e = inl e
earlier_or_last (z ∷ xs) x y (suc n) e = elim (earlier_or_last xs x y n e) as (λ c. (slice_get xs n ≡ Some y) ⊎ ((suc n ≡ length (z ∷ xs)) × (x ≡ y))) [
  | inl old ↦ inl old
  | inr last ↦ inr (omega (arith, last.0), last.1)
]

field_earlier_or_last : (parts : List Part) (new info : FieldInfo) (index : ℕ) → slice_get (fields_in (parts ++ FieldPart new ∷ [])) index ≡ Some info
    → (slice_get (fields_in parts) index ≡ Some info) ⊎ ((index ≡ length (fields_in parts)) × (new ≡ info))
field_earlier_or_last parts new info index e =
    earlier_or_last (fields_in parts) new info index (ap (λ fields. slice_get fields index) (sym (filter_map-append field_part parts (FieldPart new ∷ []))) ∙ e)

no_field : (environment : Environment) (parts : List Part) (part : Part) → field_part part ≡ None → BindsOutermost environment parts
    → BindsOutermost environment (parts ++ part ∷ [])
no_field environment parts part none h =
    let same : fields_in (parts ++ part ∷ []) ≡ fields_in parts =
    filter_map-append field_part parts (part ∷ []) ∙ ap (λ found. fields_in parts ++ cons_option found []) none ∙ append-nil (fields_in parts) in
    record { bound = λ index info e outermost. h.bound index info (ap (λ fields. slice_get fields index) (sym same) ∙ e) outermost }

inner_field : (environment : Environment) (parts : List Part) (new : FieldInfo) → 1 ≤ new.scope → BindsOutermost environment parts
    → BindsOutermost environment (parts ++ FieldPart new ∷ [])
inner_field environment parts new inner h = record {
  bound = λ index info e outermost. elim (field_earlier_or_last parts new info index e) as (λ c. binding_of environment info.name ≡ Some (FieldName (first_declared + index) info.kind)) [
    | inl old ↦ h.bound index info old outermost
    | inr last ↦ absurd (omega (arith, inner, outermost, ap (λ info. info.scope) last.1))
  ];
}

-- BLOCKS declare no field of the outermost scope
abbrev DeclaresInner : Site → MainItem → Type 0
DeclaresInner site (MainField place name at kind init) = 1 ≤ site.scope
DeclaresInner site _ = Unit {0}

declares_inner : (site : Site) (i : MainItem) → 1 ≤ site.scope → DeclaresInner site i
declares_inner site (MainField place name at kind init) inner = inner
declares_inner site _ inner = tt

scope_after : (site : Site) (i : MainItem) → (after_item site i).scope ≡ site.scope
scope_after site (MainIf place test first second has_else) = go (has_else_block second has_else) _ _ refl refl where
  go : (b : Bool) (this other : Site) → this.scope ≡ site.scope → other.scope ≡ site.scope → (if b then this else other).scope ≡ site.scope
  go true this other e f = e
  go false this other e f = f
scope_after site _ = refl

either_binds : (environment : Environment) (b : Bool) (this other : Site) → BindsOutermost environment this.parts → BindsOutermost environment other.parts
    → BindsOutermost environment (if b then this else other).parts
either_binds environment true this other h g = h
either_binds environment false this other h g = g

opened : (environment : Environment) (site : Site) → BindsOutermost environment site.parts → BindsOutermost environment (block_start site).parts
opened environment site h = no_field environment site.parts (ScopePart site.scope) refl h

further_scopes : (site there : Site) → IsPrefix site.parts there.parts → 1 ≤ next_scope site → 1 ≤ next_scope there
further_scopes site there on some = omega (arith, some, more_of scope_part site.parts there.parts on)

opened_scopes : (site : Site) → 1 ≤ next_scope site → 1 ≤ next_scope (block_start site)
opened_scopes site some = further_scopes site (block_start site) (next_part site.parts (ScopePart site.scope)) some

mutual
  item_binds : (environment : Environment) (site : Site) (i : MainItem) → DeclaresInner site i → 1 ≤ next_scope site → BindsOutermost environment site.parts
      → BindsOutermost environment (after_item site i).parts
  item_binds environment site (MainField place name at kind init) inner some h = inner_field environment site.parts _ inner h
  item_binds environment site (MainVar place name at init) inner some h = no_field environment site.parts (ScalarPart name) refl h
  item_binds environment site (MainAssign place name how value) inner some h = h
  item_binds environment site (MainIf place test first second has_else) inner some h =
      let after_first : Site = after_block site (after_main (block_start site) first) in
      let some_later : 1 ≤ next_scope after_first =
      further_scopes site after_first (prefix_of_prefix (next_part site.parts (ScopePart site.scope)) (main_is_prefix (block_start site) first)) some in
      let first_binds : BindsOutermost environment after_first.parts = main_binds environment (block_start site) first some (opened_scopes site some) (opened environment site h) in
      either_binds environment (has_else_block second has_else) (after_block site (after_main (block_start after_first) second)) after_first
      (main_binds environment (block_start after_first) second some_later (opened_scopes after_first some_later) (opened environment after_first first_binds)) first_binds
  item_binds environment site (MainWhile place test body) inner some h = main_binds environment (block_start site) body some (opened_scopes site some) (opened environment site h)
  item_binds environment site (MainFor place name at over body) inner some h = no_field environment site.parts (ComprehensionPart (comprehension_at site name over body)) refl h
  item_binds environment site (Print place value) inner some h = h

  main_binds : (environment : Environment) (site : Site) (program : Main) → 1 ≤ site.scope → 1 ≤ next_scope site → BindsOutermost environment site.parts
      → BindsOutermost environment (after_main site program).parts
  main_binds environment site no_item inner some h = h
  main_binds environment site (item i rest) inner some h =
      main_binds environment (after_item site i) rest (omega (arith, inner, scope_after site i)) (further_scopes site (after_item site i) (item_is_prefix site i) some)
      (item_binds environment site i (declares_inner site i inner) some h)

-- THE OUTERMOST SCOPE: a field binds its name, and each item keeps the bindings of others
abbrev BindsAt : Site → Type 0
BindsAt site = BindsOutermost site.environment site.parts

no_declaration : (site : Site) (i : MainItem) → ItemFits site i → DeclaresInner site i → 1 ≤ next_scope site → BindsAt site → BindsAt (after_item site i)
no_declaration site i fits inner some h = record {
  bound = λ index info e outermost. item_keeps site i info.name (FieldName (first_declared + index) info.kind) fits
      ((item_binds site.environment site i inner some h).bound index info e outermost);
}

head_binding : (site : Site) (name : List ℕ) (kind : Kind) → binding_of (with_field name kind site).environment name ≡ Some (FieldName (next_field site) kind)
head_binding site name kind = let same : bytes_eq name name ≡ true = (bytes_eq-Decides name name).1 refl in rw same refl

outer_item_binds : (site : Site) (i : MainItem) → ItemFits site i → 1 ≤ next_scope site → BindsAt site → BindsAt (after_item site i)
outer_item_binds site (MainField place name at kind init) fits some b = record {
  bound = λ index info e outermost. elim (field_earlier_or_last site.parts (record { name = name; kind = kind; scope = site.scope }) info index e)
      as (λ c. binding_of (with_field name kind site).environment info.name ≡ Some (FieldName (first_declared + index) info.kind)) [
        | inl old ↦ item_keeps site (MainField place name at kind init) info.name (FieldName (first_declared + index) info.kind) fits (b.bound index info old outermost)
        | inr last ↦ subst (λ info. binding_of (with_field name kind site).environment info.name ≡ Some (FieldName (first_declared + index) info.kind)) last.1
            (subst (λ index. binding_of (with_field name kind site).environment name ≡ Some (FieldName (first_declared + index) kind)) (sym last.0) (head_binding site name kind))
      ];
}
outer_item_binds site i fits some b = no_declaration site i fits (tt {0}) some b

outer_main_binds : {site : Site} {program : Main} → MainFits site program → 1 ≤ next_scope site → BindsAt site → BindsAt (after_main site program)
outer_main_binds (FitsNoItem site) some b = b
outer_main_binds {site = site} (FitsItems {i = i} f g) some b = outer_main_binds g (further_scopes site (after_item site i) (item_is_prefix site i) some) (outer_item_binds site i f some b)

start_binds : BindsAt start
start_binds = record { bound = λ index info e outermost. absurd (none_at index info e) } where
  none_at : (index : ℕ) (info : FieldInfo) → slice_get (fields_in start.parts) index ≡ Some info → ⊥
  none_at zero info e = cc
  none_at (suc index) info e = cc

-- THE FIELDS AT THE END
module _ (mesh : MeshLists) (turns index : ℕ) (info : FieldInfo) where
  declared_is_live : (s : State) → EntryFits mesh s (FieldName (first_declared + index) info.kind) → IsLive mesh s (first_declared + index) info.kind
  declared_is_live s (inl built_in) = absurd (omega (arith, low_number (first_declared + index) info.kind built_in))
  declared_is_live s (inr live) = live

  pub outermost_is_live : (program : Main) → IsTyped program → run_end mesh program turns ≡ Some IsDone → slice_get (fields_of program) index ≡ Some info → info.scope ≡ 0
      → IsLive mesh (run mesh program turns).after.state (first_declared + index) info.kind
  outermost_is_live program typed done found outermost =
      declared_is_live (run mesh program turns).after.state
      ((last_state_fits mesh turns program typed done).entry_fits info.name (FieldName (first_declared + index) info.kind)
      ((outer_main_binds typed (omega arith) start_binds).bound index info found outermost))
