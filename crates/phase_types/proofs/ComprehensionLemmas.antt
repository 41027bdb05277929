-- The comprehensions of a typed program fit, and their names denote parts of the program; its scopes are enclosed by earlier ones.
use Rattle.std.proofs.Common.{◌≡◌, ◌⊎◌, ◌<◌, ◌≤◌, ℕ, zero, suc, ◌+◌, Bool, true, false, List, [], ◌∷◌, ◌++◌, length, refl, sym, ap, subst, ◌∙◌, inl, inr, arith}
use Rattle.std.proofs.lemmas.List.{length-append}
use Rattle.std.proofs.lemmas.List.Elements.{filter_map-append}
use Rattle.std.specs.List.{AllByRecursion}
use Rattle.std.specs.Prelude.{Some, None, slice_get, if◌then◌else◌}
use Rattle.liszt_tree.specs.Tree.{MainItem, MainField, MainVar, MainAssign, MainIf, MainWhile, MainFor, Print, Main, no_item, item}
use Rattle.phase_types.specs.CheckedParts.{HasLowerParents}
use Rattle.phase_types.specs.Environments.{Binding, binding_of, Comprehension, Part, ComprehensionPart, ScopePart, comprehension_part, scope_part, comprehensions_in, scopes_in, Site, start, comprehension_at, block_start, after_block, has_else_block, after_item, after_main, parts_of, comprehension_of, scopes_of, IsPrefix, DenotesPart, BindsParts}
use Rattle.phase_types.specs.Typed.{ComprehensionFits, ItemFits, FitsMainField, FitsMainVar, FitsMainAssign, FitsMainIf, FitsMainWhile, FitsMainFor, FitsPrint, MainFits, FitsNoItem, FitsItems, IsTyped}
use Rattle.phase_types.proofs.BindingLemmas.{denotes_later, binds_later, start_binds, item_binds, block_binds}
use Rattle.phase_types.proofs.CheckedLemmas.{one_more, no_more}
use Rattle.phase_types.proofs.PartLemmas.{same_parts, next_part, prefix_of_prefix, main_is_prefix}
use Rattle.phase_types.proofs.StepLemmas.{all_of_both}

-- A COMPREHENSION that fits, and whose names denote parts
pub record Stands (parts : List Part) (c : Comprehension) : Type 0 where
  pub fits : ComprehensionFits c
  pub denotes : (name : List ℕ) (binding : Binding) → binding_of c.environment name ≡ Some binding → DenotesPart parts name binding

abbrev AllStand : List Part → List Part → Type 0
AllStand last parts = AllByRecursion (Stands last) (comprehensions_in parts)

other_part : (last parts : List Part) (part : Part) → comprehension_part part ≡ None → AllStand last parts → AllStand last (parts ++ part ∷ [])
other_part last parts part e all = subst (AllByRecursion (Stands last)) (no_more comprehension_part parts part e) all

either_stands : (last : List Part) (b : Bool) (this other : Site) → (IsPrefix this.parts last → AllStand last this.parts) → (IsPrefix other.parts last → AllStand last other.parts)
    → IsPrefix (if b then this else other).parts last → AllStand last (if b then this else other).parts
either_stands last true this other h g on = h on
either_stands last false this other h g on = g on

mutual
  item_stands : {site : Site} {i : MainItem} (last : List Part) → ItemFits site i → BindsParts site → IsPrefix (after_item site i).parts last → AllStand last site.parts
      → AllStand last (after_item site i).parts
  item_stands {site = site} last (FitsMainField place name at kind h is) b on all = other_part last site.parts _ refl all
  item_stands {site = site} last (FitsMainVar place name at h is) b on all = other_part last site.parts _ refl all
  item_stands last (FitsMainAssign place name how is h) b on all = all
  item_stands {site = site} last (FitsMainIf {first = first} {second = second} place has_else h f g) b on all =
      let opened : Site = block_start site in
      let after_first : Site = after_block site (after_main opened first) in
      let other : Site = block_start after_first in
      let in_block : AllStand last opened.parts = other_part last site.parts (ScopePart site.scope) refl all in
      let up_to_first : IsPrefix site.parts after_first.parts = prefix_of_prefix (next_part site.parts _) (main_is_prefix opened first) in
      either_stands last (has_else_block second has_else) (after_block site (after_main other second)) after_first
      (λ on. items_stand last g (binds_later site other refl (prefix_of_prefix up_to_first (next_part after_first.parts _)) b) on
      (other_part last after_first.parts (ScopePart site.scope) refl
      (items_stand last f (block_binds site b) (prefix_of_prefix (prefix_of_prefix (next_part after_first.parts _) (main_is_prefix other second)) on) in_block)))
      (λ on. items_stand last f (block_binds site b) on in_block) on
  item_stands {site = site} last (FitsMainWhile place h f) b on all =
      items_stand last f (block_binds site b) on (other_part last site.parts (ScopePart site.scope) refl all)
  item_stands {site = site} last (FitsMainFor {body = body} place name at over is h) b on all =
      let c : Comprehension = comprehension_at site name over body in
      let up_to : IsPrefix site.parts last = prefix_of_prefix (next_part site.parts (ComprehensionPart c)) on in
      subst (AllByRecursion (Stands last)) (one_more comprehension_part site.parts (ComprehensionPart c) c refl)
      (all_of_both (Stands last) (comprehensions_in site.parts) (c ∷ []) all (
        record {
          fits = h;
          denotes = λ name binding e. subst (λ parts. DenotesPart parts name binding) (sym up_to.appended) (denotes_later site.parts up_to.rest name binding (b.denotes name binding e));
        },
        tt,
      ))
  item_stands last (FitsPrint place h) b on all = all

  items_stand : {site : Site} {program : Main} (last : List Part) → MainFits site program → BindsParts site → IsPrefix (after_main site program).parts last → AllStand last site.parts
      → AllStand last (after_main site program).parts
  items_stand last (FitsNoItem site) b on all = all
  items_stand {site = site} last (FitsItems {i = i} {rest = rest} h g) b on all =
      items_stand last g (item_binds site i b) on (item_stands last h b (prefix_of_prefix (main_is_prefix (after_item site i) rest) on) all)

pub same_item : {A : Type 0} (y x : A) → Some y ≡ Some x → y ≡ x
same_item y x e = cc

all_at : {A : Type 0} (P : A → Type 0) (xs : List A) (n : ℕ) (x : A) → AllByRecursion P xs → slice_get xs n ≡ Some x → P x
all_at P [] n x all e = absurd cc
all_at P (y ∷ xs) zero x all e = subst P (same_item y x e) all.0
all_at P (y ∷ xs) (suc n) x all e = all_at P xs n x all.1 e

pub comprehension_stands : (program : Main) → IsTyped program → (k : ℕ) (c : Comprehension) → comprehension_of program k ≡ Some c → Stands (parts_of program) c
comprehension_stands program h k c e =
    all_at (Stands (parts_of program)) (comprehensions_in (parts_of program)) k c (items_stand (parts_of program) h start_binds (same_parts (parts_of program)) tt) e

-- SCOPES: the scope of a site is one of them, and each is enclosed by an earlier one
record IsNested (site : Site) : Type 0 where
  pub scope : site.scope < length (scopes_in site.parts)
  pub lower : HasLowerParents (scopes_in site.parts)

last_or_earlier : (xs : List ℕ) (last n x : ℕ) → slice_get (xs ++ last ∷ []) n ≡ Some x → (slice_get xs n ≡ Some x) ⊎ ((n ≡ length xs) × (last ≡ x))
last_or_earlier [] last zero x e = inr (refl, cc)
last_or_earlier [] last (suc n) x e = absurd cc
last_or_earlier (y ∷ xs) last zero x e = inl e
last_or_earlier (y ∷ xs) last (suc n) x e = elim (last_or_earlier xs last n x e) as (λ c. (slice_get xs n ≡ Some x) ⊎ ((suc n ≡ suc (length xs)) × (last ≡ x))) [
  | inl old ↦ inl old
  | inr is ↦ inr (ap suc is.0, is.1)
]

lower_with : (scopes : List ℕ) (parent : ℕ) → HasLowerParents scopes → parent < length scopes → HasLowerParents (scopes ++ parent ∷ [])
lower_with scopes parent lower within k found e = elim (last_or_earlier scopes parent (k + 1) found e) as (λ c. found ≤ k) [
  | inl old ↦ lower k found old
  | inr is ↦ (let at : k + 1 ≡ length scopes = is.0 in let same : parent ≡ found = is.1 in omega (arith, at, same, within))
]

-- the scopes at a later site are at least as many
no_fewer : (parts rest : List Part) → length (scopes_in parts) ≤ length (scopes_in (parts ++ rest))
no_fewer parts rest =
    let e : length (scopes_in (parts ++ rest)) ≡ length (scopes_in parts) + length (scopes_in rest) =
    ap length (filter_map-append scope_part parts rest) ∙ length-append (scopes_in parts) (scopes_in rest) in
    omega (arith, e)

scope_remains : (site later : Site) → later.scope ≡ site.scope → IsPrefix site.parts later.parts → IsNested site → later.scope < length (scopes_in later.parts)
scope_remains site later same on h =
    let more : length (scopes_in site.parts) ≤ length (scopes_in later.parts) = subst (λ parts. length (scopes_in site.parts) ≤ length (scopes_in parts)) (sym on.appended) (no_fewer site.parts on.rest) in
    let within : site.scope < length (scopes_in site.parts) = h.scope in
    omega (arith, same, more, within)

-- a part that is no scope, and the start of a block
nested_with : (site later : Site) → later.scope ≡ site.scope → scopes_in site.parts ≡ scopes_in later.parts → IsNested site → IsNested later
nested_with site later same e h = record {
  scope = subst (λ scopes. later.scope < length scopes) e (subst (λ scope. scope < length (scopes_in site.parts)) (sym same) h.scope);
  lower = subst HasLowerParents e h.lower;
}

nested_block : (site : Site) → IsNested site → IsNested (block_start site)
nested_block site h =
    let scopes : List ℕ = scopes_in site.parts in
    let e : scopes ++ site.scope ∷ [] ≡ scopes_in (block_start site).parts = one_more scope_part site.parts (ScopePart site.scope) site.scope refl in
    let longer : length (scopes ++ site.scope ∷ []) ≡ length scopes + 1 = length-append scopes (site.scope ∷ []) in
    record {
      scope = subst (λ scopes'. length scopes < length scopes') e (omega (arith, longer));
      lower = subst HasLowerParents e (lower_with scopes site.scope h.lower h.scope);
    }

-- after a block
nested_after : (site «end» : Site) → IsPrefix site.parts «end».parts → IsNested site → IsNested «end» → IsNested (after_block site «end»)
nested_after site «end» on h g = record { scope = scope_remains site (after_block site «end») refl on h; lower = g.lower }

either_nested : (b : Bool) (this other : Site) → IsNested this → IsNested other → IsNested (if b then this else other)
either_nested true this other h g = h
either_nested false this other h g = g

mutual
  item_nested : (site : Site) (i : MainItem) → IsNested site → IsNested (after_item site i)
  item_nested site (MainField place name at kind init) h = nested_with site (after_item site (MainField place name at kind init)) refl (no_more scope_part site.parts _ refl) h
  item_nested site (MainVar place name at init) h = nested_with site (after_item site (MainVar place name at init)) refl (no_more scope_part site.parts _ refl) h
  item_nested site (MainAssign place name how value) h = h
  item_nested site (MainIf place test first second has_else) h =
      let opened : Site = block_start site in
      let after_first : Site = after_block site (after_main opened first) in
      let other : Site = block_start after_first in
      let up_to_first : IsPrefix site.parts after_first.parts = prefix_of_prefix (next_part site.parts _) (main_is_prefix opened first) in
      let up_to_second : IsPrefix after_first.parts (after_main other second).parts = prefix_of_prefix (next_part after_first.parts _) (main_is_prefix other second) in
      let one : IsNested after_first = nested_after site (after_main opened first) up_to_first h (main_nested opened first (nested_block site h)) in
      either_nested (has_else_block second has_else) (after_block site (after_main other second)) after_first
      (nested_after site (after_main other second) (prefix_of_prefix up_to_first up_to_second) h (main_nested other second (nested_block after_first one))) one
  item_nested site (MainWhile place test body) h =
      nested_after site (after_main (block_start site) body) (prefix_of_prefix (next_part site.parts _) (main_is_prefix (block_start site) body)) h
      (main_nested (block_start site) body (nested_block site h))
  item_nested site (MainFor place name at over body) h = nested_with site (after_item site (MainFor place name at over body)) refl (no_more scope_part site.parts _ refl) h
  item_nested site (Print place value) h = h

  main_nested : (site : Site) (program : Main) → IsNested site → IsNested (after_main site program)
  main_nested site no_item h = h
  main_nested site (item i rest) h = main_nested (after_item site i) rest (item_nested site i h)

no_second : (n : ℕ) (x : ℕ) → slice_get (0 ∷ []) (suc n) ≡ Some x → ⊥
no_second n x e = absurd cc

only_start : HasLowerParents (0 ∷ [])
only_start k parent e =
    let more : k + 1 ≡ suc k = omega arith in
    absurd (no_second k parent (ap (slice_get (0 ∷ [])) (sym more) ∙ e))

start_nested : IsNested start
start_nested = record { scope = (let e : 0 < 1 = omega arith in e); lower = only_start }

pub scopes_nested : (program : Main) → HasLowerParents (scopes_of program)
scopes_nested program = (main_nested start program start_nested).lower
