-- The checked program of a tree has the tree's first fault, or else its parts.
use Rattle.std.proofs.Common.{◌≡◌, ℕ, zero, suc, ◌+◌, ◌≤◌, Bool, true, false, List, [], ◌∷◌, ◌++◌, length, map, refl, sym, ap, subst, ◌∙◌, append_assoc, arith, cond}
use Rattle.std.proofs.lemmas.List.{append-nil, length-append}
use Rattle.std.proofs.lemmas.List.Elements.{filter_map-append}
use Rattle.std.specs.List.{find, filter_map, cons_option}
use Rattle.std.specs.Option.{option_map, option_and_then}
use Rattle.std.specs.Prelude.{Option, Some, None, slice_get, if◌then◌else◌, Result, Ok, Err}
use Rattle.std.specs.Str.{bytes_eq}
use Rattle.liszt_base.specs.declared.answers.Place.{Place}
use Rattle.liszt_base.specs.declared.answers.ProgramFault.{ProgramFault}
use Rattle.liszt_base.specs.Limits.{token_limit}
use Rattle.liszt_base.specs.declared.elements.Kind.{Kind}
use Rattle.liszt_tree.specs.declared.tree.How.{How}
use Rattle.liszt_tree.specs.Tree.{item_nodes, main_nodes, Expression, Body, MainItem, MainField, MainVar, MainAssign, MainIf, MainWhile, MainFor, Print, Main, no_item, item}
use Rattle.resolved_code.specs.declared.expressions.NumberCode.{NumberCode}
use Rattle.resolved_code.specs.declared.items.ComprehensionCode.{ComprehensionCode}
use Rattle.resolved_code.specs.declared.items.ItemCode.{ItemCode}
use Rattle.resolved_code.specs.declared.items.ItemCode.TheVariants as code
use Rattle.phase_types.specs.declared.resolution.Resolution.{Resolution}
use Rattle.phase_types.specs.declared.resolution.Resolution.TheVariants as resolution
use Rattle.phase_types.specs.Checked.{main_number, main_truth, declared_field, declared_scalar, items_of_item, item_count, MainState, built_in_names, first_state, declares_field, declares_scalar, with_comprehension_code, opens_block, closes_block, assigned_scalar, block_code, else_block, resolved_item, resolved_items, CheckedProgram, checked_program, access_mode, HasPartsOf, IsWithin, IsChecked}
use Rattle.phase_types.specs.Environments.{Environment, Binding, FieldName, ScalarName, ElementName, binding_of, first_declared, Comprehension, Part, ScopePart, field_part, scalar_part, comprehension_part, scope_part, fields_in, scalars_in, comprehensions_in, scopes_in, Site, start, with_field, with_scalar, comprehension_at, with_comprehension, block_start, after_block, has_else_block, after_item, after_main}
use Rattle.phase_types.specs.Resolve.{◌>>=◌, Frame, declared_element, Names, resolution_of, new_name, Accesses, accesses_in, no_slots, with_element, element_name, resolved_number, resolved_truth, resolved_body, resolved_comprehension}
use Rattle.phase_types.specs.Types.{NumberType, TruthType}
use Rattle.phase_types.specs.Walk.{Subject, OfField, OfScalar, Step, TestStep, AccessStep, access_of, mode_in, typed_steps, name_requirement, body_steps, faults_in_steps, faults_in_main, main_target_steps, faults_in_item, faults_in_items, check_fault}
use Rattle.phase_types.specs.Typed.{IsTyped}
use Rattle.phase_types.proofs.FaultLemmas.{no_fault, is_typed}
use Rattle.phase_types.proofs.BodyLemmas.{after_body, declared, new_walks, body_walks}
use Rattle.phase_types.proofs.ConflictLemmas.{first_fault, Summarizes, no_accesses, WalksSteps, walks_steps, by_fault, main_walk}
use Rattle.phase_types.proofs.ResolveLemmas.{binding_in, Agrees, number_walks, truth_walks}
use Rattle.phase_types.proofs.WalkLemmas.{walk, Walks, IsAny}

-- A RESULT of tests in their order: their first fault, or else a value with a property
abbrev pub MatchesFirst : {A : Type 0} → List (Option ProgramFault) → (A → Type 0) → Result A ProgramFault → Type 0
MatchesFirst faults P (Ok a) = (first_fault faults ≡ None) × P a
MatchesFirst faults P (Err fault) = first_fault faults ≡ Some fault

pub record Finds {A : Type 0} (faults : List (Option ProgramFault)) (P : A → Type 0) (result : Result A ProgramFault) : Type 0 where
  pub same : MatchesFirst faults P result

none_first : (xs ys : List (Option ProgramFault)) → first_fault xs ≡ None → first_fault (xs ++ ys) ≡ first_fault ys
none_first [] ys e = refl
none_first (None ∷ xs) ys e = none_first xs ys e
none_first (Some fault ∷ xs) ys e = absurd cc

some_first : (xs ys : List (Option ProgramFault)) (fault : ProgramFault) → first_fault xs ≡ Some fault → first_fault (xs ++ ys) ≡ Some fault
some_first [] ys fault e = absurd cc
some_first (None ∷ xs) ys fault e = some_first xs ys fault e
some_first (Some other ∷ xs) ys fault e = e

after_none : {B : Type 0} {Q : B → Type 0} (xs ys : List (Option ProgramFault)) (result : Result B ProgramFault) → first_fault xs ≡ None → Finds ys Q result → Finds (xs ++ ys) Q result
after_none xs ys (Ok b) e h = record { same = (none_first xs ys e ∙ h.same.0, h.same.1) }
after_none xs ys (Err fault) e h = record { same = none_first xs ys e ∙ h.same }

found_both : {A B : Type 0} {P : A → Type 0} {Q : B → Type 0} (xs ys : List (Option ProgramFault)) (first : Result A ProgramFault) (next : A → Result B ProgramFault)
    → Finds xs P first → ((a : A) → P a → Finds ys Q (next a)) → Finds (xs ++ ys) Q (first >>= next)
found_both xs ys (Ok a) next h g = after_none xs ys (next a) (h.same.0) (g a (h.same.1))
found_both xs ys (Err fault) next h g = record { same = some_first xs ys fault (h.same) }

found_made : {A B : Type 0} {P : A → Type 0} {Q : B → Type 0} {faults : List (Option ProgramFault)} (result : Result A ProgramFault) (f : A → B) → Finds faults P result
    → ((a : A) → P a → Q (f a)) → Finds faults Q (result >>= λ a. Ok (f a))
found_made (Ok a) f h g = record { same = (h.same.0, g a (h.same.1)) }
found_made (Err fault) f h g = record { same = h.same }

-- steps of the main program
found_main : {A : Type 0} {s : A → Accesses} {P : A → Type 0} (steps : List Step) (result : Result A ProgramFault) → Walks s P (walk None steps) result → Finds (faults_in_main steps) P result
found_main {s = s} {P = P} steps result h = go (first_fault (faults_in_main steps)) refl result (subst (λ walked. Walks s P walked result) (main_walk steps) h) where
  go : (fault : Option ProgramFault) → first_fault (faults_in_main steps) ≡ fault → (result : Result _ ProgramFault) → Walks s P (by_fault fault) result → Finds (faults_in_main steps) P result
  go None e (Ok a) h = record { same = (e, h.same.1) }
  go None e (Err other) h = absurd (h.same)
  go (Some fault) e (Ok a) h = absurd (h.same)
  go (Some fault) e (Err other) h = record { same = e ∙ ap Some (h.same) }

-- steps of a comprehension
found_steps : {A : Type 0} {s : A → Accesses} {P : A → Type 0} (steps : List Step) (walked : Result Accesses ProgramFault) (result : Result A ProgramFault) → Walks s P walked result
    → WalksSteps [] steps walked → Finds (faults_in_steps [] steps) (λ a. Summarizes (accesses_in (s a)) (filter_map access_of steps)) result
found_steps steps (Ok (Some firsts)) (Ok a) h g = record { same = (g.same.0, subst (λ accesses. Summarizes (accesses_in accesses) (filter_map access_of steps)) (sym (h.same.0)) (g.same.1)) }
found_steps steps (Ok None) result h g = absurd (g.same)
found_steps steps (Ok (Some firsts)) (Err other) h g = absurd (h.same)
found_steps steps (Err fault) (Ok a) h g = absurd (h.same)
found_steps steps (Err fault) (Err other) h g = record { same = g.same ∙ ap Some (h.same) }

-- THE CODE OF A COMPREHENSION has its kind and its modes, and is the resolved comprehension
pub record IsCodeOf (c : ComprehensionCode) (comprehension : Comprehension) : Type 0 where
  pub over : c.over ≡ comprehension.over
  pub modes : (subject : Subject) → access_mode c subject ≡ mode_in comprehension subject
  pub names : Names
  pub agrees : Agrees names comprehension.environment
  pub at : Place
  pub resolved : resolved_comprehension names comprehension.name at comprehension.over comprehension.body ≡ Ok c

abbrev pub AreCodesOf : List ComprehensionCode → List Comprehension → Type 0
AreCodesOf [] [] = Unit {0}
AreCodesOf (c ∷ cs) (comprehension ∷ comprehensions) = IsCodeOf c comprehension × AreCodesOf cs comprehensions
AreCodesOf _ _ = ⊥

codes_append : (cs : List ComprehensionCode) (comprehensions : List Comprehension) (c : ComprehensionCode) (comprehension : Comprehension) → AreCodesOf cs comprehensions → IsCodeOf c comprehension
    → AreCodesOf (cs ++ c ∷ []) (comprehensions ++ comprehension ∷ [])
codes_append [] [] c comprehension h g = (g, tt)
codes_append (x ∷ cs) (y ∷ comprehensions) c comprehension h g = (h.0, codes_append cs comprehensions c comprehension h.1 g)
codes_append [] (y ∷ comprehensions) c comprehension h g = absurd h
codes_append (x ∷ cs) [] c comprehension h g = absurd h

name_found : {names : Names} {environment : Environment} → Agrees names environment → (name : List ℕ) (at : Place)
    → Finds (faults_in_main (name_requirement environment name at)) (λ u. resolution_of names name ≡ None) (new_name (resolution_of names name) at)
name_found {names = names} {environment = environment} agrees name at =
    found_main {s = λ (u : Unit {0}). None} (name_requirement environment name at) (new_name (resolution_of names name) at) (new_walks agrees None name at)

abbrev HasKindAndModes : Comprehension → ComprehensionCode → Type 0
HasKindAndModes comprehension c = (c.over ≡ comprehension.over) × ((subject : Subject) → access_mode c subject ≡ mode_in comprehension subject)

comprehension_walked : {names : Names} {environment : Environment} → Agrees names environment → (name : List ℕ) (at : Place) (over : Kind) (body : Body)
    → Finds (faults_in_main (name_requirement environment name at) ++ faults_in_steps [] (body_steps ((name, ElementName over) ∷ environment) body))
    (HasKindAndModes (record { environment = environment; name = name; over = over; body = body })) (resolved_comprehension names name at over body)
comprehension_walked {names = names} {environment = environment} agrees name at over body =
    let steps : List Step = body_steps ((name, ElementName over) ∷ environment) body in
    found_both {P = λ (d : ℕ × Names × Frame). Agrees d.1 ((name, ElementName over) ∷ environment) × (d.2.accesses ≡ Some [])}
    (faults_in_main (name_requirement environment name at)) (faults_in_steps [] steps) (declared_element names no_slots name at over) _
    (found_made (new_name (resolution_of names name) at) _ (name_found agrees name at) (λ u new. new_element agrees name over new))
    (λ d h. found_made (resolved_body d.1 d.2 [] body) _
    (found_steps steps (walk (Some []) steps) (resolved_body d.1 d.2 [] body) (subst (λ accesses. Walks after_body IsAny (walk accesses steps) (resolved_body d.1 d.2 [] body)) (h.1) (body_walks (h.0) d.2 [] body))
    (walks_steps steps [] [] no_accesses))
    (λ b h. (refl, λ subject. ap (option_map (λ access. access.mode)) (h.found subject))))
  where
    new_element : {names : Names} {environment : Environment} → Agrees names environment → (name : List ℕ) (over : Kind) → resolution_of names name ≡ None
        → Agrees (names ++ element_name name over no_slots ∷ []) ((name, ElementName over) ∷ environment) × ((with_element over no_slots).accesses ≡ Some [])
    new_element agrees name over new = (declared name (resolution.Element 0 over) agrees new, refl)

found_value : {A : Type 0} {P Q : A → Type 0} {faults : List (Option ProgramFault)} (result : Result A ProgramFault) → Finds faults P result → ((a : A) → P a → result ≡ Ok a → Q a) → Finds faults Q result
found_value (Ok a) h g = record { same = (h.same.0, g a (h.same.1) refl) }
found_value (Err fault) h g = record { same = h.same }

pub comprehension_found : {names : Names} {environment : Environment} → Agrees names environment → (name : List ℕ) (at : Place) (over : Kind) (body : Body)
    → Finds (faults_in_main (name_requirement environment name at) ++ faults_in_steps [] (body_steps ((name, ElementName over) ∷ environment) body))
    (λ c. IsCodeOf c (record { environment = environment; name = name; over = over; body = body })) (resolved_comprehension names name at over body)
comprehension_found {names = names} agrees name at over body =
    found_value (resolved_comprehension names name at over body) (comprehension_walked agrees name at over body)
    (λ c h is. record { over = h.0; modes = h.1; names = names; agrees = agrees; at = at; resolved = is })

-- THE MAIN PROGRAM so far has the names, the scope and the parts of its site
pub record Follows (state : MainState) (site : Site) : Type 0 where
  pub agrees : Agrees state.names site.environment
  pub scope : state.scope ≡ site.scope
  pub fields : state.fields ≡ fields_in site.parts
  pub scalars : state.scalars ≡ scalars_in site.parts
  pub scopes : state.scopes ≡ scopes_in site.parts
  pub comprehensions : AreCodesOf state.comprehensions (comprehensions_in site.parts)

-- the parts of a sort after a further part of that sort, and of another one
pub one_more : {A : Type 0} (sort : Part → Option A) (parts : List Part) (part : Part) (x : A) → sort part ≡ Some x → filter_map sort parts ++ x ∷ [] ≡ filter_map sort (parts ++ part ∷ [])
one_more sort parts part x e = sym (filter_map-append sort parts (part ∷ []) ∙ ap (λ found. filter_map sort parts ++ cons_option found []) e)

pub no_more : {A : Type 0} (sort : Part → Option A) (parts : List Part) (part : Part) → sort part ≡ None → filter_map sort parts ≡ filter_map sort (parts ++ part ∷ [])
no_more sort parts part e = sym (filter_map-append sort parts (part ∷ []) ∙ ap (λ found. filter_map sort parts ++ cons_option found []) e ∙ append-nil (filter_map sort parts))

pub field_follows : (state : MainState) (site : Site) (name : List ℕ) (kind : Kind) → Follows state site → resolution_of state.names name ≡ None → Follows (declares_field name kind state) (with_field name kind site)
field_follows state site name kind h new = record {
  agrees = subst (λ number. Agrees (declares_field name kind state).names ((name, FieldName number kind) ∷ site.environment)) (ap (λ fields. first_declared + length fields) h.fields)
      (declared name (resolution.Field (first_declared + length state.fields) kind) h.agrees new);
  scope = h.scope;
  fields = ap (λ fields. fields ++ record { name = name; kind = kind; scope = state.scope } ∷ []) h.fields
      ∙ ap (λ scope. fields_in site.parts ++ record { name = name; kind = kind; scope = scope } ∷ []) h.scope ∙ one_more field_part site.parts _ _ refl;
  scalars = h.scalars ∙ no_more scalar_part site.parts _ refl;
  scopes = h.scopes ∙ no_more scope_part site.parts _ refl;
  comprehensions = subst (AreCodesOf state.comprehensions) (no_more comprehension_part site.parts _ refl) h.comprehensions;
}

pub scalar_follows : (state : MainState) (site : Site) (name : List ℕ) → Follows state site → resolution_of state.names name ≡ None → Follows (declares_scalar name state) (with_scalar name site)
scalar_follows state site name h new = record {
  agrees = subst (λ number. Agrees (declares_scalar name state).names ((name, ScalarName number) ∷ site.environment)) (ap length h.scalars)
      (declared name (resolution.Scalar (length state.scalars)) h.agrees new);
  scope = h.scope;
  fields = h.fields ∙ no_more field_part site.parts _ refl;
  scalars = ap (λ scalars. scalars ++ name ∷ []) h.scalars ∙ one_more scalar_part site.parts _ _ refl;
  scopes = h.scopes ∙ no_more scope_part site.parts _ refl;
  comprehensions = subst (AreCodesOf state.comprehensions) (no_more comprehension_part site.parts _ refl) h.comprehensions;
}

pub comprehension_follows : (state : MainState) (site : Site) (c : ComprehensionCode) (comprehension : Comprehension) → Follows state site → IsCodeOf c comprehension
    → Follows (with_comprehension_code c state) (with_comprehension comprehension site)
comprehension_follows state site c comprehension h is = record {
  agrees = h.agrees;
  scope = h.scope;
  fields = h.fields ∙ no_more field_part site.parts _ refl;
  scalars = h.scalars ∙ no_more scalar_part site.parts _ refl;
  scopes = h.scopes ∙ no_more scope_part site.parts _ refl;
  comprehensions = subst (AreCodesOf (state.comprehensions ++ c ∷ [])) (one_more comprehension_part site.parts _ _ refl) (codes_append state.comprehensions (comprehensions_in site.parts) c comprehension h.comprehensions is);
}

pub opened : (state : MainState) (site : Site) → Follows state site → Follows (opens_block state) (block_start site)
opened state site h = record {
  agrees = h.agrees;
  scope = ap length h.scopes;
  fields = h.fields ∙ no_more field_part site.parts _ refl;
  scalars = h.scalars ∙ no_more scalar_part site.parts _ refl;
  scopes = ap (λ scopes. scopes ++ state.scope ∷ []) h.scopes ∙ ap (λ scope. scopes_in site.parts ++ scope ∷ []) h.scope ∙ one_more scope_part site.parts _ _ refl;
  comprehensions = subst (AreCodesOf state.comprehensions) (no_more comprehension_part site.parts _ refl) h.comprehensions;
}

pub closed : (state last : MainState) (site end_site : Site) → Follows state site → Follows last end_site → Follows (closes_block state last) (after_block site end_site)
closed state last site end_site h g = record { agrees = h.agrees; scope = h.scope; fields = g.fields; scalars = g.scalars; scopes = g.scopes; comprehensions = g.comprehensions }

-- PARTS OF ITEMS: values, new names, the target of an assignment, and the block after `else`
main_append : (xs ys : List Step) → faults_in_main (xs ++ ys) ≡ faults_in_main xs ++ faults_in_main ys
main_append [] ys = refl
main_append (x ∷ xs) ys = ap (λ faults. fault_of x ∷ faults) (main_append xs ys) where
  fault_of : Step → Option ProgramFault
  fault_of (TestStep fault) = fault
  fault_of (AccessStep access) = None

value_found : {names : Names} {environment : Environment} → Agrees names environment → (e : Expression) → Finds (faults_in_main (typed_steps environment NumberType e)) IsAny (main_number names e)
value_found {names = names} {environment = environment} agrees e =
    found_made (resolved_number names None e) _ (found_main (typed_steps environment NumberType e) (resolved_number names None e) (number_walks agrees None e)) (λ v any. tt)

test_found : {names : Names} {environment : Environment} → Agrees names environment → (e : Expression) → Finds (faults_in_main (typed_steps environment TruthType e)) IsAny (main_truth names e)
test_found {names = names} {environment = environment} agrees e =
    found_made (resolved_truth names None e) _ (found_main (typed_steps environment TruthType e) (resolved_truth names None e) (truth_walks agrees None e)) (λ v any. tt)

declaration_found : {state : MainState} {site after_site : Site} → Follows state site → (name : List ℕ) (at : Place) (init : Expression) (declaration : Result (ℕ × MainState) ProgramFault)
    (f : NumberCode → ℕ → ItemCode) → Finds (faults_in_main (name_requirement site.environment name at)) (λ d. Follows d.1 after_site) declaration
    → Finds (faults_in_main (typed_steps site.environment NumberType init ++ name_requirement site.environment name at)) (λ (r : ItemCode × MainState). Follows r.1 after_site)
    (main_number state.names init >>= λ value. declaration >>= λ d. Ok (f value d.0, d.1))
declaration_found {state = state} {site = site} {after_site = after_site} h name at init declaration f g =
    subst (λ faults. Finds faults (λ (r : ItemCode × MainState). Follows r.1 after_site) (main_number state.names init >>= λ value. declaration >>= λ d. Ok (f value d.0, d.1)))
    (sym (main_append (typed_steps site.environment NumberType init) (name_requirement site.environment name at)))
    (found_both (faults_in_main (typed_steps site.environment NumberType init)) (faults_in_main (name_requirement site.environment name at)) (main_number state.names init) _ (value_found h.agrees init)
    (λ value any. found_made declaration _ g (λ d follows. follows)))

assigned_found : {state : MainState} {site : Site} → Follows state site → (place : Place) (how : How) (value : Expression) (found : Option Resolution)
    → Finds (faults_in_main (main_target_steps place (option_map binding_in found) (typed_steps site.environment NumberType value))) (λ (r : ItemCode × MainState). Follows r.1 site)
    (assigned_scalar place found >>= λ scalar. main_number state.names value >>= λ new_value. Ok (code.Assign scalar how new_value, state))
assigned_found h place how value None = record { same = refl }
assigned_found h place how value (Some (resolution.Field field kind)) = record { same = refl }
assigned_found h place how value (Some (resolution.Number slot)) = record { same = refl }
assigned_found h place how value (Some (resolution.Element slot kind)) = record { same = refl }
assigned_found {state = state} h place how value (Some (resolution.Scalar scalar)) = found_made (main_number state.names value) _ (value_found h.agrees value) (λ v any. h)

-- a block whose items are resolved, and the block after `else`
abbrev BlockFound : MainState → Site → Main → Type 0
BlockFound state site items =
    Finds (faults_in_items (block_start site) items) (λ r. Follows r.1 (after_main (block_start site) items)) (resolved_items (opens_block state) [] items)

else_found : {state : MainState} {site : Site} → Follows state site → (second : Main) (has_else : Bool) → BlockFound state site second
    → Finds (faults_in_items (block_start site) second) (λ r. Follows r.1 (if has_else_block second has_else then after_block site (after_main (block_start site) second) else site))
    (else_block (has_else_block second has_else) state (resolved_items (opens_block state) [] second))
else_found h no_item false g = record { same = (refl, h) }
else_found {state = state} {site = site} h no_item true g = found_made (resolved_items (opens_block state) [] no_item) (λ r. (Some (block_code state r.0), closes_block state r.1)) g (λ r f. closed state r.1 site _ h f)
else_found {state = state} {site = site} h (item i rest) has_else g = found_made (resolved_items (opens_block state) [] (item i rest)) (λ r. (Some (block_code state r.0), closes_block state r.1)) g (λ r f. closed state r.1 site _ h f)

regrouped : {A : Type 0} {P : A → Type 0} (xs ys zs : List (Option ProgramFault)) (result : Result A ProgramFault) → Finds (xs ++ (ys ++ zs)) P result → Finds ((xs ++ ys) ++ zs) P result
regrouped {P = P} xs ys zs result h = subst (λ faults. Finds faults P result) (sym (append_assoc xs ys zs)) h

-- ITEMS
mutual
  pub item_found : {state : MainState} {site : Site} → Follows state site → (i : MainItem) → Finds (faults_in_item site i) (λ r. Follows r.1 (after_item site i)) (resolved_item state i)
  item_found {state = state} {site = site} h (MainField place name at kind init) = declaration_found h name at init (declared_field state name at kind) (λ value number. code.Field number value)
      (found_made (new_name (resolution_of state.names name) at) _ (name_found h.agrees name at) (λ u new. field_follows state site name kind h new))
  item_found {state = state} {site = site} h (MainVar place name at init) = declaration_found h name at init (declared_scalar state name at) (λ value number. code.Var number value)
      (found_made (new_name (resolution_of state.names name) at) _ (name_found h.agrees name at) (λ u new. scalar_follows state site name h new))
  item_found {state = state} {site = site} h (MainAssign place name how value) =
      subst (λ found. Finds (faults_in_main (main_target_steps place found (typed_steps site.environment NumberType value))) (λ (r : ItemCode × MainState). Follows r.1 site) (resolved_item state (MainAssign place name how value)))
      (h.agrees.each name) (assigned_found h place how value (resolution_of state.names name))
  item_found {state = state} {site = site} h (MainIf place test first second has_else) =
      let after_first : Site = after_block site (after_main (block_start site) first) in
      regrouped (faults_in_main (typed_steps site.environment TruthType test)) (faults_in_items (block_start site) first) (faults_in_items (block_start after_first) second) (resolved_item state (MainIf place test first second has_else))
      (found_both (faults_in_main (typed_steps site.environment TruthType test)) (faults_in_items (block_start site) first ++ faults_in_items (block_start after_first) second) (main_truth state.names test) _
      (test_found h.agrees test)
      (λ condition any. found_both (faults_in_items (block_start site) first) (faults_in_items (block_start after_first) second) (resolved_items (opens_block state) [] first) _ (items_found (opened state site h) [] first)
      (λ r f. let then_state : MainState = closes_block state r.1 in
      let follows : Follows then_state after_first = closed state r.1 site (after_main (block_start site) first) h f in
      found_made (else_block (has_else_block second has_else) then_state (resolved_items (opens_block then_state) [] second)) _
      (else_found follows second has_else (items_found (opened then_state after_first follows) [] second)) (λ b g. g))))
  item_found {state = state} {site = site} h (MainWhile place test body) =
      found_both (faults_in_main (typed_steps site.environment TruthType test)) (faults_in_items (block_start site) body) (main_truth state.names test) _ (test_found h.agrees test)
      (λ condition any. found_made (resolved_items (opens_block state) [] body) _ (items_found (opened state site h) [] body) (λ r f. closed state r.1 site _ h f))
  item_found {state = state} {site = site} h (MainFor place name at over body) =
      found_made (resolved_comprehension state.names name at over body) _ (comprehension_found h.agrees name at over body) (λ c is. comprehension_follows state site c (comprehension_at site name over body) h is)
  item_found {state = state} {site = site} h (Print place value) = found_made (main_number state.names value) _ (value_found h.agrees value) (λ v any. h)

  pub items_found : {state : MainState} {site : Site} → Follows state site → (done : List ItemCode) (program : Main)
      → Finds (faults_in_items site program) (λ r. Follows r.1 (after_main site program)) (resolved_items state done program)
  items_found h done no_item = record { same = (refl, h) }
  items_found {state = state} {site = site} h done (item i rest) =
      found_both (faults_in_item site i) (faults_in_items (after_item site i) rest) (resolved_item state i) _ (item_found h i) (λ r f. items_found f (done ++ r.0 ∷ []) rest)

-- THE START: the built-in fields
abbrev bindings : Names → Environment
bindings names = map (λ entry. (entry.0, binding_in entry.1)) names

bindings_agree : (names : Names) (name : List ℕ) → option_map binding_in (resolution_of names name) ≡ binding_of (bindings names) name
bindings_agree [] name = refl
bindings_agree (entry ∷ names) name = go (bytes_eq name entry.0) (bindings_agree names name) where
  rest : Option (List ℕ × Resolution)
  rest = find (λ entry. bytes_eq name entry.0) names

  others : Option (List ℕ × Binding)
  others = find (λ entry. bytes_eq name entry.0) (bindings names)

  go : (b : Bool) → option_map binding_in (option_map (λ entry. entry.1) rest) ≡ option_map (λ entry. entry.1) others
      → option_map binding_in (option_map (λ entry. entry.1) (cond b (Some entry) rest)) ≡ option_map (λ entry. entry.1) (cond b (Some (entry.0, binding_in entry.1)) others)
  go true e = refl
  go false e = e

pub start_follows : Follows first_state start
start_follows = record { agrees = record { each = bindings_agree built_in_names }; scope = refl; fields = refl; scalars = refl; scopes = refl; comprehensions = tt }

pub program_found : (program : Main) → Finds (faults_in_items start program) (λ r. Follows r.1 (after_main start program)) (resolved_items first_state [] program)
program_found program = items_found start_follows [] program

-- THE PARTS of the checked program
kinds_are : (cs : List ComprehensionCode) (comprehensions : List Comprehension) → AreCodesOf cs comprehensions → (k : ℕ)
    → option_map (λ (c : ComprehensionCode). c.over) (slice_get cs k) ≡ option_map (λ (c : Comprehension). c.over) (slice_get comprehensions k)
kinds_are [] [] h k = refl
kinds_are (c ∷ cs) (x ∷ xs) h zero = ap Some (h.0.over)
kinds_are (c ∷ cs) (x ∷ xs) h (suc k) = kinds_are cs xs h.1 k
kinds_are [] (x ∷ xs) h k = absurd h
kinds_are (c ∷ cs) [] h k = absurd h

modes_are_those : (cs : List ComprehensionCode) (comprehensions : List Comprehension) → AreCodesOf cs comprehensions → (k : ℕ) (subject : Subject)
    → option_and_then (λ c. access_mode c subject) (slice_get cs k) ≡ option_and_then (λ c. mode_in c subject) (slice_get comprehensions k)
modes_are_those [] [] h k subject = refl
modes_are_those (c ∷ cs) (x ∷ xs) h zero subject = h.0.modes subject
modes_are_those (c ∷ cs) (x ∷ xs) h (suc k) subject = modes_are_those cs xs h.1 k subject
modes_are_those [] (x ∷ xs) h k subject = absurd h
modes_are_those (c ∷ cs) [] h k subject = absurd h

pub same_length : (cs : List ComprehensionCode) (comprehensions : List Comprehension) → AreCodesOf cs comprehensions → length cs ≡ length comprehensions
same_length [] [] h = refl
same_length (c ∷ cs) (x ∷ xs) h = ap suc (same_length cs xs h.1)
same_length [] (x ∷ xs) h = absurd h
same_length (c ∷ cs) [] h = absurd h

program_checked : (program : Main) → Finds (faults_in_items start program) (HasPartsOf program) (checked_program program)
program_checked program = found_made (resolved_items first_state [] program) _ (program_found program) (λ r h. record {
  fields = h.fields;
  scalars = h.scalars;
  scopes = h.scopes;
  comprehensions = same_length r.1.comprehensions _ h.comprehensions;
  kinds = λ k. kinds_are r.1.comprehensions _ h.comprehensions k;
  modes = λ k field. modes_are_those r.1.comprehensions _ h.comprehensions k (OfField field);
  scalar_modes = λ k scalar. modes_are_those r.1.comprehensions _ h.comprehensions k (OfScalar scalar);
})

codes_found : (program : Main) → Finds (faults_in_items start program) (λ checked. AreCodesOf checked.comprehensions (comprehensions_in (after_main start program).parts)) (checked_program program)
codes_found program = found_made (resolved_items first_state [] program) _ (program_found program) (λ r h. h.comprehensions)

-- THE LAWS
result_found : {A : Type 0} {P : A → Type 0} {faults : List (Option ProgramFault)} (result result' : Result A ProgramFault) → result ≡ result' → Finds faults P result → Finds faults P result'
result_found {P = P} {faults = faults} result result' e h = subst (Finds faults P) e h

pub only_fault : (program : Main) (fault : ProgramFault) → checked_program program ≡ Err fault → check_fault program ≡ Some fault
only_fault program fault e = (result_found (checked_program program) (Err fault) e (program_checked program)).same

pub is_fault : (program : Main) (fault : ProgramFault) → check_fault program ≡ Some fault → checked_program program ≡ Err fault
is_fault program fault e = go (checked_program program) refl (program_checked program) where
  go : (result : Result CheckedProgram ProgramFault) → checked_program program ≡ result → Finds (faults_in_items start program) (HasPartsOf program) result → checked_program program ≡ Err fault
  go (Err other) is h = is ∙ ap Err (same_fault other fault (sym (h.same) ∙ e))
    where
      same_fault : (x y : ProgramFault) → Some x ≡ Some y → x ≡ y
      same_fault x y e = cc
  go (Ok checked) is h = absurd (let none : check_fault program ≡ None = h.same.0 in cc)

pub checked_is_typed : (program : Main) (checked : CheckedProgram) → checked_program program ≡ Ok checked → IsTyped program
checked_is_typed program checked e = is_typed program ((result_found (checked_program program) (Ok checked) e (program_checked program)).same.0)

pub typed_is_checked : (program : Main) → IsTyped program → (checked : CheckedProgram) × (checked_program program ≡ Ok checked)
typed_is_checked program typed = go (checked_program program) refl (program_checked program) where
  go : (result : Result CheckedProgram ProgramFault) → checked_program program ≡ result → Finds (faults_in_items start program) (HasPartsOf program) result
      → (checked : CheckedProgram) × (checked_program program ≡ Ok checked)
  go (Ok checked) is h = (checked, is)
  go (Err fault) is h = absurd (let none : check_fault program ≡ None = no_fault program typed in let some : check_fault program ≡ Some fault = h.same in cc)

pub checked_parts : (program : Main) (checked : CheckedProgram) → checked_program program ≡ Ok checked → HasPartsOf program checked
checked_parts program checked e = (result_found (checked_program program) (Ok checked) e (program_checked program)).same.1

code_at : (cs : List ComprehensionCode) (comprehensions : List Comprehension) → AreCodesOf cs comprehensions → (k : ℕ) (c : ComprehensionCode) → slice_get cs k ≡ Some c
    → (comprehension : Comprehension) × (slice_get comprehensions k ≡ Some comprehension) × IsCodeOf c comprehension
code_at [] [] h k c e = absurd cc
code_at (x ∷ cs) (y ∷ ys) h zero c e = (y, refl, subst (λ c. IsCodeOf c y) (same_code x c e) h.0) where
  same_code : (x c : ComprehensionCode) → Some x ≡ Some c → x ≡ c
  same_code x c e = cc
code_at (x ∷ cs) (y ∷ ys) h (suc k) c e = code_at cs ys h.1 k c e
code_at [] (y ∷ ys) h k c e = absurd h
code_at (x ∷ cs) [] h k c e = absurd h

-- a comprehension of a checked program is the code of the tree's comprehension
pub checked_code : (program : Main) (checked : CheckedProgram) → checked_program program ≡ Ok checked → (k : ℕ) (c : ComprehensionCode) → slice_get checked.comprehensions k ≡ Some c
    → (comprehension : Comprehension) × (slice_get (comprehensions_in (after_main start program).parts) k ≡ Some comprehension) × IsCodeOf c comprehension
checked_code program checked is k c e =
    code_at checked.comprehensions _ ((result_found (checked_program program) (Ok checked) is (codes_found program)).same.1) k c e

-- THE NUMBER OF PARTS of a sort other than scopes is at most the number of items
module _ {A : Type 0} (sort : Part → Option A) (no_scope : (parent : ℕ) → sort (ScopePart parent) ≡ None) where
  sorted : List Part → ℕ
  sorted parts = length (filter_map sort parts)

  one_part : (parts : List Part) (part : Part) → sorted (parts ++ part ∷ []) ≤ sorted parts + 1
  unfolding sorted
  one_part parts part = subst (λ n. n ≤ length (filter_map sort parts) + 1) (ap length (sym (filter_map-append sort parts (part ∷ [])))) (at_most (sort part)) where
    at_most : (found : Option A) → length (filter_map sort parts ++ cons_option found []) ≤ length (filter_map sort parts) + 1
    at_most None = subst (λ xs. length xs ≤ length (filter_map sort parts) + 1) (sym (append-nil (filter_map sort parts))) (omega arith)
    at_most (Some x) = let e : length (filter_map sort parts ++ x ∷ []) ≡ length (filter_map sort parts) + 1 = length-append (filter_map sort parts) (x ∷ []) in omega (arith, e)

  scope_part_adds : (parts : List Part) (parent : ℕ) → sorted (parts ++ ScopePart parent ∷ []) ≡ sorted parts
  unfolding sorted
  scope_part_adds parts parent = ap length (sym (no_more sort parts (ScopePart parent) (no_scope parent)))

  either_within : (b : Bool) (this other : Site) (limit : ℕ) → sorted this.parts ≤ limit → sorted other.parts ≤ limit → sorted (if b then this else other).parts ≤ limit
  either_within true this other limit h g = h
  either_within false this other limit h g = g

  mutual
    few_in_item : (site : Site) (i : MainItem) → sorted (after_item site i).parts ≤ sorted site.parts + items_of_item i
    few_in_item site (MainField place name at kind init) = one_part site.parts _
    few_in_item site (MainVar place name at init) = one_part site.parts _
    few_in_item site (MainAssign place name how value) = omega arith
    few_in_item site (MainIf place test first second has_else) =
        let after_first : Site = after_block site (after_main (block_start site) first) in
        let a = few_in_items (block_start site) first in
        let b = few_in_items (block_start after_first) second in
        let c = scope_part_adds site.parts site.scope in
        let d = scope_part_adds after_first.parts site.scope in
        either_within (has_else_block second has_else) (after_block site (after_main (block_start after_first) second)) after_first (sorted site.parts + items_of_item (MainIf place test first second has_else))
        (omega (arith, a, b, c, d)) (omega (arith, a, c))
    few_in_item site (MainWhile place test body) =
        let a = few_in_items (block_start site) body in
        let c = scope_part_adds site.parts site.scope in
        omega (arith, a, c)
    few_in_item site (MainFor place name at over body) = one_part site.parts _
    few_in_item site (Print place value) = omega arith

    few_in_items : (site : Site) (program : Main) → sorted (after_main site program).parts ≤ sorted site.parts + item_count program
    few_in_items site no_item = omega arith
    few_in_items site (item i rest) =
        let a = few_in_item site i in
        let b = few_in_items (after_item site i) rest in
        omega (arith, a, b)

  pub few_parts : (program : Main) → length (filter_map sort (after_main start program).parts) ≤ item_count program
  unfolding sorted
  few_parts program =
      let a = few_in_items start program in
      let c = scope_part_adds [] 0 in
      omega (arith, a, c)

pub checked_within : (program : Main) (checked : CheckedProgram) → checked_program program ≡ Ok checked → IsWithin (item_count program) checked
checked_within program checked e =
    let h = checked_parts program checked e in
    record {
      fields = subst (λ fields. length fields ≤ item_count program) (sym h.fields) (few_parts field_part (λ parent. refl) program);
      scalars = subst (λ scalars. length scalars ≤ item_count program) (sym h.scalars) (few_parts scalar_part (λ parent. refl) program);
      comprehensions = subst (λ n. n ≤ item_count program) (sym h.comprehensions) (few_parts comprehension_part (λ parent. refl) program);
    }

-- each item is a node
mutual
  item_is_node : (i : MainItem) → items_of_item i ≤ item_nodes i
  item_is_node (MainField place name at kind init) = omega arith
  item_is_node (MainVar place name at init) = omega arith
  item_is_node (MainAssign place name how value) = omega arith
  item_is_node (MainIf place test first second has_else) = let a = items_are_nodes first in let b = items_are_nodes second in omega (arith, a, b)
  item_is_node (MainWhile place test body) = let a = items_are_nodes body in omega (arith, a)
  item_is_node (MainFor place name at over body) = omega arith
  item_is_node (Print place value) = omega arith

  pub items_are_nodes : (program : Main) → item_count program ≤ main_nodes program
  items_are_nodes no_item = omega arith
  items_are_nodes (item i rest) = let a = item_is_node i in let b = items_are_nodes rest in omega (arith, a, b)

-- a program that is not too long has few parts
pub checked_few : {checked : CheckedProgram} → IsChecked checked → IsWithin token_limit checked
checked_few {checked = checked} h =
    let within = checked_within h.program checked h.is in
    let few = h.items in
    let fields = within.fields in
    let scalars = within.scalars in
    let comprehensions = within.comprehensions in
    record { fields = omega (arith, few, fields); scalars = omega (arith, few, scalars); comprehensions = omega (arith, few, comprehensions) }
