-- The comprehensions of a checked program are resolved from those of its tree, and have their accesses and visits.
use Rattle.std.proofs.Common.{◌≡◌, ℕ, zero, suc, ◌+◌, ◌≤◌, List, [], ◌∷◌, ◌++◌, length, Bool, true, false, refl, sym, ap, subst, ◌∙◌, inl, inr, arith}
use Rattle.std.proofs.lemmas.Bool.{cases_Bool}
use Rattle.std.proofs.lemmas.List.{append-nil, length-append, length-set}
use Rattle.std.proofs.lemmas.List.Elements.{filter_map-append}
use Rattle.std.specs.Prelude.{Option, Some, None, slice_get, Result, Ok, if◌then◌else◌}
use Rattle.std.specs.List.{AllByRecursion, cons_option, filter_map, slice_set}
use Rattle.std.specs.Option.{option_map}
use Rattle.std.specs.Str.{bytes_eq}
use Rattle.liszt_base.specs.MeshLists.{MeshLists}
use Rattle.liszt_base.specs.declared.answers.Place.{Place}
use Rattle.liszt_base.specs.declared.answers.ProgramFault.{ProgramFault}
use Rattle.liszt_base.specs.declared.elements.Elem.{Elem}
use Rattle.liszt_base.specs.declared.elements.Kind.{Kind}
use Rattle.liszt_tree.specs.Tree.{Body, MainItem, MainField, MainVar, MainAssign, MainIf, MainWhile, MainFor, Print, Main, no_item, item}
use Rattle.resolved_code.specs.declared.expressions.TruthCode.{TruthCode}
use Rattle.resolved_code.specs.declared.items.BlockCode.{BlockCode}
use Rattle.resolved_code.specs.declared.items.ComprehensionCode.{ComprehensionCode}
use Rattle.resolved_code.specs.declared.items.ItemCode.{ItemCode}
use Rattle.resolved_code.specs.declared.items.ItemCode.TheVariants as code
use Rattle.topo_operators.specs.Operators.{unflipped}
use Rattle.phase_types.specs.declared.resolution.Resolution.{Resolution}
use Rattle.phase_types.specs.declared.resolution.Resolution.TheVariants as resolution
use Rattle.phase_types.specs.declared.state.CheckedProgram.{CheckedProgram}
use Rattle.phase_types.specs.declared.state.MainState.{MainState}
use Rattle.phase_types.specs.Checked.{built_in_names, first_state, declares_field, declares_scalar, with_comprehension_code, opens_block, closes_block, declared_field, declared_scalar, main_number, main_truth, assigned_scalar, block_code, else_block, resolved_item, resolved_items, checked_program}
use Rattle.phase_types.specs.Environments.{Environment, FieldName, ScalarName, first_declared, Comprehension, Part, field_part, scalar_part, comprehension_part, fields_in, scalars_in, comprehensions_in, Site, start, with_field, with_scalar, comprehension_at, with_comprehension, block_start, after_block, has_else_block, after_item, after_main, comprehensions_of, comprehension_of}
use Rattle.phase_types.specs.Resolve.{◌>>=◌, Names, resolution_of, new_name, declared_element, no_slots, with_element, element_name, accesses_in, resolved_body, resolved_comprehension}
use Rattle.phase_types.proofs.BodyLemmas.{declared}
use Rattle.phase_types.proofs.CheckedLemmas.{program_found}
use Rattle.phase_types.proofs.ResolveLemmas.{Agrees, binding_in}
use Rattle.stencil_infer.specs.Stencils.{bindings_at_start, iteration_accesses, iteration_visits}
use Rattle.stencil_infer.specs.Internal.CodeAccesses.{Slots, code_walk, code_fits}
use Rattle.stencil_infer.proofs.FitExpressionLemmas.{HasKinds}
use Rattle.stencil_infer.proofs.FitStatementLemmas.{BodyFit, Extends, block_fit, body_extends, body_fit, extends_itself, has_element}
use Rattle.stencil_infer.proofs.CodeExpressionLemmas.{bound, ok_is, KnowsFields}
use Rattle.stencil_infer.proofs.CodeStepLemmas.{Block, element_declared, body_grows}
use Rattle.stencil_infer.proofs.CodeStatementLemmas.{Fits, WalkAgrees, in_names, fits_element, block_walk, body_agrees}

-- the names of the main program denote no elements
pub record AreMain (names : Names) : Type 0 where
  pub no_elements : (name : List ℕ) (slot : ℕ) (kind : Kind) → resolution_of names name ≡ Some (resolution.Element slot kind) → ⊥

knows_fields : (names : Names) (globals : Environment) → Agrees names globals → KnowsFields names globals
knows_fields names globals h = record { is_field = λ name field kind is. sym (h.each name) ∙ ap (option_map binding_in) is }

fits_at_start : (names : Names) (globals : Environment) (slots : Slots) → AreMain names → Agrees names globals → Fits names globals [] slots 0
fits_at_start names globals slots main h = record {
  represents = record { has_slot = λ name slot kind is. absurd (main.no_elements name slot kind is) };
  below = record { has_bound = λ name slot kind is. absurd (main.no_elements name slot kind is) };
  knows = knows_fields names globals h;
}

-- THE CODE OF A COMPREHENSION is resolved from it under the names of its site.
pub record IsMade (made : ComprehensionCode) (c : Comprehension) : Type 0 where
  pub names : Names
  pub at : Place
  pub main : AreMain names
  pub agrees : Agrees names c.environment
  pub resolved : resolved_comprehension names c.name at c.over c.body ≡ Ok made

pub record IsWalk (mesh : MeshLists) (made : ComprehensionCode) (c : Comprehension) (id : ℕ) (slots : Slots) : Type 0 where
  pub accesses : (code_walk mesh made.body slots).accesses ≡ iteration_accesses mesh c id
  pub visits : (code_walk mesh made.body slots).visits ≡ iteration_visits mesh c id

abbrev code_of : Kind → Block → ComprehensionCode
code_of over block = record { over = over; elements = block.1.elements; numbers = block.1.numbers; body = block.0; accesses = accesses_in block.1.accesses }

pub walk_of_code : (mesh : MeshLists) (made : ComprehensionCode) (c : Comprehension) (id : ℕ) (slots : Slots) → IsMade made c → length slots ≡ length made.elements
    → IsWalk mesh made c id (slice_set slots 0 (Some (unflipped c.over id)))
walk_of_code mesh made c id slots m long =
    let step = bound (declared_element m.names no_slots c.name m.at c.over) (λ d. resolved_body d.1 d.2 [] c.body >>= λ block. Ok (code_of c.over block)) made m.resolved in
    let is = element_declared m.names no_slots c.name m.at c.over step.0 step.1 in
    let names : Names = m.names ++ element_name c.name c.over no_slots ∷ [] in
    let next : (resolved_body names (with_element c.over no_slots) [] c.body >>= λ block. Ok (code_of c.over block)) ≡ Ok made =
    ap (λ d. resolved_body d.1 d.2 [] c.body >>= λ block. Ok (code_of c.over block)) is.1 ∙ step.2 in
    let block = bound (resolved_body names (with_element c.over no_slots) [] c.body) (λ block. Ok (code_of c.over block)) made next in
    let whole : code_of c.over block.0 ≡ made = ok_is (code_of c.over block.0) made block.2 in
    let count : length block.0.1.elements ≡ length slots = ap (λ (code : ComprehensionCode). length code.elements) whole ∙ sym long in
    let grown : 1 ≤ length block.0.1.elements = body_grows names (with_element c.over no_slots) [] c.body block.0 block.1 in
    let x : Option Elem = Some (unflipped c.over id) in
    let fits : Fits names c.environment (bindings_at_start c id) (slice_set slots 0 x) 1 =
    fits_element c.name c.over x is.0 (omega (arith, grown, count)) (fits_at_start m.names c.environment slots m.main m.agrees) in
    let walk : WalkAgrees 1 (slice_set slots 0 x) (iteration_accesses mesh c id) (iteration_visits mesh c id) (code_walk mesh block.0.0 (slice_set slots 0 x)) =
    block_walk mesh c.environment (body_agrees mesh c.environment names (with_element c.over no_slots) (bindings_at_start c id) (slice_set slots 0 x) [] c.body block.0 fits
    (omega (arith, count, length-set slots 0 x)) block.1) in
    subst (λ (made : ComprehensionCode). IsWalk mesh made c id (slice_set slots 0 x)) whole (record { accesses = walk.accesses_are; visits = walk.visits_are })

-- THE MAIN PROGRAM so far
abbrev pub AreMade : List ComprehensionCode → List Comprehension → Type 0
AreMade [] [] = Unit {0}
AreMade (made ∷ codes) (c ∷ comprehensions) = IsMade made c × AreMade codes comprehensions
AreMade _ _ = ⊥

made_append : (codes : List ComprehensionCode) (comprehensions : List Comprehension) (made : ComprehensionCode) (c : Comprehension) → AreMade codes comprehensions → IsMade made c
    → AreMade (codes ++ made ∷ []) (comprehensions ++ c ∷ [])
made_append [] [] made c h g = (g, tt)
made_append (x ∷ codes) (y ∷ comprehensions) made c h g = (h.0, made_append codes comprehensions made c h.1 g)
made_append [] (y ∷ comprehensions) made c h g = absurd h
made_append (x ∷ codes) [] made c h g = absurd h

record Holds (state : MainState) (site : Site) : Type 0 where
  pub main : AreMain state.names
  pub agrees : Agrees state.names site.environment
  pub fields : length state.fields ≡ length (fields_in site.parts)
  pub scalars : length state.scalars ≡ length (scalars_in site.parts)
  pub comprehensions : AreMade state.comprehensions (comprehensions_in site.parts)

one_more : {A : Type 0} (sort : Part → Option A) (parts : List Part) (part : Part) (x : A) → sort part ≡ Some x → filter_map sort (parts ++ part ∷ []) ≡ filter_map sort parts ++ x ∷ []
one_more sort parts part x e = filter_map-append sort parts (part ∷ []) ∙ ap (λ found. filter_map sort parts ++ cons_option found []) e

no_more : {A : Type 0} (sort : Part → Option A) (parts : List Part) (part : Part) → sort part ≡ None → filter_map sort (parts ++ part ∷ []) ≡ filter_map sort parts
no_more sort parts part e =
    filter_map-append sort parts (part ∷ []) ∙ ap (λ found. filter_map sort parts ++ cons_option found []) e ∙ append-nil (filter_map sort parts)

field_no_element : (field slot : ℕ) (kind other : Kind) → resolution.Field field kind ≡ resolution.Element slot other → ⊥
field_no_element field slot kind other e = cc

scalar_no_element : (scalar slot : ℕ) (kind : Kind) → resolution.Scalar scalar ≡ resolution.Element slot kind → ⊥
scalar_no_element scalar slot kind e = cc

field_holds : (state : MainState) (site : Site) (name : List ℕ) (kind : Kind) → Holds state site → resolution_of state.names name ≡ None
    → Holds (declares_field name kind state) (with_field name kind site)
field_holds state site name kind h new = record {
  main = record {
    no_elements = λ other slot kind' e. elim (in_names state.names (name, resolution.Field (first_declared + length state.fields) kind) other (resolution.Element slot kind') e) [
      | inl is ↦ h.main.no_elements other slot kind' is
      | inr is ↦ field_no_element (first_declared + length state.fields) slot kind kind' is.1
    ];
  };
  agrees = subst (λ number. Agrees (declares_field name kind state).names ((name, FieldName number kind) ∷ site.environment)) (ap (λ n. first_declared + n) h.fields)
      (declared name (resolution.Field (first_declared + length state.fields) kind) h.agrees new);
  fields = length-append state.fields _ ∙ ap (λ n. n + 1) h.fields ∙ sym (ap length (one_more field_part site.parts _ _ refl) ∙ length-append (fields_in site.parts) _);
  scalars = h.scalars ∙ sym (ap length (no_more scalar_part site.parts _ refl));
  comprehensions = subst (AreMade state.comprehensions) (sym (no_more comprehension_part site.parts _ refl)) h.comprehensions;
}

scalar_holds : (state : MainState) (site : Site) (name : List ℕ) → Holds state site → resolution_of state.names name ≡ None → Holds (declares_scalar name state) (with_scalar name site)
scalar_holds state site name h new = record {
  main = record {
    no_elements = λ other slot kind e. elim (in_names state.names (name, resolution.Scalar (length state.scalars)) other (resolution.Element slot kind) e) [
      | inl is ↦ h.main.no_elements other slot kind is
      | inr is ↦ scalar_no_element (length state.scalars) slot kind is.1
    ];
  };
  agrees = subst (λ number. Agrees (declares_scalar name state).names ((name, ScalarName number) ∷ site.environment)) h.scalars
      (declared name (resolution.Scalar (length state.scalars)) h.agrees new);
  fields = h.fields ∙ sym (ap length (no_more field_part site.parts _ refl));
  scalars = length-append state.scalars _ ∙ ap (λ n. n + 1) h.scalars ∙ sym (ap length (one_more scalar_part site.parts _ _ refl) ∙ length-append (scalars_in site.parts) _);
  comprehensions = subst (AreMade state.comprehensions) (sym (no_more comprehension_part site.parts _ refl)) h.comprehensions;
}

comprehension_holds : (state : MainState) (site : Site) (made : ComprehensionCode) (c : Comprehension) → Holds state site → IsMade made c
    → Holds (with_comprehension_code made state) (with_comprehension c site)
comprehension_holds state site made c h is = record {
  main = h.main;
  agrees = h.agrees;
  fields = h.fields ∙ sym (ap length (no_more field_part site.parts _ refl));
  scalars = h.scalars ∙ sym (ap length (no_more scalar_part site.parts _ refl));
  comprehensions = subst (AreMade (state.comprehensions ++ made ∷ [])) (sym (one_more comprehension_part site.parts _ _ refl))
      (made_append state.comprehensions (comprehensions_in site.parts) made c h.comprehensions is);
}

opened : (state : MainState) (site : Site) → Holds state site → Holds (opens_block state) (block_start site)
opened state site h = record {
  main = h.main;
  agrees = h.agrees;
  fields = h.fields ∙ sym (ap length (no_more field_part site.parts _ refl));
  scalars = h.scalars ∙ sym (ap length (no_more scalar_part site.parts _ refl));
  comprehensions = subst (AreMade state.comprehensions) (sym (no_more comprehension_part site.parts _ refl)) h.comprehensions;
}

closed : (state last : MainState) (site end_site : Site) → Holds state site → Holds last end_site → Holds (closes_block state last) (after_block site end_site)
closed state last site end_site h g = record { main = h.main; agrees = h.agrees; fields = g.fields; scalars = g.scalars; comprehensions = g.comprehensions }

-- ITEMS
abbrev Step : Type 0
Step = ItemCode × MainState

abbrev HoldsAfter : Site → Step → Type 0
HoldsAfter site r = Holds r.1 site

is_new : (found : Option Resolution) (at : Place) (u : Unit {0}) → new_name found at ≡ Ok u → found ≡ None
is_new None at u e = refl
is_new (Some r) at u e = absurd cc

field_declared : {state : MainState} {site : Site} (h : Holds state site) (name : List ℕ) (at : Place) (kind : Kind) (r : ℕ × MainState) → declared_field state name at kind ≡ Ok r
    → Holds r.1 (with_field name kind site)
field_declared {state = state} {site = site} h name at kind r e =
    let new = bound (new_name (resolution_of state.names name) at) (λ new. Ok (first_declared + length state.fields, declares_field name kind state)) r e in
    subst (λ (r : ℕ × MainState). Holds r.1 (with_field name kind site)) (ok_is (first_declared + length state.fields, declares_field name kind state) r new.2)
    (field_holds state site name kind h (is_new (resolution_of state.names name) at new.0 new.1))

scalar_declared : {state : MainState} {site : Site} (h : Holds state site) (name : List ℕ) (at : Place) (r : ℕ × MainState) → declared_scalar state name at ≡ Ok r
    → Holds r.1 (with_scalar name site)
scalar_declared {state = state} {site = site} h name at r e =
    let new = bound (new_name (resolution_of state.names name) at) (λ new. Ok (length state.scalars, declares_scalar name state)) r e in
    subst (λ (r : ℕ × MainState). Holds r.1 (with_scalar name site)) (ok_is (length state.scalars, declares_scalar name state) r new.2)
    (scalar_holds state site name h (is_new (resolution_of state.names name) at new.0 new.1))

comprehension_made : {state : MainState} {site : Site} → Holds state site → (name : List ℕ) (at : Place) (over : Kind) (body : Body) (made : ComprehensionCode)
    → resolved_comprehension state.names name at over body ≡ Ok made → IsMade made (comprehension_at site name over body)
comprehension_made {state = state} h name at over body made e = record { names = state.names; at = at; main = h.main; agrees = h.agrees; resolved = e }

abbrev Items : Type 0
Items = List ItemCode × MainState

abbrev else_at : Site → Main → Bool → Site
else_at site second has_else = if has_else_block second has_else then after_block site (after_main (block_start site) second) else site

else_holds : {state : MainState} {site : Site} → Holds state site → (second : Main) (has_else : Bool)
    → ((r : Items) → resolved_items (opens_block state) [] second ≡ Ok r → Holds r.1 (after_main (block_start site) second))
    → (r : Option BlockCode × MainState) → else_block (has_else_block second has_else) state (resolved_items (opens_block state) [] second) ≡ Ok r
    → Holds r.1 (else_at site second has_else)
else_holds {state} {site} h second has_else g r e = go (has_else_block second has_else) e where
  go : (has : Bool) → else_block has state (resolved_items (opens_block state) [] second) ≡ Ok r
      → Holds r.1 (if has then after_block site (after_main (block_start site) second) else site)
  go false e = subst (λ (r : Option BlockCode × MainState). Holds r.1 site) (ok_is (None, state) r e) h
  go true e =
      let items = bound (resolved_items (opens_block state) [] second) (λ items. Ok (Some (block_code state items.0), closes_block state items.1)) r e in
      subst (λ (r : Option BlockCode × MainState). Holds r.1 (after_block site (after_main (block_start site) second)))
      (ok_is (Some (block_code state items.0.0), closes_block state items.0.1) r items.2)
      (closed state items.0.1 site (after_main (block_start site) second) h (g items.0 items.1))

abbrev if_else : MainState → Main → Bool → TruthCode → Items → Result Step ProgramFault
if_else state second has_else condition items =
    else_block (has_else_block second has_else) (closes_block state items.1) (resolved_items (opens_block (closes_block state items.1)) [] second)
    >>= λ other. Ok (code.If condition (block_code state items.0) other.0, other.1)

abbrev if_items : MainState → Main → Main → Bool → TruthCode → Result Step ProgramFault
if_items state first second has_else condition = resolved_items (opens_block state) [] first >>= if_else state second has_else condition

mutual
  item_holds : {state : MainState} {site : Site} → Holds state site → (i : MainItem) (r : Step) → resolved_item state i ≡ Ok r → Holds r.1 (after_item site i)
  item_holds {state = state} {site = site} h (MainField place name at kind init) r e =
      let value = bound (main_number state.names init) (λ value. declared_field state name at kind >>= λ declared. Ok (code.Field declared.0 value, declared.1)) r e in
      let declared = bound (declared_field state name at kind) (λ declared. Ok (code.Field declared.0 value.0, declared.1)) r value.2 in
      subst (HoldsAfter (with_field name kind site)) (ok_is (code.Field declared.0.0 value.0, declared.0.1) r declared.2) (field_declared h name at kind declared.0 declared.1)
  item_holds {state = state} {site = site} h (MainVar place name at init) r e =
      let value = bound (main_number state.names init) (λ value. declared_scalar state name at >>= λ declared. Ok (code.Var declared.0 value, declared.1)) r e in
      let declared = bound (declared_scalar state name at) (λ declared. Ok (code.Var declared.0 value.0, declared.1)) r value.2 in
      subst (HoldsAfter (with_scalar name site)) (ok_is (code.Var declared.0.0 value.0, declared.0.1) r declared.2) (scalar_declared h name at declared.0 declared.1)
  item_holds {state = state} {site = site} h (MainAssign place name how value) r e =
      let scalar = bound (assigned_scalar place (resolution_of state.names name)) (λ scalar. main_number state.names value >>= λ new_value. Ok (code.Assign scalar how new_value, state)) r e in
      let new_value = bound (main_number state.names value) (λ new_value. Ok (code.Assign scalar.0 how new_value, state)) r scalar.2 in
      subst (HoldsAfter site) (ok_is (code.Assign scalar.0 how new_value.0, state) r new_value.2) h
  item_holds {state = state} {site = site} h (MainIf place test first second has_else) r e =
      let condition = bound (main_truth state.names test) (if_items state first second has_else) r e in
      let items = bound (resolved_items (opens_block state) [] first) (if_else state second has_else condition.0) r condition.2 in
      let then_state : MainState = closes_block state items.0.1 in
      let then_site : Site = after_block site (after_main (block_start site) first) in
      let follows : Holds then_state then_site = closed state items.0.1 site (after_main (block_start site) first) h (items_hold (opened state site h) [] first items.0 items.1) in
      let other = bound (else_block (has_else_block second has_else) then_state (resolved_items (opens_block then_state) [] second))
      (λ other. Ok (code.If condition.0 (block_code state items.0.0) other.0, other.1)) r items.2 in
      subst (HoldsAfter (else_at then_site second has_else)) (ok_is (code.If condition.0 (block_code state items.0.0) other.0.0, other.0.1) r other.2)
      (else_holds follows second has_else (λ r e. items_hold (opened then_state then_site follows) [] second r e) other.0 other.1)
  item_holds {state = state} {site = site} h (MainWhile place test body) r e =
      let condition = bound (main_truth state.names test)
      (λ condition. resolved_items (opens_block state) [] body >>= λ items. Ok (code.While place condition (block_code state items.0), closes_block state items.1)) r e in
      let items = bound (resolved_items (opens_block state) [] body) (λ items. Ok (code.While place condition.0 (block_code state items.0), closes_block state items.1)) r condition.2 in
      subst (HoldsAfter (after_block site (after_main (block_start site) body))) (ok_is (code.While place condition.0 (block_code state items.0.0), closes_block state items.0.1) r items.2)
      (closed state items.0.1 site (after_main (block_start site) body) h (items_hold (opened state site h) [] body items.0 items.1))
  item_holds {state = state} {site = site} h (MainFor place name at over body) r e =
      let made = bound (resolved_comprehension state.names name at over body) (λ c. Ok (code.For (length state.comprehensions), with_comprehension_code c state)) r e in
      subst (HoldsAfter (with_comprehension (comprehension_at site name over body) site)) (ok_is (code.For (length state.comprehensions), with_comprehension_code made.0 state) r made.2)
      (comprehension_holds state site made.0 (comprehension_at site name over body) h (comprehension_made h name at over body made.0 made.1))
  item_holds {state = state} {site = site} h (Print place value) r e =
      let operand = bound (main_number state.names value) (λ operand. Ok (code.Print place operand, state)) r e in
      subst (HoldsAfter site) (ok_is (code.Print place operand.0, state) r operand.2) h

  items_hold : {state : MainState} {site : Site} → Holds state site → (done : List ItemCode) (program : Main) (r : Items) → resolved_items state done program ≡ Ok r
      → Holds r.1 (after_main site program)
  items_hold {state = state} {site = site} h done no_item r e = subst (λ (r : Items). Holds r.1 site) (ok_is (done, state) r e) h
  items_hold {state = state} {site = site} h done (item i rest) r e =
      let next = bound (resolved_item state i) (λ next. resolved_items next.1 (done ++ next.0 ∷ []) rest) r e in
      items_hold (item_holds h i next.0 next.1) (done ++ next.0.0 ∷ []) rest r next.2

-- THE START: the built-in names are those of fields
abbrev IsField : Resolution → Type 0
IsField (resolution.Field field kind) = Unit {0}
IsField _ = ⊥

all_fields : (names : Names) → AllByRecursion (λ (entry : List ℕ × Resolution). IsField entry.1) names → (name : List ℕ) (r : Resolution) → resolution_of names name ≡ Some r → IsField r
all_fields [] all name r e = absurd (none_is r e) where
  none_is : (r : Resolution) → None ≡ Some r → ⊥
  none_is r e = cc
all_fields (entry ∷ names) all name r e = elim (cases_Bool (bytes_eq name entry.0)) [
  | inl is ↦ subst IsField (some_is entry.1 r (rw is at e)) all.0
  | inr is ↦ all_fields names all.1 name r (rw is at e)
] where
  some_is : (a b : Resolution) → Some a ≡ Some b → a ≡ b
  some_is a b e = cc

start_holds : Holds first_state start
start_holds = record {
  main = record { no_elements = λ name slot kind is. all_fields built_in_names (tt, (tt, (tt, (tt, (tt, tt))))) name (resolution.Element slot kind) is };
  agrees = (program_found no_item).same.1.agrees;
  fields = refl;
  scalars = refl;
  comprehensions = tt;
}

pub comprehensions_made : (program : Main) (checked : CheckedProgram) → checked_program program ≡ Ok checked → AreMade checked.comprehensions (comprehensions_of program)
comprehensions_made program checked e =
    let whole = bound (resolved_items first_state [] program) as_checked checked e in
    subst (λ (checked : CheckedProgram). AreMade checked.comprehensions (comprehensions_of program)) (ok_is (checked_of whole.0) checked whole.2)
    (items_hold start_holds [] program whole.0 whole.1).comprehensions where
      checked_of : Items → CheckedProgram
      checked_of whole = record {
        fields = whole.1.fields;
        scalars = whole.1.scalars;
        scopes = whole.1.scopes;
        comprehensions = whole.1.comprehensions;
        items = whole.0;
      }

      as_checked : Items → Result CheckedProgram ProgramFault
      as_checked whole = Ok (checked_of whole)

made_at : (codes : List ComprehensionCode) (comprehensions : List Comprehension) → AreMade codes comprehensions → (k : ℕ) (made : ComprehensionCode) (c : Comprehension)
    → slice_get codes k ≡ Some made → slice_get comprehensions k ≡ Some c → IsMade made c
made_at (x ∷ codes) (y ∷ comprehensions) h zero made c e f = subst (IsMade made) (some_is y c f) (subst (λ made. IsMade made y) (some_is x made e) h.0) where
  some_is : {A : Type 0} (a b : A) → Some a ≡ Some b → a ≡ b
  some_is a b e = cc
made_at (x ∷ codes) (y ∷ comprehensions) h (suc k) made c e f = made_at codes comprehensions h.1 k made c e f
made_at [] [] h k made c e f = absurd cc
made_at [] (y ∷ comprehensions) h k made c e f = absurd h
made_at (x ∷ codes) [] h k made c e f = absurd h

pub checked_walk : (program : Main) (checked : CheckedProgram) (k : ℕ) (made : ComprehensionCode) (c : Comprehension) → checked_program program ≡ Ok checked
    → slice_get checked.comprehensions k ≡ Some made → comprehension_of program k ≡ Some c → (mesh : MeshLists) (id : ℕ) (slots : Slots)
    → length slots ≡ length made.elements → IsWalk mesh made c id (slice_set slots 0 (Some (unflipped c.over id)))
checked_walk program checked k made c is e f mesh id slots long =
    walk_of_code mesh made c id slots (made_at checked.comprehensions (comprehensions_of program) (comprehensions_made program checked is) k made c e f) long

-- THE CODE FITS its own slots, of which the first has the kind of the comprehension.
pub record IsFit (made : ComprehensionCode) : Type 0 where
  pub fits : code_fits made.elements made.body ≡ true
  pub first : slice_get made.elements 0 ≡ Some made.over

first_kind : (kinds : List Kind) (kind : Kind) → Extends (kind ∷ []) kinds → slice_get kinds 0 ≡ Some kind
first_kind kinds kind h = ap (λ kinds. slice_get kinds 0) h.is

fit_of_code : (made : ComprehensionCode) (c : Comprehension) → IsMade made c → IsFit made
fit_of_code made c m =
    let step = bound (declared_element m.names no_slots c.name m.at c.over) (λ d. resolved_body d.1 d.2 [] c.body >>= λ block. Ok (code_of c.over block)) made m.resolved in
    let is = element_declared m.names no_slots c.name m.at c.over step.0 step.1 in
    let names : Names = m.names ++ element_name c.name c.over no_slots ∷ [] in
    let next : (resolved_body names (with_element c.over no_slots) [] c.body >>= λ block. Ok (code_of c.over block)) ≡ Ok made =
    ap (λ d. resolved_body d.1 d.2 [] c.body >>= λ block. Ok (code_of c.over block)) is.1 ∙ step.2 in
    let block = bound (resolved_body names (with_element c.over no_slots) [] c.body) (λ block. Ok (code_of c.over block)) made next in
    let kinds : List Kind = block.0.1.elements in
    let zero_kind : slice_get kinds 0 ≡ Some c.over = first_kind kinds c.over (body_extends names (with_element c.over no_slots) [] c.body block.0 block.1) in
    let none : HasKinds m.names kinds = record { has_kind_of = λ name slot kind is. absurd (m.main.no_elements name slot kind is) } in
    let fit : BodyFit kinds [] block.0 = body_fit kinds names (with_element c.over no_slots) [] c.body block.0 (has_element c.name 0 c.over zero_kind none) (extends_itself kinds) block.1 in
    subst IsFit (ok_is (code_of c.over block.0) made block.2) (record { fits = block_fit kinds fit; first = zero_kind })

fit_at : (codes : List ComprehensionCode) (comprehensions : List Comprehension) → AreMade codes comprehensions → (k : ℕ) (made : ComprehensionCode) → slice_get codes k ≡ Some made → IsFit made
fit_at (x ∷ codes) (y ∷ comprehensions) h zero made e = subst IsFit (some_is x made e) (fit_of_code x y h.0) where
  some_is : {A : Type 0} (a b : A) → Some a ≡ Some b → a ≡ b
  some_is a b e = cc
fit_at (x ∷ codes) (y ∷ comprehensions) h (suc k) made e = fit_at codes comprehensions h.1 k made e
fit_at [] [] h k made e = absurd cc
fit_at [] (y ∷ comprehensions) h k made e = absurd h
fit_at (x ∷ codes) [] h k made e = absurd h

pub checked_fits : (program : Main) (checked : CheckedProgram) (k : ℕ) (made : ComprehensionCode) → checked_program program ≡ Ok checked → slice_get checked.comprehensions k ≡ Some made → IsFit made
checked_fits program checked k made is e = fit_at checked.comprehensions (comprehensions_of program) (comprehensions_made program checked is) k made e
