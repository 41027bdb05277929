-- The code of a checked program is that of its items.
use Rattle.std.proofs.Common.{◌≡◌, ℕ, ◌+◌, Bool, true, false, List, [], ◌∷◌, ◌++◌, length, refl, sym, ap, subst, ◌∙◌, append_assoc, append-nil}
use Rattle.std.specs.Option.{option_map}
use Rattle.std.specs.Prelude.{Option, Some, None, if◌then◌else◌, Result, Ok, Err}
use Rattle.liszt_base.specs.declared.answers.Place.{Place}
use Rattle.liszt_base.specs.declared.answers.ProgramFault.{ProgramFault}
use Rattle.liszt_base.specs.declared.elements.Kind.{Kind}
use Rattle.liszt_tree.specs.declared.tree.How.{How}
use Rattle.liszt_tree.specs.Tree.{Expression, MainItem, MainField, MainVar, MainAssign, MainIf, MainWhile, MainFor, Print, Main, no_item, item}
use Rattle.resolved_code.specs.declared.expressions.NumberCode.{NumberCode}
use Rattle.resolved_code.specs.declared.expressions.TruthCode.{TruthCode}
use Rattle.resolved_code.specs.declared.items.BlockCode.{BlockCode}
use Rattle.resolved_code.specs.declared.items.ItemCode.{ItemCode}
use Rattle.resolved_code.specs.declared.items.ItemCode.TheVariants as code
use Rattle.phase_types.specs.declared.resolution.Resolution.{Resolution}
use Rattle.phase_types.specs.declared.resolution.Resolution.TheVariants as resolution
use Rattle.phase_types.specs.declared.state.CheckedProgram.{CheckedProgram}
use Rattle.phase_types.specs.declared.state.MainState.{MainState}
use Rattle.phase_types.specs.Checked.{main_number, main_truth, declared_field, declared_scalar, first_state, declares_field, declares_scalar, opens_block, closes_block, assigned_scalar, else_block, resolved_item, resolved_items, checked_program}
use Rattle.phase_types.specs.Environments.{LocalName, ElementName, first_declared, Part, IsPrefix, BindsParts, Site, start, next_scope, block_start, after_block, has_else_block, after_item, after_main}
use Rattle.phase_types.specs.Resolve.{resolution_of, new_name, resolved_comprehension}
use Rattle.phase_types.proofs.BindingLemmas.{start_binds, item_binds, block_binds, binds_later}
use Rattle.phase_types.proofs.CheckedLemmas.{Finds, Follows, opened, closed, start_follows, item_found, same_length}
use Rattle.phase_types.proofs.PartLemmas.{same_parts, prefix_of_prefix, main_is_prefix, next_part}
use Rattle.phase_types.proofs.ResolveLemmas.{binding_in}
use Rattle.kernel_eval.proofs.ResolvingLemmas.{IfOk, ok_then, ok_weaken, in_sequence}
use Rattle.seq_meaning.specs.MainCode.{IsNumberCode, IsTruthCode, IsCode, NoCode, FieldCode, VarCode, AssignCode, IfCode, IfElseCode, WhileCode, ForCode, PrintCode}
use Rattle.seq_meaning.proofs.MainCodeLemmas.{IsOfMain, any_ok, number_code, truth_code}

-- names of the main program denote fields and scalars
names_of_main : {state : MainState} {site : Site} → Follows state site → BindsParts site → (name : List ℕ) → IsOfMain (resolution_of state.names name)
names_of_main {state = state} {site = site} h binds name = go (resolution_of state.names name) refl where
  go : (found : Option Resolution) → resolution_of state.names name ≡ found → IsOfMain found
  go None e = tt
  go (Some (resolution.Field field kind)) e = tt
  go (Some (resolution.Scalar scalar)) e = tt
  go (Some (resolution.Number slot)) e = binds.denotes name LocalName (sym (h.agrees.each name) ∙ ap (option_map binding_in) e)
  go (Some (resolution.Element slot kind)) e = binds.denotes name (ElementName kind) (sym (h.agrees.each name) ∙ ap (option_map binding_in) e)

found_ok : {A : Type 0} {faults : List (Option ProgramFault)} {P : A → Type 0} (r : Result A ProgramFault) → Finds faults P r → IfOk P r
found_ok (Ok a) h = h.same.1
found_ok (Err fault) h = tt

ok_both : {A : Type 0} (P Q : A → Type 0) (r : Result A ProgramFault) → IfOk P r → IfOk Q r → IfOk (λ a. P a × Q a) r
ok_both P Q (Ok a) p q = (p, q)
ok_both P Q (Err fault) p q = tt

module _ (parts : List Part) where
  -- the code of one item before that of the rest
  abbrev IsItemCode : Site → MainItem → ItemCode → Type 0
  IsItemCode site i c = IsPrefix (after_item site i).parts parts → (rest : Main) (codes : List ItemCode) → IsCode parts (after_item site i) rest codes
      → IsCode parts site (item i rest) (c ∷ codes)

  abbrev HasCode : Site → MainItem → ItemCode × MainState → Type 0
  HasCode site i r = IsItemCode site i r.0 × Follows r.1 (after_item site i)

  record HasCodes (site : Site) (program : Main) (done : List ItemCode) (r : List ItemCode × MainState) : Type 0 where
    pub codes : List ItemCode
    pub is : r.0 ≡ done ++ codes
    pub code : IsPrefix (after_main site program).parts parts → IsCode parts site program codes
    pub follows : Follows r.1 (after_main site program)

  field_code : (state : MainState) (site : Site) (place : Place) (name : List ℕ) (at : Place) (kind : Kind) (init : Expression) → Follows state site → (x : NumberCode) → IsNumberCode site.environment init x
      → IfOk {A = ItemCode × MainState} (λ r. IsItemCode site (MainField place name at kind init) r.0) (in_sequence (declared_field state name at kind) (λ declared. Ok (code.Field declared.0 x, declared.1)))
  field_code state site place name at kind init h x is = go (new_name (resolution_of state.names name) at) where
    go : (r : Result (Unit {0}) ProgramFault) → IfOk {A = ItemCode × MainState} (λ r. IsItemCode site (MainField place name at kind init) r.0)
        (in_sequence {A = ℕ × MainState} (in_sequence r (λ new. Ok (first_declared + length state.fields, declares_field name kind state))) (λ declared. Ok (code.Field declared.0 x, declared.1)))
    go (Ok new) = λ before rest codes of.
        subst (λ fields. IsCode parts site (item (MainField place name at kind init) rest) (code.Field (first_declared + length fields) x ∷ codes)) (sym h.fields)
        (FieldCode place name at kind is before of)
    go (Err fault) = tt

  var_code : (state : MainState) (site : Site) (place : Place) (name : List ℕ) (at : Place) (init : Expression) → Follows state site → (x : NumberCode) → IsNumberCode site.environment init x
      → IfOk {A = ItemCode × MainState} (λ r. IsItemCode site (MainVar place name at init) r.0) (in_sequence (declared_scalar state name at) (λ declared. Ok (code.Var declared.0 x, declared.1)))
  var_code state site place name at init h x is = go (new_name (resolution_of state.names name) at) where
    go : (r : Result (Unit {0}) ProgramFault) → IfOk {A = ItemCode × MainState} (λ r. IsItemCode site (MainVar place name at init) r.0)
        (in_sequence {A = ℕ × MainState} (in_sequence r (λ new. Ok (length state.scalars, declares_scalar name state))) (λ declared. Ok (code.Var declared.0 x, declared.1)))
    go (Ok new) = λ before rest codes of.
        subst (λ scalars. IsCode parts site (item (MainVar place name at init) rest) (code.Var (length scalars) x ∷ codes)) (sym h.scalars) (VarCode place name at is before of)
    go (Err fault) = tt

  assign_code : (state : MainState) (site : Site) (place : Place) (name : List ℕ) (how : How) (value : Expression) → Follows state site → BindsParts site
      → (found : Option Resolution) → resolution_of state.names name ≡ found
      → IfOk {A = ItemCode × MainState} (λ r. IsItemCode site (MainAssign place name how value) r.0)
      (in_sequence (assigned_scalar place found) (λ scalar. in_sequence (main_number state.names value) (λ x. Ok (code.Assign scalar how x, state))))
  assign_code state site place name how value h binds None e = tt
  assign_code state site place name how value h binds (Some (resolution.Field field kind)) e = tt
  assign_code state site place name how value h binds (Some (resolution.Number slot)) e = tt
  assign_code state site place name how value h binds (Some (resolution.Element slot kind)) e = tt
  assign_code state site place name how value h binds (Some (resolution.Scalar scalar)) e =
      ok_then (IsNumberCode site.environment value) (λ r. IsItemCode site (MainAssign place name how value) r.0) (main_number state.names value) _
      (number_code site.environment state.names h.agrees (names_of_main h binds) value)
      (λ x is before rest codes of. AssignCode place name how scalar (sym (h.agrees.each name) ∙ ap (option_map binding_in) e) is of)

  -- the block after `else`
  abbrev IsElse : Site → Main → Bool → Option BlockCode → Type 0
  IsElse site second has_else None = has_else_block second has_else ≡ false
  IsElse site second has_else (Some block) =
      (has_else_block second has_else ≡ true) × (block.scope ≡ next_scope site) × (IsPrefix (after_main (block_start site) second).parts parts → IsCode parts (block_start site) second block.items)

  else_code : (state : MainState) (site : Site) (second : Main) (has_else : Bool) → Follows state site
      → IfOk (HasCodes (block_start site) second []) (resolved_items (opens_block state) [] second)
      → (b : Bool) → has_else_block second has_else ≡ b
      → IfOk {A = Option BlockCode × MainState} (λ r. IsElse site second has_else r.0) (else_block b state (resolved_items (opens_block state) [] second))
  else_code state site second has_else h of false e = e
  else_code state site second has_else h of true e =
      ok_then (HasCodes (block_start site) second []) (λ r. IsElse site second has_else r.0) (resolved_items (opens_block state) [] second) _ of
      (λ r g. (e, ap length h.scopes, λ before. subst (IsCode parts (block_start site) second) (sym g.is) (g.code before)))

  if_code : (site : Site) (place : Place) (test : Expression) (first second : Main) (has_else : Bool) (x : TruthCode) (scope : ℕ) (first_codes : List ItemCode) (block : Option BlockCode)
      → IsTruthCode site.environment test x → scope ≡ next_scope site
      → (IsPrefix (after_main (block_start site) first).parts parts → IsCode parts (block_start site) first first_codes)
      → IsElse (after_block site (after_main (block_start site) first)) second has_else block
      → IsItemCode site (MainIf place test first second has_else) (code.If x (record { scope = scope; items = first_codes }) block)
  if_code site place test first second has_else x scope first_codes None is same f e before rest codes of =
      subst (λ scope. IsCode parts site (item (MainIf place test first second has_else) rest) (code.If x (record { scope = scope; items = first_codes }) None ∷ codes)) (sym same)
      (IfCode place has_else is (f first_before) e of) where
        after_first : Site
        after_first = after_block site (after_main (block_start site) first)

        first_before : IsPrefix (after_main (block_start site) first).parts parts
        first_before = subst (λ b. IsPrefix (if b then after_block site (after_main (block_start after_first) second) else after_first).parts parts) e before
  if_code site place test first second has_else x scope first_codes (Some block) is same f e before rest codes of =
      subst (λ scope. IsCode parts site (item (MainIf place test first second has_else) rest) (code.If x (record { scope = scope; items = first_codes }) (Some block) ∷ codes)) (sym same)
      (subst (λ there. IsCode parts site (item (MainIf place test first second has_else) rest) (code.If x (record { scope = next_scope site; items = first_codes }) (Some (record { scope = there; items = block.items })) ∷ codes)) (sym e.1)
      (IfElseCode place has_else is (f first_before) e.0 (e.2 second_before) of)) where
        after_first : Site
        after_first = after_block site (after_main (block_start site) first)

        second_before : IsPrefix (after_main (block_start after_first) second).parts parts
        second_before = subst (λ b. IsPrefix (if b then after_block site (after_main (block_start after_first) second) else after_first).parts parts) e.0 before

        first_before : IsPrefix (after_main (block_start site) first).parts parts
        first_before = prefix_of_prefix (next_part after_first.parts _) (prefix_of_prefix (main_is_prefix (block_start after_first) second) second_before)

  first_block_binds : (site : Site) (first : Main) → BindsParts site → BindsParts (after_block site (after_main (block_start site) first))
  first_block_binds site first binds =
      binds_later site (after_block site (after_main (block_start site) first)) refl (prefix_of_prefix (next_part site.parts _) (main_is_prefix (block_start site) first)) binds

  mutual
    item_code : {state : MainState} {site : Site} → Follows state site → BindsParts site → (i : MainItem) → IfOk (λ r. IsItemCode site i r.0) (resolved_item state i)
    item_code {state = state} {site = site} h binds (MainField place name at kind init) =
        ok_then (IsNumberCode site.environment init) (λ r. IsItemCode site (MainField place name at kind init) r.0) (main_number state.names init) _
        (number_code site.environment state.names h.agrees (names_of_main h binds) init) (λ x is. field_code state site place name at kind init h x is)
    item_code {state = state} {site = site} h binds (MainVar place name at init) =
        ok_then (IsNumberCode site.environment init) (λ r. IsItemCode site (MainVar place name at init) r.0) (main_number state.names init) _
        (number_code site.environment state.names h.agrees (names_of_main h binds) init) (λ x is. var_code state site place name at init h x is)
    item_code {state = state} {site = site} h binds (MainAssign place name how value) = assign_code state site place name how value h binds (resolution_of state.names name) refl
    item_code {state = state} {site = site} h binds (MainIf place test first second has_else) =
        ok_then (IsTruthCode site.environment test) (λ r. IsItemCode site (MainIf place test first second has_else) r.0) (main_truth state.names test) _
        (truth_code site.environment state.names h.agrees (names_of_main h binds) test) (λ x is.
        ok_then (HasCodes (block_start site) first []) (λ r. IsItemCode site (MainIf place test first second has_else) r.0) (resolved_items (opens_block state) [] first) _
        (items_code (opened state site h) (block_binds site binds) [] first) (λ r g.
        let after_first : Site = after_block site (after_main (block_start site) first) in
        let then_follows : Follows (closes_block state r.1) after_first = closed state r.1 site (after_main (block_start site) first) h g.follows in
        ok_then (λ b. IsElse after_first second has_else b.0) (λ r. IsItemCode site (MainIf place test first second has_else) r.0)
        (else_block (has_else_block second has_else) (closes_block state r.1) (resolved_items (opens_block (closes_block state r.1)) [] second)) _
        (else_code (closes_block state r.1) after_first second has_else then_follows
        (items_code (opened (closes_block state r.1) after_first then_follows) (block_binds after_first (first_block_binds site first binds)) [] second) (has_else_block second has_else) refl)
        (λ b e. if_code site place test first second has_else x (length state.scopes) r.0 b.0 is (ap length h.scopes) (λ before. subst (IsCode parts (block_start site) first) (sym g.is) (g.code before)) e)))
    item_code {state = state} {site = site} h binds (MainWhile place test body) =
        ok_then (IsTruthCode site.environment test) (λ r. IsItemCode site (MainWhile place test body) r.0) (main_truth state.names test) _
        (truth_code site.environment state.names h.agrees (names_of_main h binds) test) (λ x is.
        ok_then (HasCodes (block_start site) body []) (λ r. IsItemCode site (MainWhile place test body) r.0) (resolved_items (opens_block state) [] body) _
        (items_code (opened state site h) (block_binds site binds) [] body) (λ r g before rest codes of.
        subst (λ scopes. IsCode parts site (item (MainWhile place test body) rest) (code.While place x (record { scope = length scopes; items = r.0 }) ∷ codes)) (sym h.scopes)
        (WhileCode place is (subst (IsCode parts (block_start site) body) (sym g.is) (g.code before)) of)))
    item_code {state = state} {site = site} h binds (MainFor place name at over body) =
        ok_then (λ c. Unit {0}) (λ r. IsItemCode site (MainFor place name at over body) r.0) (resolved_comprehension state.names name at over body) _
        (any_ok (resolved_comprehension state.names name at over body)) (λ c any before rest codes of.
        subst (λ number. IsCode parts site (item (MainFor place name at over body) rest) (code.For number ∷ codes)) (sym (same_length state.comprehensions _ h.comprehensions))
        (ForCode place name at over body before of))
    item_code {state = state} {site = site} h binds (Print place value) =
        ok_then (IsNumberCode site.environment value) (λ r. IsItemCode site (Print place value) r.0) (main_number state.names value) _
        (number_code site.environment state.names h.agrees (names_of_main h binds) value) (λ x is before rest codes of. PrintCode place is of)

    items_code : {state : MainState} {site : Site} → Follows state site → BindsParts site → (done : List ItemCode) (program : Main) → IfOk (HasCodes site program done) (resolved_items state done program)
    items_code {site = site} h binds done no_item = record { codes = []; is = sym (append-nil done); code = λ before. NoCode site; follows = h }
    items_code {state = state} {site = site} h binds done (item i rest) =
        ok_then (HasCode site i) (HasCodes site (item i rest) done) (resolved_item state i) _
        (ok_both (λ r. IsItemCode site i r.0) (λ r. Follows r.1 (after_item site i)) (resolved_item state i) (item_code h binds i) (found_ok (resolved_item state i) (item_found h i))) (λ next f.
        ok_weaken (HasCodes (after_item site i) rest (done ++ next.0 ∷ [])) (HasCodes site (item i rest) done) (resolved_items next.1 (done ++ next.0 ∷ []) rest)
        (items_code f.1 (item_binds site i binds) (done ++ next.0 ∷ []) rest) (λ r g. record {
          codes = next.0 ∷ g.codes;
          is = g.is ∙ append_assoc done (next.0 ∷ []) g.codes;
          code = λ before. f.0 (prefix_of_prefix (main_is_prefix (after_item site i) rest) before) rest g.codes (g.code before);
          follows = g.follows;
        }))

-- THE CODE of a checked program
pub checked_is_code : (program : Main) (checked : CheckedProgram) → checked_program program ≡ Ok checked → IsCode (after_main start program).parts start program checked.items
checked_is_code program checked is = go (resolved_items first_state [] program) (items_code (after_main start program).parts start_follows start_binds [] program) is where
  go : (r : Result (List ItemCode × MainState) ProgramFault) → IfOk (HasCodes (after_main start program).parts start program []) r
      → in_sequence r (λ whole. Ok (record { fields = whole.1.fields; scalars = whole.1.scalars; scopes = whole.1.scopes; comprehensions = whole.1.comprehensions; items = whole.0 })) ≡ Ok checked
      → IsCode (after_main start program).parts start program checked.items
  go (Ok r) h e = subst (IsCode (after_main start program).parts start program) (sym h.is ∙ same_items e) (h.code (same_parts _)) where
    same_items : (in_sequence (Ok r) (λ whole. Ok (record { fields = whole.1.fields; scalars = whole.1.scalars; scopes = whole.1.scopes; comprehensions = whole.1.comprehensions; items = whole.0 })) ≡ Ok checked) → r.0 ≡ checked.items
    same_items e = cc
  go (Err fault) h e = absurd cc
