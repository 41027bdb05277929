-- Loops over the links of a chain, the statements of a body and the items of a block: what is done and the rest.
use Rattle.std.proofs.Common.{arith, true, false, Bool, ◌≡◌, ℕ, ◌+◌, List, [], ◌∷◌, length, get_or, ◌<◌, drop, map, take, ◌++◌, refl, sym, ap, subst, ◌∙◌, append_assoc}
use Rattle.std.proofs.lemmas.List.{drop_more, append-nil}
use Rattle.std.proofs.lemmas.Result.{err_from_is_err_and}
use Rattle.std.specs.Prelude.{Option, Some, None, Result, Ok, Err}
use Rattle.liszt_base.specs.Kinds.{kind_of}
use Rattle.liszt_base.specs.declared.answers.Place.{Place}
use Rattle.resolved_code.specs.declared.statements.StatementCode.{StatementCode}
use Rattle.resolved_code.specs.declared.statements.StatementCode.TheVariants as code
use Rattle.liszt_tree.specs.declared.tree.Stmt.{Stmt}
use Rattle.phase_types.specs.declared.resolution.Resolution.{Resolution}
use Rattle.std.specs.Result.{IsErrAnd}
use Rattle.liszt_base.specs.Gives.{Gives}
use Rattle.liszt_base.specs.declared.answers.ProgramFault.{ProgramFault}
use Rattle.liszt_base.specs.declared.answers.Refused.{Refused}
use Rattle.liszt_base.specs.declared.answers.Refused.TheVariants.{Fault, NoMemory as OutOfMemory}
use Rattle.liszt_tree.specs.Tree.{expression, links_of, statement_tree, Main, no_item, item, body_of, main_of, item_tree, MainItem, MainField, MainVar, MainAssign, MainIf, MainWhile, MainFor, Print, Body, Expression, Statement, Var, Val, Assign, If, While, For}
use Rattle.liszt_tree.specs.declared.tree.Link.{Link}
use Rattle.phase_types.specs.declared.resolution.ChainCode.{ChainCode}
use Rattle.phase_types.specs.declared.resolution.TypedCode.{TypedCode}
use Rattle.phase_types.specs.Internal.Results.{some_block, resolved_block, resolved_else, main_choice_code, main_repetition_code, ExtendsNames, paired, with_names, choice_code, repetition_code, members_code}
use Rattle.liszt_tree.specs.declared.tree.Item.{Item}
use Rattle.resolved_code.specs.declared.items.BlockCode.{BlockCode}
use Rattle.resolved_code.specs.declared.items.ItemCode.{ItemCode}
use Rattle.resolved_code.specs.declared.items.ItemCode.TheVariants as main
use Rattle.phase_types.specs.Environments.{has_else_block}
use Rattle.phase_types.specs.Checked.{MainState, main_number, main_truth, declares_field, declares_scalar, with_comprehension_code, opens_block, closes_block, block_code, else_block, assigned_scalar, resolved_item, resolved_items}
use Rattle.liszt_base.specs.declared.elements.SetName.{SetName}
use Rattle.resolved_code.specs.declared.expressions.ElementCode.{ElementCode}
use Rattle.phase_types.proofs.WalkLemmas.{bind_assoc, same_next}
use Rattle.resolved_code.specs.declared.expressions.TruthCode.{TruthCode}
use Rattle.phase_types.specs.Resolve.{◌>>=◌, resolved_comprehension, Frame, resolution_of, new_name, with_accesses, element_with_set, declared_element, resolved_number, resolved_truth, resolved_element, resolved_assignment, resolved_field_assignment, resolved_statement, resolved_body, Names, Accesses, extended_chain, resolved_expression, resolved_links}

-- A STEP that stops: its fault is that of the whole
pub stops : {A B : Type 0} (step : Result A ProgramFault) (next : A → Result B ProgramFault) (refused : Refused ProgramFault) → Gives step (Err refused) → Gives (step >>= next) (Err refused)
stops step next (Fault fault) e = ap (λ r. r >>= next) e
stops step next OutOfMemory e = tt

-- the rest of the links
abbrev pub links_after : Names → Accesses → ChainCode → List Link → Result (TypedCode × Accesses) ProgramFault
links_after names accesses done links = resolved_links names accesses done (links_of (map (λ (l : Link). (l.op, l.place, expression l.arg)) links))

-- the rest at an item is the item and the rest after it
pub rest_at : {X : Type 0} (xs : List X) (i : ℕ) (x : X) → i < length xs → x ≡ get_or xs i x → drop i xs ≡ x ∷ drop (i + 1) xs
rest_at xs i x within here = drop_more xs i x within ∙ ap (λ y. y ∷ drop (i + 1) xs) (sym here)

module _ (names : Names) (accesses : Accesses) (done : ChainCode) (links : List Link) (i : ℕ) (l : Link) (within : i < length links) (here : l ≡ get_or links i l)
    {whole : Result (TypedCode × Accesses) ProgramFault} (so_far : links_after names accesses done (drop i links) ≡ whole) where
  at_link : links_after names accesses done (l ∷ drop (i + 1) links) ≡ whole
  at_link = ap (links_after names accesses done) (sym (rest_at links i l within here)) ∙ so_far

  pub operand_stops : (refused : Refused ProgramFault) → Gives (resolved_expression names accesses (expression l.arg)) (Err refused) → Gives whole (Err refused)
  operand_stops refused h = subst (λ whole. Gives whole (Err refused)) at_link (stops (resolved_expression names accesses (expression l.arg)) _ refused h)

  pub chain_stops : (operand : TypedCode) (later : Accesses) (refused : Refused ProgramFault) → resolved_expression names accesses (expression l.arg) ≡ Ok (operand, later)
      → Gives (extended_chain l.place l.op done operand) (Err refused) → Gives whole (Err refused)
  chain_stops operand later refused e h =
      subst (λ whole. Gives whole (Err refused)) (sym (ap (λ r. r >>= λ operand. extended_chain l.place l.op done operand.0 >>= λ next. links_after names operand.1 next (drop (i + 1) links)) e) ∙ at_link)
      (stops (extended_chain l.place l.op done operand) _ refused h)

  pub link_done : (operand : TypedCode) (later : Accesses) (next : ChainCode) → resolved_expression names accesses (expression l.arg) ≡ Ok (operand, later)
      → extended_chain l.place l.op done operand ≡ Ok next → links_after names later next (drop (i + 1) links) ≡ whole
  link_done operand later next e f =
      sym (ap (λ r. r >>= λ operand. extended_chain l.place l.op done operand.0 >>= λ next. links_after names operand.1 next (drop (i + 1) links)) e
      ∙ ap (λ r. r >>= λ next. links_after names later next (drop (i + 1) links)) f) ∙ at_link

-- the answer of a `?`
pub handed_on : {A S : Type 0} (definition : Result (A × S) ProgramFault) (result : Result A (Refused ProgramFault)) (state : S) (refused : Refused ProgramFault)
    → IsErrAnd result (λ e. e ≡ refused) → Gives definition (Err refused) → Gives definition (paired result state)
handed_on definition result state refused h g =
    let p = err_from_is_err_and result h in
    subst (λ r. Gives definition (paired r state)) (sym (p.1 ∙ ap Err p.2)) g

-- THE STATEMENTS OF A BODY: the rest of them
abbrev pub statements_after : Names → Frame → List StatementCode → List Stmt → Result (List StatementCode × Frame) ProgramFault
statements_after names frame done body = resolved_body names frame done (body_of (map statement_tree body))

module _ (names : Names) (frame : Frame) (done : List StatementCode) (body : List Stmt) (i : ℕ) (s : Stmt) (within : i < length body) (here : s ≡ get_or body i s)
    {whole : Result (List StatementCode × Frame) ProgramFault} (so_far : statements_after names frame done (drop i body) ≡ whole) where
  at_statement : statements_after names frame done (s ∷ drop (i + 1) body) ≡ whole
  at_statement = ap (statements_after names frame done) (sym (rest_at body i s within here)) ∙ so_far

  pub statement_stops : (refused : Refused ProgramFault) → Gives (resolved_statement names frame (statement_tree s)) (Err refused) → Gives whole (Err refused)
  statement_stops refused h = subst (λ whole. Gives whole (Err refused)) at_statement (stops (resolved_statement names frame (statement_tree s)) _ refused h)

  pub statement_done : (code : StatementCode) (later : Names) (next : Frame) → resolved_statement names frame (statement_tree s) ≡ Ok (code, later, next)
      → statements_after later next (done ++ code ∷ []) (drop (i + 1) body) ≡ whole
  statement_done code later next e = sym (ap (λ r. r >>= λ next. statements_after next.1 next.2 (done ++ next.0 ∷ []) (drop (i + 1) body)) e) ∙ at_statement

-- NAMES at entry remain, and a statement can add names after them
abbrev Extends : Names → Result (StatementCode × Names × Frame) ProgramFault → Type 0
Extends names (Ok r) = (rest : Names) × (r.1 ≡ names ++ rest)
Extends names (Err fault) = Unit {0}

record Keeps (names : Names) (result : Result (StatementCode × Names × Frame) ProgramFault) : Type 0 where
  pub extends : Extends names result

unchanged : (names : Names) (c : StatementCode) (frame : Frame) → Keeps names (Ok (c, names, frame))
unchanged names c frame = record { extends = ([], sym (append-nil names)) }

kept_after : {A : Type 0} {names : Names} (first : Result A ProgramFault) (next : A → Result (StatementCode × Names × Frame) ProgramFault) → ((a : A) → Keeps names (next a)) → Keeps names (first >>= next)
kept_after (Ok a) next h = h a
kept_after (Err fault) next h = record { extends = tt }

abbrev declaration : Names → Option Resolution → Place → ℕ → List ℕ × Resolution → Frame → Result (ℕ × Names × Frame) ProgramFault
declaration names found at slot x frame = new_name found at >>= λ new. Ok (slot, names ++ x ∷ [], frame)

kept_by_declaration : (names : Names) (found : Option Resolution) (at : Place) (slot : ℕ) (x : List ℕ × Resolution) (frame : Frame) (c : ℕ → StatementCode)
    → Keeps names (declaration names found at slot x frame >>= λ d. Ok (c d.0, d.1, d.2))
kept_by_declaration names None at slot x frame c = record { extends = (x ∷ [], refl) }
kept_by_declaration names (Some r) at slot x frame c = record { extends = tt }

statement_keeps : (names : Names) (frame : Frame) (s : Statement) → Keeps names (resolved_statement names frame s)
statement_keeps names frame (Var place name at init) =
    kept_after (resolved_number names frame.accesses init) _ (λ v. kept_by_declaration names (resolution_of names name) at frame.numbers _ _ (λ slot. code.Var slot v.0))
statement_keeps names frame (Val place name at init) =
    kept_after (resolved_element names frame.accesses init) _ (λ v. kept_by_declaration names (resolution_of names name) at (length frame.elements) _ _ (λ slot. code.Val slot v.0.1))
statement_keeps names frame (Assign place name (Some target) how value) =
    kept_after (resolved_field_assignment names frame place how target value (resolution_of names name)) _ (λ r. unchanged names r.0 r.1)
statement_keeps names frame (Assign place name None how value) =
    kept_after (resolved_assignment names frame place how value (resolution_of names name)) _ (λ r. unchanged names r.0 r.1)
statement_keeps names frame (If place test first second has_else) =
    kept_after (resolved_truth names frame.accesses test) _ (λ v. kept_after (resolved_body names (with_accesses v.1 frame) [] first) _
    (λ a. kept_after (resolved_body names a.1 [] second) _ (λ b. unchanged names _ b.1)))
statement_keeps names frame (While place test body) =
    kept_after (resolved_truth names frame.accesses test) _ (λ v. kept_after (resolved_body names (with_accesses v.1 frame) [] body) _ (λ b. unchanged names _ b.1))
statement_keeps names frame (For place name at set set_at arg body) =
    kept_after (resolved_expression names frame.accesses arg) _ (λ v. kept_after (element_with_set set set_at v.0) _
    (λ origin. kept_after (declared_element names (with_accesses v.1 frame) name at (kind_of set)) _ (λ d. kept_after (resolved_body d.1 d.2 [] body) _ (λ b. unchanged names _ b.1))))

take_of_append : (names rest : Names) → take (length names) (names ++ rest) ≡ names
take_of_append [] rest = refl
take_of_append (x ∷ names) rest = ap (λ names. x ∷ names) (take_of_append names rest)

-- the first names remain where they are a prefix
pub names_remain : (first names : Names) (frame : Frame) (s : Statement) (c : StatementCode) (later : Names) (next : Frame) → (rest : Names) × (names ≡ first ++ rest)
    → resolved_statement names frame s ≡ Ok (c, later, next) → (rest : Names) × (later ≡ first ++ rest)
names_remain first names frame s c later next h e =
    let k = (subst (Keeps names) e (statement_keeps names frame s)).extends in
    (h.0 ++ k.0, k.1 ∙ ap (λ names. names ++ k.0) h.1 ∙ append_assoc first h.0 k.0)

pub names_end : (first names : Names) → (rest : Names) × (names ≡ first ++ rest) → take (length first) names ≡ first
names_end first names h = ap (take (length first)) h.1 ∙ take_of_append first h.0

-- a step that is done, and the answer of the rest
pub goes_on : {A B : Type 0} {first : Result A ProgramFault} {a : A} (next : A → Result B ProgramFault) (answer : Result B (Refused ProgramFault)) → first ≡ Ok a → Gives (next a) answer → Gives (first >>= next) answer
goes_on next answer e h = subst (λ r. Gives (r >>= next) answer) (sym e) h

-- the answer of a `?` in a statement
pub names_handed_on : {A N S : Type 0} (definition : Result (A × N × S) ProgramFault) (result : Result A (Refused ProgramFault)) (names : N) (state : S) (refused : Refused ProgramFault)
    → IsErrAnd result (λ e. e ≡ refused) → Gives definition (Err refused) → Gives definition (with_names result names state)
names_handed_on definition result names state refused h g =
    let p = err_from_is_err_and result h in
    subst (λ r. Gives definition (with_names r names state)) (sym (p.1 ∙ ap Err p.2)) g

-- THE PARTS OF AN `if`, a `while` and a `for`
module _ (names : Names) (frame : Frame) where
  pub first_stops : (place : Place) (test : Expression) (first second : Body) (has_else : Bool) (code : TruthCode) (later : Accesses) (refused : Refused ProgramFault)
      → resolved_truth names frame.accesses test ≡ Ok (code, later) → Gives (resolved_body names (with_accesses later frame) [] first) (Err refused)
      → Gives (resolved_statement names frame (If place test first second has_else)) (Err refused)
  first_stops place test first second has_else code later refused e h = goes_on _ (Err refused) e (stops (resolved_body names (with_accesses later frame) [] first) _ refused h)

  pub chooses : (place : Place) (test : Expression) (first second : Body) (has_else : Bool) (c : TruthCode) (later : Accesses) (block : List StatementCode) (next : Frame)
      (answer : Result (StatementCode × Names × Frame) (Refused ProgramFault)) → resolved_truth names frame.accesses test ≡ Ok (c, later)
      → resolved_body names (with_accesses later frame) [] first ≡ Ok (block, next) → Gives (choice_code names next c block second) answer
      → Gives (resolved_statement names frame (If place test first second has_else)) answer
  chooses place test first second has_else c later block next answer e f h = goes_on _ answer e (goes_on _ answer f h)

  pub repeats : (place : Place) (test : Expression) (body : Body) (c : TruthCode) (later : Accesses) (answer : Result (StatementCode × Names × Frame) (Refused ProgramFault))
      → resolved_truth names frame.accesses test ≡ Ok (c, later) → Gives (repetition_code names (with_accesses later frame) place c body) answer
      → Gives (resolved_statement names frame (While place test body)) answer
  repeats place test body c later answer e h = goes_on _ answer e h

module _ (names : Names) (frame : Frame) where
  members_are : (name : List ℕ) (at : Place) (set : SetName) (set_at : Place) (arg : ElementCode) (body : Body)
      → members_code names frame name at set set_at arg body
      ≡ (declared_element names frame name at (kind_of set) >>= λ d. resolved_body d.1 d.2 [] body >>= λ b. Ok (code.For d.0 set set_at arg b.0, names, b.1))
  members_are name at set set_at arg body =
      bind_assoc (declared_element names frame name at (kind_of set)) _ _
      ∙ same_next (declared_element names frame name at (kind_of set)) _ _ (λ d. bind_assoc (resolved_body d.1 d.2 [] body) _ _)

pub visits : (names : Names) (frame : Frame) (place : Place) (name : List ℕ) (at : Place) (set : SetName) (set_at : Place) (arg : Expression) (body : Body) (operand : TypedCode) (later : Accesses)
    (origin : ElementCode) (answer : Result (StatementCode × Names × Frame) (Refused ProgramFault)) → resolved_expression names frame.accesses arg ≡ Ok (operand, later)
    → element_with_set set set_at operand ≡ Ok origin → Gives (members_code names (with_accesses later frame) name at set set_at origin body) answer
    → Gives (resolved_statement names frame (For place name at set set_at arg body)) answer
visits names frame place name at set set_at arg body operand later origin answer e f h =
    goes_on _ answer e (goes_on _ answer f (subst (λ r. Gives r answer) (members_are names (with_accesses later frame) name at set set_at origin body) h))

-- THE ITEMS OF A BLOCK: the rest of them
abbrev pub items_after : MainState → List ItemCode → List Item → Result (List ItemCode × MainState) ProgramFault
items_after state done items = resolved_items state done (main_of (map item_tree items))

module _ (state : MainState) (done : List ItemCode) (items : List Item) (n : ℕ) (i : Item) (within : n < length items) (here : i ≡ get_or items n i)
    {whole : Result (List ItemCode × MainState) ProgramFault} (so_far : items_after state done (drop n items) ≡ whole) where
  at_item : items_after state done (i ∷ drop (n + 1) items) ≡ whole
  at_item = ap (items_after state done) (sym (rest_at items n i within here)) ∙ so_far

  pub item_stops : (refused : Refused ProgramFault) → Gives (resolved_item state (item_tree i)) (Err refused) → Gives whole (Err refused)
  item_stops refused h = subst (λ whole. Gives whole (Err refused)) at_item (stops (resolved_item state (item_tree i)) _ refused h)

  pub item_done : (c : ItemCode) (next : MainState) → resolved_item state (item_tree i) ≡ Ok (c, next) → items_after next (done ++ c ∷ []) (drop (n + 1) items) ≡ whole
  item_done c next e = sym (ap (λ r. r >>= λ next. items_after next.1 (done ++ next.0 ∷ []) (drop (n + 1) items)) e) ∙ at_item

-- names at entry remain
abbrev ExtendsMain : Names → Result (ItemCode × MainState) ProgramFault → Type 0
ExtendsMain names (Ok r) = ExtendsNames names r.1.names
ExtendsMain names (Err fault) = Unit {0}

record KeepsMain (names : Names) (result : Result (ItemCode × MainState) ProgramFault) : Type 0 where
  pub extends : ExtendsMain names result

same_names : (names : Names) (c : ItemCode) (state : MainState) → state.names ≡ names → KeepsMain names (Ok (c, state))
same_names names c state e = record { extends = ([], e ∙ sym (append-nil names)) }

main_kept_after : {A : Type 0} {names : Names} (first : Result A ProgramFault) (next : A → Result (ItemCode × MainState) ProgramFault) → ((a : A) → KeepsMain names (next a)) → KeepsMain names (first >>= next)
main_kept_after (Ok a) next h = h a
main_kept_after (Err fault) next h = record { extends = tt }

abbrev main_declaration : Option Resolution → Place → ℕ → MainState → Result (ℕ × MainState) ProgramFault
main_declaration found at number next = new_name found at >>= λ new. Ok (number, next)

kept_by_main_declaration : (names : Names) (found : Option Resolution) (at : Place) (number : ℕ) (x : List ℕ × Resolution) (next : MainState) (c : ℕ → ItemCode) → next.names ≡ names ++ x ∷ []
    → KeepsMain names (main_declaration found at number next >>= λ d. Ok (c d.0, d.1))
kept_by_main_declaration names None at number x next c e = record { extends = (x ∷ [], e) }
kept_by_main_declaration names (Some r) at number x next c e = record { extends = tt }

else_keeps : (b : Bool) (state : MainState) (block : Result (List ItemCode × MainState) ProgramFault) (c : Option BlockCode → ItemCode)
    → KeepsMain state.names (else_block b state block >>= λ s. Ok (c s.0, s.1))
else_keeps false state block c = same_names state.names _ state refl
else_keeps true state (Ok items) c = same_names state.names _ (closes_block state items.1) refl
else_keeps true state (Err fault) c = record { extends = tt }

item_keeps_names : (state : MainState) (i : MainItem) → KeepsMain state.names (resolved_item state i)
item_keeps_names state (MainField place name at kind init) =
    main_kept_after (main_number state.names init) _ (λ v. kept_by_main_declaration state.names (resolution_of state.names name) at _ _ (declares_field name kind state) (λ number. main.Field number v) refl)
item_keeps_names state (MainVar place name at init) =
    main_kept_after (main_number state.names init) _ (λ v. kept_by_main_declaration state.names (resolution_of state.names name) at _ _ (declares_scalar name state) (λ number. main.Var number v) refl)
item_keeps_names state (MainAssign place name how value) =
    main_kept_after (assigned_scalar place (resolution_of state.names name)) _ (λ scalar. main_kept_after (main_number state.names value) _ (λ v. same_names state.names _ state refl))
item_keeps_names state (MainIf place test first second has_else) =
    main_kept_after (main_truth state.names test) _ (λ v. main_kept_after (resolved_items (opens_block state) [] first) _
    (λ a. else_keeps (has_else_block second has_else) (closes_block state a.1) (resolved_items (opens_block (closes_block state a.1)) [] second) (λ s. main.If v (block_code state a.0) s)))
item_keeps_names state (MainWhile place test body) =
    main_kept_after (main_truth state.names test) _ (λ v. main_kept_after (resolved_items (opens_block state) [] body) _ (λ a. same_names state.names _ (closes_block state a.1) refl))
item_keeps_names state (MainFor place name at over body) =
    main_kept_after (resolved_comprehension state.names name at over body) _ (λ c. same_names state.names _ (with_comprehension_code c state) refl)
item_keeps_names state (Print place value) = main_kept_after (main_number state.names value) _ (λ v. same_names state.names _ state refl)

pub main_names_remain : (first : Names) (state : MainState) (i : MainItem) (c : ItemCode) (next : MainState) → ExtendsNames first state.names → resolved_item state i ≡ Ok (c, next)
    → ExtendsNames first next.names
main_names_remain first state i c next h e =
    let k = (subst (KeepsMain state.names) e (item_keeps_names state i)).extends in
    (h.0 ++ k.0, k.1 ∙ ap (λ names. names ++ k.0) h.1 ∙ append_assoc first h.0 k.0)

-- THE PARTS of an `if`, a `while` and a comprehension of the main program
module _ (state : MainState) where
  if_is : (place : Place) (test : Expression) (first second : Main) (has_else : Bool)
      → resolved_item state (MainIf place test first second has_else)
      ≡ (main_truth state.names test >>= λ v. resolved_block state first >>= λ b. main_choice_code b.1 v b.0 second has_else)
  if_is place test first second has_else = same_next (main_truth state.names test) _ _ (λ v. sym (bind_assoc (resolved_items (opens_block state) [] first) _ _))

  pub while_is : (place : Place) (test : Expression) (body : Main) → resolved_item state (MainWhile place test body) ≡ main_repetition_code state place test body
  while_is place test body = same_next (main_truth state.names test) _ _ (λ v. sym (bind_assoc (resolved_items (opens_block state) [] body) _ _))

  pub main_first_stops : (place : Place) (test : Expression) (first second : Main) (has_else : Bool) (v : TruthCode) (refused : Refused ProgramFault) → main_truth state.names test ≡ Ok v
      → Gives (resolved_block state first) (Err refused) → Gives (resolved_item state (MainIf place test first second has_else)) (Err refused)
  main_first_stops place test first second has_else v refused e h =
      subst (λ r. Gives r (Err refused)) (sym (if_is place test first second has_else)) (goes_on _ (Err refused) e (stops (resolved_block state first) _ refused h))

  pub main_chooses : (place : Place) (test : Expression) (first second : Main) (has_else : Bool) (v : TruthCode) (b : BlockCode) (next : MainState)
      (answer : Result (ItemCode × MainState) (Refused ProgramFault)) → main_truth state.names test ≡ Ok v → resolved_block state first ≡ Ok (b, next)
      → Gives (main_choice_code next v b second has_else) answer → Gives (resolved_item state (MainIf place test first second has_else)) answer
  main_chooses place test first second has_else v b next answer e f h =
      subst (λ r. Gives r answer) (sym (if_is place test first second has_else)) (goes_on _ answer e (goes_on _ answer f h))

  pub else_is : (i : MainItem) (rest : Main) (has_else : Bool) → resolved_else state (item i rest) has_else ≡ (resolved_block state (item i rest) >>= λ b. Ok (Some b.0, b.1))
  else_is i rest has_else = sym (bind_assoc (resolved_items (opens_block state) [] (item i rest)) _ _)

  pub empty_else_is : resolved_else state no_item true ≡ (resolved_block state no_item >>= λ b. Ok (Some b.0, b.1))
  empty_else_is = refl

pub else_there : (state : MainState) (items : List Item) (has_else : Bool) (answer : Result (Option BlockCode × MainState) (Refused ProgramFault)) → 0 < length items
    → Gives (some_block state (main_of (map item_tree items))) answer → Gives (resolved_else state (main_of (map item_tree items)) has_else) answer
else_there state [] has_else answer h g = absurd (omega (arith, h))
else_there state (i ∷ rest) has_else answer h g = subst (λ r. Gives r answer) (sym (else_is state (item_tree i) (main_of (map item_tree rest)) has_else)) g
