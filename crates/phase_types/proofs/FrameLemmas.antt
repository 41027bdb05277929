-- The body of a comprehension fits the layout of its frame.
use Rattle.std.proofs.Common.{◌≡◌, ◌⊎◌, ◌≤◌, ℕ, zero, suc, ◌+◌, Bool, true, false, cond, List, [], ◌∷◌, ◌++◌, length, map, refl, sym, ap, subst, ◌∙◌, inl, inr, arith, rules, append_assoc}
use Rattle.std.proofs.lemmas.Bool.{lt-ltb}
use Rattle.std.proofs.lemmas.List.{append-nil}
use Rattle.std.specs.List.{find}
use Rattle.std.specs.Option.{option_map, option_and_then}
use Rattle.std.specs.Prelude.{Option, Some, None, ◌&&◌, nat_lt, slice_get, Result, Ok, Err}
use Rattle.std.specs.Str.{bytes_eq}
use Rattle.liszt_base.specs.Kinds.{kind_of}
use Rattle.liszt_base.specs.declared.answers.Place.{Place}
use Rattle.liszt_base.specs.declared.answers.ProgramFault.{ProgramFault}
use Rattle.liszt_base.specs.declared.answers.ProgramWhat.TheVariants.{BuiltinWrite}
use Rattle.liszt_base.specs.declared.elements.Kind.{Kind}
use Rattle.liszt_base.specs.declared.elements.SetName.{SetName}
use Rattle.liszt_tree.specs.declared.tree.How.{How}
use Rattle.liszt_tree.specs.Tree.{Expression, Statement, Var, Val, Assign, If, While, For, Body, no_statement, statement, Main}
use Rattle.resolved_code.specs.declared.expressions.ElementCode.{ElementCode}
use Rattle.resolved_code.specs.declared.expressions.NumberCode.{NumberCode}
use Rattle.resolved_code.specs.declared.expressions.TruthCode.{TruthCode}
use Rattle.resolved_code.specs.declared.items.ComprehensionCode.{ComprehensionCode}
use Rattle.resolved_code.specs.declared.statements.StatementCode.{StatementCode, the_lemmas as statement_lemmas}
use Rattle.resolved_code.specs.declared.statements.StatementCode.TheVariants as code
use Rattle.phase_types.specs.Checked.{CheckedProgram, checked_program}
use Rattle.phase_types.specs.Environments.{Binding, FieldName, binding_of, built_in_fields, first_declared, is_built_in, Comprehension, Part, fields_in, scalars_in, parts_of, DenotesPart}
use Rattle.phase_types.specs.Layouts.{Layout, field_kinds, field_kind, same_kind, element_kind, has_members, number_fits, truth_fits, statement_fits, body_fits, AllBodiesFit}
use Rattle.phase_types.specs.Resolve.{fails, Names, resolution_of, new_name, with_access, element_of_kind, element_with_set, Frame, with_accesses, with_number, with_element, number_name, element_name, assigned_field, with_reduction, resolved_assignment, resolved_field_assignment, declared_number, declared_element, resolved_expression, resolved_number, resolved_truth, resolved_element, resolved_statement, resolved_body, no_slots, resolved_comprehension}
use Rattle.phase_types.specs.Walk.{OfField, mode_by}
use Rattle.phase_types.specs.declared.info.FieldInfo.{FieldInfo}
use Rattle.phase_types.specs.declared.resolution.Resolution.{Resolution}
use Rattle.phase_types.specs.declared.resolution.Resolution.TheVariants as resolution
use Rattle.phase_types.proofs.AccessLemmas.{binds_all, get_within}
use Rattle.phase_types.proofs.CheckedLemmas.{checked_parts, checked_is_typed, checked_code}
use Rattle.phase_types.proofs.CodeLemmas.{Holds, bound, any_result, both, one_more_fits, ResolutionFits, NamesFit, same_kinds, kind_fits, members_fit, expression_fits, number_value_fits, truth_value_fits, element_value_fits}
use Rattle.phase_types.proofs.ComprehensionLemmas.{Stands, comprehension_stands, same_item}
use Rattle.phase_types.proofs.PartLemmas.{at_length}
use Rattle.phase_types.proofs.ResolveLemmas.{binding_in, Agrees}
use Rattle.phase_types.proofs.TypeLemmas.{same_kind as kind_is_itself}

weaker : {A : Type 0} {P Q : A → Type 0} (result : Result A ProgramFault) → Holds P result → ((a : A) → P a → Q a) → Holds Q result
weaker (Ok a) h g = record { of = g a (h.of) }
weaker (Err fault) h g = record { of = tt }

-- FRAMES grow
abbrev Grows : Frame → Frame → Type 0
Grows frame later = ((rest : List Kind) × (later.elements ≡ frame.elements ++ rest)) × (frame.numbers ≤ later.numbers)

same_frame : (frame : Frame) → Grows frame frame
same_frame frame = (([], sym (append-nil frame.elements)), omega arith)

grows_further : (a b c : Frame) → Grows a b → Grows b c → Grows a c
grows_further a b c h g =
    let one : a.numbers ≤ b.numbers = h.1 in let two : b.numbers ≤ c.numbers = g.1 in
    ((h.0.0 ++ g.0.0, g.0.1 ∙ ap (λ xs. xs ++ g.0.0) (h.0.1) ∙ append_assoc a.elements h.0.0 g.0.0), omega (arith, one, two))

one_more_number : (frame : Frame) → Grows frame (with_number frame)
one_more_number frame = (([], sym (append-nil frame.elements)), omega arith)

one_more_element : (kind : Kind) (frame : Frame) → Grows frame (with_element kind frame)
one_more_element kind frame = ((kind ∷ [], refl), omega arith)

-- a name that is added last
first_of_names : (x : List ℕ × Resolution) (name : List ℕ) (r : Resolution) → resolution_of (x ∷ []) name ≡ Some r → x.1 ≡ r
first_of_names x name r e = go (bytes_eq name x.0) e where
  go : (b : Bool) → option_map (λ (entry : List ℕ × Resolution). entry.1) (cond b (Some x) None) ≡ Some r → x.1 ≡ r
  go true e = cc
  go false e = absurd cc

added_name : (names : Names) (x : List ℕ × Resolution) (name : List ℕ) (r : Resolution) → resolution_of (names ++ x ∷ []) name ≡ Some r → (resolution_of names name ≡ Some r) ⊎ (x.1 ≡ r)
added_name [] x name r e = inr (first_of_names x name r e)
added_name (y ∷ names) x name r e = go (bytes_eq name y.0) (added_name names x name r) e where
  found : Names → Option (List ℕ × Resolution)
  found names = find (λ entry. bytes_eq name entry.0) names

  go : (b : Bool) → (option_map (λ entry. entry.1) (found (names ++ x ∷ [])) ≡ Some r → (option_map (λ entry. entry.1) (found names) ≡ Some r) ⊎ (x.1 ≡ r))
      → option_map (λ entry. entry.1) (cond b (Some y) (found (names ++ x ∷ []))) ≡ Some r → (option_map (λ entry. entry.1) (cond b (Some y) (found names)) ≡ Some r) ⊎ (x.1 ≡ r)
  go true again e = inl e
  go false again e = again e

module _ (W : Layout) where
  -- the layout has the slots of a frame
  abbrev HasRoom : Frame → Type 0
  HasRoom frame = ((rest : List Kind) × (W.elements ≡ frame.elements ++ rest)) × (frame.numbers ≤ W.numbers)

  room_before : (a b : Frame) → Grows a b → HasRoom b → HasRoom a
  room_before a b h g =
      let one : a.numbers ≤ b.numbers = h.1 in let two : b.numbers ≤ W.numbers = g.1 in
      ((h.0.0 ++ g.0.0, g.0.1 ∙ ap (λ xs. xs ++ g.0.0) (h.0.1) ∙ append_assoc a.elements h.0.0 g.0.0), omega (arith, one, two))

  slot_below : (frame : Frame) → HasRoom (with_number frame) → nat_lt frame.numbers W.numbers ≡ true
  slot_below frame room = let h : frame.numbers + 1 ≤ W.numbers = room.1 in lt-ltb frame.numbers W.numbers (omega (arith, h))

  slot_at : (kind : Kind) (frame : Frame) → HasRoom (with_element kind frame) → slice_get W.elements (length frame.elements) ≡ Some kind
  slot_at kind frame room =
      ap (λ xs. slice_get xs (length frame.elements)) (room.0.1 ∙ append_assoc frame.elements (kind ∷ []) room.0.0) ∙ at_length frame.elements kind room.0.0

  names_more : (names : Names) (x : List ℕ × Resolution) → NamesFit W names → ResolutionFits W x.1 → NamesFit W (names ++ x ∷ [])
  names_more names x n h = record {
    each = λ name r e. elim (added_name names x name r e) as (λ c. ResolutionFits W r) [
      | inl old ↦ n.each name r old
      | inr is ↦ subst (ResolutionFits W) is h
    ];
  }

  -- declarations
  abbrev NumberDeclared : Frame → ℕ × Names × Frame → Type 0
  NumberDeclared frame d = Grows frame d.2 × (HasRoom d.2 → (nat_lt d.0 W.numbers ≡ true) × NamesFit W d.1)

  number_declared : {names : Names} (frame : Frame) (name : List ℕ) (at : Place) → (HasRoom frame → NamesFit W names) → Holds (NumberDeclared frame) (declared_number names frame name at)
  number_declared {names = names} frame name at n =
      bound (new_name (resolution_of names name) at) _ (any_result _) (λ new any. record {
        of = (one_more_number frame, λ room. (slot_below frame room, names_more names (number_name name frame) (n (room_before frame (with_number frame) (one_more_number frame) room)) (slot_below frame room)));
      })

  abbrev ElementDeclared : Frame → Kind → ℕ × Names × Frame → Type 0
  ElementDeclared frame kind d = (d.0 ≡ length frame.elements) × (Grows frame d.2 × (HasRoom d.2 → (slice_get W.elements d.0 ≡ Some kind) × NamesFit W d.1))

  element_declared : {names : Names} (frame : Frame) (name : List ℕ) (at : Place) (kind : Kind) → (HasRoom frame → NamesFit W names)
      → Holds (ElementDeclared frame kind) (declared_element names frame name at kind)
  element_declared {names = names} frame name at kind n =
      bound (new_name (resolution_of names name) at) _ (any_result _) (λ new any. record {
        of = (
          refl,
          (
            one_more_element kind frame,
            λ room. (slot_at kind frame room, names_more names (element_name name kind frame) (n (room_before frame (with_element kind frame) (one_more_element kind frame) room)) (slot_at kind frame room)),
          ),
        );
      })

  -- the forms of statements by their parts
  var_is : (slot : ℕ) (init : NumberCode) → statement_fits W (code.Var slot init) ≡ (nat_lt slot W.numbers && number_fits W init)
  var_is slot init = search (rules, statement_lemmas)

  val_is : (slot : ℕ) (init : ElementCode) → statement_fits W (code.Val slot init) ≡ same_kind (slice_get W.elements slot) (element_kind W init)
  val_is slot init = search (rules, statement_lemmas)

  local_is : (slot : ℕ) (how : How) (value : NumberCode) → statement_fits W (code.Local slot how value) ≡ (nat_lt slot W.numbers && number_fits W value)
  local_is slot how value = search (rules, statement_lemmas)

  scalar_is : (scalar : ℕ) (how : How) (value : NumberCode) → statement_fits W (code.Scalar scalar how value) ≡ (nat_lt scalar W.scalars && number_fits W value)
  scalar_is scalar how value = search (rules, statement_lemmas)

  field_is : (place : Place) (field : ℕ) (how : How) (target : ElementCode) (value : NumberCode)
      → statement_fits W (code.Field place field how target value) ≡ (same_kind (field_kind W field) (element_kind W target) && number_fits W value)
  field_is place field how target value = search (rules, statement_lemmas)

  if_is : (test : TruthCode) (first second : List StatementCode) → statement_fits W (code.If test first second) ≡ (truth_fits W test && (body_fits W first && body_fits W second))
  if_is test first second = search (rules, statement_lemmas)

  while_is : (place : Place) (test : TruthCode) (body : List StatementCode) → statement_fits W (code.While place test body) ≡ (truth_fits W test && body_fits W body)
  while_is place test body = search (rules, statement_lemmas)

  for_is : (slot : ℕ) (set : SetName) (place : Place) (arg : ElementCode) (body : List StatementCode)
      → statement_fits W (code.For slot set place arg body) ≡ (same_kind (slice_get W.elements slot) (Some (kind_of set)) && (has_members set (element_kind W arg) && body_fits W body))
  for_is slot set place arg body = search (rules, statement_lemmas)

  -- assignments
  abbrev AssignmentHolds : Frame → StatementCode × Frame → Type 0
  AssignmentHolds frame a = Grows frame a.1 × (HasRoom a.1 → statement_fits W a.0 ≡ true)

  target_fits : (C : Type 0) (place : Place) (found : Option Resolution) → ((r : Resolution) → found ≡ Some r → C → ResolutionFits W r) → Holds (λ (f : ℕ × Kind). C → field_kind W f.0 ≡ Some f.1) (assigned_field place found)
  target_fits C place None h = record { of = tt }
  target_fits C place (Some (resolution.Scalar scalar)) h = record { of = tt }
  target_fits C place (Some (resolution.Number slot)) h = record { of = tt }
  target_fits C place (Some (resolution.Element slot kind)) h = record { of = tt }
  target_fits C place (Some (resolution.Field field kind)) h = go (is_built_in field) where
    go : (b : Bool) → Holds (λ (f : ℕ × Kind). C → field_kind W f.0 ≡ Some f.1) (cond b (fails BuiltinWrite place) (Ok (field, kind)))
    go true = record { of = tt }
    go false = record { of = h (resolution.Field field kind) refl }

  field_assignment_holds : {names : Names} (frame : Frame) → (HasRoom frame → NamesFit W names) → (place : Place) (how : How) (target value : Expression) (found : Option Resolution)
      → ((r : Resolution) → found ≡ Some r → HasRoom frame → ResolutionFits W r) → Holds (AssignmentHolds frame) (resolved_field_assignment names frame place how target value found)
  field_assignment_holds {names = names} frame n place how target value found h =
      bound (assigned_field place found) _ (target_fits (HasRoom frame) place found h)
      (λ field f. bound (resolved_expression names frame.accesses target) _ (expression_fits W (HasRoom frame) n frame.accesses target)
      (λ operand o. bound (element_of_kind field.1 place operand.0) _ (kind_fits W (HasRoom frame) field.1 place operand.0 o)
      (λ at_element t. bound (with_access operand.1 (OfField field.0) (mode_by how) place) _ (any_result _)
      (λ later any. bound (resolved_number names later value) _ (number_value_fits W (HasRoom frame) n later value)
      (λ v hv. record {
        of = (
          same_frame frame,
          λ room. field_is place field.0 how at_element v.0
              ∙ both (same_kind (field_kind W field.0) (element_kind W at_element)) (number_fits W v.0) (same_kinds W (HasRoom frame) field.1 at_element (field_kind W field.0) (f room) (t room)) (hv room),
        );
      })))))

  assignment_holds : {names : Names} (frame : Frame) → (HasRoom frame → NamesFit W names) → (place : Place) (how : How) (value : Expression) (found : Option Resolution)
      → ((r : Resolution) → found ≡ Some r → HasRoom frame → ResolutionFits W r) → Holds (AssignmentHolds frame) (resolved_assignment names frame place how value found)
  assignment_holds frame n place how value None h = record { of = tt }
  assignment_holds frame n place how value (Some (resolution.Field field kind)) h = record { of = tt }
  assignment_holds frame n place how value (Some (resolution.Element slot kind)) h = record { of = tt }
  assignment_holds {names = names} frame n place how value (Some (resolution.Scalar scalar)) h =
      bound (with_reduction frame.accesses scalar how place) _ (any_result _)
      (λ later any. bound (resolved_number names later value) _ (number_value_fits W (HasRoom frame) n later value)
      (λ v hv. record { of = (same_frame frame, λ room. scalar_is scalar how v.0 ∙ both (nat_lt scalar W.scalars) (number_fits W v.0) (h (resolution.Scalar scalar) refl room) (hv room)) }))
  assignment_holds {names = names} frame n place how value (Some (resolution.Number slot)) h =
      bound (resolved_number names frame.accesses value) _ (number_value_fits W (HasRoom frame) n frame.accesses value)
      (λ v hv. record { of = (same_frame frame, λ room. local_is slot how v.0 ∙ both (nat_lt slot W.numbers) (number_fits W v.0) (h (resolution.Number slot) refl room) (hv room)) })

  -- STATEMENTS and bodies
  abbrev StatementHolds : Frame → StatementCode × Names × Frame → Type 0
  StatementHolds frame r = Grows frame r.2 × (HasRoom r.2 → (statement_fits W r.0 ≡ true) × NamesFit W r.1)

  abbrev BodyHolds : Frame → List StatementCode × Frame → Type 0
  BodyHolds frame r = Grows frame r.1 × (HasRoom r.1 → body_fits W r.0 ≡ true)

  mutual
    statement_holds : {names : Names} (frame : Frame) → (HasRoom frame → NamesFit W names) → (s : Statement) → Holds (StatementHolds frame) (resolved_statement names frame s)
    statement_holds {names = names} frame n (Var place name at init) =
        bound (resolved_number names frame.accesses init) _ (number_value_fits W (HasRoom frame) n frame.accesses init)
        (λ v hv. bound (declared_number names (with_accesses v.1 frame) name at) _ (number_declared (with_accesses v.1 frame) name at n)
        (λ d hd. record {
          of = (hd.0, λ room. (var_is d.0 v.0 ∙ both (nat_lt d.0 W.numbers) (number_fits W v.0) ((hd.1 room).0) (hv (room_before frame d.2 hd.0 room)), (hd.1 room).1));
        }))
    statement_holds {names = names} frame n (Val place name at init) =
        bound (resolved_element names frame.accesses init) _ (element_value_fits W (HasRoom frame) n frame.accesses init)
        (λ v hv. bound (declared_element names (with_accesses v.1 frame) name at v.0.0) _ (element_declared (with_accesses v.1 frame) name at v.0.0 n)
        (λ d hd. record {
          of = (hd.1.0, λ room. (val_is d.0 v.0.1 ∙ same_kinds W (HasRoom frame) v.0.0 v.0.1 (slice_get W.elements d.0) ((hd.1.1 room).0) (hv (room_before frame d.2 hd.1.0 room)), (hd.1.1 room).1));
        }))
    statement_holds {names = names} frame n (Assign place name (Some target) how value) =
        bound (resolved_field_assignment names frame place how target value (resolution_of names name)) _
        (field_assignment_holds frame n place how target value (resolution_of names name) (λ r e room. (n room).each name r e))
        (λ a h. record { of = (h.0, λ room. (h.1 room, n (room_before frame a.1 h.0 room))) })
    statement_holds {names = names} frame n (Assign place name None how value) =
        bound (resolved_assignment names frame place how value (resolution_of names name)) _
        (assignment_holds frame n place how value (resolution_of names name) (λ r e room. (n room).each name r e))
        (λ a h. record { of = (h.0, λ room. (h.1 room, n (room_before frame a.1 h.0 room))) })
    statement_holds {names = names} frame n (If place test first second has_else) =
        bound (resolved_truth names frame.accesses test) _ (truth_value_fits W (HasRoom frame) n frame.accesses test)
        (λ v hv. bound (resolved_body names (with_accesses v.1 frame) [] first) _ (body_holds (with_accesses v.1 frame) n [] (λ room. refl) first)
        (λ a ha. bound (resolved_body names a.1 [] second) _ (body_holds a.1 (λ room. n (room_before frame a.1 ha.0 room)) [] (λ room. refl) second)
        (λ b hb. record {
          of = (
            grows_further frame a.1 b.1 ha.0 hb.0,
            λ room. (
              if_is v.0 a.0 b.0
                  ∙ both (truth_fits W v.0) (body_fits W a.0 && body_fits W b.0) (hv (room_before frame b.1 (grows_further frame a.1 b.1 ha.0 hb.0) room))
                  (both (body_fits W a.0) (body_fits W b.0) (ha.1 (room_before a.1 b.1 hb.0 room)) (hb.1 room)),
              n (room_before frame b.1 (grows_further frame a.1 b.1 ha.0 hb.0) room),
            ),
          );
        })))
    statement_holds {names = names} frame n (While place test body) =
        bound (resolved_truth names frame.accesses test) _ (truth_value_fits W (HasRoom frame) n frame.accesses test)
        (λ v hv. bound (resolved_body names (with_accesses v.1 frame) [] body) _ (body_holds (with_accesses v.1 frame) n [] (λ room. refl) body)
        (λ b hb. record {
          of = (hb.0, λ room. (while_is place v.0 b.0 ∙ both (truth_fits W v.0) (body_fits W b.0) (hv (room_before frame b.1 hb.0 room)) (hb.1 room), n (room_before frame b.1 hb.0 room)));
        }))
    statement_holds {names = names} frame n (For place name at set set_at arg body) =
        bound (resolved_expression names frame.accesses arg) _ (expression_fits W (HasRoom frame) n frame.accesses arg)
        (λ v hv. bound (element_with_set set set_at v.0) _ (members_fit W (HasRoom frame) set set_at v.0 hv)
        (λ origin ho. bound (declared_element names (with_accesses v.1 frame) name at (kind_of set)) _ (element_declared (with_accesses v.1 frame) name at (kind_of set) n)
        (λ d hd. bound (resolved_body d.1 d.2 [] body) _ (body_holds d.2 (λ room. (hd.1.1 room).1) [] (λ room. refl) body)
        (λ b hb. record {
          of = (
            grows_further frame d.2 b.1 hd.1.0 hb.0,
            λ room.
                let before : HasRoom d.2 = room_before d.2 b.1 hb.0 room in
                let outer : HasRoom frame = room_before frame d.2 hd.1.0 before in (
                  for_is d.0 set set_at origin b.0
                      ∙ both (same_kind (slice_get W.elements d.0) (Some (kind_of set))) (has_members set (element_kind W origin) && body_fits W b.0)
                      (ap (λ k. same_kind k (Some (kind_of set))) ((hd.1.1 before).0) ∙ kind_is_itself (kind_of set))
                      (both (has_members set (element_kind W origin)) (body_fits W b.0) (ho outer) (hb.1 room)),
                  n outer,
                ),
          );
        }))))

    body_holds : {names : Names} (frame : Frame) → (HasRoom frame → NamesFit W names) → (done : List StatementCode) → (HasRoom frame → body_fits W done ≡ true) → (body : Body)
        → Holds (BodyHolds frame) (resolved_body names frame done body)
    body_holds frame n done d no_statement = record { of = (same_frame frame, d) }
    body_holds {names = names} frame n done d (statement s rest) =
        bound (resolved_statement names frame s) _ (statement_holds frame n s)
        (λ r h. weaker (resolved_body r.1 r.2 (done ++ r.0 ∷ []) rest)
        (body_holds r.2 (λ room. (h.1 room).1) (done ++ r.0 ∷ []) (λ room. one_more_fits (statement_fits W) done r.0 (d (room_before frame r.2 h.0 room)) ((h.1 room).0)) rest)
        (λ b k. (grows_further frame r.2 b.1 h.0 k.0, k.1)))

  -- THE COMPREHENSION of a whole frame
  abbrev ComprehensionHolds : Kind → ComprehensionCode → Type 0
  ComprehensionHolds over c = W.elements ≡ c.elements → W.numbers ≡ c.numbers → (slice_get W.elements 0 ≡ Some over) × (body_fits W c.body ≡ true)

  comprehension_holds : {names : Names} → NamesFit W names → (name : List ℕ) (at : Place) (over : Kind) (body : Body)
      → Holds (λ c. ComprehensionHolds over c) (resolved_comprehension names name at over body)
  comprehension_holds {names = names} n name at over body =
      bound (declared_element names no_slots name at over) _ (element_declared no_slots name at over (λ room. n))
      (λ d hd. bound (resolved_body d.1 d.2 [] body) _ (body_holds d.2 (λ room. (hd.1.1 room).1) [] (λ room. refl) body)
      (λ b hb. record {
        of = λ e f.
            let room : HasRoom b.1 = (([], e ∙ sym (append-nil b.1.elements)), omega (arith, f)) in
            (ap (slice_get W.elements) (sym hd.0) ∙ (hd.1.1 (room_before d.2 b.1 hb.0 room)).0, hb.1 room);
      }))

-- FIELDS AND SCALARS of the program
get_mapped : {A B : Type 0} (f : A → B) (xs : List A) (n : ℕ) (x : A) → slice_get xs n ≡ Some x → slice_get (map f xs) n ≡ Some (f x)
get_mapped f [] n x e = absurd cc
get_mapped f (y ∷ xs) zero x e = ap Some (ap f (same_item y x e))
get_mapped f (y ∷ xs) (suc n) x e = get_mapped f xs n x e

declared_kind : (fields : List FieldInfo) (index number : ℕ) (info : FieldInfo) → number ≡ first_declared + index → slice_get fields index ≡ Some info
    → option_and_then (λ kind. kind) (slice_get (field_kinds fields) number) ≡ Some info.kind
declared_kind fields index number info is e =
    let six : number ≡ suc (suc (suc (suc (suc (suc index))))) = omega (arith, is) in
    ap (λ n. option_and_then (λ kind. kind) (slice_get (field_kinds fields) n)) six
    ∙ ap (option_and_then (λ kind. kind)) (get_mapped (λ field. Some field.kind) fields index info e)

module _ (parts : List Part) (elements : List Kind) (numbers : ℕ) where
  abbrev layout : Layout
  layout = record { elements = elements; numbers = numbers; fields = field_kinds (fields_in parts); scalars = length (scalars_in parts) }

  abbrev HasItsKind : Binding → Type 0
  HasItsKind (FieldName number kind) = field_kind layout number ≡ Some kind
  HasItsKind _ = Unit {0}

  built_in_kind : (name : List ℕ) (binding : Binding) → binding_of built_in_fields name ≡ Some binding → HasItsKind binding
  built_in_kind name binding e = binds_all HasItsKind built_in_fields name binding (refl, (refl, (refl, (refl, (refl, tt {0}))))) e

  denoted_fits : (name : List ℕ) (r : Resolution) → DenotesPart parts name (binding_in r) → ResolutionFits layout r
  denoted_fits name (resolution.Field field kind) (inl is) = built_in_kind name (FieldName field kind) is
  denoted_fits name (resolution.Field field kind) (inr d) = declared_kind (fields_in parts) d.index field _ d.number_is d.at_index
  denoted_fits name (resolution.Scalar scalar) e = lt-ltb scalar (length (scalars_in parts)) (get_within (scalars_in parts) scalar name e)
  denoted_fits name (resolution.Number slot) h = absurd h
  denoted_fits name (resolution.Element slot kind) h = absurd h

  names_fit : (names : Names) (c : Comprehension) → Agrees names c.environment → Stands parts c → NamesFit layout names
  names_fit names c agrees s = record {
    each = λ name r e. denoted_fits name r (s.denotes name (binding_in r) (sym (agrees.each name) ∙ ap (option_map binding_in) e));
  }

pub bodies_fit : (program : Main) (checked : CheckedProgram) → checked_program program ≡ Ok checked → AllBodiesFit checked
bodies_fit program checked is k c e =
    let found : _ = checked_code program checked is k c e in
    let comprehension : Comprehension = found.0 in
    let parts = checked_parts program checked is in
    let s : Stands (parts_of program) comprehension = comprehension_stands program (checked_is_typed program checked is) k comprehension found.1 in
    let W : Layout = layout (parts_of program) c.elements c.numbers in
    let names : NamesFit W found.2.names = names_fit (parts_of program) c.elements c.numbers found.2.names comprehension found.2.agrees s in
    let holds : Holds (λ x. ComprehensionHolds W comprehension.over x) (Ok c) =
    subst (Holds (λ x. ComprehensionHolds W comprehension.over x)) found.2.resolved (comprehension_holds W names comprehension.name found.2.at comprehension.over comprehension.body) in
    let fits = holds.of refl refl in (
      fits.0 ∙ ap Some (sym found.2.over),
      ap (λ fields. body_fits (record { elements = c.elements; numbers = c.numbers; fields = field_kinds fields; scalars = length checked.scalars }) c.body) parts.fields
          ∙ ap (λ scalars. body_fits (record { elements = c.elements; numbers = c.numbers; fields = field_kinds (fields_in (parts_of program)); scalars = length scalars }) c.body) parts.scalars
          ∙ fits.1,
    )
