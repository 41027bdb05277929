-- A resolved expression has the element, the accesses and the visits of its tree.
use Rattle.std.proofs.Common.{◌≡◌, ℕ, ◌+◌, List, [], ◌∷◌, ◌++◌, map, Bool, true, false, refl, sym, ap, subst, ◌∙◌, arith}
use Rattle.std.proofs.lemmas.List.{append-nil, append_assoc}
use Rattle.std.specs.Prelude.{Option, Some, None, Result, Ok, Err, if◌then◌else◌, ◌&&◌}
use Rattle.std.specs.Option.{option_and_then, option_map}
use Rattle.std.specs.Str.{bytes_eq}
use Rattle.liszt_base.specs.Kinds.{is_kind}
use Rattle.liszt_base.specs.MeshLists.{MeshLists}
use Rattle.liszt_base.specs.declared.accesses.Access.{Access}
use Rattle.liszt_base.specs.declared.accesses.Mode.{Mode}
use Rattle.liszt_base.specs.declared.accesses.Mode.TheVariants.{Read}
use Rattle.liszt_base.specs.declared.answers.Place.{Place}
use Rattle.liszt_base.specs.declared.answers.ProgramFault.{ProgramFault}
use Rattle.liszt_base.specs.declared.answers.ProgramWhat.TheVariants.{TypeMismatch}
use Rattle.liszt_base.specs.declared.elements.Elem.{Elem}
use Rattle.liszt_base.specs.declared.elements.Kind.{Kind}
use Rattle.liszt_base.specs.declared.elements.Kind.TheVariants.{Vertex, Edge, Face, Cell}
use Rattle.liszt_tree.specs.declared.tree.Fun.{Fun}
use Rattle.liszt_tree.specs.declared.tree.Fun.TheVariants.{Head, Tail, Inside, Outside, Flip, Valid, Id}
use Rattle.liszt_tree.specs.declared.tree.Level.{Level}
use Rattle.liszt_tree.specs.declared.tree.Rel.{Rel}
use Rattle.liszt_tree.specs.declared.tree.Sign.{Sign}
use Rattle.liszt_tree.specs.Tree.{Expression, Number, Name, Field, Call, Towards, Neg, Not, Chain, Compare, Links, no_links, link}
use Rattle.resolved_code.specs.declared.expressions.Arithmetic.{Arithmetic}
use Rattle.resolved_code.specs.declared.expressions.Connective.{Connective}
use Rattle.resolved_code.specs.declared.expressions.ElementCode.{ElementCode}
use Rattle.resolved_code.specs.declared.expressions.ElementCode.TheVariants as element
use Rattle.resolved_code.specs.declared.expressions.ElementFun.{ElementFun}
use Rattle.resolved_code.specs.declared.expressions.ElementFun.TheVariants as function
use Rattle.resolved_code.specs.declared.expressions.NumberCode.{NumberCode}
use Rattle.resolved_code.specs.declared.expressions.NumberCode.TheVariants as number
use Rattle.resolved_code.specs.declared.expressions.NumberLink.{NumberLink}
use Rattle.resolved_code.specs.declared.expressions.TruthCode.{TruthCode}
use Rattle.resolved_code.specs.declared.expressions.TruthCode.TheVariants as truth
use Rattle.resolved_code.specs.declared.expressions.TruthLink.{TruthLink}
use Rattle.topo_operators.specs.Operators.{towards}
use Rattle.phase_types.specs.declared.resolution.ChainCode.{ChainCode}
use Rattle.phase_types.specs.declared.resolution.ChainCode.TheVariants as chain
use Rattle.phase_types.specs.declared.resolution.Resolution.{Resolution}
use Rattle.phase_types.specs.declared.resolution.Resolution.TheVariants as resolution
use Rattle.phase_types.specs.declared.resolution.TypedCode.{TypedCode}
use Rattle.phase_types.specs.declared.resolution.TypedCode.TheVariants as typed
use Rattle.phase_types.specs.Environments.{Environment, FieldName, binding_of, lookup}
use Rattle.phase_types.specs.Resolve.{◌>>=◌, fails, Names, Accesses, resolution_of, with_access, resolved_name, named_field, number_in, truth_in, element_of_kind, call_code, called_code, towards_code, is_equality, comparison_code, negated, inverted, arithmetic_of, connective_of, number_link, truth_link, first_of_chain, extended_chain, whole_chain, resolved_expression, resolved_links}
use Rattle.phase_types.specs.Types.{are_towards_kinds, is_sameness}
use Rattle.phase_types.specs.Walk.{OfField, OfScalar}
use Rattle.kernel_eval.specs.Expressions.{ElementBindings, called_element, element_value}
use Rattle.stencil_infer.specs.Stencils.{access_at, accesses_of, link_accesses, expression_visits, link_visits}
use Rattle.stencil_infer.specs.Internal.CodeAccesses.{Slots, in_slot, called, element_of, element_visits, at_element, joined, total, number_accesses, number_link_accesses, number_visits, visits_of_number_link, truth_accesses, truth_link_accesses, truth_visits, visits_of_truth_link}
use Rattle.stencil_infer.proofs.CodeClauseLemmas.{element_slot, element_call, element_towards, number_constant, number_local, number_scalar, number_field, number_id, number_neg, number_chain, truth_valid, truth_not, truth_chain, truth_comparenumbers, truth_compareelements, number_link_is, truth_link_is}
use Rattle.stencil_infer.proofs.CodeClauseLemmas.{visits_element_slot, visits_element_call, visits_element_towards, visits_number_constant, visits_number_local, visits_number_scalar, visits_number_field, visits_number_id, visits_number_neg, visits_number_chain, visits_truth_valid, visits_truth_not, visits_truth_chain, visits_truth_comparenumbers, visits_truth_compareelements, visits_number_link_is, visits_truth_link_is}

-- STEPS THAT SUCCEED
pub bound : {A B : Type 0} (first : Result A ProgramFault) (next : A → Result B ProgramFault) (b : B) → (first >>= next) ≡ Ok b → (a : A) × (first ≡ Ok a) × (next a ≡ Ok b)
bound (Ok a) next b e = (a, refl, e)
bound (Err fault) next b e = absurd cc

abbrev as_result : {A : Type 0} → A → Result A ProgramFault
as_result a = Ok a

pub ok_is : {A : Type 0} (a b : A) → as_result a ≡ as_result b → a ≡ b
ok_is a b e = cc

pub is_number : (place : Place) (value : TypedCode) (code : NumberCode) → number_in place value ≡ Ok code → value ≡ typed.Number code
is_number place (typed.Number code) other e = ap typed.Number (ok_is code other e)
is_number place (typed.Truth code) other e = absurd cc
is_number place (typed.Element kind code) other e = absurd cc

pub is_truth : (place : Place) (value : TypedCode) (code : TruthCode) → truth_in place value ≡ Ok code → value ≡ typed.Truth code
is_truth place (typed.Truth code) other e = ap typed.Truth (ok_is code other e)
is_truth place (typed.Number code) other e = absurd cc
is_truth place (typed.Element kind code) other e = absurd cc

-- THE BINDINGS of elements are in the slots of their names, and the names of fields are those of the main program.
pub record Represents (names : Names) (elements : ElementBindings) (slots : Slots) : Type 0 where
  pub has_slot : (name : List ℕ) (slot : ℕ) (kind : Kind) → resolution_of names name ≡ Some (resolution.Element slot kind)
      → lookup (bytes_eq name) elements ≡ Some (in_slot slots slot)

pub record KnowsFields (names : Names) (globals : Environment) : Type 0 where
  pub is_field : (name : List ℕ) (field : ℕ) (kind : Kind) → resolution_of names name ≡ Some (resolution.Field field kind) → binding_of globals name ≡ Some (FieldName field kind)

joined_more : {A : Type 0} (f : A → List Access) (xs : List A) (x : A) → joined (map f (xs ++ x ∷ [])) ≡ joined (map f xs) ++ f x
joined_more f [] x = append-nil (f x)
joined_more f (y ∷ xs) x = ap (λ more. f y ++ more) (joined_more f xs x) ∙ sym (append_assoc (f y) (joined (map f xs)) (f x))

total_more : {A : Type 0} (f : A → ℕ) (xs : List A) (x : A) → total (map f (xs ++ x ∷ [])) ≡ total (map f xs) + f x
total_more f [] x = omega arith
total_more f (y ∷ xs) x = omega (arith, total_more f xs x)

module _ (mesh : MeshLists) (globals : Environment) (elements : ElementBindings) (slots : Slots) where
  -- THE AGREEMENT of a code with an element, if it is one, accesses, and visits
  abbrev pub Agrees : Option (Option Elem) → List Access → ℕ → TypedCode → Type 0
  Agrees value accesses visits (typed.Number code) = (accesses ≡ number_accesses mesh slots code) × (visits ≡ number_visits code)
  Agrees value accesses visits (typed.Truth code) = (accesses ≡ truth_accesses mesh slots code) × (visits ≡ truth_visits code)
  Agrees value accesses visits (typed.Element kind code) = (value ≡ Some (element_of mesh slots code)) × (accesses ≡ []) × (visits ≡ element_visits code)

  abbrev pub IsCodeOf : Expression → TypedCode → Type 0
  IsCodeOf e code = Agrees (element_value mesh elements e) (accesses_of mesh globals elements e) (expression_visits e) code

  -- calls
  called_agrees : (place : Place) (fun : Fun) (of : ElementFun) (kind other : Kind) (arg : Expression) (code : ElementCode)
      → ((x : Option Elem) → called_element mesh fun x ≡ Some (called mesh of x)) → IsCodeOf arg (typed.Element kind code)
      → IsCodeOf (Call place fun arg) (typed.Element other (element.Call of code))
  called_agrees place fun of kind other arg code same h = (
    ap (option_and_then (called_element mesh fun)) h.0 ∙ same (element_of mesh slots code) ∙ sym (ap Some (element_call mesh slots of code)),
    h.1,
    ap (λ n. 1 + n) h.2 ∙ sym (visits_element_call of code),
  )

  call_agrees : (place : Place) (fun : Fun) (kind : Kind) (arg : Expression) (code : ElementCode) (call : TypedCode) → IsCodeOf arg (typed.Element kind code)
      → call_code place fun kind code ≡ Ok call → IsCodeOf (Call place fun arg) call
  call_agrees place Head Vertex arg code call h e = absurd cc
  call_agrees place Head Edge arg code call h e = subst (IsCodeOf (Call place Head arg)) (ok_is _ call e) (called_agrees place Head function.Head Edge Vertex arg code (λ x. refl) h)
  call_agrees place Head Face arg code call h e = absurd cc
  call_agrees place Head Cell arg code call h e = absurd cc
  call_agrees place Tail Vertex arg code call h e = absurd cc
  call_agrees place Tail Edge arg code call h e = subst (IsCodeOf (Call place Tail arg)) (ok_is _ call e) (called_agrees place Tail function.Tail Edge Vertex arg code (λ x. refl) h)
  call_agrees place Tail Face arg code call h e = absurd cc
  call_agrees place Tail Cell arg code call h e = absurd cc
  call_agrees place Inside Vertex arg code call h e = absurd cc
  call_agrees place Inside Edge arg code call h e = absurd cc
  call_agrees place Inside Face arg code call h e = subst (IsCodeOf (Call place Inside arg)) (ok_is _ call e) (called_agrees place Inside function.Inside Face Cell arg code (λ x. refl) h)
  call_agrees place Inside Cell arg code call h e = absurd cc
  call_agrees place Outside Vertex arg code call h e = absurd cc
  call_agrees place Outside Edge arg code call h e = absurd cc
  call_agrees place Outside Face arg code call h e = subst (IsCodeOf (Call place Outside arg)) (ok_is _ call e) (called_agrees place Outside function.Outside Face Cell arg code (λ x. refl) h)
  call_agrees place Outside Cell arg code call h e = absurd cc
  call_agrees place Flip Vertex arg code call h e = absurd cc
  call_agrees place Flip Edge arg code call h e = subst (IsCodeOf (Call place Flip arg)) (ok_is _ call e) (called_agrees place Flip function.Flip Edge Edge arg code (λ x. refl) h)
  call_agrees place Flip Face arg code call h e = subst (IsCodeOf (Call place Flip arg)) (ok_is _ call e) (called_agrees place Flip function.Flip Face Face arg code (λ x. refl) h)
  call_agrees place Flip Cell arg code call h e = absurd cc
  call_agrees place Valid kind arg code call h e =
      subst (IsCodeOf (Call place Valid arg)) (ok_is _ call e) (h.1 ∙ sym (truth_valid mesh slots code), ap (λ n. 1 + n) h.2 ∙ sym (visits_truth_valid code))
  call_agrees place Id kind arg code call h e =
      subst (IsCodeOf (Call place Id arg)) (ok_is _ call e) (h.1 ∙ sym (number_id mesh slots place code), ap (λ n. 1 + n) h.2 ∙ sym (visits_number_id place code))

  called_code_agrees : (place : Place) (fun : Fun) (arg : Expression) (operand call : TypedCode) → IsCodeOf arg operand → called_code place fun operand ≡ Ok call
      → IsCodeOf (Call place fun arg) call
  called_code_agrees place fun arg (typed.Element kind code) call h e = call_agrees place fun kind arg code call h e
  called_code_agrees place fun arg (typed.Number code) call h e = absurd cc
  called_code_agrees place fun arg (typed.Truth code) call h e = absurd cc

  towards_agrees : (place : Place) (arg to : Expression) (operand other call : TypedCode) → IsCodeOf arg operand → IsCodeOf to other → towards_code place operand other ≡ Ok call
      → IsCodeOf (Towards place arg to) call
  towards_agrees place arg to (typed.Element kind code) (typed.Element kind' code') call h g e = go (are_towards_kinds kind kind') e where
    both : IsCodeOf (Towards place arg to) (typed.Element kind (element.Towards code code'))
    both = (
      ap (option_and_then (λ x. option_map (towards mesh x) (element_value mesh elements to))) h.0 ∙ ap (option_map (towards mesh (element_of mesh slots code))) g.0
          ∙ sym (ap Some (element_towards mesh slots code code')),
      ap (λ accesses. accesses ++ accesses_of mesh globals elements to) h.1 ∙ g.1,
      ap (λ n. 1 + n + expression_visits to) h.2 ∙ ap (λ n. 1 + element_visits code + n) g.2 ∙ sym (visits_element_towards code code'),
    )

    go : (can : Bool) → (if can then Ok (typed.Element kind (element.Towards code code')) else fails TypeMismatch place) ≡ Ok call → IsCodeOf (Towards place arg to) call
    go true e = subst (IsCodeOf (Towards place arg to)) (ok_is _ call e) both
    go false e = absurd cc
  towards_agrees place arg to (typed.Element kind code) (typed.Number code') call h g e = absurd cc
  towards_agrees place arg to (typed.Element kind code) (typed.Truth code') call h g e = absurd cc
  towards_agrees place arg to (typed.Number code) other call h g e = absurd cc
  towards_agrees place arg to (typed.Truth code) other call h g e = absurd cc

  agrees_at : (value : Option (Option Elem)) (accesses later : List Access) (n m : ℕ) (code : TypedCode) → accesses ≡ later → n ≡ m → Agrees value accesses n code → Agrees value later m code
  agrees_at value accesses later n m code e f h = subst (λ accesses. Agrees value accesses m code) e (subst (λ n. Agrees value accesses n code) f h)

  -- prefix operators and comparisons
  neg_agrees : (place : Place) (arg : Expression) (operand value : TypedCode) → IsCodeOf arg operand → negated place operand ≡ Ok value → IsCodeOf (Neg place arg) value
  neg_agrees place arg (typed.Number code) value h e =
      subst (IsCodeOf (Neg place arg)) (ok_is _ value e) (h.0 ∙ sym (number_neg mesh slots place code), ap (λ n. 1 + n) h.1 ∙ sym (visits_number_neg place code))
  neg_agrees place arg (typed.Truth code) value h e = absurd cc
  neg_agrees place arg (typed.Element kind code) value h e = absurd cc

  not_agrees : (place : Place) (arg : Expression) (operand value : TypedCode) → IsCodeOf arg operand → inverted place operand ≡ Ok value → IsCodeOf (Not place arg) value
  not_agrees place arg (typed.Truth code) value h e =
      subst (IsCodeOf (Not place arg)) (ok_is _ value e) (h.0 ∙ sym (truth_not mesh slots code), ap (λ n. 1 + n) h.1 ∙ sym (visits_truth_not code))
  not_agrees place arg (typed.Number code) value h e = absurd cc
  not_agrees place arg (typed.Element kind code) value h e = absurd cc

  comparison_agrees : (place : Place) (rel : Rel) (left right : Expression) (operand other test : TypedCode) → IsCodeOf left operand → IsCodeOf right other
      → comparison_code place rel operand other ≡ Ok test → IsCodeOf (Compare place rel left right) test
  comparison_agrees place rel left right (typed.Number code) (typed.Number code') test h g e =
      subst (IsCodeOf (Compare place rel left right)) (ok_is _ test e) (
        ap (λ accesses. accesses ++ accesses_of mesh globals elements right) h.0 ∙ ap (λ accesses. number_accesses mesh slots code ++ accesses) g.0
            ∙ sym (truth_comparenumbers mesh slots rel code code'),
        ap (λ n. 1 + n + expression_visits right) h.1 ∙ ap (λ n. 1 + number_visits code + n) g.1 ∙ sym (visits_truth_comparenumbers rel code code'),
      )
  comparison_agrees place rel left right (typed.Element kind code) (typed.Element kind' code') test h g e = go (is_sameness rel && is_kind kind kind') e where
    both : IsCodeOf (Compare place rel left right) (typed.Truth (truth.CompareElements (is_equality rel) code code'))
    both = (
      ap (λ accesses. accesses ++ accesses_of mesh globals elements right) h.1 ∙ g.1 ∙ sym (truth_compareelements mesh slots (is_equality rel) code code'),
      ap (λ n. 1 + n + expression_visits right) h.2 ∙ ap (λ n. 1 + element_visits code + n) g.2 ∙ sym (visits_truth_compareelements (is_equality rel) code code'),
    )

    go : (can : Bool) → (if can then Ok (typed.Truth (truth.CompareElements (is_equality rel) code code')) else fails TypeMismatch place) ≡ Ok test
        → IsCodeOf (Compare place rel left right) test
    go true e = subst (IsCodeOf (Compare place rel left right)) (ok_is _ test e) both
    go false e = absurd cc
  comparison_agrees place rel left right (typed.Number code) (typed.Truth code') test h g e = absurd cc
  comparison_agrees place rel left right (typed.Number code) (typed.Element kind code') test h g e = absurd cc
  comparison_agrees place rel left right (typed.Element kind code) (typed.Number code') test h g e = absurd cc
  comparison_agrees place rel left right (typed.Element kind code) (typed.Truth code') test h g e = absurd cc
  comparison_agrees place rel left right (typed.Truth code) other test h g e = absurd cc

  -- CHAINS: the operands so far
  abbrev ChainAgrees : List Access → ℕ → ChainCode → Type 0
  ChainAgrees accesses visits (chain.Numbers first rest) =
      (accesses ≡ number_accesses mesh slots first ++ joined (map (number_link_accesses mesh slots) rest)) × (visits ≡ number_visits first + total (map visits_of_number_link rest))
  ChainAgrees accesses visits (chain.Truths first rest) =
      (accesses ≡ truth_accesses mesh slots first ++ joined (map (truth_link_accesses mesh slots) rest)) × (visits ≡ truth_visits first + total (map visits_of_truth_link rest))
  ChainAgrees accesses visits (chain.Element kind code) = Unit {0}

  abbrev IsLong : ChainCode → Type 0
  IsLong (chain.Numbers first (l ∷ rest)) = Unit {0}
  IsLong (chain.Truths first (l ∷ rest)) = Unit {0}
  IsLong _ = ⊥

  chain_starts : (value : Option (Option Elem)) (accesses : List Access) (visits : ℕ) (operand : TypedCode) → Agrees value accesses visits operand → ChainAgrees accesses visits (first_of_chain operand)
  chain_starts value accesses visits (typed.Number code) h = (h.0 ∙ sym (append-nil (number_accesses mesh slots code)), omega (arith, h.1))
  chain_starts value accesses visits (typed.Truth code) h = (h.0 ∙ sym (append-nil (truth_accesses mesh slots code)), omega (arith, h.1))
  chain_starts value accesses visits (typed.Element kind code) h = tt

  chain_ends : (value : Option (Option Elem)) (accesses : List Access) (visits : ℕ) (done : ChainCode) → ChainAgrees accesses visits done → IsLong done
      → Agrees value accesses (1 + visits) (whole_chain done)
  chain_ends value accesses visits (chain.Numbers first (l ∷ rest)) h long =
      (h.0 ∙ sym (number_chain mesh slots first (l ∷ rest)), omega (arith, h.1, visits_number_chain first (l ∷ rest)))
  chain_ends value accesses visits (chain.Truths first (l ∷ rest)) h long =
      (h.0 ∙ sym (truth_chain mesh slots first (l ∷ rest)), omega (arith, h.1, visits_truth_chain first (l ∷ rest)))
  chain_ends value accesses visits (chain.Numbers first []) h long = absurd long
  chain_ends value accesses visits (chain.Truths first []) h long = absurd long
  chain_ends value accesses visits (chain.Element kind code) h long = absurd long

  -- a further operand
  long_numbers : (first : NumberCode) (rest : List NumberLink) (l : NumberLink) → IsLong (chain.Numbers first (rest ++ l ∷ []))
  long_numbers first [] l = tt
  long_numbers first (x ∷ rest) l = tt

  long_truths : (first : TruthCode) (rest : List TruthLink) (l : TruthLink) → IsLong (chain.Truths first (rest ++ l ∷ []))
  long_truths first [] l = tt
  long_truths first (x ∷ rest) l = tt

  numbers_extended : (a : List Access) (n : ℕ) (first : NumberCode) (rest : List NumberLink) (l : NumberLink) → ChainAgrees a n (chain.Numbers first rest)
      → ChainAgrees (a ++ number_accesses mesh slots l.arg) (n + number_visits l.arg) (chain.Numbers first (rest ++ l ∷ []))
  numbers_extended a n first rest l h = (
    ap (λ a. a ++ number_accesses mesh slots l.arg) h.0 ∙ append_assoc (number_accesses mesh slots first) _ (number_accesses mesh slots l.arg)
        ∙ ap (λ more. number_accesses mesh slots first ++ (joined (map (number_link_accesses mesh slots) rest) ++ more)) (sym (number_link_is mesh slots l))
        ∙ ap (λ more. number_accesses mesh slots first ++ more) (sym (joined_more (number_link_accesses mesh slots) rest l)),
    omega (arith, h.1, total_more visits_of_number_link rest l, visits_number_link_is l),
  )

  truths_extended : (a : List Access) (n : ℕ) (first : TruthCode) (rest : List TruthLink) (l : TruthLink) → ChainAgrees a n (chain.Truths first rest)
      → ChainAgrees (a ++ truth_accesses mesh slots l.arg) (n + truth_visits l.arg) (chain.Truths first (rest ++ l ∷ []))
  truths_extended a n first rest l h = (
    ap (λ a. a ++ truth_accesses mesh slots l.arg) h.0 ∙ append_assoc (truth_accesses mesh slots first) _ (truth_accesses mesh slots l.arg)
        ∙ ap (λ more. truth_accesses mesh slots first ++ (joined (map (truth_link_accesses mesh slots) rest) ++ more)) (sym (truth_link_is mesh slots l))
        ∙ ap (λ more. truth_accesses mesh slots first ++ more) (sym (joined_more (truth_link_accesses mesh slots) rest l)),
    omega (arith, h.1, total_more visits_of_truth_link rest l, visits_truth_link_is l),
  )

  record Extended (accesses : List Access) (visits : ℕ) (done : ChainCode) : Type 0 where
    pub agrees : ChainAgrees accesses visits done
    pub long : IsLong done

  extended_at : {accesses later : List Access} {n m : ℕ} {done next : ChainCode} → accesses ≡ later → n ≡ m → done ≡ next → Extended accesses n done → Extended later m next
  extended_at {accesses = accesses} {n = n} {m = m} {done = done} {next = next} e f g h =
      subst (λ accesses. Extended accesses m next) e (subst (λ n. Extended accesses n next) f (subst (λ done. Extended accesses n done) g h))

  extended_number : (place : Place) (sign : Sign) (a : List Access) (n : ℕ) (first : NumberCode) (rest : List NumberLink) (arg : Expression) (operand : TypedCode) (next : ChainCode)
      → ChainAgrees a n (chain.Numbers first rest) → IsCodeOf arg operand → extended_chain place sign (chain.Numbers first rest) operand ≡ Ok next
      → Extended (a ++ accesses_of mesh globals elements arg) (n + expression_visits arg) next
  extended_number place sign a n first rest arg (typed.Number code) next h g e = go (arithmetic_of sign) e where
    go : (found : Option Arithmetic) → (number_link place found code >>= λ l. Ok (chain.Numbers first (rest ++ l ∷ []))) ≡ Ok next
        → Extended (a ++ accesses_of mesh globals elements arg) (n + expression_visits arg) next
    go (Some op) e =
        let l : NumberLink = record { op = op; place = place; arg = code } in
        extended_at (ap (λ accesses. a ++ accesses) (sym g.0)) (ap (λ m. n + m) (sym g.1)) (ok_is (chain.Numbers first (rest ++ l ∷ [])) next e)
        (record { agrees = numbers_extended a n first rest l h; long = long_numbers first rest l })
    go None e = absurd cc
  extended_number place sign a n first rest arg (typed.Truth code) next h g e = absurd cc
  extended_number place sign a n first rest arg (typed.Element kind code) next h g e = absurd cc

  extended_truth : (place : Place) (sign : Sign) (a : List Access) (n : ℕ) (first : TruthCode) (rest : List TruthLink) (arg : Expression) (operand : TypedCode) (next : ChainCode)
      → ChainAgrees a n (chain.Truths first rest) → IsCodeOf arg operand → extended_chain place sign (chain.Truths first rest) operand ≡ Ok next
      → Extended (a ++ accesses_of mesh globals elements arg) (n + expression_visits arg) next
  extended_truth place sign a n first rest arg (typed.Truth code) next h g e = go (connective_of sign) e where
    go : (found : Option Connective) → (truth_link place found code >>= λ l. Ok (chain.Truths first (rest ++ l ∷ []))) ≡ Ok next
        → Extended (a ++ accesses_of mesh globals elements arg) (n + expression_visits arg) next
    go (Some op) e =
        let l : TruthLink = record { op = op; arg = code } in
        extended_at (ap (λ accesses. a ++ accesses) (sym g.0)) (ap (λ m. n + m) (sym g.1)) (ok_is (chain.Truths first (rest ++ l ∷ [])) next e)
        (record { agrees = truths_extended a n first rest l h; long = long_truths first rest l })
    go None e = absurd cc
  extended_truth place sign a n first rest arg (typed.Number code) next h g e = absurd cc
  extended_truth place sign a n first rest arg (typed.Element kind code) next h g e = absurd cc

  chain_extended : (place : Place) (sign : Sign) (a : List Access) (n : ℕ) (done : ChainCode) (arg : Expression) (operand : TypedCode) (next : ChainCode)
      → ChainAgrees a n done → IsCodeOf arg operand → extended_chain place sign done operand ≡ Ok next
      → Extended (a ++ accesses_of mesh globals elements arg) (n + expression_visits arg) next
  chain_extended place sign a n (chain.Numbers first rest) = extended_number place sign a n first rest
  chain_extended place sign a n (chain.Truths first rest) = extended_truth place sign a n first rest
  chain_extended place sign a n (chain.Element kind code) = λ arg operand next h g e. absurd cc

  -- the operands of a chain after a first one, and after several
  more_agree : (sign : Sign) (place : Place) (arg : Expression) (rest : Links) (done : ChainCode) (operand : TypedCode) (next : ChainCode) (r : TypedCode) (a : List Access) (n : ℕ)
      → ChainAgrees a n done → IsCodeOf arg operand → extended_chain place sign done operand ≡ Ok next
      → ((a : List Access) (n : ℕ) → ChainAgrees a n next → IsLong next → Agrees None (a ++ link_accesses mesh globals elements rest) (1 + n + link_visits rest) r)
      → Agrees None (a ++ (accesses_of mesh globals elements arg ++ link_accesses mesh globals elements rest)) (1 + n + (expression_visits arg + link_visits rest)) r
  more_agree sign place arg rest done operand next r a n h g e later =
      let x : Extended (a ++ accesses_of mesh globals elements arg) (n + expression_visits arg) next = chain_extended place sign a n done arg operand next h g e in
      agrees_at None ((a ++ accesses_of mesh globals elements arg) ++ link_accesses mesh globals elements rest) _ (1 + (n + expression_visits arg) + link_visits rest) _ r
      (append_assoc a (accesses_of mesh globals elements arg) (link_accesses mesh globals elements rest)) (omega arith)
      (later (a ++ accesses_of mesh globals elements arg) (n + expression_visits arg) x.agrees x.long)

  chain_agrees : (level : Level) (first : Expression) (sign : Sign) (place : Place) (arg : Expression) (rest : Links) (done : ChainCode) (operand : TypedCode) (next : ChainCode) (r : TypedCode)
      → ChainAgrees (accesses_of mesh globals elements first) (expression_visits first) done → IsCodeOf arg operand → extended_chain place sign done operand ≡ Ok next
      → ((a : List Access) (n : ℕ) → ChainAgrees a n next → IsLong next → Agrees None (a ++ link_accesses mesh globals elements rest) (1 + n + link_visits rest) r)
      → IsCodeOf (Chain level first (link sign place arg rest)) r
  chain_agrees level first sign place arg rest done operand next r h g e later =
      agrees_at None _ _ (1 + expression_visits first + (expression_visits arg + link_visits rest)) _ r refl (omega arith)
      (more_agree sign place arg rest done operand next r (accesses_of mesh globals elements first) (expression_visits first) h g e later)

  -- EXPRESSIONS under names
  module _ (names : Names) (represents : Represents names elements slots) (knows : KnowsFields names globals) where
    name_agrees : (place : Place) (name : List ℕ) (accesses : Accesses) (found : Option Resolution) (r : TypedCode × Accesses) → resolution_of names name ≡ found
        → resolved_name place accesses found ≡ Ok r → IsCodeOf (Name place name) r.0
    name_agrees place name accesses None r is e = absurd cc
    name_agrees place name accesses (Some (resolution.Field field kind)) r is e = absurd cc
    name_agrees place name accesses (Some (resolution.Scalar scalar)) r is e =
        let later = bound (with_access accesses (OfScalar scalar) Read place) (λ later. Ok (typed.Number (number.Scalar scalar), later)) r e in
        subst (λ (r : TypedCode × Accesses). IsCodeOf (Name place name) r.0) (ok_is _ r later.2) (sym (number_scalar mesh slots scalar), sym (visits_number_scalar scalar))
    name_agrees place name accesses (Some (resolution.Number slot)) r is e =
        subst (λ (r : TypedCode × Accesses). IsCodeOf (Name place name) r.0) (ok_is (typed.Number (number.Local slot), accesses) r e)
        (sym (number_local mesh slots slot), sym (visits_number_local slot))
    name_agrees place name accesses (Some (resolution.Element slot kind)) r is e =
        subst (λ (r : TypedCode × Accesses). IsCodeOf (Name place name) r.0) (ok_is (typed.Element kind (element.Slot slot), accesses) r e)
        (represents.has_slot name slot kind is ∙ sym (ap Some (element_slot mesh slots slot)), refl, sym (visits_element_slot slot))

    -- a field read
    read_is : (mode : Mode) (field : ℕ) (kind : Kind) (x : Option Elem) → access_at mode (Some (FieldName field kind)) (Some x) ≡ at_element mode field x
    read_is mode field kind None = refl
    read_is mode field kind (Some x) = refl

    named_is : (place : Place) (name : List ℕ) (found : Option Resolution) (field : ℕ × Kind) → resolution_of names name ≡ found → named_field place found ≡ Ok field
        → binding_of globals name ≡ Some (FieldName field.0 field.1)
    named_is place name (Some (resolution.Field field kind)) pair is e =
        subst (λ (pair : ℕ × Kind). binding_of globals name ≡ Some (FieldName pair.0 pair.1)) (ok_is (field, kind) pair e) (knows.is_field name field kind is)
    named_is place name None pair is e = absurd cc
    named_is place name (Some (resolution.Scalar scalar)) pair is e = absurd cc
    named_is place name (Some (resolution.Number slot)) pair is e = absurd cc
    named_is place name (Some (resolution.Element slot kind)) pair is e = absurd cc

    abbrev pub IsElementCode : Expression → ElementCode → Type 0
    IsElementCode e code = (element_value mesh elements e ≡ Some (element_of mesh slots code)) × (accesses_of mesh globals elements e ≡ []) × (expression_visits e ≡ element_visits code)

    pub of_kind : (kind : Kind) (place : Place) (arg : Expression) (operand : TypedCode) (target : ElementCode) → IsCodeOf arg operand → element_of_kind kind place operand ≡ Ok target
        → IsElementCode arg target
    of_kind kind place arg (typed.Element other code) target h e = go (is_kind kind other) e where
      go : (same : Bool) → (if same then Ok code else fails TypeMismatch place) ≡ Ok target → IsElementCode arg target
      go true e = subst (IsElementCode arg) (ok_is code target e) h
      go false e = absurd cc
    of_kind kind place arg (typed.Number code) target h e = absurd cc
    of_kind kind place arg (typed.Truth code) target h e = absurd cc

    abbrev with_read : Place → ℕ → ElementCode → Accesses → Result (TypedCode × Accesses) ProgramFault
    with_read place field target later = Ok (typed.Number (number.Field place field target), later)

    abbrev with_target : Place → ℕ → Accesses → ElementCode → Result (TypedCode × Accesses) ProgramFault
    with_target place field accesses target = with_access accesses (OfField field) Read place >>= with_read place field target

    abbrev with_operand : Place → ℕ × Kind → TypedCode × Accesses → Result (TypedCode × Accesses) ProgramFault
    with_operand place field operand = element_of_kind field.1 place operand.0 >>= with_target place field.0 operand.1

    abbrev with_field : Place → Expression → Accesses → ℕ × Kind → Result (TypedCode × Accesses) ProgramFault
    with_field place arg accesses field = resolved_expression names accesses arg >>= with_operand place field

    target_agrees : (place : Place) (name : List ℕ) (arg : Expression) (field : ℕ) (kind : Kind) (accesses : Accesses) (target : ElementCode) (r : TypedCode × Accesses)
        → binding_of globals name ≡ Some (FieldName field kind) → IsElementCode arg target → with_target place field accesses target ≡ Ok r → IsCodeOf (Field place name arg) r.0
    target_agrees place name arg field kind accesses target r is h e =
        let later = bound (with_access accesses (OfField field) Read place) (with_read place field target) r e in
        subst (λ (r : TypedCode × Accesses). IsCodeOf (Field place name arg) r.0) (ok_is (typed.Number (number.Field place field target), later.0) r later.2) (
          ap (λ accesses. accesses ++ access_at Read (binding_of globals name) (element_value mesh elements arg)) h.1
              ∙ ap (λ global. access_at Read global (element_value mesh elements arg)) is ∙ ap (access_at Read (Some (FieldName field kind))) h.0
              ∙ read_is Read field kind (element_of mesh slots target) ∙ sym (number_field mesh slots place field target),
          ap (λ n. 1 + n) h.2 ∙ sym (visits_number_field place field target),
        )

    operand_agrees : (place : Place) (name : List ℕ) (arg : Expression) (field : ℕ × Kind) (operand r : TypedCode × Accesses) → binding_of globals name ≡ Some (FieldName field.0 field.1)
        → IsCodeOf arg operand.0 → with_operand place field operand ≡ Ok r → IsCodeOf (Field place name arg) r.0
    operand_agrees place name arg field operand r is h e =
        let target = bound (element_of_kind field.1 place operand.0) (with_target place field.0 operand.1) r e in
        target_agrees place name arg field.0 field.1 operand.1 target.0 r is (of_kind field.1 place arg operand.0 target.0 h target.1) target.2

    whole_is : (operand : TypedCode) → whole_chain (first_of_chain operand) ≡ operand
    whole_is (typed.Number code) = refl
    whole_is (typed.Truth code) = refl
    whole_is (typed.Element kind code) = refl

    mutual
      pub expression_agrees : (e : Expression) (accesses : Accesses) (r : TypedCode × Accesses) → resolved_expression names accesses e ≡ Ok r → IsCodeOf e r.0
      expression_agrees (Number place n) accesses r e =
          subst (λ (r : TypedCode × Accesses). IsCodeOf (Number place n) r.0) (ok_is (typed.Number (number.Constant n), accesses) r e)
          (sym (number_constant mesh slots n), sym (visits_number_constant n))
      expression_agrees (Name place name) accesses r e = name_agrees place name accesses (resolution_of names name) r refl e
      expression_agrees (Field place name arg) accesses r e =
          let field = bound (named_field place (resolution_of names name)) (with_field place arg accesses) r e in
          let operand = bound (resolved_expression names accesses arg) (with_operand place field.0) r field.2 in
          operand_agrees place name arg field.0 operand.0 r (named_is place name (resolution_of names name) field.0 refl field.1)
          (expression_agrees arg accesses operand.0 operand.1) operand.2
      expression_agrees (Call place fun arg) accesses r e =
          let operand = bound (resolved_expression names accesses arg) (λ operand. called_code place fun operand.0 >>= λ call. Ok (call, operand.1)) r e in
          let call = bound (called_code place fun operand.0.0) (λ call. Ok (call, operand.0.1)) r operand.2 in
          subst (λ (r : TypedCode × Accesses). IsCodeOf (Call place fun arg) r.0) (ok_is (call.0, operand.0.1) r call.2)
          (called_code_agrees place fun arg operand.0.0 call.0 (expression_agrees arg accesses operand.0 operand.1) call.1)
      expression_agrees (Towards place arg to) accesses r e =
          let first = bound (resolved_expression names accesses arg)
          (λ first. resolved_expression names first.1 to >>= λ second. towards_code place first.0 second.0 >>= λ call. Ok (call, second.1)) r e in
          let second = bound (resolved_expression names first.0.1 to) (λ second. towards_code place first.0.0 second.0 >>= λ call. Ok (call, second.1)) r first.2 in
          let call = bound (towards_code place first.0.0 second.0.0) (λ call. Ok (call, second.0.1)) r second.2 in
          subst (λ (r : TypedCode × Accesses). IsCodeOf (Towards place arg to) r.0) (ok_is (call.0, second.0.1) r call.2)
          (towards_agrees place arg to first.0.0 second.0.0 call.0 (expression_agrees arg accesses first.0 first.1) (expression_agrees to first.0.1 second.0 second.1) call.1)
      expression_agrees (Neg place arg) accesses r e =
          let operand = bound (resolved_expression names accesses arg) (λ operand. negated place operand.0 >>= λ value. Ok (value, operand.1)) r e in
          let value = bound (negated place operand.0.0) (λ value. Ok (value, operand.0.1)) r operand.2 in
          subst (λ (r : TypedCode × Accesses). IsCodeOf (Neg place arg) r.0) (ok_is (value.0, operand.0.1) r value.2)
          (neg_agrees place arg operand.0.0 value.0 (expression_agrees arg accesses operand.0 operand.1) value.1)
      expression_agrees (Not place arg) accesses r e =
          let operand = bound (resolved_expression names accesses arg) (λ operand. inverted place operand.0 >>= λ value. Ok (value, operand.1)) r e in
          let value = bound (inverted place operand.0.0) (λ value. Ok (value, operand.0.1)) r operand.2 in
          subst (λ (r : TypedCode × Accesses). IsCodeOf (Not place arg) r.0) (ok_is (value.0, operand.0.1) r value.2)
          (not_agrees place arg operand.0.0 value.0 (expression_agrees arg accesses operand.0 operand.1) value.1)
      expression_agrees (Chain level first no_links) accesses r e =
          let operand = bound (resolved_expression names accesses first) (λ operand. resolved_links names operand.1 (first_of_chain operand.0) no_links) r e in
          let whole : (whole_chain (first_of_chain operand.0.0), operand.0.1) ≡ r = ok_is (whole_chain (first_of_chain operand.0.0), operand.0.1) r operand.2 in
          subst (λ (r : TypedCode × Accesses). IsCodeOf (Chain level first no_links) r.0) whole
          (subst (IsCodeOf (Chain level first no_links)) (sym (whole_is operand.0.0))
          (agrees_at (element_value mesh elements first) (accesses_of mesh globals elements first) _ (expression_visits first) (expression_visits first) operand.0.0
          (sym (append-nil (accesses_of mesh globals elements first))) refl (expression_agrees first accesses operand.0 operand.1)))
      expression_agrees (Chain level first (link sign place arg rest)) accesses r e =
          let operand = bound (resolved_expression names accesses first) (λ operand. resolved_links names operand.1 (first_of_chain operand.0) (link sign place arg rest)) r e in
          let other = bound (resolved_expression names operand.0.1 arg)
          (λ other. extended_chain place sign (first_of_chain operand.0.0) other.0 >>= λ next. resolved_links names other.1 next rest) r operand.2 in
          let next = bound (extended_chain place sign (first_of_chain operand.0.0) other.0.0) (λ next. resolved_links names other.0.1 next rest) r other.2 in
          let h : IsCodeOf first operand.0.0 = expression_agrees first accesses operand.0 operand.1 in
          let g : IsCodeOf arg other.0.0 = expression_agrees arg operand.0.1 other.0 other.1 in
          chain_agrees level first sign place arg rest (first_of_chain operand.0.0) other.0.0 next.0 r.0
          (chain_starts (element_value mesh elements first) (accesses_of mesh globals elements first) (expression_visits first) operand.0.0 h) g next.1
          (λ a n h long. links_agree rest next.0 other.0.1 r a n h long next.2)
      expression_agrees (Compare place rel left right) accesses r e =
          let first = bound (resolved_expression names accesses left)
          (λ first. resolved_expression names first.1 right >>= λ second. comparison_code place rel first.0 second.0 >>= λ test. Ok (test, second.1)) r e in
          let second = bound (resolved_expression names first.0.1 right) (λ second. comparison_code place rel first.0.0 second.0 >>= λ test. Ok (test, second.1)) r first.2 in
          let test = bound (comparison_code place rel first.0.0 second.0.0) (λ test. Ok (test, second.0.1)) r second.2 in
          subst (λ (r : TypedCode × Accesses). IsCodeOf (Compare place rel left right) r.0) (ok_is (test.0, second.0.1) r test.2)
          (comparison_agrees place rel left right first.0.0 second.0.0 test.0 (expression_agrees left accesses first.0 first.1) (expression_agrees right first.0.1 second.0 second.1) test.1)

      links_agree : (links : Links) (done : ChainCode) (accesses : Accesses) (r : TypedCode × Accesses) (a : List Access) (n : ℕ) → ChainAgrees a n done → IsLong done
          → resolved_links names accesses done links ≡ Ok r → Agrees None (a ++ link_accesses mesh globals elements links) (1 + n + link_visits links) r.0
      links_agree no_links done accesses r a n h long e =
          subst (λ (r : TypedCode × Accesses). Agrees None (a ++ []) (1 + n + 0) r.0) (ok_is (whole_chain done, accesses) r e)
          (agrees_at None a (a ++ []) (1 + n) (1 + n + 0) (whole_chain done) (sym (append-nil a)) (omega arith) (chain_ends None a n done h long))
      links_agree (link sign place arg rest) done accesses r a n h long e =
          let other = bound (resolved_expression names accesses arg) (λ other. extended_chain place sign done other.0 >>= λ next. resolved_links names other.1 next rest) r e in
          let next = bound (extended_chain place sign done other.0.0) (λ next. resolved_links names other.0.1 next rest) r other.2 in
          let g : IsCodeOf arg other.0.0 = expression_agrees arg accesses other.0 other.1 in
          more_agree sign place arg rest done other.0.0 next.0 r.0 a n h g next.1 (λ a n h long. links_agree rest next.0 other.0.1 r a n h long next.2)
