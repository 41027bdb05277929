-- The code of an expression of the main program gives its answer.
use Rattle.std.proofs.Common.{◌≡◌, ◌⊎◌, ℕ, zero, suc, Bool, true, false, List, [], ◌∷◌, ◌++◌, map, get_or, refl, sym, ap, subst, ◌∙◌, inl, inr, append_assoc, append-nil}
use Rattle.std.specs.Option.{option_map}
use Rattle.std.specs.Prelude.{Option, Some, None, slice_get, ℤ, pos, neg_ℤ, ◌+ℤ◌, ◌-ℤ◌, ◌*ℤ◌, int_div, int_rem, int_le, ◌&&◌, not, if◌then◌else◌, Result, Ok, Err}
use Rattle.liszt_base.specs.MeshLists.{MeshLists}
use Rattle.liszt_base.specs.declared.answers.Place.{Place}
use Rattle.liszt_base.specs.declared.answers.ProgramFault.{ProgramFault}
use Rattle.liszt_base.specs.declared.answers.TrapKind.{TrapKind}
use Rattle.liszt_base.specs.declared.answers.TrapKind.TheVariants.{Overflow, ZeroDivide}
use Rattle.liszt_base.specs.declared.elements.Kind.{Kind}
use Rattle.liszt_tree.specs.declared.tree.Fun.{Fun}
use Rattle.liszt_tree.specs.declared.tree.Rel.{Rel}
use Rattle.liszt_tree.specs.declared.tree.Sign.{Sign}
use Rattle.liszt_tree.specs.declared.tree.Sign.TheVariants as sign
use Rattle.liszt_tree.specs.Tree.{Expression, Number, Name, Field, Call, Towards, Neg, Not, Chain, Compare, Links, no_links, link}
use Rattle.resolved_code.specs.declared.expressions.Arithmetic.{Arithmetic}
use Rattle.resolved_code.specs.declared.expressions.Arithmetic.TheVariants as arithmetic
use Rattle.resolved_code.specs.declared.expressions.Connective.{Connective}
use Rattle.resolved_code.specs.declared.expressions.Connective.TheVariants as connective
use Rattle.resolved_code.specs.declared.expressions.NumberCode.{NumberCode}
use Rattle.resolved_code.specs.declared.expressions.NumberCode.TheVariants as number
use Rattle.resolved_code.specs.declared.expressions.NumberLink.{NumberLink}
use Rattle.resolved_code.specs.declared.expressions.TruthCode.{TruthCode}
use Rattle.resolved_code.specs.declared.expressions.TruthLink.{TruthLink}
use Rattle.phase_types.specs.declared.resolution.ChainCode.{ChainCode}
use Rattle.phase_types.specs.declared.resolution.ChainCode.TheVariants as chain
use Rattle.phase_types.specs.declared.resolution.Resolution.{Resolution}
use Rattle.phase_types.specs.declared.resolution.Resolution.TheVariants as resolution
use Rattle.phase_types.specs.declared.resolution.TypedCode.{TypedCode}
use Rattle.phase_types.specs.declared.resolution.TypedCode.TheVariants as typed
use Rattle.phase_types.specs.Checked.{main_number as resolved_main_number, main_truth as resolved_main_truth}
use Rattle.phase_types.specs.Environments.{Environment, ScalarName, binding_of}
use Rattle.phase_types.specs.Resolve.{Names, Accesses, resolution_of, with_access, resolved_name, named_field, element_of_kind, called_code, towards_code, comparison_code, negated, inverted, arithmetic_of, connective_of, number_link as numbers_link, truth_link as truths_link, first_of_chain, extended_chain, number_chain, truth_chain, whole_chain, resolved_expression, resolved_links, number_in as expected_number, truth_in as expected_truth, resolved_number, resolved_truth}
use Rattle.phase_types.specs.Walk.{OfScalar, place_of}
use Rattle.phase_types.proofs.ResolveLemmas.{binding_in, Agrees}
use Rattle.code_eval.specs.Arithmetic.{is_in_range, in_range, divided, arithmetic_result, holds}
use Rattle.code_eval.specs.Stops.{NoMeaning}
use Rattle.kernel_eval.specs.Meaning.{Value, NumberValue, TruthValue, number_of, truth_of, trap, checked_number, checked_division, operator_result, is_decided, negation, complement, comparison_result, global_read, scalar_read, meaning, links_meaning, number_in, truth_in}
use Rattle.kernel_eval.specs.Outcomes.{Outcome, pure, continue_with, and_then, if_then_else}
use Rattle.kernel_eval.specs.States.{State, EvaluationState, scalar_value, main_evaluation}
use Rattle.kernel_eval.specs.HeldFields.{HoldsScalars}
use Rattle.kernel_eval.proofs.ResolvingLemmas.{IfOk, ok_then, ok_weaken, in_sequence}
use Rattle.seq_meaning.specs.MainCode.{IsAnswerOf, IsNumberCode, IsTruthCode}
use Rattle.seq_meaning.specs.MainValues.{Answer, ◌>>=◌, number_or_trap, number_rest, main_number, number_operand, truth_step, truth_rest, main_truth, truth_operand}
use Rattle.seq_meaning.proofs.MainValueLemmas.{constant_is, scalar_is, neg_is, chain_is, not_is, truth_chain_is, compare_is}

-- names of the main program denote fields and scalars
abbrev pub IsOfMain : Option Resolution → Type 0
IsOfMain (Some (resolution.Number slot)) = ⊥
IsOfMain (Some (resolution.Element slot kind)) = ⊥
IsOfMain _ = Unit {0}

pub got : (xs : List ℤ) (i : ℕ) (x : ℤ) → slice_get xs i ≡ Some x → get_or xs i (pos 0) ≡ x
got [] i x e = absurd cc
got (y ∷ xs) zero x e = cc
got (y ∷ xs) (suc i) x e = got xs i x e

abbrev as_value : {A : Type 0} → (A → Value) → Answer A → Answer Value
as_value V answer = answer >>= λ a. Ok (V a)

pub any_ok : {A : Type 0} (r : Result A ProgramFault) → IfOk (λ a. Unit {0}) r
any_ok (Ok a) = tt
any_ok (Err fault) = tt

module _ (mesh : MeshLists) (environment : Environment) (names : Names) (agrees : Agrees names environment) (of_main : (name : List ℕ) → IsOfMain (resolution_of names name))
    (s : State) (scalars : List ℤ) (held : HoldsScalars s scalars) where
  abbrev m : EvaluationState
  m = main_evaluation s

  abbrev Result_of : {A : Type 0} → Answer A → Outcome EvaluationState A
  Result_of answer = record { after = m; answer = answer }

  -- a computation from the state of the main program: it has no meaning or this answer, and changes nothing
  record Gives {A : Type 0} (computation : EvaluationState → Outcome EvaluationState A) (answer : Answer A) : Type 0 where
    pub outcome : (computation m ≡ Result_of (Err NoMeaning)) ⊎ (computation m ≡ Result_of answer)

  at_once : {A : Type 0} {computation : EvaluationState → Outcome EvaluationState A} {answer : Answer A} → computation m ≡ Result_of answer → Gives computation answer
  at_once e = record { outcome = inr e }

  abbrev IsOutcome : {A : Type 0} → Outcome EvaluationState A → Answer A → Type 0
  IsOutcome outcome answer = (outcome ≡ Result_of (Err NoMeaning)) ⊎ (outcome ≡ Result_of answer)

  same_outcome : {A : Type 0} {first second : Outcome EvaluationState A} {answer : Answer A} → first ≡ second → IsOutcome second answer → IsOutcome first answer
  same_outcome e (inl is) = inl (e ∙ is)
  same_outcome e (inr is) = inr (e ∙ is)

  continued : {A B C : Type 0} (next : A → EvaluationState → Outcome EvaluationState B) (V : C → A) (f : C → Answer B) (answer : Answer C)
      → ((c : C) → Gives (next (V c)) (f c)) → IsOutcome (continue_with next m (answer >>= λ c. Ok (V c))) (answer >>= f)
  continued next V f (Ok c) h = (h c).outcome
  continued next V f (Err stop) h = inr refl

  gives_then : {A B C : Type 0} (first : EvaluationState → Outcome EvaluationState A) (next : A → EvaluationState → Outcome EvaluationState B) (V : C → A) (f : C → Answer B) (answer : Answer C)
      → Gives first (answer >>= λ c. Ok (V c)) → ((c : C) → Gives (next (V c)) (f c)) → Gives (and_then first next) (answer >>= f)
  gives_then first next V f answer g h = record { outcome = go g.outcome } where
    go : IsOutcome (first m) (answer >>= λ c. Ok (V c)) → IsOutcome (continue_with next (first m).after (first m).answer) (answer >>= f)
    go (inl e) = inl (ap (λ outcome. continue_with next outcome.after outcome.answer) e)
    go (inr e) = same_outcome (ap (λ outcome. continue_with next outcome.after outcome.answer) e) (continued next V f answer h)

  gives_as : {A : Type 0} {computation : EvaluationState → Outcome EvaluationState A} {answer other : Answer A} → answer ≡ other → Gives computation answer → Gives computation other
  gives_as {computation = computation} e g = subst (Gives computation) e g

  -- the answer in two steps
  regrouped : {A B C : Type 0} (answer : Answer A) (f : A → Answer B) (g : B → Answer C) → ((answer >>= f) >>= g) ≡ (answer >>= λ a. f a >>= g)
  regrouped (Ok a) f g = refl
  regrouped (Err stop) f g = refl

  -- VALUES
  abbrev GivesNumber : (EvaluationState → Outcome EvaluationState Value) → Answer ℤ → Type 0
  GivesNumber computation answer = Gives computation (as_value NumberValue answer)

  abbrev GivesTruth : (EvaluationState → Outcome EvaluationState Value) → Answer Bool → Type 0
  GivesTruth computation answer = Gives computation (as_value TruthValue answer)

  -- a value, and after it another value
  value_then : {A B : Type 0} (V : A → Value) (W : B → Value) (first : EvaluationState → Outcome EvaluationState Value) (next : Value → EvaluationState → Outcome EvaluationState Value)
      (answer : Answer A) (f : A → Answer B) → Gives first (as_value V answer) → ((a : A) → Gives (next (V a)) (as_value W (f a))) → Gives (and_then first next) (as_value W (answer >>= f))
  value_then V W first next answer f g h = gives_as (sym (regrouped answer f (λ b. Ok (W b)))) (gives_then first next V (λ a. as_value W (f a)) answer g h)

  checked : (place : Place) (n : ℤ) → GivesNumber (checked_number place n) (number_or_trap place (in_range n))
  checked place n = go (is_in_range n) where
    go : (b : Bool) → GivesNumber (if_then_else b (pure (NumberValue n)) (trap Overflow place)) (number_or_trap place (if b then Ok n else Err Overflow))
    go true = at_once refl
    go false = at_once refl

  division : (place : Place) (d : ℤ) (by : EvaluationState → Outcome EvaluationState Value) (r : Result ℤ TrapKind) → GivesNumber by (number_or_trap place r)
      → GivesNumber (checked_division place d by) (number_or_trap place (divided d r))
  division place d by r h = go (int_le d (pos 0) && int_le (pos 0) d) where
    go : (b : Bool) → GivesNumber (if_then_else b (trap ZeroDivide place) by) (number_or_trap place (if b then Err ZeroDivide else r))
    go true = at_once refl
    go false = record { outcome = h.outcome }

  abbrev some_op : {A : Type 0} → A → Option A
  some_op a = Some a

  is_some_op : {A : Type 0} (a b : A) → some_op a ≡ some_op b → a ≡ b
  is_some_op a b e = cc

  operated : (sign : Sign) (place : Place) (op : Arithmetic) (n k : ℤ) → arithmetic_of sign ≡ Some op
      → GivesNumber (operator_result sign place (NumberValue n) (NumberValue k)) (number_or_trap place (arithmetic_result op n k))
  operated sign.Plus place op n k e = subst (λ op. GivesNumber (operator_result sign.Plus place (NumberValue n) (NumberValue k)) (number_or_trap place (arithmetic_result op n k))) (is_some_op arithmetic.Plus op e) (checked place (n +ℤ k))
  operated sign.Minus place op n k e = subst (λ op. GivesNumber (operator_result sign.Minus place (NumberValue n) (NumberValue k)) (number_or_trap place (arithmetic_result op n k))) (is_some_op arithmetic.Minus op e) (checked place (n -ℤ k))
  operated sign.Times place op n k e = subst (λ op. GivesNumber (operator_result sign.Times place (NumberValue n) (NumberValue k)) (number_or_trap place (arithmetic_result op n k))) (is_some_op arithmetic.Times op e) (checked place (n *ℤ k))
  operated sign.Over place op n k e = subst (λ op. GivesNumber (operator_result sign.Over place (NumberValue n) (NumberValue k)) (number_or_trap place (arithmetic_result op n k))) (is_some_op arithmetic.Over op e)
      (division place k (checked_number place (int_div n k)) (in_range (int_div n k)) (checked place (int_div n k)))
  operated sign.Rest place op n k e = subst (λ op. GivesNumber (operator_result sign.Rest place (NumberValue n) (NumberValue k)) (number_or_trap place (arithmetic_result op n k))) (is_some_op arithmetic.Rest op e)
      (division place k (pure (NumberValue (int_rem n k))) (Ok (int_rem n k)) (at_once refl))
  operated sign.Or place op n k e = absurd cc
  operated sign.And place op n k e = absurd cc

  -- EXPRESSIONS AND THEIR CODE
  abbrev Answers : Expression → TypedCode → Type 0
  Answers e (typed.Number x) = GivesNumber (meaning mesh environment e) (main_number scalars x)
  Answers e (typed.Truth x) = GivesTruth (meaning mesh environment e) (main_truth scalars x)
  Answers e (typed.Element kind x) = ⊥

  -- a name
  read_gives : (scalar : ℕ) (value : Option ℤ) → scalar_value s scalar ≡ value → GivesNumber (scalar_read value) (main_number scalars (number.Scalar scalar))
  read_gives scalar (Some v) e = gives_as (ap (as_value NumberValue) (ap Ok (sym (got scalars scalar v (held.holds scalar v e))) ∙ sym (scalar_is scalars scalar))) (at_once refl)
  read_gives scalar None e = record { outcome = inl refl }

  name_answers : (place : Place) (name : List ℕ) (accesses : Accesses) (found : Option Resolution) → resolution_of names name ≡ found → IsOfMain found
      → IfOk (λ r. Answers (Name place name) r.0) (resolved_name place accesses found)
  name_answers place name accesses None e of = tt
  name_answers place name accesses (Some (resolution.Field field kind)) e of = tt
  name_answers place name accesses (Some (resolution.Number slot)) e of = absurd of
  name_answers place name accesses (Some (resolution.Element slot kind)) e of = absurd of
  name_answers place name accesses (Some (resolution.Scalar scalar)) e of =
      ok_then (λ later. Unit {0}) (λ r. Answers (Name place name) r.0) (with_access accesses (OfScalar scalar) _ place) _ (any_ok (with_access accesses (OfScalar scalar) _ place)) (λ later any. scalar_answers) where
        bound : binding_of environment name ≡ Some (ScalarName scalar)
        bound = sym (agrees.each name) ∙ ap (option_map binding_in) e

        scalar_answers : Answers (Name place name) (typed.Number (number.Scalar scalar))
        scalar_answers = record { outcome = same_outcome (ap (λ global. global_read global m) bound) (read_gives scalar (scalar_value s scalar) refl).outcome }

  -- operands that are elements do not occur
  no_field : (arg : Expression) (operand : TypedCode) (kind : Kind) (place : Place) {B : Type 0} (P : B → Type 0) (next : _ → Result B ProgramFault) → Answers arg operand
      → IfOk P (in_sequence (element_of_kind kind place operand) next)
  no_field arg (typed.Number x) kind place P next h = tt
  no_field arg (typed.Truth x) kind place P next h = tt
  no_field arg (typed.Element other x) kind place P next h = absurd h

  no_call : (arg : Expression) (operand : TypedCode) (place : Place) (fun : Fun) {B : Type 0} (P : B → Type 0) (next : TypedCode → Result B ProgramFault) → Answers arg operand
      → IfOk P (in_sequence (called_code place fun operand) next)
  no_call arg (typed.Number x) place fun P next h = tt
  no_call arg (typed.Truth x) place fun P next h = tt
  no_call arg (typed.Element other x) place fun P next h = absurd h

  no_towards : (arg : Expression) (operand to : TypedCode) (place : Place) {B : Type 0} (P : B → Type 0) (next : TypedCode → Result B ProgramFault) → Answers arg operand
      → IfOk P (in_sequence (towards_code place operand to) next)
  no_towards arg (typed.Number x) to place P next h = tt
  no_towards arg (typed.Truth x) to place P next h = tt
  no_towards arg (typed.Element other x) to place P next h = absurd h

  negated_answers : (place : Place) (arg : Expression) (operand : TypedCode) → Answers arg operand → IfOk (Answers (Neg place arg)) (negated place operand)
  negated_answers place arg (typed.Number x) h =
      gives_as (ap (as_value NumberValue) (sym (neg_is scalars place x)))
      (value_then NumberValue NumberValue (meaning mesh environment arg) (negation place) (main_number scalars x) (λ n. number_or_trap place (in_range (neg_ℤ n))) h (λ n. checked place (neg_ℤ n)))
  negated_answers place arg (typed.Truth x) h = tt
  negated_answers place arg (typed.Element kind x) h = tt

  inverted_answers : (place : Place) (arg : Expression) (operand : TypedCode) → Answers arg operand → IfOk (Answers (Not place arg)) (inverted place operand)
  inverted_answers place arg (typed.Truth x) h =
      gives_as (ap (as_value TruthValue) (sym (not_is scalars x)))
      (value_then TruthValue TruthValue (meaning mesh environment arg) complement (main_truth scalars x) (λ b. Ok (not b)) h (λ b. at_once refl))
  inverted_answers place arg (typed.Number x) h = tt
  inverted_answers place arg (typed.Element kind x) h = tt

  compared_answers : (place : Place) (rel : Rel) (left right : Expression) (x y : TypedCode) → Answers left x → Answers right y
      → IfOk (Answers (Compare place rel left right)) (comparison_code place rel x y)
  compared_answers place rel left right (typed.Number x) (typed.Number y) h g =
      gives_as (ap (as_value TruthValue) (sym (compare_is scalars rel x y)))
      (value_then NumberValue TruthValue (meaning mesh environment left) (λ v. and_then (meaning mesh environment right) (λ w. comparison_result rel v w)) (main_number scalars x) (λ a. main_number scalars y >>= λ b. Ok (holds rel a b)) h
      (λ a. value_then NumberValue TruthValue (meaning mesh environment right) (comparison_result rel (NumberValue a)) (main_number scalars y) (λ b. Ok (holds rel a b)) g (λ b. at_once refl)))
  compared_answers place rel left right (typed.Element kind x) y h g = absurd h
  compared_answers place rel left right x (typed.Element kind y) h g = absurd g
  compared_answers place rel left right (typed.Number x) (typed.Truth y) h g = tt
  compared_answers place rel left right (typed.Truth x) (typed.Number y) h g = tt
  compared_answers place rel left right (typed.Truth x) (typed.Truth y) h g = tt

  -- CHAINS: the further operands after the first ones
  record NumbersFollow (links : Links) (first : NumberCode) (done : List NumberLink) (value : TypedCode) : Type 0 where
    pub new : List NumberLink
    pub is : value ≡ typed.Number (number_chain first (done ++ new))
    pub follows : (n : ℤ) → GivesNumber (links_meaning mesh environment (NumberValue n) links) (number_rest n (map (number_operand scalars) new))

  record TruthsFollow (links : Links) (first : TruthCode) (done : List TruthLink) (value : TypedCode) : Type 0 where
    pub new : List TruthLink
    pub is : value ≡ typed.Truth (truth_chain first (done ++ new))
    pub follows : (b : Bool) → GivesTruth (links_meaning mesh environment (TruthValue b) links) (truth_rest b (map (truth_operand scalars) new))

  abbrev LinksFollow : Links → ChainCode → TypedCode → Type 0
  LinksFollow links (chain.Numbers first done) value = NumbersFollow links first done value
  LinksFollow links (chain.Truths first done) value = TruthsFollow links first done value
  LinksFollow links (chain.Element kind x) value = ⊥

  abbrev IsNoElementChain : ChainCode → Type 0
  IsNoElementChain (chain.Element kind x) = ⊥
  IsNoElementChain _ = Unit {0}

  no_links_follow : (done : ChainCode) → IsNoElementChain done → LinksFollow no_links done (whole_chain done)
  no_links_follow (chain.Numbers first done) h = record { new = []; is = ap (λ links. typed.Number (number_chain first links)) (sym (append-nil done)); follows = λ n. at_once refl }
  no_links_follow (chain.Truths first done) h = record { new = []; is = ap (λ links. typed.Truth (truth_chain first links)) (sym (append-nil done)); follows = λ b. at_once refl }
  no_links_follow (chain.Element kind x) h = absurd h

  abbrev step : Value → Sign → Place → Expression → EvaluationState → Outcome EvaluationState Value
  step v sign place arg = if_then_else (is_decided sign v) (pure v) (and_then (meaning mesh environment arg) (λ w. operator_result sign place v w))

  never_decided : (sign : Sign) (n : ℤ) → is_decided sign (NumberValue n) ≡ false
  never_decided sign.Or n = refl
  never_decided sign.And n = refl
  never_decided sign.Plus n = refl
  never_decided sign.Minus n = refl
  never_decided sign.Times n = refl
  never_decided sign.Over n = refl
  never_decided sign.Rest n = refl

  number_step_gives : (sign : Sign) (place : Place) (arg : Expression) (x : NumberCode) (op : Arithmetic) → arithmetic_of sign ≡ Some op → Answers arg (typed.Number x) → (n : ℤ)
      → GivesNumber (step (NumberValue n) sign place arg) (main_number scalars x >>= λ k. number_or_trap place (arithmetic_result op n k))
  number_step_gives sign place arg x op e h n =
      rw (never_decided sign n)
      (value_then NumberValue NumberValue (meaning mesh environment arg) (operator_result sign place (NumberValue n)) (main_number scalars x) (λ k. number_or_trap place (arithmetic_result op n k)) h
      (λ k. operated sign place op n k e))

  truth_step_gives : (sign : Sign) (place : Place) (arg : Expression) (x : TruthCode) (op : Connective) → connective_of sign ≡ Some op → Answers arg (typed.Truth x) → (b : Bool)
      → GivesTruth (step (TruthValue b) sign place arg) (truth_step b (op, main_truth scalars x))
  truth_step_gives sign.Or place arg x op e h b = subst (λ op. GivesTruth (step (TruthValue b) sign.Or place arg) (truth_step b (op, main_truth scalars x))) (is_some_op connective.Or op e) (go b) where
    go : (b : Bool) → GivesTruth (step (TruthValue b) sign.Or place arg) (truth_step b (connective.Or, main_truth scalars x))
    go true = at_once refl
    go false = gives_as (regrouped (main_truth scalars x) (λ d. Ok d) (λ d. Ok (TruthValue d)))
        (value_then TruthValue TruthValue (meaning mesh environment arg) (operator_result sign.Or place (TruthValue false)) (main_truth scalars x) (λ d. Ok d) h (λ d. at_once refl))
  truth_step_gives sign.And place arg x op e h b = subst (λ op. GivesTruth (step (TruthValue b) sign.And place arg) (truth_step b (op, main_truth scalars x))) (is_some_op connective.And op e) (go b) where
    go : (b : Bool) → GivesTruth (step (TruthValue b) sign.And place arg) (truth_step b (connective.And, main_truth scalars x))
    go false = at_once refl
    go true = gives_as (regrouped (main_truth scalars x) (λ d. Ok d) (λ d. Ok (TruthValue d)))
        (value_then TruthValue TruthValue (meaning mesh environment arg) (operator_result sign.And place (TruthValue true)) (main_truth scalars x) (λ d. Ok d) h (λ d. at_once refl))
  truth_step_gives sign.Plus place arg x op e h b = absurd cc
  truth_step_gives sign.Minus place arg x op e h b = absurd cc
  truth_step_gives sign.Times place arg x op e h b = absurd cc
  truth_step_gives sign.Over place arg x op e h b = absurd cc
  truth_step_gives sign.Rest place arg x op e h b = absurd cc

  number_link_follows : (sign : Sign) (place : Place) (arg : Expression) (rest : Links) (first : NumberCode) (done : List NumberLink) (x : NumberCode) (op : Arithmetic) (value : TypedCode)
      → arithmetic_of sign ≡ Some op → Answers arg (typed.Number x) → NumbersFollow rest first (done ++ record { op = op; place = place; arg = x } ∷ []) value
      → NumbersFollow (link sign place arg rest) first done value
  number_link_follows sign place arg rest first done x op value e h g = record {
    new = record { op = op; place = place; arg = x } ∷ g.new;
    is = g.is ∙ ap (λ links. typed.Number (number_chain first links)) (append_assoc done (record { op = op; place = place; arg = x } ∷ []) g.new);
    follows = λ n. value_then NumberValue NumberValue (step (NumberValue n) sign place arg) (λ u. links_meaning mesh environment u rest)
        (main_number scalars x >>= λ k. number_or_trap place (arithmetic_result op n k)) (λ u. number_rest u (map (number_operand scalars) g.new)) (number_step_gives sign place arg x op e h n) g.follows;
  }

  truth_link_follows : (sign : Sign) (place : Place) (arg : Expression) (rest : Links) (first : TruthCode) (done : List TruthLink) (x : TruthCode) (op : Connective) (value : TypedCode)
      → connective_of sign ≡ Some op → Answers arg (typed.Truth x) → TruthsFollow rest first (done ++ record { op = op; arg = x } ∷ []) value
      → TruthsFollow (link sign place arg rest) first done value
  truth_link_follows sign place arg rest first done x op value e h g = record {
    new = record { op = op; arg = x } ∷ g.new;
    is = g.is ∙ ap (λ links. typed.Truth (truth_chain first links)) (append_assoc done (record { op = op; arg = x } ∷ []) g.new);
    follows = λ b. value_then TruthValue TruthValue (step (TruthValue b) sign place arg) (λ u. links_meaning mesh environment u rest)
        (truth_step b (op, main_truth scalars x)) (λ u. truth_rest u (map (truth_operand scalars) g.new)) (truth_step_gives sign place arg x op e h b) g.follows;
  }

  -- the chain with an operand more
  abbrev Extends : Sign → Place → Expression → ChainCode → ChainCode → Type 0
  Extends sign place arg done next = IsNoElementChain next × ((rest : Links) (value : TypedCode) → LinksFollow rest next value → LinksFollow (link sign place arg rest) done value)

  extended : (sign : Sign) (place : Place) (arg : Expression) (done : ChainCode) (operand : TypedCode) → IsNoElementChain done → Answers arg operand
      → IfOk (Extends sign place arg done) (extended_chain place sign done operand)
  extended sign place arg (chain.Numbers first done) (typed.Number x) of h = go (arithmetic_of sign) refl where
    go : (op : Option Arithmetic) → arithmetic_of sign ≡ op
        → IfOk (Extends sign place arg (chain.Numbers first done)) (in_sequence (numbers_link place op x) (λ next. Ok (chain.Numbers first (done ++ next ∷ []))))
    go (Some op) e = (tt, λ rest value g. number_link_follows sign place arg rest first done x op value e h g)
    go None e = tt
  extended sign place arg (chain.Truths first done) (typed.Truth x) of h = go (connective_of sign) refl where
    go : (op : Option Connective) → connective_of sign ≡ op
        → IfOk (Extends sign place arg (chain.Truths first done)) (in_sequence (truths_link place op x) (λ next. Ok (chain.Truths first (done ++ next ∷ []))))
    go (Some op) e = (tt, λ rest value g. truth_link_follows sign place arg rest first done x op value e h g)
    go None e = tt
  extended sign place arg (chain.Element kind x) operand of h = absurd of
  extended sign place arg (chain.Numbers first done) (typed.Truth x) of h = tt
  extended sign place arg (chain.Numbers first done) (typed.Element kind x) of h = tt
  extended sign place arg (chain.Truths first done) (typed.Number x) of h = tt
  extended sign place arg (chain.Truths first done) (typed.Element kind x) of h = tt

  -- a whole chain
  first_is_no_element : (e : Expression) (operand : TypedCode) → Answers e operand → IsNoElementChain (first_of_chain operand)
  first_is_no_element e (typed.Number x) h = tt
  first_is_no_element e (typed.Truth x) h = tt
  first_is_no_element e (typed.Element kind x) h = h

  chained : (level : _) (first : Expression) (links : Links) (operand value : TypedCode) → Answers first operand → LinksFollow links (first_of_chain operand) value
      → Answers (Chain level first links) value
  chained level first links (typed.Number x) value h g = subst (Answers (Chain level first links)) (sym g.is) (go g.new g.follows) where
    go : (new : List NumberLink) → ((n : ℤ) → GivesNumber (links_meaning mesh environment (NumberValue n) links) (number_rest n (map (number_operand scalars) new)))
        → GivesNumber (meaning mesh environment (Chain level first links)) (main_number scalars (number_chain x new))
    go [] f = gives_as (regrouped (main_number scalars x) (λ n. Ok n) (λ n. Ok (NumberValue n)))
        (value_then NumberValue NumberValue (meaning mesh environment first) (λ v. links_meaning mesh environment v links) (main_number scalars x) (λ n. Ok n) h f)
    go (l ∷ new) f = gives_as (ap (as_value NumberValue) (sym (chain_is scalars x (l ∷ new))))
        (value_then NumberValue NumberValue (meaning mesh environment first) (λ v. links_meaning mesh environment v links) (main_number scalars x) (λ n. number_rest n (map (number_operand scalars) (l ∷ new))) h f)
  chained level first links (typed.Truth x) value h g = subst (Answers (Chain level first links)) (sym g.is) (go g.new g.follows) where
    go : (new : List TruthLink) → ((b : Bool) → GivesTruth (links_meaning mesh environment (TruthValue b) links) (truth_rest b (map (truth_operand scalars) new)))
        → GivesTruth (meaning mesh environment (Chain level first links)) (main_truth scalars (truth_chain x new))
    go [] f = gives_as (regrouped (main_truth scalars x) (λ b. Ok b) (λ b. Ok (TruthValue b)))
        (value_then TruthValue TruthValue (meaning mesh environment first) (λ v. links_meaning mesh environment v links) (main_truth scalars x) (λ b. Ok b) h f)
    go (l ∷ new) f = gives_as (ap (as_value TruthValue) (sym (truth_chain_is scalars x (l ∷ new))))
        (value_then TruthValue TruthValue (meaning mesh environment first) (λ v. links_meaning mesh environment v links) (main_truth scalars x) (λ b. truth_rest b (map (truth_operand scalars) (l ∷ new))) h f)
  chained level first links (typed.Element kind x) value h g = absurd h

  -- a part of code with the accesses after it
  last : (e : Expression) (mid : Accesses) (r : Result TypedCode ProgramFault) → IfOk (Answers e) r → IfOk {A = TypedCode × Accesses} (λ v. Answers e v.0) (in_sequence r (λ value. Ok (value, mid)))
  last e mid (Ok value) h = h
  last e mid (Err fault) h = tt

  abbrev HasAnswer : Expression → TypedCode × Accesses → Type 0
  HasAnswer e r = Answers e r.0

  mutual
    expression_answers : (accesses : Accesses) (e : Expression) → IfOk (HasAnswer e) (resolved_expression names accesses e)
    expression_answers accesses (Number place value) = gives_as (ap (as_value NumberValue) (sym (constant_is scalars value))) (at_once refl)
    expression_answers accesses (Name place name) = name_answers place name accesses (resolution_of names name) refl (of_main name)
    expression_answers accesses (Field place name arg) =
        ok_then (λ field. Unit {0}) (HasAnswer (Field place name arg)) (named_field place (resolution_of names name)) _ (any_ok (named_field place (resolution_of names name))) (λ field any.
        ok_then (HasAnswer arg) (HasAnswer (Field place name arg)) (resolved_expression names accesses arg) _ (expression_answers accesses arg) (λ operand h.
        no_field arg operand.0 field.1 place (HasAnswer (Field place name arg)) _ h))
    expression_answers accesses (Call place fun arg) =
        ok_then (HasAnswer arg) (HasAnswer (Call place fun arg)) (resolved_expression names accesses arg) _ (expression_answers accesses arg) (λ operand h.
        no_call arg operand.0 place fun (HasAnswer (Call place fun arg)) _ h)
    expression_answers accesses (Towards place arg to) =
        ok_then (HasAnswer arg) (HasAnswer (Towards place arg to)) (resolved_expression names accesses arg) _ (expression_answers accesses arg) (λ x h.
        ok_then (HasAnswer to) (HasAnswer (Towards place arg to)) (resolved_expression names x.1 to) _ (expression_answers x.1 to) (λ y g.
        no_towards arg x.0 y.0 place (HasAnswer (Towards place arg to)) _ h))
    expression_answers accesses (Neg place arg) =
        ok_then (HasAnswer arg) (HasAnswer (Neg place arg)) (resolved_expression names accesses arg) _ (expression_answers accesses arg) (λ operand h.
        last (Neg place arg) operand.1 (negated place operand.0) (negated_answers place arg operand.0 h))
    expression_answers accesses (Not place arg) =
        ok_then (HasAnswer arg) (HasAnswer (Not place arg)) (resolved_expression names accesses arg) _ (expression_answers accesses arg) (λ operand h.
        last (Not place arg) operand.1 (inverted place operand.0) (inverted_answers place arg operand.0 h))
    expression_answers accesses (Chain level first links) =
        ok_then (HasAnswer first) (HasAnswer (Chain level first links)) (resolved_expression names accesses first) _ (expression_answers accesses first) (λ operand h.
        ok_weaken (λ r. LinksFollow links (first_of_chain operand.0) r.0) (HasAnswer (Chain level first links)) (resolved_links names operand.1 (first_of_chain operand.0) links)
        (links_answer operand.1 (first_of_chain operand.0) (first_is_no_element first operand.0 h) links) (λ value g. chained level first links operand.0 value.0 h g))
    expression_answers accesses (Compare place rel left right) =
        ok_then (HasAnswer left) (HasAnswer (Compare place rel left right)) (resolved_expression names accesses left) _ (expression_answers accesses left) (λ x h.
        ok_then (HasAnswer right) (HasAnswer (Compare place rel left right)) (resolved_expression names x.1 right) _ (expression_answers x.1 right) (λ y g.
        last (Compare place rel left right) y.1 (comparison_code place rel x.0 y.0) (compared_answers place rel left right x.0 y.0 h g)))

    links_answer : (accesses : Accesses) (done : ChainCode) → IsNoElementChain done → (links : Links) → IfOk (λ r. LinksFollow links done r.0) (resolved_links names accesses done links)
    links_answer accesses done of no_links = no_links_follow done of
    links_answer accesses done of (link sign place arg rest) =
        ok_then (HasAnswer arg) (λ r. LinksFollow (link sign place arg rest) done r.0) (resolved_expression names accesses arg) _ (expression_answers accesses arg) (λ operand h.
        ok_then (Extends sign place arg done) (λ r. LinksFollow (link sign place arg rest) done r.0) (extended_chain place sign done operand.0) _ (extended sign place arg done operand.0 of h) (λ next f.
        ok_weaken (λ r. LinksFollow rest next r.0) (λ r. LinksFollow (link sign place arg rest) done r.0) (resolved_links names operand.1 next rest) (links_answer operand.1 next f.0 rest)
        (λ value g. f.1 rest value.0 g)))

  -- NUMBERS AND TRUTH VALUES of the main program
  as_number : (answer : Answer ℤ) → (e : Expression) → IsOutcome (meaning mesh environment e m) (as_value NumberValue answer) → IsAnswerOf (number_in mesh environment e m).answer answer
  as_number answer e (inl is) = inl (ap (λ outcome. (continue_with number_of outcome.after outcome.answer).answer) is)
  as_number (Ok n) e (inr is) = inr (ap (λ outcome. (continue_with number_of outcome.after outcome.answer).answer) is)
  as_number (Err stop) e (inr is) = inr (ap (λ outcome. (continue_with number_of outcome.after outcome.answer).answer) is)

  as_truth : (answer : Answer Bool) → (e : Expression) → IsOutcome (meaning mesh environment e m) (as_value TruthValue answer) → IsAnswerOf (truth_in mesh environment e m).answer answer
  as_truth answer e (inl is) = inl (ap (λ outcome. (continue_with truth_of outcome.after outcome.answer).answer) is)
  as_truth (Ok b) e (inr is) = inr (ap (λ outcome. (continue_with truth_of outcome.after outcome.answer).answer) is)
  as_truth (Err stop) e (inr is) = inr (ap (λ outcome. (continue_with truth_of outcome.after outcome.answer).answer) is)

module _ (environment : Environment) (names : Names) (agrees : Agrees names environment) (of_main : (name : List ℕ) → IsOfMain (resolution_of names name)) where
  abbrev AlwaysAnswers : Expression → TypedCode → Type 0
  AlwaysAnswers e operand = (mesh : MeshLists) (s : State) (scalars : List ℤ) (held : HoldsScalars s scalars) → Answers mesh environment names agrees of_main s scalars held e operand

  always : (e : Expression) (r : Result (TypedCode × Accesses) ProgramFault) → r ≡ resolved_expression names None e → IfOk (λ operand. AlwaysAnswers e operand.0) r
  always e (Ok operand) is = λ mesh s scalars held.
      subst (IfOk (HasAnswer mesh environment names agrees of_main s scalars held e)) (sym is) (expression_answers mesh environment names agrees of_main s scalars held None e)
  always e (Err fault) is = tt

  number_answers : (e : Expression) (operand : TypedCode × Accesses) (place : Place) → AlwaysAnswers e operand.0
      → IfOk {A = NumberCode × Accesses} (λ r. IsNumberCode environment e r.0) (in_sequence (expected_number place operand.0) (λ value. Ok (value, operand.1)))
  number_answers e (typed.Number x, later) place h = record { answer = λ mesh s scalars held. as_number mesh environment names agrees of_main s scalars held (main_number scalars x) e (h mesh s scalars held).outcome }
  number_answers e (typed.Truth x, later) place h = tt
  number_answers e (typed.Element kind x, later) place h = tt

  truth_answers : (e : Expression) (operand : TypedCode × Accesses) (place : Place) → AlwaysAnswers e operand.0
      → IfOk {A = TruthCode × Accesses} (λ r. IsTruthCode environment e r.0) (in_sequence (expected_truth place operand.0) (λ value. Ok (value, operand.1)))
  truth_answers e (typed.Truth x, later) place h = record { answer = λ mesh s scalars held. as_truth mesh environment names agrees of_main s scalars held (main_truth scalars x) e (h mesh s scalars held).outcome }
  truth_answers e (typed.Number x, later) place h = tt
  truth_answers e (typed.Element kind x, later) place h = tt

  pub number_code : (e : Expression) → IfOk (IsNumberCode environment e) (resolved_main_number names e)
  number_code e =
      ok_then (λ r. IsNumberCode environment e r.0) (IsNumberCode environment e) (resolved_number names None e) _
      (ok_then (λ operand. AlwaysAnswers e operand.0) (λ r. IsNumberCode environment e r.0) (resolved_expression names None e) _ (always e (resolved_expression names None e) refl)
      (λ operand h. number_answers e operand (place_of e) h)) (λ r h. h)

  pub truth_code : (e : Expression) → IfOk (IsTruthCode environment e) (resolved_main_truth names e)
  truth_code e =
      ok_then (λ r. IsTruthCode environment e r.0) (IsTruthCode environment e) (resolved_truth names None e) _
      (ok_then (λ operand. AlwaysAnswers e operand.0) (λ r. IsTruthCode environment e r.0) (resolved_expression names None e) _ (always e (resolved_expression names None e) refl)
      (λ operand h. truth_answers e operand (place_of e) h)) (λ r h. h)
