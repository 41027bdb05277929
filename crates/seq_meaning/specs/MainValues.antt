-- What the code of the expressions of a main program gives, by the scalars alone. This project's own.
use Rattle.std.specs.Prelude.{not, Bool, true, false, None, List, [], ◌∷◌, get_or, ℤ, pos, neg_ℤ, Result, Ok, Err}
use Rattle.liszt_base.specs.declared.answers.Place.{Place}
use Rattle.liszt_base.specs.declared.answers.Trap.{Trap}
use Rattle.liszt_base.specs.declared.answers.TrapKind.{TrapKind}
use Rattle.resolved_code.specs.declared.expressions.Arithmetic.{Arithmetic}
use Rattle.resolved_code.specs.declared.expressions.Connective.{Connective}
use Rattle.resolved_code.specs.declared.expressions.NumberCode.{NumberCode, fold-NumberCode}
use Rattle.resolved_code.specs.declared.expressions.NumberCode.TheOpen.{NumberCode-F, NumberLink-F}
use Rattle.resolved_code.specs.declared.expressions.NumberLink.{NumberLink}
use Rattle.resolved_code.specs.declared.expressions.TruthCode.{TruthCode, fold-TruthCode}
use Rattle.resolved_code.specs.declared.expressions.TruthCode.TheOpen.{TruthCode-F, TruthLink-F}
use Rattle.resolved_code.specs.declared.expressions.TruthLink.{TruthLink}
use Rattle.code_eval.specs.Arithmetic.{in_range, arithmetic_result, holds}
use Rattle.code_eval.specs.Meaning.{is_decided}
use Rattle.code_eval.specs.Stops.{Stop, Trapped, NoMeaning}

-- AN ANSWER is a value or a stop.
abbrev pub Answer : Type 0 → Type 0
Answer A = Result A Stop

infixl 10 ◌>>=◌
abbrev pub ◌>>=◌ : {A B : Type 0} → Answer A → (A → Answer B) → Answer B
Ok value >>= next = next value
Err stop >>= next = Err stop

-- a trap of the main program is at no element
abbrev pub main_trap : TrapKind → Place → Trap
main_trap kind place = record { kind = kind; place = place; elem = None }

abbrev pub number_or_trap : Place → Result ℤ TrapKind → Answer ℤ
number_or_trap place (Ok n) = Ok n
number_or_trap place (Err kind) = Err (Trapped (main_trap kind place))

-- NUMBERS. A main program has no local number, and no element to read a field at.
abbrev pub NumberOperand : Type 0
NumberOperand = Arithmetic × Place × Answer ℤ

abbrev pub number_step : ℤ → NumberOperand → Answer ℤ
number_step n operand = operand.2 >>= λ k. number_or_trap operand.1 (arithmetic_result operand.0 n k)

abbrev pub number_rest : ℤ → List NumberOperand → Answer ℤ
number_rest n [] = Ok n
number_rest n (operand ∷ rest) = number_step n operand >>= λ u. number_rest u rest

abbrev pub number_layer : List ℤ → NumberCode-F (Answer ℤ) NumberOperand → Answer ℤ
number_layer scalars (NumberCode-F.Constant value) = Ok value
number_layer scalars (NumberCode-F.Scalar scalar) = Ok (get_or scalars scalar (pos 0))
number_layer scalars (NumberCode-F.Neg place arg) = arg >>= λ n. number_or_trap place (in_range (neg_ℤ n))
number_layer scalars (NumberCode-F.Chain first rest) = first >>= λ n. number_rest n rest
number_layer scalars _ = Err NoMeaning

abbrev pub number_link : NumberLink-F (Answer ℤ) NumberOperand → NumberOperand
number_link l = (l.op, l.place, l.arg)

abbrev pub main_number : List ℤ → NumberCode → Answer ℤ
main_number scalars e = fold-NumberCode (Answer ℤ) NumberOperand (number_layer scalars) number_link e

abbrev pub number_operand : List ℤ → NumberLink → NumberOperand
number_operand scalars l = (l.op, l.place, main_number scalars l.arg)

-- TRUTH VALUES. `||` skips its further operands once the value is true, and `&&` once it is false.
abbrev pub TruthOperand : Type 0
TruthOperand = Connective × Answer Bool

abbrev pub unless_decided : Bool → Bool → Answer Bool → Answer Bool
unless_decided true b next = Ok b
unless_decided false b next = next

abbrev pub truth_step : Bool → TruthOperand → Answer Bool
truth_step b operand = unless_decided (is_decided operand.0 b) b operand.1

abbrev pub truth_rest : Bool → List TruthOperand → Answer Bool
truth_rest b [] = Ok b
truth_rest b (operand ∷ rest) = truth_step b operand >>= λ u. truth_rest u rest

abbrev pub truth_layer : List ℤ → TruthCode-F (Answer Bool) TruthOperand → Answer Bool
truth_layer scalars (TruthCode-F.Not arg) = arg >>= λ b. Ok (not b)
truth_layer scalars (TruthCode-F.Chain first rest) = first >>= λ b. truth_rest b rest
truth_layer scalars (TruthCode-F.CompareNumbers rel left right) =
    main_number scalars left >>= λ a. main_number scalars right >>= λ b. Ok (holds rel a b)
truth_layer scalars _ = Err NoMeaning

abbrev pub truth_link : TruthLink-F (Answer Bool) TruthOperand → TruthOperand
truth_link l = (l.op, l.arg)

abbrev pub main_truth : List ℤ → TruthCode → Answer Bool
main_truth scalars e = fold-TruthCode (Answer Bool) TruthOperand (truth_layer scalars) truth_link e

abbrev pub truth_operand : List ℤ → TruthLink → TruthOperand
truth_operand scalars l = (l.op, main_truth scalars l.arg)

-- the answer of code
abbrev pub answer_of : {A : Type 0} → Result A Trap → Answer A
answer_of (Ok value) = Ok value
answer_of (Err trap) = Err (Trapped trap)
