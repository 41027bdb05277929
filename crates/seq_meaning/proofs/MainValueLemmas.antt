-- The value of each form of code of the main program, by its parts.
use Rattle.std.proofs.Common.{◌≡◌, ℕ, List, map, get_or, rules}
use Rattle.std.specs.Prelude.{ℤ, pos, neg_ℤ, not, Ok}
use Rattle.liszt_base.specs.declared.answers.Place.{Place}
use Rattle.liszt_tree.specs.declared.tree.Rel.{Rel}
use Rattle.resolved_code.specs.declared.expressions.NumberCode.{NumberCode, the_lemmas as number_lemmas}
use Rattle.resolved_code.specs.declared.expressions.NumberCode.TheVariants as number
use Rattle.resolved_code.specs.declared.expressions.NumberLink.{NumberLink}
use Rattle.resolved_code.specs.declared.expressions.TruthCode.{TruthCode, fold-TruthCode, the_lemmas as truth_lemmas}
use Rattle.resolved_code.specs.declared.expressions.TruthCode.TheOpen.{TruthCode-F, TruthLink-F}
use Rattle.resolved_code.specs.declared.expressions.TruthCode.TheVariants as truth
use Rattle.resolved_code.specs.declared.expressions.TruthLink.{TruthLink}
use Rattle.code_eval.specs.Arithmetic.{in_range, holds}
use Rattle.seq_meaning.specs.MainValues.{◌>>=◌, number_or_trap, number_rest, main_number, number_operand, truth_rest, truth_layer, truth_link, main_truth, truth_operand}

pub constant_is : (scalars : List ℤ) (value : ℤ) → main_number scalars (number.Constant value) ≡ Ok value
constant_is scalars value = search (rules, number_lemmas)

pub scalar_is : (scalars : List ℤ) (scalar : ℕ) → main_number scalars (number.Scalar scalar) ≡ Ok (get_or scalars scalar (pos 0))
scalar_is scalars scalar = search (rules, number_lemmas)

pub neg_is : (scalars : List ℤ) (place : Place) (arg : NumberCode)
    → main_number scalars (number.Neg place arg) ≡ (main_number scalars arg >>= λ n. number_or_trap place (in_range (neg_ℤ n)))
neg_is scalars place arg = search (rules, number_lemmas)

pub chain_is : (scalars : List ℤ) (first : NumberCode) (rest : List NumberLink)
    → main_number scalars (number.Chain first rest) ≡ (main_number scalars first >>= λ n. number_rest n (map (number_operand scalars) rest))
chain_is scalars first rest = search (rules, number_lemmas)

pub not_is : (scalars : List ℤ) (arg : TruthCode) → main_truth scalars (truth.Not arg) ≡ (main_truth scalars arg >>= λ b. Ok (not b))
not_is scalars arg = search (rules, truth_lemmas)

-- of a chain, for every fold
truth_chain_folded : {A B : Type 0} (layer : TruthCode-F A B → A) (one : TruthLink-F A B → B) (first : TruthCode) (rest : List TruthLink)
    → fold-TruthCode A B layer one (truth.Chain first rest)
    ≡ layer (TruthCode-F.Chain (fold-TruthCode A B layer one first) (map (λ l. one (record { op = l.op; arg = fold-TruthCode A B layer one l.arg })) rest))
truth_chain_folded layer one first rest = search (rules, truth_lemmas)

pub truth_chain_is : (scalars : List ℤ) (first : TruthCode) (rest : List TruthLink)
    → main_truth scalars (truth.Chain first rest) ≡ (main_truth scalars first >>= λ b. truth_rest b (map (truth_operand scalars) rest))
truth_chain_is scalars first rest = truth_chain_folded (truth_layer scalars) truth_link first rest

pub compare_is : (scalars : List ℤ) (rel : Rel) (left right : NumberCode)
    → main_truth scalars (truth.CompareNumbers rel left right) ≡ (main_number scalars left >>= λ a. main_number scalars right >>= λ b. Ok (holds rel a b))
compare_is scalars rel left right = search (rules, truth_lemmas)
