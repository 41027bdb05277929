use Rattle.std.proofs.Common.{List, Some, [], ap, sym, ◌∙◌, ℕ}
use Rattle.std.specs.List.{Contains}
use Rattle.std.proofs.lemmas.List.Sorted.{Contains-permutation, IsPermutation-sym}
use Rattle.liszt_base.specs.Reductions.{identity_of}
use Rattle.liszt_base.proofs.Operators.{commutes}
use Rattle.kernel_eval.specs.States.{value_in}
use Rattle.kernel_eval.proofs.ReductionLemmas.{from_identity}
use Rattle.independence.proofs.AgreementLemmas.{agree_itself}
use Rattle.independence.proofs.IterationLemmas.{typed}
use Rattle.independence.proofs.OrderLemmas.{partials_permuted, values_permuted}
use Rattle.independence.proofs.SequenceLemmas.{scalars_done, values_done}
use Rattle.independence.proofs.laws.order_is_ignored.Goals as goal

pub returns-clause-values : goal.returns-clause-values
returns-clause-values c program k comprehension mesh turns s ids others can are done none same spot =
    let back = λ (id : ℕ) (h : Contains others id). Contains-permutation others ids id (IsPermutation-sym ids others same) h in
    let those = λ (id : ℕ) (h : Contains others id). are id (back id h) in
    values_done program k comprehension mesh s can turns others s (agree_itself comprehension s) those (λ (id : ℕ) (h : Contains others id). done id (back id h)) spot
    ∙ values_permuted mesh comprehension turns s (typed program k comprehension mesh s can) none spot ids others (value_in s.fields spot) are those same
    ∙ sym (values_done program k comprehension mesh s can turns ids s (agree_itself comprehension s) are done spot)

pub returns-clause-scalars : goal.returns-clause-scalars
returns-clause-scalars c program k comprehension mesh turns s ids others scalar op old can are done mode is same =
    let back = λ (id : ℕ) (h : Contains others id). Contains-permutation others ids id (IsPermutation-sym ids others same) h in
    let those = λ (id : ℕ) (h : Contains others id). are id (back id h) in
    let neutral = commutes op (identity_of op) old ∙ sym (from_identity op old [] (can.in_range scalar old is)) in
    scalars_done program k comprehension mesh s can turns others s scalar op old (agree_itself comprehension s) those (λ (id : ℕ) (h : Contains others id). done id (back id h)) mode is neutral
    ∙ ap Some (partials_permuted mesh comprehension turns s scalar op ids others old same)
    ∙ sym (scalars_done program k comprehension mesh s can turns ids s scalar op old (agree_itself comprehension s) are done mode is neutral)
