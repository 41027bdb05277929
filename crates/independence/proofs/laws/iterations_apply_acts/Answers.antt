use Rattle.std.proofs.Common.{[], sym, ◌∙◌}
use Rattle.liszt_base.specs.Reductions.{identity_of}
use Rattle.liszt_base.proofs.Operators.{commutes}
use Rattle.kernel_eval.proofs.ReductionLemmas.{from_identity}
use Rattle.independence.proofs.AgreementLemmas.{agree_itself}
use Rattle.independence.proofs.SequenceLemmas.{all_done, scalars_done, values_done}
use Rattle.independence.proofs.laws.iterations_apply_acts.Goals as goal

pub returns-clause-done : goal.returns-clause-done
returns-clause-done c program k comprehension mesh turns s ids can are done = all_done program k comprehension mesh s can turns ids s (agree_itself comprehension s) are done

pub returns-clause-values : goal.returns-clause-values
returns-clause-values c program k comprehension mesh turns s ids can are done spot =
    values_done program k comprehension mesh s can turns ids s (agree_itself comprehension s) are done spot

pub returns-clause-scalars : goal.returns-clause-scalars
returns-clause-scalars c program k comprehension mesh turns s ids scalar op old can are done mode is =
    scalars_done program k comprehension mesh s can turns ids s scalar op old (agree_itself comprehension s) are done mode is (commutes op (identity_of op) old ∙ sym (from_identity op old [] (can.in_range scalar old is)))
