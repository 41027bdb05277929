use Rattle.independence.proofs.AgreementLemmas.{agree_itself}
use Rattle.independence.proofs.SequenceLemmas.{trap_first}
use Rattle.independence.proofs.laws.first_trap_ends.Goals as goal

pub returns : goal.returns
returns c program k comprehension mesh turns s earlier later id trap can are done is =
    trap_first program k comprehension mesh s can turns earlier later id s trap (agree_itself comprehension s) are done is
