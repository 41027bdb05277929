use Rattle.independence.proofs.IterationLemmas.{does_the_same}
use Rattle.independence.proofs.laws.iterations_depend_on_reads_alone.Goals as goal

pub returns : goal.returns
returns c program k comprehension mesh turns s t id can agree below = does_the_same program k comprehension mesh s can turns t id agree below
