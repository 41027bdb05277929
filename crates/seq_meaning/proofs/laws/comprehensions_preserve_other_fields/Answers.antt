use Rattle.std.proofs.Common.{refl}
use Rattle.mesh_topology.specs.Elements.{count, numbers}
use Rattle.kernel_eval.specs.Preservation.{field_values}
use Rattle.kernel_eval.proofs.ActModeLemmas.{iteration_in_modes}
use Rattle.seq_meaning.specs.Runs.{after_iteration}
use Rattle.seq_meaning.proofs.IterationLemmas.{for_each_unchanged}
use Rattle.seq_meaning.proofs.laws.comprehensions_preserve_other_fields.Goals as goal

pub returns-clause-fields : goal.returns-clause-fields
returns-clause-fields c mesh over turns s field fits none =
    for_each_unchanged (λ s. field_values s field) (after_iteration mesh over turns)
    (λ id s. (iteration_in_modes mesh over turns s id fits).2 field none) (numbers 0 (count mesh over.over)) s

pub returns-clause-turns : goal.returns-clause-turns
returns-clause-turns c mesh over turns s =
    for_each_unchanged (λ s. s.turns) (after_iteration mesh over turns) (λ id s. refl) (numbers 0 (count mesh over.over)) s
