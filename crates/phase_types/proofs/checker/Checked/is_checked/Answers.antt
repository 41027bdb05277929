use Rattle.std.proofs.Common.{subst}
use Rattle.liszt_base.specs.Limits.{token_limit}
use Rattle.phase_types.specs.Checked.{IsChecked, IsWithin}
use Rattle.phase_types.proofs.CheckedLemmas.{checked_few}
use Rattle.phase_types.proofs.checker.Checked.is_checked.Goals as goal

pub returns-clause-program : goal.returns-clause-program
returns-clause-program c = subst IsChecked c.self.view_is c.self.invariant

pub returns-clause-within : goal.returns-clause-within
returns-clause-within c = subst (IsWithin token_limit) c.self.view_is (checked_few c.self.invariant)
