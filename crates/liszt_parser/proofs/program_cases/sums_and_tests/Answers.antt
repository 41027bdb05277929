use Rattle.std.proofs.Common.{refl}
use Rattle.std.specs.Fmt.{digits}
use Rattle.liszt_parser.proofs.Programs.{other_derives}
use Rattle.liszt_parser.proofs.program_cases.sums_and_tests.Goals as goal

pub returns-clause-tokens : goal.returns-clause-tokens
returns-clause-tokens c = refl

pub returns-clause-tree : goal.returns-clause-tree
returns-clause-tree c = other_derives

pub returns-clause-canonical : goal.returns-clause-canonical
unfolding digits
returns-clause-canonical c = refl
