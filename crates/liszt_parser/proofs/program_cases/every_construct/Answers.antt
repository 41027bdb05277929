use Rattle.std.proofs.Common.{refl}
use Rattle.std.specs.Fmt.{digits}
use Rattle.liszt_parser.proofs.Programs.{every_derives}
use Rattle.liszt_parser.proofs.program_cases.every_construct.Goals as goal

pub returns-clause-tree : goal.returns-clause-tree
returns-clause-tree c = every_derives

pub returns-clause-canonical : goal.returns-clause-canonical
unfolding digits
returns-clause-canonical c = refl
