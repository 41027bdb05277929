use Rattle.std.proofs.Common.{refl}
use Rattle.liszt_parser.proofs.Programs.{degree_derives}
use Rattle.liszt_parser.proofs.program_cases.degree_of_each_vertex.Goals as goal

pub returns-clause-tokens : goal.returns-clause-tokens
returns-clause-tokens c = refl

pub returns-clause-tree : goal.returns-clause-tree
returns-clause-tree c = degree_derives
