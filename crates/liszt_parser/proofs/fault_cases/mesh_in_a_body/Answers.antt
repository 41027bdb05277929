use Rattle.liszt_parser.proofs.FaultCases.{mesh_fault}
use Rattle.liszt_parser.proofs.fault_cases.mesh_in_a_body.Goals as goal

pub returns : goal.returns
returns c = record { at_mesh = mesh_fault }
