use Rattle.std.proofs.Common.{rules, length, ap, arith}
use Rattle.mesh_topology.proofs.CountLemmas.{fits}
use Rattle.program_tests.proofs.reading.read_short_mesh.Goals as goal

pub build-requires-clause-fits : goal.build-requires-clause-fits
build-requires-clause-fits c =
    fits c.in_ok-raw.raw (search rules) (omega (arith, c.if-points-gt5000.false, ap length c.points.ensures))
    (omega (arith, c.if-cells-gt5000.false, ap length c.cells.ensures))
