use Rattle.std.proofs.Common.{arith, ap, length}
use Rattle.liszt_report.proofs.TextLemmas.{value_short}
use Rattle.liszt_report.proofs.prints.write_number.Goals as goal

pub number-requires : goal.number-requires
number-requires g c = omega (arith, value_short c.args.number c.ranges.number, ap length c.new-line.ensures)
