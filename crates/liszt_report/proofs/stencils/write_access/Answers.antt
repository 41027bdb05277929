use Rattle.std.proofs.Common.{arith, ap, length, length-append}
use Rattle.liszt_report.proofs.TextLemmas.{count_short}
use Rattle.liszt_report.proofs.stencils.write_access.Goals as goal
