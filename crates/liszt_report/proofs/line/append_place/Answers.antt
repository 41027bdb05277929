use Rattle.std.proofs.Common.{arith, ap, length, length-append}
use Rattle.liszt_report.proofs.TextLemmas.{count_short}
use Rattle.liszt_report.proofs.line.append_place.Goals as goal

pub count-requires : goal.count-requires
count-requires c = omega (arith, c.requires, count_short c.from.result c.from.type_inv)

pub count-requires-2 : goal.count-requires-2
count-requires-2 c =
    omega (arith, c.requires, count_short c.from-2.result c.from-2.type_inv, c.count.ensures.short, simp length-append at (ap length c.text.ensures))
