use Rattle.std.proofs.Common.{arith, ap, length, length-append}
use Rattle.liszt_report.proofs.TextLemmas.{count_short}
use Rattle.liszt_report.proofs.line.append_counted.Goals as goal

pub count-requires : goal.count-requires
count-requires c =
    omega (arith, c.requires.old, c.requires.word, count_short c.from.result c.from.type_inv, simp length-append at (ap length c.text.ensures))
