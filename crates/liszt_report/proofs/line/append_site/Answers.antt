use Rattle.std.proofs.Common.{arith, ap, length, length-append}
use Rattle.liszt_report.proofs.TextLemmas.{count_short}
use Rattle.liszt_report.proofs.line.append_site.Goals as goal

pub count-requires : goal.count-requires
count-requires c =
    omega (
      arith,
      c.requires,
      count_short c.from.result c.from.type_inv,
      c.kind_word.ensures.short,
      simp length-append at (ap length c.text-in-Some.ensures),
      simp length-append at (ap length c.text.ensures),
    )
