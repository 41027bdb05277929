use Rattle.std.proofs.Common.{arith, ap, length, length-append}
use Rattle.liszt_report.proofs.TextLemmas.{count_short}
use Rattle.liszt_report.proofs.line.append_limit.Goals as goal

pub count-requires : goal.count-requires
count-requires c =
    omega (
      arith,
      count_short c.args.allowed c.ranges.allowed.fits,
      c.append_limit_word.ensures.short,
      simp length-append at (ap length c.text.ensures),
      simp length-append at (ap length c.text-2.ensures),
      ap length c.requires,
    )
