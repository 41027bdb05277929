use Rattle.std.proofs.Common.{arith, ap, length, length-append}
use Rattle.liszt_report.proofs.TextLemmas.{count_short}
use Rattle.liszt_report.proofs.stencils.append_element.Goals as goal

pub count-requires : goal.count-requires
count-requires c =
    omega (
      arith,
      count_short c.args.id c.ranges.id.fits,
      c.requires.old,
      c.requires.word,
      simp length-append at (ap length c.text.ensures),
      simp length-append at (ap length c.text-2.ensures),
      simp length-append at (ap length c.text-3.ensures),
    )
