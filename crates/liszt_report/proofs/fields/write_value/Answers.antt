use Rattle.std.proofs.Common.{arith, ap, length, length-append}
use Rattle.liszt_report.proofs.TextLemmas.{count_short, value_short}
use Rattle.liszt_report.proofs.fields.write_value.Goals as goal

pub count-requires : goal.count-requires
count-requires g c =
    omega (
      arith,
      count_short c.from.result c.from.type_inv,
      ap length c.new-tail.ensures,
      simp length-append at (ap length c.text.ensures),
    )

pub number-requires : goal.number-requires
number-requires g c =
    omega (
      arith,
      value_short c.args.value c.ranges.value,
      ap length c.new-tail.ensures,
      simp length-append at (ap length c.text.ensures),
      c.count.ensures.short,
      simp length-append at (ap length c.text-2.ensures),
    )
