use Rattle.std.proofs.Common.{arith, ap, length, length-append}
use Rattle.liszt_report.proofs.TextLemmas.{count_short}
use Rattle.liszt_report.proofs.line.append_mesh_fault.Goals as goal

pub count-requires : goal.count-requires
count-requires c =
    omega (
      arith,
      count_short c.from.result c.from.type_inv,
      c.mesh_word.ensures.short,
      c.mesh_file_word.ensures.short,
      simp length-append at (ap length c.text.ensures),
      simp length-append at (ap length c.text-2.ensures),
      simp length-append at (ap length c.text-3.ensures),
      simp length-append at (ap length c.text-4.ensures),
      simp length-append at (ap length c.text-5.ensures),
      ap length c.requires,
    )
