use Rattle.std.proofs.Common.{◌-◌, ◌+◌, ◌∙◌, arith, length}
use Rattle.std.proofs.lemmas.Result.{err_from_is_err_and}
use Rattle.std.specs.List.{flat_map, range_with_len}
use Rattle.liszt_report.specs.Texts.{comprehension_phases, phases_text}
use Rattle.liszt_report.proofs.WrittenLemmas.{range_next, taken_more, taken_prefix, writes_fault}
use Rattle.liszt_report.proofs.check.write_phases.Goals as goal

pub returns-in_err-write_comprehension-clause-writes : goal.returns-in_err-write_comprehension-clause-writes
returns-in_err-write_comprehension-clause-writes g c =
    let p = err_from_is_err_and c.from_residual.result c.from_residual.ensures.1 in
    let loop = c.loop-comp in
    let phases = comprehension_phases c.args.c.now in
    let comps = length c.args.c.now.comprehensions in
    writes_fault (phases_text c.args.c.now) _ _ _ c.from_residual.result p.1
    (taken_prefix (phases loop.comp) (flat_map phases (range_with_len (loop.comp + 1) (comps - (loop.comp + 1)))) loop.invariant.0
    (range_next phases loop.comp comps (omega (arith, c.loop-comp-test.true, c.comps-comp-end.ensures))) c.in_err-write_comprehension.ensures.writes)

pub loop-comp-preserved : goal.loop-comp-preserved
loop-comp-preserved g c =
    let loop = c.loop-comp in
    let phases = comprehension_phases c.args.c.now in
    let comps = length c.args.c.now.comprehensions in (
      taken_more (phases loop.comp) (flat_map phases (range_with_len (loop.comp + 1) (comps - (loop.comp + 1)))) loop.invariant.0
          (range_next phases loop.comp comps (omega (arith, c.loop-comp-test.true, c.comps-comp-end.ensures))) c.in_ok-write_comprehension.ensures.writes,
      c.in_ok-write_comprehension.ensures.cause.kept ∙ loop.invariant.1,
    )
