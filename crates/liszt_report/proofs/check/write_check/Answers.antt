use Rattle.std.proofs.Common.{◌++◌, refl}
use Rattle.std.proofs.lemmas.Result.{err_from_is_err_and}
use Rattle.mesh_topology.specs.Elements.{count}
use Rattle.liszt_report.specs.Texts.{check_text, counts_line, phases_text}
use Rattle.liszt_report.proofs.WrittenLemmas.{taken_none, taken_more, taken_prefix, writes_fault, writes_last}
use Rattle.liszt_report.proofs.check.write_check.Goals as goal

pub returns-in_err-write_phases-clause-writes : goal.returns-in_err-write_phases-clause-writes
returns-in_err-write_phases-clause-writes g c =
    let p = err_from_is_err_and c.from_residual-in_err-write_phases.result c.from_residual-in_err-write_phases.ensures.1 in
    let text = check_text c.args.text.now c.args.c.now (count c.args.m.now) in
    let counts = counts_line (count c.args.m.now) in
    let phases = phases_text c.args.c.now in
    let start = taken_none text (g.S.Sink.output c.args.out.now) in
    let canonical = taken_more c.args.text.now (phases ++ counts) start refl c.in_ok-write_whole.ensures.writes in
    writes_fault text _ _ _ c.from_residual-in_err-write_phases.result p.1 (taken_prefix phases counts canonical refl c.in_err-write_phases.ensures.writes)

pub returns-clause-writes : goal.returns-clause-writes
returns-clause-writes g c =
    let text = check_text c.args.text.now c.args.c.now (count c.args.m.now) in
    let counts = counts_line (count c.args.m.now) in
    let phases = phases_text c.args.c.now in
    let start = taken_none text (g.S.Sink.output c.args.out.now) in
    let canonical = taken_more c.args.text.now (phases ++ counts) start refl c.in_ok-write_whole.ensures.writes in
    let shown = taken_more phases counts canonical refl c.in_ok-write_phases.ensures.writes in
    writes_last text counts _ _ _ c.write_counts.result shown c.write_counts.ensures.writes
