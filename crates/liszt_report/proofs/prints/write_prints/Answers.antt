use Rattle.std.proofs.Common.{◌∙◌, ◌+◌, Some, drop, ap, sym}
use Rattle.std.proofs.lemmas.Int.{to_z-of_z}
use mir.Syntax.{w64}
use mir.Val.{to_z, of_z}
use Rattle.std.proofs.lemmas.Result.{err_from_is_err_and}
use Rattle.std.specs.List.{flat_map}
use Rattle.liszt_report.specs.Texts.{number_line, prints_text}
use Rattle.liszt_report.proofs.WrittenLemmas.{drop_next, taken_more, taken_prefix, writes_fault}
use Rattle.liszt_report.proofs.prints.write_prints.Goals as goal

pub returns-in_err-write_number-clause-writes : goal.returns-in_err-write_number-clause-writes
returns-in_err-write_number-clause-writes g c =
    let p = err_from_is_err_and c.from_residual.result c.from_residual.ensures.1 in
    let prints = c.args.prints.now in
    let at = c.loop-index.index in
    let number = to_z w64 (of_z w64 c.number_at.result) in
    writes_fault (prints_text prints) _ _ _ c.from_residual.result p.1
    (taken_prefix (number_line number) (flat_map number_line (drop (at + 1) prints)) c.loop-index.invariant.0 (drop_next number_line prints at number (c.number_at.ensures ∙ ap Some (sym (to_z-of_z w64 c.number_at.result (record { sfits = c.number_at.type_inv }))))) c.in_err-write_number.ensures.writes)

pub loop-index-preserved : goal.loop-index-preserved
loop-index-preserved g c =
    let prints = c.args.prints.now in
    let at = c.loop-index.index in
    let number = to_z w64 (of_z w64 c.number_at.result) in (
      taken_more (number_line number) (flat_map number_line (drop (at + 1) prints)) c.loop-index.invariant.0 (drop_next number_line prints at number (c.number_at.ensures ∙ ap Some (sym (to_z-of_z w64 c.number_at.result (record { sfits = c.number_at.type_inv }))))) c.in_ok-write_number.ensures.writes,
      c.in_ok-write_number.ensures.cause.kept ∙ c.loop-index.invariant.1,
    )
