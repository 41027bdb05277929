use Rattle.std.proofs.Common.{ap, sym, subst, ◌∙◌, ◌+◌, ◌++◌, ◌∷◌, [], List}
use Rattle.std.specs.Prelude.{ℤ}
use Rattle.std.proofs.lemmas.Int.{to_z-of_z}
use mir.Syntax.{w64}
use Rattle.text_scan.specs.Rows.{row_at}
use Rattle.text_scan.proofs.RangeLemmas.{whole_fits}
use Rattle.tet_reader.proofs.HeaderWords.{AreWhole, whole_read, whole_wrong}
use Rattle.tet_reader.proofs.headers.read_whole_numbers.Goals as goal

pub returns-in-Err-clause-spelled : goal.returns-in-Err-clause-spelled
returns-in-Err-clause-spelled c =
    sym (whole_wrong (row_at c.args.rows.now.rows 0).words c.loop-place.place c.word.result.now c.in-Err.field-0 c.word.ensures (sym c.in-Err.ensures))

pub loop-place-preserved : goal.loop-place-preserved
loop-place-preserved c =
    let words = (row_at c.args.rows.now.rows 0).words in
    let same = to_z-of_z w64 c.in-Ok.number (whole_fits c.word.result.now c.in-Ok.number (sym c.in-Ok.ensures)) in
    let pushed = c.push.ensures ∙ ap (λ v. c.loop-place.numbers ++ v ∷ []) same in
    subst (λ (l : List ℤ). AreWhole words l (c.loop-place.place + 1)) (sym pushed)
    (whole_read words c.loop-place.numbers c.loop-place.place c.word.result.now c.in-Ok.number c.loop-place.invariant c.word.ensures (sym c.in-Ok.ensures))
