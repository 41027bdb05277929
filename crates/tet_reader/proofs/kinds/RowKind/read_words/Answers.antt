use Rattle.std.proofs.Common.{arith, ◌∙◌, ◌+◌, ◌++◌, ◌∷◌, [], List, sym, ap, subst}
use Rattle.std.specs.Prelude.{ℤ}
use Rattle.std.proofs.lemmas.Int.{to_z-of_z}
use mir.Syntax.{w64}
use Rattle.text_scan.specs.Rows.{row_at}
use Rattle.tet_reader.specs.Internal.RowKinds.{expected_words}
use Rattle.tet_reader.proofs.WordLists.{AreRead, word_value_fits, same_size, word_read, word_wrong, all_read}
use Rattle.tet_reader.proofs.kinds.RowKind.read_words.Goals as goal

pub returns-in-Err : goal.returns-in-Err
returns-in-Err c =
    word_wrong (expected_words c.args.self c.args.number) (row_at c.args.rows.now.rows c.args.row).words c.loop-place.numbers c.loop-place.place
    c.word.result c.word-in-loop-place.result.now c.in-Err.what c.loop-place.invariant c.word.ensures c.word-in-loop-place.ensures c.in-Err.ensures

pub loop-place-preserved : goal.loop-place-preserved
loop-place-preserved c =
    let expected = expected_words c.args.self c.args.number in
    let words = (row_at c.args.rows.now.rows c.args.row).words in
    let same = to_z-of_z w64 c.in-Ok.value (word_value_fits c.word.result c.word-in-loop-place.result.now c.in-Ok.value c.in-Ok.ensures.1) in
    let pushed = c.push.ensures ∙ ap (λ v. c.loop-place.numbers ++ v ∷ []) same in
    subst (λ (l : List ℤ). AreRead expected words l (c.loop-place.place + 1)) (sym pushed)
    (word_read expected words c.loop-place.numbers c.loop-place.place c.word.result c.word-in-loop-place.result.now c.in-Ok.value
    c.loop-place.invariant c.word.ensures c.word-in-loop-place.ensures c.in-Ok.ensures.0 c.in-Ok.ensures.1)

pub returns : goal.returns
returns c =
    let size = same_size c.args.self c.args.number in
    all_read (expected_words c.args.self c.args.number) (row_at c.args.rows.now.rows c.args.row).words c.loop-place.numbers c.loop-place.place
    c.loop-place.invariant (size ∙ sym c.requires.words) (omega (arith, c.requires.words, c.words-place-end.ensures, c.loop-place-test.false))
