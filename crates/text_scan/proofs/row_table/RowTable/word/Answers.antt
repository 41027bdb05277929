use Rattle.std.proofs.Common.{ap, arith}
use Rattle.text_scan.proofs.RowTableLemmas.{rows_count, row_found, words_count, word_found}
use Rattle.text_scan.specs.Rows.{row_at}
use Rattle.text_scan.proofs.row_table.RowTable.word.Goals as goal

pub span-start-requires : goal.span-start-requires
span-start-requires c =
    let a = c.self.inside in
    let count = rows_count a.words a.ends.items c.args.self.now.rows (ap (λ t. t.rows) c.self.view_is) in
    omega (arith, count, a.ends.ok.0, c.requires.row, c.as_slice.ensures.len)

pub overflow_add-start : goal.overflow_add-start
overflow_add-start c =
    let a = c.self.inside in
    let r = row_found a.words a.ends.items c.as_slice.result.now c.args.self.now.rows a.closed c.args.place c.span-start.result.0 c.span-start.result.1
    (ap (λ t. t.rows) c.self.view_is) c.self.invariant.0 c.self.invariant.1 c.requires.row c.as_slice.ensures.value c.span-start.ensures.start c.span-start.ensures.end in
    let size = words_count a.words (row_at c.args.self.now.rows c.args.place) c.span-start.result.0 c.span-start.result.1 r in
    omega (arith, size, r.rises, r.fits, c.requires.word, c.span-start.type_inv)

pub of-requires : goal.of-requires
of-requires c =
    let a = c.self.inside in
    let r = row_found a.words a.ends.items c.as_slice.result.now c.args.self.now.rows a.closed c.args.place c.span-start.result.0 c.span-start.result.1
    (ap (λ t. t.rows) c.self.view_is) c.self.invariant.0 c.self.invariant.1 c.requires.row c.as_slice.ensures.value c.span-start.ensures.start c.span-start.ensures.end in
    let size = words_count a.words (row_at c.args.self.now.rows c.args.place) c.span-start.result.0 c.span-start.result.1 r in
    omega (arith, size, r.rises, r.fits, c.requires.word)

pub returns : goal.returns
returns c =
    let a = c.self.inside in
    let r = row_found a.words a.ends.items c.as_slice.result.now c.args.self.now.rows a.closed c.args.place c.span-start.result.0 c.span-start.result.1
    (ap (λ t. t.rows) c.self.view_is) c.self.invariant.0 c.self.invariant.1 c.requires.row c.as_slice.ensures.value c.span-start.ensures.start c.span-start.ensures.end in
    word_found a.words (row_at c.args.self.now.rows c.args.place) c.span-start.result.0 c.span-start.result.1 c.args.number c.of.result.now r c.requires.word
    c.of.ensures
