use Rattle.std.proofs.Common.{◌∙◌}
use Rattle.liszt_io.proofs.FileLemmas.{file_at_match, file_after_mismatch, no_file_of_name, name_test, same_name, other_name}
use Rattle.liszt_io.proofs.memory_shelf.place_of.Goals as goal

pub returns-then-eq-clause-found : goal.returns-then-eq-clause-found
returns-then-eq-clause-found c =
    let test = name_test c.args.files.now c.loop-index.index c.index-files-index.result c.as_slice.result.now c.args.name.now c.eq.result c.loop-index-test.true c.index-files-index.is c.as_slice.ensures c.eq.ensures in
    file_at_match c.args.files.now c.loop-index.index c.args.name.now c.loop-index-test.true (same_name _ _ (test ∙ c.if-eq.true)) c.loop-index.invariant

pub loop-index-preserved : goal.loop-index-preserved
loop-index-preserved c =
    let test = name_test c.args.files.now c.loop-index.index c.index-files-index.result c.as_slice.result.now c.args.name.now c.eq.result c.loop-index-test.true c.index-files-index.is c.as_slice.ensures c.eq.ensures in
    file_after_mismatch c.args.files.now c.loop-index.index c.args.name.now c.loop-index-test.true (other_name _ _ (test ∙ c.if-eq.false)) c.loop-index.invariant

pub returns-clause-none : goal.returns-clause-none
returns-clause-none c = no_file_of_name c.args.files.now c.loop-index.index c.args.name.now c.loop-index-test.false c.loop-index.invariant
