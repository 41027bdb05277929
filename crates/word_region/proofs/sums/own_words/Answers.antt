use Rattle.std.proofs.Common.{◌≡◌, arith, get_or, take}
use Rattle.word_region.specs.Regions.{own_words as OwnWords, scope_at}
use Rattle.word_region.proofs.WordLemmas.{own_le_all}
use Rattle.word_region.proofs.sums.own_words.Goals as goal

pub overflow_add-words : goal.overflow_add-words
overflow_add-words c =
    let index = c.loop-scope.scope-index in
    let scope = scope_at c.args.sizes.now index in
    let value : get_or c.loop-scope.own scope 0 ≡ OwnWords (take index c.args.sizes.now) scope =
    c.loop-scope.invariant.words.values scope (c.requires.fields index (0, 0) c.loop-scope-test.true) in
    let le = own_le_all (take index c.args.sizes.now) scope in
    let sum : get_or c.as_slice.result.now scope 0 ≡ OwnWords (take index c.args.sizes.now) scope = rw c.as_slice.ensures value in
    omega (arith, c.type_inv.size)
