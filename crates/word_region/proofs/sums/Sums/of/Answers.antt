use Rattle.std.proofs.Common.{◌≡◌, ◌+◌, ℕ, List, refl, ap, ap₂, ◌∙◌, arith}
use Rattle.std.specs.Prelude.{max, slice_index}
use Rattle.word_region.specs.Regions.{words_above}
use Rattle.word_region.proofs.WordLemmas.{max_is, next_above, next_greatest, none_above, upto_fits}
use Rattle.word_region.proofs.TableLemmas.{table_more}
use Rattle.word_region.proofs.sums.Sums.of.Goals as goal
use Rattle.word_region.proofs.sums.Sums.of.Goals.{in-Some, in-None}

pub overflow_add-words : goal.overflow_add-words
overflow_add-words c =
    let scopes = c.args.scopes.now in
    let sum = next_above scopes c.args.sizes.now c.in_ok-own.own c.loop-scope.starts c.loop-scope.scope c.in-Some.parent _ c.requires.scopes
    c.loop-scope-test.true c.loop-scope.invariant.words c.in_ok-own.ensures.words c.in-Some.ensures refl in
    let le = upto_fits scopes c.args.sizes.now c.loop-scope.scope c.requires.scopes c.loop-scope-test.true in
    rw (c.as_slice.ensures, c.as_slice-in-Some.ensures) (omega (arith, c.in_ok-own.ensures.fit))

pub overflow_add-words-in-loop-scope : goal.overflow_add-words-in-loop-scope
overflow_add-words-in-loop-scope c =
    let scopes = c.args.scopes.now in
    let words : c.match-enclosing.words ≡ words_above scopes c.args.sizes.now c.loop-scope.scope = elim c.match-enclosing.branch [
      | in-None w ↦ none_above scopes c.args.sizes.now c.loop-scope.scope _ w.in-None.ensures w.words-is
      | in-Some w ↦
          next_above scopes c.args.sizes.now c.in_ok-own.own c.loop-scope.starts c.loop-scope.scope w.in-Some.parent _ c.requires.scopes
          c.loop-scope-test.true c.loop-scope.invariant.words c.in_ok-own.ensures.words w.in-Some.ensures
          (w.words-is ∙ ap₂ (λ a b. slice_index a w.in-Some.parent + slice_index b w.in-Some.parent) w.as_slice.ensures w.as_slice-in-Some.ensures)
    ] in
    let le = upto_fits scopes c.args.sizes.now c.loop-scope.scope c.requires.scopes c.loop-scope-test.true in
    rw c.as_slice-in-loop-scope.ensures
    (omega (arith, c.in_ok-own.ensures.fit, c.in_ok-own.ensures.words.values c.loop-scope.scope c.loop-scope-test.true))

pub loop-scope-preserved : goal.loop-scope-preserved
loop-scope-preserved c =
    let scopes = c.args.scopes.now in
    let words : c.match-enclosing.words ≡ words_above scopes c.args.sizes.now c.loop-scope.scope = elim c.match-enclosing.branch [
      | in-None w ↦ none_above scopes c.args.sizes.now c.loop-scope.scope _ w.in-None.ensures w.words-is
      | in-Some w ↦
          next_above scopes c.args.sizes.now c.in_ok-own.own c.loop-scope.starts c.loop-scope.scope w.in-Some.parent _ c.requires.scopes
          c.loop-scope-test.true c.loop-scope.invariant.words c.in_ok-own.ensures.words w.in-Some.ensures
          (w.words-is ∙ ap₂ (λ a b. slice_index a w.in-Some.parent + slice_index b w.in-Some.parent) w.as_slice.ensures w.as_slice-in-Some.ensures)
    ] in
    let own = ap (λ (l : List ℕ). slice_index l c.loop-scope.scope) c.as_slice-in-loop-scope.ensures
    ∙ c.in_ok-own.ensures.words.values c.loop-scope.scope c.loop-scope-test.true in
    record {
      words = rw c.in_ok-push.ensures.ok (table_more c.loop-scope.scope _ c.loop-scope.starts c.match-enclosing.words c.loop-scope.invariant.words words);
      greatest =
          next_greatest scopes c.args.sizes.now c.loop-scope.scope c.loop-scope.peak c.match-enclosing.words c.max-peak.result
          c.requires.scopes c.loop-scope-test.true c.loop-scope.invariant.greatest words
          (c.max-peak.ensures ∙ max_is c.loop-scope.peak _ ∙ ap (λ n. max c.loop-scope.peak (c.match-enclosing.words + n)) own);
    }
