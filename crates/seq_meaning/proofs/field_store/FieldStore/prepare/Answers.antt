use Rattle.std.proofs.Common.{◌≡◌, ap, ◌∙◌, rules, length, List, replicate, pos, ℤ}
use Rattle.std.proofs.lemmas.List.{length-replicate}
use Rattle.seq_meaning.specs.FieldStores.{ranges_from, words_of as WordsOf}
use Rattle.seq_meaning.proofs.FieldStoreLemmas.{ranges_laid_out, store_spots}
use Rattle.seq_meaning.proofs.field_store.FieldStore.prepare.Goals as goal

pub invariant_of-result : goal.invariant_of-result
invariant_of-result c =
    let ranges : c.in_ok-ranges.ranges ≡ ranges_from c.args.m.now 0 c.args.c.now.fields = search rules in
    let words : c.in_ok-words.words ≡ replicate (WordsOf c.args.m.now c.args.c.now.fields) (pos 0) = search rules in
    rw (ranges, words, length-replicate {A = ℤ} (WordsOf c.args.m.now c.args.c.now.fields) (pos 0))
    (ranges_laid_out c.args.m.now c.args.c.now.fields)

pub returns-clause-spots : goal.returns-clause-spots
returns-clause-spots c =
    let ranges : c.in_ok-ranges.ranges ≡ ranges_from c.args.m.now 0 c.args.c.now.fields = search rules in
    let words : c.in_ok-words.words ≡ replicate (WordsOf c.args.m.now c.args.c.now.fields) (pos 0) = search rules in
    store_spots c.args.c.now.fields c.args.m.now _
    (record {
      ranges = ranges;
      words = ap (λ (list : List ℤ). length list) words ∙ length-replicate {A = ℤ} (WordsOf c.args.m.now c.args.c.now.fields) (pos 0);
    })
