use Rattle.std.proofs.Common.{arith, length, refl, sym, ◌∙◌, ◌<◌}
use Rattle.std.proofs.lemmas.List.{length-map}
use Rattle.liszt_parser.specs.Grammar.{lexeme, lexemes}
use Rattle.liszt_parser.proofs.NestingLemmas.{next_counted, counted_more, too_deep}
use Rattle.liszt_parser.proofs.nesting.first_deep.Goals as goal

pub returns-then-is_too_deep : goal.returns-then-is_too_deep
returns-then-is_too_deep c =
    let ts = lexemes c.args.text.now c.args.tokens.now in
    let lt : c.loop-place.place < length ts = omega (arith, c.loop-place-test.true, length-map c.args.tokens.now (lexeme c.args.text.now)) in
    let n = next_counted c.args.text.now c.args.tokens.now c.loop-place.place _ _ c.loop-place.nesting c.take.new.self c.loop-place-test.true refl
    c.loop-place.invariant.counts c.in_ok-take.ensures in
    too_deep ts c.loop-place.place c.loop-place.nesting c.loop-place.invariant lt (sym (c.is_too_deep.ensures _ n) ∙ c.if-is_too_deep.true)

pub loop-place-preserved : goal.loop-place-preserved
loop-place-preserved c =
    let ts = lexemes c.args.text.now c.args.tokens.now in
    let n = next_counted c.args.text.now c.args.tokens.now c.loop-place.place _ _ c.loop-place.nesting c.take.new.self c.loop-place-test.true refl
    c.loop-place.invariant.counts c.in_ok-take.ensures in
    counted_more ts c.loop-place.place c.loop-place.nesting c.take.new.self c.loop-place.invariant n
    (sym (c.is_too_deep.ensures _ n) ∙ c.if-is_too_deep.false)
