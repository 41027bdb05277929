use Rattle.std.proofs.Common.{◌∙◌, rules, tests}
use Rattle.std.specs.Str.{bytes_eq}
use Rattle.std.proofs.lemmas.Iterator.{YieldsList-from_slice}
use Rattle.std.proofs.lemmas.Iterator.Search.{position_from_yields_List}
use Rattle.liszt_lexer.specs.Words.{symbols}
use Rattle.liszt_lexer.proofs.NameLemmas.{same_place}
use Rattle.liszt_lexer.proofs.leading.symbol.Goals as goal

pub returns : goal.returns
returns c =
    position_from_yields_List (λ entry. bytes_eq entry.now c.args.bytes.now) _ _ c.position.result c.position.ensures.ran
    (YieldsList-from_slice _ c.iter.ensures.rest) (λ x b q k. search (rules, tests))
    ∙ same_place c.args.bytes.now symbols
