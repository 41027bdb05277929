use Rattle.std.proofs.Common.{◌≤◌, arith, []}
use Rattle.liszt_lexer.specs.Lexer.{pieces, findings_after}
use Rattle.liszt_lexer.proofs.FindingLemmas.{few_with_limit}
use Rattle.liszt_lexer.proofs.laws.tokens_are_few.Goals as goal
use Rattle.liszt_base.specs.Limits.{token_limit}

pub returns : goal.returns
returns c text tokens e =
    let le : 0 ≤ token_limit = omega arith in
    omega (arith, few_with_limit 0 (findings_after [] (pieces text)) tokens le e)
