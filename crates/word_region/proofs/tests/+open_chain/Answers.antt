use Rattle.std.proofs.Common.{sym, subst, arith}
use Rattle.word_region.specs.Regions.{AreScopes}
use Rattle.word_region.proofs.ChainLemmas.{enclosing_below}
use Rattle.word_region.proofs.tests.+open_chain.Goals as goal

pub open_chain-requires : goal.open_chain-requires
open_chain-requires t c =
    let are = subst AreScopes c.requires.scopes c.is_laid_out.ensures.scopes in
    let less = enclosing_below c.args.scopes.now c.args.scope c.in-Some.parent are c.requires.exists (sym c.in-Some.ensures) in
    (omega (arith, c.decreases), (c.requires.scopes, (c.requires.none, omega (arith, c.requires.exists))))
