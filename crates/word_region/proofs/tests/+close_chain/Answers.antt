use Rattle.std.proofs.Common.{◌<◌, List, ℕ, length, sym, subst, ap, ◌∙◌, arith}
use Rattle.word_region.specs.Regions.{AreScopes, RegionState, enclosing}
use Rattle.word_region.proofs.ChainLemmas.{enclosing_below}
use Rattle.word_region.proofs.tests.+close_chain.Goals as goal

pub close_chain-requires : goal.close_chain-requires
close_chain-requires t c =
    let are = subst AreScopes c.requires.scopes c.is_laid_out.ensures.scopes in
    let below = subst (λ (l : List ℕ). c.args.scope < length l) c.requires.scopes (c.is_laid_out.ensures.innermost c.args.scope c.requires.innermost) in
    let less = enclosing_below c.args.scopes.now c.args.scope c.in-Some.parent are below (sym c.in-Some.ensures) in (
      omega (arith, c.decreases),
      (
        ap (λ (r : RegionState). r.scopes) c.close_scope.ensures ∙ c.requires.scopes,
        ap (λ (r : RegionState). r.innermost) c.close_scope.ensures
            ∙ ap (λ (l : List ℕ). enclosing l c.args.scope) c.requires.scopes ∙ sym c.in-Some.ensures,
      ),
    )
