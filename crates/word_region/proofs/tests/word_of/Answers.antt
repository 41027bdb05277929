use Rattle.std.proofs.Common.{◌≡◌, ◌+◌, Some, sym, ap, ap₂, ◌∙◌, arith}
use Rattle.word_region.specs.Regions.{RegionState, index_of, scope_at}
use Rattle.word_region.proofs.ChainLemmas.{own_live}
use Rattle.word_region.proofs.tests.word_of.Goals as goal

pub first_word-first-requires : goal.first_word-first-requires
first_word-first-requires c =
    let number : index_of (c.args.index + 6) ≡ c.args.index = omega arith in
    let sizes = ap (λ (r : RegionState). r.sizes) c.open_chain.ensures ∙ c.requires.sizes in
    own_live c.open_chain.new.region (c.args.index + 6) c.is_laid_out-2.ensures (omega arith)
    (rw (sizes, number) c.requires.exists)
    (ap (λ (r : RegionState). r.innermost) c.open_chain.ensures ∙ ap₂ (λ l i. Some (scope_at l i)) (sym sizes) (sym number))
