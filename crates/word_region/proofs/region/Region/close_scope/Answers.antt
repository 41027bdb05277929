use Rattle.std.proofs.Common.{◌≡◌, Some, ap, ◌∙◌}
use Rattle.word_region.specs.Regions.{RegionState}
use Rattle.word_region.proofs.RegionLemmas.{still_has_words}
use Rattle.word_region.proofs.region.Region.close_scope.Goals as goal

pub invariant_of-self : goal.invariant_of-self
invariant_of-self c =
    let inside = c.self.inside in
    let at : inside.innermost ≡ Some c.args.scope = ap (λ (r : RegionState). r.innermost) c.self.view_is ∙ c.requires in
    rw (c.enclosing-self-inside.ensures, c.as_slice.ensures)
    (still_has_words _ inside.firsts inside.peak c.args.scope c.self.invariant at)
