use Rattle.std.proofs.Common.{◌-◌, ℕ, List, ap, ◌∙◌, subst, arith}
use Rattle.std.specs.Prelude.{slice_index}
use Rattle.word_region.specs.Internal.Tables.{HasWords}
use Rattle.word_region.proofs.RegionLemmas.{word_kept}
use Rattle.word_region.proofs.WordLemmas.{within_peak}
use Rattle.word_region.proofs.region.Region.first_word.Goals as goal

pub returns-clause-within : goal.returns-clause-within
returns-clause-within c =
    let inside = c.self.inside in
    let has = subst (λ r. HasWords r inside.firsts inside.peak) c.self.view_is c.self.invariant in
    let first = ap (λ (l : List ℕ). slice_index l (c.args.field - 6)) c.as_slice.ensures
    ∙ word_kept c.args.self.now inside.firsts inside.peak c.args.field has c.requires in
    let le = within_peak c.args.self.now c.args.field has.is_region c.requires in
    omega arith
