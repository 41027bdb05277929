use Rattle.std.proofs.Common.{rules, ◌≡◌, ap, ◌∙◌, sym, subst, length, replicate}
use Rattle.std.proofs.lemmas.List.{length-replicate}
use Rattle.ghost_links.specs.Layouts.{IsLayout, Layout, word_count}
use Rattle.ghost_links.specs.Scripts.{script_over}
use Rattle.ghost_links.specs.LinkRule.{FitsLayout}
use Rattle.ghost_links.proofs.LayoutLemmas.{layout_of_holds, script_fits_layout}
use Rattle.ghost_links.proofs.links.Links.make.Goals as goal

pub words-requires : goal.words-requires
words-requires g c =
    (subst IsLayout (sym c.in_ok-layout.ensures)
    (layout_of_holds c.args.ranks c.args.sizes.now c.requires.some_rank c.requires.few_ranks c.requires.few_words)).count

pub invariant_of-links : goal.invariant_of-links
invariant_of-links g c =
    let zeros : c.as_slice.result.now ≡ replicate (word_count c.in_ok-layout.layout) 0 = search rules in (
      subst IsLayout (sym c.in_ok-layout.ensures)
          (layout_of_holds c.args.ranks c.args.sizes.now c.requires.some_rank c.requires.few_ranks c.requires.few_words),
      c.in_ok-table.ensures.5,
      c.in_ok-table.ensures.0 ∙ (ap length zeros ∙ length-replicate (word_count c.in_ok-layout.layout) 0),
    )

pub set_script-seat-requires-clause-fits : goal.set_script-seat-requires-clause-fits
set_script-seat-requires-clause-fits g c =
    subst (λ (l : Layout). FitsLayout l (script_over l.ranks (g.S.Script.packets c.args.script.now))) (sym c.in_ok-layout.ensures)
    (script_fits_layout c.args.ranks c.args.sizes.now (g.S.Script.packets c.args.script.now) c.requires.some_rank c.requires.packets)
