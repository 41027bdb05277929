use Rattle.std.proofs.Common.{◌*◌, ◌<◌, ◌^◌, List, ℕ, sym, ap, ◌∙◌, subst, arith}
use Rattle.ghost_links.specs.Layouts.{first_of, layout_of}
use Rattle.ghost_links.specs.Holdings.{FitsSizes}
use Rattle.link_tests.specs.Scripts.{packets_at}
use Rattle.link_tests.proofs.TableLemmas.{few_words_in_all, new_links_are_numbered, packets_fit_sevens}
use Rattle.link_tests.proofs.numbered.numbered_links.Goals as goal

pub make-requires-clause-packets : goal.make-requires-clause-packets
make-requires-clause-packets c =
    let few : c.args.count < 2 ^ 32 = omega arith in
    subst (λ (s : List (List ℕ)). FitsSizes c.args.ranks s (packets_at c.args.count)) (sym c.in_ok-sizes.ensures) (packets_fit_sevens c.args.ranks c.args.count few)

pub make-requires-clause-few_words : goal.make-requires-clause-few_words
make-requires-clause-few_words c =
    subst (λ (s : List (List ℕ)). first_of c.args.ranks s (c.args.ranks * c.args.ranks) < 2 ^ 32) (sym c.in_ok-sizes.ensures)
    (few_words_in_all c.args.ranks c.requires.some_rank c.requires.few_ranks)

pub returns : goal.returns
returns c =
    new_links_are_numbered c.args.ranks c.args.count c.in_ok-links.links c.in_ok-links.seat
    (c.in_ok-links.ensures.layout ∙ ap (layout_of c.args.ranks) c.in_ok-sizes.ensures) c.in_ok-links.ensures.seat
