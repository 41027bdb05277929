use Rattle.std.proofs.Common.{◌<◌, ◌∙◌, arith, ap, sym, subst, length, slice_get}
use Rattle.std.proofs.Math.ListN.{get_or}
use Rattle.std.proofs.lemmas.Option.{slice_get-get_or}
use Rattle.liszt_report.specs.Internal.Places.{subject_at}
use Rattle.liszt_report.proofs.PlaceLemmas.{next_from, next_below, none_between, mode_none}
use Rattle.liszt_report.proofs.places.next_phase.Goals as goal

pub returns-clause-from : goal.returns-clause-from
returns-clause-from c =
    let code = get_or c.comprehensions.result.now c.args.comp c.index-comprehensions-comp.result in
    omega (arith, c.next_place.ensures, next_from c.args.fields c.args.from c.args.end code.accesses c.requires.from)

pub returns-clause-end : goal.returns-clause-end
returns-clause-end c =
    let code = get_or c.comprehensions.result.now c.args.comp c.index-comprehensions-comp.result in
    omega (arith, c.next_place.ensures, next_below c.args.fields c.args.from c.args.end code.accesses)

pub returns-clause-none : goal.returns-clause-none
returns-clause-none c place low high =
    let code = get_or c.comprehensions.result.now c.args.comp c.index-comprehensions-comp.result in
    let within : c.args.comp < length c.comprehensions.result.now = omega (arith, c.requires.comp, ap length c.comprehensions.ensures) in
    let is = ap (λ codes. slice_get codes c.args.comp) (sym c.comprehensions.ensures)
    ∙ slice_get-get_or c.comprehensions.result.now c.args.comp c.index-comprehensions-comp.result within in
    let below = subst (λ n. place < n) c.next_place.ensures high in
    mode_none c.args.c.now c.args.comp code (subject_at c.args.fields place) is (none_between c.args.fields c.args.from c.args.end code.accesses place low below)
