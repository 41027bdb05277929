use Rattle.std.proofs.Common.{◌≡◌, Some, Ok, Err, sym, ap, subst, ◌∙◌, arith}
use Rattle.std.specs.Prelude.{slice_get}
use Rattle.liszt_base.specs.Gives.{Gives}
use Rattle.stencil_infer.specs.Stencils.{inference}
use Rattle.stencil_infer.specs.Internal.CodeIterations.{IsCodeOf}
use Rattle.stencil_infer.proofs.InferLemmas.{at_index, fits_slots, is_code, gives_visits, gives_entries, gives_lists}
use Rattle.stencil_infer.proofs.inference.infer.Goals as goal

pub count_iterations-visits-requires-clause-code : goal.count_iterations-visits-requires-clause-code
count_iterations-visits-requires-clause-code c =
    let at : slice_get c.args.c.now.comprehensions c.args.k ≡ Some c.index-comprehensions-k.result =
    at_index c.args.c.now.comprehensions c.comprehensions.result.now c.args.k c.index-comprehensions-k.result c.requires c.comprehensions.ensures c.index-comprehensions-k.is in
    fits_slots c.args.c.now c.args.k c.index-comprehensions-k.result c.is_checked.ensures.program at

pub gather_iterations-requires-clause-code : goal.gather_iterations-requires-clause-code
gather_iterations-requires-clause-code c =
    let at : slice_get c.args.c.now.comprehensions c.args.k ≡ Some c.index-comprehensions-k.result =
    at_index c.args.c.now.comprehensions c.comprehensions.result.now c.args.k c.index-comprehensions-k.result c.requires c.comprehensions.ensures c.index-comprehensions-k.is in
    fits_slots c.args.c.now c.args.k c.index-comprehensions-k.result c.is_checked.ensures.program at

pub returns-then-visits-cap : goal.returns-then-visits-cap
returns-then-visits-cap c = λ program comprehension is of.
    let at : slice_get c.args.c.now.comprehensions c.args.k ≡ Some c.index-comprehensions-k.result =
    at_index c.args.c.now.comprehensions c.comprehensions.result.now c.args.k c.index-comprehensions-k.result c.requires c.comprehensions.ensures c.index-comprehensions-k.is in
    let code : IsCodeOf c.args.m.now comprehension c.index-comprehensions-k.result =
    is_code c.args.m.now program c.args.c.now c.args.k c.index-comprehensions-k.result comprehension is at of in
    let counted = c.count_iterations-visits.ensures.visits comprehension code in
    subst (λ refused. Gives (inference c.args.m.now comprehension c.args.k) (Err refused)) (sym c.past_limit.ensures)
    (gives_visits c.args.m.now comprehension c.args.k (omega (arith, counted, c.if-visits-cap.true)))

pub returns-in-None : goal.returns-in-None
returns-in-None c = λ program comprehension is of.
    let at : slice_get c.args.c.now.comprehensions c.args.k ≡ Some c.index-comprehensions-k.result =
    at_index c.args.c.now.comprehensions c.comprehensions.result.now c.args.k c.index-comprehensions-k.result c.requires c.comprehensions.ensures c.index-comprehensions-k.is in
    let code : IsCodeOf c.args.m.now comprehension c.index-comprehensions-k.result =
    is_code c.args.m.now program c.args.c.now c.args.k c.index-comprehensions-k.result comprehension is at of in
    let counted = c.count_iterations-visits.ensures.visits comprehension code in
    subst (λ refused. Gives (inference c.args.m.now comprehension c.args.k) (Err refused)) (sym c.past_limit-in-None.ensures)
    (gives_entries c.args.m.now comprehension c.args.k (omega (arith, counted, c.if-visits-cap.false)) (sym c.in-None.is ∙ c.in_ok-gather_iterations.ensures comprehension code))

pub returns : goal.returns
returns c = λ program comprehension is of.
    let at : slice_get c.args.c.now.comprehensions c.args.k ≡ Some c.index-comprehensions-k.result =
    at_index c.args.c.now.comprehensions c.comprehensions.result.now c.args.k c.index-comprehensions-k.result c.requires c.comprehensions.ensures c.index-comprehensions-k.is in
    let code : IsCodeOf c.args.m.now comprehension c.index-comprehensions-k.result =
    is_code c.args.m.now program c.args.c.now c.args.k c.index-comprehensions-k.result comprehension is at of in
    let counted = c.count_iterations-visits.ensures.visits comprehension code in
    gives_lists c.args.m.now comprehension c.args.k c.in-Some.lists c.count_iterations-visits.result (omega (arith, counted, c.if-visits-cap.false))
    (omega (arith, counted, c.if-visits-cap.false)) (sym c.in-Some.is ∙ c.in_ok-gather_iterations.ensures comprehension code)
    ∙ ap Ok (sym c.new.ensures)
