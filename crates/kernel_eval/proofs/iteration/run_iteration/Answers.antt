use Rattle.std.proofs.Common.{◌≡◌, get_or, refl, ap, ◌∙◌, Some, Ok, Err}
use Rattle.std.specs.Prelude.{slice_get}
use Rattle.liszt_base.specs.declared.answers.RunEnd.TheVariants.{Done as IsDone, Trap as IsTrap}
use Rattle.kernel_eval.proofs.RunningLemmas.{can_run, has_iterated, still_prepared}
use Rattle.kernel_eval.proofs.SlotCountLemmas.{found_at}
use Rattle.kernel_eval.proofs.iteration.run_iteration.Goals as goal

pub run_body-requires : goal.run_body-requires
run_body-requires g c =
    let is : slice_get c.args.c.now.comprehensions c.args.k ≡ Some c.index-comprehensions-k.result =
    found_at c.args.c.now.comprehensions c.args.k c.index-comprehensions-k.result c.requires.comprehension
    (c.index-comprehensions-k.is ∙ ap (λ xs. get_or xs c.args.k c.index-comprehensions-k.result) c.comprehensions.ensures) in
    rw (c.start.ensures, c.as_slice.ensures) (can_run c.args.c.now c.args.k c.index-comprehensions-k.result is c.args.m.now c.fits_together.ensures c.args.turns c.args.id c.args.l.now.activation (g.W.Words.store c.args.w.now) c.requires.prepared c.requires.can)

pub returns-in-Ok-clause-iterated : goal.returns-in-Ok-clause-iterated
returns-in-Ok-clause-iterated g c can =
    let is : slice_get c.args.c.now.comprehensions c.args.k ≡ Some c.index-comprehensions-k.result =
    found_at c.args.c.now.comprehensions c.args.k c.index-comprehensions-k.result c.requires.comprehension
    (c.index-comprehensions-k.is ∙ ap (λ xs. get_or xs c.args.k c.index-comprehensions-k.result) c.comprehensions.ensures) in
    let leads = rw (c.start.ensures, c.as_slice.ensures) at c.in-Ok.ensures in
    has_iterated c.args.c.now c.args.k c.index-comprehensions-k.result is c.args.m.now c.fits_together.ensures c.args.turns c.args.id c.args.l.now.activation (g.W.Words.store c.args.w.now) c.requires.prepared can c.run_body.new.a (g.W.Words.store c.run_body.new.w) (Ok (tt {0})) leads IsDone refl

pub returns-in-Ok-clause-prepared : goal.returns-in-Ok-clause-prepared
returns-in-Ok-clause-prepared g c =
    let is : slice_get c.args.c.now.comprehensions c.args.k ≡ Some c.index-comprehensions-k.result =
    found_at c.args.c.now.comprehensions c.args.k c.index-comprehensions-k.result c.requires.comprehension
    (c.index-comprehensions-k.is ∙ ap (λ xs. get_or xs c.args.k c.index-comprehensions-k.result) c.comprehensions.ensures) in
    let leads = rw (c.start.ensures, c.as_slice.ensures) at c.in-Ok.ensures in
    still_prepared c.args.c.now c.args.k c.index-comprehensions-k.result is c.args.m.now c.fits_together.ensures c.args.turns c.args.id c.args.l.now.activation (g.W.Words.store c.args.w.now) c.requires.prepared c.requires.can c.run_body.new.a (g.W.Words.store c.run_body.new.w) (Ok (tt {0})) leads

pub returns-in-Err-clause-iterated : goal.returns-in-Err-clause-iterated
returns-in-Err-clause-iterated g c can =
    let is : slice_get c.args.c.now.comprehensions c.args.k ≡ Some c.index-comprehensions-k.result =
    found_at c.args.c.now.comprehensions c.args.k c.index-comprehensions-k.result c.requires.comprehension
    (c.index-comprehensions-k.is ∙ ap (λ xs. get_or xs c.args.k c.index-comprehensions-k.result) c.comprehensions.ensures) in
    let leads = rw (c.start.ensures, c.as_slice.ensures) at c.in-Err.ensures in
    has_iterated c.args.c.now c.args.k c.index-comprehensions-k.result is c.args.m.now c.fits_together.ensures c.args.turns c.args.id c.args.l.now.activation (g.W.Words.store c.args.w.now) c.requires.prepared can c.run_body.new.a (g.W.Words.store c.run_body.new.w) (Err c.in-Err.field-0) leads (IsTrap c.run_body.new.a.trap) refl

pub returns-in-Err-clause-prepared : goal.returns-in-Err-clause-prepared
returns-in-Err-clause-prepared g c =
    let is : slice_get c.args.c.now.comprehensions c.args.k ≡ Some c.index-comprehensions-k.result =
    found_at c.args.c.now.comprehensions c.args.k c.index-comprehensions-k.result c.requires.comprehension
    (c.index-comprehensions-k.is ∙ ap (λ xs. get_or xs c.args.k c.index-comprehensions-k.result) c.comprehensions.ensures) in
    let leads = rw (c.start.ensures, c.as_slice.ensures) at c.in-Err.ensures in
    still_prepared c.args.c.now c.args.k c.index-comprehensions-k.result is c.args.m.now c.fits_together.ensures c.args.turns c.args.id c.args.l.now.activation (g.W.Words.store c.args.w.now) c.requires.prepared c.requires.can c.run_body.new.a (g.W.Words.store c.run_body.new.w) (Err c.in-Err.field-0) leads
