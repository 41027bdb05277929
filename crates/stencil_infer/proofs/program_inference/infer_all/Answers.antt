use Rattle.std.proofs.Common.{[], ◌∷◌, ◌+◌, Err, length, sym, ap, subst, ◌∙◌, arith}
use Rattle.std.proofs.lemmas.Result.{err_from_is_err_and}
use Rattle.std.proofs.lemmas.List.{length-append}
use Rattle.stencil_infer.proofs.ProgramInferenceLemmas.{GivesAll, IsInferred, gives_all, gives_fault, gives_kept, one_more, room_left}
use Rattle.stencil_infer.proofs.program_inference.infer_all.Goals as goal

pub returns-in_err-stencils-clause-inferred : goal.returns-in_err-stencils-clause-inferred
returns-in_err-stencils-clause-inferred c =
    let p = err_from_is_err_and c.from_residual.result c.from_residual.ensures.1 in
    subst (GivesAll c.args.m.now c.args.c.now) (sym (p.1 ∙ ap Err p.2))
    (gives_fault c.args.m.now c.args.c.now c.loop-k.k c.loop-k.room c.loop-k.all c.loop-k.invariant.inferred (omega (arith, c.loop-k-test.true, c.comps-k-end.ensures))
    c.in_err-stencils.field-0.0 c.in_err-stencils.ensures)

pub returns-in_default-clause-inferred : goal.returns-in_default-clause-inferred
returns-in_default-clause-inferred c =
    subst (λ refused. GivesAll c.args.m.now c.args.c.now (Err refused)) (sym c.past_limit.ensures)
    (gives_kept c.args.m.now c.args.c.now c.loop-k.k c.loop-k.room c.loop-k.all c.loop-k.invariant.inferred (omega (arith, c.loop-k-test.true, c.comps-k-end.ensures))
    c.in_ok-stencils.stencils c.in_ok-stencils.ensures c.loop-k.invariant.within
    (c.in_default.ensures ∙ ap (λ lists. room_left lists c.loop-k.room) c.lists.ensures))

pub loop-k-preserved : goal.loop-k-preserved
loop-k-preserved c =
    let next = one_more c.args.m.now c.args.c.now c.loop-k.k c.loop-k.room c.loop-k.all c.loop-k.invariant.inferred
    (omega (arith, c.loop-k-test.true, c.comps-k-end.ensures)) c.in_ok-stencils.stencils c.in_ok-stencils.ensures c.loop-k.invariant.within c.in-Some.left
    (c.in-Some.ensures ∙ ap (λ lists. room_left lists c.loop-k.room) c.lists.ensures) in
    record {
      inferred = subst (IsInferred c.args.m.now c.args.c.now (c.loop-k.k + 1) c.in-Some.left) (sym c.in_ok-push.ensures.ok) next.1;
      within = next.0;
      one_each = ap (λ all. length all) c.in_ok-push.ensures.ok ∙ length-append c.loop-k.all (c.in_ok-stencils.stencils ∷ []) ∙ ap (λ n. n + 1) c.loop-k.invariant.one_each;
    }

pub returns-clause-inferred : goal.returns-clause-inferred
returns-clause-inferred c =
    gives_all c.args.m.now c.args.c.now c.loop-k.k c.loop-k.room c.loop-k.all c.loop-k.invariant.inferred (omega (arith, c.loop-k-test.false, c.comps-k-end.ensures))
