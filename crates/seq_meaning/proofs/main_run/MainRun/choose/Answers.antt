use Rattle.std.proofs.Common.{◌≡◌, suc, slice_set, ap, sym, ◌∙◌, subst, Err, Ok, Some, None, true, false}
use Rattle.std.proofs.lemmas.Result.{err_from_is_err_and}
use Rattle.seq_meaning.specs.MainRuns.{Frame}
use Rattle.seq_meaning.specs.Internal.RunSteps.{HasDone}
use Rattle.seq_meaning.specs.MainValues.{main_truth}
use Rattle.seq_meaning.specs.declared.main_run.MainStep.TheVariants.{Enter}
use Rattle.seq_meaning.proofs.MainItemLemmas.{if_means, if_traps, if_has_room, first_done, second_done, neither_done}
use Rattle.seq_meaning.proofs.main_run.MainRun.choose.Goals as goal

pub truth-requires : goal.truth-requires
truth-requires c = λ none. if_means c.args.self.now c.args.level c.args.items.now c.args.next c.args.test.now c.args.first.now c.args.second.now c.requires (ap (λ scalars. main_truth scalars c.args.test.now) (sym c.as_slice.ensures) ∙ none)

pub returns-in_err-truth : goal.returns-in_err-truth
returns-in_err-truth c =
    let p = err_from_is_err_and c.from_residual.result c.from_residual.ensures.1 in
    subst (λ result. HasDone c.args.level c.args.items.now c.args.next result c.args.self.now c.args.self.now) (sym (p.1 ∙ ap Err p.2))
    (if_traps c.args.self.now c.args.level c.args.items.now c.args.next c.args.test.now c.args.first.now c.args.second.now c.requires _ (ap (λ scalars. main_truth scalars c.args.test.now) (sym c.as_slice.ensures) ∙ sym c.in_err-truth.ensures))

pub enter-requires : goal.enter-requires
enter-requires c = if_has_room c.args.self.now c.args.level c.args.items.now c.args.next c.args.test.now c.args.first.now c.args.second.now c.requires

pub returns-then-branch : goal.returns-then-branch
returns-then-branch c =
    let same : c.frame-frame.result ≡ c.requires.frame = cc (c.requires.at, c.frame-frame.ensures) in
    subst (HasDone c.args.level c.args.items.now c.args.next (Ok (Some (Enter c.args.first.now.scope))) c.args.self.now) (sym (c.enter.ensures ∙ ap (λ (frame : Frame). record c.args.self.now { frames = slice_set (slice_set c.args.self.now.frames c.args.level (record { index = frame.index; after_else = false })) (suc c.args.level) (record { index = 0; after_else = false }); depth = suc (suc c.args.level) }) same))
    (first_done c.args.self.now c.args.level c.args.items.now c.args.next c.args.test.now c.args.first.now c.args.second.now c.requires (ap (λ scalars. main_truth scalars c.args.test.now) (sym c.as_slice.ensures) ∙ sym c.in_ok-truth.ensures ∙ ap Ok c.if-branch.true))

pub enter-requires-in-Some : goal.enter-requires-in-Some
enter-requires-in-Some c = if_has_room c.args.self.now c.args.level c.args.items.now c.args.next c.args.test.now c.args.first.now c.args.second.now c.requires

pub returns-in-Some : goal.returns-in-Some
returns-in-Some c =
    let same : c.frame-frame.result ≡ c.requires.frame = cc (c.requires.at, c.frame-frame.ensures) in
    subst (HasDone c.args.level c.args.items.now c.args.next (Ok (Some (Enter c.in-Some.block.scope))) c.args.self.now) (sym (c.enter-in-Some.ensures ∙ ap (λ (frame : Frame). record c.args.self.now { frames = slice_set (slice_set c.args.self.now.frames c.args.level (record { index = frame.index; after_else = true })) (suc c.args.level) (record { index = 0; after_else = false }); depth = suc (suc c.args.level) }) same))
    (second_done c.args.self.now c.args.level c.args.items.now c.args.next c.args.test.now c.args.first.now c.args.second.now c.requires c.in-Some.block c.in-Some.is (ap (λ scalars. main_truth scalars c.args.test.now) (sym c.as_slice.ensures) ∙ sym c.in_ok-truth.ensures ∙ ap Ok c.if-branch.false))

pub returns-in-None : goal.returns-in-None
returns-in-None c =
    subst (HasDone c.args.level c.args.items.now c.args.next (Ok None) c.args.self.now) (sym c.move_on.ensures)
    (neither_done c.args.self.now c.args.level c.args.items.now c.args.next c.args.test.now c.args.first.now c.args.second.now c.requires c.in-None.is (ap (λ scalars. main_truth scalars c.args.test.now) (sym c.as_slice.ensures) ∙ sym c.in_ok-truth.ensures ∙ ap Ok c.if-branch.false))
