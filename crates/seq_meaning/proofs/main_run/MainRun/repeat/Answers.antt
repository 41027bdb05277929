use Rattle.std.proofs.Common.{◌≡◌, ◌<◌, suc, length, slice_set, ap, sym, ◌∙◌, subst, Err, Ok, Some, None, false}
use Rattle.std.proofs.lemmas.Result.{err_from_is_err_and}
use Rattle.liszt_base.specs.declared.answers.TrapKind.TheVariants.{Spent}
use Rattle.seq_meaning.specs.MainRuns.{Frame, MainRun}
use Rattle.seq_meaning.specs.Internal.RunSteps.{HasDone}
use Rattle.seq_meaning.specs.MainValues.{main_trap, main_truth}
use Rattle.seq_meaning.specs.declared.main_run.MainStep.TheVariants.{Enter}
use Rattle.seq_meaning.proofs.MainItemLemmas.{while_means, while_traps, while_has_room, ended_done, spent_done, turn_done}
use Rattle.seq_meaning.proofs.main_run.MainRun.repeat.Goals as goal

pub truth-requires : goal.truth-requires
truth-requires c = λ none. while_means c.args.self.now c.args.level c.args.items.now c.args.next c.args.place c.args.test.now c.args.body.now c.requires (ap (λ scalars. main_truth scalars c.args.test.now) (sym c.as_slice.ensures) ∙ none)

pub returns-in_err-truth : goal.returns-in_err-truth
returns-in_err-truth c =
    let p = err_from_is_err_and c.from_residual.result c.from_residual.ensures.1 in
    subst (λ result. HasDone c.args.level c.args.items.now c.args.next result c.args.self.now c.args.self.now) (sym (p.1 ∙ ap Err p.2))
    (while_traps c.args.self.now c.args.level c.args.items.now c.args.next c.args.place c.args.test.now c.args.body.now c.requires _ (ap (λ scalars. main_truth scalars c.args.test.now) (sym c.as_slice.ensures) ∙ sym c.in_err-truth.ensures))

pub returns-then-not-branch : goal.returns-then-not-branch
returns-then-not-branch c =
    subst (HasDone c.args.level c.args.items.now c.args.next (Ok None) c.args.self.now) (sym c.move_on.ensures) (ended_done c.args.self.now c.args.level c.args.items.now c.args.next c.args.place c.args.test.now c.args.body.now c.requires (ap (λ scalars. main_truth scalars c.args.test.now) (sym c.as_slice.ensures) ∙ sym c.in_ok-truth.ensures ∙ ap Ok c.if-not-branch.true))

pub returns-in_err-take_turn : goal.returns-in_err-take_turn
returns-in_err-take_turn c =
    let p = err_from_is_err_and c.from_residual-in_err-take_turn.result c.from_residual-in_err-take_turn.ensures.1 in
    subst (λ result. HasDone c.args.level c.args.items.now c.args.next result c.args.self.now c.take_turn.new.self) (sym (p.1 ∙ ap Err (p.2 ∙ c.in_err-take_turn.ensures.1)))
    (subst (HasDone c.args.level c.args.items.now c.args.next (Err (main_trap Spent c.args.place)) c.args.self.now) (sym c.in_err-take_turn.ensures.2)
    (spent_done c.args.self.now c.args.level c.args.items.now c.args.next c.args.place c.args.test.now c.args.body.now c.requires (ap (λ scalars. main_truth scalars c.args.test.now) (sym c.as_slice.ensures) ∙ sym c.in_ok-truth.ensures ∙ ap Ok c.if-not-branch.false) c.in_err-take_turn.ensures.0))

pub enter-requires : goal.enter-requires
enter-requires c =
    subst (λ frames. suc c.args.level < length frames) (sym (ap (λ (r : MainRun). r.frames) c.in_ok-take_turn.ensures.1)) (while_has_room c.args.self.now c.args.level c.args.items.now c.args.next c.args.place c.args.test.now c.args.body.now c.requires)

pub returns : goal.returns
returns c =
    let same : c.frame-frame.result ≡ c.requires.frame = cc (c.requires.at, c.frame-frame.ensures) in
    subst (HasDone c.args.level c.args.items.now c.args.next (Ok (Some (Enter c.args.body.now.scope))) c.args.self.now)
    (sym (c.enter.ensures ∙ ap (λ (frame : Frame). record c.take_turn.new.self { frames = slice_set (slice_set c.take_turn.new.self.frames c.args.level (record { index = frame.index; after_else = false })) (suc c.args.level) (record { index = 0; after_else = false }); depth = suc (suc c.args.level) }) same
    ∙ ap (λ (r : MainRun). record r { frames = slice_set (slice_set r.frames c.args.level (record { index = c.requires.frame.index; after_else = false })) (suc c.args.level) (record { index = 0; after_else = false }); depth = suc (suc c.args.level) }) c.in_ok-take_turn.ensures.1))
    (turn_done c.args.self.now c.args.level c.args.items.now c.args.next c.args.place c.args.test.now c.args.body.now c.requires c.take_turn.new.self.turns c.in_ok-take_turn.ensures.0 (ap (λ scalars. main_truth scalars c.args.test.now) (sym c.as_slice.ensures) ∙ sym c.in_ok-truth.ensures ∙ ap Ok c.if-not-branch.false))
