use Rattle.std.proofs.Common.{rules, ◌≡◌, get_or, pos, slice_set, ap, sym, ◌∙◌, subst, Err, Ok, None}
use Rattle.std.proofs.lemmas.Int.{to_z-of_z}
use mir.Val.{SFits}
use mir.Syntax.{w64}
use Rattle.std.proofs.lemmas.Result.{err_from_is_err_and}
use Rattle.code_eval.specs.Arithmetic.{assigned_value}
use Rattle.seq_meaning.specs.MainRuns.{MainRun}
use Rattle.seq_meaning.specs.Internal.RunSteps.{HasDone}
use Rattle.seq_meaning.specs.MainValues.{main_number}
use Rattle.seq_meaning.proofs.MainItemLemmas.{assign_means, assign_traps, assign_is_below, assign_done}
use Rattle.seq_meaning.proofs.main_run.MainRun.assign_value.Goals as goal

pub number-requires : goal.number-requires
number-requires c = λ none. assign_means c.args.self.now c.args.level c.args.items.now c.args.next c.args.scalar c.args.how c.args.value.now c.requires (ap (λ scalars. main_number scalars c.args.value.now) (sym c.as_slice.ensures) ∙ none)

pub returns-in_err-n : goal.returns-in_err-n
returns-in_err-n c =
    let p = err_from_is_err_and c.from_residual.result c.from_residual.ensures.1 in
    subst (λ result. HasDone c.args.level c.args.items.now c.args.next result c.args.self.now c.args.self.now) (sym (p.1 ∙ ap Err p.2))
    (assign_traps c.args.self.now c.args.level c.args.items.now c.args.next c.args.scalar c.args.how c.args.value.now c.requires _ (ap (λ scalars. main_number scalars c.args.value.now) (sym c.as_slice.ensures) ∙ sym c.in_err-n.ensures))

pub assign-requires : goal.assign-requires
assign-requires c = assign_is_below c.args.self.now c.args.level c.args.items.now c.args.next c.args.scalar c.args.how c.args.value.now c.requires c.in_ok-n.n (ap (λ scalars. main_number scalars c.args.value.now) (sym c.as_slice.ensures) ∙ sym c.in_ok-n.ensures)

pub returns : goal.returns
returns c =
    let n : SFits w64 c.in_ok-n.n = search rules in
    let old : SFits w64 c.scalar_at-old.result = search rules in
    let new : SFits w64 c.assigned.result = search rules in
    let value : c.assigned.result ≡ assigned_value c.args.how (get_or c.args.self.now.scalars c.args.scalar (pos 0)) c.in_ok-n.n =
    (rw (to_z-of_z w64 c.in_ok-n.n n, to_z-of_z w64 c.scalar_at-old.result old) at c.assigned.ensures)
    ∙ ap (λ old. assigned_value c.args.how old c.in_ok-n.n) (c.scalar_at-old.ensures ∙ ap (λ scalars. get_or scalars c.args.scalar (pos 0)) c.as_slice-2.ensures) in
    let after = rw (to_z-of_z w64 c.assigned.result new, value) at c.assign.ensures in
    subst (HasDone c.args.level c.args.items.now c.args.next (Ok None) c.args.self.now) (sym (c.move_on.ensures ∙ ap (λ (r : MainRun). record r { frames = slice_set r.frames c.args.level c.args.next }) after))
    (assign_done c.args.self.now c.args.level c.args.items.now c.args.next c.args.scalar c.args.how c.args.value.now c.requires c.in_ok-n.n (ap (λ scalars. main_number scalars c.args.value.now) (sym c.as_slice.ensures) ∙ sym c.in_ok-n.ensures))
