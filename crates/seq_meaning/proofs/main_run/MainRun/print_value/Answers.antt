use Rattle.std.proofs.Common.{rules, slice_set, ap, sym, ◌∙◌, subst, Err, Ok, None}
use Rattle.std.proofs.lemmas.Int.{to_z-of_z}
use mir.Val.{SFits}
use mir.Syntax.{w64}
use Rattle.std.proofs.lemmas.Result.{err_from_is_err_and}
use Rattle.liszt_base.specs.declared.answers.TrapKind.TheVariants.{Prints}
use Rattle.seq_meaning.specs.MainRuns.{MainRun}
use Rattle.seq_meaning.specs.Internal.RunSteps.{HasDone}
use Rattle.seq_meaning.specs.MainValues.{main_trap, main_number}
use Rattle.seq_meaning.proofs.MainItemLemmas.{print_means, print_traps, prints_end, print_done}
use Rattle.seq_meaning.proofs.main_run.MainRun.print_value.Goals as goal

pub number-requires : goal.number-requires
number-requires c = λ none. print_means c.args.self.now c.args.level c.args.items.now c.args.next c.args.place c.args.value.now c.requires (ap (λ scalars. main_number scalars c.args.value.now) (sym c.as_slice.ensures) ∙ none)

pub returns-in_err-n : goal.returns-in_err-n
returns-in_err-n c =
    let p = err_from_is_err_and c.from_residual.result c.from_residual.ensures.1 in
    subst (λ result. HasDone c.args.level c.args.items.now c.args.next result c.args.self.now c.args.self.now) (sym (p.1 ∙ ap Err p.2))
    (print_traps c.args.self.now c.args.level c.args.items.now c.args.next c.args.place c.args.value.now c.requires _ (ap (λ scalars. main_number scalars c.args.value.now) (sym c.as_slice.ensures) ∙ sym c.in_err-n.ensures))

pub returns-in_err-print : goal.returns-in_err-print
returns-in_err-print c =
    let n : SFits w64 c.in_ok-n.n = search rules in
    let p = err_from_is_err_and c.from_residual-in_err-print.result c.from_residual-in_err-print.ensures.1 in
    subst (λ result. HasDone c.args.level c.args.items.now c.args.next result c.args.self.now c.print.new.self) (sym (p.1 ∙ ap Err (p.2 ∙ c.in_err-print.ensures.1)))
    (subst (HasDone c.args.level c.args.items.now c.args.next (Err (main_trap Prints c.args.place)) c.args.self.now) (sym c.in_err-print.ensures.2)
    (prints_end c.args.self.now c.args.level c.args.items.now c.args.next c.args.place c.args.value.now c.requires c.in_ok-n.n (ap (λ scalars. main_number scalars c.args.value.now) (sym c.as_slice.ensures) ∙ sym c.in_ok-n.ensures) c.in_err-print.ensures.0))

pub returns : goal.returns
returns c =
    let n : SFits w64 c.in_ok-n.n = search rules in
    let after = rw (to_z-of_z w64 c.in_ok-n.n n) at c.in_ok-print.ensures.1 in
    subst (HasDone c.args.level c.args.items.now c.args.next (Ok None) c.args.self.now) (sym (c.move_on.ensures ∙ ap (λ (r : MainRun). record r { frames = slice_set r.frames c.args.level c.args.next }) after))
    (print_done c.args.self.now c.args.level c.args.items.now c.args.next c.args.place c.args.value.now c.requires c.in_ok-n.n (ap (λ scalars. main_number scalars c.args.value.now) (sym c.as_slice.ensures) ∙ sym c.in_ok-n.ensures) c.in_ok-print.ensures.0)
