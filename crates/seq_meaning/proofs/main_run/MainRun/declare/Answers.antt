use Rattle.std.proofs.Common.{rules, ap, sym, ◌∙◌, subst, Err, Ok, Some}
use Rattle.std.proofs.lemmas.Int.{to_z-of_z}
use mir.Val.{SFits}
use mir.Syntax.{w64}
use Rattle.std.proofs.lemmas.Result.{err_from_is_err_and}
use Rattle.seq_meaning.specs.Internal.RunSteps.{HasDone}
use Rattle.seq_meaning.specs.MainValues.{main_number}
use Rattle.seq_meaning.specs.declared.main_run.MainStep.TheVariants.{Declare}
use Rattle.seq_meaning.proofs.MainItemLemmas.{field_means, field_traps, field_done}
use Rattle.seq_meaning.proofs.main_run.MainRun.declare.Goals as goal

pub number-requires : goal.number-requires
number-requires c = λ none. field_means c.args.self.now c.args.level c.args.items.now c.args.next c.args.field c.args.init.now c.requires (ap (λ scalars. main_number scalars c.args.init.now) (sym c.as_slice.ensures) ∙ none)

pub returns-in_err-value : goal.returns-in_err-value
returns-in_err-value c =
    let p = err_from_is_err_and c.from_residual.result c.from_residual.ensures.1 in
    subst (λ result. HasDone c.args.level c.args.items.now c.args.next result c.args.self.now c.args.self.now) (sym (p.1 ∙ ap Err p.2))
    (field_traps c.args.self.now c.args.level c.args.items.now c.args.next c.args.field c.args.init.now c.requires _ (ap (λ scalars. main_number scalars c.args.init.now) (sym c.as_slice.ensures) ∙ sym c.in_err-value.ensures))

pub returns : goal.returns
returns c =
    let fits : SFits w64 c.in_ok-value.value = search rules in
    let done = field_done c.args.self.now c.args.level c.args.items.now c.args.next c.args.field c.args.init.now c.requires c.in_ok-value.value (ap (λ scalars. main_number scalars c.args.init.now) (sym c.as_slice.ensures) ∙ sym c.in_ok-value.ensures) in
    rw (to_z-of_z w64 c.in_ok-value.value fits) (subst (HasDone c.args.level c.args.items.now c.args.next (Ok (Some (Declare c.args.field c.in_ok-value.value))) c.args.self.now) (sym c.move_on.ensures) done)
