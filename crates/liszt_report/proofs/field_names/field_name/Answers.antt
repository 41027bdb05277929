use Rattle.std.proofs.Common.{arith, ap, sym, ◌∙◌}
use Rattle.std.specs.Option.{option_copied}
use Rattle.std.specs.Prelude.{Some, None, slice_get, ◌-◌}
use Rattle.liszt_report.proofs.FieldLemmas.{declared_word}
use Rattle.liszt_report.proofs.field_names.field_name.Goals as goal

pub returns-in-Some : goal.returns-in-Some
returns-in-Some c =
    let found = sym (ap option_copied c.in-Some.is) ∙ c.at.ensures ∙ ap (λ fields. slice_get fields (c.args.field - 6)) c.fields.ensures in
    c.as_slice.ensures ∙ declared_word (λ info. info.name) c.args.c.now.fields c.args.field (Some c.in-Some.info.now) _ _ _ _ _ _ (omega arith) found

pub returns-in-None : goal.returns-in-None
returns-in-None c =
    let found = sym (ap option_copied c.in-None.is) ∙ c.at.ensures ∙ ap (λ fields. slice_get fields (c.args.field - 6)) c.fields.ensures in
    declared_word (λ info. info.name) c.args.c.now.fields c.args.field None _ _ _ _ _ _ (omega arith) found
