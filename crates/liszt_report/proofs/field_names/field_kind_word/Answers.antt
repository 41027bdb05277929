use Rattle.std.proofs.Common.{arith, ap, sym, ◌∙◌}
use Rattle.std.specs.Option.{option_copied}
use Rattle.std.specs.Prelude.{Some, None, slice_get, ◌-◌}
use Rattle.liszt_report.specs.Endings.{kind_word}
use Rattle.liszt_report.proofs.FieldLemmas.{declared_word}
use Rattle.liszt_report.proofs.field_names.field_kind_word.Goals as goal

pub returns-in-Some-clause-word : goal.returns-in-Some-clause-word
returns-in-Some-clause-word c =
    let found = sym (ap option_copied c.in-Some.is) ∙ c.at.ensures ∙ ap (λ fields. slice_get fields (c.args.field - 6)) c.fields.ensures in
    c.kind_word-in-Some.ensures.word ∙ declared_word (λ info. kind_word info.kind) c.args.c.now.fields c.args.field (Some c.in-Some.info.now) _ _ _ _ _ _ (omega arith) found

pub returns-in-None-clause-word : goal.returns-in-None-clause-word
returns-in-None-clause-word c =
    let found = sym (ap option_copied c.in-None.is) ∙ c.at.ensures ∙ ap (λ fields. slice_get fields (c.args.field - 6)) c.fields.ensures in
    declared_word (λ info. kind_word info.kind) c.args.c.now.fields c.args.field None _ _ _ _ _ _ (omega arith) found
