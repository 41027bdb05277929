use Rattle.std.proofs.Common.{◌≡◌, ◌∙◌, ap, ap₂, codes, rules, true}
use Rattle.std.proofs.lemmas.Result.{IfOk-weaker}
use Rattle.clap.specs.Words.{app_of, new_rule, rule_of, with_rule}
use Rattle.clap.specs.Simple.{app_of_fields, on_top}
use Rattle.command_words.specs.Internal.Matches.{no_rules, turns_rule}
use Rattle.command_words.proofs.matched.grammar.Goals as goal

pub returns : goal.returns
returns c =
    let turns : rule_of c.long-turns.result ≡ turns_rule = search rules in
    let mode : rule_of c.new-3.result ≡ new_rule (codes "mode") = search rules in
    let program : rule_of c.new-4.result ≡ new_rule (codes "program") = search rules in
    let node : rule_of c.new-5.result ≡ new_rule (codes "node") = search rules in
    let ele : rule_of c.new-6.result ≡ new_rule (codes "ele") = search rules in
    let empty : app_of c.disable_help_flag.result ≡ no_rules =
    ap app_of_fields c.disable_help_flag.ensures ∙ ap (on_top (λ s. record s { disable_help_flag = true }))
    (ap app_of_fields c.no_binary_name.ensures ∙ ap (on_top (λ s. record s { no_binary_name = true })) c.new-2.ensures.app) in
    let four = c.in_ok-arg-4.ensures.shape (search rules) ∙ ap₂ with_rule (c.in_ok-arg-3.ensures.shape (search rules)
    ∙ ap₂ with_rule (c.in_ok-arg-2.ensures.shape (search rules) ∙ ap₂ with_rule (c.in_ok-arg.ensures.shape (search rules) ∙ ap₂ with_rule empty mode) program) node) ele in
    IfOk-weaker c.arg-5.result _ _ (λ command added. added.shape (search rules) ∙ ap₂ with_rule four turns) c.arg-5.ensures
