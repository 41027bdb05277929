-- The command line as clap reads it: the grammar, and the
-- values that clap finds. Private functions' contracts cite it.
use Rattle.std.specs.Prelude.{ℕ, true, Option, Some, None, List, [], ◌∷◌, codes}
use Rattle.std.specs.Option.{option_and_then}
use Rattle.clap.specs.Words.{App, Rule, first_value, new_app, new_rule, with_rule}
use Rattle.clap.specs.Simple.{on_top}
use Rattle.clap.specs.declared.parser.matches.Found.{Found}
use Rattle.command_words.specs.Commands.{Invocation}
use Rattle.command_words.specs.Internal.CommandReading.{command_after, turns_options}

-- A command whose first word is not the name of a program, without `--help`.
abbrev pub no_rules : App
no_rules =
    on_top (λ s. record s { no_binary_name = true; disable_help_flag = true })
    (new_app (codes "liszt_run"))

abbrev pub turns_rule : Rule
turns_rule = record (new_rule (codes "turns")) { long = Some (codes "turns") }

-- Four plain words and one option.
abbrev pub command_app : App
command_app =
    with_rule (with_rule
    (with_rule (with_rule (with_rule no_rules (new_rule (codes "mode")))
    (new_rule (codes "program"))) (new_rule (codes "node"))) (new_rule (codes "ele"))) turns_rule

-- The command with the values of these names.
abbrev pub command_from : (List ℕ → Option (List ℕ)) → Option Invocation
command_from value =
    option_and_then (λ mode.
    option_and_then (λ program. option_and_then (λ node. option_and_then (λ ele.
    command_after None (turns_options (value (codes "turns"))) (mode ∷ program ∷ node ∷ ele ∷ [])
    []) (value (codes "ele"))) (value (codes "node")))
    (value (codes "program"))) (value (codes "mode"))

abbrev pub matched_command : Found → Option Invocation
matched_command found = command_from (first_value found)
