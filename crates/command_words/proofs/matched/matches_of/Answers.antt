use Rattle.std.proofs.Common.{◌∙◌, ap, map}
use Rattle.std.specs.String.{string_bytes}
use Rattle.std.proofs.lemmas.Result.{IfErr-weaker, IfOk-weaker}
use Rattle.clap.specs.Words.{found_of, is_simple, matches_of, takes}
use Rattle.command_words.specs.Commands.{command_of}
use Rattle.command_words.proofs.MatchEnd.{first_value_in, simple, words_pass}
use Rattle.command_words.proofs.matched.matches_of.Goals as goal

pub returns-clause-command : goal.returns-clause-command
returns-clause-command c command remaining_command =
    let words = map string_bytes c.as_slice.result.now in
    let is = c.in_ok-grammar.ensures in
    IfOk-weaker c.try_get_matches_from.result _ _
    (λ m h. first_value_in words command (found_of m) (ap command_of c.as_slice.ensures ∙ remaining_command) ((h (ap is_simple is ∙ simple)).0 ∙ ap (λ app. matches_of app words) is))
    c.try_get_matches_from.ensures.matches

pub returns-clause-out_of_memory : goal.returns-clause-out_of_memory
returns-clause-out_of_memory c command remaining_command =
    let words = map string_bytes c.as_slice.result.now in
    IfErr-weaker c.try_get_matches_from.result _ _
    (λ e h. h (ap (λ app. takes app words) c.in_ok-grammar.ensures ∙ words_pass words command (ap command_of c.as_slice.ensures ∙ remaining_command))) c.try_get_matches_from.ensures.passes
