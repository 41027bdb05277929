use Rattle.std.proofs.Common.{◌≡◌, ◌+◌, ◌∷◌, drop, map, sym, ap, ◌∙◌, None}
use Rattle.std.specs.Option.{option_map, option_and_then}
use Rattle.std.specs.String.{string_bytes}
use Rattle.command_words.specs.Commands.{invocation}
use Rattle.command_words.specs.Internal.CommandReading.{remaining_command}
use Rattle.command_words.proofs.WordLemmas.{word_at}
use Rattle.command_words.proofs.command.tested_command.Goals as goal

pub returns-in_err-words_read : goal.returns-in_err-words_read
returns-in_err-words_read c =
    let words = map string_bytes c.as_slice-word-items.result.now in
    let rest = drop (c.loop-word.word-index + 1) words in
    let item = c.as_str.ensures.value ∙ ap string_bytes c.word-item.is in
    let at : drop c.loop-word.word-index words ≡ c.as_str.result.now ∷ rest =
    word_at string_bytes c.as_slice-word-items.result.now c.loop-word.word-index c.word-item.result c.loop-word-test.true ∙ ap (λ word. word ∷ rest) (sym item) in
    let step : remaining_command c.loop-word.words_read (c.as_str.result.now ∷ rest) ≡ None =
    c.with.ensures rest ∙ ap (option_and_then (λ t. remaining_command t rest)) c.in_err-words_read.was in
    ap (option_map invocation) c.from_residual.ensures
    ∙ sym step ∙ ap (remaining_command c.loop-word.words_read) (sym at) ∙ c.loop-word.invariant

pub loop-word-preserved : goal.loop-word-preserved
loop-word-preserved c =
    let words = map string_bytes c.as_slice-word-items.result.now in
    let rest = drop (c.loop-word.word-index + 1) words in
    let item = c.as_str.ensures.value ∙ ap string_bytes c.word-item.is in
    let at : drop c.loop-word.word-index words ≡ c.as_str.result.now ∷ rest =
    word_at string_bytes c.as_slice-word-items.result.now c.loop-word.word-index c.word-item.result c.loop-word-test.true ∙ ap (λ word. word ∷ rest) (sym item) in
    let step : remaining_command c.loop-word.words_read (c.as_str.result.now ∷ rest) ≡ remaining_command c.in_ok-words_read.words_read rest =
    c.with.ensures rest ∙ ap (option_and_then (λ t. remaining_command t rest)) c.in_ok-words_read.was in
    sym step ∙ ap (remaining_command c.loop-word.words_read) (sym at) ∙ c.loop-word.invariant
