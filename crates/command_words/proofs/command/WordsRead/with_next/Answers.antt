use Rattle.std.proofs.Common.{◌∙◌, rules}
use Rattle.command_words.specs.Commands.{option_of, option_with_value, sorted_words_after}
use Rattle.command_words.specs.Internal.CommandReading.{options_so_far, plain_so_far}
use Rattle.command_words.proofs.WordLemmas.{plain_next}
use Rattle.command_words.proofs.command.WordsRead.with_next.Goals as goal

pub returns-then-is_name : goal.returns-then-is_name
returns-then-is_name c rest =
    let word = c.args.word.now in
    let next = plain_next (options_so_far c.args.self) (plain_so_far c.args.self) word (option_of word) (option_with_value word) (sorted_words_after rest)
    (search rules) (search rules) (search rules) in
    next ∙ c.with_plain.ensures rest
