-- The command line read from the left, word by word. Private functions' contracts cite it.
use Rattle.std.specs.Prelude.{ℕ, Option, Some, None, List, [], ◌∷◌, ◌++◌, map, take}
use Rattle.std.specs.Option.{option_map, option_and_then}
use Rattle.command_words.specs.declared.command.WordsRead.{WordsRead}
use Rattle.command_words.specs.declared.options.OptionName.{OptionName}
use Rattle.command_words.specs.declared.options.OptionName.TheVariants.{Turns}
use Rattle.command_words.specs.Commands.{GivenOption, SortedWords, Invocation}
use Rattle.command_words.specs.Commands.{sorted_words_after, command_in}

-- Options and plain words before those of a command line.
abbrev pub prepend_words : List GivenOption → List (List ℕ) → SortedWords → SortedWords
prepend_words options plain sorted =
    record { options = options ++ sorted.options; plain = plain ++ sorted.plain }

-- The command of words that follow these options and plain
-- words, and an option whose value is the next word, if any.
abbrev pub command_after : Option OptionName → List GivenOption → List (List ℕ) → List (List ℕ)
    → Option Invocation
command_after pending_option options plain words =
    option_and_then (λ sorted. command_in (prepend_words options plain sorted))
    (sorted_words_after words pending_option)

abbrev pub turns_options : Option (List ℕ) → List GivenOption
turns_options None = []
turns_options (Some value) = (Turns, value) ∷ []

abbrev pub options_so_far : WordsRead → List GivenOption
options_so_far words_read = turns_options (option_map (λ value. value.now) words_read.turns)

abbrev pub plain_so_far : WordsRead → List (List ℕ)
plain_so_far words_read = take words_read.count (map (λ word. word.now) words_read.plain)

abbrev pub remaining_command : WordsRead → List (List ℕ) → Option Invocation
remaining_command words_read words =
    command_after words_read.pending_option (options_so_far words_read) (plain_so_far words_read)
    words
