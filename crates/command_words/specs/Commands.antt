-- The command line. This project's own.
use Rattle.std.specs.Prelude.{ℕ, ◌==◌, ◌&&◌, nat_le, if◌then◌else◌, Bool, false, not, List}
use Rattle.std.specs.Prelude.{[], ◌∷◌, ◌++◌, length, codes, Option, Some, None, find}
use Rattle.std.specs.List.{list_all}
use Rattle.std.specs.Char.{is_ascii_digit}
use Rattle.std.specs.Option.{option_map, option_and_then, option_or}
use Rattle.std.specs.Str.{bytes_eq}
use Rattle.std.specs.Str.Parse.{digits_value}
use Rattle.liszt_base.specs.Limits.{turn_limit, default_turns}
use Rattle.command_words.specs.declared.command.Command.{Command}
use Rattle.command_words.specs.declared.command.Mode.{Mode}
use Rattle.command_words.specs.declared.command.Mode.TheVariants.{Check, Stencil, Seq}
use Rattle.command_words.specs.declared.options.OptionName.{OptionName}
use Rattle.command_words.specs.declared.options.OptionName.TheVariants.{Workers, Ranks}
use Rattle.command_words.specs.declared.options.OptionName.TheVariants.{Parts, Turns}

-- OPTIONS, each with a value
abbrev pub option_word : OptionName → List ℕ
option_word Workers = codes "--workers"
option_word Ranks = codes "--ranks"
option_word Parts = codes "--parts"
option_word Turns = codes "--turns"

abbrev pub GivenOption : Type 0
GivenOption = OptionName × List ℕ

-- The rest of a word after a prefix, if the word starts with the prefix.
abbrev pub after_prefix : List ℕ → List ℕ → Option (List ℕ)
after_prefix [] word = Some word
after_prefix (b ∷ front) [] = None
after_prefix (b ∷ front) (c ∷ word) = if c == b then after_prefix front word else None

-- The option that the word is.
abbrev pub option_of : List ℕ → Option OptionName
option_of word =
    find (λ name. bytes_eq word (option_word name)) (Workers ∷ Ranks ∷ Parts ∷ Turns ∷ [])

-- The option and the value of a word `--NAME=VALUE`, where the value is not empty.
abbrev pub nonempty_value : List ℕ → Option (List ℕ)
nonempty_value [] = None
nonempty_value (b ∷ bytes) = Some (b ∷ bytes)

abbrev pub given_option : OptionName → List ℕ → Option GivenOption
given_option name word =
    option_map (λ value. (name, value))
    (option_and_then nonempty_value (after_prefix (option_word name ++ codes "=") word))

abbrev pub option_with_value : List ℕ → Option GivenOption
option_with_value word =
    option_or (given_option Workers word)
    (option_or (given_option Ranks word)
    (option_or (given_option Parts word) (given_option Turns word)))

-- The word is not empty and does not start with `-`.
abbrev pub is_name : List ℕ → Bool
is_name [] = false
is_name (b ∷ bytes) = not (b == 45)

-- WORDS are options with their values, and plain words, in their
-- order. The value of a word that is an option is the next word.
pub record SortedWords : Type 0 where
  pub options : List GivenOption
  pub plain : List (List ℕ)

abbrev pub with_option : GivenOption → SortedWords → SortedWords
with_option option sorted = record { options = option ∷ sorted.options; plain = sorted.plain }

abbrev pub with_plain : List ℕ → SortedWords → SortedWords
with_plain word sorted = record { options = sorted.options; plain = word ∷ sorted.plain }

-- The words with a first word that is an option, an option
-- with a value, a plain word, or no word of a command.
abbrev pub sorted_words_with : Option OptionName → Option GivenOption → List ℕ
    → (Option OptionName → Option SortedWords) → Option SortedWords
sorted_words_with (Some name) given word rest = rest (Some name)
sorted_words_with None (Some given) word rest = option_map (with_option given) (rest None)
sorted_words_with None None word rest =
    if is_name word then option_map (with_plain word) (rest None) else None

-- The words after an option whose value is the next word, or after none.
abbrev pub sorted_words_after : List (List ℕ) → Option OptionName → Option SortedWords
sorted_words_after [] None = Some (record { options = []; plain = [] })
sorted_words_after [] (Some name) = None
sorted_words_after (value ∷ words) (Some name) =
    if is_name value then option_map (with_option (name, value)) (sorted_words_after words None)
    else None
sorted_words_after (word ∷ words) None =
    sorted_words_with (option_of word) (option_with_value word) word (sorted_words_after words)

-- NUMBERS: 1 to 10 digits, with a value within bounds
abbrev pub number_in : ℕ → ℕ → List ℕ → Option ℕ
number_in least most word =
    if nat_le 1 (length word) && nat_le (length word) 10 && list_all is_ascii_digit word
    && nat_le least (digits_value 10 word)
    && nat_le (digits_value 10 word) most
    then Some (digits_value 10 word)
    else None

-- COMMANDS. Each has a mode and the names of three files: `check PROGRAM NODE ELE` and `stencil PROGRAM NODE ELE`,
-- without options, and `seq PROGRAM NODE ELE`, with the option `--turns` at most once.
pub record Invocation : Type 0 where
  pub mode : Mode
  pub program : List ℕ
  pub node : List ℕ
  pub ele : List ℕ

-- The command of the code as one of the definitions.
abbrev pub invocation : Command → Invocation
invocation c =
    record { mode = c.mode; program = c.program.now; node = c.node.now; ele = c.ele.now }

abbrev pub turns_in : List GivenOption → Option ℕ
turns_in [] = Some default_turns
turns_in ((Turns, value) ∷ []) = number_in 1 turn_limit value
turns_in options = None

abbrev pub without_options : Mode → List GivenOption → Option Mode
without_options mode [] = Some mode
without_options mode options = None

abbrev pub seq_in : List GivenOption → Option Mode
seq_in options = option_map (λ turns. Seq turns) (turns_in options)

-- The mode that the first plain word names, with the options of that mode.
abbrev pub mode_in : List ℕ → List GivenOption → Option Mode
mode_in word options =
    if bytes_eq word (codes "check") then without_options Check options
    else if bytes_eq word (codes "stencil") then without_options Stencil options
    else if bytes_eq word (codes "seq") then seq_in options
    else None

abbrev pub command_by : List (List ℕ) → List GivenOption → Option Invocation
command_by (word ∷ program ∷ node ∷ ele ∷ []) options =
    option_map (λ mode. record { mode = mode; program = program; node = node; ele = ele })
    (mode_in word options)
command_by plain options = None

abbrev pub command_in : SortedWords → Option Invocation
command_in sorted = command_by sorted.plain sorted.options

-- The command that the words name.
abbrev pub command_of : List (List ℕ) → Option Invocation
command_of words = option_and_then command_in (sorted_words_after words None)
