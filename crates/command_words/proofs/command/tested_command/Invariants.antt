use Rattle.std.proofs.Common.{◌≡◌, drop, map}
use Rattle.std.specs.String.{string_bytes}
use Rattle.command_words.specs.Commands.{command_of}
use Rattle.command_words.specs.Internal.CommandReading.{remaining_command}
use Rattle.command_words.proofs.command.tested_command.Given as goal

abbrev pub invariant-loop-word : goal.invariant-loop-word
invariant-loop-word l = remaining_command l.words_read (drop l.word-index (map string_bytes l.word-items)) ≡ command_of l.words
