use Rattle.std.proofs.Common.{◌≡◌, ◌≤◌, [], ℕ, List, Bor, None, Some, length, sym, ap, ◌∙◌, rules, get_or, arith}
use Rattle.std.specs.Option.{option_map}
use Rattle.command_words.specs.Commands.{invocation, mode_in}
use Rattle.command_words.specs.Internal.CommandReading.{options_so_far, plain_so_far}
use Rattle.command_words.proofs.WordLemmas.{still_waits, too_few, four_words, with_mode}
use Rattle.command_words.proofs.command.WordsRead.command.Goals.{then-is_some-via-then-is_some, then-is_some-via-else-is_some+then-self-lt4}
use Rattle.command_words.proofs.command.WordsRead.command.Goals as goal

pub returns-then-is_some : goal.returns-then-is_some
returns-then-is_some c =
    let words_read = c.args.self in
    let four : length words_read.plain ≡ 4 = search rules in
    elim c.then-is_some.branch [
      | then-is_some-via-then-is_some w ↦ still_waits words_read.pending_option (options_so_far words_read) (plain_so_far words_read) (sym c.is_some.ensures ∙ w.if-is_some.true)
      | then-is_some-via-else-is_some+then-self-lt4 w ↦
          too_few words_read.pending_option (options_so_far words_read) words_read.plain words_read.count (sym c.is_some.ensures ∙ w.if-is_some.false) four w.if-self-lt4.true
    ]

pub returns-in_err-mode : goal.returns-in_err-mode
returns-in_err-mode c =
    let words_read = c.args.self in
    let four : length words_read.plain ≡ 4 = search rules in
    let d : Bor (List ℕ) = record { ref_ptr = (0, 0); now = [] } in
    let full : 4 ≤ words_read.count = omega arith in
    let is = four_words words_read.pending_option (options_so_far words_read) words_read.plain words_read.count d (sym c.is_some.ensures ∙ c.if-is_some.false) four full in
    let none : mode_in (get_or words_read.plain 0 d).now (options_so_far words_read) ≡ None = sym c.mode.ensures ∙ c.in_err-mode.was in
    ap (option_map invocation) c.from_residual.ensures
    ∙ sym (is ∙ ap (with_mode (get_or words_read.plain 1 d).now (get_or words_read.plain 2 d).now (get_or words_read.plain 3 d).now) none)

pub returns : goal.returns
returns c =
    let words_read = c.args.self in
    let four : length words_read.plain ≡ 4 = search rules in
    let d : Bor (List ℕ) = record { ref_ptr = (0, 0); now = [] } in
    let full : 4 ≤ words_read.count = omega arith in
    let is = four_words words_read.pending_option (options_so_far words_read) words_read.plain words_read.count d (sym c.is_some.ensures ∙ c.if-is_some.false) four full in
    let some : mode_in (get_or words_read.plain 0 d).now (options_so_far words_read) ≡ Some c.in_ok-mode.mode = sym c.mode.ensures ∙ c.in_ok-mode.was in
    sym (is ∙ ap (with_mode (get_or words_read.plain 1 d).now (get_or words_read.plain 2 d).now (get_or words_read.plain 3 d).now) some)
