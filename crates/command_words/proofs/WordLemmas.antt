-- The words of a command line, taken one by one.
use Rattle.std.proofs.Common.{◌≡◌, ◌≢◌, ◌+◌, ◌≤◌, ◌<◌, ◌++◌, ◌∷◌, [], ℕ, List, Option, Some, None, Bool, true, false, length, take, drop, map, refl, ap, sym, ◌∙◌, Bor, set, get_or, suc, arith, codes, if◌then◌else◌}
use Rattle.std.specs.Option.{option_map, option_and_then, is_some}
use Rattle.std.specs.Str.{bytes_eq}
use Rattle.std.proofs.Math.Seq.{drop-cons}
use Rattle.std.proofs.lemmas.List.{map-set, take_more_set, append_assoc, append-nil, drop-map, length-map, length-take-le, take_all}
use Rattle.command_words.specs.declared.options.OptionName.{OptionName}
use Rattle.command_words.specs.declared.options.OptionName.TheVariants.{Workers, Ranks, Parts, Turns}
use Rattle.command_words.specs.declared.command.Mode.{Mode}
use Rattle.command_words.specs.declared.command.Mode.TheVariants.{Check, Stencil}
use Rattle.command_words.specs.Commands.{GivenOption, Invocation, SortedWords, sorted_words_with, command_by, command_in, mode_in, seq_in, without_options, is_name, with_plain}
use Rattle.command_words.specs.Internal.CommandReading.{prepend_words, command_after, turns_options}

pub word_at : {A : Type 0} (f : A → List ℕ) (items : List A) (i : ℕ) (d : A) → i < length items
    → drop i (map f items) ≡ f (get_or items i d) ∷ drop (i + 1) (map f items)
word_at f items i d more =
    let next : suc i ≡ i + 1 = omega arith in
    drop-map f i items ∙ ap (map f) (drop-cons items i d more) ∙ ap (λ rest. f (get_or items i d) ∷ rest) (sym (drop-map f (suc i) items) ∙ ap (λ j. drop j (map f items)) next)

pub plain_more : (plain : List (Bor (List ℕ))) (i : ℕ) (word : Bor (List ℕ)) → i < length plain
    → take (i + 1) (map (λ w. w.now) (set plain i word)) ≡ take i (map (λ w. w.now) plain) ++ word.now ∷ []
plain_more plain i word room =
    let all = length-map plain (λ w. w.now) in
    ap (take (i + 1)) (map-set (λ w. w.now) plain i word) ∙ take_more_set (map (λ w. w.now) plain) i word.now (omega (arith, all))

pub plain_next : (options : List GivenOption) (plain : List (List ℕ)) (word : List ℕ) (o : Option OptionName) (g : Option GivenOption)
    (rest : Option OptionName → Option SortedWords) → o ≡ None → g ≡ None → is_name word ≡ true
    → option_and_then (λ sorted. command_in (prepend_words options plain sorted)) (sorted_words_with o g word rest)
    ≡ option_and_then (λ sorted. command_in (prepend_words options (plain ++ word ∷ []) sorted)) (rest None)
plain_next options plain word (Some o) g rest is given name = absurd cc
plain_next options plain word None (Some g) rest is given name = absurd cc
plain_next options plain word None None rest is given name = rw name (go (rest None))
  where
    go : (r : Option SortedWords) → option_and_then (λ sorted. command_in (prepend_words options plain sorted)) (option_map (with_plain word) r)
        ≡ option_and_then (λ sorted. command_in (prepend_words options (plain ++ word ∷ []) sorted)) r
    go None = refl
    go (Some sorted) = ap (λ words. command_by words (options ++ sorted.options)) (sym (append_assoc plain (word ∷ []) sorted.plain))

-- where no more words follow
pub no_more : (options : List GivenOption) (plain : List (List ℕ)) → command_after None options plain [] ≡ command_by plain options
no_more options plain = rw (append-nil options, append-nil plain) refl

pub still_waits : (pending_option : Option OptionName) (options : List GivenOption) (plain : List (List ℕ)) → is_some pending_option ≡ true
    → None ≡ command_after pending_option options plain []
still_waits None options plain pending_option = absurd cc
still_waits (Some name) options plain pending_option = refl

-- other than four plain words are no command
pub no_command : (plain : List (List ℕ)) (options : List GivenOption) → length plain ≢ 4 → command_by plain options ≡ None
no_command [] options other = refl
no_command (a ∷ []) options other = refl
no_command (a ∷ b ∷ []) options other = refl
no_command (a ∷ b ∷ d ∷ []) options other = refl
no_command (a ∷ b ∷ d ∷ e ∷ []) options other = absurd (other refl)
no_command (a ∷ b ∷ d ∷ e ∷ f ∷ plain) options other = refl

pub too_few : (pending_option : Option OptionName) (options : List GivenOption) (plain : List (Bor (List ℕ))) (count : ℕ) → is_some pending_option ≡ false → length plain ≡ 4
    → count < 4 → None ≡ command_after pending_option options (take count (map (λ w. w.now) plain)) []
too_few (Some name) options plain count pending_option four few = absurd cc
too_few None options plain count pending_option four few =
    let texts = map {A = Bor (List ℕ)} {B = List ℕ} (λ w. w.now) plain in
    let all : length texts ≡ length plain = length-map plain (λ w. w.now) in
    let words_read : length (take count texts) ≡ count = length-take-le count texts (omega arith) in
    sym (no_more options (take count texts) ∙ no_command (take count texts) options (λ is. omega arith))

-- four plain words are a command where the first one and the options name a mode
abbrev pub with_mode : List ℕ → List ℕ → List ℕ → Option Mode → Option Invocation
with_mode program node ele = option_map (λ mode. record { mode = mode; program = program; node = node; ele = ele })

pub four_words : (pending_option : Option OptionName) (options : List GivenOption) (plain : List (Bor (List ℕ))) (count : ℕ) (d : Bor (List ℕ))
    → is_some pending_option ≡ false → length plain ≡ 4 → 4 ≤ count
    → command_after pending_option options (take count (map (λ w. w.now) plain)) []
    ≡ with_mode (get_or plain 1 d).now (get_or plain 2 d).now (get_or plain 3 d).now (mode_in (get_or plain 0 d).now options)
four_words (Some name) options plain count d none four full = absurd cc
four_words None options (mode ∷ program ∷ node ∷ ele ∷ []) count d none four full =
    no_more options (take count (mode.now ∷ program.now ∷ node.now ∷ ele.now ∷ []))
    ∙ ap (λ plain. command_by plain options) (take_all count (mode.now ∷ program.now ∷ node.now ∷ ele.now ∷ []) full)
four_words None options [] count d none four full = absurd (omega arith)
four_words None options (a ∷ []) count d none four full = absurd (omega arith)
four_words None options (a ∷ b ∷ []) count d none four full = absurd (omega arith)
four_words None options (a ∷ b ∷ e ∷ []) count d none four full = absurd (omega arith)
four_words None options (a ∷ b ∷ e ∷ f ∷ g ∷ plain) count d none four full = absurd (omega arith)

-- THE OPTIONS OF A COMMAND are `--turns` at most once.
abbrev pub AreTurns : List GivenOption → Type 0
AreTurns options = (turns : Option (List ℕ)) × (options ≡ turns_options turns)

no_turns : (of : Mode) (options : List GivenOption) (mode : Mode) → without_options of options ≡ Some mode → AreTurns options
no_turns of [] mode e = (None, refl)
no_turns of (g ∷ options) mode e = cc

seq_turns : (options : List GivenOption) (mode : Mode) → seq_in options ≡ Some mode → AreTurns options
seq_turns [] mode e = (None, refl)
seq_turns ((Turns, value) ∷ []) mode e = (Some value, refl)
seq_turns ((Turns, value) ∷ g ∷ options) mode e = cc
seq_turns ((Workers, value) ∷ options) mode e = cc
seq_turns ((Ranks, value) ∷ options) mode e = cc
seq_turns ((Parts, value) ∷ options) mode e = cc

mode_turns : (word : List ℕ) (options : List GivenOption) (mode : Mode) → mode_in word options ≡ Some mode → AreTurns options
mode_turns word options mode e = go (bytes_eq word (codes "check")) (bytes_eq word (codes "stencil")) (bytes_eq word (codes "seq")) e where
  go : (check stencil seq : Bool)
      → (if check then without_options Check options else if stencil then without_options Stencil options else if seq then seq_in options else None) ≡ Some mode → AreTurns options
  go true stencil seq e = no_turns Check options mode e
  go false true seq e = no_turns Stencil options mode e
  go false false true e = seq_turns options mode e
  go false false false e = cc

some_mode : (program node ele : List ℕ) (mode : Option Mode) (command : Invocation) → with_mode program node ele mode ≡ Some command
    → (m : Mode) × (mode ≡ Some m)
some_mode program node ele None command e = cc
some_mode program node ele (Some m) command e = (m, refl)

pub command_turns : (plain : List (List ℕ)) (options : List GivenOption) (command : Invocation) → command_by plain options ≡ Some command
    → AreTurns options
command_turns [] options command e = cc
command_turns (a ∷ []) options command e = cc
command_turns (a ∷ b ∷ []) options command e = cc
command_turns (a ∷ b ∷ d ∷ []) options command e = cc
command_turns (word ∷ program ∷ node ∷ ele ∷ []) options command e =
    let some = some_mode program node ele (mode_in word options) command e in
    mode_turns word options some.0 some.1
command_turns (a ∷ b ∷ d ∷ f ∷ g ∷ plain) options command e = cc

-- one more option is `--turns`, and the first one
only_turns : (name : OptionName) (value : List ℕ) (more : List GivenOption) (turns : Option (List ℕ)) → ◌≡◌ {A = List GivenOption} ((name, value) ∷ more) (turns_options turns)
    → name ≡ Turns
only_turns name value more None e = cc
only_turns name value more (Some other) e =
    let pair : ◌≡◌ {A = GivenOption} (name, value) (Turns, other) = cc in
    ap (λ (g : GivenOption). g.0) pair

pub turns_only : (turns : Option (List ℕ)) (name : OptionName) (value : List ℕ) (more : List GivenOption) → AreTurns (turns_options turns ++ (name, value) ∷ more)
    → (name ≡ Turns) × (turns ≡ None)
turns_only None name value more are = (only_turns name value more are.0 are.1, refl)
turns_only (Some first) name value more (None, e) = cc
turns_only (Some first) name value more (Some other, e) = cc
