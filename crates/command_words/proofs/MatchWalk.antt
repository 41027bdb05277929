-- clap's walk over the words of a command: it takes them, and finds what they name.
use Rattle.std.proofs.Common.{◌≡◌, ◌∙◌, ◌+◌, Bool, true, false, cond, ℕ, List, [], ◌∷◌, ◌++◌, length, suc, min, Option, Some, None, refl, sym, ap, subst, codes, arith}
use Rattle.std.specs.Prelude.{fold, option_map}
use Rattle.std.specs.Option.{option_and_then, option_or}
use Rattle.std.specs.Str.{bytes_eq}
use Rattle.std.proofs.lemmas.Slice.Eq.{bytes_eq-Decides}
use Rattle.clap.specs.Lexer.{usize_max}
use Rattle.clap.specs.Walk.{Held, Row, Text, Walk, arg_by_id, arg_by_index, arg_by_long, settled_rows, walked}
use Rattle.clap.specs.Simple.{Shape}
use Rattle.clap.specs.Takes.{settle_passes, turn_passes, walk_passes}
use Rattle.command_words.specs.declared.options.OptionName.{OptionName}
use Rattle.command_words.specs.declared.options.OptionName.TheVariants.{Workers, Ranks, Parts, Turns}
use Rattle.command_words.specs.Commands.{GivenOption, Invocation, SortedWords, after_prefix, command_by, command_in, option_with_value, is_name, nonempty_value, option_of, option_word, sorted_words_after, sorted_words_with, with_option, with_plain}
use Rattle.command_words.specs.Internal.CommandReading.{command_after, turns_options, prepend_words}
use Rattle.command_words.proofs.MatchRows.{Are, Holds, holds_more, one_value, passes_once, value_put, row, used_once}
use Rattle.command_words.proofs.MatchSteps.{behind, between, joined_passes, joined_step, option_passes, option_step, plain_passes, plain_step, turns_value, value_passes, value_step, with_pending, with_used}
use Rattle.command_words.proofs.WordPrefixes.{after_prefix_splits}
use Rattle.command_words.proofs.WordLemmas.{command_turns, no_command, plain_next, turns_only}

-- the positional of this id stands at this place
abbrev pub Serves : Shape → ℕ → Text → Type 0
Serves s position id = (arg_by_index s.rules position ≡ Some (one_value id None (Some position))) × (arg_by_id s.rules id ≡ Some (one_value id None (Some position)))

-- four positionals and one option
pub record Fits (s : Shape) : Type 0 where
  pub mode : Serves s 1 (codes "mode")
  pub program : Serves s 2 (codes "program")
  pub node : Serves s 3 (codes "node")
  pub ele : Serves s 4 (codes "ele")
  pub turns_long : arg_by_long s.rules (codes "turns") ≡ Some turns_value
  pub turns_id : arg_by_id s.rules (codes "turns") ≡ Some turns_value

-- what is held is these turns and plain words, the last of them perhaps pending
pub record Good (s : Shape) (turns : Option Text) (plain : List Text) (h : Held) : Type 0 where
  pub settles : settle_passes s.rules s.args_override_self h ≡ true
  pub values : Text → Option Text
  pub holds : Holds values (settled_rows s.rules h.pending h.rows)
  pub are : Are turns plain values

-- the option waits for its value after these plain words
pub record Waits (plain : List Text) (h : Held) : Type 0 where
  pub pending : h.pending ≡ Some (codes "turns", [])
  pub values : Text → Option Text
  pub holds : Holds values h.rows
  pub are : Are None plain values

abbrev pub Stands : Shape → Option OptionName → Option Text → List Text → Held → Type 0
Stands s None turns plain h = Good s turns plain h
Stands s (Some name) turns plain h = Waits plain h

abbrev pub standing : Option OptionName → Held → ℕ → Walk
standing None h position = between h position
standing (Some name) h position = behind (codes "turns") h position

-- the walk ends with the words of the command
pub record Ends (s : Shape) (h : Held) (command : Invocation) : Type 0 where
  pub turns : Option Text
  pub plain : List Text
  pub good : Good s turns plain h
  pub remaining_command : command_after None (turns_options turns) plain [] ≡ Some command

pub record Reads (s : Shape) (w : Walk) (words : List Text) (command : Invocation) : Type 0 where
  pub passes : walk_passes s [] w words ≡ true
  pub ends : Ends s (fold (walked s.rules []) w words).held command

-- words that name a command after what was taken so far are read
abbrev pub Takes : Shape → Invocation → List Text → Type 0
Takes s command words = (pending_option : Option OptionName) (turns : Option Text) (plain : List Text) (h : Held) → Stands s pending_option turns plain h
    → command_after pending_option (turns_options turns) plain words ≡ Some command → Reads s (standing pending_option h (suc (length plain))) words command

-- one word more
next : (s : Shape) (w v : Walk) (word : Text) (rest : List Text) (command : Invocation) → turn_passes s [] w word ≡ true
    → walked s.rules [] w word ≡ v → Reads s v rest command → Reads s w (word ∷ rest) command
unfolding walk_passes
next s w v word rest command turn step reads = record {
  passes = rw (turn, step) reads.passes;
  ends = subst (λ u. Ends s (fold (walked s.rules []) u rest).held command) (sym step) reads.ends;
}

-- a value that waits
good_pending : (s : Shape) (id new : Text) (long : Option Text) (index : Option ℕ) (turns : Option Text) (plain : List Text) (rows : List Row)
    (skip : ℕ) (values : Text → Option Text) → arg_by_id s.rules id ≡ Some (one_value id long index) → values id ≡ None → Holds values rows
    → Are turns plain (value_put id new values) → Good s turns plain (record { rows = rows; pending = Some (id, new ∷ []); skip = skip })
good_pending s id new long index turns plain rows skip values by none holds are =
    let free = holds id ∙ ap (option_map (row id)) none in
    record {
      settles = rw by (passes_once s.args_override_self id new long index rows free);
      values = value_put id new values;
      holds = rw (by, used_once id new long index rows free) (holds_more id new values rows none holds);
      are = are;
    }

-- the command of what was taken so far and of the words after it
abbrev command_with : Option Text → List Text → Option SortedWords → Option Invocation
command_with turns plain = option_and_then (λ sorted. command_in (prepend_words (turns_options turns) plain sorted))

-- an option is `--turns`, and no other stands before it
same_options : (turns : Option Text) (name : OptionName) (value : Text) (more : List GivenOption) → name ≡ Turns → turns ≡ None
    → turns_options turns ++ (name, value) ∷ more ≡ turns_options (Some value) ++ more
same_options turns name value more n t = rw (n, t) refl

turns_next : (name : OptionName) (turns : Option Text) (value : Text) (plain : List Text) (rest : Option SortedWords) (command : Invocation)
    → command_with turns plain (option_map (with_option (name, value)) rest) ≡ Some command
    → (name ≡ Turns) × (turns ≡ None) × (command_with (Some value) plain rest ≡ Some command)
turns_next name turns value plain None command e = cc
turns_next name turns value plain (Some sorted) command e =
    let only = turns_only turns name value sorted.options (command_turns (plain ++ sorted.plain) (turns_options turns ++ (name, value) ∷ sorted.options) command e) in
    (only.0, only.1, ap (λ options. command_by (plain ++ sorted.plain) options) (sym (same_options turns name value sorted.options only.0 only.1)) ∙ e)

turns_wait : (name : OptionName) (turns : Option Text) (plain : List Text) (rest : List Text) (command : Invocation)
    → command_after (Some name) (turns_options turns) plain rest ≡ Some command → (name ≡ Turns) × (turns ≡ None)
turns_wait name turns plain [] command e = cc
turns_wait name turns plain (value ∷ rest) command e = go (is_name value) e
  where
    go : (b : Bool) → command_with turns plain (cond b (option_map (with_option (name, value)) (sorted_words_after rest None)) None) ≡ Some command
        → (name ≡ Turns) × (turns ≡ None)
    go true e =
        let n = turns_next name turns value plain (sorted_words_after rest None) command e in
        (n.0, n.1)
    go false e = cc

-- the word that is `--turns`, and the word that gives it
turns_word : (word : Text) → option_of word ≡ Some Turns → word ≡ codes "--turns"
turns_word word e = go (bytes_eq word (option_word Workers)) (bytes_eq word (option_word Ranks)) (bytes_eq word (option_word Parts)) (bytes_eq word (option_word Turns)) refl e
  where
    go : (a b d t : Bool) → bytes_eq word (option_word Turns) ≡ t
        → cond a (Some Workers) (cond b (Some Ranks) (cond d (Some Parts) (cond t (Some Turns) None))) ≡ Some Turns → word ≡ codes "--turns"
    go true b d t is e = cc
    go false true d t is e = cc
    go false false true t is e = cc
    go false false false true is e = (bytes_eq-Decides word (option_word Turns)).0 is
    go false false false false is e = cc

abbrev given : OptionName → Option Text → Option GivenOption
given name = option_map (λ value. (name, value))

same_given : (name : OptionName) (x value : Text) → given name (Some x) ≡ given Turns (Some value) → (name ≡ Turns) × (x ≡ value)
same_given name x value e =
    let pair : ◌≡◌ {A = GivenOption} (name, x) (Turns, value) = cc in
    (ap (λ (g : GivenOption). g.0) pair, ap (λ (g : GivenOption). g.1) pair)

options_turns : (a b d t : Option Text) (value : Text)
    → option_or (given Workers a) (option_or (given Ranks b) (option_or (given Parts d) (given Turns t))) ≡ given Turns (Some value) → t ≡ Some value
options_turns (Some x) b d t value e = cc ((same_given Workers x value e).0)
options_turns None (Some x) d t value e = cc ((same_given Ranks x value e).0)
options_turns None None (Some x) t value e = cc ((same_given Parts x value e).0)
options_turns None None None (Some x) value e = ap Some (same_given Turns x value e).1
options_turns None None None None value e = cc

filled : (o : Option Text) (value : Text) → option_and_then nonempty_value o ≡ Some value → o ≡ Some value
filled None value e = cc
filled (Some []) value e = cc
filled (Some (b ∷ bytes)) value e = e

joined_word : (word value : Text) → option_with_value word ≡ Some (Turns, value) → word ≡ codes "--turns=" ++ value
joined_word word value e =
    let o : OptionName → Option Text = λ name. option_and_then nonempty_value (after_prefix (option_word name ++ codes "=") word) in
    after_prefix_splits (codes "--turns=") word value (filled (after_prefix (codes "--turns=") word) value (options_turns (o Workers) (o Ranks) (o Parts) (o Turns) value e))

-- five plain words are too many
too_many : (a b d e f : Text) (plain : List Text) (turns : Option Text) (rest : Option SortedWords) (command : Invocation)
    → command_with turns (a ∷ b ∷ d ∷ e ∷ f ∷ plain) rest ≡ Some command → ⊥
too_many a b d e f plain turns None command is = cc
too_many a b d e f plain turns (Some sorted) command is =
    let none = no_command (a ∷ b ∷ d ∷ e ∷ f ∷ plain ++ sorted.plain) (turns_options turns ++ sorted.options) (λ four. absurd (omega arith)) in
    let bad : None ≡ Some command = sym none ∙ is in
    cc

module _ (s : Shape) (fits : Fits s) (command : Invocation) where
  takes_option : (word : Text) (rest : List Text) (name : OptionName) (turns : Option Text) (plain : List Text) (h : Held) → Takes s command rest
      → Good s turns plain h → option_of word ≡ Some name → command_after (Some name) (turns_options turns) plain rest ≡ Some command
      → Reads s (between h (suc (length plain))) (word ∷ rest) command
  takes_option word rest name turns plain h more good is e =
      let only = turns_wait name turns plain rest command e in
      let position = suc (length plain) in
      let now = with_pending s.rules (codes "turns") [] h in
      let are : Are None plain good.values = subst (λ t. Are t plain good.values) only.1 good.are in
      subst (λ w. Reads s (between h position) (w ∷ rest) command) (sym (turns_word word (is ∙ ap Some only.0)))
      (next s (between h position) (behind (codes "turns") now position) (codes "--turns") rest command
      (option_passes s position h fits.turns_long good.settles) (option_step s.rules position h fits.turns_long)
      (more (Some name) turns plain now (record { pending = refl; values = good.values; holds = good.holds; are = are }) e))

  takes_value : (word : Text) (rest : List Text) (name : OptionName) (turns : Option Text) (plain : List Text) (h : Held) → Takes s command rest
      → Waits plain h → command_after (Some name) (turns_options turns) plain (word ∷ rest) ≡ Some command
      → Reads s (behind (codes "turns") h (suc (length plain))) (word ∷ rest) command
  takes_value word rest name turns plain h more pending_option e = go (is_name word) refl e
    where
      go : (b : Bool) → is_name word ≡ b
          → command_with turns plain (cond b (option_map (with_option (name, word)) (sorted_words_after rest None)) None) ≡ Some command
          → Reads s (behind (codes "turns") h (suc (length plain))) (word ∷ rest) command
      go false is e = cc
      go true is e =
          let position = suc (length plain) in
          let now : Held = record { rows = h.rows; pending = Some (codes "turns", word ∷ []); skip = h.skip } in
          let are = pending_option.are in
          let good = good_pending s (codes "turns") word (Some (codes "turns")) None (Some word) plain h.rows h.skip pending_option.values fits.turns_id are.0 pending_option.holds
          (refl, are.1, are.2, are.3, are.4) in
          next s (behind (codes "turns") h position) (between now position) word rest command (value_passes s word position h is)
          (value_step s.rules word position h fits.turns_id is pending_option.pending)
          (more None (Some word) plain now good (turns_next name turns word plain (sorted_words_after rest None) command e).2)

  takes_joined : (word value : Text) (rest : List Text) (name : OptionName) (turns : Option Text) (plain : List Text) (h : Held) → Takes s command rest
      → Good s turns plain h → option_with_value word ≡ Some (name, value)
      → command_with turns plain (option_map (with_option (name, value)) (sorted_words_after rest None)) ≡ Some command
      → Reads s (between h (suc (length plain))) (word ∷ rest) command
  takes_joined word value rest name turns plain h more good is e =
      let only = turns_next name turns value plain (sorted_words_after rest None) command e in
      let position = suc (length plain) in
      let rows = settled_rows s.rules h.pending h.rows in
      let are = good.are in
      let none = are.0 ∙ only.1 in
      let free = good.holds (codes "turns") ∙ ap (option_map (row (codes "turns"))) none in
      let now = with_used s.rules turns_value value h in
      let good' : Good s (Some value) plain now = record {
        settles = refl;
        values = value_put (codes "turns") value good.values;
        holds = rw (used_once (codes "turns") value (Some (codes "turns")) None rows free) (holds_more (codes "turns") value good.values rows none good.holds);
        are = (refl, are.1, are.2, are.3, are.4);
      } in
      subst (λ w. Reads s (between h position) (w ∷ rest) command) (sym (joined_word word value (is ∙ ap (λ n. Some (n, value)) only.0)))
      (next s (between h position) (between now position) (codes "--turns=" ++ value) rest command
      (joined_passes s value position h fits.turns_long good.settles (passes_once s.args_override_self (codes "turns") value (Some (codes "turns")) None rows free))
      (joined_step s.rules value position h fits.turns_long) (more None (Some value) plain now good' only.2))

  -- a plain word at its place
  placed : (id word : Text) (rest : List Text) (position : ℕ) (turns : Option Text) (before plain : List Text) (h : Held) → Takes s command rest
      → Serves s position id → is_name word ≡ true → (good : Good s turns before h) → good.values id ≡ None → Are turns plain (value_put id word good.values)
      → min (position + 1) usize_max ≡ suc (length plain) → command_after None (turns_options turns) plain rest ≡ Some command
      → Reads s (between h position) (word ∷ rest) command
  placed id word rest position turns before plain h more serves name good none are follows e =
      let now = with_pending s.rules id (word ∷ []) h in
      let good' = good_pending s id word None (Some position) turns plain (settled_rows s.rules h.pending h.rows) h.skip good.values serves.1 none good.holds are in
      next s (between h position) (between now (suc (length plain))) word rest command (plain_passes s id word position h serves.0 name good.settles)
      (plain_step s.rules id word position h serves.0 name ∙ ap (between now) follows) (more None turns plain now good' e)

  takes_plain : (word : Text) (rest : List Text) (turns : Option Text) (plain : List Text) (h : Held) → Takes s command rest → Good s turns plain h
      → is_name word ≡ true → command_after None (turns_options turns) (plain ++ word ∷ []) rest ≡ Some command
      → Reads s (between h (suc (length plain))) (word ∷ rest) command
  takes_plain word rest turns [] h more good name e =
      let are = good.are in
      placed (codes "mode") word rest 1 turns [] (word ∷ []) h more fits.mode name good are.1 (are.0, refl, are.2, are.3, are.4) refl e
  takes_plain word rest turns (a ∷ []) h more good name e =
      let are = good.are in
      placed (codes "program") word rest 2 turns (a ∷ []) (a ∷ word ∷ []) h more fits.program name good are.2 (are.0, are.1, refl, are.3, are.4) refl e
  takes_plain word rest turns (a ∷ b ∷ []) h more good name e =
      let are = good.are in
      placed (codes "node") word rest 3 turns (a ∷ b ∷ []) (a ∷ b ∷ word ∷ []) h more fits.node name good are.3 (are.0, are.1, are.2, refl, are.4) refl e
  takes_plain word rest turns (a ∷ b ∷ d ∷ []) h more good name e =
      let are = good.are in
      placed (codes "ele") word rest 4 turns (a ∷ b ∷ d ∷ []) (a ∷ b ∷ d ∷ word ∷ []) h more fits.ele name good are.4 (are.0, are.1, are.2, are.3, refl) refl e
  takes_plain word rest turns (a ∷ b ∷ d ∷ f ∷ []) h more good name e = absurd (too_many a b d f word [] turns (sorted_words_after rest None) command e)
  takes_plain word rest turns (a ∷ b ∷ d ∷ f ∷ g ∷ plain) h more good name e =
      absurd (too_many a b d f g (plain ++ word ∷ []) turns (sorted_words_after rest None) command e)

  takes_word : (word : Text) (rest : List Text) (turns : Option Text) (plain : List Text) (h : Held) (o : Option OptionName) (g : Option GivenOption)
      → Takes s command rest → Good s turns plain h → option_of word ≡ o → option_with_value word ≡ g
      → command_with turns plain (sorted_words_with o g word (sorted_words_after rest)) ≡ Some command
      → Reads s (between h (suc (length plain))) (word ∷ rest) command
  takes_word word rest turns plain h (Some name) g more good is given e = takes_option word rest name turns plain h more good is e
  takes_word word rest turns plain h None (Some g) more good is given e = takes_joined word g.1 rest g.0 turns plain h more good given e
  takes_word word rest turns plain h None None more good is given e = go (is_name word) refl e
    where
      go : (b : Bool) → is_name word ≡ b → command_with turns plain (cond b (option_map (with_plain word) (sorted_words_after rest None)) None) ≡ Some command
          → Reads s (between h (suc (length plain))) (word ∷ rest) command
      go false name e = cc
      go true name e =
          takes_plain word rest turns plain h more good name (sym (plain_next (turns_options turns) plain word None None (sorted_words_after rest) refl refl name) ∙ rw name e)

  pub takes_words : (words : List Text) → Takes s command words
  unfolding walk_passes
  takes_words [] None turns plain h good e = record { passes = refl; ends = record { turns = turns; plain = plain; good = good; remaining_command = e } }
  takes_words [] (Some name) turns plain h pending_option e = cc
  takes_words (word ∷ rest) None turns plain h good e = takes_word word rest turns plain h (option_of word) (option_with_value word) (takes_words rest) good refl refl e
  takes_words (word ∷ rest) (Some name) turns plain h pending_option e = takes_value word rest name turns plain h (takes_words rest) pending_option e
