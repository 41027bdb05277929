-- clap's walk, a word at a time: a plain word, the option, its value, and both in one word.
use Rattle.std.proofs.Common.{◌≡◌, ◌+◌, ◌==◌, ◌&&◌, Bool, true, false, ℕ, List, [], ◌∷◌, ◌++◌, min, Some, None, refl, codes}
use Rattle.std.specs.Str.{bytes_eq}
use Rattle.clap.specs.Lexer.{long_of, short_of, usize_max}
use Rattle.clap.specs.Walk.{Held, Rule, Text, Walk, arg_by_id, arg_by_index, arg_by_long, is_pending, settled_rows, idle, option, used, walked}
use Rattle.clap.specs.Simple.{Shape}
use Rattle.clap.specs.Takes.{settle_passes, turn_passes, use_passes}
use Rattle.clap.proofs.SimpleLemmas.{is_false}
use Rattle.command_words.specs.Commands.{is_name}
use Rattle.command_words.proofs.MatchRows.{one_value}

abbrev pub between : Held → ℕ → Walk
between h position = record { held = h; waiting = idle; position = position; is_trailing = false; stopped = None }

-- after an option that waits for its value
abbrev pub behind : Text → Held → ℕ → Walk
behind id h position = record { held = h; waiting = option id; position = position; is_trailing = false; stopped = None }

abbrev pub turns_value : Rule
turns_value = one_value (codes "turns") (Some (codes "turns")) None

-- what waited is settled, and then these values of the argument wait, or its use is settled too
abbrev pub with_pending : List Rule → Text → List Text → Held → Held
with_pending c id values h = record { rows = settled_rows c h.pending h.rows; pending = Some (id, values); skip = h.skip }

abbrev pub with_used : List Rule → Rule → Text → Held → Held
with_used c a new h = record { rows = used a (new ∷ []) (settled_rows c h.pending h.rows); pending = None; skip = h.skip }

-- a name is no flag
no_flag : (word : Text) → is_name word ≡ true → (bytes_eq word (45 ∷ 45 ∷ []) ≡ false) × (long_of word ≡ None) × (short_of word ≡ None)
no_flag [] name = cc
no_flag (b ∷ bytes) name =
    let other : (b == 45) ≡ false = is_false (b == 45) name in
    (rw other refl, rw other refl, rw other refl)

never : (b : Bool) → (b && false) ≡ false
never true = refl
never false = refl

pub plain_step : (c : List Rule) (id word : Text) (position : ℕ) (h : Held) → arg_by_index c position ≡ Some (one_value id None (Some position))
    → is_name word ≡ true → walked c [] (between h position) word ≡ between (with_pending c id (word ∷ []) h) (min (position + 1) usize_max)
unfolding walked
plain_step c id word position h at name =
    let f = no_flag word name in
    rw (f.0, f.1, f.2, at, never (is_pending (one_value id None (Some position)) h.pending)) refl

pub plain_passes : (s : Shape) (id word : Text) (position : ℕ) (h : Held) → arg_by_index s.rules position ≡ Some (one_value id None (Some position))
    → is_name word ≡ true → settle_passes s.rules s.args_override_self h ≡ true → turn_passes s [] (between h position) word ≡ true
plain_passes s id word position h at name settles =
    let f = no_flag word name in
    rw (f.0, f.1, f.2, at, never (is_pending (one_value id None (Some position)) h.pending), settles) refl

pub option_step : (c : List Rule) (position : ℕ) (h : Held) → arg_by_long c (codes "turns") ≡ Some turns_value
    → walked c [] (between h position) (codes "--turns") ≡ behind (codes "turns") (with_pending c (codes "turns") [] h) position
unfolding walked
option_step c position h by = rw by refl

pub option_passes : (s : Shape) (position : ℕ) (h : Held) → arg_by_long s.rules (codes "turns") ≡ Some turns_value
    → settle_passes s.rules s.args_override_self h ≡ true → turn_passes s [] (between h position) (codes "--turns") ≡ true
option_passes s position h by settles = rw (by, settles) refl

pub value_step : (c : List Rule) (word : Text) (position : ℕ) (h : Held) → arg_by_id c (codes "turns") ≡ Some turns_value → is_name word ≡ true
    → h.pending ≡ Some (codes "turns", []) → walked c [] (behind (codes "turns") h position) word
    ≡ between (record { rows = h.rows; pending = Some (codes "turns", word ∷ []); skip = h.skip }) position
unfolding walked
value_step c word position h by name pending_option =
    let f = no_flag word name in
    rw (f.0, f.1, f.2, by, pending_option) refl

pub value_passes : (s : Shape) (word : Text) (position : ℕ) (h : Held) → is_name word ≡ true → turn_passes s [] (behind (codes "turns") h position) word ≡ true
value_passes s word position h name =
    let f = no_flag word name in
    rw (f.0, f.1, f.2) refl

pub joined_step : (c : List Rule) (new : Text) (position : ℕ) (h : Held) → arg_by_long c (codes "turns") ≡ Some turns_value
    → walked c [] (between h position) (codes "--turns=" ++ new) ≡ between (with_used c turns_value new h) position
unfolding walked
joined_step c new position h by = rw by refl

pub joined_passes : (s : Shape) (new : Text) (position : ℕ) (h : Held) → arg_by_long s.rules (codes "turns") ≡ Some turns_value
    → settle_passes s.rules s.args_override_self h ≡ true
    → use_passes s.args_override_self turns_value (new ∷ []) (settled_rows s.rules h.pending h.rows) ≡ true
    → turn_passes s [] (between h position) (codes "--turns=" ++ new) ≡ true
joined_passes s new position h by settles passes = rw (by, settles, passes) refl
