-- What clap finds in the words of a command, and that it takes them.
use Rattle.std.proofs.Common.{◌≡◌, ◌≢◌, ◌∙◌, Bool, true, false, List, [], ◌∷◌, length, Option, Some, None, refl, sym, ap, codes}
use Rattle.std.specs.Prelude.{fold, if◌then◌else◌, option_map, slice_get}
use Rattle.std.specs.List.{list_all}
use Rattle.std.specs.Option.{option_and_then}
use Rattle.clap.specs.Walk.{Row, Rule, Text, first_of, has_row, is_empty, nothing_held, rows_of, settled, walk, walk_from, with_default}
use Rattle.clap.specs.Matches.{first_value}
use Rattle.clap.specs.Simple.{Shape, built, is_simple, matches_of}
use Rattle.clap.specs.Takes.{level_passes, takes}
use Rattle.clap.specs.declared.parser.matches.Found.{Found}
use Rattle.clap.proofs.SimpleLemmas.{is_nil}
use Rattle.clap.proofs.TakesLemmas.{leaf_takes}
use Rattle.clap.proofs.WalkLemmas.{both, first_value-rows}
use Rattle.command_words.specs.Commands.{Invocation, command_of}
use Rattle.command_words.specs.Internal.CommandReading.{command_after, turns_options}
use Rattle.command_words.specs.Internal.Matches.{command_from, matched_command, command_app}
use Rattle.command_words.proofs.MatchRows.{Are, Holds, row}
use Rattle.command_words.proofs.MatchWalk.{Fits, Reads, takes_words}
use Rattle.command_words.proofs.WordLemmas.{no_command, no_more}

abbrev shape : Shape
shape = (built command_app).top

-- no argument has a default
with_same : (b : Bool) (rows : List Row) → (if b then rows else rows) ≡ rows
with_same true rows = refl
with_same false rows = refl

no_defaults : (c : List Rule) (rows : List Row) → list_all (λ a. is_empty a.defaults) c ≡ true → fold with_default rows c ≡ rows
no_defaults [] rows none = refl
no_defaults (a ∷ c) rows none =
    let p = both (is_empty a.defaults) (list_all (λ a. is_empty a.defaults) c) none in
    let one : with_default rows a ≡ rows = rw (is_nil a.defaults p.0) (with_same (has_row a.id rows) rows) in
    ap (λ r. fold with_default r c) one ∙ no_defaults c rows p.1

first_is : (value : Text → Option Text) (rows : List Row) (id : Text) → Holds value rows → first_of id rows ≡ value id
first_is value rows id holds = ap (option_and_then (λ (r : Row). slice_get r.values 0)) (holds id) ∙ go (value id)
  where
    go : (o : Option Text) → option_and_then (λ (r : Row). slice_get r.values 0) (option_map (row id) o) ≡ o
    go None = refl
    go (Some x) = refl

-- the values are those of the command
short : (turns : Option Text) (plain : List Text) (command : Invocation) → length plain ≢ 4 → command_after None (turns_options turns) plain [] ≡ Some command → ⊥
short turns plain command other remaining_command =
    let bad : None ≡ Some command = sym (no_more (turns_options turns) plain ∙ no_command plain (turns_options turns) other) ∙ remaining_command in
    cc

by_values : (turns : Option Text) (plain : List Text) (value : Text → Option Text) (command : Invocation) → Are turns plain value
    → command_after None (turns_options turns) plain [] ≡ Some command → command_from value ≡ Some command
by_values turns (a ∷ b ∷ d ∷ e ∷ []) value command are remaining_command = rw (are.1, are.2, are.3, are.4, are.0) remaining_command
by_values turns [] value command are remaining_command = absurd (short turns [] command (λ is. cc) remaining_command)
by_values turns (a ∷ []) value command are remaining_command = absurd (short turns (a ∷ []) command (λ is. cc) remaining_command)
by_values turns (a ∷ b ∷ []) value command are remaining_command = absurd (short turns (a ∷ b ∷ []) command (λ is. cc) remaining_command)
by_values turns (a ∷ b ∷ d ∷ []) value command are remaining_command = absurd (short turns (a ∷ b ∷ d ∷ []) command (λ is. cc) remaining_command)
by_values turns (a ∷ b ∷ d ∷ e ∷ f ∷ plain) value command are remaining_command = absurd (short turns (a ∷ b ∷ d ∷ e ∷ f ∷ plain) command (λ is. cc) remaining_command)

fits : Fits shape
fits = record { mode = (refl, refl); program = (refl, refl); node = (refl, refl); ele = (refl, refl); turns_long = refl; turns_id = refl }

reads : (words : List Text) (command : Invocation) → command_of words ≡ Some command → Reads shape (walk_from nothing_held) words command
reads words command remaining_command =
    takes_words shape fits command words None None [] nothing_held
    (record { settles = refl; values = λ id. None; holds = λ id. refl; are = (refl, refl, refl, refl, refl) }) remaining_command

pub simple : is_simple command_app ≡ true
simple = refl

pub words_pass : (words : List Text) (command : Invocation) → command_of words ≡ Some command → takes command_app words ≡ true
words_pass words command remaining_command =
    let read = reads words command remaining_command in
    let level : level_passes shape [] nothing_held words false ≡ true = rw (read.passes, read.ends.good.settles) refl in
    leaf_takes (built command_app) nothing_held words refl level

pub first_value_in : (words : List Text) (command : Invocation) (found : Found) → command_of words ≡ Some command → rows_of found ≡ matches_of command_app words
    → matched_command found ≡ Some command
first_value_in words command found remaining_command is =
    let ends = (reads words command remaining_command).ends in
    let good = ends.good in
    let rows = (settled shape.rules (walk shape.rules [] nothing_held words).held).rows in
    let all : rows_of found ≡ rows = is ∙ no_defaults shape.rules rows refl in
    let at : (id : Text) → first_value found id ≡ good.values id =
    λ id. first_value-rows found id ∙ ap (first_of id) all ∙ first_is good.values rows id good.holds in
    let are = good.are in
    by_values ends.turns ends.plain (first_value found) command
    (at (codes "turns") ∙ are.0, at (codes "mode") ∙ are.1, at (codes "program") ∙ are.2, at (codes "node") ∙ are.3, at (codes "ele") ∙ are.4) ends.remaining_command
