-- What clap has found so far: a row for each plain word and for the option, each with one value.
use Rattle.std.proofs.Common.{◌≡◌, ◌∙◌, ◌||◌, Bool, true, false, cond, ℕ, List, [], ◌∷◌, ◌++◌, Option, Some, None, is_some, refl, ap, subst, codes}
use Rattle.std.specs.Prelude.{find, option_map, slice_get}
use Rattle.std.specs.List.{list_any}
use Rattle.std.specs.Option.{option_or}
use Rattle.std.specs.Str.{bytes_eq}
use Rattle.std.proofs.lemmas.List.{append-nil}
use Rattle.std.proofs.lemmas.List.Folds.{find-append}
use Rattle.std.proofs.lemmas.Slice.Eq.{bytes_eq-Decides}
use Rattle.clap.specs.Walk.{Row, Rule, Text, at_row, has_row, more_values, used}
use Rattle.clap.specs.Values.{reading_of}
use Rattle.clap.specs.Simple.{new_rule}
use Rattle.clap.specs.Takes.{use_passes}
use Rattle.clap.specs.declared.builder.action.ArgAction.TheVariants.{Set}
use Rattle.clap.specs.declared.builder.value_parser.ValueParser.TheVariants as parser
use Rattle.clap.specs.declared.parser.matches.ValueSource.TheVariants.{CommandLine}

-- an argument of one value, as clap fills it in
abbrev pub one_value : Text → Option Text → Option ℕ → Rule
one_value id long index = record (new_rule id) {
  long = long;
  index = index;
  action = Some Set;
  parser = Some parser.String;
  range = Some (record { start_inclusive = 1; end_inclusive = 1 });
}

abbrev pub row : Text → Text → Row
row id value = record { id = id; values = value ∷ []; count = None; source = Some CommandLine; reading = reading_of parser.String }

abbrev pub row_by : Text → List Row → Option Row
row_by id = find (λ r. bytes_eq r.id id)

-- each value stands in a row of its own
abbrev pub Holds : (Text → Option Text) → List Row → Type 0
Holds value rows = (id : Text) → row_by id rows ≡ option_map (row id) (value id)

abbrev pub value_put : Text → Text → (Text → Option Text) → Text → Option Text
value_put id new value other = cond (bytes_eq id other) (Some new) (value other)

-- the values are these turns and plain words
abbrev pub Are : Option Text → List Text → (Text → Option Text) → Type 0
Are turns plain value = (value (codes "turns") ≡ turns) × (value (codes "mode") ≡ slice_get plain 0) × (value (codes "program") ≡ slice_get plain 1)
    × (value (codes "node") ≡ slice_get plain 2) × (value (codes "ele") ≡ slice_get plain 3)

match_some : {X : Type 0} (p : X → Bool) (xs : List X) → list_any p xs ≡ is_some (find p xs)
match_some p [] = refl
match_some p (x ∷ xs) = go (p x) (match_some p xs)
  where
    go : (b : Bool) → list_any p xs ≡ is_some (find p xs) → (b || list_any p xs) ≡ is_some (cond b (Some x) (find p xs))
    go true e = refl
    go false e = e

appended : (id : Text) (change : Row → List Row) (missing rows : List Row) → row_by id rows ≡ None → at_row id change missing rows ≡ rows ++ missing
appended id change missing [] none = refl
appended id change missing (r ∷ rows) none = go (bytes_eq r.id id) none (appended id change missing rows)
  where
    go : (b : Bool) → cond b (Some r) (row_by id rows) ≡ None → (row_by id rows ≡ None → at_row id change missing rows ≡ rows ++ missing)
        → cond b (change r ++ rows) (r ∷ at_row id change missing rows) ≡ r ∷ rows ++ missing
    go true none more = cc
    go false none more = ap (λ rs. r ∷ rs) (more none)

or_none : {X : Type 0} (o : Option X) → option_or o None ≡ o
or_none None = refl
or_none (Some x) = refl

pub holds_more : (id new : Text) (value : Text → Option Text) (rows : List Row) → value id ≡ None → Holds value rows
    → Holds (value_put id new value) (rows ++ row id new ∷ [])
holds_more id new value rows none h other = find-append (λ r. bytes_eq r.id other) rows (row id new ∷ []) ∙ go (bytes_eq id other) refl
  where
    go : (b : Bool) → bytes_eq id other ≡ b
        → option_or (row_by other rows) (cond b (Some (row id new)) None) ≡ option_map (row other) (cond b (Some new) (value other))
    go true e =
        let here : option_or (row_by id rows) (Some (row id new)) ≡ Some (row id new) =
        ap (λ o. option_or o (Some (row id new))) (h id ∙ ap (option_map (row id)) none) in
        subst (λ o. option_or (row_by o rows) (Some (row id new)) ≡ Some (row o new)) ((bytes_eq-Decides id other).0 e) here
    go false e = or_none (row_by other rows) ∙ h other

-- a use of an argument that has no row yet
pub used_once : (id new : Text) (long : Option Text) (index : Option ℕ) (rows : List Row) → row_by id rows ≡ None
    → used (one_value id long index) (new ∷ []) rows ≡ rows ++ row id new ∷ []
used_once id new long index rows none =
    ap (at_row id (more_values CommandLine (new ∷ [])) (row id new ∷ [])) (appended id (λ r. []) [] rows none ∙ append-nil rows)
    ∙ appended id (more_values CommandLine (new ∷ [])) (row id new ∷ []) rows none

pub passes_once : (again : Bool) (id new : Text) (long : Option Text) (index : Option ℕ) (rows : List Row) → row_by id rows ≡ None
    → use_passes again (one_value id long index) (new ∷ []) rows ≡ true
passes_once again id new long index rows none =
    let free : has_row id rows ≡ false = match_some (λ r. bytes_eq r.id id) rows ∙ ap is_some none in
    rw free refl
