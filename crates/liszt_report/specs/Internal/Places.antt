-- The fields and scalars of a program in one order, fields first, and the next one that is accessed. This project's own.
use Rattle.std.specs.Prelude.{ℕ, ◌+◌, ◌-◌, ◌&&◌, nat_lt, nat_le, if◌then◌else◌, Option, Some, None, List, [], ◌∷◌}
use Rattle.resolved_code.specs.declared.accesses.AccessAt.{AccessAt}
use Rattle.phase_types.specs.Walk.{Subject, OfField, OfScalar}

-- the place of a field or scalar, where there are `fields` fields
abbrev pub place_of : ℕ → Subject → ℕ
place_of fields (OfField number) = number
place_of fields (OfScalar number) = fields + number

abbrev pub subject_at : ℕ → ℕ → Subject
subject_at fields place = if nat_lt place fields then OfField place else OfScalar (place - fields)

-- the lesser of two places, if the first is not below `from`
abbrev pub nearer : ℕ → ℕ → ℕ → ℕ
nearer from least place = if nat_le from place && nat_lt place least then place else least

abbrev pub nearer_access : ℕ → ℕ → ℕ → Option AccessAt → ℕ
nearer_access fields from least None = least
nearer_access fields from least (Some access) = nearer from least (place_of fields access.subject)

-- the least place of an access from `from` on, if it is below `least`
abbrev pub next_place : ℕ → ℕ → ℕ → List AccessAt → ℕ
next_place fields from least [] = least
next_place fields from least (access ∷ rest) = next_place fields from (nearer from least (place_of fields access.subject)) rest
