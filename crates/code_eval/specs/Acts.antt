-- Acts on the fields, and what they do to the value at a spot. This project's own.
use Rattle.std.specs.Prelude.{◌==◌, ◌&&◌, ◌||◌, Bool, true, false, if◌then◌else◌, List, [], ◌∷◌, ℤ}
use Rattle.liszt_base.specs.Reductions.{fold}
use Rattle.liszt_base.specs.declared.accesses.Mode.{Mode}
use Rattle.liszt_base.specs.declared.accesses.Mode.TheVariants.{Read, Write, Reduce}
use Rattle.liszt_base.specs.declared.accesses.Spot.{Spot}

-- AN ACT reads, writes or reduces a spot, with the value that is read, written, or the operand of the reduction.
pub record Act : Type 0 where
  pub spot : Spot
  pub mode : Mode
  pub value : ℤ

abbrev pub is_spot : Spot → Spot → Bool
is_spot a b = (a.field == b.field) && (a.id == b.id)

-- THE VALUE AFTER ACTS at one spot: a write replaces it, a reduction folds it, and a read changes nothing.
abbrev pub value_by : Mode → ℤ → ℤ → ℤ
value_by Read value old = old
value_by Write value old = value
value_by (Reduce op) value old = fold op old value

abbrev pub value_after_act : Act → Spot → ℤ → ℤ
value_after_act act spot old = if is_spot act.spot spot then value_by act.mode act.value old else old

abbrev pub value_after : List Act → Spot → ℤ → ℤ
value_after [] spot old = old
value_after (act ∷ rest) spot old = value_after rest spot (value_after_act act spot old)

-- whether acts write or reduce a spot
abbrev pub changes_value : Mode → Bool
changes_value Read = false
changes_value _ = true

abbrev pub is_changed : List Act → Spot → Bool
is_changed [] spot = false
is_changed (act ∷ rest) spot = (is_spot act.spot spot && changes_value act.mode) || is_changed rest spot
